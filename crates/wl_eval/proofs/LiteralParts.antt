-- Left sides without a pattern: what the loops over elements and flags have still to see, and a trial of one that isn't the subject.
use Rattle.std.proofs.Common.{◌≡◌, ◌↔◌, ◌<◌, ◌≤◌, ◌+◌, ℕ, IsTrue, Bool, true, false, ◌&&◌, List, [], ◌∷◌, length, map, drop, get_or, Option, None, Result, Ok, refl, ap, sym, ◌∙◌, subst}
use Rattle.std.specs.List.{list_all}
use Rattle.wl_expr.specs.Tree.{Tree}
use Rattle.wl_expr.specs.Same.{same}
use Rattle.wl_expr.specs.Stamped.{Stamped, plain, plains, from_list}
use Rattle.wl_expr.specs.Words.{Name}
use Rattle.wl_match.specs.declared.flags.Flags.{Flags}
use Rattle.wl_match.specs.Heads.{heads}
use Rattle.wl_match.specs.Literals.{is_free, all_free, literal, literals, leaves_if}
use Rattle.wl_match.specs.Pattern.{pattern}
use Rattle.wl_match.specs.Search.{Fail, Found}
use Rattle.wl_match.specs.Trials.{Trials}
use Rattle.wl_match.proofs.LentLemmas.{same_is}
use Rattle.wl_match.proofs.LiteralLemmas.{one_leaf}
use Rattle.wl_semantics.specs.Match.{walk, filling, flags_of, rule_result}
use Rattle.wl_semantics.specs.Prog.{done, tick, ◌>>=◌}
use Rattle.wl_state.specs.Played.{Plays, Played, found_tree}
use Rattle.wl_state.specs.declared.evaluator.Evaluator.{Evaluator}
use Rattle.wl_state.specs.declared.ends.Stop.{Stop}
use Rattle.wl_state.proofs.Bindings.{drop_item, all_dropped}
use Rattle.wl_state.proofs.Playing.{plays_bind, plays_done}
use Rattle.wl_state.proofs.Rows.{played_bind}
use Rattle.wl_state.proofs.Tables.{both_true}

pub literals_at : (xs : List Stamped) (i : ℕ) (x : Stamped) → i < length xs → x ≡ get_or xs i x → literals (plains (from_list (drop i xs))) ≡ (literal (plain x) && literals (plains (from_list (drop (i + 1) xs))))
literals_at xs i x l e = ap (λ ys. literals (plains (from_list ys))) (drop_item xs i x l e)

-- one that is no literal, and one more that is
pub not_literal : (xs : List Stamped) (i : ℕ) (x : Stamped) → i < length xs → x ≡ get_or xs i x → literal (plain x) ≡ false → literals (plains (from_list (drop i xs))) ≡ false
not_literal xs i x l e h = literals_at xs i x l e ∙ ap (λ b. b && literals (plains (from_list (drop (i + 1) xs)))) h

pub one_literal : (xs : List Stamped) (i : ℕ) (x : Stamped) → i < length xs → x ≡ get_or xs i x → literal (plain x) ≡ true → literals (plains (from_list (drop i xs))) ≡ literals (plains (from_list (drop (i + 1) xs)))
one_literal xs i x l e h = literals_at xs i x l e ∙ ap (λ b. b && literals (plains (from_list (drop (i + 1) xs)))) h

pub all_literal : (xs : List Stamped) (i : ℕ) → length xs ≤ i → literals (plains (from_list (drop i xs))) ≡ true
all_literal xs i h = ap (λ ys. literals (plains (from_list ys))) (all_dropped xs i h)

pub free_at : (fs : List Flags) (i : ℕ) (f : Flags) → i < length fs → f ≡ get_or fs i f → list_all is_free (drop i fs) ≡ (is_free f && list_all is_free (drop (i + 1) fs))
free_at fs i f l e = ap (list_all is_free) (drop_item fs i f l e)

pub not_free : (fs : List Flags) (i : ℕ) (f : Flags) → i < length fs → f ≡ get_or fs i f → is_free f ≡ false → list_all is_free (drop i fs) ≡ false
not_free fs i f l e h = free_at fs i f l e ∙ ap (λ b. b && list_all is_free (drop (i + 1) fs)) h

pub one_free : (fs : List Flags) (i : ℕ) (f : Flags) → i < length fs → f ≡ get_or fs i f → is_free f ≡ true → list_all is_free (drop i fs) ≡ list_all is_free (drop (i + 1) fs)
one_free fs i f l e h = free_at fs i f l e ∙ ap (λ b. b && list_all is_free (drop (i + 1) fs)) h

-- the flags of the heads, one after the other
pub free_named : (f : Name → Flags) (xs : List Name) → list_all is_free (map f xs) ≡ all_free f xs
free_named f [] = refl
free_named f (x ∷ xs) = ap (λ b. is_free (f x) && b) (free_named f xs)

-- what is known of a left side that matches nothing but itself, and isn't the subject: it has one leaf, which fails
pub record Missed (f : Name → Flags) (p t : Tree) (fs : List Flags) : Type 0 where
  pub itself : (list_all is_free fs && literal p) ≡ true
  pub flags : fs ≡ map f (heads p)
  pub other : same p t ≡ false

pub missed : (f : Name → Flags) (p t : Tree) (fs : List Flags) → Missed f p t fs → Trials (pattern f p) t ≡ Fail ∷ []
missed f p t fs m =
    let b = both_true (list_all is_free fs) (literal p) m.itself in
    one_leaf f p t b.1 (sym (free_named f (heads p)) ∙ ap (list_all is_free) (sym m.flags) ∙ b.0) ∙ ap (λ z. leaves_if z (Found [] ∷ [])) m.other

pub walk_missed : (b : Tree) → walk (filling b) (Fail ∷ []) ≡ (tick >>= λ _. done None)
unfolding walk
walk_missed b = refl

-- what the tests of a left side and of the subject say
pub missed_so : (f : Name → Flags) (p t : Tree) (fs : List Flags) (a b : Bool) → a ≡ (list_all is_free fs && literal p) → a ≡ true → (IsTrue b ↔ (p ≡ t)) → b ≡ false → fs ≡ map f (heads p) → Missed f p t fs
missed_so f p t fs a b e h s n q = record { itself = sym e ∙ h; flags = q; other = sym (same_is b p t s) ∙ n }

module _ (b p t : Tree) (fs : List Flags) (f : Name → Flags) {k k1 : Evaluator} (h : Plays (flags_of [] (heads p)) k (Ok f) k1 false) (m : Missed f p t fs) where
  walks : walk (filling b) (Trials (pattern f p) t) ≡ (tick >>= λ _. done None)
  walks = ap (walk (filling b)) (missed f p t fs m) ∙ walk_missed b

  pub rule_stopped : (r : Result (Option Stamped) Stop) (k2 : Evaluator) → Played found_tree (tick >>= λ _. done None) k1 r k2 → Played found_tree (rule_result (record { left = p; body = b }) t) k r k2
  rule_stopped r k2 q =
      played_bind found_tree (flags_of [] (heads p)) (λ g. walk (filling b) (Trials (pattern g p) t)) k k1 f r k2 h (subst (λ w. Played found_tree w k1 r k2) (sym walks) q)

  pub rule_missed : (k2 : Evaluator) → Plays tick k1 (Ok tt) k2 false → Played found_tree (rule_result (record { left = p; body = b }) t) k (Ok None) k2
  rule_missed k2 q = rule_stopped (Ok None) k2 (plays_bind tick (λ _. done None) q plays_done, tt)
