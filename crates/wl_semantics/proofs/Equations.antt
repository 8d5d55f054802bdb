-- What code cites of rows: their clauses by the number of elements, and one round of each loop.
use Rattle.std.proofs.Common.{◌≡◌, ◌≢◌, ℕ, suc, true, false, List, [], ◌∷◌, length, get_or, refl, ap, arith}
use Rattle.std.specs.Prelude.{Option, is_some}
use Rattle.wl_expr.specs.Tree.{Tree}
use Rattle.wl_expr.specs.Words.{null_symbol, elements}
use Rattle.wl_match.specs.Pattern.{pattern}
use Rattle.wl_match.specs.Trials.{Trials}
use Rattle.wl_match.specs.Heads.{heads}
use Rattle.wl_control.specs.Asks.{pass, eval_catching}
use Rattle.wl_control.specs.Loops.{loop_from, after_condition, part}
use Rattle.wl_semantics.specs.Prog.{done, ◌>>=◌, unchanged, result, tick, value_of_built}
use Rattle.wl_semantics.specs.Match.{flags_of, walk, holding, matches_within, guard_within, is_condition, condition_result, is_guarded, guard_by, scope}
use Rattle.wl_semantics.specs.MatchRows.{replace_all, replace_repeated}
use Rattle.wl_semantics.specs.Definitions.{set, set_row}
use Rattle.wl_rules.specs.Entries.{PlainRule}
use Rattle.wl_expr.specs.Same.{same}

-- ---- lists by their length

pub one_item : {A : Type 0} (es : List A) (d : A) → length es ≡ 1 → es ≡ get_or es 0 d ∷ []
one_item [] d h = absurd (omega (arith, h))
one_item (a ∷ []) d h = refl
one_item (a ∷ b ∷ es) d h = absurd (omega (arith, h))

pub two_items : {A : Type 0} (es : List A) (d : A) → length es ≡ 2 → es ≡ get_or es 0 d ∷ get_or es 1 d ∷ []
two_items [] d h = absurd (omega (arith, h))
two_items (a ∷ []) d h = absurd (omega (arith, h))
two_items (a ∷ b ∷ []) d h = refl
two_items (a ∷ b ∷ c ∷ es) d h = absurd (omega (arith, h))

-- ---- a row of two elements

abbrev pub item : List Tree → ℕ → Tree
item es k = get_or es k null_symbol

pub set_row-two : (es : List Tree) → length es ≡ 2 → set_row es ≡ (set (item es 0) (item es 1) >>= λ _. result (item es 1))
set_row-two es h = ap set_row (two_items es null_symbol h)

pub set_row-other : (es : List Tree) → length es ≢ 2 → set_row es ≡ unchanged
set_row-other [] h = refl
set_row-other (a ∷ []) h = refl
set_row-other (a ∷ b ∷ []) h = absurd (h refl)
set_row-other (a ∷ b ∷ c ∷ es) h = refl

-- ---- one round of a loop

pub matches-round : (n : ℕ) (p t : Tree) → matches_within (suc n) p t
    ≡ (flags_of [] (heads p) >>= λ f. walk (holding (λ q u. matches_within n q u)) (Trials (pattern f p) t) >>= λ r. done (is_some r))
unfolding matches_within
matches-round n p t = refl

pub guard-round : (n : ℕ) (g : Tree) → is_condition g ≡ false → is_guarded g ≡ true → guard_within (suc n) g ≡ guard_by (λ u. guard_within n u) (scope g) g
unfolding guard_within
guard-round n g c h = rw (guard_within, c, h)

pub guard-end : (n : ℕ) (g : Tree) → is_condition g ≡ true → guard_within (suc n) g ≡ condition_result (elements g)
unfolding guard_within
guard-end n g c = rw (guard_within, c)

pub loop-round : (n : ℕ) (c : Tree) (b i : Option Tree) → loop_from (suc n) c b i
    ≡ pass (λ _. eval_catching c (λ u. after_condition u (part b (part i (loop_from n c b i))) (part i (loop_from n c b i))))
unfolding loop_from
loop-round n c b i = refl

pub repeated-round : (n : ℕ) (rs : List PlainRule) (e : Tree) → replace_repeated (suc n) rs e
    ≡ (tick >>= λ _. replace_all rs e >>= λ u. value_of_built u >>= λ v. elim (same v e) [ true ↦ result e | false ↦ replace_repeated n rs v ])
unfolding replace_repeated
repeated-round n rs e = refl
