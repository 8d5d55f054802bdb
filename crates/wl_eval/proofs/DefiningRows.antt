-- Rows by their elements: those of one, of two, and of a symbol and others.
use Rattle.std.proofs.Common.{◌≡◌, Bool, true, false, not, List, [], ◌∷◌, Option, Some, None, Result, Ok, Err, refl, sym, ap, ◌∙◌, subst}
use Rattle.std.specs.Result.{IsErrAnd}
use Rattle.wl_expr.specs.Stamped as stamped
use Rattle.wl_expr.specs.Stamped.{Stamped, plain}
use Rattle.wl_expr.specs.Tree.{Tree, num, text, symbol, node}
use Rattle.wl_expr.specs.Words.{Name, fits}
use Rattle.wl_semantics.specs.Prog.{Prog, ◌>>=◌, value_of, unchanged, result}
use Rattle.wl_semantics.specs.Definitions.{LeftSide, changing_by, stepping, changing, after, plus, set, set_row, set_delayed_row, up_set_row, up_set_delayed_row, tag_set_row, tag_set_delayed_row, unset_row, tag_unset_row, delayed, define, define_up, define_tagged, prepared, unset_target, unset_tagged, tagged}
use Rattle.wl_state.specs.Operands.{taken_answer, two_trees}
use Rattle.wl_state.specs.Parts.{sized_row}
use Rattle.wl_state.specs.Played.{Played, Plays, Honest, found_tree, itself}
use Rattle.wl_state.specs.Prepared.{only_tree, name_and_one, name_and_two, refusal_name}
use Rattle.wl_state.specs.declared.evaluator.Evaluator.{Evaluator}
use Rattle.wl_state.specs.declared.ends.Stop.{Stop}
use Rattle.wl_state.proofs.Matches.{exit}
use Rattle.wl_state.proofs.Playing.{plays_bind, plays_done}
use Rattle.wl_state.proofs.RowParts.{row_stays, row_gives}
use Rattle.wl_state.proofs.Rows.{played_bind, played_stop}
use Rattle.wl_state.proofs.Setting.{row_taken}
use Rattle.wl_assign.specs.Targets.{target}

-- a row by what was read in its elements
abbrev pub by : {A : Type 0} → (A → Prog (Option Tree)) → Option A → Prog (Option Tree)
by f None = unchanged
by f (Some a) = f a

module _ {A : Type 0} (f : A → Prog (Option Tree)) (row : Prog (Option Tree)) (o : Option A) (same : row ≡ by f o) (k : Evaluator) where
  pub read_none : o ≡ None → Played found_tree (sized_row row) k (Ok None) k
  read_none e = row_stays row k (same ∙ ap (by f) e)

  pub read_some : (a : A) (r : Result (Option Stamped) Stop) (k1 : Evaluator) → o ≡ Some a → Played found_tree (sized_row (f a)) k r k1 → Played found_tree (sized_row row) k r k1
  read_some a r k1 e h = subst (λ p. Played found_tree (sized_row p) k r k1) (sym (same ∙ ap (by f) e)) h

abbrev pub set_both : Tree × Tree → Prog (Option Tree)
set_both p = set p.0 p.1 >>= λ _. result p.1

pub set_row-by : (es : List Tree) → set_row es ≡ by set_both (two_trees es)
set_row-by [] = refl
set_row-by (l ∷ []) = refl
set_row-by (l ∷ v ∷ []) = refl
set_row-by (l ∷ v ∷ e ∷ es) = refl

abbrev pub delay_both : Tree × Tree → Prog (Option Tree)
delay_both p = delayed (define false p.0 p.1)

pub set_delayed_row-by : (es : List Tree) → set_delayed_row es ≡ by delay_both (two_trees es)
set_delayed_row-by [] = refl
set_delayed_row-by (l ∷ []) = refl
set_delayed_row-by (l ∷ v ∷ []) = refl
set_delayed_row-by (l ∷ v ∷ e ∷ es) = refl

abbrev pub up_both : Tree × Tree → Prog (Option Tree)
up_both p = define_up p.0 p.1 >>= λ _. result p.1

pub up_set_row-by : (es : List Tree) → up_set_row es ≡ by up_both (two_trees es)
up_set_row-by [] = refl
up_set_row-by (l ∷ []) = refl
up_set_row-by (l ∷ v ∷ []) = refl
up_set_row-by (l ∷ v ∷ e ∷ es) = refl

abbrev pub up_delay_both : Tree × Tree → Prog (Option Tree)
up_delay_both p = delayed (define_up p.0 p.1)

pub up_set_delayed_row-by : (es : List Tree) → up_set_delayed_row es ≡ by up_delay_both (two_trees es)
up_set_delayed_row-by [] = refl
up_set_delayed_row-by (l ∷ []) = refl
up_set_delayed_row-by (l ∷ v ∷ []) = refl
up_set_delayed_row-by (l ∷ v ∷ e ∷ es) = refl

abbrev pub unset_one : Tree → Prog (Option Tree)
unset_one l = prepared l >>= λ s. unset_target s (target s.core)

pub unset_plays : (l : Tree) (s : LeftSide) (r : Option Tree) (k k1 k2 : Evaluator) → Plays (prepared l) k (Ok s) k1 false → Plays (unset_target s (target s.core)) k1 (Ok r) k2 false → Plays (unset_one l) k (Ok r) k2 false
unset_plays l s r k k1 k2 h m = plays_bind (prepared l) (λ z. unset_target z (target z.core)) h m

pub unset_row-by : (es : List Tree) → unset_row es ≡ by unset_one (only_tree es)
unset_row-by [] = refl
unset_row-by (l ∷ []) = refl
unset_row-by (l ∷ e ∷ es) = refl

abbrev pub changed_both : (Tree → Tree → Tree) → Tree × Tree → Prog (Option Tree)
changed_both new p = changing after (λ o. new o p.1) p.0

pub changing_by-by : (new : Tree → Tree → Tree) (es : List Tree) → changing_by new es ≡ by (changed_both new) (two_trees es)
changing_by-by new [] = refl
changing_by-by new (l ∷ []) = refl
changing_by-by new (l ∷ v ∷ []) = refl
changing_by-by new (l ∷ v ∷ e ∷ es) = refl

pub stepping-by : (keep : Tree → Tree → Tree) (v : Tree) (es : List Tree) → stepping keep v es ≡ by (λ x. changing keep (λ o. plus o v) x) (only_tree es)
stepping-by keep v [] = refl
stepping-by keep v (l ∷ []) = refl
stepping-by keep v (l ∷ e ∷ es) = refl

abbrev pub tag_three : Name × Tree × Tree → Prog (Option Tree)
tag_three p = value_of p.2 >>= λ u. define_tagged p.0 p.1 u >>= λ _. result u

pub tag_set_row-by : (es : List Tree) → tag_set_row es ≡ by tag_three (name_and_two es)
tag_set_row-by [] = refl
tag_set_row-by (num n ∷ es) = refl
tag_set_row-by (text s ∷ es) = refl
tag_set_row-by (node h ts ∷ es) = refl
tag_set_row-by (symbol x ∷ []) = refl
tag_set_row-by (symbol x ∷ l ∷ []) = refl
tag_set_row-by (symbol x ∷ l ∷ v ∷ []) = refl
tag_set_row-by (symbol x ∷ l ∷ v ∷ e ∷ es) = refl

module _ (x : Name) (l v : Tree) (k : Evaluator) where
  -- the definition doesn't come
  pub tag_stop : (u : Tree) (k1 : Evaluator) (r : Result (Option Stamped) Stop) (e : Stop) (k2 : Evaluator) → IsErrAnd r (λ d. d ≡ e) → Plays (value_of v) k (Ok u) k1 false → Played itself (define_tagged x l u) k1 (Err e) k2
      → Played found_tree (sized_row (tag_three (x, l, v))) k r k2
  tag_stop u k1 r e k2 h p m =
      exit found_tree found_tree (tag_three (x, l, v)) _ k k2 r e h
      (played_bind found_tree (value_of v) (λ w. define_tagged x l w >>= λ _. result w) k k1 u (Err e) k2 p (played_stop itself found_tree (define_tagged x l u) (λ _. result u) k1 e k2 m))

  pub tag_given : (e : Stamped) (b : Bool) (k1 k2 : Evaluator) → Plays (value_of v) k (Ok (plain e)) k1 false → Plays (define_tagged x l (plain e)) k1 (Ok b) k2 false → fits (plain e) ≡ true → Honest k2 e
      → Played found_tree (sized_row (tag_three (x, l, v))) k (Ok (Some e)) k2
  tag_given e b k1 k2 p h f g =
      row_gives (tag_three (x, l, v)) k k2 e (plays_bind (value_of v) (λ w. define_tagged x l w >>= λ _. result w) p (plays_bind (define_tagged x l (plain e)) (λ _. result (plain e)) h plays_done)) f g

abbrev pub tag_delay_three : Name × Tree × Tree → Prog (Option Tree)
tag_delay_three p = delayed (define_tagged p.0 p.1 p.2)

pub tag_set_delayed_row-by : (es : List Tree) → tag_set_delayed_row es ≡ by tag_delay_three (name_and_two es)
tag_set_delayed_row-by [] = refl
tag_set_delayed_row-by (num n ∷ es) = refl
tag_set_delayed_row-by (text s ∷ es) = refl
tag_set_delayed_row-by (node h ts ∷ es) = refl
tag_set_delayed_row-by (symbol x ∷ []) = refl
tag_set_delayed_row-by (symbol x ∷ l ∷ []) = refl
tag_set_delayed_row-by (symbol x ∷ l ∷ v ∷ []) = refl
tag_set_delayed_row-by (symbol x ∷ l ∷ v ∷ e ∷ es) = refl

abbrev pub tag_unset : Name × Tree → Prog (Option Tree)
tag_unset p = prepared p.1 >>= λ s. unset_tagged p.0 s (tagged p.0 s.core)

pub tag_unset_row-by : (es : List Tree) → tag_unset_row es ≡ by tag_unset (name_and_one es)
tag_unset_row-by [] = refl
tag_unset_row-by (num n ∷ es) = refl
tag_unset_row-by (text s ∷ es) = refl
tag_unset_row-by (node h ts ∷ es) = refl
tag_unset_row-by (symbol x ∷ []) = refl
tag_unset_row-by (symbol x ∷ l ∷ []) = refl
tag_unset_row-by (symbol x ∷ l ∷ e ∷ es) = refl

pub unset_given : (x : Name) (l : Tree) (s : LeftSide) (b : Bool) (k k1 k2 : Evaluator) (e : Stamped) → e ≡ stamped.symbol None (refusal_name (not b)) → Plays (prepared l) k (Ok s) k1 false → Plays (unset_tagged x s (tagged x s.core)) k1 (Ok (Some (taken_answer b))) k2 false
    → Played found_tree (sized_row (tag_unset (x, l))) k (Ok (Some e)) k2
unset_given x l s b k k1 k2 e q p h = row_taken (tag_unset (x, l)) b k k2 e q (plays_bind (prepared l) (λ z. unset_tagged x z (tagged x z.core)) p h)
