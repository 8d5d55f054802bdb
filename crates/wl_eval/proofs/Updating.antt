-- How the rows play that give a symbol a new value.
use Rattle.std.proofs.Common.{◌≡◌, Bool, true, false, [], ◌∷◌, Option, Some, None, Result, Ok, Err, sym, ap, subst, if◌then◌else◌}
use Rattle.std.specs.Prelude.{codes}
use Rattle.std.specs.Result.{IsErrAnd}
use Rattle.wl_expr.specs.Same.{same}
use Rattle.wl_expr.specs.Stamped.{Stamped, plain}
use Rattle.wl_expr.specs.Tree.{Tree, symbol, none}
use Rattle.wl_expr.specs.Words.{Name, fits, form}
use Rattle.wl_expr.specs.declared.fault.ExprFault.{ExprFault}
use Rattle.wl_expr.specs.declared.fault.ExprFault.TheVariants as fault
use Rattle.wl_semantics.specs.Prog.{Prog, ◌>>=◌, value_of, value_of_built, unchanged, result}
use Rattle.wl_semantics.specs.Definitions.{changing}
use Rattle.wl_state.specs.Parts.{sized_row}
use Rattle.wl_state.specs.Played as played
use Rattle.wl_state.specs.Played.{Honest, Makes, Played, Plays, Good, found_tree}
use Rattle.wl_state.specs.Prepared.{kept}
use Rattle.wl_state.specs.declared.evaluator.Evaluator.{Evaluator}
use Rattle.wl_state.specs.declared.ends.Stop.{Stop}
use Rattle.wl_state.proofs.Playing.{plays_bind, plays_done}
use Rattle.wl_state.proofs.Preparing.{unfit_second}
use Rattle.wl_state.proofs.RowParts.{row_none, row_gives}
use Rattle.wl_state.proofs.Matches.{exit}
use Rattle.wl_state.proofs.Rows.{played_bind, played_stop}

-- a fault of the second element is one of the whole
pub made_whole : (x : Name) (s t : Tree) (f : ExprFault) → Makes t (Err f) → Makes (form x (s ∷ t ∷ [])) (Err f)
made_whole x s t fault.Memory h = tt
made_whole x s t fault.Large h = unfit_second (symbol x) s t none h

abbrev changes_by : (Tree → Tree → Tree) → (Tree → Tree) → Tree → Tree → Bool → Prog (Option Tree)
changes_by keep new x o b = elim b [ true ↦ unchanged | false ↦ value_of_built (form (codes "Set") (x ∷ new o ∷ [])) >>= λ v. result (keep o v) ]

module _ (keep : Tree → Tree → Tree) (new : Tree → Tree) (x : Tree) (k : Evaluator) where
  -- the old value doesn't come
  pub changing_stop : (r : Result (Option Stamped) Stop) (e : Stop) (k1 : Evaluator) → IsErrAnd r (λ d. d ≡ e) → Played played.tree (value_of x) k (Err e) k1 → Played found_tree (sized_row (changing keep new x)) k r k1
  changing_stop r e k1 h m = exit found_tree found_tree (changing keep new x) _ k k1 r e h (played_stop played.tree found_tree (value_of x) _ k e k1 m)

  module _ (o : Tree) (k1 : Evaluator) (h : Plays (value_of x) k (Ok o) k1 false) where
    -- there is none
    pub changing_none : same o x ≡ true → Played found_tree (sized_row (changing keep new x)) k (Ok None) k1
    changing_none e = row_none (changing keep new x) k k1 (plays_bind (value_of x) _ h (subst (λ b. Plays (changes_by keep new x o b) k1 (Ok None) k1 false) (sym e) plays_done))

    -- the new one doesn't come
    pub new_stop : (r : Result (Option Stamped) Stop) (e : Stop) (k2 : Evaluator) → IsErrAnd r (λ d. d ≡ e) → same o x ≡ false → Played played.tree (value_of_built (form (codes "Set") (x ∷ new o ∷ []))) k1 (Err e) k2
        → Played found_tree (sized_row (changing keep new x)) k r k2
    new_stop r e k2 g s m =
        exit found_tree found_tree (changing keep new x) _ k k2 r e g
        (played_bind found_tree (value_of x) _ k k1 o (Err e) k2 h
        (subst (λ b. Played found_tree (changes_by keep new x o b) k1 (Err e) k2) (sym s) (played_stop played.tree found_tree (value_of_built (form (codes "Set") (x ∷ new o ∷ []))) _ k1 e k2 m)))

    pub new_given : (v : Tree) (e : Stamped) (k2 : Evaluator) → same o x ≡ false → Plays (value_of_built (form (codes "Set") (x ∷ new o ∷ []))) k1 (Ok v) k2 false → plain e ≡ keep o v → fits (plain e) ≡ true → Honest k2 e
        → Played found_tree (sized_row (changing keep new x)) k (Ok (Some e)) k2
    new_given v e k2 s m q f g =
        row_gives (changing keep new x) k k2 e
        (plays_bind (value_of x) _ h
        (subst (λ b. Plays (changes_by keep new x o b) k1 (Ok (Some (plain e))) k2 false) (sym s)
        (plays_bind (value_of_built (form (codes "Set") (x ∷ new o ∷ []))) _ m (subst (λ t. Plays (result (keep o v)) k2 (Ok (Some t)) k2 false) (sym q) plays_done)))) f g

pub chosen_is : (b : Bool) (o v e : Stamped) → e ≡ (if b then o else v) → plain e ≡ kept b (plain o) (plain v)
chosen_is true o v e q = ap plain q
chosen_is false o v e q = ap plain q

pub chosen_honest : (k : Evaluator) (b : Bool) (o v e : Stamped) → e ≡ (if b then o else v) → Honest k o → Honest k v → Honest k e
chosen_honest k true o v e q x y = subst (Honest k) (sym q) x
chosen_honest k false o v e q x y = subst (Honest k) (sym q) y
