-- Expressions whose size is tested.
use Rattle.std.proofs.Common.{◌≡◌, Bool, true, false, Result, Ok, Err, IfOk, ◌↔◌, refl, sym, ap, subst}
use Rattle.wl_expr.specs.Stamped.{Stamped, plain}
use Rattle.wl_expr.specs.Tree.{Tree, IsWithinLimits}
use Rattle.wl_expr.proofs.Small.{fits_decides}
use Rattle.wl_expr.specs.Words.{fits}
use Rattle.wl_expr.specs.declared.fault.ExprFault.{ExprFault}
use Rattle.wl_expr.specs.declared.fault.ExprFault.TheVariants as fault
use Rattle.wl_semantics.specs.State.{Aborted}
use Rattle.wl_semantics.specs.Prog.{Prog, done, sized, too_large}
use Rattle.wl_state.specs.Played.{Plays, Played, Seen, TooLarge, FaultStops, Makes, built}
use Rattle.wl_state.specs.declared.evaluator.Evaluator.{Evaluator}
use Rattle.wl_state.specs.declared.ends.Stop.{Stop}
use Rattle.wl_state.specs.declared.ends.Stop.TheVariants as stops
use Rattle.wl_state.proofs.Playing.{plays_bind, plays_stops, plays_done}

pub too_large_played : {X R : Type 0} (seen : Seen X R) (k k' : Evaluator) (e : Stop) → TooLarge k e k' → Played seen (too_large {R = R}) k (Err e) k'
too_large_played seen k k' stops.Memory h = tt
too_large_played seen k k' (stops.Thrown v t) h = absurd h
too_large_played seen k k' stops.Aborted h = (plays_bind _ _ h (plays_stops Aborted k'), tt)
too_large_played seen k k' stops.BudgetEnded h = absurd h
too_large_played seen k k' stops.Broke h = absurd h
too_large_played seen k k' stops.Continued h = absurd h

sized_by : Bool → Prog (Unit {0})
sized_by b = elim b [ true ↦ done tt | false ↦ too_large ]

sized_is : (t : Tree) (b : Bool) → fits t ≡ b → sized t ≡ sized_by b
unfolding sized sized_by
sized_is t b h = ap (λ z. sized_by z) h

pub plays_fits : (t : Tree) (k : Evaluator) → fits t ≡ true → Plays (sized t) k (Ok tt) k false
unfolding sized_by
plays_fits t k h = subst (λ p. Plays p k (Ok tt) k false) (sym (sized_is t true h)) plays_done

pub sized_large : {X : Type 0} (seen : Seen X (Unit {0})) (t : Tree) (k k' : Evaluator) (e : Stop) → fits t ≡ false → TooLarge k e k' → Played seen (sized t) k (Err e) k'
unfolding sized_by
sized_large seen t k k' e h g = subst (λ p. Played seen p k (Err e) k') (sym (sized_is t false h)) (too_large_played seen k k' e g)

pub sized_fault : (t : Tree) (k k' : Evaluator) (made : Result Stamped ExprFault) (f : ExprFault) (e : Stop) → made ≡ Err f → Makes t made → FaultStops f k e k' → Played (built t) (sized t) k (Err e) k'
sized_fault t k k' made f e q m h = cases f (subst (Makes t) q m) h
  where
    cases : (g : ExprFault) → Makes t (Err g) → FaultStops g k e k' → Played (built t) (sized t) k (Err e) k'
    cases fault.Memory n p = subst (λ z. Played (built t) (sized t) k (Err z) k') (sym p) tt
    cases fault.Large n p = sized_large (built t) t k k' e n p

-- what a call says of what it makes, and when it is too large
pub makes : (t : Tree) (made : Result Stamped ExprFault) → IfOk made (λ e. plain e ≡ t) → ((made ≡ Err fault.Large) ↔ ¬ IsWithinLimits t) → Makes t made
makes t (Ok e) h l = h
makes t (Err fault.Memory) h l = tt
makes t (Err fault.Large) h l = cases (fits t) refl
  where
    cases : (b : Bool) → fits t ≡ b → fits t ≡ false
    cases true e = absurd (l.0 refl ((fits_decides t).0 e))
    cases false e = e
