-- What is looked at while a Function is applied.
use Rattle.std.specs.Prelude.{◌≡◌, List, [], ◌∷◌, Option, Result, Err, IfOk, option_map}
use Rattle.wl_expr.specs.Stamped.{Stamped, plain}
use Rattle.wl_expr.specs.Tree.{Tree}
use Rattle.wl_expr.specs.declared.fault.ExprFault.{ExprFault}
use Rattle.wl_expr.specs.declared.fault.ExprFault.TheVariants.{Large}
use Rattle.wl_shape.specs.Given.{DoesNotFit}
use Rattle.wl_semantics.specs.ScopeRows.{slot, slots_from}
use Rattle.wl_state.specs.declared.function.Slot.{Slot}
use Rattle.wl_state.specs.declared.function.Slot.TheVariants.{One, From}

-- what stands for a slot that is this tree
abbrev pub slot_value : Tree → List Tree → Tree → Slot → Tree
slot_value f args t (One n) = slot f args t n
slot_value f args t (From n) = slots_from args t n

-- the new elements, or those that there were where none is new
abbrev pub new_or : List Stamped → List Stamped → List Stamped
new_or [] es = es
new_or (n ∷ ns) es = n ∷ ns

-- what is given is this, and Large comes only where that doesn't fit
pub record IsGiven (o : Option Tree) (r : Result (Option Stamped) ExprFault) : Type 0 where
  pub tree : IfOk r (λ v. option_map plain v ≡ o)
  pub large : r ≡ Err Large → DoesNotFit o
