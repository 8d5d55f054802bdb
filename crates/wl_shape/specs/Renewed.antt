-- What is made anew of a tree, and what stays where nothing is.
use Rattle.std.specs.Prelude.{◌≡◌, List, Option, Result, Err, IfOk, option_map, unwrap_or}
use Rattle.std.specs.declared.alloc.Global.{Global}
use Rattle.std.specs.declared.vec.Vec.{Vec}
use Rattle.wl_expr.specs.Stamped.{Stamped, plain, plains, from_list}
use Rattle.wl_expr.specs.Tree.{Tree, Trees, IsWithinLimits, AreSmall}
use Rattle.wl_expr.specs.declared.fault.ExprFault.{ExprFault}
use Rattle.wl_expr.specs.declared.fault.ExprFault.TheVariants.{Large}

-- the new elements, where there are some
abbrev pub elements_or : Option (Vec Stamped Global) → List Stamped → List Stamped
elements_or o ts = unwrap_or (option_map (λ v. v.items) o) ts

-- what was made of the tree t, or t itself where nothing was, is the tree u; and Large comes only where that doesn't fit
pub record IsRenewed (t u : Tree) (r : Result (Option Stamped) ExprFault) : Type 0 where
  pub tree : IfOk r (λ o. unwrap_or (option_map plain o) t ≡ u)
  pub large : r ≡ Err Large → ¬ IsWithinLimits u

-- the elements ts with what was made of them are us, and Large comes only where these don't fit
pub record AreRenewed (ts : List Stamped) (us : Trees) (r : Result (Option (Vec Stamped Global)) ExprFault) : Type 0 where
  pub elements : IfOk r (λ o. plains (from_list (elements_or o ts)) ≡ us)
  pub large : r ≡ Err Large → ¬ AreSmall us
