-- How faults on the way are answered, and how a node is made.
use Rattle.std.proofs.Common.{◌≡◌, List, Err, Result, None, IfOk, IsErrAnd, sym, subst, ap, ◌∙◌}
use Rattle.std.proofs.lemmas.Result.{err_from_is_err_and, IfOk-weaker}
use Rattle.wl_expr.proofs.Parts.{plains_from_list}
use Rattle.wl_expr.specs.Stamped.{Stamped, plain, plains, node, from_list}
use Rattle.wl_expr.specs.Tree as tree
use Rattle.wl_expr.specs.Tree.{Tree, IsWithinLimits}
use Rattle.wl_expr.specs.Words.{applied}
use Rattle.wl_expr.specs.declared.fault.ExprFault.{ExprFault}
use Rattle.wl_expr.specs.declared.fault.ExprFault.TheVariants.{Memory, Large}
use Rattle.wl_shape.specs.Answers.{IsFilled, IsMade, IsShaped, trees}
use Rattle.wl_shape.specs.Shape.{Shaped, shaped_tree}
use Rattle.wl_shape.specs.declared.arrangement.Shaped as code

-- want of memory may come anywhere
pub memory_makes : (t : Tree) (r : Result Stamped ExprFault) → IsErrAnd r (λ y. y ≡ Memory) → IsMade t r
memory_makes t r h =
    let p = err_from_is_err_and r h in
    let e : r ≡ Err Memory = p.1 ∙ ap Err p.2 in
    subst (IsMade t) (sym e) (record { tree = tt; large = λ q. cc })

pub memory_shapes : (s : Shaped) (r : Result code.Shaped ExprFault) → IsErrAnd r (λ y. y ≡ Memory) → IsShaped s r
memory_shapes s r h =
    let p = err_from_is_err_and r h in
    let e : r ≡ Err Memory = p.1 ∙ ap Err p.2 in
    subst (IsShaped s) (sym e) (record { is = tt; large = λ q. cc })

pub node_makes : (h : Stamped) (es : List Stamped) (r : Result Stamped ExprFault) → IfOk r (λ e. e ≡ node None h (from_list es))
    → (r ≡ Err Large → ¬ IsWithinLimits (tree.node (plain h) (plains (from_list es)))) → IsMade (applied (plain h) (trees es)) r
node_makes h es r ok large =
    let same = ap (λ us. tree.node (plain h) us) (plains_from_list es) in
    record {
      tree = IfOk-weaker r (λ e. e ≡ node None h (from_list es)) (λ e. plain e ≡ applied (plain h) (trees es)) (λ e q. ap plain q ∙ same) ok;
      large = λ e. subst (λ t. ¬ IsWithinLimits t) same (large e);
    }

-- what doesn't fit isn't given
pub fault_shapes : (s : Shaped) (d : ExprFault) (made : Result Stamped ExprFault) (r : Result code.Shaped ExprFault) → made ≡ Err d → IsMade (shaped_tree s) made → IsErrAnd r (λ y. y ≡ d) → IsShaped s r
fault_shapes s d made r q m h =
    let p = err_from_is_err_and r h in
    let e : r ≡ Err d = p.1 ∙ ap Err p.2 in
    subst (IsShaped s) (sym e) (record { is = tt; large = λ l. m.large (cc) })

pub fault_passed_on : {X Y : Type 0} (d : ExprFault) (made : Result X ExprFault) (r : Result Y ExprFault) → made ≡ Err d → IsErrAnd r (λ y. y ≡ d) → r ≡ Err Large → made ≡ Err Large
fault_passed_on d made r m h l =
    let p = err_from_is_err_and r h in
    let e : r ≡ Err d = p.1 ∙ ap Err p.2 in
    let same : d ≡ Large = cc in
    m ∙ ap Err same

pub fault_fills : (t : Tree) (d : ExprFault) (before r : Result Stamped ExprFault) → before ≡ Err d → IsErrAnd r (λ y. y ≡ d) → (before ≡ Err Large → ¬ IsWithinLimits t) → IsFilled t r
fault_fills t d before r b h large =
    let p = err_from_is_err_and r h in
    record { is = subst (λ q. IfOk q (λ e. (plain e ≡ t) × IsWithinLimits t)) (sym (p.1 ∙ ap Err p.2)) tt; large = λ l. large (fault_passed_on d before r b h l) }
