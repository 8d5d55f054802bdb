-- How faults on the way are answered, and how a node is made.
use Rattle.std.proofs.Common.{◌≡◌, List, Err, Result, None, IfOk, IsErrAnd, sym, subst, ap, ◌∙◌}
use Rattle.std.proofs.lemmas.Result.{err_from_is_err_and, IfOk-weaker}
use Rattle.wl_expr.proofs.Parts.{plains_from_list}
use Rattle.wl_expr.specs.Applied.{Applied, gives}
use Rattle.wl_expr.specs.Stamped.{Stamped, plain, plains, node, from_list}
use Rattle.wl_expr.specs.Tree as tree
use Rattle.wl_expr.specs.Tree.{Tree, IsWithinLimits}
use Rattle.wl_expr.specs.Words.{applied}
use Rattle.wl_expr.specs.declared.applied.Applied as code
use Rattle.wl_expr.specs.declared.fault.ExprFault.{ExprFault}
use Rattle.wl_expr.specs.declared.fault.ExprFault.TheVariants.{Memory, Large}
use Rattle.wl_algebra.specs.Answers.{IsAnswer, IsMade, trees}

-- want of memory may come anywhere
pub memory_answers : (a : Applied) (r : Result code.Applied ExprFault) → IsErrAnd r (λ y. y ≡ Memory) → IsAnswer a r
memory_answers a r h =
    let p = err_from_is_err_and r h in
    let e : r ≡ Err Memory = p.1 ∙ ap Err p.2 in
    subst (IsAnswer a) (sym e) (record { is = tt; large = λ q. cc })

pub memory_makes : (t : Tree) (r : Result Stamped ExprFault) → IsErrAnd r (λ y. y ≡ Memory) → IsMade t r
memory_makes t r h =
    let p = err_from_is_err_and r h in
    let e : r ≡ Err Memory = p.1 ∙ ap Err p.2 in
    subst (IsMade t) (sym e) (record { tree = tt; large = λ q. cc })

-- what doesn't fit isn't given
pub fault_gives : (t : Tree) (d : ExprFault) (made : Result Stamped ExprFault) (r : Result code.Applied ExprFault) → made ≡ Err d → IsMade t made → IsErrAnd r (λ y. y ≡ d) → IsAnswer (gives t) r
fault_gives t d made r q m h =
    let p = err_from_is_err_and r h in
    let e : r ≡ Err d = p.1 ∙ ap Err p.2 in
    subst (IsAnswer (gives t)) (sym e) (record { is = tt; large = λ l. m.large (cc) })

pub node_makes : (h : Stamped) (es : List Stamped) (r : Result Stamped ExprFault) → IfOk r (λ e. e ≡ node None h (from_list es))
    → (r ≡ Err Large → ¬ IsWithinLimits (tree.node (plain h) (plains (from_list es)))) → IsMade (applied (plain h) (trees es)) r
node_makes h es r ok large =
    let same = ap (λ us. tree.node (plain h) us) (plains_from_list es) in
    record {
      tree = IfOk-weaker r (λ e. e ≡ node None h (from_list es)) (λ e. plain e ≡ applied (plain h) (trees es)) (λ e q. ap plain q ∙ same) ok;
      large = λ e. subst (λ t. ¬ IsWithinLimits t) same (large e);
    }

-- a part that doesn't fit is part of nothing that does
pub fault_makes : (t u : Tree) (d : ExprFault) (made r : Result Stamped ExprFault) → made ≡ Err d → IsMade u made → (¬ IsWithinLimits u → ¬ IsWithinLimits t) → IsErrAnd r (λ y. y ≡ d) → IsMade t r
fault_makes t u d made r q m part h =
    let p = err_from_is_err_and r h in
    let e : r ≡ Err d = p.1 ∙ ap Err p.2 in
    subst (IsMade t) (sym e) (record { tree = tt; large = λ l. part (m.large (cc)) })

pub fault_passed_on : {X Y : Type 0} (d : ExprFault) (made : Result X ExprFault) (r : Result Y ExprFault) → made ≡ Err d → IsErrAnd r (λ y. y ≡ d) → r ≡ Err Large → made ≡ Err Large
fault_passed_on d made r m h l =
    let p = err_from_is_err_and r h in
    let e : r ≡ Err d = p.1 ∙ ap Err p.2 in
    let same : d ≡ Large = cc in
    m ∙ ap Err same
