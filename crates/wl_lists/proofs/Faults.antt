-- How faults on the way are answered, and how a node is made.
use Rattle.std.proofs.Common.{◌≡◌, ◌↔◌, ℕ, List, Err, Result, None, IfOk, IsErrAnd, sym, subst, ap, ◌∙◌}
use Rattle.std.proofs.lemmas.Result.{err_from_is_err_and, IfOk-weaker}
use Rattle.wl_expr.proofs.Parts.{plains_from_list}
use Rattle.wl_expr.proofs.Small.{large_args}
use Rattle.wl_expr.specs.Applied.{Applied, gives}
use Rattle.wl_expr.specs.Stamped.{Stamped, plain, plains, node, text, from_list, unstamped, plain_unstamped}
use Rattle.wl_expr.specs.Tree as tree
use Rattle.wl_expr.specs.Tree.{Tree, AreSmall, IsWithinLimits}
use Rattle.wl_expr.specs.Words.{applied}
use Rattle.wl_expr.specs.declared.applied.Applied as code
use Rattle.wl_expr.specs.declared.fault.ExprFault.{ExprFault}
use Rattle.wl_expr.specs.declared.fault.ExprFault.TheVariants.{Memory, Large}
use Rattle.wl_form.specs.Boxes.{boxes}
use Rattle.wl_lists.specs.Answers.{IsAnswer, IsMade, trees}

-- want of memory may come anywhere
pub memory_answers : (a : Applied) (r : Result code.Applied ExprFault) → IsErrAnd r (λ y. y ≡ Memory) → IsAnswer a r
memory_answers a r h =
    let p = err_from_is_err_and r h in
    let e : r ≡ Err Memory = p.1 ∙ ap Err p.2 in
    subst (IsAnswer a) (sym e) (record { is = tt; large = λ q. cc })

pub memory_makes : (t : Tree) (r : Result Stamped ExprFault) → IsErrAnd r (λ y. y ≡ Memory) → IsMade t r
memory_makes t r h =
    let p = err_from_is_err_and r h in
    let e : r ≡ Err Memory = p.1 ∙ ap Err p.2 in
    subst (IsMade t) (sym e) (record { tree = tt; large = λ q. cc })

-- what doesn't fit isn't given
pub fault_gives : (t : Tree) (d : ExprFault) (made : Result Stamped ExprFault) (r : Result code.Applied ExprFault) → made ≡ Err d → IsMade t made → IsErrAnd r (λ y. y ≡ d) → IsAnswer (gives t) r
fault_gives t d made r q m h =
    let p = err_from_is_err_and r h in
    let e : r ≡ Err d = p.1 ∙ ap Err p.2 in
    subst (IsAnswer (gives t)) (sym e) (record { is = tt; large = λ l. m.large (cc) })

pub node_makes : (h : Stamped) (es : List Stamped) (r : Result Stamped ExprFault) → IfOk r (λ e. e ≡ node None h (from_list es))
    → (r ≡ Err Large → ¬ IsWithinLimits (tree.node (plain h) (plains (from_list es)))) → IsMade (applied (plain h) (trees es)) r
node_makes h es r ok large =
    let same = ap (λ us. tree.node (plain h) us) (plains_from_list es) in
    record {
      tree = IfOk-weaker r (λ e. e ≡ node None h (from_list es)) (λ e. plain e ≡ applied (plain h) (trees es)) (λ e q. ap plain q ∙ same) ok;
      large = λ e. subst (λ t. ¬ IsWithinLimits t) same (large e);
    }

-- a part that doesn't fit is part of nothing that does
pub fault_makes : (t u : Tree) (d : ExprFault) (made r : Result Stamped ExprFault) → made ≡ Err d → IsMade u made → (¬ IsWithinLimits u → ¬ IsWithinLimits t) → IsErrAnd r (λ y. y ≡ d) → IsMade t r
fault_makes t u d made r q m part h =
    let p = err_from_is_err_and r h in
    let e : r ≡ Err d = p.1 ∙ ap Err p.2 in
    subst (IsMade t) (sym e) (record { tree = tt; large = λ l. part (m.large (cc)) })

pub fault_passed_on : {X Y : Type 0} (d : ExprFault) (made : Result X ExprFault) (r : Result Y ExprFault) → made ≡ Err d → IsErrAnd r (λ y. y ≡ d) → r ≡ Err Large → made ≡ Err Large
fault_passed_on d made r m h l =
    let p = err_from_is_err_and r h in
    let e : r ≡ Err d = p.1 ∙ ap Err p.2 in
    let same : d ≡ Large = cc in
    m ∙ ap Err same

-- elements that fit in no expression
pub elements_fault_gives : {V : Type 0} (h : Tree) (ts : List Tree) (d : ExprFault) (made : Result V ExprFault) (r : Result code.Applied ExprFault) → made ≡ Err d → (made ≡ Err Large → ¬ AreSmall (tree.from_list ts)) → IsErrAnd r (λ y. y ≡ d) → IsAnswer (gives (applied h ts)) r
elements_fault_gives h ts d made r q m k =
    let p = err_from_is_err_and r k in
    let e : r ≡ Err d = p.1 ∙ ap Err p.2 in
    subst (IsAnswer (gives (applied h ts))) (sym e) (record { is = tt; large = λ l. large_args h (tree.from_list ts) (m (cc)) })

-- the boxes that are made
pub boxes_made : (t : Tree) (r : Result Stamped ExprFault) → IfOk r (λ b. b ≡ unstamped (boxes t)) → (r ≡ Err Large → ¬ IsWithinLimits (boxes t)) → IsMade (boxes t) r
boxes_made t r ok large = record {
  tree = IfOk-weaker r (λ b. b ≡ unstamped (boxes t)) (λ b. plain b ≡ boxes t) (λ b q. ap plain q ∙ plain_unstamped (boxes t)) ok;
  large = large;
}

pub text_made : (s : List ℕ) (r : Result Stamped ExprFault) → IfOk r (λ e. e ≡ text s) → (r ≡ Err Large) ↔ (¬ IsWithinLimits (tree.text s)) → IsMade (tree.text s) r
text_made s r ok large = record {
  tree = IfOk-weaker r (λ e. e ≡ text s) (λ e. plain e ≡ tree.text s) (λ e q. ap plain q) ok;
  large = large.0;
}
