use Rattle.std.proofs.Common.{sym, subst, List, Bool}
use Rattle.std.specs.HashSet.{contains}
use Rattle.wl_expr.specs.Stamped.{Stamped}
use Rattle.wl_rules.specs.Edits.{edited}
use Rattle.wl_rules.specs.RuleLists.{IsInOrder}
use Rattle.wl_rules.specs.StampedRules.{left_of, same_left, AreKnown}
use Rattle.wl_rules.specs.declared.rule.Rule.{Rule}
use Rattle.wl_rules.proofs.Choices.{by_outcome}
use Rattle.wl_rules.proofs.Places.{known_insert}
use Rattle.wl_rules.proofs.RuleOrder.{insert_in_order}
use Rattle.wl_rules.proofs.rule_set.RuleSet.put.Goals as goal

pub invariant_of-self-2 : goal.invariant_of-self-2
invariant_of-self-2 c =
    let known : Stamped → Bool = contains same_left c.note_left.new.lefts in
    let old = c.self.inside.list in
    let P : List Rule → Type 0 = λ rs. IsInOrder left_of rs × AreKnown known rs in
    let noted = rw c.rule.ensures at c.in_ok-is_new.ensures.noted in
    let still : AreKnown known old = c.in_ok-is_new.ensures.kept old c.self.invariant.1 in
    let put = rw c.kept-2.ensures at c.edit_to_put-edit.ensures.edited in
    by_outcome P c.edit.result c.edit.new.self (edited c.edit_to_put-edit.result old) old c.edit.ensures.ok c.edit.ensures.err
    (subst P (sym put) (insert_in_order left_of _ old c.self.invariant.0, known_insert known _ old noted still)) (c.self.invariant.0, still)
