use Rattle.std.proofs.Common.{sym, ◌∙◌, subst, List, Bool, Some}
use Rattle.std.specs.HashSet.{contains}
use Rattle.std.specs.Prelude.{remove}
use Rattle.wl_expr.specs.Stamped.{Stamped, plain}
use Rattle.wl_rules.specs.RuleLists.{IsInOrder}
use Rattle.wl_rules.specs.StampedRules.{left_of, same_left, AreKnown, IsPlaceOf}
use Rattle.wl_rules.specs.declared.rule.Rule.{Rule}
use Rattle.wl_rules.proofs.Choices.{by_outcome}
use Rattle.wl_rules.proofs.Places.{known_removed, removed_found, has_left_found}
use Rattle.wl_rules.proofs.RuleOrder.{removed_in_order, removed_none}
use Rattle.wl_rules.proofs.rule_set.RuleSet.remove.Goals as goal

pub invariant_of-self-in-Some : goal.invariant_of-self-in-Some
invariant_of-self-in-Some c =
    let known : Stamped → Bool = contains same_left c.self.inside.lefts in
    let old = c.self.inside.list in
    let l = plain c.args.left.now in
    let P : List Rule → Type 0 = λ rs. IsInOrder left_of rs × AreKnown known rs in
    let place : IsPlaceOf l old (Some c.in-Some.at) = rw c.kept.ensures at c.in-Some.ensures in
    by_outcome P c.edit.result c.edit.new.self (remove old c.in-Some.at) old c.edit.ensures.ok c.edit.ensures.err
    (subst P (sym (removed_found l old c.in-Some.at place)) (removed_in_order left_of l old c.self.invariant.0, known_removed known l old c.self.invariant.1)) c.self.invariant

pub returns-in-None-clause-ok : goal.returns-in-None-clause-ok
returns-in-None-clause-ok c =
    let absent = rw c.kept.ensures at c.in-None.ensures in
    rw (← c.self.view_is) (sym (removed_none left_of (plain c.args.left.now) c.self.inside.list absent))

pub returns-in_ok-edit-in-Some-clause-found : goal.returns-in_ok-edit-in-Some-clause-found
returns-in_ok-edit-in-Some-clause-found c =
    let place : IsPlaceOf (plain c.args.left.now) c.self.inside.list (Some c.in-Some.at) = rw c.kept.ensures at c.in-Some.ensures in
    rw (← c.self.view_is) (sym (has_left_found (plain c.args.left.now) c.self.inside.list c.in-Some.at place))

pub returns-in_ok-edit-in-Some-clause-ok : goal.returns-in_ok-edit-in-Some-clause-ok
returns-in_ok-edit-in-Some-clause-ok c =
    let place : IsPlaceOf (plain c.args.left.now) c.self.inside.list (Some c.in-Some.at) = rw c.kept.ensures at c.in-Some.ensures in
    rw (← c.self.view_is) (c.in_ok-edit-in-Some.ensures.ok ∙ removed_found (plain c.args.left.now) c.self.inside.list c.in-Some.at place)
