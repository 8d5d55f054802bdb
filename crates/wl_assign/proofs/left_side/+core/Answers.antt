use Rattle.std.proofs.Common.{sym, ap, subst, ◌∙◌}
use Rattle.std.specs.Prelude.{if◌then◌else◌}
use Rattle.wl_expr.specs.Passed.{IsFrom}
use Rattle.wl_expr.specs.Special as special
use Rattle.wl_expr.specs.Stamped.{plain}
use Rattle.wl_assign.specs.Core.{core, is_held}
use Rattle.wl_assign.specs.Kinds.{special_of}
use Rattle.wl_assign.proofs.Forms.{core_of_form, held_of_form, not_around, not_held}
use Rattle.wl_assign.proofs.left_side.+core.Goals as goal

pub returns-in-Condition-clause-held : goal.returns-in-Condition-clause-held
returns-in-Condition-clause-held t c =
    c.core.ensures.held
    ∙ sym (held_of_form (plain c.args.left.now) c.in-Node.head.now c.in-Some.inner.now c.in-Node.args.now c.in-Some.field-0-1.now special.condition c.in-Some.ensures.cases.0 c.in-Node.ensures.plain c.in-Condition.ensures)

pub returns-in-HoldPattern-clause-core : goal.returns-in-HoldPattern-clause-core
returns-in-HoldPattern-clause-core t c =
    c.core-in-HoldPattern.ensures.core
    ∙ sym (core_of_form (plain c.args.left.now) c.in-Node.head.now c.in-Some.inner.now c.in-Node.args.now c.in-Some.field-0-1.now special.hold_pattern c.in-Some.ensures.cases.0 c.in-Node.ensures.plain c.in-HoldPattern.ensures)

pub returns-in-HoldPattern-clause-held : goal.returns-in-HoldPattern-clause-held
returns-in-HoldPattern-clause-held t c =
    sym (held_of_form (plain c.args.left.now) c.in-Node.head.now c.in-Some.inner.now c.in-Node.args.now c.in-Some.field-0-1.now special.hold_pattern c.in-Some.ensures.cases.0 c.in-Node.ensures.plain c.in-HoldPattern.ensures)

pub returns-in_default-special_form : goal.returns-in_default-special_form
returns-in_default-special_form t c =
    let k = c.special_form.result in
    let n = c.in_default-special_form.not-Condition in
    let h = c.in_default-special_form.not-HoldPattern in
    let w = c.whole-in_default-special_form.ensures in
    record {
      core = ap plain w.core
          ∙ sym (core_of_form (plain c.args.left.now) c.in-Node.head.now c.in-Some.inner.now c.in-Node.args.now c.in-Some.field-0-1.now (special_of k) c.in-Some.ensures.cases.0 c.in-Node.ensures.plain c.special_form.ensures
          ∙ ap (λ b. if b then core (plain c.in-Some.inner.now) else plain c.args.left.now) (not_around k n h));
      held = w.held
          ∙ sym (held_of_form (plain c.args.left.now) c.in-Node.head.now c.in-Some.inner.now c.in-Node.args.now c.in-Some.field-0-1.now (special_of k) c.in-Some.ensures.cases.0 c.in-Node.ensures.plain c.special_form.ensures
          ∙ not_held k (is_held (plain c.in-Some.inner.now)) n h);
      passed = λ ms f. subst (IsFrom ms) (sym w.core) f;
    }
