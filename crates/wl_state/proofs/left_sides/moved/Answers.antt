use Rattle.std.proofs.Common.{sym, ◌∙◌}
use Rattle.wl_expr.specs.Stamped.{plain}
use Rattle.wl_state.proofs.Guarding.{no_condition, condition_is}
use Rattle.wl_state.proofs.Preparing.{unmoved, moved_two}
use Rattle.wl_state.proofs.left_sides.moved.Goals as goal

pub returns-then-args-ne2-clause-moved : goal.returns-then-args-ne2-clause-moved
returns-then-args-ne2-clause-moved c l = unmoved l (plain c.args.value.now) (no_condition _ _ c.in-Node.args.now c.in-Node.ensures.plain c.if-args-ne2.true)

pub returns-then-not-is_symbol-clause-moved : goal.returns-then-not-is_symbol-clause-moved
returns-then-not-is_symbol-clause-moved c l =
    unmoved l (plain c.args.value.now) (sym c.if-not-is_symbol.true ∙ c.is_symbol.ensures ∙ condition_is _ _ c.in-Node.args.now c.in-Node.ensures.plain c.if-args-ne2.false)

pub returns-clause-moved : goal.returns-clause-moved
returns-clause-moved c l =
    moved_two l (plain c.in-Node.head.now) (plain c.args.value.now) c.in-Node.args.now c.index-args-0.result c.index-args-1.result _ _ c.in-Node.ensures.plain c.if-args-ne2.false
    (sym c.is_symbol.ensures ∙ c.if-not-is_symbol.false) c.index-args-0.is c.index-args-1.is
