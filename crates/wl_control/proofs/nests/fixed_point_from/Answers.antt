use Rattle.std.proofs.Common.{arith}
use Rattle.wl_control.proofs.Nesting.{fixed_point_over, fixed_point_begins}
use Rattle.wl_control.proofs.nests.fixed_point_from.Goals as goal

pub returns-then-passes-eq0-clause-answer : goal.returns-then-passes-eq0-clause-answer
returns-then-passes-eq0-clause-answer c = fixed_point_over _ _ _ _ c.if-passes-eq0.true c.stay.ensures.answer

pub returns-clause-answer : goal.returns-clause-answer
returns-clause-answer c =
    fixed_point_begins c.args.nest.function c.in_ok-copy.field-0 c.args.value _ _ _ _ (omega arith) c.in_ok-copy.ensures c.new.ensures.items c.in_ok-one_more.ensures c.begin_call.ensures.answer
