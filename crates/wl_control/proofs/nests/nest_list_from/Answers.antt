use Rattle.std.proofs.Common.{arith}
use Rattle.wl_control.proofs.Nesting.{nest_list_ends, nest_list_begins}
use Rattle.wl_control.proofs.nests.nest_list_from.Goals as goal

pub returns-then-passes-eq0-clause-answer : goal.returns-then-passes-eq0-clause-answer
returns-then-passes-eq0-clause-answer c = nest_list_ends _ c.args.found c.values.result.now _ _ _ c.if-passes-eq0.true c.values.ensures c.give_list.ensures.answer

pub returns-clause-answer : goal.returns-clause-answer
returns-clause-answer c =
    nest_list_begins c.args.nest.function c.in_ok-copy.field-0 c.args.value.now _ _ _ _ _ (omega arith) c.in_ok-copy.ensures c.new.ensures.items c.in_ok-one_more.ensures c.begin_call.ensures.answer
