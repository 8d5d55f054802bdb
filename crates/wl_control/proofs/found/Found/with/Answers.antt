use Rattle.std.proofs.Common.{arith}
use Rattle.wl_control.proofs.Collecting.{trees_of_push, weighed_sum, weighed_more}
use Rattle.wl_control.proofs.found.Found.with.Goals as goal

pub returns-then-weight-gt-MAX_FOUND-clause-collected : goal.returns-then-weight-gt-MAX_FOUND-clause-collected
returns-then-weight-gt-MAX_FOUND-clause-collected c =
    let sum = weighed_sum c.self.inside.weight c.weight.result c.self.inside.values.items c.args.self c.args.value.now c.self.invariant c.self.view_is c.weight.ensures.value in
    record { values = tt; light = tt; large = λ e. omega arith }

pub invariant_of-result : goal.invariant_of-result
invariant_of-result c =
    weighed_more c.self.inside.weight c.weight.result c.self.inside.values.items c.push.new.self.items c.args.value.now c.in_ok-copy.field-0
    c.self.invariant c.weight.ensures.value (omega arith) c.in_ok-copy.ensures c.in_ok-push.ensures.items

pub returns-clause-collected : goal.returns-clause-collected
returns-clause-collected c =
    let sum = weighed_sum c.self.inside.weight c.weight.result c.self.inside.values.items c.args.self c.args.value.now c.self.invariant c.self.view_is c.weight.ensures.value in
    let values = trees_of_push c.self.inside.values.items c.push.new.self.items c.args.self c.args.value.now c.in_ok-copy.field-0
    c.self.view_is c.in_ok-copy.ensures c.in_ok-push.ensures.items in
    record { values = values; light = omega arith; large = λ e. cc }
