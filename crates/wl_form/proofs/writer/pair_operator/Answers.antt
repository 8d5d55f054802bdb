use Rattle.std.proofs.Common.{rules}
use Rattle.wl_form.proofs.Nodes.{no_pair, pair_at}
use Rattle.wl_form.proofs.writer.pair_operator.Goals as goal

pub returns-then-args-ne2 : goal.returns-then-args-ne2
returns-then-args-ne2 c = no_pair c.args.row c.args.args.now (search rules)

pub returns : goal.returns
returns c = pair_at c.args.row c.args.args.now c.index-args-0.result c.index-args-0.result _ (search rules) c.index-args-0.is c.operator_behind.ensures
