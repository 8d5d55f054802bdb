use Rattle.std.proofs.Common.{length, min, ap, ◌∙◌}
use Rattle.wl_match.proofs.Chains.{none_first, first_is}
use Rattle.wl_match.proofs.stack.Stack.first.Goals as goal

pub returns-then-count-eq0 : goal.returns-then-count-eq0
returns-then-count-eq0 c = none_first c.args.self.now.cells.items c.args.list _ (c.min-count.ensures ∙ ap (λ z. min c.args.list (length z)) c.as_slice-cells.ensures.value) c.if-count-eq0.true

pub returns : goal.returns
returns c = first_is c.args.self.now.cells.items _ c.args.list _ _ c.index-cells-count.result _ c.min-count.ensures c.if-count-eq0.false c.index-cells-count.is c.as_slice-cells.ensures.value c.in_ok-copy.ensures c.min.ensures
