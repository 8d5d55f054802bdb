use Rattle.std.proofs.Common.{◌&&◌, ap, ◌∙◌, map}
use Rattle.wl_expr.specs.Stamped.{plain}
use Rattle.wl_expr.specs.Same.{same_lists}
use Rattle.wl_match.specs.Runs.{trees_in}
use Rattle.wl_match.proofs.LentLemmas as lemmas
use Rattle.wl_match.proofs.lent.is_node.Goals as goal

pub returns-then-same : goal.returns-then-same
returns-then-same c = c.same-then-same.ensures ∙ ap (λ z. z && same_lists (map plain c.in-Node.others.now) (trees_in c.args.args.now)) c.if-same.ensures ∙ lemmas.node_same (plain c.args.head.now) (plain c.in-Node.own.now) c.in-Node.others.now (trees_in c.args.args.now) (plain c.args.t.now) c.in-Node.ensures.plain
