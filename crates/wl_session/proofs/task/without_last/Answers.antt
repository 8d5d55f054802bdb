use Rattle.std.proofs.Common.{◌≡◌, ◌<◌, ◌∙◌, ap, Err, arith, length}
use Rattle.wl_expr.specs.Stamped.{plain}
use Rattle.wl_session.proofs.Tasks.{front_fits, front_node}
use Rattle.wl_session.proofs.task.without_last.Goals as goal

pub unreachable-requires : goal.unreachable-requires
unreachable-requires c = c.node.ensures.large.0 (c.in-Err-Large.is ∙ ap (λ e. Err e) c.in-Err-Large.field-0-is) (front_fits _ _ _ c.requires.fits)

pub returns-in-Ok-clause-tree : goal.returns-in-Ok-clause-tree
returns-in-Ok-clause-tree c =
    ap plain c.in-Ok.ensures.ok ∙ front_node c.args.head.now c.args.args.now c.requires.name (let many : 1 < length c.args.args.now = c.requires.many in omega arith)
