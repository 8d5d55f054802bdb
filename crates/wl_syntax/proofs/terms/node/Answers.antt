use Rattle.std.proofs.Common.{Err, ap, ◌∙◌}
use Rattle.wl_syntax.proofs.Building.{node_unstamped, node_plain}
use Rattle.wl_syntax.proofs.terms.node.Goals as goal

pub unreachable-requires : goal.unreachable-requires
unreachable-requires c =
    let (h, es, p, q, w) = c.requires in
    c.node.ensures.large.0 (c.in-Err-Large.is ∙ ap (λ f. Err f) c.in-Err-Large.field-0-is) (node_plain _ _ h es p q w)

pub returns-in-Ok : goal.returns-in-Ok
returns-in-Ok c h es p q = node_unstamped _ _ _ h es c.in-Ok.ensures.ok p q
