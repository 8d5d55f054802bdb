use Rattle.std.proofs.Common.{codes, refl, subst}
use Rattle.wl_expr.specs.Stamped.{Stamped, plain}
use Rattle.wl_expr.specs.Words.{applied}
use Rattle.wl_ports.proofs.AsciiNames.{ascii_is_name}
use Rattle.wl_state.specs.Played.{Makes, trees}
use Rattle.wl_state.proofs.RowParts.{made_node}
use Rattle.wl_state.proofs.operands.list.Goals as goal

pub symbol-requires : goal.symbol-requires
symbol-requires c = ascii_is_name (codes "List") refl

pub returns-clause-made : goal.returns-clause-made
returns-clause-made c =
    let es = c.args.elements.now in
    subst (λ (h : Stamped). Makes (applied (plain h) (trees es)) c.node.result) c.in_ok-head.ensures (made_node c.in_ok-head.head es c.node.result c.node.ensures.ok c.node.ensures.large)
