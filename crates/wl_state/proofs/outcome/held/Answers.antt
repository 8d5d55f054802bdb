use Rattle.std.proofs.Common.{[], ◌∷◌, List, codes, refl, subst}
use Rattle.wl_expr.specs.Stamped.{Stamped, plain}
use Rattle.wl_expr.specs.Words.{applied}
use Rattle.wl_ports.proofs.AsciiNames.{ascii_is_name}
use Rattle.wl_state.specs.Played.{Makes, trees}
use Rattle.wl_state.proofs.RowParts.{made_node}
use Rattle.wl_state.proofs.outcome.held.Goals as goal

pub symbol-requires : goal.symbol-requires
symbol-requires c = ascii_is_name (codes "Hold") refl

pub returns-clause-made : goal.returns-clause-made
returns-clause-made c =
    let made = made_node c.in_ok-head.head c.from_ref.result.now c.node.result c.node.ensures.ok c.node.ensures.large in
    let one = subst (λ (es : List Stamped). Makes (applied (plain c.in_ok-head.head) (trees es)) c.node.result) c.from_ref.ensures.value made in
    subst (λ (h : Stamped). Makes (applied (plain h) (plain c.args.e.now ∷ [])) c.node.result) c.in_ok-head.ensures one
