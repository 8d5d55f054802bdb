use Rattle.std.proofs.Common.{◌≡◌, None, sym, subst}
use Rattle.wl_expr.specs.Stamped.{Stamped, from_list, node, plain}
use Rattle.wl_expr.specs.Words.{applied}
use Rattle.wl_state.specs.Honest.{HonestIn}
use Rattle.wl_state.specs.Played.{Makes, trees}
use Rattle.wl_state.proofs.RowParts.{made_node, if_ok_more}
use Rattle.wl_state.proofs.Values.{built_honest}
use Rattle.wl_state.proofs.operands.form.Goals as goal

pub returns-clause-made : goal.returns-clause-made
returns-clause-made c =
    let es = c.args.elements.now in
    subst (λ (h : Stamped). Makes (applied (plain h) (trees es)) c.node.result) c.in_ok-head.ensures (made_node c.in_ok-head.head es c.node.result c.node.ensures.ok c.node.ensures.large)

pub returns-clause-honest : goal.returns-clause-honest
returns-clause-honest c a all =
    let es = c.args.elements.now in
    let h = c.in_ok-head.head in
    if_ok_more c.node.result (λ e. e ≡ node None h (from_list es)) (HonestIn a) (λ e w. subst (HonestIn a) (sym w) (built_honest a h es (subst (HonestIn a) (sym c.in_ok-head.ensures) tt) all)) c.node.ensures.ok
