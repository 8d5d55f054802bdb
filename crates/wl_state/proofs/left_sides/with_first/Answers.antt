use Rattle.std.proofs.Common.{◌≡◌, List, None, slice_set, sym, ap, ◌∙◌, subst}
use Rattle.std.proofs.lemmas.List.Elements.{All-set}
use Rattle.std.specs.List.{All}
use Rattle.wl_expr.specs.Stamped.{Stamped, from_list, node, plain}
use Rattle.wl_expr.specs.Words.{applied}
use Rattle.wl_state.specs.Honest.{HonestIn}
use Rattle.wl_state.specs.Played.{Makes, trees}
use Rattle.wl_state.proofs.RowParts.{made_node, if_ok_more}
use Rattle.wl_state.proofs.Values.{built_honest}
use Rattle.wl_state.proofs.left_sides.with_first.Goals as goal

pub returns-clause-made : goal.returns-clause-made
returns-clause-made c l ts e =
    let h = c.args.head.now in
    let f = c.args.first in
    let same = c.as_slice.ensures.value ∙ ap (λ (xs : List Stamped). slice_set xs 0 f) (c.in_ok-changed.ensures ∙ e) in
    subst (λ (us : List Stamped). Makes (applied (plain h) (trees us)) c.node.result) same (made_node h c.as_slice.result.now c.node.result c.node.ensures.ok c.node.ensures.large)

pub returns-clause-honest : goal.returns-clause-honest
returns-clause-honest c a x y z =
    let h = c.args.head.now in
    let es = c.as_slice.result.now in
    let all = subst (All (HonestIn a)) (sym c.as_slice.ensures.value) (All-set (HonestIn a) c.in_ok-changed.changed.items 0 c.args.first y (subst (All (HonestIn a)) (sym c.in_ok-changed.ensures) z)) in
    if_ok_more c.node.result (λ e. e ≡ node None h (from_list es)) (HonestIn a) (λ e w. subst (HonestIn a) (sym w) (built_honest a h es x all)) c.node.ensures.ok
