use Rattle.std.proofs.Common.{IfOk, sym, refl, subst₂}
use Rattle.wl_state.specs.Replacing.{IsRebuilt, each_of, part_of}
use Rattle.wl_state.specs.declared.replace_rows.Replaced.{Replaced}
use Rattle.wl_state.specs.declared.replace_rows.ReplacedEach.{ReplacedEach}
use Rattle.wl_state.proofs.ReplaceRowParts.{is_rebuilt}
use Rattle.wl_state.proofs.replace_rows.rebuilt.Goals as goal

pub returns-in-Same : goal.returns-in-Same
returns-in-Same c =
    let h = c.args.head.now in
    let es = c.args.args.now in
    subst₂ (λ (x : Replaced) (y : ReplacedEach). IfOk c.changed.result (λ r. IsRebuilt h es (part_of h x) (each_of es y) r)) (sym c.in-Changed-new_head.is) (sym c.in-Same.is)
    (is_rebuilt h es c.in-Changed-new_head.h es es _ _ refl c.node.ensures.ok c.node.ensures.large c.changed.ensures)

pub returns-in-Same-new_head-2 : goal.returns-in-Same-new_head-2
returns-in-Same-new_head-2 c =
    let h = c.args.head.now in
    let es = c.args.args.now in
    let n = c.node-in-Same-new_head-2 in
    subst₂ (λ (x : Replaced) (y : ReplacedEach). IfOk c.changed-in-Same-new_head-2.result (λ r. IsRebuilt h es (part_of h x) (each_of es y) r)) (sym c.in-Same-new_head-2.is) (sym c.in-Changed.is)
    (is_rebuilt h es h c.as_slice.result.now c.in-Changed.us.items _ _ c.as_slice.ensures.value n.ensures.ok n.ensures.large c.changed-in-Same-new_head-2.ensures)

pub returns : goal.returns
returns c =
    let h = c.args.head.now in
    let es = c.args.args.now in
    let n = c.node-in-Changed-new_head-2 in
    subst₂ (λ (x : Replaced) (y : ReplacedEach). IfOk c.changed-in-Changed-new_head-2.result (λ r. IsRebuilt h es (part_of h x) (each_of es y) r)) (sym c.in-Changed-new_head-2.is) (sym c.in-Changed.is)
    (is_rebuilt h es c.in-Changed-new_head-2.h c.as_slice-in-Changed-new_head-2.result.now c.in-Changed.us.items _ _ c.as_slice-in-Changed-new_head-2.ensures.value n.ensures.ok n.ensures.large c.changed-in-Changed-new_head-2.ensures)
