use Rattle.std.proofs.Common.{List, ◌∙◌, ap, sym}
use Rattle.std.proofs.lemmas.List.{drop_all}
use Rattle.std.specs.List.{list_any}
use Rattle.std.specs.Prelude.{codes}
use Rattle.wl_expr.specs.Stamped.{Stamped}
use Rattle.wl_expr.specs.Words.{is_form}
use Rattle.wl_state.specs.Played.{trees}
use Rattle.wl_state.proofs.Shapings.{shape_stays}
use Rattle.wl_state.proofs.shaping.stays.Goals as goal

pub returns : goal.returns
returns c =
    let l = c.loop-value in
    let n = l.invariant ∙ ap (λ (us : List Stamped). list_any (is_form (codes "Sequence")) (trees us)) (drop_all l.value-index c.args.values.now c.loop-value-test.false) in
    λ e h. shape_stays c.args.attributes (trees c.args.values.now) (sym c.has.ensures ∙ c.if-has.false) (sym c.has-else-has.ensures ∙ c.if-has-2.false) (sym c.has-else-has-2.ensures ∙ c.if-has-3.false) n h
