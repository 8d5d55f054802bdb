use Rattle.std.proofs.Common.{◌∙◌, sym, subst}
use Rattle.wl_expr.specs.Stamped.{plain}
use Rattle.wl_shape.specs.Answers.{IsShaped}
use Rattle.wl_shape.specs.Shape.{shape}
use Rattle.wl_state.specs.Played.{trees}
use Rattle.wl_state.proofs.Shapings.{not_bared}
use Rattle.wl_state.proofs.shaping.shaped.Goals as goal

pub returns-then-not-changed-clause-shaped : goal.returns-then-not-changed-clause-shaped
returns-then-not-changed-clause-shaped c =
    subst (λ z. IsShaped (shape c.args.attributes (plain c.args.head.now) z) c.arrange.result)
    (sym (not_bared c.args.attributes (trees c.args.values.now) (sym c.requires ∙ c.if-not-changed.true))) c.arrange.ensures.shaped
