use Rattle.wl_expr.specs.Stamped.{plain}
use Rattle.wl_state.proofs.Lent.{wrapped_is}
use Rattle.wl_state.proofs.runs.wrapped.Goals as goal

pub returns-in-Ok-clause-value : goal.returns-in-Ok-clause-value
returns-in-Ok-clause-value c =
    wrapped_is c.in-Ok.node _ _ _ (plain c.args.e.now) c.args.places.now c.in-Ok.ensures.ok c.as_slice.ensures.value c.head_or_itself.ensures.value c.in_ok-elements.ensures.value
