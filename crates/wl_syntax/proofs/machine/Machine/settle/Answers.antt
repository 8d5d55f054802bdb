use Rattle.std.proofs.Common.{sym, ◌∙◌}
use Rattle.wl_syntax.proofs.Flat.{pushed}
use Rattle.wl_syntax.proofs.Steps.{settle_ends, settle_joins}
use Rattle.wl_syntax.proofs.machine.Machine.settle.Goals as goal

pub returns-in_ok-go_on : goal.returns-in_ok-go_on
returns-in_ok-go_on c = settle_ends _ _ _ _ _ _ _ _ c.requires (sym c.ends_element.ensures ∙ c.if-ends_element.true) (pushed _ _ _ c.in_ok-push.ensures.items) c.in_ok-go_on.ensures

pub returns-in_ok-start : goal.returns-in_ok-start
returns-in_ok-start c = settle_joins _ _ _ _ _ _ _ _ c.requires (sym c.ends_element.ensures ∙ c.if-ends_element.false) c.in_ok-push-2.ensures.items c.in_ok-start.ensures
