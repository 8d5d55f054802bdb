use Rattle.std.proofs.Common.{◌≡◌, ◌≢◌, ◌∙◌, ap, length}
use Rattle.std.proofs.lemmas.Result.{IfOk-weaker}
use Rattle.wl_expr.specs.Stamped.{plain}
use Rattle.wl_session.specs.Shown.{unwrapped_of}
use Rattle.wl_session.proofs.Values.{unwrapped_other}
use Rattle.wl_session.proofs.shown.unwrap.Goals as goal

pub returns-then-args-ne1-clause-value : goal.returns-then-args-ne1-clause-value
returns-then-args-ne1-clause-value c =
    IfOk-weaker c.bare-then-args-ne1.result _ _ (λ u e. ap unwrapped_of e ∙ unwrapped_other (plain c.args.value.now) (plain c.in-Node.head.now) c.in-Node.args.now c.in-Node.ensures.plain c.if-args-ne1.true) c.bare-then-args-ne1.ensures
