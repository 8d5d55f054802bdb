use Rattle.std.proofs.Common.{Ok, ap, ◌∙◌}
use Rattle.wl_expr.specs.Stamped.{plain}
use Rattle.wl_state.specs.Played.{trees}
use Rattle.wl_semantics.specs.ScopeRows.{function_applied}
use Rattle.wl_state.proofs.SlotParts.{given_fault, given_honest, given_none, given_some}
use Rattle.wl_state.proofs.evaluator.Evaluator.function_row.Goals as goal

pub returns-in-Err-clause-played : goal.returns-in-Err-clause-played
returns-in-Err-clause-played g c =
    let r = c.function_applied in
    given_fault (function_applied (plain c.args.f.now) (trees c.args.args.now)) c.args.self.now c.fault.new.self r.result c.in-Err.fault c.fault.result c.in-Err.is r.ensures.made c.fault.ensures.played

pub returns-in-Ok-None-clause-played : goal.returns-in-Ok-None-clause-played
returns-in-Ok-None-clause-played g c =
    let r = c.function_applied in
    given_none (function_applied (plain c.args.f.now) (trees c.args.args.now)) c.args.self.now r.result (c.in-Ok-None.is ∙ ap Ok c.in-Ok-None.field-0-is) r.ensures.made

pub returns-in-Ok-Some-clause-played : goal.returns-in-Ok-Some-clause-played
returns-in-Ok-Some-clause-played g c =
    let k = c.args.self.now in
    let r = c.function_applied in
    let e = c.in-Ok-Some.e in
    given_some (function_applied (plain c.args.f.now) (trees c.args.args.now)) k r.result e (c.in-Ok-Some.is ∙ ap Ok c.in-Ok-Some.field-0-is) r.ensures.made c.weight-weight.ensures.fits
    (given_honest k c.args.f.now c.args.args.now r.result e (c.in-Ok-Some.is ∙ ap Ok c.in-Ok-Some.field-0-is) r.ensures.passed c.requires.function c.requires.args)
