use Rattle.std.proofs.Common.{ap, ◌∙◌, Ok}
use Rattle.wl_state.proofs.Answering.{answered_fault, answered_unchanged, answered_gives, answered_notice, answered_told, honest_answer}
use Rattle.wl_state.proofs.Rows.{later}
use Rattle.wl_state.proofs.evaluator.Evaluator.answered.Goals as goal

pub returns-in-Err-clause-played : goal.returns-in-Err-clause-played
returns-in-Err-clause-played g c a h = answered_fault a _ _ c.args.answer c.in-Err.fault _ c.in-Err.is h c.fault.ensures.played

pub returns-in-Ok-Unchanged-clause-played : goal.returns-in-Ok-Unchanged-clause-played
returns-in-Ok-Unchanged-clause-played g c a h = (answered_unchanged a c.args.self.now c.args.answer h (c.in-Ok-Unchanged.is ∙ ap Ok c.in-Ok-Unchanged.field-0-is), tt)

pub returns-in-Ok-Gives-clause-played : goal.returns-in-Ok-Gives-clause-played
returns-in-Ok-Gives-clause-played g c a h =
    let q = c.in-Ok-Gives.is ∙ ap Ok c.in-Ok-Gives.field-0-is in
    (answered_gives a c.args.self.now c.args.answer h c.in-Ok-Gives.e q, honest_answer c.args.self.now c.args.answer _ q c.requires.honest)

pub returns-in_ok-notify-in-Ok-Notice-clause-played : goal.returns-in_ok-notify-in-Ok-Notice-clause-played
returns-in_ok-notify-in-Ok-Notice-clause-played g c a h =
    let q = c.in-Ok-Notice.is ∙ ap Ok c.in-Ok-Notice.field-0-is in
    let p = c.in_ok-notify-in-Ok-Notice.ensures.played in
    (answered_notice a c.args.self.now c.args.answer h c.in-Ok-Notice.notice c.in-Ok-Notice.e _ q p, later p _ (honest_answer c.args.self.now c.args.answer _ q c.requires.honest))

pub returns-in_ok-notify-in-Ok-Told-clause-played : goal.returns-in_ok-notify-in-Ok-Told-clause-played
returns-in_ok-notify-in-Ok-Told-clause-played g c a h =
    let q = c.in-Ok-Told.is ∙ ap Ok c.in-Ok-Told.field-0-is in
    (answered_told a c.args.self.now c.args.answer h c.in-Ok-Told.notice _ q c.in_ok-notify-in-Ok-Told.ensures.played, tt)
