use Rattle.std.proofs.Common.{ap, subst}
use Rattle.wl_expr.specs.Stamped.{plain}
use Rattle.wl_scan.specs.CellText.{cell_text}
use Rattle.wl_session.specs.CellReading.{reading_of}
use Rattle.wl_session.specs.Reading.{IsReading, Reading}
use Rattle.wl_session.proofs.Answered.{refused_answer, read_answer}
use Rattle.wl_session.proofs.session.Session.answer.Goals as goal

pub returns-in-Err-clause-answered : goal.returns-in-Err-clause-answered
returns-in-Err-clause-answered g c =
    let reads = subst (λ (r : Reading). IsReading (cell_text c.args.cell) r) (ap reading_of c.in-Err.is) c.in_ok-fault.ensures.reads in
    refused_answer c.refuse.result _ _ _ _ c.in-Err.fault reads c.refuse.ensures.end c.refuse.ensures.state c.refuse.ensures.pending

pub returns-in-Ok-clause-answered : goal.returns-in-Ok-clause-answered
returns-in-Ok-clause-answered g c =
    let reads = subst (λ (r : Reading). IsReading (cell_text c.args.cell) r) (ap reading_of c.in-Ok.is) c.in_ok-fault.ensures.reads in
    read_answer c.answer_read.result _ _ _ _ (plain c.in-Ok.input) reads c.answer_read.ensures.end c.answer_read.ensures.state c.answer_read.ensures.pending
