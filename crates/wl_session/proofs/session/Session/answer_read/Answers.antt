use Rattle.wl_session.proofs.Bare.{bare_honest}
use Rattle.wl_session.proofs.Values.{kept_honest}
use Rattle.wl_session.proofs.session.Session.answer_read.Goals as goal

pub put_line-requires-clause-input : goal.put_line-requires-clause-input
put_line-requires-clause-input g c = bare_honest c.evaluate_task.new.kernel c.args.input.now c.requires.bare

pub put_line-requires-clause-value : goal.put_line-requires-clause-value
put_line-requires-clause-value g c = kept_honest c.evaluate_task.new.kernel c.in_ok-end.end.value c.in_ok-value.value.kept c.in_ok-value.ensures.passed c.in_ok-end.ensures.honest
