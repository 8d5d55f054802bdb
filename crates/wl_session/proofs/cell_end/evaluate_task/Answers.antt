use Rattle.wl_session.proofs.Bare.{bare_honest}
use Rattle.wl_session.proofs.cell_end.evaluate_task.Goals as goal

pub evaluate-requires : goal.evaluate-requires
evaluate-requires g c = bare_honest c.refill.new.self c.args.task c.requires
