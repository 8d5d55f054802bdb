use Rattle.wl_desk.proofs.Ticks.{ticks_two}
use Rattle.wl_desk.proofs.desk.Desk.issue.Goals as goal

pub returns-in_err-show_again-clause-ticks : goal.returns-in_err-show_again-clause-ticks
returns-in_err-show_again-clause-ticks g c = ticks_two c.args.work.now c.consult-entry.new.work c.show_again.new.work c.consult-entry.ensures.ticks c.show_again.ensures.ticks

pub returns-clause-ticks : goal.returns-clause-ticks
returns-clause-ticks g c = ticks_two c.args.work.now c.consult-entry.new.work c.show_again.new.work c.consult-entry.ensures.ticks c.show_again.ensures.ticks
