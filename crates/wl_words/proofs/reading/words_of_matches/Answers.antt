use Rattle.clap.specs.Words.{found_of}
use Rattle.wl_words.proofs.Matches.{read, refused_steps, refused_total, refused_form, refused_task}
use Rattle.wl_words.proofs.reading.words_of_matches.Goals as goal

pub returns-in_err-steps : goal.returns-in_err-steps
returns-in_err-steps c = rw c.from_residual.ensures (refused_steps (found_of c.args.matches.now) _ c.get_str.ensures c.in_err-steps.ensures)

pub returns-in_err-total : goal.returns-in_err-total
returns-in_err-total c = rw c.from_residual-in_err-total.ensures (refused_total (found_of c.args.matches.now) _ c.get_str-2.ensures c.in_err-total.ensures)

pub returns-in_err-form : goal.returns-in_err-form
returns-in_err-form c = rw c.from_residual-in_err-form.ensures (refused_form (found_of c.args.matches.now) _ c.get_str-3.ensures c.in_err-form.ensures)

pub returns-in_err-task : goal.returns-in_err-task
returns-in_err-task c = rw c.from_residual-in_err-task.ensures (refused_task (found_of c.args.matches.now) _ _ c.get_str-4.ensures c.get_str-5.ensures c.in_err-task.ensures)

pub returns : goal.returns
returns c =
    read (found_of c.args.matches.now) _ _ _ _ _ c.get_str.ensures c.get_str-2.ensures c.get_str-3.ensures c.get_str-4.ensures c.get_str-5.ensures _ _ _ _
    c.in_ok-steps.ensures c.in_ok-total.ensures c.in_ok-form.ensures c.in_ok-task.ensures
