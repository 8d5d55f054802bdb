use Rattle.wl_words.proofs.OneOption.{read_steps, read_total, read_form, read_demo}
use Rattle.wl_words.proofs.laws.words_of_one_option.Goals as goal

pub returns : goal.returns
returns c = record { steps = read_steps; total = read_total; form = read_form; demo = read_demo }
