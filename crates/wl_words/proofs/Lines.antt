-- The laws of command lines.
use Rattle.std.proofs.Common.{refl}
use Rattle.clap.proofs.OnLiterals.{clap_on_literals}
use Rattle.wl_words.specs.Laws.{ReadsNoWords, ReadsTrailingWord, WorkedSteps, WorkedTotals, WorkedForms, WorkedDemos, WorkedFiles}

pub no_words : ReadsNoWords
unfolding clap_on_literals
no_words = refl

pub trailing_word : ReadsTrailingWord
unfolding clap_on_literals
trailing_word word = refl

pub worked_steps : WorkedSteps
unfolding clap_on_literals
worked_steps = (refl, refl, refl, refl, refl, refl, refl, refl, refl, refl, refl)

pub worked_totals : WorkedTotals
unfolding clap_on_literals
worked_totals = (refl, refl, refl, refl)

pub worked_forms : WorkedForms
unfolding clap_on_literals
worked_forms = (refl, refl, refl, refl)

pub worked_demos : WorkedDemos
unfolding clap_on_literals
worked_demos = (refl, refl, refl, refl)

pub worked_files : WorkedFiles
unfolding clap_on_literals
worked_files = (refl, refl, refl, refl, refl, refl, refl)
