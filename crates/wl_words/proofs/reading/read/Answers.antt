use Rattle.std.proofs.Common.{◌∙◌, ap}
use Rattle.clap.specs.Words.{is_simple, is_simple_and_free}
use Rattle.wl_words.proofs.Told.{command_is_simple, command_is_free, taken, refused}
use Rattle.wl_words.proofs.reading.read.Goals as goal

pub returns-in-Ok : goal.returns-in-Ok
returns-in-Ok c =
    let own = c.in_ok-command.ensures in
    taken _ _ _ _ own (c.in-Ok.ensures.matches (ap is_simple own ∙ command_is_simple)).0
    (c.in-Ok.ensures.kinds (ap is_simple_and_free own ∙ command_is_free)) c.words_of_matches.ensures

pub returns : goal.returns
returns c =
    let own = c.in_ok-command.ensures in
    refused _ _ _ own (λ memory. c.in_default.not-OutOfMemory (c.kind.ensures ∙ memory)) (c.in-Err.ensures.kinds (ap is_simple_and_free own ∙ command_is_free))
