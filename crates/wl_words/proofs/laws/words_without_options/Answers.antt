use Rattle.wl_words.proofs.Lines.{no_words, trailing_word}
use Rattle.wl_words.proofs.PlainWord.{plain_word}
use Rattle.wl_words.proofs.laws.words_without_options.Goals as goal

pub returns : goal.returns
returns c = record { none = no_words; plain = plain_word; trailing = trailing_word }
