-- What a parse of the command line tells of its words.
use Rattle.std.proofs.Common.{◌≡◌, ◌∙◌, ◌⊎◌, true, List, [], ◌∷◌, Option, None, refl, sym, ap, inl, inr}
use Rattle.clap.specs.Words.{App, IsAmong, Kinds, Row, Text, fault_of, is_simple, is_simple_and_free, matches_of}
use Rattle.clap.specs.declared.error.kind.ErrorKind.{ErrorKind}
use Rattle.clap.specs.declared.error.kind.ErrorKind.TheVariants.{OutOfMemory}
use Rattle.wl_words.specs.Command.{command}
use Rattle.wl_words.specs.Words.{Words, unless_faulty, words_of_matches, words_read}

pub command_is_simple : is_simple command ≡ true
command_is_simple = refl

pub command_is_free : is_simple_and_free command ≡ true
command_is_free = refl

pub taken : (a : App) (words : List Text) (rows : List Row) (w : Option Words) → a ≡ command → rows ≡ matches_of a words → fault_of a words ≡ [] → w ≡ words_of_matches rows → w ≡ words_read words
taken a words rows w own matches faultless is =
    is ∙ ap words_of_matches (matches ∙ ap (λ (b : App). matches_of b words) own)
    ∙ ap (λ (k : Kinds). unless_faulty k (words_of_matches (matches_of command words))) (sym (ap (λ (b : App). fault_of b words) (sym own) ∙ faultless))

among_faults : (k : ErrorKind) (kinds : Kinds) (w : Option Words) → IsAmong k kinds → unless_faulty kinds w ≡ None
among_faults k [] w h = absurd h
among_faults k (x ∷ xs) w h = refl

pub refused : (a : App) (words : List Text) (k : ErrorKind) → a ≡ command → (k ≡ OutOfMemory → ⊥) → (k ≡ OutOfMemory) ⊎ IsAmong k (fault_of a words) → None ≡ words_read words
refused a words k own other (inl memory) = absurd (other memory)
refused a words k own other (inr among) =
    sym (ap (λ (b : App). unless_faulty (fault_of b words) (words_of_matches (matches_of command words))) (sym own)
    ∙ among_faults k (fault_of a words) _ among)
