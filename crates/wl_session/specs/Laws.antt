-- Laws over the definitions of this crate.
use Rattle.std.specs.Prelude.{◌≡◌, ℕ, List}
use Rattle.wl_session.specs.Reading.{Reading, AllRead}
use Rattle.wl_session.specs.Transcript.{cells_read, transcript}
use Rattle.wl_session.specs.Words.{Asked}

-- cells are read in one way, so a command line and its bytes have one transcript
abbrev pub OneTranscript : Type 0
OneTranscript =
    (asked : Asked) (bytes : List ℕ) (rs qs : List Reading) → AllRead (cells_read asked bytes) rs → AllRead (cells_read asked bytes) qs →
    transcript asked bytes rs ≡ transcript asked bytes qs
