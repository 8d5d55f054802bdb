-- Laws of reads and their versions.
use Rattle.std.specs.Prelude.{List}
use Rattle.wl_stamps.specs.Reads.{Read, AreDistinct, noted}

-- a name is noted once
abbrev pub NamesStandOnce : Type 0
NamesStandOnce = (rs : List Read) (r : Read) → AreDistinct rs → AreDistinct (noted rs r)
