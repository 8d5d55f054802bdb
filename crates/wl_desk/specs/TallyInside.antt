-- The counts of a tally by their full names.
use Rattle.std.specs.Prelude.{map}
use Rattle.std.specs.String.{string_bytes}
use Rattle.wl_desk.specs.Desk.{Counts}
use Rattle.wl_desk.specs.declared.tally.Tally.TheInside.{Inside}

abbrev pub counts_in : Inside → Counts
counts_in a = map (λ p. (string_bytes p.0, p.1)) a.counts.entries
