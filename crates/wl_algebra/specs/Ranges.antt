-- A natural number, where it is in range.
use Rattle.std.specs.Prelude.{ℕ, pos, Option, Some, None, if◌then◌else◌}
use Rattle.wl_exact.specs.Fraction.{in_range}

abbrev pub in_range_only : ℕ → Option ℕ
in_range_only n = if in_range (pos n) then Some n else None
