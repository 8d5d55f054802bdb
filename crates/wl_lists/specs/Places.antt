-- Places of elements, as indices name them.
use Rattle.std.specs.Prelude.{ℕ, ℤ, ◌-◌, ◌&&◌, nat_le, nat_lt, Option, Some, None, if◌then◌else◌, unsigned_abs}
use Rattle.std.specs.Int.{is_negative}

-- the place from 0 of an index that is from 1, or from -1 backwards, where there is such an element
abbrev pub place_of : ℕ → ℤ → Option ℕ
place_of size n =
    if nat_lt 0 (unsigned_abs n) && nat_le (unsigned_abs n) size
    then Some (if is_negative n then size - unsigned_abs n else unsigned_abs n - 1)
    else None
