-- The numbers of a command line.
use Rattle.std.specs.Prelude.{ℕ, Bool, false, List, [], ◌∷◌, ◌&&◌, Option, Some, None, nat_le, if◌then◌else◌}
use Rattle.std.specs.Char.{is_ascii_digit}
use Rattle.std.specs.List.{list_all}
use Rattle.std.specs.Str.Parse.{digits_value}

-- one or more of the digits 0 to 9
abbrev pub is_numeral : List ℕ → Bool
is_numeral [] = false
is_numeral (b ∷ bs) = list_all is_ascii_digit (b ∷ bs)

abbrev pub between : ℕ → ℕ → ℕ → Option ℕ
between least greatest n = if nat_le least n && nat_le n greatest then Some n else None

-- the number from 1 to `greatest` that a text writes
abbrev pub number : ℕ → List ℕ → Option ℕ
number greatest text = if is_numeral text then between 1 greatest (digits_value 10 text) else None
