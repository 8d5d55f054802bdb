-- The values of an iterator, from one number by steps as far as another. The rules are those of the manual's pages on `Range` and `Table`; where a value overflows is this project's own.
use Rattle.std.specs.Prelude.{Bool, true, false, ◌&&◌, ◌==◌, Option, Some, None, Ok, Err, pos}
use Rattle.std.specs.Int.{is_negative}
use Rattle.std.specs.Ordering.{is_lt}
use Rattle.wl_exact.specs.Arithmetic.{fraction_cmp, checked_sum, is_zero}
use Rattle.wl_exact.specs.Fraction.{Fraction, of_int}

-- the first value, the bound, and the step
pub record Span : Type 0 where
  pub from : Fraction
  pub to : Fraction
  pub by : Fraction

abbrev pub one : Fraction
one = of_int (pos 1)

-- the step isn't 0
abbrev pub with_step : Fraction → Fraction → Fraction → Option Span
with_step a b s = elim (is_zero s) [ true ↦ None | false ↦ Some (record { from = a; to = b; by = s }) ]

-- whether a value lies past the bound, as seen in the step's direction
abbrev pub is_past : Span → Fraction → Bool
is_past s v = elim (is_negative s.by.num) [ true ↦ is_lt (fraction_cmp v s.to) | false ↦ is_lt (fraction_cmp s.to v) ]

-- what comes next: a value, the end, or an overflow
pub data Following : Type 0 where
  next : Fraction → Following
  ended : Following
  overflowed : Following

abbrev pub is_whole : Fraction → Bool
is_whole v = v.den == 1

-- the first value, where it isn't past the bound
abbrev pub first : Span → Following
first s = elim (is_past s s.from) [ true ↦ ended | false ↦ next s.from ]

-- each further value is the one before plus the step; where that sum overflows and both are integers, it lies past the bound
abbrev pub following : Span → Fraction → Following
following s v =
    elim (checked_sum v s.by) [
      | Ok w ↦ elim (is_past s w) [ true ↦ ended | false ↦ next w ]
      | Err f ↦ elim (is_whole v && is_whole s.by) [ true ↦ ended | false ↦ overflowed ]
    ]
