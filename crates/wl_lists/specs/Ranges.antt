-- `Range[n]`, `Range[a, b]`, `Range[a, b, s]`, s not 0. Reference page of it.
use Rattle.std.specs.Prelude.{ℕ, zero, suc, List, [], ◌∷◌, Option, Some, None}
use Rattle.wl_exact.specs.Fraction.{Fraction}
use Rattle.wl_exact.specs.Span.{Span, Following, next, ended, overflowed, first, following}
use Rattle.wl_expr.specs.Applied.{Applied, unchanged, gives, noticed, overflow}
use Rattle.wl_expr.specs.Spans.{span_of}
use Rattle.wl_expr.specs.Tree.{Tree, num}
use Rattle.wl_expr.specs.Words.{list_of, overflow_form}

-- the values of an iterator, at most n of them; none where one overflows
abbrev pub with_value : Fraction → Option (List Tree) → Option (List Tree)
with_value v None = None
with_value v (Some ts) = Some (num v ∷ ts)

abbrev pub values : ℕ → Span → Following → Option (List Tree)
values zero s f = Some []
values (suc n) s ended = Some []
values (suc n) s overflowed = None
values (suc n) s (next v) = with_value v (values n s (following s v))

abbrev pub ranged : Option (List Tree) → Applied
ranged None = noticed overflow overflow_form
ranged (Some ts) = gives (list_of ts)

-- A list of this many numbers is too heavy: there the size limit is met before a later overflow.
abbrev pub too_many : ℕ
too_many = 3999996

abbrev pub range_over : Option Span → Applied
range_over None = unchanged
range_over (Some s) = ranged (values too_many s (first s))

abbrev pub range_row : List Tree → Applied
range_row es = range_over (span_of es)
