-- The table of arithmetic built-ins: which row a name has.
use Rattle.std.specs.Prelude.{List, [], ◌∷◌, Option, Some, None, codes, bytes_eq, if◌then◌else◌}
use Rattle.wl_exact.specs.Arithmetic.{floor_of}
use Rattle.wl_expr.specs.Applied.{Applied, unchanged}
use Rattle.wl_expr.specs.Tree.{Tree}
use Rattle.wl_expr.specs.Words.{Name, is_int, is_number, is_text, is_list, is_true}
use Rattle.wl_algebra.specs.Comparisons.{equal_row, unequal_row, comparison_row, less, less_equal, greater, greater_equal, inequality_row, same_row, unsame_row, not_row}
use Rattle.wl_algebra.specs.Extremes.{max_row, min_row}
use Rattle.wl_algebra.specs.Factorials.{factorial_row}
use Rattle.wl_algebra.specs.Numbers.{of_number, absolute, sign, ceiling, numerator, denominator, of_pair, modulo, quotient, rational, gcd_row}
use Rattle.wl_algebra.specs.Powers.{power_row}
use Rattle.wl_algebra.specs.Products.{times_row}
use Rattle.wl_algebra.specs.Questions.{question, is_even, is_odd, is_atom}
use Rattle.wl_algebra.specs.Sums.{plus_row}

abbrev pub Row : Type 0
Row = List Tree → Applied

abbrev pub rows : List (Name × Row)
rows =
    (codes "Plus", plus_row) ∷ (codes "Times", times_row) ∷ (codes "Power", power_row)
    ∷ (codes "Abs", of_number absolute) ∷ (codes "Sign", of_number sign) ∷ (codes "Floor", of_number floor_of) ∷ (codes "Ceiling", of_number ceiling)
    ∷ (codes "Numerator", of_number numerator) ∷ (codes "Denominator", of_number denominator)
    ∷ (codes "Mod", of_pair modulo) ∷ (codes "Quotient", of_pair quotient) ∷ (codes "Rational", of_pair rational)
    ∷ (codes "GCD", gcd_row) ∷ (codes "Max", max_row) ∷ (codes "Min", min_row) ∷ (codes "Factorial", factorial_row)
    ∷ (codes "IntegerQ", question is_int) ∷ (codes "EvenQ", question is_even) ∷ (codes "OddQ", question is_odd) ∷ (codes "NumberQ", question is_number)
    ∷ (codes "AtomQ", question is_atom) ∷ (codes "StringQ", question is_text) ∷ (codes "ListQ", question is_list) ∷ (codes "TrueQ", question is_true)
    ∷ (codes "Equal", equal_row) ∷ (codes "Unequal", unequal_row) ∷ (codes "Less", comparison_row less) ∷ (codes "LessEqual", comparison_row less_equal)
    ∷ (codes "Greater", comparison_row greater) ∷ (codes "GreaterEqual", comparison_row greater_equal) ∷ (codes "Inequality", inequality_row)
    ∷ (codes "SameQ", same_row) ∷ (codes "UnsameQ", unsame_row) ∷ (codes "Not", not_row) ∷ []

abbrev pub row_in : Name → List (Name × Row) → Option Row
row_in x [] = None
row_in x (r ∷ rs) = if bytes_eq x r.0 then Some r.1 else row_in x rs

abbrev pub row_of : Name → Option Row
row_of x = row_in x rows

-- for another name the expression stays
abbrev pub by_row : Option Row → List Tree → Applied
by_row None es = unchanged
by_row (Some r) es = r es

abbrev pub apply : Name → List Tree → Applied
apply x es = by_row (row_of x) es
