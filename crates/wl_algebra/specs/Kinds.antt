-- The rows of the table, by their kinds.
use Rattle.std.specs.Prelude.{Bool}
use Rattle.wl_exact.specs.Arithmetic.{floor_of}
use Rattle.wl_exact.specs.Fraction.{Fraction}
use Rattle.wl_expr.specs.Tree.{Tree}
use Rattle.wl_expr.specs.Words.{is_int, is_number, is_text, is_list, is_true}
use Rattle.wl_algebra.specs.Comparisons as comparison
use Rattle.wl_algebra.specs.Comparisons.{equal_row, unequal_row, comparison_row, inequality_row, same_row, unsame_row, not_row}
use Rattle.wl_algebra.specs.Extremes.{best_of_spliced}
use Rattle.wl_algebra.specs.Factorials.{factorial_row}
use Rattle.wl_algebra.specs.Numbers.{of_number, absolute, sign, ceiling, numerator, denominator, of_pair, modulo, quotient, rational, gcd_row}
use Rattle.wl_algebra.specs.Powers.{power_row}
use Rattle.wl_algebra.specs.Products.{times_row}
use Rattle.wl_algebra.specs.Questions.{question, is_even, is_odd, is_atom}
use Rattle.wl_algebra.specs.Standings.{better_by}
use Rattle.wl_algebra.specs.Sums.{plus_row}
use Rattle.wl_algebra.specs.Table.{Row}
use Rattle.wl_algebra.specs.declared.numbers.Measure.{Measure}
use Rattle.wl_algebra.specs.declared.numbers.Measure.TheVariants as measure
use Rattle.wl_algebra.specs.declared.questions.Question.{Question}
use Rattle.wl_algebra.specs.declared.questions.Question.TheVariants as ask
use Rattle.wl_algebra.specs.declared.comparisons.Relation.{Relation}
use Rattle.wl_algebra.specs.declared.comparisons.Relation.TheVariants as relation
use Rattle.wl_algebra.specs.declared.kind.Kind as kind
use Rattle.wl_algebra.specs.declared.kind.Kind.TheVariants.{Plus, Times, Power, Measure as Of, Mod, Quotient, Rational, Gcd, Extreme as Best, Factorial, Question as Asked, Equal, Unequal, Comparison, Inequality, SameQ, UnsameQ, Not}

abbrev pub measure_by : Measure → Fraction → Fraction
measure_by measure.Absolute = absolute
measure_by measure.Sign = sign
measure_by measure.Floor = floor_of
measure_by measure.Ceiling = ceiling
measure_by measure.Numerator = numerator
measure_by measure.Denominator = denominator

abbrev pub question_by : Question → Tree → Bool
question_by ask.Integer = is_int
question_by ask.Even = is_even
question_by ask.Odd = is_odd
question_by ask.Number = is_number
question_by ask.Atom = is_atom
question_by ask.Text = is_text
question_by ask.List = is_list
question_by ask.True = is_true

abbrev pub relation_by : Relation → comparison.Relation
relation_by relation.Less = comparison.less
relation_by relation.LessEqual = comparison.less_equal
relation_by relation.Greater = comparison.greater
relation_by relation.GreaterEqual = comparison.greater_equal
relation_by relation.Equal = comparison.equal
relation_by relation.Unequal = comparison.unequal

abbrev pub row_by : kind.Kind → Row
row_by Plus = plus_row
row_by Times = times_row
row_by Power = power_row
row_by (Of m) = of_number (measure_by m)
row_by Mod = of_pair modulo
row_by Quotient = of_pair quotient
row_by Rational = of_pair rational
row_by Gcd = gcd_row
row_by (Best e) = best_of_spliced (better_by e)
row_by Factorial = factorial_row
row_by (Asked q) = question (question_by q)
row_by Equal = equal_row
row_by Unequal = unequal_row
row_by (Comparison r) = comparison_row (relation_by r)
row_by Inequality = inequality_row
row_by SameQ = same_row
row_by UnsameQ = unsame_row
row_by Not = not_row
