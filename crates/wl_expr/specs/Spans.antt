-- The bounds of an iterator, and those that `Range` is given: the values from the first to the last by the step, where the first and the step are 1 if left out.
use Rattle.std.specs.Prelude.{List, [], ◌∷◌, Option, None}
use Rattle.wl_exact.specs.Span.{Span, one, with_step}
use Rattle.wl_expr.specs.Tree.{Tree, num}

-- all bounds are numbers, and the step isn't 0
abbrev pub span_of : List Tree → Option Span
span_of (num b ∷ []) = with_step one b one
span_of (num a ∷ num b ∷ []) = with_step a b one
span_of (num a ∷ num b ∷ num s ∷ []) = with_step a b s
span_of ts = None
