-- How the code's bounds of an iterator stand for the definition's.
use Rattle.std.specs.Prelude.{List, ◌++◌, Option, option_map}
use Rattle.wl_exact.specs.Span.{Span, Following, next, ended, overflowed}
use Rattle.wl_expr.specs.Tree.{Tree}
use Rattle.wl_lists.specs.declared.ranges.Bounds.{Bounds}
use Rattle.wl_lists.specs.declared.ranges.Coming.{Coming}
use Rattle.wl_lists.specs.declared.ranges.Coming.TheVariants.{Value, Ended, Overflowed}

abbrev pub plain_bounds : Bounds → Span
plain_bounds b = record { from = b.from; to = b.to; by = b.by }

abbrev pub plain_coming : Coming → Following
plain_coming (Value v) = next v
plain_coming Ended = ended
plain_coming Overflowed = overflowed

-- these before the others
abbrev pub put_before : List Tree → Option (List Tree) → Option (List Tree)
put_before ts o = option_map (λ us. ts ++ us) o
