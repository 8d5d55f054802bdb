-- The rows that look at their elements alone, of arithmetic, lists and strings, with the messages that come of them.
use Rattle.std.specs.Prelude.{List, [], ◌∷◌, Option, codes}
use Rattle.wl_expr.specs.Tree.{Tree}
use Rattle.wl_expr.specs.Words.{Name}
use Rattle.wl_expr.specs.Applied.{Notice, overflow, infinite, indeterminate, no_part, Applied, unchanged, gives, noticed, told}
use Rattle.wl_algebra.specs.Table as algebra
use Rattle.wl_lists.specs.Table as lists
use Rattle.wl_semantics.specs.Prog.{Prog, ◌>>=◌, message, result}
use Rattle.wl_semantics.specs.Prog as prog

-- the message of a notice
abbrev pub notify : Notice → Prog (Unit {0})
notify overflow = message (codes "General") (codes "ovfl") []
notify (infinite e) = message (codes "Power") (codes "infy") (e ∷ [])
notify (indeterminate e) = message (codes "Power") (codes "indet") (e ∷ [])
notify (no_part i e) = message (codes "Part") (codes "partw") (i ∷ e ∷ [])

abbrev pub applied_by : Applied → Prog (Option Tree)
applied_by unchanged = prog.unchanged
applied_by (gives t) = result t
applied_by (noticed n t) = do
  _ ← notify n
  result t
applied_by (told n) = do
  _ ← notify n
  prog.unchanged

-- the names of the two tables differ
abbrev pub or_lists : Applied → Name → List Tree → Applied
or_lists unchanged x es = lists.apply x es
or_lists a x es = a

abbrev pub pure_row : Name → List Tree → Prog (Option Tree)
pure_row x es = applied_by (or_lists (algebra.apply x es) x es)
