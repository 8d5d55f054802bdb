-- What the code has of a value and of lines, in the words of the line loop.
use Rattle.std.specs.Prelude.{List, [], ◌∷◌, Option, Some, None}
use Rattle.wl_expr.specs.Stamped.{plain}
use Rattle.wl_expr.specs.Words.{Bytes}
use Rattle.wl_session.specs.Line as line
use Rattle.wl_session.specs.declared.shown.Unwrapped.{Unwrapped}

abbrev pub unwrapped_of : Unwrapped → line.Unwrapped
unwrapped_of u = record { wrapper = u.wrapper; kept = plain u.kept }

-- one line or none
abbrev pub lines_of : Option Bytes → List Bytes
lines_of None = []
lines_of (Some text) = text ∷ []
