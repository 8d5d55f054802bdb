-- Throw and Catch, Abort and CheckAbort, Break and Continue. Reference pages of these.
use Rattle.std.specs.Prelude.{true, false, List, [], ◌∷◌, Option, Some, None}
use Rattle.wl_expr.specs.Tree.{Tree}
use Rattle.wl_semantics.specs.State.{End, Thrown, Aborted, Broke, Continued}
use Rattle.wl_semantics.specs.Prog.{Prog, stop, ◌>>=◌, end_of, now, valued, unchanged, result}
use Rattle.wl_semantics.specs.Match.{matches}

-- `Throw[v]`, `Throw[v, t]`
abbrev pub throw_row : List Tree → Prog (Option Tree)
throw_row (v ∷ []) = stop (Thrown v None)
throw_row (v ∷ t ∷ []) = stop (Thrown v (Some t))
throw_row es = unchanged

-- what isn't caught here is the row's end
abbrev pub passed_on : End → Prog (Option Tree)
passed_on e = do
  v ← now (valued e)
  result v

-- catches a Throw without a tag
abbrev pub catch_plain : End → Prog (Option Tree)
catch_plain (Thrown v None) = result v
catch_plain e = passed_on e

-- catches a Throw whose tag matches p
abbrev pub catch_tagged : Tree → End → Prog (Option Tree)
catch_tagged p (Thrown v (Some t)) = do
  b ← matches p t
  elim b [ true ↦ result v | false ↦ stop (Thrown v (Some t)) ]
catch_tagged p e = passed_on e

-- `Catch[e]`, `Catch[e, p]`
abbrev pub catch_row : List Tree → Prog (Option Tree)
catch_row (e ∷ []) = do
  u ← end_of e
  catch_plain u
catch_row (e ∷ p ∷ []) = do
  u ← end_of e
  catch_tagged p u
catch_row es = unchanged

-- `Abort[]`
abbrev pub abort_row : List Tree → Prog (Option Tree)
abort_row [] = stop Aborted
abort_row es = unchanged

-- f where e aborts
abbrev pub after_abort : Tree → End → Prog (Option Tree)
after_abort f Aborted = result f
after_abort f e = passed_on e

-- `CheckAbort[e, f]`
abbrev pub check_abort_row : List Tree → Prog (Option Tree)
check_abort_row (e ∷ f ∷ []) = do
  u ← end_of e
  after_abort f u
check_abort_row es = unchanged

-- `Break[]`
abbrev pub break_row : List Tree → Prog (Option Tree)
break_row [] = stop Broke
break_row es = unchanged

-- `Continue[]`
abbrev pub continue_row : List Tree → Prog (Option Tree)
continue_row [] = stop Continued
continue_row es = unchanged
