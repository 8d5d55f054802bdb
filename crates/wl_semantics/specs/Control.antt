-- The rows of loops and branches, played: what each question asks of the kernel. Reference pages of `Do` and `Table`; what becomes of an iterator that is Protected, or a limit, is this project's own.
use Rattle.std.specs.Prelude.{Bool, true, false, ◌&&◌, ◌||◌, not, if◌then◌else◌, List, [], ◌∷◌, Option, Some, None, Result, Ok, Err, bytes_eq, codes}
use Rattle.wl_expr.specs.Tree.{Tree, symbol}
use Rattle.wl_expr.specs.Words.{Name, elements, name_of, overflow_form}
use Rattle.wl_semantics.specs.LeftSides.{is_limit, limit_allows}
use Rattle.wl_control.specs.Asks.{Asks, gives, stays, overflows, too_large, eval, eval_catching, matches, let_be, pass, Caught, value, broke, continued}
use Rattle.wl_control.specs.Iterators.{Iterator, iterator}
use Rattle.wl_control.specs.Table.{row_of}
use Rattle.wl_semantics.specs.State.{End, Value, Thrown, Aborted, BudgetEnded, Broke, Continued}
use Rattle.wl_semantics.specs.Prog.{Prog, done, stop, look, step, act, ◌>>=◌, ◌>>◌, ended, now, end_of, value_of_built, tick, message, sized, is_protected, unchanged, result}
use Rattle.wl_semantics.specs.Prog as prog
use Rattle.wl_semantics.specs.Scoping.{Taken, take_out, give_back, set_own}
use Rattle.wl_semantics.specs.Match as match

-- `Overflow[]`, with its message
abbrev pub overflow : Prog (Option Tree)
overflow = do
  _ ← message (codes "General") (codes "ovfl") []
  result overflow_form

-- ---- the iterator's name

-- the name in front of bounds
abbrev pub name_before : List Tree → Option Name
name_before [] = None
name_before (i ∷ bs) = name_of i

abbrev pub named_in : Tree → Option Iterator → Option Name
named_in it None = None
named_in it (Some i) = if i.named then name_before (elements it) else None

-- the name that the first iterator of a Do or a Table gives its values to
abbrev pub iterated_name : List Tree → Option Name
iterated_name (b ∷ it ∷ its) = named_in it (iterator it)
iterated_name es = None

abbrev pub iterator_name : Name → List Tree → Option Name
iterator_name x es = if bytes_eq x (codes "Do") || bytes_eq x (codes "Table") then iterated_name es else None

-- whether the name gets this value: not if it has become Protected, or is a limit for which it isn't allowed; a message tells so, and the pass goes on
abbrev pub may_set : Name → Tree → Prog Bool
may_set x v = do
  p ← is_protected x
  elim p [
    | true ↦ do
      _ ← message (codes "Set") (codes "wrsym") (symbol x ∷ [])
      done false
    | false ↦ elim (is_limit x && not (limit_allows x v)) [
      | true ↦ do
        _ ← message x (codes "limset") (symbol x ∷ v ∷ [])
        done false
      | false ↦ done true
    ]
  ]

-- its own rules are set aside when it gets its first value
abbrev pub taken_once : Name → Option Taken → Prog Taken
taken_once x None = take_out x
taken_once x (Some t) = done t

abbrev pub set_iterator : Option Name → Tree → Option Taken → Prog (Option Taken)
set_iterator None v t = done t
set_iterator (Some x) v t = do
  b ← may_set x v
  elim b [
    | false ↦ done t
    | true ↦ do
      u ← taken_once x t
      _ ← set_own x v
      done (Some u)
  ]

-- ---- a row, played

-- how a row ended, and what it has taken out
pub record Stood : Type 0 where
  pub answer : Result (Option Tree) End
  pub taken : Option Taken

abbrev pub stood : Option Taken → Result (Option Tree) End → Prog Stood
stood t r = done (record { answer = r; taken = t })

-- an end that the row catches, or any other
abbrev pub caught : End → Result Caught End
caught (Value v) = Ok (value v)
caught Broke = Ok broke
caught Continued = Ok continued
caught (Thrown v t) = Err (Thrown v t)
caught Aborted = Err Aborted
caught BudgetEnded = Err BudgetEnded

abbrev pub end_of_built : Tree → Prog Caught
end_of_built t = do
  _ ← sized t
  e ← end_of t
  now (caught e)

-- Each question in turn, where x is the iterator's name. An end stops the row, but what it has taken out is known.
unfoldable pub played : Option Name → Option Taken → Asks → Prog Stood
played x t (gives u) = stood t (Ok (Some u))
played x t stays = stood t (Ok None)
played x t overflows = do
  r ← overflow
  stood t (Ok r)
played x t too_large = do
  r ← ended (prog.too_large {R = Option Tree})
  stood t r
played x t (eval u k) = do
  r ← ended (value_of_built u)
  elim r [ Ok v ↦ played x t (k v) | Err e ↦ stood t (Err e) ]
played x t (eval_catching u k) = do
  r ← ended (end_of_built u)
  elim r [ Ok c ↦ played x t (k c) | Err e ↦ stood t (Err e) ]
played x t (matches u p k) = do
  r ← ended (match.matches p u)
  elim r [ Ok b ↦ played x t (k b) | Err e ↦ stood t (Err e) ]
played x t (let_be v k) = do
  u ← set_iterator x v t
  played x u (k tt)
played x t (pass k) = do
  r ← ended tick
  elim r [ Ok u ↦ played x t (k u) | Err e ↦ stood t (Err e) ]

abbrev pub give_back_taken : Option Taken → Prog (Unit {0})
give_back_taken None = done tt
give_back_taken (Some t) = give_back t

-- what was set aside comes back, whatever the end
abbrev pub finished : Option Name → Asks → Prog (Option Tree)
finished x row = do
  s ← played x None row
  _ ← give_back_taken s.taken
  now s.answer

-- nothing is evaluated where the name is Protected from the start
abbrev pub iterated : Option Name → Asks → Prog (Option Tree)
iterated None row = finished None row
iterated (Some x) row = do
  p ← is_protected x
  elim p [ true ↦ unchanged | false ↦ finished (Some x) row ]

-- the row of loops and branches of a name, where it has one
abbrev pub control_row : Name → Option (List Tree → Prog (Option Tree))
control_row x = elim (row_of x) [ None ↦ None | Some row ↦ Some (λ es. iterated (iterator_name x es) (row es)) ]
