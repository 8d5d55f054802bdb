-- What a row of loops and branches asks, one question after the other, and what it gives in the end.
use Rattle.std.specs.Prelude.{ℕ, ◌^◌, Bool, List, [], ◌∷◌, if◌then◌else◌}
use Rattle.wl_expr.specs.Tree.{Tree}
use Rattle.wl_expr.specs.Words.{Name, form, is_true, is_false}

-- how an evaluation ended whose row catches Break and Continue
pub data Caught : Type 0 where
  value : Tree → Caught
  broke : Caught
  continued : Caught

pub data Asks : Type 0 where
  gives : Tree → Asks  -- the result
  stays : Asks  -- the expression is left as it is
  overflows : Asks  -- the result is `Overflow[]`, with its message
  too_large : Asks  -- the collected values are too heavy
  eval : Tree → (Tree → Asks) → Asks  -- the value of a tree; any other end is the row's
  eval_catching : Tree → (Caught → Asks) → Asks  -- the same, but Break and Continue are caught
  matches : Tree → Tree → (Bool → Asks) → Asks  -- whether the first matches the second as a pattern
  let_be : Tree → (Unit {0} → Asks) → Asks  -- the iterator's name gets this value
  pass : (Unit {0} → Asks) → Asks  -- a pass begins, and takes a step

-- Loops without a bound of their own are given this many passes. Since each pass takes a step, and there are fewer steps, no loop gets there.
abbrev pub endless : ℕ
endless = 2 ^ 64

-- by the truth of a value
abbrev pub by_truth : Tree → Asks → Asks → Asks → Asks
by_truth v at_true at_false other = if is_true v then at_true else if is_false v then at_false else other

-- a node of these elements, or one that is alone as itself
abbrev pub alone_or : Name → List Tree → Tree
alone_or h (e ∷ []) = e
alone_or h es = form h es
