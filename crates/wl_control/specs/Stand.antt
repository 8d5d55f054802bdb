-- What is asked first, and what an answer leads to.
use Rattle.std.specs.Prelude.{⊤, Bool, Option, Some, None}
use Rattle.wl_expr.specs.Tree.{Tree, IsWithinLimits}
use Rattle.wl_control.specs.Asks.{Asks, gives, stays, overflows, too_large, eval, eval_catching, matches, let_be, pass, Caught, value}

-- a question, or how the row ends
pub data Question : Type 0 where
  evaluate : Tree → Question
  test : Tree → Tree → Question
  assign : Tree → Question
  begin_pass : Question
  overflow : Question
  result : Tree → Question
  unchanged : Question

-- an answer, or the first call
pub data Answer : Type 0 where
  start : Answer
  came : Caught → Answer
  matched : Bool → Answer
  went : Answer

-- what a row waits for, and what comes then
pub data Stand : Type 0 where
  starts : Asks → Stand  -- the first call
  for_value : (Tree → Asks) → Stand  -- the value of an evaluation
  for_end : (Caught → Asks) → Stand  -- its value, a Break or a Continue
  for_match : (Bool → Asks) → Stand  -- whether the pattern matches
  for_leave : (Unit {0} → Asks) → Stand  -- that the pass has begun, or that the value is set
  over : Stand  -- nothing

-- what is asked first; none where the collected values are too heavy
abbrev pub asked : Asks → Option Question
asked (gives t) = Some (result t)
asked stays = Some unchanged
asked overflows = Some overflow
asked too_large = None
asked (eval t k) = Some (evaluate t)
asked (eval_catching t k) = Some (evaluate t)
asked (matches t p k) = Some (test t p)
asked (let_be v k) = Some (assign v)
asked (pass k) = Some begin_pass

-- what the row waits for then
abbrev pub behind : Asks → Stand
behind (gives t) = over
behind stays = over
behind overflows = over
behind too_large = over
behind (eval t k) = for_value k
behind (eval_catching t k) = for_end k
behind (matches t p k) = for_match k
behind (let_be v k) = for_leave k
behind (pass k) = for_leave k

-- an answer of the kind that is waited for
abbrev pub IsAwaited : Stand → Answer → Type 0
IsAwaited (starts a) start = ⊤
IsAwaited (for_value k) (came (value v)) = ⊤
IsAwaited (for_end k) (came u) = ⊤
IsAwaited (for_match k) (matched b) = ⊤
IsAwaited (for_leave k) went = ⊤
IsAwaited s a = ⊥

-- what the answer leads to
abbrev pub after : Stand → Answer → Asks
after (starts a) start = a
after (for_value k) (came (value v)) = k v
after (for_end k) (came u) = k u
after (for_match k) (matched b) = k b
after (for_leave k) went = k tt
after s a = stays

-- what is collected is too heavy, or what is evaluated or given first is past the limits of an expression; what is matched or set is there already
abbrev pub IsTooLarge : Asks → Type 0
IsTooLarge too_large = ⊤
IsTooLarge (gives t) = ¬ IsWithinLimits t
IsTooLarge (eval t k) = ¬ IsWithinLimits t
IsTooLarge (eval_catching t k) = ¬ IsWithinLimits t
IsTooLarge a = ⊥

-- Break and Continue answer what was asked
abbrev pub Catches : Stand → Type 0
Catches (for_end k) = ⊤
Catches s = ⊥

-- an answer to this question is waited for, or none where the row has ended
abbrev pub IsAskedBy : Question → Stand → Type 0
IsAskedBy (evaluate t) (for_value k) = ⊤
IsAskedBy (evaluate t) (for_end k) = ⊤
IsAskedBy (test t p) (for_match k) = ⊤
IsAskedBy (assign v) (for_leave k) = ⊤
IsAskedBy begin_pass (for_leave k) = ⊤
IsAskedBy overflow over = ⊤
IsAskedBy (result t) over = ⊤
IsAskedBy unchanged over = ⊤
IsAskedBy q s = ⊥
