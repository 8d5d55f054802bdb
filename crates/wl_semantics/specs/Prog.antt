-- Programs: what a row, a match and a turn ask for, one question after the other. This form of the definition is this project's own.
use Rattle.std.specs.Prelude.{ℕ, ℤ, zero, suc, Bool, true, false, List, [], Option, Some, None, Result, Ok, Err, codes}
use Rattle.wl_expr.specs.Tree.{Tree, symbol}
use Rattle.wl_expr.specs.Words.{Name, Bytes, fits}
use Rattle.wl_rules.specs.Attributes.{AttributeSet, no_attributes}
use Rattle.wl_rules.specs.Entries.{PlainRule, Rules, Entry}
use Rattle.wl_rules.specs.declared.rule.RuleKind.{RuleKind}
use Rattle.wl_semantics.specs.State.{End, Value, Thrown, Aborted, BudgetEnded, Broke, Continued}

-- what a program may change, show or look up, besides definitions that it reads
pub data What : Type 0 where
  put_rule : Name → RuleKind → PlainRule → What
  remove_rule : Name → RuleKind → Tree → What
  clear : Name → Bool → What  -- with true, attributes and messages too
  set_attributes : Name → AttributeSet → What
  put_message : Name → Bytes → Bytes → What
  set_off : Name → Bytes → Bool → What
  take_rules : Name → What  -- answered by the rules
  give_rules : Name → Rules PlainRule → What
  issue : Name → Bytes → List Tree → What  -- a message
  show : Bytes → What  -- an item
  draw : What  -- a module number, which is the answer
  recall_value : ℤ → What  -- a look at the history, answered by what is there
  recall_input : ℤ → What

-- what an effect found
pub data Answer : Type 0 where
  nothing : Answer
  rules : Rules PlainRule → Answer
  number : ℕ → Answer
  found : Option Tree → Answer

-- how an evaluation is asked for: with a Quiet open around it, or a Check, or neither
pub data How : Type 0 where
  openly : How
  quietly : How
  checked : How

pub data Prog (R : Type 0) : Type 0 where
  done : R → Prog R
  stop : End → Prog R  -- an end that is no value ends the turn, unless it is caught
  look : Name → (Entry PlainRule → Prog R) → Prog R  -- the name is read
  eval : How → Tree → (End → Bool → Prog R) → Prog R  -- how it ended; under a Check, whether a message was heard
  step : (Bool → Prog R) → Prog R  -- whether one was left
  act : What → (Answer → Prog R) → Prog R

infixl 10 ◌>>=◌
unfoldable pub ◌>>=◌ : {A B : Type 0} → Prog A → (A → Prog B) → Prog B
(done a) >>= f = f a
(stop e) >>= f = stop e
(look n k) >>= f = look n (λ e. k e >>= f)
(eval h t k) >>= f = eval h t (λ e b. k e b >>= f)
(step k) >>= f = step (λ b. k b >>= f)
(act w k) >>= f = act w (λ a. k a >>= f)

infixl 10 ◌>>◌
abbrev pub ◌>>◌ : {A B : Type 0} → Prog A → Prog B → Prog B
p >> q = p >>= λ _. q

-- the result of a program, or the end that stopped it
unfoldable pub ended : {R : Type 0} → Prog R → Prog (Result R End)
ended (done r) = done (Ok r)
ended (stop e) = done (Err e)
ended (look n k) = look n (λ e. ended (k e))
ended (eval h t k) = eval h t (λ e b. ended (k e b))
ended (step k) = step (λ b. ended (k b))
ended (act w k) = act w (λ a. ended (k a))

-- what is known already
unfoldable pub now : {R : Type 0} → Result R End → Prog R
now (Ok r) = done r
now (Err e) = stop e

-- the value of an end, or the end itself
abbrev pub valued : End → Result Tree End
valued (Value v) = Ok v
valued (Thrown v t) = Err (Thrown v t)
valued Aborted = Err Aborted
valued BudgetEnded = Err BudgetEnded
valued Broke = Err Broke
valued Continued = Err Continued

-- ---- base programs

-- how the evaluation of a tree ends
unfoldable pub end_of : Tree → Prog End
end_of t = eval openly t (λ e b. done e)

-- the value of a tree
abbrev pub value_of : Tree → Prog Tree
value_of t = end_of t >>= λ e. now (valued e)

unfoldable pub entry_of : Name → Prog (Entry PlainRule)
entry_of x = look x (λ e. done e)

-- one step, if there is one
unfoldable pub tick : Prog (Unit {0})
tick = step (λ b. elim b [ true ↦ done tt | false ↦ stop BudgetEnded ])

unfoldable pub ticks : ℕ → Prog (Unit {0})
ticks zero = done tt
ticks (suc n) = do
  _ ← tick
  ticks n

unfoldable pub doing : What → Prog (Unit {0})
doing w = act w (λ a. done tt)

unfoldable pub asking : What → Prog Answer
asking w = act w (λ a. done a)

abbrev pub message : Name → Bytes → List Tree → Prog (Unit {0})
message s t args = doing (issue s t args)

-- `General::large` is issued and the evaluation aborts
abbrev pub too_large : {R : Type 0} → Prog R
too_large = message (codes "General") (codes "large") [] >>= λ _. stop Aborted

-- a tree whose size is tested
unfoldable pub sized : Tree → Prog (Unit {0})
sized t = elim (fits t) [ true ↦ done tt | false ↦ too_large ]

-- the value of a tree that a row or a test has built
abbrev pub value_of_built : Tree → Prog Tree
value_of_built t = do
  _ ← sized t
  value_of t

-- ---- results of rows

-- a row leaves the expression, or gives a result
abbrev pub unchanged : Prog (Option Tree)
unchanged = done None

abbrev pub result : Tree → Prog (Option Tree)
result t = done (Some t)

-- the first of the two that gives something
unfoldable pub or_else : {A : Type 0} → Option A → Prog (Option A) → Prog (Option A)
or_else None p = p
or_else (Some a) p = done (Some a)

-- ---- looks

-- the attributes of a head, where it is a symbol
unfoldable pub attributes_of : Tree → Prog AttributeSet
attributes_of (symbol x) = do
  e ← entry_of x
  done e.attributes
attributes_of h = done no_attributes

unfoldable pub is_protected : Name → Prog Bool
is_protected x = do
  e ← entry_of x
  done e.attributes.protected
