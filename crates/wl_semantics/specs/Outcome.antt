-- The calls of a kernel: how the end of an evaluation is answered, what an uncaught Throw gives, and what begins and ends a cell.
use Rattle.std.specs.Prelude.{ℕ, true, false, [], ◌∷◌, ◌++◌, Option, Some, None, codes}
use Rattle.wl_expr.specs.Tree.{Tree}
use Rattle.wl_expr.specs.Words.{form, fits, aborted_symbol}
use Rattle.wl_rules.specs.Start.{start_store}
use Rattle.wl_rules.specs.Stored.{definitions}
use Rattle.wl_desk.specs.Desk.{new_desk, refilled}
use Rattle.wl_semantics.specs.State.{State, End, Value, Thrown, Aborted, BudgetEnded, Broke, Continued}
use Rattle.wl_semantics.specs.Prog.{Prog, done, ◌>>=◌, message}
use Rattle.wl_semantics.specs.Eval.{Res, Eval}

abbrev pub held : Tree → Tree
held t = form (codes "Hold") (t ∷ [])

-- a Break or Continue that nothing caught is held as a value
abbrev pub outcome : End → End
outcome Broke = Value (held (form (codes "Break") []))
outcome Continued = Value (held (form (codes "Continue") []))
outcome (Value v) = Value v
outcome (Thrown v t) = Thrown v t
outcome Aborted = Aborted
outcome BudgetEnded = BudgetEnded

-- what `evaluate` answers and leaves
abbrev pub evaluated : Tree → State → Res End
evaluated t s = let r = Eval t s in record r { result = outcome r.result }

abbrev pub thrown : Tree → Option Tree → Tree
thrown v None = form (codes "Throw") (v ∷ [])
thrown v (Some t) = form (codes "Throw") (v ∷ t ∷ [])

-- the value of a Throw that nothing caught, with its message; or the message that it doesn't fit
abbrev pub uncaught : Tree → Option Tree → Prog Tree
uncaught v t =
    elim (fits (held (thrown v t))) [
      | true ↦ message (codes "Throw") (codes "nocatch") (thrown v t ∷ []) >>= λ _. done (held (thrown v t))
      | false ↦ message (codes "General") (codes "large") [] >>= λ _. done aborted_symbol
    ]

-- a new kernel with so many steps
abbrev pub new_state : ℕ → State
new_state n = record { world = record { definitions = definitions start_store; history = []; module_number = 0; desk = new_desk }; steps = n; depth = 0 }

-- a cell begins
abbrev pub refilled_state : ℕ → State → State
refilled_state n s = record s { steps = n; world = record s.world { desk = refilled s.world.desk } }

-- a line is kept
abbrev pub with_line : Tree → Tree → State → State
with_line input value s = record s { world = record s.world { history = s.world.history ++ record { input = input; value = value } ∷ [] } }
