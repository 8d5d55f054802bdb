-- What two states must share for an evaluation to go alike in both, and the law that it does. This project's own.
use Rattle.std.specs.Prelude.{◌≡◌, ◌≢◌, ℕ, ◌+◌, ◌-◌, ◌≤◌, Bool, false, List, [], ◌∷◌, Result, Ok, Err}
use Rattle.wl_expr.specs.Tree.{Tree}
use Rattle.wl_expr.specs.Words.{Name}
use Rattle.wl_semantics.specs.State.{State, End, BudgetEnded}
use Rattle.wl_semantics.specs.Prog.{Prog}
use Rattle.wl_semantics.specs.LeftSides.{recursion_limit, iteration_limit}
use Rattle.wl_semantics.specs.Eval.{Record, Res, Eval, Go, is_budget_end, limit}

-- the entries of these names are equal
abbrev pub Agree : State → State → List Name → Type 0
Agree s t [] = Unit {0}
Agree s t (x ∷ xs) = (s.world.definitions x ≡ t.world.definitions x) × Agree s t xs

-- nothing was changed, and no step was lacking
pub record Calm (d : Record) : Type 0 where
  pub effect : d.effect ≡ false
  pub out : d.out ≡ false

-- the limits and the steps leave room for what was done
pub record Enough (t : State) (d : Record) : Type 0 where
  pub depth : t.depth + d.depth ≤ limit recursion_limit t.world
  pub turns : d.turns ≤ limit iteration_limit t.world
  pub steps : d.steps ≤ t.steps

abbrev pub spent : State → ℕ → State
spent s n = record s { steps = s.steps - n }

-- nothing but steps changed here; and there the same end, the same whole record, and nothing but steps changed
pub record Like {A : Type 0} (r : Res A) (s t : State) (q : Res A) : Type 0 where
  pub here : r.state ≡ spent s r.did.steps
  pub there : q ≡ record r { state = spent t r.did.steps }

-- an evaluation without an effect goes alike in each state that agrees on the names read and has room
abbrev pub Locality : Type 0
Locality = (e : Tree) (s t : State) → (Eval e s).did.effect ≡ false → (Eval e s).result ≢ BudgetEnded →
    Agree s t (Eval e s).did.names → Enough t (Eval e s).did → Like (Eval e s) s t (Eval e t)

abbrev pub is_budget : {R : Type 0} → Result R End → Bool
is_budget (Ok r) = false
is_budget (Err e) = is_budget_end e

-- from s the program gives r and leaves t; o says whether a budget ended in it
pub record Plays {R : Type 0} (p : Prog R) (s : State) (r : Result R End) (t : State) (o : Bool) : Type 0 where
  pub result : (Go p s).result ≡ r
  pub state : (Go p s).state ≡ t
  pub out : (Go p s).did.out ≡ o

-- what p does from s is what q does from t
abbrev pub Leads : {R : Type 0} → Prog R → State → Prog R → State → Type 0
Leads {R} p s q t = (r : Result R End) (u : State) (o : Bool) → Plays q t r u o → Plays p s r u o
