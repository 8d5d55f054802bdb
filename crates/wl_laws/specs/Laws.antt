-- How evaluations, turns and programs unfold into their parts.
use Rattle.std.specs.Prelude.{◌≡◌, ◌≤◌, ℕ, suc}
use Rattle.wl_expr.specs.Tree.{Tree}
use Rattle.wl_semantics.specs.Eval.{Eval, Turns, Go, one_eval, one_turn, turns_at, and_then_ok}
use Rattle.wl_semantics.specs.Prog.{Prog, ◌>>=◌}
use Rattle.wl_semantics.specs.State.{State}

-- an evaluation is its turns, from the first on
abbrev pub EvaluationIsTurns : Type 0
EvaluationIsTurns = (t : Tree) (s : State) → Eval t s ≡ one_eval (Turns 1) t s

-- turns are one turn, in which whole evaluations are asked for, and the next turns
abbrev pub TurnsAreOneAndMore : Type 0
TurnsAreOneAndMore = (c : ℕ) (t : Tree) (s : State) → Turns c t s ≡ one_turn Eval (Turns (suc c)) c t s

-- which level is taken makes no difference, as long as it is no less than the steps that are left
pub record LevelsAgree : Type 0 where
  pub evaluations : (n : ℕ) (t : Tree) (s : State) → s.steps ≤ n → one_eval (turns_at n 1) t s ≡ Eval t s
  pub turns : (n c : ℕ) (t : Tree) (s : State) → s.steps ≤ n → turns_at n c t s ≡ Turns c t s

-- what a program does, and then what follows it
abbrev pub ProgramsChain : Type 0 → Type 0 → Type 0
ProgramsChain A B = (p : Prog A) (f : A → Prog B) (s : State) → Go (p >>= f) s ≡ and_then_ok (Go p s) (λ a s'. Go (f a) s')
