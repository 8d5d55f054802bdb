-- How evaluations end that a row asks for, inside a Quiet or a Check too.
use Rattle.std.specs.Prelude.{◌+◌, Bool, true, false, ◌||◌, Option, Result, Ok, Err, ⊤}
use Rattle.wl_expr.specs.Tree.{Tree}
use Rattle.wl_desk.specs.Desk.{with_heard, with_quiets}
use Rattle.wl_semantics.specs.State.{End}
use Rattle.wl_semantics.specs.Prog.{Prog, done, eval, quietly, checked, ◌>>=◌, now, valued, result}
use Rattle.wl_semantics.specs.Eval.{is_budget_end}
use Rattle.wl_state.specs.Played.{Plays, HonestEnd, end_of}
use Rattle.wl_state.specs.declared.ends.End as ends
use Rattle.wl_state.specs.declared.ends.Stop.{Stop}
use Rattle.wl_state.specs.declared.ends.Stop.TheVariants.{Memory, Thrown, Aborted, BudgetEnded, Broke, Continued}
use Rattle.wl_state.specs.declared.evaluator.Evaluator.{Evaluator}

-- how the evaluation of a tree ends inside a Quiet
unfoldable pub quiet_end : Tree → Prog End
quiet_end t = eval quietly t (λ e b. done e)

-- inside a Check, and whether a message was heard
unfoldable pub checked_end : Tree → Prog (End × Bool)
checked_end t = eval checked t (λ e b. done (e, b))

-- what a Check gives: f if a message was heard
abbrev pub unless_heard : Tree → End × Bool → Prog (Option Tree)
unless_heard f a = now (valued a.0) >>= λ v. result (elim a.1 [ true ↦ f | false ↦ v ])

-- inside a Quiet more
abbrev pub quieted : Evaluator → Evaluator
quieted k = record k { desk = with_quiets (k.desk.quiets + 1) k.desk }

-- with as many Quiets open as in the first
abbrev pub unquieted : Evaluator → Evaluator → Evaluator
unquieted k k1 = record k1 { desk = with_quiets k.desk.quiets k1.desk }

-- with nothing heard yet
abbrev pub unheard : Evaluator → Evaluator
unheard k = record k { desk = with_heard false k.desk }

-- what was heard in the first was heard too
abbrev pub reheard : Evaluator → Evaluator → Evaluator
reheard k k1 = record k1 { desk = with_heard (k.desk.heard || k1.desk.heard) k1.desk }

-- the function returned how this program ends
abbrev pub EndsBy : Prog End → Evaluator → Result ends.End Stop → Evaluator → Type 0
EndsBy p k (Ok e) k' = Plays p k (Ok (end_of e)) k' (is_budget_end (end_of e)) × HonestEnd k' e
EndsBy p k (Err Memory) k' = ⊤
EndsBy p k (Err (Thrown v t)) k' = ⊥
EndsBy p k (Err Aborted) k' = ⊥
EndsBy p k (Err BudgetEnded) k' = ⊥
EndsBy p k (Err Broke) k' = ⊥
EndsBy p k (Err Continued) k' = ⊥
