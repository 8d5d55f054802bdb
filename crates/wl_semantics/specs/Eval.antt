-- Evaluation: what a program does to a state, and what it did, by levels of turns. Tutorial on the evaluation of expressions, and the reference pages of the two limits; steps are this project's own.
use Rattle.std.specs.Prelude.{ℕ, zero, suc, ◌+◌, max, Bool, true, false, ◌||◌, List, [], ◌∷◌, ◌++◌, nat_lt, Result, Ok, Err, unwrap_or, codes}
use Rattle.wl_expr.specs.Tree.{Tree, num, text, symbol, node}
use Rattle.wl_expr.specs.Words.{Name, Bytes, count_of, natural}
use Rattle.wl_rules.specs.Entries.{PlainRule}
use Rattle.wl_desk.specs.Desk.{Desk, with_heard, with_quiets}
use Rattle.wl_semantics.specs.State.{World, State, End, Value, Thrown, Aborted, BudgetEnded, Broke, Continued, Turned, Final, Next}
use Rattle.wl_semantics.specs.Prog.{Prog, done, stop, look, eval, step, act, What, issue, How, openly, quietly, checked}
use Rattle.wl_semantics.specs.Effects.{acted, touched}
use Rattle.wl_semantics.specs.LeftSides.{recursion_limit, iteration_limit}
use Rattle.wl_semantics.specs.Turn.{turn}

-- ---- what was done

pub record Record : Type 0 where
  pub names : List Name  -- the names read
  pub effect : Bool
  pub steps : ℕ
  pub depth : ℕ  -- 1 for an evaluation's own level
  pub turns : ℕ  -- the most turns of one evaluation
  pub out : Bool  -- whether a step was lacking

abbrev pub none : Record
none = record { names = []; effect = false; steps = 0; depth = 0; turns = 0; out = false }

infixl 20 ◌then◌
-- one part and then another
abbrev pub ◌then◌ : Record → Record → Record
a then b = record { names = a.names ++ b.names; effect = a.effect || b.effect; steps = a.steps + b.steps; depth = max a.depth b.depth; turns = max a.turns b.turns; out = a.out || b.out }

pub record Res (R : Type 0) : Type 0 where
  pub result : R
  pub state : State
  pub did : Record

-- the whole of a part, and what comes after it
abbrev pub and_then : {A B : Type 0} → Res A → (A → State → Res B) → Res B
and_then r f = let q = f r.result r.state in record { result = q.result; state = q.state; did = r.did then q.did }

abbrev pub reading : List Name → Record
reading xs = record none { names = xs }

abbrev pub acting : What → Record
acting w = record none { names = touched w; effect = true }

abbrev pub stepping : Record
stepping = record none { steps = 1 }

abbrev pub lacking : Record
lacking = record none { out = true }

abbrev pub with_record : {A : Type 0} → Record → Res A → Res A
with_record d r = record r { did = d then r.did }

abbrev pub over : {A : Type 0} → A → State → Res A
over a s = record { result = a; state = s; did = none }

-- ---- the moves

abbrev pub with_desk : Desk → State → State
with_desk d s = record s { world = record s.world { desk = d } }

-- the desk with a Quiet or a Check opened
abbrev pub hushed : How → State → State
hushed openly s = s
hushed quietly s = with_desk (with_quiets (s.world.desk.quiets + 1) s.world.desk) s
hushed checked s = with_desk (with_heard false s.world.desk) s

-- and closed again, where d is the desk before; the Check around hears what this one heard
abbrev pub unhushed : How → Desk → State → State
unhushed openly d s = s
unhushed quietly d s = with_desk (with_quiets d.quiets s.world.desk) s
unhushed checked d s = with_desk (with_heard (d.heard || s.world.desk.heard) s.world.desk) s

-- what a Check tells
abbrev pub told : How → State → Bool
told openly s = false
told quietly s = false
told checked s = s.world.desk.heard

abbrev pub Evaluator : Type 0
Evaluator = Tree → State → Res End

-- an evaluation that a program asks for
abbrev pub asked : Evaluator → How → Tree → State → Res (End × Bool)
asked ev h t s = let r = ev t (hushed h s) in record { result = (r.result, told h r.state); state = unhushed h s.world.desk r.state; did = r.did }

-- a step, and whether one was left
abbrev pub took : State → Res Bool
took s = elim s.steps [ zero ↦ record { result = false; state = s; did = lacking } | suc n ↦ record { result = true; state = record s { steps = n }; did = stepping } ]

abbrev pub is_budget_end : End → Bool
is_budget_end (Value v) = false
is_budget_end (Thrown v t) = false
is_budget_end Aborted = false
is_budget_end BudgetEnded = true
is_budget_end Broke = false
is_budget_end Continued = false

-- a program that stops, for want of a step or otherwise
abbrev pub stopped : {A : Type 0} → End → State → Res (Result A End)
stopped e s = record { result = Err e; state = s; did = record none { out = is_budget_end e } }

unfoldable pub interp : {R : Type 0} → Evaluator → Prog R → State → Res (Result R End)
interp ev (done r) s = over (Ok r) s
interp ev (stop e) s = stopped e s
interp ev (look n k) s = with_record (reading (n ∷ [])) (interp ev (k (s.world.definitions n)) s)
interp ev (eval h t k) s = and_then (asked ev h t s) (λ a s'. interp ev (k a.0 a.1) s')
interp ev (step k) s = and_then (took s) (λ b s'. interp ev (k b) s')
interp ev (act w k) s = let a = acted w s.world in with_record (acting w) (interp ev (k a.0) (record s { world = a.1 }))

-- what follows a part that was not stopped
abbrev pub and_then_ok : {A B : Type 0} → Res (Result A End) → (A → State → Res (Result B End)) → Res (Result B End)
and_then_ok r f = and_then r (λ q s. elim q [ Ok a ↦ f a s | Err e ↦ over (Err e) s ])

-- ---- the two limits, which are no names read

abbrev pub number_in : List PlainRule → ℕ
number_in [] = 0
number_in (r ∷ rs) = unwrap_or (count_of r.body) 0

abbrev pub limit : Name → World → ℕ
limit x w = number_in (w.definitions x).rules.own

-- an abort by a limit, with its message
abbrev pub aborted : Name → Bytes → State → Res End
aborted x t s =
    let w = issue x t (natural (limit x s.world) ∷ []) in
    record { result = Aborted; state = record s { world = (acted w s.world).1 }; did = acting w }

-- ---- turns

abbrev pub turning : ℕ → Record
turning c = record none { turns = c }

-- after the last turn, and with a number or a string, there is a value; with a symbol or a node turns go on
abbrev pub after_turn : (Tree → State → Res End) → Result Turned End → State → Res End
after_turn again (Ok (Final t)) s = over (Value t) s
after_turn again (Ok (Next (num n))) s = over (Value (num n)) s
after_turn again (Ok (Next (text x))) s = over (Value (text x)) s
after_turn again (Ok (Next (symbol x))) s = again (symbol x) s
after_turn again (Ok (Next (node h ts))) s = again (node h ts) s
after_turn again (Err e) s = over e s

-- a turn whose step was there, or was not
abbrev pub stepped : Evaluator → (Tree → State → Res End) → Tree → Bool → State → Res End
stepped ev again t true s = and_then (interp ev (turn t) s) (after_turn again)
stepped ev again t false s = over BudgetEnded s

-- a turn past `$IterationLimit`, or not
abbrev pub turn_on : Bool → Evaluator → (Tree → State → Res End) → ℕ → Tree → State → Res End
turn_on true ev again c t s = aborted iteration_limit (codes "itlim") s
turn_on false ev again c t s = with_record (turning c) (and_then (took s) (stepped ev again t))

-- one turn, the c-th, by what plays its inner evaluations and what plays the next turns
abbrev pub one_turn : Evaluator → (Tree → State → Res End) → ℕ → Tree → State → Res End
one_turn ev again c t s = turn_on (nat_lt (limit iteration_limit s.world) c) ev again c t s

-- ---- evaluations

abbrev pub opened : State → State
opened s = record s { depth = s.depth + 1 }

abbrev pub closed : ℕ → Res End → Res End
closed d r = record r { state = record r.state { depth = d }; did = record r.did { depth = r.did.depth + 1 } }

-- a budget that ended within ends this too, whatever was caught
abbrev pub final : Res End → Res End
final r = record r { result = elim r.did.out [ true ↦ BudgetEnded | false ↦ r.result ] }

-- an evaluation past `$RecursionLimit`, or not
abbrev pub eval_on : Bool → (Tree → State → Res End) → Tree → State → Res End
eval_on true turns t s = aborted recursion_limit (codes "reclim") s
eval_on false turns t s = closed s.depth (final (turns t (opened s)))

-- a number or a string is its own value, without a turn
abbrev pub one_eval : (Tree → State → Res End) → Tree → State → Res End
one_eval turns (num n) s = over (Value (num n)) s
one_eval turns (text x) s = over (Value (text x)) s
one_eval turns (symbol x) s = eval_on (nat_lt (limit recursion_limit s.world) (s.depth + 1)) turns (symbol x) s
one_eval turns (node h ts) s = eval_on (nat_lt (limit recursion_limit s.world) (s.depth + 1)) turns (node h ts) s

-- the turns from the c-th on, with at most n steps
unfoldable pub turns_at : ℕ → ℕ → Tree → State → Res End
turns_at zero c t s = one_turn (λ u s'. over BudgetEnded s') (λ u s'. over BudgetEnded s') c t s
turns_at (suc n) c t s = one_turn (λ u s'. one_eval (turns_at n 1) u s') (turns_at n (suc c)) c t s

unfoldable pub Turns : ℕ → Tree → State → Res End
Turns c t s = turns_at s.steps c t s

unfoldable pub Eval : Tree → State → Res End
Eval t s = one_eval (turns_at s.steps 1) t s

-- what a program does
abbrev pub Go : {R : Type 0} → Prog R → State → Res (Result R End)
Go p s = interp Eval p s
