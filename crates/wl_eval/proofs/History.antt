-- No evaluation changes the history.
use Rattle.std.proofs.Common.{◌≡◌, ℕ, zero, suc, Bool, true, false, Result, Ok, Err, refl, ap, ◌∙◌}
use Rattle.wl_expr.specs.Tree.{Tree, num, text, symbol, node}
use Rattle.wl_semantics.specs.State.{World, State, End, BudgetEnded, Turned, Final, Next}
use Rattle.wl_semantics.specs.Prog.{Prog, done, stop, look, eval, step, act, What, put_rule, remove_rule, clear, set_attributes, put_message, set_off, take_rules, give_rules, issue, show, draw, recall_value, recall_input, How, openly, quietly, checked}
use Rattle.wl_semantics.specs.Effects.{acted}
use Rattle.wl_semantics.specs.Turn.{turn}
use Rattle.wl_semantics.specs.Eval.{hushed, Evaluator, asked, took, over, interp, opened, after_turn, turn_on, eval_on, one_eval, turns_at, Turns, Eval, Go}
use Rattle.wl_semantics.proofs.Level.{Eval-is}

abbrev pub KeepsHistory : Evaluator → Type 0
KeepsHistory ev = (t : Tree) (s : State) → (ev t s).state.world.history ≡ s.world.history

acted-history : (a : What) (w : World) → (acted a w).1.history ≡ w.history
unfolding acted
acted-history (put_rule x k r) w = refl
acted-history (remove_rule x k l) w = refl
acted-history (clear x b) w = refl
acted-history (set_attributes x s) w = refl
acted-history (put_message x t s) w = refl
acted-history (set_off x t b) w = refl
acted-history (take_rules x) w = refl
acted-history (give_rules x r) w = refl
acted-history (issue s t args) w = refl
acted-history (show item) w = refl
acted-history draw w = refl
acted-history (recall_value n) w = refl
acted-history (recall_input n) w = refl

asked-history : (ev : Evaluator) → KeepsHistory ev → (h : How) (t : Tree) (s : State) → (asked ev h t s).state.world.history ≡ s.world.history
asked-history ev f openly t s = f t s
asked-history ev f quietly t s = f t (hushed quietly s)
asked-history ev f checked t s = f t (hushed checked s)

took-history : (w : World) (n d : ℕ) → (took (record { world = w; steps = n; depth = d })).state.world.history ≡ w.history
took-history w zero d = refl
took-history w (suc n) d = refl

interp-history : {R : Type 0} (ev : Evaluator) → KeepsHistory ev → (p : Prog R) (s : State) → (interp ev p s).state.world.history ≡ s.world.history
unfolding interp
interp-history ev f (done r) s = refl
interp-history ev f (stop e) s = refl
interp-history ev f (look n k) s = interp-history ev f (k (s.world.definitions n)) s
interp-history ev f (eval h t k) s =
    let r = asked ev h t s in
    interp-history ev f (k r.result.0 r.result.1) r.state ∙ asked-history ev f h t s
interp-history ev f (step k) s =
    let r = took s in
    interp-history ev f (k r.result) r.state ∙ took-history s.world s.steps s.depth
interp-history ev f (act w k) s =
    let a = acted w s.world in
    interp-history ev f (k a.0) (record s { world = a.1 }) ∙ acted-history w s.world

eval_on-history : (turns : Evaluator) (o : Bool) → KeepsHistory turns → (t : Tree) (s : State) → (eval_on o turns t s).state.world.history ≡ s.world.history
eval_on-history turns true f t s = acted-history _ s.world
eval_on-history turns false f t s = f t (opened s)

one_eval-history : (turns : Evaluator) → KeepsHistory turns → KeepsHistory (one_eval turns)
one_eval-history turns f (num n) s = refl
one_eval-history turns f (text x) s = refl
one_eval-history turns f (symbol n) s = eval_on-history turns _ f (symbol n) s
one_eval-history turns f (node h es) s = eval_on-history turns _ f (node h es) s

after_turn-history : (again : Evaluator) → KeepsHistory again → (r : Result Turned End) (s : State) → (after_turn again r s).state.world.history ≡ s.world.history
after_turn-history again f (Ok (Final t)) s = refl
after_turn-history again f (Ok (Next (num n))) s = refl
after_turn-history again f (Ok (Next (text x))) s = refl
after_turn-history again f (Ok (Next (symbol n))) s = f _ _
after_turn-history again f (Ok (Next (node h es))) s = f _ _
after_turn-history again f (Err e) s = refl

turn_on-history : (ev again : Evaluator) → KeepsHistory ev → KeepsHistory again → (o : Bool) (c : ℕ) (t : Tree) (w : World) (n d : ℕ) →
    (turn_on o ev again c t (record { world = w; steps = n; depth = d })).state.world.history ≡ w.history
turn_on-history ev again f g true c t w n d = acted-history _ w
turn_on-history ev again f g false c t w zero d = refl
turn_on-history ev again f g false c t w (suc n) d =
    let s : State = record { world = w; steps = n; depth = d } in
    let q = interp ev (turn t) s in
    after_turn-history again g q.result q.state ∙ interp-history ev f (turn t) s

turns_at-history : (n c : ℕ) (t : Tree) (s : State) → (turns_at n c t s).state.world.history ≡ s.world.history
unfolding turns_at
turns_at-history zero c t s = turn_on-history (λ u s. over BudgetEnded s) (λ u s. over BudgetEnded s) (λ u s. refl) (λ u s. refl) _ c t s.world s.steps s.depth
turns_at-history (suc n) c t s =
    turn_on-history (λ u s'. one_eval (turns_at n 1) u s') (turns_at n (suc c)) (one_eval-history (turns_at n 1) (λ u s'. turns_at-history n 1 u s')) (λ u s'. turns_at-history n (suc c) u s') _ c t s.world s.steps s.depth

Turns-history : (c : ℕ) → KeepsHistory (Turns c)
unfolding Turns
Turns-history c t s = turns_at-history s.steps c t s

Eval-history : KeepsHistory Eval
Eval-history t s = ap (λ r. r.state.world.history) (Eval-is t s) ∙ one_eval-history (Turns 1) (Turns-history 1) t s

pub Go-history : {R : Type 0} (p : Prog R) (s : State) → (Go p s).state.world.history ≡ s.world.history
Go-history p s = interp-history Eval Eval-history p s
