-- What a program leaves as it was: the open depth and the open Quiets; and the steps that it takes are those that are gone.
use Rattle.std.proofs.Common.{◌≡◌, ℕ, zero, suc, ◌+◌, Bool, true, false, nat_lt, ◌==◌, if◌then◌else◌, [], ◌∷◌, Result, Ok, Err, codes, refl, sym, ap, ◌∙◌, subst, arith}
use Rattle.wl_expr.specs.Tree.{Tree, num, text, symbol, node}
use Rattle.wl_expr.specs.Words.{Bytes, natural}
use Rattle.wl_desk.specs.Desk.{Desk, shown_again, shown, with_heard, full_name, message_item, count_of}
use Rattle.wl_rules.specs.Entries.{is_off}
use Rattle.wl_semantics.specs.LeftSides.{iteration_limit, recursion_limit}
use Rattle.wl_semantics.specs.State.{World, State, End, BudgetEnded, Turned, Final, Next}
use Rattle.wl_semantics.specs.Prog.{Prog, done, stop, look, eval, step, act, What, put_rule, remove_rule, clear, set_attributes, put_message, set_off, take_rules, give_rules, issue, show, draw, recall_value, recall_input, How, openly, quietly, checked}
use Rattle.wl_semantics.specs.Effects.{acted}
use Rattle.wl_semantics.specs.Turn.{turn}
use Rattle.wl_semantics.specs.Eval.{hushed, Evaluator, asked, took, over, interp, limit, opened, after_turn, turn_on, eval_on, one_eval, turns_at, Turns, Eval, Go}
use Rattle.wl_semantics.proofs.Level.{Eval-is}

-- ---- the open depth

abbrev pub KeepsDepth : Evaluator → Type 0
KeepsDepth ev = (t : Tree) (s : State) → (ev t s).state.depth ≡ s.depth

asked-depth : (ev : Evaluator) → KeepsDepth ev → (h : How) (t : Tree) (s : State) → (asked ev h t s).state.depth ≡ s.depth
asked-depth ev f openly t s = f t s
asked-depth ev f quietly t s = f t (hushed quietly s)
asked-depth ev f checked t s = f t (hushed checked s)

took-depth : (w : World) (n d : ℕ) → (took (record { world = w; steps = n; depth = d })).state.depth ≡ d
took-depth w zero d = refl
took-depth w (suc n) d = refl

interp-depth : {R : Type 0} (ev : Evaluator) → KeepsDepth ev → (p : Prog R) (s : State) → (interp ev p s).state.depth ≡ s.depth
unfolding interp
interp-depth ev f (done r) s = refl
interp-depth ev f (stop e) s = refl
interp-depth ev f (look n k) s = interp-depth ev f (k (s.world.definitions n)) s
interp-depth ev f (eval h t k) s =
    let r = asked ev h t s in
    interp-depth ev f (k r.result.0 r.result.1) r.state ∙ asked-depth ev f h t s
interp-depth ev f (step k) s =
    let r = took s in
    interp-depth ev f (k r.result) r.state ∙ took-depth s.world s.steps s.depth
interp-depth ev f (act w k) s =
    let a = acted w s.world in
    interp-depth ev f (k a.0) (record s { world = a.1 })

eval_on-depth : (turns : Evaluator) (o : Bool) (t : Tree) (s : State) → (eval_on o turns t s).state.depth ≡ s.depth
eval_on-depth turns true t s = refl
eval_on-depth turns false t s = refl

one_eval-depth : (turns : Evaluator) → KeepsDepth (one_eval turns)
one_eval-depth turns (num n) s = refl
one_eval-depth turns (text x) s = refl
one_eval-depth turns (symbol n) s = eval_on-depth turns _ (symbol n) s
one_eval-depth turns (node h es) s = eval_on-depth turns _ (node h es) s

pub Eval-depth : KeepsDepth Eval
Eval-depth t s = ap (λ r. r.state.depth) (Eval-is t s) ∙ one_eval-depth (Turns 1) t s

pub Go-depth : {R : Type 0} (p : Prog R) (s : State) → (Go p s).state.depth ≡ s.depth
Go-depth p s = interp-depth Eval Eval-depth p s

after_turn-depth : (again : Evaluator) → KeepsDepth again → (r : Result Turned End) (s : State) → (after_turn again r s).state.depth ≡ s.depth
after_turn-depth again f (Ok (Final t)) s = refl
after_turn-depth again f (Ok (Next (num n))) s = refl
after_turn-depth again f (Ok (Next (text x))) s = refl
after_turn-depth again f (Ok (Next (symbol n))) s = f _ _
after_turn-depth again f (Ok (Next (node h es))) s = f _ _
after_turn-depth again f (Err e) s = refl

turn_on-depth : (ev again : Evaluator) → KeepsDepth ev → KeepsDepth again → (o : Bool) (c : ℕ) (t : Tree) (w : World) (n d : ℕ) → (turn_on o ev again c t (record { world = w; steps = n; depth = d })).state.depth ≡ d
turn_on-depth ev again f g true c t w n d = refl
turn_on-depth ev again f g false c t w zero d = refl
turn_on-depth ev again f g false c t w (suc n) d =
    let s : State = record { world = w; steps = n; depth = d } in
    let q = interp ev (turn t) s in
    after_turn-depth again g q.result q.state ∙ interp-depth ev f (turn t) s

turns_at-depth : (n c : ℕ) (t : Tree) (s : State) → (turns_at n c t s).state.depth ≡ s.depth
unfolding turns_at
turns_at-depth zero c t s = turn_on-depth (λ u s. over BudgetEnded s) (λ u s. over BudgetEnded s) (λ u s. refl) (λ u s. refl) _ c t s.world s.steps s.depth
turns_at-depth (suc n) c t s =
    turn_on-depth (λ u s'. one_eval (turns_at n 1) u s') (turns_at n (suc c)) (one_eval-depth (turns_at n 1)) (λ u s'. turns_at-depth n (suc c) u s') _ c t s.world s.steps s.depth

pub Turns-depth : (c : ℕ) → KeepsDepth (Turns c)
unfolding Turns
Turns-depth c t s = turns_at-depth s.steps c t s

-- ---- steps taken and steps left together are those that there were

abbrev pub Adding : Evaluator → Type 0
Adding ev = (t : Tree) (s : State) → (ev t s).state.steps + (ev t s).did.steps ≡ s.steps

asked-adds : (ev : Evaluator) → Adding ev → (h : How) (t : Tree) (s : State) → (asked ev h t s).state.steps + (asked ev h t s).did.steps ≡ s.steps
asked-adds ev f openly t s = f t s
asked-adds ev f quietly t s = f t (hushed quietly s)
asked-adds ev f checked t s = f t (hushed checked s)

took-adds : (w : World) (n d : ℕ) → (took (record { world = w; steps = n; depth = d })).state.steps + (took (record { world = w; steps = n; depth = d })).did.steps ≡ n
took-adds w zero d = omega arith
took-adds w (suc n) d = omega arith

interp-adds : {R : Type 0} (ev : Evaluator) → Adding ev → (p : Prog R) (s : State) → (interp ev p s).state.steps + (interp ev p s).did.steps ≡ s.steps
unfolding interp
interp-adds ev f (done r) s = omega arith
interp-adds ev f (stop e) s = omega arith
interp-adds ev f (look n k) s = let h = interp-adds ev f (k (s.world.definitions n)) s in omega (arith, h)
interp-adds ev f (eval h t k) s =
    let r = asked ev h t s in
    let a = asked-adds ev f h t s in
    let b = interp-adds ev f (k r.result.0 r.result.1) r.state in
    omega (arith, a, b)
interp-adds ev f (step k) s =
    let r = took s in
    let a = took-adds s.world s.steps s.depth in
    let b = interp-adds ev f (k r.result) r.state in
    omega (arith, a, b)
interp-adds ev f (act w k) s =
    let a = acted w s.world in
    let h = interp-adds ev f (k a.0) (record s { world = a.1 }) in
    omega (arith, h)

after_turn-adds : (again : Evaluator) → Adding again → (r : Result Turned End) (s : State) → (after_turn again r s).state.steps + (after_turn again r s).did.steps ≡ s.steps
after_turn-adds again f (Ok (Final t)) s = omega arith
after_turn-adds again f (Ok (Next (num n))) s = omega arith
after_turn-adds again f (Ok (Next (text x))) s = omega arith
after_turn-adds again f (Ok (Next (symbol n))) s = f _ _
after_turn-adds again f (Ok (Next (node h es))) s = f _ _
after_turn-adds again f (Err e) s = omega arith

turn_on-adds : (ev again : Evaluator) → Adding ev → Adding again → (o : Bool) (c : ℕ) (t : Tree) (w : World) (n d : ℕ) →
    (turn_on o ev again c t (record { world = w; steps = n; depth = d })).state.steps + (turn_on o ev again c t (record { world = w; steps = n; depth = d })).did.steps ≡ n
turn_on-adds ev again f g true c t w n d = omega arith
turn_on-adds ev again f g false c t w zero d = omega arith
turn_on-adds ev again f g false c t w (suc n) d =
    let s : State = record { world = w; steps = n; depth = d } in
    let q = interp ev (turn t) s in
    let a = interp-adds ev f (turn t) s in
    let b = after_turn-adds again g q.result q.state in
    omega (arith, a, b)

eval_on-adds : (turns : Evaluator) (o : Bool) → Adding turns → (t : Tree) (s : State) → (eval_on o turns t s).state.steps + (eval_on o turns t s).did.steps ≡ s.steps
eval_on-adds turns true f t s = omega arith
eval_on-adds turns false f t s = f t (opened s)

one_eval-adds : (turns : Evaluator) → Adding turns → Adding (one_eval turns)
one_eval-adds turns f (num n) s = omega arith
one_eval-adds turns f (text x) s = omega arith
one_eval-adds turns f (symbol n) s = eval_on-adds turns _ f (symbol n) s
one_eval-adds turns f (node h es) s = eval_on-adds turns _ f (node h es) s

over-adds : Adding (λ u s. over BudgetEnded s)
over-adds t s = omega arith

turns_at-adds : (n c : ℕ) (t : Tree) (s : State) → (turns_at n c t s).state.steps + (turns_at n c t s).did.steps ≡ s.steps
unfolding turns_at
turns_at-adds zero c t s = turn_on-adds (λ u s. over BudgetEnded s) (λ u s. over BudgetEnded s) over-adds over-adds _ c t s.world s.steps s.depth
turns_at-adds (suc n) c t s =
    turn_on-adds (λ u s'. one_eval (turns_at n 1) u s') (turns_at n (suc c)) (one_eval-adds (turns_at n 1) (λ u s'. turns_at-adds n 1 u s')) (λ u s'. turns_at-adds n (suc c) u s') _ c t s.world s.steps s.depth

pub Turns-adds : (c : ℕ) → Adding (Turns c)
unfolding Turns
Turns-adds c t s = turns_at-adds s.steps c t s

pub Eval-adds : Adding Eval
Eval-adds t s = subst (λ r. r.state.steps + r.did.steps ≡ s.steps) (sym (Eval-is t s)) (one_eval-adds (Turns 1) (Turns-adds 1) t s)

pub Go-adds : {R : Type 0} (p : Prog R) (s : State) → (Go p s).state.steps + (Go p s).did.steps ≡ s.steps
Go-adds p s = interp-adds Eval Eval-adds p s

-- ---- the open Quiets

shown_again-quiets : (b : Bool) (n item : Bytes) (k : Desk) → (if b then shown n item k else k).quiets ≡ k.quiets
shown_again-quiets true n item k = refl
shown_again-quiets false n item k = refl

either-quiets : (b : Bool) (j k : Desk) → j.quiets ≡ k.quiets → (if b then j else k).quiets ≡ k.quiets
either-quiets true j k h = h
either-quiets false j k h = refl

off-quiets : (b : Bool) (j k : Desk) → j.quiets ≡ k.quiets → (if b then k else j).quiets ≡ k.quiets
off-quiets true j k h = refl
off-quiets false j k h = h

pub acted-quiets : (a : What) (w : World) → (acted a w).1.desk.quiets ≡ w.desk.quiets
unfolding acted
acted-quiets (put_rule x k r) w = refl
acted-quiets (remove_rule x k l) w = refl
acted-quiets (clear x b) w = refl
acted-quiets (set_attributes x s) w = refl
acted-quiets (put_message x t s) w = refl
acted-quiets (set_off x t b) w = refl
acted-quiets (take_rules x) w = refl
acted-quiets (give_rules x r) w = refl
acted-quiets (issue s t args) w =
    let k = w.desk in
    let again = shown_again w.definitions s t args k in
    off-quiets (is_off (w.definitions s) t) (with_heard true (if k.quiets == 0 then again else k)) k
    (either-quiets (k.quiets == 0) again k (shown_again-quiets (nat_lt (count_of (full_name s t) k.counts) 3) (full_name s t) (message_item w.definitions s t args) k))
acted-quiets (show item) w = refl
acted-quiets draw w = refl
acted-quiets (recall_value n) w = refl
acted-quiets (recall_input n) w = refl

abbrev pub KeepsQuiets : Evaluator → Type 0
KeepsQuiets ev = (t : Tree) (s : State) → (ev t s).state.world.desk.quiets ≡ s.world.desk.quiets

asked-quiets : (ev : Evaluator) → KeepsQuiets ev → (h : How) (t : Tree) (s : State) → (asked ev h t s).state.world.desk.quiets ≡ s.world.desk.quiets
asked-quiets ev f openly t s = f t s
asked-quiets ev f quietly t s = refl
asked-quiets ev f checked t s = f t (hushed checked s)

took-quiets : (w : World) (n d : ℕ) → (took (record { world = w; steps = n; depth = d })).state.world.desk.quiets ≡ w.desk.quiets
took-quiets w zero d = refl
took-quiets w (suc n) d = refl

interp-quiets : {R : Type 0} (ev : Evaluator) → KeepsQuiets ev → (p : Prog R) (s : State) → (interp ev p s).state.world.desk.quiets ≡ s.world.desk.quiets
unfolding interp
interp-quiets ev f (done r) s = refl
interp-quiets ev f (stop e) s = refl
interp-quiets ev f (look n k) s = interp-quiets ev f (k (s.world.definitions n)) s
interp-quiets ev f (eval h t k) s =
    let r = asked ev h t s in
    interp-quiets ev f (k r.result.0 r.result.1) r.state ∙ asked-quiets ev f h t s
interp-quiets ev f (step k) s =
    let r = took s in
    interp-quiets ev f (k r.result) r.state ∙ took-quiets s.world s.steps s.depth
interp-quiets ev f (act w k) s =
    let a = acted w s.world in
    interp-quiets ev f (k a.0) (record s { world = a.1 }) ∙ acted-quiets w s.world

eval_on-quiets : (turns : Evaluator) → KeepsQuiets turns → (o : Bool) (t : Tree) (s : State) → (eval_on o turns t s).state.world.desk.quiets ≡ s.world.desk.quiets
eval_on-quiets turns f true t s = acted-quiets (issue recursion_limit (codes "reclim") (natural (limit recursion_limit s.world) ∷ [])) s.world
eval_on-quiets turns f false t s = f t (opened s)

one_eval-quiets : (turns : Evaluator) → KeepsQuiets turns → KeepsQuiets (one_eval turns)
one_eval-quiets turns f (num n) s = refl
one_eval-quiets turns f (text x) s = refl
one_eval-quiets turns f (symbol n) s = eval_on-quiets turns f _ (symbol n) s
one_eval-quiets turns f (node h es) s = eval_on-quiets turns f _ (node h es) s

after_turn-quiets : (again : Evaluator) → KeepsQuiets again → (r : Result Turned End) (s : State) → (after_turn again r s).state.world.desk.quiets ≡ s.world.desk.quiets
after_turn-quiets again f (Ok (Final t)) s = refl
after_turn-quiets again f (Ok (Next (num n))) s = refl
after_turn-quiets again f (Ok (Next (text x))) s = refl
after_turn-quiets again f (Ok (Next (symbol n))) s = f _ _
after_turn-quiets again f (Ok (Next (node h es))) s = f _ _
after_turn-quiets again f (Err e) s = refl

turn_on-quiets : (ev again : Evaluator) → KeepsQuiets ev → KeepsQuiets again → (o : Bool) (c : ℕ) (t : Tree) (w : World) (n d : ℕ) → (turn_on o ev again c t (record { world = w; steps = n; depth = d })).state.world.desk.quiets ≡ w.desk.quiets
turn_on-quiets ev again f g true c t w n d = acted-quiets (issue iteration_limit (codes "itlim") (natural (limit iteration_limit w) ∷ [])) w
turn_on-quiets ev again f g false c t w zero d = refl
turn_on-quiets ev again f g false c t w (suc n) d =
    let s : State = record { world = w; steps = n; depth = d } in
    let q = interp ev (turn t) s in
    after_turn-quiets again g q.result q.state ∙ interp-quiets ev f (turn t) s

turns_at-quiets : (n c : ℕ) (t : Tree) (s : State) → (turns_at n c t s).state.world.desk.quiets ≡ s.world.desk.quiets
unfolding turns_at
turns_at-quiets zero c t s = turn_on-quiets (λ u s. over BudgetEnded s) (λ u s. over BudgetEnded s) (λ u s. refl) (λ u s. refl) _ c t s.world s.steps s.depth
turns_at-quiets (suc n) c t s =
    turn_on-quiets (λ u s'. one_eval (turns_at n 1) u s') (turns_at n (suc c)) (one_eval-quiets (turns_at n 1) (λ u s'. turns_at-quiets n 1 u s')) (λ u s'. turns_at-quiets n (suc c) u s') _ c t s.world s.steps s.depth

pub Turns-quiets : (c : ℕ) → KeepsQuiets (Turns c)
unfolding Turns
Turns-quiets c t s = turns_at-quiets s.steps c t s

pub Eval-quiets : KeepsQuiets Eval
Eval-quiets t s = ap (λ r. r.state.world.desk.quiets) (Eval-is t s) ∙ one_eval-quiets (Turns 1) (Turns-quiets 1) t s

pub Go-quiets : {R : Type 0} (p : Prog R) (s : State) → (Go p s).state.world.desk.quiets ≡ s.world.desk.quiets
Go-quiets p s = interp-quiets Eval Eval-quiets p s
