-- Which level is taken makes no difference, as long as it is no less than the steps left.
use Rattle.std.proofs.Common.{◌≡◌, ℕ, zero, suc, ◌≤◌, Bool, true, false, [], ◌∷◌, nat_lt, Result, Ok, Err, refl, ap, ◌∙◌, le_trans, arith}
use Rattle.wl_expr.specs.Tree.{Tree, num, text, symbol, node}
use Rattle.wl_semantics.specs.LeftSides.{iteration_limit}
use Rattle.wl_desk.specs.Desk.{Desk}
use Rattle.wl_semantics.specs.State.{World, State, End, BudgetEnded, Turned, Final, Next}
use Rattle.wl_semantics.specs.Prog.{Prog, done, stop, look, eval, step, act, How, openly, quietly, checked}
use Rattle.wl_semantics.specs.Effects.{acted}
use Rattle.wl_semantics.specs.Turn.{turn}
use Rattle.wl_semantics.specs.Eval.{◌then◌, Res, and_then, reading, acting, stepping, with_record, hushed, unhushed, told, Evaluator, asked, took, over, interp, limit, opened, closed, final, turning, after_turn, turn_on, one_turn, eval_on, one_eval, turns_at, Turns, Eval}

abbrev pub Falls : Evaluator → Type 0
Falls ev = (t : Tree) (s : State) → (ev t s).state.steps ≤ s.steps

pub asked-falls : (ev : Evaluator) → Falls ev → (h : How) (t : Tree) (s : State) → (asked ev h t s).state.steps ≤ s.steps
asked-falls ev f openly t s = f t s
asked-falls ev f quietly t s = f t (hushed quietly s)
asked-falls ev f checked t s = f t (hushed checked s)

took-at : (w : World) (n d : ℕ) → (took (record { world = w; steps = n; depth = d })).state.steps ≤ n
took-at w zero d = omega arith
took-at w (suc n) d = omega arith

pub took-falls : (s : State) → (took s).state.steps ≤ s.steps
took-falls s = took-at s.world s.steps s.depth

pub interp-falls : {R : Type 0} (ev : Evaluator) → Falls ev → (p : Prog R) (s : State) → (interp ev p s).state.steps ≤ s.steps
unfolding interp
interp-falls ev f (done r) s = omega arith
interp-falls ev f (stop e) s = omega arith
interp-falls ev f (look n k) s = interp-falls ev f (k (s.world.definitions n)) s
interp-falls ev f (eval h t k) s =
    let r = asked ev h t s in
    le_trans (interp-falls ev f (k r.result.0 r.result.1) r.state) (asked-falls ev f h t s)
interp-falls ev f (step k) s =
    let r = took s in
    le_trans (interp-falls ev f (k r.result) r.state) (took-falls s)
interp-falls ev f (act w k) s =
    let a = acted w s.world in
    interp-falls ev f (k a.0) (record s { world = a.1 })

-- two evaluators that are alike where at most n steps are left
abbrev pub Alike : ℕ → Evaluator → Evaluator → Type 0
Alike n f g = (t : Tree) (s : State) → s.steps ≤ n → f t s ≡ g t s

-- what is told of an evaluation, and its state with what was opened closed
abbrev pub with_told : How → Desk → Res End → Res (End × Bool)
with_told h d r = record { result = (r.result, told h r.state); state = unhushed h d r.state; did = r.did }

pub asked-alike : (n : ℕ) (f g : Evaluator) → Alike n f g → (h : How) (t : Tree) (s : State) → s.steps ≤ n → asked f h t s ≡ asked g h t s
asked-alike n f g e openly t s l = ap (with_told openly s.world.desk) (e t s l)
asked-alike n f g e quietly t s l = ap (with_told quietly s.world.desk) (e t (hushed quietly s) l)
asked-alike n f g e checked t s l = ap (with_told checked s.world.desk) (e t (hushed checked s) l)

pub interp-alike : {R : Type 0} (n : ℕ) (f g : Evaluator) → Falls f → Alike n f g → (p : Prog R) (s : State) → s.steps ≤ n → interp f p s ≡ interp g p s
unfolding interp
interp-alike n f g b e (done r) s l = refl
interp-alike n f g b e (stop r) s l = refl
interp-alike n f g b e (look m k) s l = ap (with_record (reading (m ∷ []))) (interp-alike n f g b e (k (s.world.definitions m)) s l)
interp-alike n f g b e (eval h t k) s l =
    let r = asked f h t s in
    ap (λ q. record { result = q.result; state = q.state; did = r.did then q.did }) (interp-alike n f g b e (k r.result.0 r.result.1) r.state (le_trans (asked-falls f b h t s) l))
    ∙ ap (λ r. and_then r (λ a s'. interp g (k a.0 a.1) s')) (asked-alike n f g e h t s l)
interp-alike n f g b e (step k) s l =
    let r = took s in
    ap (λ q. record { result = q.result; state = q.state; did = r.did then q.did }) (interp-alike n f g b e (k r.result) r.state (le_trans (took-falls s) l))
interp-alike n f g b e (act w k) s l =
    let a = acted w s.world in
    ap (with_record (acting w)) (interp-alike n f g b e (k a.0) (record s { world = a.1 }) l)

-- turns, and evaluations by them

after_turn-falls : (again : Evaluator) → Falls again → (r : Result Turned End) (s : State) → (after_turn again r s).state.steps ≤ s.steps
after_turn-falls again f (Ok (Final t)) s = omega arith
after_turn-falls again f (Ok (Next (num n))) s = omega arith
after_turn-falls again f (Ok (Next (text x))) s = omega arith
after_turn-falls again f (Ok (Next (symbol n))) s = f _ _
after_turn-falls again f (Ok (Next (node h es))) s = f _ _
after_turn-falls again f (Err e) s = omega arith

turn_on-falls : (ev again : Evaluator) → Falls ev → Falls again → (o : Bool) (c : ℕ) (t : Tree) (w : World) (n d : ℕ) →
    (turn_on o ev again c t (record { world = w; steps = n; depth = d })).state.steps ≤ n
turn_on-falls ev again f g true c t w n d = omega arith
turn_on-falls ev again f g false c t w zero d = omega arith
turn_on-falls ev again f g false c t w (suc n) d =
    let s : State = record { world = w; steps = n; depth = d } in
    let q = interp ev (turn t) s in
    le_trans (after_turn-falls again g q.result q.state) (le_trans (interp-falls ev f (turn t) s) (omega arith))

one_turn-falls : (ev again : Evaluator) → Falls ev → Falls again → (c : ℕ) (t : Tree) (s : State) → (one_turn ev again c t s).state.steps ≤ s.steps
one_turn-falls ev again f g c t s = turn_on-falls ev again f g (nat_lt (limit iteration_limit s.world) c) c t s.world s.steps s.depth

eval_on-falls : (turns : Evaluator) → Falls turns → (o : Bool) (t : Tree) (s : State) → (eval_on o turns t s).state.steps ≤ s.steps
eval_on-falls turns f true t s = omega arith
eval_on-falls turns f false t s = f t (opened s)

one_eval-falls : (turns : Evaluator) → Falls turns → Falls (one_eval turns)
one_eval-falls turns f (num n) s = omega arith
one_eval-falls turns f (text x) s = omega arith
one_eval-falls turns f (symbol n) s = eval_on-falls turns f _ (symbol n) s
one_eval-falls turns f (node h es) s = eval_on-falls turns f _ (node h es) s

over-falls : Falls (λ u s. over BudgetEnded s)
over-falls t s = omega arith

turns_at-falls : (n c : ℕ) (t : Tree) (s : State) → (turns_at n c t s).state.steps ≤ s.steps
unfolding turns_at
turns_at-falls zero c t s = one_turn-falls (λ u s. over BudgetEnded s) (λ u s. over BudgetEnded s) over-falls over-falls c t s
turns_at-falls (suc n) c t s =
    one_turn-falls (λ u s'. one_eval (turns_at n 1) u s') (turns_at n (suc c)) (one_eval-falls (turns_at n 1) (λ u s'. turns_at-falls n 1 u s')) (λ u s'. turns_at-falls n (suc c) u s') c t s

-- the same by two levels

after_turn-alike : (n : ℕ) (f g : Evaluator) → Alike n f g → (r : Result Turned End) (s : State) → s.steps ≤ n → after_turn f r s ≡ after_turn g r s
after_turn-alike n f g e (Ok (Final t)) s l = refl
after_turn-alike n f g e (Ok (Next (num m))) s l = refl
after_turn-alike n f g e (Ok (Next (text x))) s l = refl
after_turn-alike n f g e (Ok (Next (symbol m))) s l = e _ _ l
after_turn-alike n f g e (Ok (Next (node h es))) s l = e _ _ l
after_turn-alike n f g e (Err r) s l = refl

-- with steps left
turn_on-alike : (m : ℕ) (f g again more : Evaluator) → Falls f → Alike m f g → Alike m again more → (o : Bool) (c : ℕ) (t : Tree) (w : World) (n d : ℕ) → n ≤ suc m →
    turn_on o f again c t (record { world = w; steps = n; depth = d }) ≡ turn_on o g more c t (record { world = w; steps = n; depth = d })
turn_on-alike m f g again more b e a true c t w n d l = refl
turn_on-alike m f g again more b e a false c t w zero d l = refl
turn_on-alike m f g again more b e a false c t w (suc n) d l =
    let s : State = record { world = w; steps = n; depth = d } in
    let q = interp f (turn t) s in
    let below : n ≤ m = omega arith in
    ap (λ x. with_record (turning c) (record { result = x.result; state = x.state; did = stepping then x.did }))
    (ap (λ x. record { result = x.result; state = x.state; did = q.did then x.did }) (after_turn-alike m again more a q.result q.state (le_trans (interp-falls f b (turn t) s) below))
    ∙ ap (λ x. and_then x (after_turn more)) (interp-alike m f g b e (turn t) s below))

eval_on-alike : (n : ℕ) (f g : Evaluator) → Alike n f g → (o : Bool) (t : Tree) (s : State) → s.steps ≤ n → eval_on o f t s ≡ eval_on o g t s
eval_on-alike n f g e true t s l = refl
eval_on-alike n f g e false t s l = ap (λ r. closed s.depth (final r)) (e t (opened s) l)

one_eval-alike : (n : ℕ) (f g : Evaluator) → Alike n f g → Alike n (one_eval f) (one_eval g)
one_eval-alike n f g e (num m) s l = refl
one_eval-alike n f g e (text x) s l = refl
one_eval-alike n f g e (symbol m) s l = eval_on-alike n f g e _ (symbol m) s l
one_eval-alike n f g e (node h es) s l = eval_on-alike n f g e _ (node h es) s l

-- with no step left
turn_on-empty : (f g again more : Evaluator) (o : Bool) (c : ℕ) (t : Tree) (w : World) (n d : ℕ) → n ≤ 0 →
    turn_on o f again c t (record { world = w; steps = n; depth = d }) ≡ turn_on o g more c t (record { world = w; steps = n; depth = d })
turn_on-empty f g again more true c t w n d l = refl
turn_on-empty f g again more false c t w zero d l = refl
turn_on-empty f g again more false c t w (suc n) d l = absurd (omega arith)

turns-level : (j m k : ℕ) → j ≤ m → j ≤ k → (c : ℕ) (t : Tree) (s : State) → s.steps ≤ j → turns_at m c t s ≡ turns_at k c t s
unfolding turns_at
turns-level zero zero zero a b c t s l = refl
turns-level zero zero (suc k) a b c t s l = turn_on-empty _ _ _ _ _ c t s.world s.steps s.depth l
turns-level zero (suc m) zero a b c t s l = turn_on-empty _ _ _ _ _ c t s.world s.steps s.depth l
turns-level zero (suc m) (suc k) a b c t s l = turn_on-empty _ _ _ _ _ c t s.world s.steps s.depth l
turns-level (suc j) zero k a b c t s l = absurd (omega arith)
turns-level (suc j) (suc m) zero a b c t s l = absurd (omega arith)
turns-level (suc j) (suc m) (suc k) a b c t s l =
    let am : j ≤ m = omega arith in
    let ak : j ≤ k = omega arith in
    turn_on-alike j (λ u s'. one_eval (turns_at m 1) u s') (λ u s'. one_eval (turns_at k 1) u s') (turns_at m (suc c)) (turns_at k (suc c))
    (one_eval-falls (turns_at m 1) (turns_at-falls m 1))
    (one_eval-alike j (turns_at m 1) (turns_at k 1) (λ u s' l'. turns-level j m k am ak 1 u s' l'))
    (λ u s' l'. turns-level j m k am ak (suc c) u s' l')
    (nat_lt (limit iteration_limit s.world) c) c t s.world s.steps s.depth l

-- the equations

pub Turns-level : (n c : ℕ) (t : Tree) (s : State) → s.steps ≤ n → turns_at n c t s ≡ Turns c t s
unfolding Turns
Turns-level n c t s l = turns-level s.steps n s.steps l (omega arith) c t s (omega arith)

pub Eval-level : (n : ℕ) (t : Tree) (s : State) → s.steps ≤ n → one_eval (turns_at n 1) t s ≡ Eval t s
unfolding Eval
Eval-level n t s l = one_eval-alike s.steps (turns_at n 1) (turns_at s.steps 1) (λ u s' l'. turns-level s.steps n s.steps l (omega arith) 1 u s' l') t s (omega arith)

pub Eval-falls : Falls Eval
unfolding Eval
Eval-falls t s = one_eval-falls (turns_at s.steps 1) (turns_at-falls s.steps 1) t s

pub Turns-falls : (c : ℕ) → Falls (Turns c)
unfolding Turns
Turns-falls c t s = turns_at-falls s.steps c t s

-- an evaluation is its turns
pub Eval-is : (t : Tree) (s : State) → Eval t s ≡ one_eval (Turns 1) t s
unfolding Eval
Eval-is t s = one_eval-alike s.steps (turns_at s.steps 1) (Turns 1) (λ u s' l'. Turns-level s.steps 1 u s' l') t s (omega arith)

-- turns are one turn and the next ones
pub Turns-is : (c : ℕ) (t : Tree) (s : State) → Turns c t s ≡ one_turn Eval (Turns (suc c)) c t s
unfolding Turns turns_at
Turns-is c t s = go s.world s.steps s.depth
  where
    go : (w : World) (n d : ℕ) → turns_at n c t (record { world = w; steps = n; depth = d }) ≡ turn_on (nat_lt (limit iteration_limit w) c) Eval (Turns (suc c)) c t (record { world = w; steps = n; depth = d })
    go w zero d = turn_on-empty _ _ _ _ _ c t w zero d (omega arith)
    go w (suc n) d = turn_on-alike n (λ u s'. one_eval (turns_at n 1) u s') Eval (turns_at n (suc c)) (Turns (suc c))
        (one_eval-falls (turns_at n 1) (turns_at-falls n 1))
        (λ u s' l'. Eval-level n u s' l')
        (λ u s' l'. Turns-level n (suc c) u s' l')
        (nat_lt (limit iteration_limit w) c) c t w (suc n) d (omega arith)
