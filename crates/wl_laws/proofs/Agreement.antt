-- An evaluation without an effect goes alike in all states that agree on what it read.
use Rattle.std.proofs.Common.{◌≡◌, ◌≢◌, ℕ, zero, suc, ◌+◌, ◌-◌, ◌≤◌, Bool, true, false, ◌||◌, List, [], ◌∷◌, ◌++◌, nat_lt, Result, Ok, Err, refl, sym, ap, ◌∙◌, subst, subst₂, le_trans, arith, le-ltb, true≢false}
use Rattle.wl_expr.specs.Tree.{Tree, num, text, symbol, node}
use Rattle.wl_expr.specs.Words.{Name}
use Rattle.wl_semantics.specs.LeftSides.{recursion_limit, iteration_limit}
use Rattle.wl_desk.specs.Desk as desk
use Rattle.wl_semantics.specs.State.{World, State, End, Value, BudgetEnded, Turned, Final, Next}
use Rattle.wl_semantics.specs.Prog.{Prog, done, stop, look, eval, step, act, How, openly, quietly, checked}
use Rattle.wl_semantics.specs.Turn.{turn}
use Rattle.wl_semantics.specs.Eval.{Record, ◌then◌, Res, and_then, reading, stepping, with_desk, hushed, unhushed, told, Evaluator, asked, took, over, stopped, interp, limit, opened, closed, final, turning, after_turn, stepped, turn_on, eval_on, one_eval, Turns, Eval}
use Rattle.wl_semantics.specs.Local.{Agree, Enough, Calm, spent, Like, Locality}
use Rattle.wl_semantics.proofs.Level.{Eval-is, Turns-is, Eval-falls, interp-falls, asked-falls, took-falls, Falls}
use Rattle.wl_semantics.proofs.Level.{with_told}

abbrev pub LocalAt : {A : Type 0} → Res A → State → State → Res A → Type 0
LocalAt r s t q = Calm r.did → Agree s t r.did.names → Enough t r.did → Like r s t q

abbrev pub LocalBelow : ℕ → Evaluator → Type 0
LocalBelow n f = (u : Tree) (s t : State) → s.steps ≤ n → LocalAt (f u s) s t (f u t)

or_false : (a b : Bool) → (a || b) ≡ false → (a ≡ false) × (b ≡ false)
or_false false b e = (refl, e)
or_false true b e = absurd (cc)

Agree-append : (s t : State) (a b : List Name) → Agree s t (a ++ b) → Agree s t a × Agree s t b
Agree-append s t [] b h = (tt, h)
Agree-append s t (x ∷ a) b h = let r = Agree-append s t a b h.1 in ((h.0, r.0), r.1)

spent-none : (s : State) → spent s 0 ≡ s
spent-none s = let e : s.steps - 0 ≡ s.steps = omega arith in ap (λ n. let r : State = record s { steps = n } in r) e

spent-spent : (s : State) (a b : ℕ) → spent (spent s a) b ≡ spent s (a + b)
spent-spent s a b = let e : (s.steps - a) - b ≡ s.steps - (a + b) = omega arith in ap (λ n. let r : State = record s { steps = n } in r) e

abbrev after : {A : Type 0} → Record → Res A → Res A
after d r = record r { did = d then r.did }

-- what is done first, and then
after-like : {A : Type 0} (d : Record) (s t : State) (g g' : Res A) → Like g (spent s d.steps) (spent t d.steps) g' → Like (after d g) s t (after d g')
after-like d s t g g' l = record {
  here = l.here ∙ spent-spent s d.steps g.did.steps;
  there = ap (after d) l.there ∙ ap (λ z. record (after d g) { state = z }) (spent-spent t d.steps g.did.steps);
}

first-calm : (a b : Record) → Calm (a then b) → Calm a × Calm b
first-calm a b c =
    let e = or_false a.effect b.effect c.effect in
    let o = or_false a.out b.out c.out in
    (record { effect = e.0; out = o.0 }, record { effect = e.1; out = o.1 })

first-enough : (t : State) (a b : Record) → Enough t (a then b) → Enough t a
first-enough t a b e = record { depth = omega (arith, e.depth); turns = omega (arith, e.turns); steps = omega (arith, e.steps) }

second-enough : (t : State) (a b : Record) → Enough t (a then b) → Enough (spent t a.steps) b
second-enough t a b e = record { depth = omega (arith, e.depth); turns = omega (arith, e.turns); steps = omega (arith, e.steps) }

Agree-spent : (s t : State) (a b : ℕ) (ns : List Name) → Agree s t ns → Agree (spent s a) (spent t b) ns
Agree-spent s t a b [] h = tt
Agree-spent s t a b (n ∷ ns) h = (h.0, Agree-spent s t a b ns h.1)

-- one part and another
and_then-local : {A B : Type 0} (r : Res A) (s t : State) (q : Res A) (f f' : A → State → Res B) →
    LocalAt r s t q →
    (Like r s t q → LocalAt (f r.result r.state) (spent s r.did.steps) (spent t r.did.steps) (f' r.result (spent t r.did.steps))) →
    LocalAt (and_then r f) s t (and_then q f')
and_then-local {A} {B} r s t q f f' first next calm agree enough =
    let g = f r.result r.state in
    let c = first-calm r.did g.did calm in
    let a = Agree-append s t r.did.names g.did.names agree in
    let l = first c.0 a.0 (first-enough t r.did g.did enough) in
    let m = next l c.1 (Agree-spent s t r.did.steps r.did.steps g.did.names a.1) (second-enough t r.did g.did enough) in
    subst (λ (z : Res A). Like (and_then r f) s t (and_then z f')) (sym l.there) (after-like r.did s t g (f' r.result (spent t r.did.steps)) m)

Agree-hushed : (h : How) (s t : State) (ns : List Name) → Agree s t ns → Agree (hushed h s) (hushed h t) ns
Agree-hushed h s t [] a = tt
Agree-hushed openly s t (n ∷ ns) a = (a.0, Agree-hushed openly s t ns a.1)
Agree-hushed quietly s t (n ∷ ns) a = (a.0, Agree-hushed quietly s t ns a.1)
Agree-hushed checked s t (n ∷ ns) a = (a.0, Agree-hushed checked s t ns a.1)

or_none : (a : Bool) → (a || false) ≡ a
or_none true = refl
or_none false = refl

-- a state with another answer to whether a message was heard
abbrev with_heard : State → Bool → State
with_heard s b = with_desk (desk.with_heard b s.world.desk) s

-- a Check that heard nothing leaves the one around it as it was
unhushed-checked : (s : State) (n : ℕ) → unhushed checked s.world.desk (spent (hushed checked s) n) ≡ spent s n
unhushed-checked s n = ap (λ b. with_heard (spent s n) b) (or_none s.world.desk.heard)

asked-local : (n : ℕ) (ev : Evaluator) → LocalBelow n ev → (h : How) (u : Tree) (s t : State) → s.steps ≤ n → LocalAt (asked ev h u s) s t (asked ev h u t)
asked-local n ev f openly u s t l calm agree enough =
    let m = f u s t l calm agree enough in
    record { here = m.here; there = ap (with_told openly t.world.desk) m.there }
asked-local n ev f quietly u s t l calm agree enough =
    let m = f u (hushed quietly s) (hushed quietly t) l calm (Agree-hushed quietly s t _ agree) (record { depth = enough.depth; turns = enough.turns; steps = enough.steps }) in
    record { here = ap (λ z. unhushed quietly s.world.desk z) m.here; there = ap (with_told quietly t.world.desk) m.there }
asked-local n ev f checked u s t l calm agree enough =
    let r = ev u (hushed checked s) in
    let m = f u (hushed checked s) (hushed checked t) l calm (Agree-hushed checked s t _ agree) (record { depth = enough.depth; turns = enough.turns; steps = enough.steps }) in
    let k = r.did.steps in
    record {
      here = ap (λ z. unhushed checked s.world.desk z) m.here ∙ unhushed-checked s k;
      there = ap (with_told checked t.world.desk) m.there
          ∙ ap (λ z. let q : Res (End × Bool) = record { result = (r.result, false); state = z; did = r.did } in q) (unhushed-checked t k)
          ∙ ap (λ b. let q : Res (End × Bool) = record { result = (r.result, b); state = spent t k; did = r.did } in q) (sym (ap (told checked) m.here));
    }

took-local : (w v : World) (n d m e : ℕ) → LocalAt (took (record { world = w; steps = n; depth = d })) (record { world = w; steps = n; depth = d }) (record { world = v; steps = m; depth = e }) (took (record { world = v; steps = m; depth = e }))
took-local w v zero d m e calm agree enough = absurd (true≢false calm.out)
took-local w v (suc n) d zero e calm agree enough = absurd (omega (arith, enough.steps))
took-local w v (suc n) d (suc m) e calm agree enough =
    let a : n ≡ suc n - 1 = omega arith in
    let b : m ≡ suc m - 1 = omega arith in
    record {
      here = ap (λ z. let r : State = record { world = w; steps = z; depth = d } in r) a;
      there = ap (λ z. let r : Res Bool = record { result = true; state = record { world = v; steps = z; depth = e }; did = stepping } in r) b;
    }

over-like : {A : Type 0} (a : A) (s t : State) → Like (over a s) s t (over a t)
over-like a s t = record { here = sym (spent-none s); there = ap (over a) (sym (spent-none t)) }

interp-local : {R : Type 0} (n : ℕ) (ev : Evaluator) → Falls ev → LocalBelow n ev → (p : Prog R) (s t : State) → s.steps ≤ n → LocalAt (interp ev p s) s t (interp ev p t)
unfolding interp
interp-local n ev b f (done r) s t l calm agree enough = over-like (Ok r) s t
interp-local n ev b f (stop r) s t l calm agree enough = record { here = sym (spent-none s); there = ap (stopped r) (sym (spent-none t)) }
interp-local n ev b f (look m k) s t l calm agree enough =
    let g = interp ev (k (s.world.definitions m)) s in
    let m1 = interp-local n ev b f (k (s.world.definitions m)) s t l (record { effect = calm.effect; out = calm.out }) agree.1 (record { depth = omega (arith, enough.depth); turns = omega (arith, enough.turns); steps = omega (arith, enough.steps) }) in
    let m2 = subst (λ z. Like g s t (interp ev (k z) t)) agree.0 m1 in
    after-like (reading (m ∷ [])) s t g (interp ev (k (t.world.definitions m)) t) (subst₂ (λ x y. Like g x y (interp ev (k (t.world.definitions m)) t)) (sym (spent-none s)) (sym (spent-none t)) m2)
interp-local n ev b f (eval h u k) s t l calm agree enough =
    let r = asked ev h u s in
    let d = r.did.steps in
    and_then-local r s t (asked ev h u t) (λ a s'. interp ev (k a.0 a.1) s') (λ a s'. interp ev (k a.0 a.1) s')
    (asked-local n ev f h u s t l)
    (λ lk.
    let x = interp ev (k r.result.0 r.result.1) r.state in
    let m = interp-local n ev b f (k r.result.0 r.result.1) r.state (spent t d) (le_trans (asked-falls ev b h u s) l) in
    subst (λ z. LocalAt x z (spent t d) (interp ev (k r.result.0 r.result.1) (spent t d))) lk.here m)
    calm agree enough
interp-local n ev b f (step k) s t l calm agree enough =
    let r = took s in
    let d = r.did.steps in
    and_then-local r s t (took t) (λ b s'. interp ev (k b) s') (λ b s'. interp ev (k b) s')
    (took-local s.world t.world s.steps s.depth t.steps t.depth)
    (λ lk.
    let x = interp ev (k r.result) r.state in
    let m = interp-local n ev b f (k r.result) r.state (spent t d) (le_trans (took-falls s) l) in
    subst (λ z. LocalAt x z (spent t d) (interp ev (k r.result) (spent t d))) lk.here m)
    calm agree enough
interp-local n ev b f (act w k) s t l calm agree enough = absurd (true≢false calm.effect)

after_turn-local : (n : ℕ) (again : Evaluator) → LocalBelow n again → (r : Result Turned End) (s t : State) → s.steps ≤ n → LocalAt (after_turn again r s) s t (after_turn again r t)
after_turn-local n again f (Ok (Final u)) s t l calm agree enough = over-like (Value u) s t
after_turn-local n again f (Ok (Next (num m))) s t l calm agree enough = over-like (Value (num m)) s t
after_turn-local n again f (Ok (Next (text x))) s t l calm agree enough = over-like (Value (text x)) s t
after_turn-local n again f (Ok (Next (symbol m))) s t l calm agree enough = f (symbol m) s t l calm agree enough
after_turn-local n again f (Ok (Next (node h es))) s t l calm agree enough = f (node h es) s t l calm agree enough
after_turn-local n again f (Err e) s t l calm agree enough = over-like e s t

stepped-local : (n : ℕ) (ev again : Evaluator) → Falls ev → LocalBelow n ev → LocalBelow n again → (u : Tree) (b : Bool) (s t : State) → s.steps ≤ n → LocalAt (stepped ev again u b s) s t (stepped ev again u b t)
stepped-local n ev again b f g u false s t l calm agree enough = over-like BudgetEnded s t
stepped-local n ev again b f g u true s t l calm agree enough =
    let r = interp ev (turn u) s in
    let d = r.did.steps in
    and_then-local r s t (interp ev (turn u) t) (after_turn again) (after_turn again) (interp-local n ev b f (turn u) s t l)
    (λ lk.
    let m = after_turn-local n again g r.result r.state (spent t d) (le_trans (interp-falls ev b (turn u) s) l) in
    subst (λ z. LocalAt (after_turn again r.result r.state) z (spent t d) (after_turn again r.result (spent t d))) lk.here m)
    calm agree enough

body-local : (ev again : Evaluator) → Falls ev → (u : Tree) (w : World) (n d : ℕ) (t : State) → ((m : ℕ) → n ≡ suc m → LocalBelow m ev × LocalBelow m again) →
    LocalAt (and_then (took (record { world = w; steps = n; depth = d })) (stepped ev again u)) (record { world = w; steps = n; depth = d }) t (and_then (took t) (stepped ev again u))
body-local ev again b u w zero d t f calm agree enough = absurd (true≢false calm.out)
body-local ev again b u w (suc n) d t f calm agree enough =
    let s : State = record { world = w; steps = suc n; depth = d } in
    let s1 : State = record { world = w; steps = n; depth = d } in
    let g = f n refl in
    and_then-local (took s) s t (took t) (stepped ev again u) (stepped ev again u) (took-local w t.world (suc n) d t.steps t.depth)
    (λ lk. subst (λ z. LocalAt (stepped ev again u true s1) z (spent t 1) (stepped ev again u true (spent t 1))) lk.here (stepped-local n ev again b g.0 g.1 u true s1 (spent t 1) (omega arith)))
    calm agree enough

turn_on-local : (ev again : Evaluator) → Falls ev → (o : Bool) (c : ℕ) (u : Tree) (s t : State) → ((m : ℕ) → s.steps ≡ suc m → LocalBelow m ev × LocalBelow m again) →
    LocalAt (turn_on o ev again c u s) s t (turn_on (nat_lt (limit iteration_limit t.world) c) ev again c u t)
turn_on-local ev again b true c u s t f calm agree enough = absurd (true≢false calm.effect)
turn_on-local ev again b false c u s t f calm agree enough =
    let g = and_then (took s) (stepped ev again u) in
    let g' = and_then (took t) (stepped ev again u) in
    let m = body-local ev again b u s.world s.steps s.depth t f (record { effect = calm.effect; out = calm.out }) agree (record { depth = omega (arith, enough.depth); turns = omega (arith, enough.turns); steps = omega (arith, enough.steps) }) in
    let l = after-like (turning c) s t g g' (subst₂ (λ x y. Like g x y g') (sym (spent-none s)) (sym (spent-none t)) m) in
    let o : nat_lt (limit iteration_limit t.world) c ≡ false = le-ltb (limit iteration_limit t.world) c (omega (arith, enough.turns)) in
    subst (λ z. Like (turn_on false ev again c u s) s t (turn_on z ev again c u t)) (sym o) l

weaker : (m n : ℕ) (f : Evaluator) → m ≤ n → LocalBelow n f → LocalBelow m f
weaker m n f l h u s t k = h u s t (le_trans k l)

-- an evaluation, where its turns are local
eval_on-local : (turns : Evaluator) (o : Bool) (u : Tree) (s t : State) → LocalAt (turns u (opened s)) (opened s) (opened t) (turns u (opened t)) →
    LocalAt (eval_on o turns u s) s t (eval_on (nat_lt (limit recursion_limit t.world) (t.depth + 1)) turns u t)
eval_on-local turns true u s t f calm agree enough = absurd (true≢false calm.effect)
eval_on-local turns false u s t f calm agree enough =
    let r = turns u (opened s) in
    let m = f (record { effect = calm.effect; out = calm.out }) (Agree-opened s t r.did.names agree) (record { depth = omega (arith, enough.depth); turns = enough.turns; steps = enough.steps }) in
    let o : nat_lt (limit recursion_limit t.world) (t.depth + 1) ≡ false = le-ltb (limit recursion_limit t.world) (t.depth + 1) (omega (arith, enough.depth)) in
    subst (λ z. Like (closed s.depth (final r)) s t (eval_on z turns u t)) (sym o) (record {
      here = ap (λ (z : State). let y : State = record z { depth = s.depth } in y) m.here;
      there = ap (λ z. closed t.depth (final z)) m.there;
    })
  where
    Agree-opened : (s t : State) (ns : List Name) → Agree s t ns → Agree (opened s) (opened t) ns
    Agree-opened s t [] h = tt
    Agree-opened s t (n ∷ ns) h = (h.0, Agree-opened s t ns h.1)

one_eval-local : (n : ℕ) (turns : Evaluator) → LocalBelow n turns → LocalBelow n (one_eval turns)
one_eval-local n turns f (num m) s t l calm agree enough = over-like (Value (num m)) s t
one_eval-local n turns f (text x) s t l calm agree enough = over-like (Value (text x)) s t
one_eval-local n turns f (symbol m) s t l calm agree enough = eval_on-local turns _ (symbol m) s t (f (symbol m) (opened s) (opened t) l) calm agree enough
one_eval-local n turns f (node h es) s t l calm agree enough = eval_on-local turns _ (node h es) s t (f (node h es) (opened s) (opened t) l) calm agree enough

Eval-from : (n : ℕ) → LocalBelow n (Turns 1) → LocalBelow n Eval
Eval-from n f u s t l = subst₂ (λ x y. LocalAt x s t y) (sym (Eval-is u s)) (sym (Eval-is u t)) (one_eval-local n (Turns 1) f u s t l)

turns-local : (n c : ℕ) → LocalBelow n (Turns c)
turns-local zero c u s t l = subst₂ (λ x y. LocalAt x s t y) (sym (Turns-is c u s)) (sym (Turns-is c u t))
    (turn_on-local Eval (Turns (suc c)) Eval-falls _ c u s t (λ m e. absurd (omega arith)))
turns-local (suc n) c u s t l = subst₂ (λ x y. LocalAt x s t y) (sym (Turns-is c u s)) (sym (Turns-is c u t))
    (turn_on-local Eval (Turns (suc c)) Eval-falls _ c u s t
    (λ m e. (weaker m n Eval (omega arith) (Eval-from n (λ v x y k. turns-local n 1 v x y k)), weaker m n (Turns (suc c)) (omega arith) (λ v x y k. turns-local n (suc c) v x y k))))

Eval-local : (u : Tree) (s t : State) → LocalAt (Eval u s) s t (Eval u t)
Eval-local u s t = Eval-from s.steps (turns-local s.steps 1) u s t (omega arith)

final-out : (r : Res End) → r.did.out ≡ true → (final r).result ≡ BudgetEnded
final-out r e = rw e

eval_on-out : (turns : Evaluator) (o : Bool) (u : Tree) (s : State) → (eval_on o turns u s).did.out ≡ true → (eval_on o turns u s).result ≡ BudgetEnded
eval_on-out turns true u s e = absurd (true≢false (sym e))
eval_on-out turns false u s e = final-out (turns u (opened s)) e

one_eval-out : (turns : Evaluator) (u : Tree) (s : State) → (one_eval turns u s).did.out ≡ true → (one_eval turns u s).result ≡ BudgetEnded
one_eval-out turns (num n) s e = absurd (true≢false (sym e))
one_eval-out turns (text x) s e = absurd (true≢false (sym e))
one_eval-out turns (symbol n) s e = eval_on-out turns _ (symbol n) s e
one_eval-out turns (node h es) s e = eval_on-out turns _ (node h es) s e

Eval-out : (u : Tree) (s : State) → (Eval u s).did.out ≡ true → (Eval u s).result ≡ BudgetEnded
Eval-out u s = subst (λ r. r.did.out ≡ true → r.result ≡ BudgetEnded) (sym (Eval-is u s)) (one_eval-out (Turns 1) u s)

not_true : (b : Bool) → b ≢ true → b ≡ false
not_true true h = absurd (h refl)
not_true false h = refl

pub locality : Locality
locality u s t calm ends agree enough =
    Eval-local u s t (record { effect = calm; out = not_true _ (λ e. ends (Eval-out u s e)) }) agree enough
