-- A program made of parts plays its parts.
use Rattle.std.proofs.Common.{◌≡◌, Bool, true, false, ◌||◌, [], ◌∷◌, Result, Ok, Err, refl, sym, ap, ◌∙◌, ap₂, arith, append_assoc, append-nil}
use Rattle.wl_semantics.specs.State.{State, End}
use Rattle.wl_semantics.specs.Prog.{Prog, done, stop, look, eval, step, act, ◌>>=◌}
use Rattle.wl_semantics.specs.Effects.{acted}
use Rattle.wl_semantics.specs.Eval.{Record, none, ◌then◌, Res, and_then_ok, reading, acting, with_record, Evaluator, asked, took, over, stopped, is_budget_end, interp, Eval, Go}
use Rattle.wl_semantics.specs.Local.{Plays}

-- the laws of records of what was done

record_path : (a b : Record) → a.names ≡ b.names → a.effect ≡ b.effect → a.steps ≡ b.steps → a.depth ≡ b.depth → a.turns ≡ b.turns → a.out ≡ b.out → a ≡ b
record_path a b n e s d t o = λ i. record { names = n i; effect = e i; steps = s i; depth = d i; turns = t i; out = o i }

pub or_assoc : (a b c : Bool) → ((a || b) || c) ≡ (a || (b || c))
or_assoc true b c = refl
or_assoc false b c = refl

pub or_none : (a : Bool) → (a || false) ≡ a
or_none true = refl
or_none false = refl

pub then_assoc : (a b c : Record) → (a then b) then c ≡ a then (b then c)
then_assoc a b c = record_path _ _ (append_assoc a.names b.names c.names) (or_assoc a.effect b.effect c.effect) (omega arith) (omega arith) (omega arith) (or_assoc a.out b.out c.out)

pub none_then : (a : Record) → none then a ≡ a
none_then a = record_path _ _ refl refl (omega arith) (omega arith) (omega arith) refl

pub then_none : (a : Record) → a then none ≡ a
then_none a = record_path _ _ (append-nil a.names) (or_none a.effect) (omega arith) (omega arith) (omega arith) (or_none a.out)

after-ok : {A B : Type 0} (d : Record) (r : Res (Result A End)) (g : A → State → Res (Result B End)) → with_record d (and_then_ok r g) ≡ and_then_ok (with_record d r) g
after-ok {A} {B} d r g = ap (λ z. let y = and_then_ok r g in record y { did = z }) (sym (then_assoc d r.did (next r.result r.state).did))
  where
    next : Result A End → State → Res (Result B End)
    next q s = elim q [ Ok a ↦ g a s | Err e ↦ over (Err e) s ]

-- what a program does, and then another
pub interp-bind : {A B : Type 0} (ev : Evaluator) (p : Prog A) (f : A → Prog B) (s : State) → interp ev (p >>= f) s ≡ and_then_ok (interp ev p s) (λ a s'. interp ev (f a) s')
unfolding interp ◌>>=◌
interp-bind ev (done a) f s = let g = interp ev (f a) s in ap (λ d. record g { did = d }) (sym (none_then g.did))
interp-bind ev (stop e) f s = ap (λ d. record (stopped e s) { did = d }) (sym (then_none (record none { out = is_budget_end e })))
interp-bind ev (look n k) f s =
    let r = interp ev (k (s.world.definitions n)) s in
    ap (with_record (reading (n ∷ []))) (interp-bind ev (k (s.world.definitions n)) f s) ∙ after-ok (reading (n ∷ [])) r (λ a s'. interp ev (f a) s')
interp-bind ev (eval h t k) f s =
    let a = asked ev h t s in
    let r = interp ev (k a.result.0 a.result.1) a.state in
    ap (with_record a.did) (interp-bind ev (k a.result.0 a.result.1) f a.state) ∙ after-ok a.did r (λ a s'. interp ev (f a) s')
interp-bind ev (step k) f s =
    let a = took s in
    let r = interp ev (k a.result) a.state in
    ap (with_record a.did) (interp-bind ev (k a.result) f a.state) ∙ after-ok a.did r (λ a s'. interp ev (f a) s')
interp-bind ev (act w k) f s =
    let a = acted w s.world in
    let s1 : State = record s { world = a.1 } in
    let r = interp ev (k a.0) s1 in
    ap (with_record (acting w)) (interp-bind ev (k a.0) f s1) ∙ after-ok (acting w) r (λ a s'. interp ev (f a) s')

-- a part plays to its result, and what follows plays on
pub plays_bind : {A B : Type 0} (p : Prog A) (f : A → Prog B) {s s1 s2 : State} {a : A} {r : Result B End} {o q : Bool} →
    Plays p s (Ok a) s1 o → Plays (f a) s1 r s2 q → Plays (p >>= f) s r s2 (o || q)
plays_bind {A} {B} p f {s} {s1} {s2} {a} {r} {o} {q} h k =
    let g : A → State → Res (Result B End) = λ x z. Go (f x) z in
    let b = interp-bind Eval p f s in
    let d = (Go p s).did in
    let at : Result A End → State → Res (Result B End) = λ x z. and_then_ok (record { result = x; state = z; did = d }) g in
    let e : Go (p >>= f) s ≡ at (Ok a) s1 = b ∙ ap₂ at h.result h.state in
    record {
      result = ap (λ z. z.result) e ∙ k.result;
      state = ap (λ z. z.state) e ∙ k.state;
      out = ap (λ z. z.did.out) e ∙ ap₂ (λ y z. y || z) h.out k.out;
    }

pub plays_stop : {A B : Type 0} (p : Prog A) (f : A → Prog B) {s s1 : State} {e : End} {o : Bool} →
    Plays p s (Err e) s1 o → Plays (p >>= f) s (Err e) s1 o
plays_stop {A} {B} p f {s} {s1} {e} {o} h =
    let g : A → State → Res (Result B End) = λ x z. Go (f x) z in
    let b = interp-bind Eval p f s in
    let d = (Go p s).did in
    let at : Result A End → State → Res (Result B End) = λ x z. and_then_ok (record { result = x; state = z; did = d }) g in
    let w : Go (p >>= f) s ≡ at (Err e) s1 = b ∙ ap₂ at h.result h.state in
    record {
      result = ap (λ z. z.result) w;
      state = ap (λ z. z.state) w;
      out = ap (λ z. z.did.out) w ∙ or_none d.out ∙ h.out;
    }

pub plays_done : {A : Type 0} {a : A} {s : State} → Plays (done a) s (Ok a) s false
unfolding interp
plays_done = record { result = refl; state = refl; out = refl }
