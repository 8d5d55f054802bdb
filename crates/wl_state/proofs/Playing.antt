-- How programs play on evaluators: one after the other, and nothing.
use Rattle.std.proofs.Common.{◌≡◌, ℕ, ◌≤◌, Bool, true, false, ◌||◌, ◌++◌, Option, Some, None, Result, Ok, Err, refl, sym, ap, ap₂, ◌∙◌, subst, arith, append_assoc, append-nil, true≢false}
use Rattle.wl_rules.specs.Stored.{Stored}
use Rattle.wl_semantics.specs.State.{State, End}
use Rattle.wl_semantics.specs.Prog.{Prog, done, ◌>>=◌, now, stop}
use Rattle.wl_semantics.specs.Eval.{Record, none, ◌then◌, Res, and_then_ok, interp, Eval, Go}
use Rattle.wl_semantics.specs.Local.{is_budget}
use Rattle.wl_state.specs.Honest.{Same, names_in}
use Rattle.wl_state.specs.Logs.{is_spoiled, Adds}
use Rattle.wl_state.specs.Played.{Plays, Notes, Began, state}
use Rattle.wl_state.specs.declared.evaluator.Log.{Log}
use Rattle.wl_state.specs.declared.evaluator.Evaluator.{Evaluator}
use Rattle.wl_semantics.proofs.Bind.{interp-bind, or_assoc, or_none, then_none}
use Rattle.wl_semantics.proofs.Keeps.{Go-depth}
use Rattle.wl_state.proofs.Names.{some_inj, same_refl, same_trans, same_append}
use Rattle.wl_state.proofs.Stores.{kept_refl, kept_trans, grows_refl, grows_trans}

-- ---- logs

pub adds_then : (a b c : Stored) (n : ℕ) (t u v : Log) (d e : Record) → Adds a n t d b u → Adds b n u e c v → Adds a n t (d then e) c v
adds_then a b c n t u v d e p q = record {
  kept = kept_trans p.kept q.kept;
  names = same_trans q.names (subst (λ z. Same (names_in b u.reads ++ e.names) z) (append_assoc (names_in a t.reads) d.names e.names) (same_append _ _ _ _ p.names (same_refl e.names)));
  start = q.start ∙ p.start;
  deepest = omega (arith, p.deepest, q.deepest);
  deeper = omega (arith, p.deeper, q.deeper);
  turns = omega (arith, p.turns, q.turns);
}

-- what is nothing: no name, no effect, no depth, no turn
pub adds_nothing : (a : Stored) (n : ℕ) (u : Log) → Adds a n u none a u
adds_nothing a n u = record {
  kept = kept_refl _;
  names = subst (λ z. Same (names_in a u.reads) z) (sym (append-nil _)) (same_refl _);
  start = refl;
  deepest = omega arith;
  deeper = omega arith;
  turns = omega arith;
}

pub notes_then : (k k1 k2 : Evaluator) (d e : Record) → k1.depth ≡ k.depth → Notes k d k1 → Notes k1 e k2 → Notes k (d then e) k2
notes_then k k1 k2 d e q n m = record {
  spoiled = m.spoiled ∙ ap (λ z. z || e.effect) n.spoiled ∙ or_assoc (is_spoiled k.log) d.effect e.effect;
  adds = λ u v x y. middle u v x y k1.log refl;
}
  where
    middle : (u v : Log) → k.log ≡ Some u → k2.log ≡ Some v → (o : Option Log) → k1.log ≡ o → Adds k.store k.depth u (d then e) k2.store v
    middle u v x y None z =
        let w : true ≡ false = sym (m.spoiled ∙ ap (λ o. is_spoiled o || e.effect) z) ∙ ap is_spoiled y in absurd (true≢false w)
    middle u v x y (Some w) z = adds_then k.store k1.store k2.store k.depth u w v d e (n.adds u w x z) (subst (λ h. Adds k1.store h w e k2.store v) q (m.adds w v z y))

-- what is the same but for the steps and their want
pub notes_alike : (k k' : Evaluator) (d e : Record) → d.names ≡ e.names → d.effect ≡ e.effect → d.depth ≡ e.depth → d.turns ≡ e.turns → Notes k d k' → Notes k e k'
notes_alike k k' d e n f p t h = record {
  spoiled = h.spoiled ∙ ap (λ z. is_spoiled k.log || z) f;
  adds = λ u v x y.
      let a = h.adds u v x y in
      record {
        kept = a.kept;
        names = subst (λ z. Same (names_in k'.store v.reads) (names_in k.store u.reads ++ z)) n a.names;
        start = a.start;
        deepest = omega (arith, a.deepest, p);
        deeper = a.deeper;
        turns = omega (arith, a.turns, t);
      };
}

-- the same store and the same log
pub notes_none : (k k' : Evaluator) → k'.store ≡ k.store → k'.log ≡ k.log → Notes k none k'
notes_none k k' s l = record {
  spoiled = ap is_spoiled l ∙ sym (or_none _);
  adds = λ u v x y.
      let e : u ≡ v = some_inj (sym x ∙ sym l ∙ y) in
      subst (λ z. Adds k.store k.depth u none k'.store z) e (subst (λ z. Adds k.store k.depth u none z u) (sym s) (adds_nothing k.store k.depth u));
}

-- ---- when the log began

pub began_none : (k : Evaluator) → k.log ≡ None → Began k
began_none k n u q = absurd (let w : true ≡ false = sym (ap is_spoiled n) ∙ ap is_spoiled q in true≢false w)

pub began_notes : (k k' : Evaluator) (d : Record) → Notes k d k' → k'.steps ≤ k.steps → Began k → Began k'
began_notes k k' d n l b v q = from k.log refl
  where
    from : (o : Option Log) → k.log ≡ o → k'.steps ≤ v.start
    from None z =
        let w : true ≡ false = sym (n.spoiled ∙ ap (λ o. is_spoiled o || d.effect) z) ∙ ap is_spoiled q in absurd (true≢false w)
    from (Some u) z = omega (arith, b u z, l, (n.adds u v z q).start)

-- ---- programs

pub plays_bind : {A B : Type 0} (p : Prog A) (f : A → Prog B) {k k1 k2 : Evaluator} {a : A} {r : Result B End} {o q : Bool} →
    Plays p k (Ok a) k1 o → Plays (f a) k1 r k2 q → Plays (p >>= f) k r k2 (o || q)
plays_bind {A} {B} p f {k} {k1} {k2} {a} {r} {o} {q} h m =
    let g : A → State → Res (Result B End) = λ x z. Go (f x) z in
    let d = (Go p (state k)).did in
    let at : Result A End → State → Res (Result B End) = λ x z. and_then_ok (record { result = x; state = z; did = d }) g in
    let e : Go (p >>= f) (state k) ≡ at (Ok a) (state k1) = interp-bind Eval p f (state k) ∙ ap₂ at h.ends h.leaves in
    let same_depth : k1.depth ≡ k.depth = sym (ap (λ (s : State). s.depth) h.leaves) ∙ Go-depth p (state k) in
    record {
      ends = ap (λ z. z.result) e ∙ m.ends;
      leaves = ap (λ z. z.state) e ∙ m.leaves;
      out = ap (λ z. z.did.out) e ∙ ap₂ (λ y z. y || z) h.out m.out;
      notes = subst (λ z. Notes k z k2) (sym (ap (λ z. z.did) e)) (notes_then k k1 k2 d (Go (f a) (state k1)).did same_depth h.notes m.notes);
      grows = grows_trans h.grows m.grows;
      sound = λ s. m.sound (h.sound s);
    }

pub plays_stop : {A B : Type 0} (p : Prog A) (f : A → Prog B) {k k1 : Evaluator} {e : End} {o : Bool} → Plays p k (Err e) k1 o → Plays (p >>= f) k (Err e) k1 o
plays_stop {A} {B} p f {k} {k1} {e} {o} h =
    let g : A → State → Res (Result B End) = λ x z. Go (f x) z in
    let d = (Go p (state k)).did in
    let at : Result A End → State → Res (Result B End) = λ x z. and_then_ok (record { result = x; state = z; did = d }) g in
    let w : Go (p >>= f) (state k) ≡ at (Err e) (state k1) = interp-bind Eval p f (state k) ∙ ap₂ at h.ends h.leaves in
    let dn : (Go (p >>= f) (state k)).did ≡ d = ap (λ z. z.did) w ∙ then_none d in
    record {
      ends = ap (λ z. z.result) w;
      leaves = ap (λ z. z.state) w;
      out = ap (λ (z : Record). z.out) dn ∙ h.out;
      notes = subst (λ z. Notes k z k1) (sym dn) h.notes;
      grows = h.grows;
      sound = h.sound;
    }

pub plays_done : {A : Type 0} {a : A} {k : Evaluator} → Plays (done a) k (Ok a) k false
unfolding interp
plays_done {A} {a} {k} = record { ends = refl; leaves = refl; out = refl; notes = notes_none k k refl refl; grows = grows_refl _; sound = λ s. s }

pub plays_done_is : {R : Type 0} {a b : R} {k : Evaluator} → a ≡ b → Plays (done a) k (Ok b) k false
plays_done_is {R} {a} {b} {k} e = subst (λ z. Plays (done a) k (Ok z) k false) e plays_done

pub plays_now : {R : Type 0} (q : Result R End) (k : Evaluator) → Plays (now q) k q k (is_budget q)
unfolding now interp
plays_now (Ok r) k = plays_done
plays_now (Err e) k = record {
  ends = refl;
  leaves = refl;
  out = refl;
  notes = notes_alike k k none _ refl refl refl refl (notes_none k k refl refl);
  grows = grows_refl _;
  sound = λ s. s;
}

-- an end that stops, other than the budget's
pub plays_stops : {R : Type 0} (e : End) (k : Evaluator) → Plays {R = R} (stop e) k (Err e) k (is_budget {R = R} (Err e))
unfolding interp
plays_stops {R} e k = record {
  ends = refl;
  leaves = refl;
  out = refl;
  notes = notes_alike k k none _ refl refl refl refl (notes_none k k refl refl);
  grows = grows_refl _;
  sound = λ s. s;
}
