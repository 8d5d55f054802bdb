-- How turns and evaluations play on evaluators.
use Rattle.std.proofs.Common.{◌≡◌, ℕ, zero, suc, ◌+◌, ◌<◌, max, Bool, true, false, ◌||◌, nat_lt, List, [], ◌∷◌, Option, Some, None, Result, Ok, codes, refl, sym, ap, ap₂, ◌∙◌, subst, le_refl, arith, add-one, append-nil, lt-ltb}
use Rattle.wl_expr.specs.Tree.{Tree}
use Rattle.wl_expr.specs.Words.{Name, Bytes, natural}
use Rattle.wl_semantics.specs.State as spec
use Rattle.wl_semantics.specs.State.{World, State, End, Value, Aborted, BudgetEnded, Turned, Final, Next}
use Rattle.wl_semantics.specs.Prog as prog
use Rattle.wl_semantics.specs.Prog.{Prog, issue, end_of, tick, ◌>>=◌}
use Rattle.wl_semantics.specs.Effects.{acted}
use Rattle.wl_semantics.specs.LeftSides.{iteration_limit}
use Rattle.wl_semantics.specs.Turn.{turn}
use Rattle.wl_semantics.specs.Eval.{Record, none, ◌then◌, Res, and_then, acting, stepping, with_record, took, over, interp, limit, aborted, turning, after_turn, stepped, turn_on, final, is_budget_end, Turns, Eval, Go}
use Rattle.wl_state.specs.Honest.{Same, names_in}
use Rattle.wl_state.specs.Logs.{is_spoiled, Adds, IsLogOf, counted}
use Rattle.wl_state.specs.Played.{Plays, PlaysTurns, Notes, Sound, state, whole_turn}
use Rattle.wl_state.specs.declared.evaluator.Log.{Log}
use Rattle.wl_state.specs.declared.evaluator.Evaluator.{Evaluator}
use Rattle.wl_semantics.proofs.Level.{Turns-is}
use Rattle.wl_semantics.proofs.Bind.{then_assoc, then_none, or_none}
use Rattle.wl_semantics.proofs.Keeps.{Go-depth}
use Rattle.wl_state.proofs.Names.{some_inj, same_refl}
use Rattle.wl_state.proofs.Stores.{kept_refl, grows_trans}
use Rattle.wl_state.proofs.Playing.{notes_then, began_notes}

-- ---- a turn with its step

body-plays : (again : Tree → State → Res End) (t : Tree) (w : World) (n d : ℕ) →
    and_then (took (record { world = w; steps = n; depth = d })) (stepped Eval again t) ≡ and_then (Go (whole_turn t) (record { world = w; steps = n; depth = d })) (after_turn again)
unfolding interp tick ◌>>=◌
body-plays again t w zero d = refl
body-plays again t w (suc n) d =
    let r = Go (turn t) (record { world = w; steps = n; depth = d }) in
    let q = after_turn again r.result r.state in
    ap (λ z. record q { did = z }) (sym (then_assoc stepping r.did q.did))

-- the turns from the c-th on, by how the c-th plays
pub turns_are : (c : ℕ) (t : Tree) (s : State) → nat_lt (limit iteration_limit s.world) c ≡ false → Turns c t s ≡ with_record (turning c) (and_then (Go (whole_turn t) s) (after_turn (Turns (suc c))))
turns_are c t s l = Turns-is c t s ∙ ap (λ b. turn_on b Eval (Turns (suc c)) c t s) l ∙ ap (with_record (turning c)) (body-plays (Turns (suc c)) t s.world s.steps s.depth)

-- ---- the number of a turn noted

module _ (c : ℕ) (k : Evaluator) where
  abbrev pub marked : Evaluator
  marked = record k { log = counted c k.log }

  counted_spoiled : (o : Option Log) → is_spoiled (counted c o) ≡ is_spoiled o
  counted_spoiled None = refl
  counted_spoiled (Some u) = refl

  pub marked_notes : Notes k (turning c) marked
  marked_notes = record {
    spoiled = counted_spoiled k.log ∙ sym (or_none _);
    adds = λ u v p q.
        let e : record u { turns = max u.turns c } ≡ v = some_inj (sym (ap (counted c) p) ∙ q) in
        subst (λ y. Adds k.store k.depth u (turning c) k.store y) e (record {
          kept = kept_refl _;
          names = subst (λ z. Same (names_in k.store u.reads) z) (sym (append-nil _)) (same_refl _);
          start = refl;
          deepest = omega arith;
          deeper = omega arith;
          turns = refl;
        });
  }

  counted_log : (o : Option Log) → IsLogOf k.store o → IsLogOf k.store (counted c o)
  counted_log None h = tt
  counted_log (Some u) h = h

  pub marked_sound : Sound k → Sound marked
  marked_sound h = record {
    distinct = h.distinct;
    drawn = h.drawn;
    honest = h.honest;
    history = h.history;
    recursion = h.recursion;
    iteration = h.iteration;
    recursion_most = h.recursion_most;
    iteration_most = h.iteration_most;
    deepest = h.deepest;
    quiets = h.quiets;
    current = counted_log k.log h.current;
    began = began_notes k marked (turning c) marked_notes (le_refl _) h.began;
  }

final-kept : (r : Res End) (e : End) → r.result ≡ e → r.did.out ≡ is_budget_end e → (final r).result ≡ e
final-kept r (Value v) h o = rw o h
final-kept r (spec.Thrown v t) h o = rw o h
final-kept r Aborted h o = rw o h
final-kept r BudgetEnded h o = rw o refl
final-kept r spec.Broke h o = rw o h
final-kept r spec.Continued h o = rw o h

module _ (c : ℕ) (t : Tree) (k k1 : Evaluator) (q : Result Turned End) (o : Bool) (l : nat_lt (limit iteration_limit (state k).world) c ≡ false) (h : Plays (whole_turn t) (marked c k) q k1 o) where
  played_depth : k1.depth ≡ k.depth
  played_depth = sym (ap (λ (s : State). s.depth) h.leaves) ∙ Go-depth (whole_turn t) (state k)

  abbrev from : Record → Result Turned End → State → Res End
  from d x s = with_record (turning c) (and_then (record { result = x; state = s; did = d }) (after_turn (Turns (suc c))))

  turns_from : Turns c t (state k) ≡ from (Go (whole_turn t) (state k)).did q (state k1)
  turns_from =
      let d = (Go (whole_turn t) (state k)).did in
      let f : Result Turned End → State → Res End = λ x s. with_record (turning c) (and_then (record { result = x; state = s; did = d }) (after_turn (Turns (suc c)))) in
      turns_are c t (state k) l ∙ ap₂ f h.ends h.leaves

  -- an evaluation that ends with this turn
  pub turns_end : (e : End) → o ≡ is_budget_end e → after_turn (Turns (suc c)) q (state k1) ≡ over e (state k1) → PlaysTurns c t k e k1
  turns_end e b a =
      let d = (Go (whole_turn t) (state k)).did in
      let w : Turns c t (state k) ≡ with_record (turning c) (record (over e (state k1)) { did = d then none }) = turns_from ∙ ap (λ z. with_record (turning c) (record z { did = d then z.did })) a in
      let out : (Turns c t (state k)).did.out ≡ is_budget_end e = ap (λ z. z.did.out) w ∙ or_none d.out ∙ h.out ∙ b in
      record {
        ends = final-kept (Turns c t (state k)) e (ap (λ z. z.result) w) out;
        leaves = ap (λ z. z.state) w;
        out = out;
        notes = subst (λ z. Notes k z k1) (sym (ap (λ z. z.did) w)) (subst (λ z. Notes k (turning c then z) k1) (sym (then_none d)) (notes_then k (marked c k) k1 (turning c) d refl (marked_notes c k) h.notes));
        grows = h.grows;
        sound = λ s. h.sound (marked_sound c k s);
      }

  -- one that goes on
  pub turns_on : (u : Tree) → o ≡ false → after_turn (Turns (suc c)) q (state k1) ≡ Turns (suc c) u (state k1) → (e : End) (k2 : Evaluator) → PlaysTurns (c + 1) u k1 e k2 → PlaysTurns c t k e k2
  turns_on u b a e k2 y =
      let x : PlaysTurns (suc c) u k1 e k2 = subst (λ z. PlaysTurns z u k1 e k2) (add-one c) y in
      let d = (Go (whole_turn t) (state k)).did in
      let r = Turns (suc c) u (state k1) in
      let w : Turns c t (state k) ≡ with_record (turning c) (record r { did = d then r.did }) = turns_from ∙ ap (λ z. with_record (turning c) (record z { did = d then z.did })) a in
      let f : End → Bool → End = λ x z. elim z [ true ↦ BudgetEnded | false ↦ x ] in
      let out : (Turns c t (state k)).did.out ≡ r.did.out = ap (λ z. z.did.out) w ∙ ap (λ z. z || r.did.out) (h.out ∙ b) in
      let n = notes_then (marked c k) k1 k2 d r.did played_depth h.notes x.notes in
      record {
        ends = ap₂ f (ap (λ z. z.result) w) out ∙ x.ends;
        leaves = ap (λ z. z.state) w ∙ x.leaves;
        out = out ∙ x.out;
        notes = subst (λ z. Notes k z k2) (sym (ap (λ z. z.did) w)) (notes_then k (marked c k) k2 (turning c) (d then r.did) refl (marked_notes c k) n);
        grows = grows_trans h.grows x.grows;
        sound = λ s. x.sound (h.sound (marked_sound c k s));
      }

-- ---- the two limits

issued_is : (x : Name) (g : Bytes) (args : List Tree) (s : State) → Go (prog.message x g args) s ≡ record { result = Ok tt; state = record s { world = (acted (issue x g args) s.world).1 }; did = acting (issue x g args) then none }
unfolding prog.doing interp
issued_is x g args s = refl

-- what is aborted with this message
module _ (x : Name) (g : Bytes) (n : ℕ) (k k1 : Evaluator) (e : limit x (state k).world ≡ n) (h : Plays (prog.message x g (natural n ∷ [])) k (Ok tt) k1 false) where
  told : Plays (prog.message x g (natural (limit x (state k).world) ∷ [])) k (Ok tt) k1 false
  told = subst (λ m. Plays (prog.message x g (natural m ∷ [])) k (Ok tt) k1 false) (sym e) h

  pub aborted_state : (aborted x g (state k)).state ≡ state k1
  aborted_state = sym (ap (λ r. r.state) (issued_is x g (natural (limit x (state k).world) ∷ []) (state k))) ∙ told.leaves

  pub aborted_notes : Notes k (aborted x g (state k)).did k1
  aborted_notes = subst (λ z. Notes k z k1) (ap (λ r. r.did) (issued_is x g (natural (limit x (state k).world) ∷ []) (state k)) ∙ then_none _) told.notes

-- a turn past the limit
pub turns_limit : (c : ℕ) (t : Tree) (k k1 : Evaluator) → Sound k → k.iteration < c → Plays (prog.message iteration_limit (codes "itlim") (natural k.iteration ∷ [])) k (Ok tt) k1 false → PlaysTurns c t k Aborted k1
turns_limit c t k k1 s l h =
    let past : nat_lt (limit iteration_limit (state k).world) c ≡ true = ap (λ n. nat_lt n c) s.iteration ∙ lt-ltb k.iteration c l in
    let e : Turns c t (state k) ≡ aborted iteration_limit (codes "itlim") (state k) = Turns-is c t (state k) ∙ ap (λ b. turn_on b Eval (Turns (suc c)) c t (state k)) past in
    record {
      ends = ap (λ z. (final z).result) e;
      leaves = ap (λ z. z.state) e ∙ aborted_state iteration_limit (codes "itlim") k.iteration k k1 s.iteration h;
      out = ap (λ z. z.did.out) e;
      notes = subst (λ z. Notes k z k1) (sym (ap (λ z. z.did) e)) (aborted_notes iteration_limit (codes "itlim") k.iteration k k1 s.iteration h);
      grows = h.grows;
      sound = h.sound;
    }
