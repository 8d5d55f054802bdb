-- How whole evaluations play on evaluators, by their turns.
use Rattle.std.proofs.Common.{◌≡◌, ℕ, suc, ◌+◌, ◌-◌, ◌<◌, ◌≤◌, max, Bool, true, false, ◌||◌, nat_lt, [], ◌∷◌, Option, Some, None, option_map, Result, Ok, Err, codes, refl, sym, ap, ◌∙◌, subst, arith, lt-ltb, le-ltb, true≢false}
use Rattle.wl_expr.specs.Stamped as stamped
use Rattle.wl_expr.specs.Stamped.{Stamped, plain}
use Rattle.wl_expr.specs.Tree.{Tree, num, text}
use Rattle.wl_expr.specs.Words.{natural}
use Rattle.wl_semantics.specs.State as spec
use Rattle.wl_semantics.specs.State.{State, End, Value, Aborted, BudgetEnded, Turned, Final, Next}
use Rattle.wl_semantics.specs.Prog as prog
use Rattle.wl_semantics.specs.Prog.{Prog, end_of, value_of}
use Rattle.wl_semantics.specs.LeftSides.{recursion_limit, iteration_limit}
use Rattle.wl_semantics.specs.Eval.{Record, none, ◌then◌, Res, interp, limit, aborted, after_turn, eval_on, one_eval, over, opened, closed, final, is_budget_end, Turns, Eval, Go}
use Rattle.wl_state.specs.Honest.{Grows}
use Rattle.wl_state.specs.Logs.{is_spoiled, Adds, IsLogOf, deepened}
use Rattle.wl_state.specs.Played as played
use Rattle.wl_state.specs.Played.{Plays, PlaysTurns, Played, Notes, Sound, Ended, TurnsEnd, Stops, Valued, GoodEnd, Inside, is_leaf, sealed, turned, state, whole_turn}
use Rattle.wl_state.specs.declared.evaluator.Log.{Log}
use Rattle.wl_state.specs.declared.evaluator.Evaluator.{Evaluator}
use Rattle.wl_state.specs.declared.ends.Stop.{Stop}
use Rattle.wl_state.specs.declared.ends.Stop.TheVariants as stops
use Rattle.wl_state.specs.declared.ends.End as ends
use Rattle.wl_state.specs.declared.ends.End.TheVariants as end
use Rattle.wl_state.specs.declared.ends.Turned as turneds
use Rattle.wl_state.specs.declared.ends.Turned.TheVariants as made
use Rattle.wl_semantics.proofs.Level.{Eval-is}
use Rattle.wl_semantics.proofs.Bind.{then_none}
use Rattle.wl_semantics.proofs.Keeps.{Turns-depth, Turns-quiets}
use Rattle.wl_state.proofs.Names.{some_inj}
use Rattle.wl_state.proofs.Stores.{grows_refl}
use Rattle.wl_state.proofs.Playing.{plays_bind, plays_now, notes_none}
use Rattle.wl_state.proofs.Rows.{no_stamp_inside}
use Rattle.wl_state.proofs.Turning.{marked, turns_end, turns_on, aborted_state, aborted_notes}

pub eval_is : (t : Tree) (s : State) → Go (end_of t) s ≡ record { result = Ok (Eval t s).result; state = (Eval t s).state; did = (Eval t s).did then none }
unfolding end_of interp
eval_is t s = refl

-- by what the evaluation gives, and what is noted of it
pub plays_eval : (t : Tree) (k k' : Evaluator) (e : End) (o : Bool) (r : Res End) → Eval t (state k) ≡ r → r.result ≡ e → r.state ≡ state k' → r.did.out ≡ o → Notes k r.did k' → Grows k.store k'.store → (Sound k → Sound k') → Plays (end_of t) k (Ok e) k' o
plays_eval t k k' e o r x a b c n g s =
    let w = eval_is t (state k) in
    let d : (Go (end_of t) (state k)).did ≡ r.did = ap (λ z. z.did) w ∙ then_none _ ∙ ap (λ z. z.did) x in
    record {
      ends = ap (λ z. z.result) w ∙ ap (λ z. Ok z.result) x ∙ ap Ok a;
      leaves = ap (λ z. z.state) w ∙ ap (λ z. z.state) x ∙ b;
      out = ap (λ (z : Record). z.out) d ∙ c;
      notes = subst (λ z. Notes k z k') (sym d) n;
      grows = g;
      sound = s;
    }

-- ---- what evaluates to itself

pub plays_leaf : (e : Stamped) (k : Evaluator) → is_leaf e ≡ true → Plays (end_of (plain e)) k (Ok (Value (plain e))) k false
plays_leaf (stamped.num n) k h = plays_eval (num n) k k (Value (num n)) false (over (Value (num n)) (state k)) (Eval-is (num n) (state k)) refl refl refl (notes_none k k refl refl) (grows_refl _) (λ s. s)
plays_leaf (stamped.text x) k h = plays_eval (text x) k k (Value (text x)) false (over (Value (text x)) (state k)) (Eval-is (text x) (state k)) refl refl refl (notes_none k k refl refl) (grows_refl _) (λ s. s)
plays_leaf (stamped.symbol p n) k h = absurd (true≢false (sym h))
plays_leaf (stamped.node p x es) k h = absurd (true≢false (sym h))

pub leaf_inside : (k : Evaluator) (n : ℕ) (v : Stamped) → is_leaf v ≡ true → Inside k n v
leaf_inside k n (stamped.num m) e = no_stamp_inside k n (stamped.num m) refl
leaf_inside k n (stamped.text s) e = no_stamp_inside k n (stamped.text s) refl
leaf_inside k n (stamped.symbol p m) e = absurd (true≢false (sym e))
leaf_inside k n (stamped.node p h es) e = absurd (true≢false (sym e))

-- ---- past the limit of depth

one_eval_is : (e : Stamped) (f : Tree → State → Res End) (s : State) → is_leaf e ≡ false → one_eval f (plain e) s ≡ eval_on (nat_lt (limit recursion_limit s.world) (s.depth + 1)) f (plain e) s
one_eval_is (stamped.num n) f s h = absurd (true≢false h)
one_eval_is (stamped.text n) f s h = absurd (true≢false h)
one_eval_is (stamped.symbol p n) f s h = refl
one_eval_is (stamped.node p a b) f s h = refl

eval_by : (b : Bool) (e : Stamped) (s : State) → is_leaf e ≡ false → nat_lt (limit recursion_limit s.world) (s.depth + 1) ≡ b → Eval (plain e) s ≡ eval_on b (Turns 1) (plain e) s
eval_by b e s h l = Eval-is (plain e) s ∙ one_eval_is e (Turns 1) s h ∙ ap (λ z. eval_on z (Turns 1) (plain e) s) l

pub plays_too_deep : (e : Stamped) (k k1 : Evaluator) → is_leaf e ≡ false → limit recursion_limit (state k).world ≡ k.recursion → k.recursion ≤ k.depth → Plays (prog.message recursion_limit (codes "reclim") (natural k.recursion ∷ [])) k (Ok tt) k1 false → Plays (end_of (plain e)) k (Ok Aborted) k1 false
plays_too_deep e k k1 h s l m =
    plays_eval (plain e) k k1 Aborted false (aborted recursion_limit (codes "reclim") (state k))
    (eval_by true e (state k) h (ap (λ n. nat_lt n (k.depth + 1)) s ∙ lt-ltb k.recursion (k.depth + 1) (omega (arith, l)))) refl
    (aborted_state recursion_limit (codes "reclim") k.recursion k k1 s m) refl
    (aborted_notes recursion_limit (codes "reclim") k.recursion k k1 s m) m.grows m.sound

-- ---- one more level

module _ (k : Evaluator) where
  abbrev pub entered : Evaluator
  entered = record k { depth = k.depth + 1; log = deepened (k.depth + 1) k.log }

  deepened_log : (o : Option Log) → IsLogOf k.store o → IsLogOf k.store (deepened (k.depth + 1) o)
  deepened_log None h = tt
  deepened_log (Some u) h = h

  deepened_began : (o : Option Log) → ((u : Log) → o ≡ Some u → k.steps ≤ u.start) → (v : Log) → deepened (k.depth + 1) o ≡ Some v → k.steps ≤ v.start
  deepened_began None b v q = absurd (let w : None ≡ Some v = q in cc)
  deepened_began (Some u) b v q =
      let e : u.start ≡ v.start = ap (λ (y : Log). y.start) (some_inj q) in
      omega (arith, b u refl, e)

  pub entered_sound : k.depth < k.recursion → Sound k → Sound entered
  entered_sound l h = record {
    distinct = h.distinct;
    drawn = h.drawn;
    honest = h.honest;
    history = h.history;
    recursion = h.recursion;
    iteration = h.iteration;
    recursion_most = h.recursion_most;
    iteration_most = h.iteration_most;
    deepest = omega (arith, l, h.recursion_most);
    quiets = omega (arith, h.quiets);
    current = deepened_log k.log h.current;
    began = deepened_began k.log h.began;
  }

  deepened_spoiled : (o : Option Log) → is_spoiled (deepened (k.depth + 1) o) ≡ is_spoiled o
  deepened_spoiled None = refl
  deepened_spoiled (Some u) = refl

  -- the notes of an evaluation by those of its turns
  closed_notes : (k1 : Evaluator) (d : Record) → Notes entered d k1 → Notes k (record d { depth = d.depth + 1 }) (record k1 { depth = k.depth })
  closed_notes k1 d n = record {
    spoiled = n.spoiled ∙ ap (λ z. z || d.effect) (deepened_spoiled k.log);
    adds = λ u v p q.
        let a : Adds k.store (k.depth + 1) (record u { deepest = max u.deepest (k.depth + 1) }) d k1.store v = n.adds (record u { deepest = max u.deepest (k.depth + 1) }) v (ap (deepened (k.depth + 1)) p) q in
        record { kept = a.kept; names = a.names; start = a.start; deepest = omega (arith, a.deepest, a.deeper); deeper = omega (arith, a.deeper); turns = a.turns };
  }

-- an evaluation plays by its turns
pub plays_turns : (e : Stamped) (k k1 : Evaluator) (x : End) → is_leaf e ≡ false → limit recursion_limit (state k).world ≡ k.recursion → k.depth < k.recursion → PlaysTurns 1 (plain e) (entered k) x k1 → Plays (end_of (plain e)) k (Ok x) (record k1 { depth = k.depth }) (is_budget_end x)
plays_turns e k k1 x h y l m =
    let t = plain e in
    let s = state k in
    let k' : Evaluator = record k1 { depth = k.depth } in
    let b : nat_lt (limit recursion_limit s.world) (s.depth + 1) ≡ false = ap (λ n. nat_lt n (k.depth + 1)) y ∙ le-ltb k.recursion (k.depth + 1) (omega (arith, l)) in
    plays_eval t k k' x (is_budget_end x) (closed s.depth (final (Turns 1 t (opened s)))) (eval_by false e s h b) m.ends
    (ap (λ (z : State). let y : State = record z { depth = k.depth } in y) m.leaves) m.out
    (closed_notes k k1 (Turns 1 t (opened s)).did m.notes) m.grows
    (λ w. let z = m.sound (entered_sound k l w) in
    let q : k1.desk.quiets ≡ k.desk.quiets = sym (ap (λ (v : State). v.world.desk.quiets) m.leaves) ∙ Turns-quiets 1 t (opened s) in
    record {
      distinct = z.distinct;
      drawn = z.drawn;
      honest = z.honest;
      history = z.history;
      recursion = z.recursion;
      iteration = z.iteration;
      recursion_most = z.recursion_most;
      iteration_most = z.iteration_most;
      deepest = w.deepest;
      quiets = omega (arith, q, w.quiets);
      current = z.current;
      began = z.began;
    })

-- its end at the level of the caller
pub end_closed : (k1 : Evaluator) (n : ℕ) (e : ends.End) → n ≡ k1.depth - 1 → GoodEnd (k1.depth - 1) k1 e → GoodEnd n (record k1 { depth = n }) e
end_closed k1 n (end.Value v) d h = (
  h.0,
  λ p u q z.
      let w = h.1 p u q z in
      record { names = w.names; depth = omega (arith, w.depth, d); turns = w.turns; steps = w.steps },
)
end_closed k1 n (end.Thrown v x) d h = h
end_closed k1 n end.Aborted d h = tt
end_closed k1 n end.BudgetEnded d h = tt
end_closed k1 n end.Broke d h = tt
end_closed k1 n end.Continued d h = tt

pub turns_depth : (c : ℕ) (t : Tree) (k k1 : Evaluator) (e : End) → PlaysTurns c t k e k1 → k1.depth ≡ k.depth
turns_depth c t k k1 e x = sym (ap (λ (s : State). s.depth) x.leaves) ∙ Turns-depth c t (state k)

-- ---- the value of an evaluation

pub value_played : (t : Tree) (k k1 : Evaluator) (e : ends.End) (r : Result Stamped Stop) → Ended t k (Ok e) k1 → Valued e r → Played played.tree (value_of t) k r k1
value_played t k k1 (end.Value v) r h q = subst (λ z. Played played.tree (value_of t) k z k1) (sym q) (plays_bind (end_of t) _ h.0 (plays_now (Ok (plain v)) k1), h.1)
value_played t k k1 (end.Thrown v u) r h q = subst (λ z. Played played.tree (value_of t) k z k1) (sym q) (plays_bind (end_of t) _ h.0 (plays_now (Err (spec.Thrown (plain v) (option_map plain u))) k1), h.1)
value_played t k k1 end.Aborted r h q = subst (λ z. Played played.tree (value_of t) k z k1) (sym q) (plays_bind (end_of t) _ h.0 (plays_now (Err Aborted) k1), tt)
value_played t k k1 end.BudgetEnded r h q = subst (λ z. Played played.tree (value_of t) k z k1) (sym q) (plays_bind (end_of t) _ h.0 (plays_now (Err BudgetEnded) k1), tt)
value_played t k k1 end.Broke r h q = subst (λ z. Played played.tree (value_of t) k z k1) (sym q) (plays_bind (end_of t) _ h.0 (plays_now (Err spec.Broke) k1), tt)
value_played t k k1 end.Continued r h q = subst (λ z. Played played.tree (value_of t) k z k1) (sym q) (plays_bind (end_of t) _ h.0 (plays_now (Err spec.Continued) k1), tt)

-- ---- the turns of an evaluation

-- what is no leaf has a next turn
next_again : (again : Tree → State → Res End) (e : Stamped) (s : State) → is_leaf e ≡ false → after_turn again (Ok (Next (plain e))) s ≡ again (plain e) s
next_again again (stamped.num n) s h = absurd (true≢false h)
next_again again (stamped.text n) s h = absurd (true≢false h)
next_again again (stamped.symbol p n) s h = refl
next_again again (stamped.node p a b) s h = refl

next_leaf : (again : Tree → State → Res End) (e : Stamped) (s : State) → is_leaf e ≡ true → after_turn again (Ok (Next (plain e))) s ≡ over (Value (plain e)) s
next_leaf again (stamped.num n) s h = refl
next_leaf again (stamped.text n) s h = refl
next_leaf again (stamped.symbol p n) s h = absurd (true≢false (sym h))
next_leaf again (stamped.node p a b) s h = absurd (true≢false (sym h))

module _ (c : ℕ) (t : Tree) (k k1 : Evaluator) (s : Sound k) (n : c ≤ k.iteration) where
  below : nat_lt (limit iteration_limit (state k).world) c ≡ false
  below = ap (λ m. nat_lt m c) s.iteration ∙ le-ltb k.iteration c n

  pub turns_stop : (e : Stop) (r : Result ends.End Stop) → Played sealed (whole_turn t) (marked c k) (Err e) k1 → Stops e r → TurnsEnd c t k r k1
  turns_stop stops.Memory r h q = subst (λ z. TurnsEnd c t k z k1) (sym q) tt
  turns_stop (stops.Thrown v w) r h q = subst (λ z. TurnsEnd c t k z k1) (sym q) (turns_end c t k k1 _ false below h.0 (spec.Thrown (plain v) (option_map plain w)) refl refl, h.1)
  turns_stop stops.Aborted r h q = subst (λ z. TurnsEnd c t k z k1) (sym q) (turns_end c t k k1 _ false below h.0 Aborted refl refl, tt)
  turns_stop stops.BudgetEnded r h q = subst (λ z. TurnsEnd c t k z k1) (sym q) (turns_end c t k k1 _ true below h.0 BudgetEnded refl refl, tt)
  turns_stop stops.Broke r h q = subst (λ z. TurnsEnd c t k z k1) (sym q) (turns_end c t k k1 _ false below h.0 spec.Broke refl refl, tt)
  turns_stop stops.Continued r h q = subst (λ z. TurnsEnd c t k z k1) (sym q) (turns_end c t k k1 _ false below h.0 spec.Continued refl refl, tt)

  pub turns_final : (v : Stamped) (b : Bool) → Played sealed (whole_turn t) (marked c k) (Ok (made.Final v b)) k1 → TurnsEnd c t k (Ok (end.Value v)) k1
  turns_final v b h = (turns_end c t k k1 _ false below h.0 (Value (plain v)) refl refl, h.1)

  pub turns_leaf : (v : Stamped) → is_leaf v ≡ true → Played sealed (whole_turn t) (marked c k) (Ok (made.Next v)) k1 → TurnsEnd c t k (Ok (end.Value v)) k1
  turns_leaf v l h = (turns_end c t k k1 _ false below h.0 (Value (plain v)) refl (next_leaf (Turns (suc c)) v (state k1) l), (h.1, leaf_inside k1 (k1.depth - 1) v l))

  pub turns_next : (v : Stamped) → is_leaf v ≡ false → Played sealed (whole_turn t) (marked c k) (Ok (made.Next v)) k1 → (r : Result ends.End Stop) (k2 : Evaluator) → TurnsEnd (c + 1) (plain v) k1 r k2 → TurnsEnd c t k r k2
  turns_next v l h (Ok e) k2 x = (turns_on c t k k1 _ false below h.0 (plain v) refl (next_again (Turns (suc c)) v (state k1) l) (played.end_of e) k2 x.0, x.1)
  turns_next v l h (Err stops.Memory) k2 x = tt
  turns_next v l h (Err (stops.Thrown a b)) k2 x = x
  turns_next v l h (Err stops.Aborted) k2 x = x
  turns_next v l h (Err stops.BudgetEnded) k2 x = x
  turns_next v l h (Err stops.Broke) k2 x = x
  turns_next v l h (Err stops.Continued) k2 x = x

-- a turn's final expression without a stamp is within any log
pub unsealed : (p : Prog Turned) (k : Evaluator) (r : Result turneds.Turned Stop) (k1 : Evaluator) → Played turned p k r k1 → Played sealed p k r k1
unsealed p k (Ok (made.Final v b)) k1 h = (h.0, (h.1.0, no_stamp_inside k1 _ v h.1.1))
unsealed p k (Ok (made.Next v)) k1 h = h
unsealed p k (Err stops.Memory) k1 h = tt
unsealed p k (Err (stops.Thrown v t)) k1 h = h
unsealed p k (Err stops.Aborted) k1 h = h
unsealed p k (Err stops.BudgetEnded) k1 h = h
unsealed p k (Err stops.Broke) k1 h = h
unsealed p k (Err stops.Continued) k1 h = h
