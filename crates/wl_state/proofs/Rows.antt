-- How what functions return plays, part after part, and what stays honest.
use Rattle.std.proofs.Common.{◌≡◌, ℕ, ◌≤◌, Bool, true, false, ◌||◌, List, Option, Some, None, Result, Ok, Err, refl, sym, ap, ◌∙◌, subst, arith, true≢false, Contains}
use Rattle.std.proofs.lemmas.List.Elements.{All-weaker, Contains-append_left}
use Rattle.std.specs.List.{All}
use Rattle.wl_expr.specs.Stamped as stamped
use Rattle.wl_expr.specs.Stamped.{Stamped, Stampeds, plain, from_list, stamp_of}
use Rattle.wl_expr.specs.Words.{Name}
use Rattle.wl_expr.specs.declared.stamp.Stamp.{Stamp}
use Rattle.wl_rules.specs.Stored.{Stored, IsIndex, definitions}
use Rattle.wl_rules.specs.declared.rule.Rule.{Rule}
use Rattle.wl_stamps.specs.Reads.{Read}
use Rattle.wl_semantics.specs.State as spec
use Rattle.wl_semantics.specs.State.{State}
use Rattle.wl_semantics.specs.Prog.{Prog, ◌>>=◌}
use Rattle.wl_semantics.specs.Eval.{Record}
use Rattle.wl_state.specs.Honest.{names_in, AreKnown, HonestIn}
use Rattle.wl_state.specs.Logs.{is_spoiled}
use Rattle.wl_state.specs.Played.{Plays, Notes, Seen, Played, Leads, Honest, AllHonest, HonestMaybe, AllHonestRules, HonestEnd, GoodEnd, Good, Inside, IsTaken, state}
use Rattle.wl_state.specs.declared.evaluator.Log.{Log}
use Rattle.wl_state.specs.declared.evaluator.Taken.{Taken}
use Rattle.wl_state.specs.declared.evaluator.Evaluator.{Evaluator}
use Rattle.wl_state.specs.declared.ends.Stop.{Stop}
use Rattle.wl_state.specs.declared.ends.Stop.TheVariants as stops
use Rattle.wl_state.specs.declared.ends.End as ends
use Rattle.wl_state.specs.declared.ends.End.TheVariants as end
use Rattle.wl_semantics.proofs.Keeps.{Go-adds, Go-depth}
use Rattle.wl_state.proofs.Stores.{honest_grows, option_grows, rule_grows, rules_grow}
use Rattle.wl_state.proofs.Moves.{names_kept}
use Rattle.wl_state.proofs.Playing.{plays_bind, plays_stop}

-- ---- what a function returned

-- a part that stops, stops the whole
pub played_stop : {X Y A B : Type 0} (seen : Seen X A) (seen' : Seen Y B) (p : Prog A) (f : A → Prog B) (k : Evaluator) (e : Stop) (k1 : Evaluator) → Played seen p k (Err e) k1 → Played seen' (p >>= f) k (Err e) k1
played_stop seen seen' p f k stops.Memory k1 h = tt
played_stop seen seen' p f k (stops.Thrown v t) k1 h = (plays_stop p f h.0, h.1)
played_stop seen seen' p f k stops.Aborted k1 h = (plays_stop p f h.0, h.1)
played_stop seen seen' p f k stops.BudgetEnded k1 h = (plays_stop p f h.0, h.1)
played_stop seen seen' p f k stops.Broke k1 h = (plays_stop p f h.0, h.1)
played_stop seen seen' p f k stops.Continued k1 h = (plays_stop p f h.0, h.1)

-- the exit by `?` where a part stopped
pub played_exit : {X Y A B : Type 0} (seen : Seen X A) (seen' : Seen Y B) (p : Prog A) (f : A → Prog B) (k k1 : Evaluator) (r : Result Y Stop) (d e : Stop) → r ≡ Err d → d ≡ e → Played seen p k (Err e) k1 → Played seen' (p >>= f) k r k1
played_exit seen seen' p f k k1 r d e h q m = subst (λ z. Played seen' (p >>= f) k z k1) (sym (h ∙ ap Err q)) (played_stop seen seen' p f k e k1 m)

-- a part that plays to a result, and what follows
pub played_bind : {Y A B : Type 0} (seen' : Seen Y B) (p : Prog A) (f : A → Prog B) (k k1 : Evaluator) (a : A) (r : Result Y Stop) (k2 : Evaluator) → Plays p k (Ok a) k1 false → Played seen' (f a) k1 r k2 → Played seen' (p >>= f) k r k2
played_bind seen' p f k k1 a (Ok y) k2 h m = (plays_bind p f h m.0, m.1)
played_bind seen' p f k k1 a (Err stops.Memory) k2 h m = tt
played_bind seen' p f k k1 a (Err (stops.Thrown v t)) k2 h m = (plays_bind p f h m.0, m.1)
played_bind seen' p f k k1 a (Err stops.Aborted) k2 h m = (plays_bind p f h m.0, m.1)
played_bind seen' p f k k1 a (Err stops.BudgetEnded) k2 h m = (plays_bind p f h m.0, m.1)
played_bind seen' p f k k1 a (Err stops.Broke) k2 h m = (plays_bind p f h m.0, m.1)
played_bind seen' p f k k1 a (Err stops.Continued) k2 h m = (plays_bind p f h m.0, m.1)

pub leads_played : {X R : Type 0} (seen : Seen X R) (p q : Prog R) (k k1 : Evaluator) (r : Result X Stop) (k2 : Evaluator) → Leads p k q k1 → Played seen q k1 r k2 → Played seen p k r k2
leads_played seen p q k k1 (Ok y) k2 h m = (h _ _ _ m.0, m.1)
leads_played seen p q k k1 (Err stops.Memory) k2 h m = tt
leads_played seen p q k k1 (Err (stops.Thrown v t)) k2 h m = (h _ _ _ m.0, m.1)
leads_played seen p q k k1 (Err stops.Aborted) k2 h m = (h _ _ _ m.0, m.1)
leads_played seen p q k k1 (Err stops.BudgetEnded) k2 h m = (h _ _ _ m.0, m.1)
leads_played seen p q k k1 (Err stops.Broke) k2 h m = (h _ _ _ m.0, m.1)
leads_played seen p q k k1 (Err stops.Continued) k2 h m = (h _ _ _ m.0, m.1)

pub leads_exit : {X Y A B : Type 0} (seen : Seen X A) (seen' : Seen Y B) (w : Prog B) (k : Evaluator) (p : Prog A) (f : A → Prog B) (k1 k2 : Evaluator) (r : Result Y Stop) (d e : Stop) →
    Leads w k (p >>= f) k1 → r ≡ Err d → d ≡ e → Played seen p k1 (Err e) k2 → Played seen' w k r k2
leads_exit seen seen' w k p f k1 k2 r d e l h q m = leads_played seen' w (p >>= f) k k1 r k2 l (played_exit seen seen' p f k1 k2 r d e h q m)

-- a part plays, and what follows leads on
pub leads_bind : {A B : Type 0} (p : Prog A) (f : A → Prog B) {k k1 : Evaluator} {a : A} → Plays p k (Ok a) k1 false → Leads (p >>= f) k (f a) k1
leads_bind p f h r k2 o m = plays_bind p f h m

pub leads_on : {R : Type 0} {p q w : Prog R} {k k1 k2 : Evaluator} → Leads p k q k1 → Leads q k1 w k2 → Leads p k w k2
leads_on a b r k3 o h = a r k3 o (b r k3 o h)

-- a stop is seen alike in each way
pub stop_seen : {X Y A : Type 0} (seen : Seen X A) (seen' : Seen Y A) (p : Prog A) (k : Evaluator) (e : Stop) (k1 : Evaluator) → Played seen p k (Err e) k1 → Played seen' p k (Err e) k1
stop_seen seen seen' p k stops.Memory k1 h = tt
stop_seen seen seen' p k (stops.Thrown v t) k1 h = h
stop_seen seen seen' p k stops.Aborted k1 h = h
stop_seen seen seen' p k stops.BudgetEnded k1 h = h
stop_seen seen seen' p k stops.Broke k1 h = h
stop_seen seen seen' p k stops.Continued k1 h = h

-- ---- what was honest is so later

module _ {R : Type 0} {p : Prog R} {k k1 : Evaluator} {r : Result R spec.End} {o : Bool} (x : Plays p k r k1 o) where
  pub later : (e : Stamped) → Honest k e → Honest k1 e
  later e h = honest_grows k.store k1.store x.grows e h

  pub all_later : (es : List Stamped) → AllHonest k es → AllHonest k1 es
  all_later es h = All-weaker (Honest k) (Honest k1) later es h

  pub option_later : (e : Option Stamped) → HonestMaybe k e → HonestMaybe k1 e
  option_later e h = option_grows k.store k1.store x.grows e h

  pub rules_later : (rs : List Rule) → AllHonestRules k rs → AllHonestRules k1 rs
  rules_later rs h = All-weaker _ _ (rule_grows k.store k1.store x.grows) rs h

  pub end_later : (n : ℕ) (e : ends.End) → GoodEnd n k e → HonestEnd k1 e
  end_later n (end.Value v) h = later v h.0
  end_later n (end.Thrown v t) h = (later v h.0, option_later t h.1)
  end_later n end.Aborted h = tt
  end_later n end.BudgetEnded h = tt
  end_later n end.Broke h = tt
  end_later n end.Continued h = tt

  pub taken_later : (y : Name) (t : Taken) → IsTaken k y t → IsTaken k1 y t
  taken_later y t h = record {
    index = omega (arith, h.index, x.grows.more);
    name = x.grows.names t.index h.index ∙ h.name;
    honest = rules_grow k.store k1.store x.grows t.rules h.honest;
    limit = h.limit;
  }

  pub fewer : k1.steps ≤ k.steps
  fewer = let e = ap (λ (s : State). s.steps) x.leaves in let a = Go-adds p (state k) in omega (arith, e, a)

  pub same_depth : k1.depth ≡ k.depth
  same_depth = sym (ap (λ (s : State). s.depth) x.leaves) ∙ Go-depth p (state k)

-- ---- logs

-- the log that there was before
pub before : {A : Type 0} (k k1 : Evaluator) (d : Record) (u1 : Log) → Notes k d k1 → k1.log ≡ Some u1 → ((u : Log) → k.log ≡ Some u → A) → A
before {A} k k1 d u1 n q f = at k.log refl
  where
    at : (o : Option Log) → k.log ≡ o → A
    at None z = absurd (let w : true ≡ false = sym (n.spoiled ∙ ap (λ o. is_spoiled o || d.effect) z) ∙ ap is_spoiled q in true≢false w)
    at (Some u) z = f u z

-- the reads of an honest stamp on top are of entries
top_known : (a : Stored) (v : Stamped) (p : Stamp) → stamp_of v ≡ Some p → HonestIn a v → AreKnown a p.reads
top_known a (stamped.num n) p e h = absurd (let w : None ≡ Some p = e in cc)
top_known a (stamped.text s) p e h = absurd (let w : None ≡ Some p = e in cc)
top_known a (stamped.symbol None s) p e h = absurd (let w : None ≡ Some p = e in cc)
top_known a (stamped.symbol (Some q) s) p e h = let w : q ≡ p = (let z : Some q ≡ Some p = e in cc) in subst (λ (z : Stamp). AreKnown a z.reads) w h.known
top_known a (stamped.node None x ts) p e h = absurd (let w : None ≡ Some p = e in cc)
top_known a (stamped.node (Some q) x ts) p e h = let w : q ≡ p = (let z : Some q ≡ Some p = e in cc) in subst (λ (z : Stamp). AreKnown a z.reads) w h.0.known

known_indexes : (a : Stored) (rs : List Read) → AreKnown a rs → All (λ (r : Read). IsIndex r.0 a) rs
known_indexes a rs h i d l = (h i d l).0

pub inside_later : {R : Type 0} {p : Prog R} {k k1 : Evaluator} {r : Result R spec.End} {o : Bool} → Plays p k r k1 o → (v : Stamped) → Honest k v → Inside k k.depth v → Inside k1 k1.depth v
inside_later {p = p} {k = k} {k1 = k1} x v h i q u1 s z = before k k1 _ u1 x.notes z (λ u y.
    let w = i q u s y in
    let a = x.notes.adds u u1 y z in
    let n = names_kept k.store k1.store a.kept q.reads (known_indexes k.store q.reads (top_known k.store v q s h)) in
    record {
      names = λ m g. a.names.from m (Contains-append_left (names_in k.store u.reads) _ m (w.names m (subst (λ z. Contains z m) n g)));
      depth = let d = same_depth x in omega (arith, w.depth, a.deeper, d);
      turns = omega (arith, w.turns, a.turns);
      steps = let l = fewer x in omega (arith, w.steps, a.start, l);
    })

pub good_later : {R : Type 0} {p : Prog R} {k k1 : Evaluator} {r : Result R spec.End} {o : Bool} → Plays p k r k1 o → (v : Stamped) → Good k v → Good k1 v
good_later x v h = (later x v h.0, inside_later x v h.0 h.1)

pub no_stamp_inside : (k : Evaluator) (n : ℕ) (v : Stamped) → stamp_of v ≡ None → Inside k n v
no_stamp_inside k n v e p u q z = absurd (let w : None ≡ Some p = sym e ∙ q in cc)

-- the definitions are as they were, where the log isn't spoiled
pub calm_definitions : {R : Type 0} {p : Prog R} {k k1 : Evaluator} {r : Result R spec.End} {o : Bool} → Plays p k r k1 o → (u1 : Log) → k1.log ≡ Some u1 → definitions k1.store ≡ definitions k.store
calm_definitions {k = k} {k1 = k1} x u1 z = before k k1 _ u1 x.notes z (λ u y. (x.notes.adds u u1 y z).kept.definitions)
