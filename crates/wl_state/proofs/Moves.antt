-- How each move plays on evaluators.
use Rattle.std.proofs.Common.{◌≡◌, ◌≢◌, ℕ, zero, suc, ◌-◌, ◌≤◌, Bool, true, false, ◌||◌, List, [], ◌∷◌, ◌++◌, map, Option, Some, None, Result, Ok, Err, refl, sym, ap, ap₂, ◌∙◌, subst, subst₂, le_refl, arith, true≢false, not, cond, nat_eq, eqb-true, is_some, Contains}
use Rattle.std.proofs.lemmas.List.Elements.{All-head, All-tail, All-push, All-weaker}
use Rattle.std.proofs.lemmas.List.{map-append}
use Rattle.std.proofs.lemmas.Cmp.{nat_eq_equiv}
use Rattle.std.proofs.lemmas.Map.Keys.{IsDistinct-push}
use Rattle.std.proofs.lemmas.Map.Made.{is_some-lookup}
use Rattle.std.specs.List.{All, IsDistinct}
use Rattle.std.specs.Map.{keys_of}
use Rattle.wl_desk.specs.Desk.{Desk}
use Rattle.wl_expr.specs.Words.{Name}
use Rattle.wl_expr.specs.Tree.{symbol}
use Rattle.wl_rules.specs.Attributes.{AttributeSet, no_attributes}
use Rattle.wl_rules.specs.Changes.{AreDistinct}
use Rattle.wl_rules.specs.Entries.{Entry, PlainRule, of_kind, value_at}
use Rattle.wl_rules.specs.StampedRules.{plain_rule}
use Rattle.wl_rules.specs.Stored.{Stored, Slot, IsIndex, name_at, version_at, entry_at, plain_entry, definitions}
use Rattle.wl_rules.specs.declared.rule.Rule.{Rule}
use Rattle.wl_rules.specs.declared.rule.RuleKind.{RuleKind}
use Rattle.wl_rules.specs.declared.rule.RuleKind.TheVariants.{Own, Down, Up, Sub}
use Rattle.wl_stamps.specs.Reads as reads
use Rattle.wl_stamps.specs.Reads.{Read, noted, or_behind, version_of}
use Rattle.wl_semantics.specs.State.{World, State, End, BudgetEnded}
use Rattle.wl_semantics.specs.Prog as prog
use Rattle.wl_semantics.specs.Prog.{Prog, What, Answer, tick, entry_of, doing, asking}
use Rattle.wl_semantics.specs.Effects.{acted}
use Rattle.wl_semantics.specs.LeftSides.{recursion_limit, iteration_limit}
use Rattle.wl_semantics.specs.Eval.{Record, none, ◌then◌, Res, reading, acting, stepping, interp, Go, limit}
use Rattle.wl_state.specs.Honest.{Same, names_in, HonestRule, Grows, Kept}
use Rattle.wl_state.specs.Logs.{is_spoiled, Adds, IsCurrent, AreCurrent, IsLogOf}
use Rattle.wl_state.specs.Played.{Plays, Notes, Sound, Looked, HonestLine, state}
use Rattle.wl_state.specs.declared.evaluator.Log.{Log}
use Rattle.wl_state.specs.declared.evaluator.Evaluator.{Evaluator}
use Rattle.wl_semantics.proofs.Bind.{or_none}
use Rattle.wl_semantics.proofs.Keeps.{acted-quiets}
use Rattle.wl_state.proofs.Names.{some_inj, same_refl, same_again}
use Rattle.wl_state.proofs.Stores.{kept_grows, grows_refl, honest_grows, rules_grow}
use Rattle.wl_state.proofs.Placed.{Indexed, defined_at}
use Rattle.wl_state.proofs.Playing.{notes_none, notes_alike, began_none, began_notes, plays_bind, plays_done_is}

-- ---- a step

tick_at : (w : World) (n d : ℕ) → n ≢ 0 → Go tick (record { world = w; steps = n; depth = d }) ≡ record { result = Ok tt; state = record { world = w; steps = n - 1; depth = d }; did = stepping then none }
unfolding tick interp
tick_at w zero d h = absurd (h refl)
tick_at w (suc n) d h = let e : n ≡ suc n - 1 = omega arith in ap (λ m. let r : Res (Result (Unit {0}) End) = record { result = Ok tt; state = record { world = w; steps = m; depth = d }; did = stepping then none } in r) e

no_tick_at : (w : World) (n d : ℕ) → n ≡ 0 → Go tick (record { world = w; steps = n; depth = d }) ≡ record { result = Err BudgetEnded; state = record { world = w; steps = n; depth = d }; did = record none { out = true } }
unfolding tick interp
no_tick_at w zero d h = refl
no_tick_at w (suc n) d h = absurd (omega (arith, h))

-- with fewer steps
fewer_sound : (k : Evaluator) (n : ℕ) → n ≤ k.steps → Sound k → Sound (record k { steps = n })
fewer_sound k n l h = record {
  distinct = h.distinct;
  drawn = h.drawn;
  honest = h.honest;
  history = h.history;
  recursion = h.recursion;
  iteration = h.iteration;
  recursion_most = h.recursion_most;
  iteration_most = h.iteration_most;
  deepest = h.deepest;
  quiets = h.quiets;
  current = h.current;
  began = λ u q. omega (arith, l, h.began u q);
}

pub plays_tick : (k : Evaluator) → k.steps ≢ 0 → Plays tick k (Ok tt) (record k { steps = k.steps - 1 }) false
plays_tick k h =
    let g = tick_at (state k).world k.steps k.depth h in
    record {
      ends = ap (λ z. z.result) g;
      leaves = ap (λ z. z.state) g;
      out = ap (λ z. z.did.out) g;
      notes = subst (λ z. Notes k z (record k { steps = k.steps - 1 })) (sym (ap (λ z. z.did) g)) (notes_alike k (record k { steps = k.steps - 1 }) none (stepping then none) refl refl refl refl (notes_none k (record k { steps = k.steps - 1 }) refl refl));
      grows = grows_refl _;
      sound = fewer_sound k (k.steps - 1) (omega arith);
    }

pub plays_no_tick : (k : Evaluator) → k.steps ≡ 0 → Plays tick k (Err BudgetEnded) k true
plays_no_tick k h =
    let g = no_tick_at (state k).world k.steps k.depth h in
    record {
      ends = ap (λ z. z.result) g;
      leaves = ap (λ z. z.state) g;
      out = ap (λ z. z.did.out) g;
      notes = subst (λ z. Notes k z k) (sym (ap (λ z. z.did) g)) (notes_alike k k none (record none { out = true }) refl refl refl refl (notes_none k k refl refl));
      grows = grows_refl _;
      sound = λ s. s;
    }

-- ---- an effect

or_true : (a : Bool) → (a || true) ≡ true
or_true true = refl
or_true false = refl

pub effect_notes : (k k' : Evaluator) (d : Record) → d.effect ≡ true → k'.log ≡ None → Notes k d k'
effect_notes k k' d e t = record {
  spoiled = ap is_spoiled t ∙ sym (ap (λ z. is_spoiled k.log || z) e ∙ or_true _);
  adds = λ x y p q. absurd (let w : true ≡ false = sym (ap is_spoiled t) ∙ ap is_spoiled q in true≢false w);
}

asked_is : (a : What) (s : State) → Go (asking a) s ≡ record { result = Ok (acted a s.world).0; state = record s { world = (acted a s.world).1 }; did = acting a then none }
unfolding asking interp
asked_is a s = refl

done_is : (a : What) (s : State) → Go (doing a) s ≡ record { result = Ok tt; state = record s { world = (acted a s.world).1 }; did = acting a then none }
unfolding doing interp
done_is a s = refl

module _ (a : What) (k k' : Evaluator) (e : state k' ≡ record (state k) { world = (acted a (state k).world).1 }) (t : k'.log ≡ None) (g : Grows k.store k'.store) (s : Sound k → Sound k') where
  pub plays_asking : Plays (asking a) k (Ok (acted a (state k).world).0) k' false
  plays_asking =
      let b = asked_is a (state k) in
      record {
        ends = ap (λ z. z.result) b;
        leaves = ap (λ z. z.state) b ∙ sym e;
        out = ap (λ z. z.did.out) b;
        notes = effect_notes k k' _ (ap (λ z. z.did.effect) b) t;
        grows = g;
        sound = s;
      }

  pub plays_doing : Plays (doing a) k (Ok tt) k' false
  plays_doing =
      let b = done_is a (state k) in
      record {
        ends = ap (λ z. z.result) b;
        leaves = ap (λ z. z.state) b ∙ sym e;
        out = ap (λ z. z.did.out) b;
        notes = effect_notes k k' _ (ap (λ z. z.did.effect) b) t;
        grows = g;
        sound = s;
      }

-- another desk with as many open Quiets
pub desk_sound : (k : Evaluator) (d : Desk) → d.quiets ≡ k.desk.quiets → Sound k → Sound (record k { desk = d; log = None })
desk_sound k d q h = record {
  distinct = h.distinct;
  drawn = h.drawn;
  honest = h.honest;
  history = h.history;
  recursion = h.recursion;
  iteration = h.iteration;
  recursion_most = h.recursion_most;
  iteration_most = h.iteration_most;
  deepest = h.deepest;
  quiets = omega (arith, q, h.quiets);
  current = tt;
  began = began_none (record k { desk = d; log = None }) refl;
}

-- an effect on the desk alone
pub plays_desk : (a : What) (k : Evaluator) (d : Desk) → (acted a (state k).world).1 ≡ record (state k).world { desk = d } → Plays (doing a) k (Ok tt) (record k { desk = d; log = None }) false
plays_desk a k d e =
    plays_doing a k (record k { desk = d; log = None }) (ap (λ w. let s : State = record (state k) { world = w } in s) (sym e)) refl (grows_refl _)
    (desk_sound k d (sym (ap (λ (w : World). w.desk.quiets) e) ∙ acted-quiets a (state k).world))

-- ---- a look

-- the log after a look at the entry of this index, which has this version
abbrev pub looked_log : ℕ → ℕ → Option Log → Option Log
looked_log i v None = None
looked_log i v (Some u) = Some (record u { reads = noted u.reads (i, v) })

pub names_kept : (a b : Stored) → Kept a b → (rs : List Read) → All (λ (r : Read). IsIndex r.0 a) rs → names_in b rs ≡ names_in a rs
names_kept a b k [] c = refl
names_kept a b k (r ∷ rs) c =
    ap₂ (λ (x : Name) xs. x ∷ xs) (ap (λ (q : Name × Slot). q.0) (k.rows r.0 (All-head (λ (r : Read). IsIndex r.0 a) r rs c)))
    (names_kept a b k rs (All-tail (λ (r : Read). IsIndex r.0 a) r rs c))

pub current_indexes : (a : Stored) (rs : List Read) → AreCurrent a rs → All (λ (r : Read). IsIndex r.0 a) rs
current_indexes a rs c i d l = (c i d l).0

pub current_kept : (a b : Stored) → Kept a b → (rs : List Read) → AreCurrent a rs → AreCurrent b rs
current_kept a b k rs c i d l =
    let h = c i d l in
    (omega (arith, h.0, k.more), ap (λ (q : Name × Slot). q.1.version) (k.rows _ h.0) ∙ h.1)

read_in : (a : Stored) (rs : List Read) (i w : ℕ) → version_of i rs ≡ Some w → Contains (names_in a rs) (name_at i a)
read_in a [] i w h = absurd (let q : None ≡ Some w = h in cc)
read_in a (r ∷ rs) i w h = cases (nat_eq i r.0) refl h (read_in a rs i w)
  where
    further : Contains (names_in a rs) (name_at i a) → Contains (names_in a (r ∷ rs)) (name_at i a)
    further c = (suc c.0, omega (arith, c.1), c.2)

    cases : (b : Bool) → nat_eq i r.0 ≡ b → cond b (Some r.1) (version_of i rs) ≡ Some w → (version_of i rs ≡ Some w → Contains (names_in a rs) (name_at i a)) → Contains (names_in a (r ∷ rs)) (name_at i a)
    cases true e q f = (0, omega arith, ap (λ z. name_at z a) (sym (eqb-true i r.0 e)))
    cases false e q f = further (f q)

names_noted : (a : Stored) (rs : List Read) (i v : ℕ) → Same (names_in a (noted rs (i, v))) (names_in a rs ++ name_at i a ∷ [])
names_noted a rs i v = cases (version_of i rs) refl
  where
    cases : (o : Option ℕ) → version_of i rs ≡ o → Same (names_in a (or_behind o rs (i, v))) (names_in a rs ++ name_at i a ∷ [])
    cases None e = subst (λ z. Same z (names_in a rs ++ name_at i a ∷ [])) (sym (map-append (λ (r : Read). name_at r.0 a) rs ((i, v) ∷ []))) (same_refl _)
    cases (Some w) e = same_again (names_in a rs) (name_at i a) (read_in a rs i w e)

current_noted : (a : Stored) (rs : List Read) (i v : ℕ) → AreCurrent a rs → IsCurrent a (i, v) → AreCurrent a (noted rs (i, v))
current_noted a rs i v c h = cases (version_of i rs)
  where
    cases : (o : Option ℕ) → AreCurrent a (or_behind o rs (i, v))
    cases None = All-push (IsCurrent a) rs (i, v) c h
    cases (Some w) = c

once_noted : (rs : List Read) (r : Read) → reads.AreDistinct rs → reads.AreDistinct (noted rs r)
once_noted rs r d = cases (version_of r.0 rs) refl
  where
    cases : (o : Option ℕ) → version_of r.0 rs ≡ o → reads.AreDistinct (or_behind o rs r)
    cases (Some v) e = d
    cases None e = subst (IsDistinct nat_eq) (sym (map-append (λ (q : Read). q.0) rs (r ∷ []))) (IsDistinct-push nat_eq_equiv (keys_of rs) r.0 d (sym (is_some-lookup (nat_eq r.0) rs) ∙ ap is_some e))

looked_is : (x : Name) (s : State) → Go (entry_of x) s ≡ record { result = Ok (s.world.definitions x); state = s; did = reading (x ∷ []) then none }
unfolding entry_of interp
looked_is x s = refl

module _ (x : Name) (i : ℕ) (k : Evaluator) (b : Stored) (o : Option Log) (h : Sound k) (t : Indexed k.store x i b) (e : o ≡ looked_log i (version_at i b) k.log) where
  abbrev after : Evaluator
  after = record k { store = b; log = o }

  as_spoiled : (q : Option Log) → is_spoiled (looked_log i (version_at i b) q) ≡ is_spoiled q
  as_spoiled None = refl
  as_spoiled (Some u) = refl

  is_read : (u v : Log) → k.log ≡ Some u → o ≡ Some v → record u { reads = noted u.reads (i, version_at i b) } ≡ v
  is_read u v p q = some_inj (sym (e ∙ ap (looked_log i (version_at i b)) p) ∙ q)

  was_current : (u : Log) → k.log ≡ Some u → AreCurrent k.store u.reads × reads.AreDistinct u.reads
  was_current u p = subst (IsLogOf k.store) p h.current

  look_notes : Notes k (reading (x ∷ []) then none) after
  look_notes = record {
    spoiled = ap is_spoiled e ∙ as_spoiled k.log ∙ sym (or_none _);
    adds = λ u v p q.
        let r = is_read u v p q in
        let c = current_indexes k.store u.reads (was_current u p).0 in
        subst (λ z. Adds k.store k.depth u (reading (x ∷ []) then none) b z) r (record {
          kept = t.kept;
          names = subst₂ (λ y z. Same (names_in b (noted u.reads (i, version_at i b))) (y ++ z ∷ [])) (names_kept k.store b t.kept u.reads c) t.name (names_noted b u.reads i (version_at i b));
          start = refl;
          deepest = omega arith;
          deeper = omega arith;
          turns = omega arith;
        });
  }

  current_after : (q : Option Log) → k.log ≡ q → IsLogOf b (looked_log i (version_at i b) q)
  current_after None p = tt
  current_after (Some u) p =
      let w = was_current u p in
      (current_noted b u.reads i (version_at i b) (current_kept k.store b t.kept u.reads w.0) (t.index, refl), once_noted u.reads (i, version_at i b) w.1)

  same_limit : (y : Name) → limit y (state after).world ≡ limit y (state k).world
  same_limit y = ap (λ f. limit y (let w : World = record (state k).world { definitions = f } in w)) t.kept.definitions

  look_sound : Sound after
  look_sound =
      let g = kept_grows t.kept in
      record {
        distinct = t.distinct h.distinct;
        drawn = omega (arith, h.drawn, t.kept.drawn);
        honest = t.honest b (λ j. rules_grow k.store b g (entry_at j k.store).rules (h.honest j));
        history = All-weaker (HonestLine k.store) (HonestLine b) (λ l y. (honest_grows k.store b g l.input y.0, honest_grows k.store b g l.value y.1)) k.history.items h.history;
        recursion = same_limit recursion_limit ∙ h.recursion;
        iteration = same_limit iteration_limit ∙ h.iteration;
        recursion_most = h.recursion_most;
        iteration_most = h.iteration_most;
        deepest = h.deepest;
        quiets = h.quiets;
        current = subst (IsLogOf b) (sym e) (current_after k.log refl);
        began = began_notes k after (reading (x ∷ []) then none) look_notes (le_refl _) h.began;
      }

  pub looked : Looked x k i after
  looked =
      let w = looked_is x (state k) in
      record {
        plays = record {
          ends = ap (λ z. z.result) w;
          leaves = ap (λ z. z.state) w ∙ ap (λ f. let s : State = record (state k) { world = record (state k).world { definitions = f } } in s) (sym t.kept.definitions);
          out = ap (λ z. z.did.out) w;
          notes = subst (λ z. Notes k z after) (sym (ap (λ z. z.did) w)) look_notes;
          grows = kept_grows t.kept;
          sound = λ s. look_sound;
        };
        index = t.index;
        name = t.name;
      }

-- a look that is not noted, and for which no entry is made
pub plays_look : (x : Name) (k : Evaluator) → k.log ≡ None → Plays (entry_of x) k (Ok (definitions k.store x)) k false
plays_look x k n =
    let w = looked_is x (state k) in
    record {
      ends = ap (λ z. z.result) w;
      leaves = ap (λ z. z.state) w;
      out = ap (λ z. z.did.out) w;
      notes = subst (λ z. Notes k z k) (sym (ap (λ z. z.did) w)) (record {
        spoiled = sym (or_none _);
        adds = λ u v p q. absurd (let z : None ≡ Some u = sym n ∙ p in cc);
      });
      grows = grows_refl _;
      sound = λ s. s;
    }

-- the rules of a kind in the entry at a place
pub rules_at : (a : Stored) (i : ℕ) (x : Name) (c : RuleKind) → IsIndex i a → AreDistinct a.rows → name_at i a ≡ x → map plain_rule (of_kind c (entry_at i a).rules) ≡ of_kind c (definitions a x).rules
rules_at a i x Own h d n = ap (λ (e : Entry PlainRule). e.rules.own) (sym (defined_at a i h d) ∙ ap (definitions a) n)
rules_at a i x Down h d n = ap (λ (e : Entry PlainRule). e.rules.down) (sym (defined_at a i h d) ∙ ap (definitions a) n)
rules_at a i x Up h d n = ap (λ (e : Entry PlainRule). e.rules.up) (sym (defined_at a i h d) ∙ ap (definitions a) n)
rules_at a i x Sub h d n = ap (λ (e : Entry PlainRule). e.rules.sub) (sym (defined_at a i h d) ∙ ap (definitions a) n)

pub logged_none : (o : Option Log) (i v : ℕ) → ((u : Log) → o ≡ Some u → ⊥) → o ≡ looked_log i v o
logged_none None i v h = refl
logged_none (Some u) i v h = absurd (h u refl)

pub logged_some : (o : Option Log) (u v : Log) (i n m : ℕ) → o ≡ Some u → n ≡ m → v ≡ record u { reads = noted u.reads (i, n) } → Some v ≡ looked_log i m o
logged_some o u v i n m e q r = ap Some (r ∙ ap (λ z. let y : Log = record u { reads = noted u.reads (i, z) } in y) q) ∙ sym (ap (looked_log i m) e)

pub log_is_none : (o : Option Log) (b : Bool) → is_some o ≡ not b → b ≡ true → o ≡ None
log_is_none None b e h = refl
log_is_none (Some u) b e h = absurd (let w : true ≡ false = e ∙ ap not h in true≢false w)

-- a name without an entry has no attributes
pub none_attributes : (x : Name) (a : Stored) (s : AttributeSet) → value_at x a.rows ≡ None → s ≡ no_attributes → s ≡ (definitions a x).attributes
none_attributes x a s h e = e ∙ ap (λ w. (plain_entry w).attributes) (sym h)

module _ (x : Name) (k k' : Evaluator) (h : Plays (entry_of x) k (Ok (definitions k.store x)) k' false) where
  pub looked_same : definitions k'.store ≡ definitions k.store
  looked_same = ap (λ (z : State). z.world.definitions) (sym h.leaves ∙ ap (λ r. r.state) (looked_is x (state k)))

  pub plays_attributes : (s : AttributeSet) → s ≡ (definitions k.store x).attributes → Plays (prog.attributes_of (symbol x)) k (Ok s) k' false
  unfolding prog.attributes_of
  plays_attributes s e = plays_bind (entry_of x) _ h (plays_done_is (sym e))

  pub plays_protected : (b : Bool) → b ≡ (definitions k.store x).attributes.protected → Plays (prog.is_protected x) k (Ok b) k' false
  unfolding prog.is_protected
  plays_protected b e = plays_bind (entry_of x) _ h (plays_done_is (sym e))

module _ (x : Name) (i : ℕ) (k k' : Evaluator) (c : RuleKind) (rs : List Rule) (h : Sound k) (l : Looked x k i k') (e : rs ≡ of_kind c (entry_at i k'.store).rules) where
  pub looked_rules : map plain_rule rs ≡ of_kind c (definitions k.store x).rules
  looked_rules =
      ap (map plain_rule) e ∙ rules_at k'.store i x c l.index (l.plays.sound h).distinct l.name
      ∙ ap (λ (f : Name → Entry PlainRule). of_kind c (f x).rules) (looked_same x k k' l.plays)

  pub looked_honest : All (HonestRule k'.store) rs
  looked_honest = subst (All (HonestRule k'.store)) (sym e) ((l.plays.sound h).honest i c)
