-- How evaluations play inside a Quiet or a Check.
use Rattle.std.proofs.Common.{◌≡◌, ℕ, List, ◌+◌, ◌-◌, ◌<◌, ◌≤◌, Bool, true, false, ◌||◌, [], ◌∷◌, Option, None, Result, Ok, Err, codes, refl, sym, ap, ap₂, ◌∙◌, subst, arith, true≢false}
use Rattle.wl_desk.specs.Desk.{Desk, issued, with_heard, with_quiets}
use Rattle.wl_expr.specs.Stamped.{Stamped, plain}
use Rattle.wl_expr.specs.Tree.{Tree}
use Rattle.wl_expr.specs.Words.{natural}
use Rattle.wl_rules.specs.Stored.{definitions}
use Rattle.wl_semantics.specs.State.{World, State, End, Value, Aborted}
use Rattle.wl_semantics.specs.Prog as prog
use Rattle.wl_semantics.specs.Prog.{What, Prog, ◌>>=◌, result}
use Rattle.wl_semantics.specs.EndRows.{passed_on}
use Rattle.wl_semantics.specs.MessageRows.{quiet_row, check_row}
use Rattle.wl_state.specs.Parts.{sized_row}
use Rattle.wl_semantics.specs.Effects.{acted}
use Rattle.wl_semantics.specs.LeftSides.{recursion_limit}
use Rattle.wl_semantics.specs.Eval.{Record, none, ◌then◌, Res, interp, is_budget_end, with_desk, Eval, Go}
use Rattle.wl_state.specs.Endings.{EndsBy, unless_heard, quiet_end, checked_end, quieted, unquieted, unheard, reheard}
use Rattle.wl_state.specs.Played.{Plays, PlaysTurns, Played, Ended, TurnsEnd, Notes, Sound, Honest, HonestEnd, is_leaf, end_of, found_tree, state, trees}
use Rattle.wl_state.specs.declared.ends.End as ends
use Rattle.wl_state.specs.declared.ends.Stop.{Stop}
use Rattle.wl_state.specs.declared.ends.Stop.TheVariants as stops
use Rattle.wl_state.specs.declared.evaluator.Evaluator.{Evaluator}
use Rattle.wl_semantics.proofs.Keeps.{acted-quiets, Turns-quiets}
use Rattle.wl_state.proofs.Moves.{desk_sound, plays_desk}
use Rattle.wl_state.proofs.Evaluating.{eval_is, entered, entered_sound, plays_leaf, plays_too_deep, plays_turns}
use Rattle.wl_state.proofs.Rows.{later}
use Rattle.wl_state.proofs.Catching.{budget_stops, end_elsewhere, end_honest, row_end}

-- another depth and another desk
pub sound_at : (k : Evaluator) (n : ℕ) (d : Desk) → n ≤ 512 → d.quiets ≤ n → Sound k → Sound (record k { depth = n; desk = d })
sound_at k n d l q h = record {
  distinct = h.distinct;
  drawn = h.drawn;
  honest = h.honest;
  history = h.history;
  recursion = h.recursion;
  iteration = h.iteration;
  recursion_most = h.recursion_most;
  iteration_most = h.iteration_most;
  deepest = l;
  quiets = q;
  current = h.current;
  began = h.began;
}

-- what was noted says nothing of the desk
notes_desk : (k k1 : Evaluator) (a b : Desk) (d : Record) → Notes (record k { desk = a }) d k1 → Notes k d (record k1 { desk = b })
notes_desk k k1 a b d n = record { spoiled = n.spoiled; adds = n.adds }

-- ---- inside a Quiet

quiet_is : (t : Tree) (s : State) → Go (quiet_end t) s
    ≡ (let r = Eval t (with_desk (with_quiets (s.world.desk.quiets + 1) s.world.desk) s) in record { result = Ok r.result; state = with_desk (with_quiets s.world.desk.quiets r.state.world.desk) r.state; did = r.did then none })
unfolding quiet_end interp
quiet_is t s = refl

-- an evaluation in which one Quiet more is open
pub plays_quietly : (t : Tree) (k k1 : Evaluator) (x : End) (o : Bool) → Plays (prog.end_of t) (quieted k) (Ok x) k1 o → (Sound k → Sound (unquieted k k1)) → Plays (quiet_end t) k (Ok x) (unquieted k k1) o
plays_quietly t k k1 x o h s =
    let q = quiet_is t (state k) in
    let w = eval_is t (state (quieted k)) in
    let d : (Go (prog.end_of t) (state (quieted k))).did ≡ (Go (quiet_end t) (state k)).did = ap (λ z. z.did) w ∙ sym (ap (λ z. z.did) q) in
    record {
      ends = ap (λ z. z.result) q ∙ sym (ap (λ z. z.result) w) ∙ h.ends;
      leaves = ap (λ z. z.state) q ∙ ap (λ (z : State). with_desk (with_quiets k.desk.quiets z.world.desk) z) (sym (ap (λ z. z.state) w) ∙ h.leaves);
      out = sym (ap (λ (z : Record). z.out) d) ∙ h.out;
      notes = subst (λ z. Notes k z (unquieted k k1)) d (notes_desk k k1 _ _ _ h.notes);
      grows = h.grows;
      sound = s;
    }

-- what evaluates to itself
pub leaf_quietly : (e : Stamped) (k : Evaluator) → is_leaf e ≡ true → Plays (quiet_end (plain e)) k (Ok (Value (plain e))) k false
leaf_quietly e k h = plays_quietly (plain e) k (quieted k) (Value (plain e)) false (plays_leaf e (quieted k) h) (λ s. s)

-- a level of its own, which is opened before the Quiet
pub quieted_sound : (k : Evaluator) → k.depth < k.recursion → Sound k → Sound (entered (quieted k))
quieted_sound k l h = sound_at (entered k) (k.depth + 1) (with_quiets (k.desk.quiets + 1) k.desk) (omega (arith, l, h.recursion_most)) (omega (arith, h.quiets)) (entered_sound k l h)

pub turns_quietly : (e : Stamped) (k k1 : Evaluator) (x : End) → is_leaf e ≡ false → Sound k → k.depth < k.recursion → PlaysTurns 1 (plain e) (entered (quieted k)) x k1
    → Plays (quiet_end (plain e)) k (Ok x) (unquieted k (record k1 { depth = k.depth })) (is_budget_end x)
turns_quietly e k k1 x h y l m =
    plays_quietly (plain e) k (record k1 { depth = k.depth }) x (is_budget_end x) (plays_turns e (quieted k) k1 x h y.recursion l m)
    (λ s. sound_at k1 k.depth (with_quiets k.desk.quiets k1.desk) s.deepest s.quiets (m.sound (quieted_sound k l s)))

-- the Quiet of an evaluation is open still
pub still_quieted : (t : Tree) (k k1 : Evaluator) (x : End) → PlaysTurns 1 t (entered (quieted k)) x k1 → k1.desk.quiets ≡ k.desk.quiets + 1
still_quieted t k k1 x m = sym (ap (λ (s : State). s.world.desk.quiets) m.leaves) ∙ Turns-quiets 1 t (state (entered (quieted k)))

pub hushed_is : (k o : Evaluator) (d : Desk) → o ≡ entered k → d ≡ with_quiets (o.desk.quiets + 1) o.desk → ◌≡◌ {A = Evaluator} (record o { desk = d }) (entered (quieted k))
hushed_is k o d p q = ap (λ (z : Desk). let y : Evaluator = record o { desk = z } in y) q ∙ ap quieted p

pub quiet_ended : (e : Stamped) (k k1 : Evaluator) (x : ends.End) (d : Desk) → is_leaf e ≡ false → Sound k → k.depth < k.recursion → TurnsEnd 1 (plain e) (entered (quieted k)) (Ok x) k1 → d ≡ with_quiets (k1.desk.quiets - 1) k1.desk
    → EndsBy (quiet_end (plain e)) k (Ok x) (record k1 { depth = k.depth; desk = d })
quiet_ended e k k1 x d h y l m p =
    let n : k1.desk.quiets - 1 ≡ k.desk.quiets = let q = still_quieted (plain e) k k1 (end_of x) m.0 in omega (arith, q) in
    let w : d ≡ with_quiets k.desk.quiets k1.desk = p ∙ ap (λ i. with_quiets i k1.desk) n in
    subst (λ z. EndsBy (quiet_end (plain e)) k (Ok x) (record k1 { depth = k.depth; desk = z })) (sym w)
    (turns_quietly e k k1 (end_of x) h y l m.0, end_elsewhere k1 (record k1 { depth = k.depth; desk = with_quiets k.desk.quiets k1.desk }) x refl (end_honest (k1.depth - 1) k1 x m.1))

quiet_row_is : (t : Tree) → quiet_row (t ∷ []) ≡ (quiet_end t >>= λ u. passed_on u)
unfolding quiet_end ◌>>=◌
quiet_row_is t = refl

pub quiet_row_ended : (t : Tree) (k k1 : Evaluator) (x : ends.End) (r : Result (Option Stamped) Stop) → EndsBy (quiet_end t) k (Ok x) k1 → (HonestEnd k1 x → Played found_tree (sized_row (passed_on (end_of x))) k1 r k1) → Played found_tree (sized_row (quiet_row (t ∷ []))) k r k1
quiet_row_ended t k k1 x r h m =
    subst (λ p. Played found_tree (sized_row p) k r k1) (sym (quiet_row_is t))
    (row_end (quiet_end t) (λ u. passed_on u) k k1 (end_of x) (end_of x) r k1 h.0 (λ q. ap (λ u. passed_on u) q ∙ budget_stops (λ v. result v)) (m h.1))

pub quiet_one : (k k1 : Evaluator) (es : List Stamped) (e : Stamped) (x : ends.End) (r : Result (Option Stamped) Stop) → es ≡ e ∷ [] → EndsBy (quiet_end (plain e)) k (Ok x) k1
    → (HonestEnd k1 x → Played found_tree (sized_row (passed_on (end_of x))) k1 r k1) → Played found_tree (sized_row (quiet_row (trees es))) k r k1
quiet_one k k1 es e x r q h m = subst (λ us. Played found_tree (sized_row (quiet_row (trees us))) k r k1) (sym q) (quiet_row_ended (plain e) k k1 x r h m)

pub ends_exit : (q : Prog (Option Tree)) (p : Prog End) (k k1 : Evaluator) (r : Result (Option Stamped) Stop) (d s : Stop) → r ≡ Err d → d ≡ s → EndsBy p k (Err s) k1 → Played found_tree q k r k1
ends_exit q p k k1 r d stops.Memory a b h = subst (λ z. Played found_tree q k z k1) (sym (a ∙ ap Err b)) tt
ends_exit q p k k1 r d (stops.Thrown v u) a b h = absurd h
ends_exit q p k k1 r d stops.Aborted a b h = absurd h
ends_exit q p k k1 r d stops.BudgetEnded a b h = absurd h
ends_exit q p k k1 r d stops.Broke a b h = absurd h
ends_exit q p k k1 r d stops.Continued a b h = absurd h

-- the message of an evaluation past the limit of depth, of which the Quiet hears
module _ (k : Evaluator) (d : Desk) (e : d ≡ issued (definitions k.store) recursion_limit (codes "reclim") (natural k.recursion ∷ []) (with_quiets (k.desk.quiets + 1) k.desk)) where
  abbrev told : What
  told = prog.issue recursion_limit (codes "reclim") (natural k.recursion ∷ [])

  told_is : (acted told (state (quieted k)).world).1 ≡ record (state (quieted k)).world { desk = d }
  unfolding acted
  told_is = ap (λ (x : Desk). let w : World = record (state k).world { desk = x } in w) (sym e)

  pub told_quiets : d.quiets ≡ k.desk.quiets + 1
  told_quiets = sym (ap (λ (w : World). w.desk.quiets) told_is) ∙ acted-quiets told (state (quieted k)).world

  pub deep_quietly : Sound k → k.recursion ≤ k.depth → (x : Stamped) → is_leaf x ≡ false → Plays (quiet_end (plain x)) k (Ok Aborted) (record k { desk = with_quiets (d.quiets - 1) d; log = None }) false
  deep_quietly s l x h =
      let k1 : Evaluator = record (quieted k) { desk = d; log = None } in
      let n : k.desk.quiets ≡ d.quiets - 1 = omega (arith, told_quiets) in
      subst (λ m. Plays (quiet_end (plain x)) k (Ok Aborted) (record k { desk = with_quiets m d; log = None }) false) n
      (plays_quietly (plain x) k k1 Aborted false (plays_too_deep x (quieted k) k1 h s.recursion l (plays_desk told (quieted k) d told_is)) (desk_sound k (with_quiets k.desk.quiets d) refl))

-- ---- inside a Check

-- whether one of two is true, by the first of them
pub either_first : (a b r : Bool) → a ≡ true → r ≡ true → r ≡ (a || b)
either_first true b r p q = q
either_first false b r p q = absurd (true≢false (sym p))

pub either_second : (a b r : Bool) → a ≡ false → r ≡ b → r ≡ (a || b)
either_second true b r p q = absurd (true≢false p)
either_second false b r p q = q

pub unheard_is : (k : Evaluator) (d : Desk) → d ≡ with_heard false k.desk → ◌≡◌ {A = Evaluator} (record k { desk = d }) (unheard k)
unheard_is k d q = ap (λ (z : Desk). let y : Evaluator = record k { desk = z } in y) q

pub unheard_sound : (k : Evaluator) → Sound k → Sound (unheard k)
unheard_sound k h = sound_at k k.depth (with_heard false k.desk) h.deepest h.quiets h

checked_is : (t : Tree) (s : State) → Go (checked_end t) s
    ≡ (let r = Eval t (with_desk (with_heard false s.world.desk) s) in record { result = Ok (r.result, r.state.world.desk.heard); state = with_desk (with_heard (s.world.desk.heard || r.state.world.desk.heard) r.state.world.desk) r.state; did = r.did then none })
unfolding checked_end interp
checked_is t s = refl

ok_inj : {A B : Type 0} {a b : A} → ◌≡◌ {A = Result A B} (Ok a) (Ok b) → a ≡ b
ok_inj e = cc

pub plays_checked : (t : Tree) (k k1 : Evaluator) (x : End) (o : Bool) → Plays (prog.end_of t) (unheard k) (Ok x) k1 o → Plays (checked_end t) k (Ok (x, k1.desk.heard)) (reheard k k1) o
plays_checked t k k1 x o h =
    let q = checked_is t (state k) in
    let w = eval_is t (state (unheard k)) in
    let r : Res End = Eval t (state (unheard k)) in
    let a : r.result ≡ x = ok_inj (sym (ap (λ z. z.result) w) ∙ h.ends) in
    let b : r.state ≡ state k1 = sym (ap (λ z. z.state) w) ∙ h.leaves in
    let d : (Go (prog.end_of t) (state (unheard k))).did ≡ (Go (checked_end t) (state k)).did = ap (λ z. z.did) w ∙ sym (ap (λ z. z.did) q) in
    record {
      ends = ap (λ z. z.result) q ∙ ap₂ (λ (u : End) (z : State). let p : Result (End × Bool) End = Ok (u, z.world.desk.heard) in p) a b;
      leaves = ap (λ z. z.state) q ∙ ap (λ (z : State). with_desk (with_heard (k.desk.heard || z.world.desk.heard) z.world.desk) z) b;
      out = sym (ap (λ (z : Record). z.out) d) ∙ h.out;
      notes = subst (λ z. Notes k z (reheard k k1)) d (notes_desk k k1 _ _ _ h.notes);
      grows = h.grows;
      sound = λ s. let z = h.sound (unheard_sound k s) in sound_at k1 k1.depth (with_heard (k.desk.heard || k1.desk.heard) k1.desk) z.deepest z.quiets z;
    }

check_row_is : (t f : Tree) → check_row (t ∷ f ∷ []) ≡ (checked_end t >>= λ a. unless_heard f a)
unfolding checked_end ◌>>=◌
check_row_is t f = refl

pub check_row_ended : (t : Tree) (f : Stamped) (k k1 : Evaluator) (x : ends.End) (d : Desk) (r : Result (Option Stamped) Stop) → Honest k f → Ended t (unheard k) (Ok x) k1 → d ≡ with_heard (k.desk.heard || k1.desk.heard) k1.desk
    → ((k2 : Evaluator) → HonestEnd k2 x → Honest k2 f → Played found_tree (sized_row (unless_heard (plain f) (end_of x, k1.desk.heard))) k2 r k2) → Played found_tree (sized_row (check_row (t ∷ plain f ∷ []))) k r (record k1 { desk = d })
check_row_ended t f k k1 x d r g h p m =
    let k2 = reheard k k1 in
    subst (λ z. Played found_tree (sized_row (check_row (t ∷ plain f ∷ []))) k r (record k1 { desk = z })) (sym p)
    (subst (λ q. Played found_tree (sized_row q) k r k2) (sym (check_row_is t (plain f)))
    (row_end (checked_end t) (λ a. unless_heard (plain f) a) k k2 (end_of x, k1.desk.heard) (end_of x) r k2 (plays_checked t k k1 (end_of x) (is_budget_end (end_of x)) h.0)
    (λ q. ap (λ z. unless_heard (plain f) (z, k1.desk.heard)) q ∙ budget_stops (λ v. result (elim k1.desk.heard [ true ↦ plain f | false ↦ v ])))
    (m k2 (end_elsewhere k1 k2 x refl (end_honest k1.depth k1 x h.1)) (later h.0 f g))))

pub check_two : (k k1 : Evaluator) (es : List Stamped) (e f : Stamped) (x : ends.End) (d : Desk) (r : Result (Option Stamped) Stop) → es ≡ e ∷ f ∷ [] → Honest k f → Ended (plain e) (unheard k) (Ok x) k1
    → d ≡ with_heard (k.desk.heard || k1.desk.heard) k1.desk → ((k2 : Evaluator) → HonestEnd k2 x → Honest k2 f → Played found_tree (sized_row (unless_heard (plain f) (end_of x, k1.desk.heard))) k2 r k2)
    → Played found_tree (sized_row (check_row (trees es))) k r (record k1 { desk = d })
check_two k k1 es e f x d r q g h p m = subst (λ us. Played found_tree (sized_row (check_row (trees us))) k r (record k1 { desk = d })) (sym q) (check_row_ended (plain e) f k k1 x d r g h p m)
