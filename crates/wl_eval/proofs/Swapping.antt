-- A message that was issued before rules were given back could have been issued after: its text is no rule.
use Rattle.std.proofs.Common.{◌≡◌, Bool, true, false, ◌||◌, List, [], ◌++◌, arith, Option, Some, None, Ok, refl, sym, ap, ◌∙◌, subst, if◌then◌else◌, bytes_eq, true≢false}
use Rattle.std.specs.Cmp.Lexicographic.{same_text}
use Rattle.std.specs.Prelude.{codes, nat_lt, is_some, unwrap_or, ◌==◌}
use Rattle.wl_desk.specs.Desk.{Desk, issued, shown, full_name, count_of, with_heard}
use Rattle.wl_desk.specs.MessageText.{filled_text}
use Rattle.wl_expr.specs.Tree.{Tree}
use Rattle.wl_expr.specs.Words.{Name, Bytes}
use Rattle.wl_rules.specs.Entries.{Definitions, Entry, PlainRule, Rules, value_at, with_entry, with_rules}
use Rattle.wl_semantics.specs.State.{State}
use Rattle.wl_semantics.specs.Prog.{Prog, What, doing, done, ◌>>=◌, issue, give_rules, message}
use Rattle.wl_semantics.specs.Effects.{acted}
use Rattle.wl_semantics.specs.Eval.{interp}
use Rattle.wl_semantics.specs.Control.{give_back_taken}
use Rattle.wl_state.specs.Logs.{is_spoiled}
use Rattle.wl_semantics.specs.Scoping.{Taken}
use Rattle.wl_state.specs.Played.{Plays, Sound, state}
use Rattle.wl_state.specs.declared.evaluator.Log.{Log}
use Rattle.wl_state.specs.declared.evaluator.Evaluator.{Evaluator}
use Rattle.wl_state.proofs.Moves.{plays_doing}
use Rattle.wl_state.proofs.Playing.{plays_bind, plays_done}
use Rattle.wl_state.proofs.Rows.{same_depth}
use Rattle.wl_state.proofs.Stores.{grows_refl, grows_trans}

-- what isn't a rule of an entry is as it was
kept_part : {X : Type 0} (part : Entry PlainRule → X) (d : Definitions) (x y : Name) (r : Rules PlainRule) → ((e : Entry PlainRule) → part (with_rules r e) ≡ part e) → part (with_entry x (with_rules r (d x)) d y) ≡ part (d y)
kept_part {X} part d x y r h = cases (bytes_eq x y) refl
  where
    cases : (b : Bool) → bytes_eq x y ≡ b → part (if b then with_rules r (d x) else d y) ≡ part (d y)
    cases true q = h (d x) ∙ ap (λ z. part (d z)) (same_text x y (sym q))
    cases false q = refl

-- the desk after a message, by what is off of its symbol, and the texts of that and of `General`
issued_by : List (Bytes × Unit {0}) → List (Bytes × Bytes) → List (Bytes × Bytes) → Name → Bytes → List Tree → Desk → Desk
issued_by off texts general s t args k =
    let item = full_name s t ++ (codes ": " ++ filled_text (unwrap_or (value_at t texts) (unwrap_or (value_at t general) (codes "-- Message text not found --"))) args) in
    if is_some (value_at t off) then k
    else with_heard true (if k.quiets == 0 then (if nat_lt (count_of (full_name s t) k.counts) 3 then shown (full_name s t) item k else k) else k)

issued_is : (d : Definitions) (s : Name) (t : Bytes) (args : List Tree) (k : Desk) → issued d s t args k ≡ issued_by (d s).off (d s).messages (d (codes "General")).messages s t args k
unfolding issued_by
issued_is d s t args k = refl

issued_alike : (d : Definitions) (x : Name) (r : Rules PlainRule) (s : Name) (t : Bytes) (args : List Tree) (k : Desk) → issued (with_entry x (with_rules r (d x)) d) s t args k ≡ issued d s t args k
issued_alike d x r s t args k =
    let f = with_entry x (with_rules r (d x)) d in
    let g = codes "General" in
    issued_is f s t args k ∙ ap (λ z. issued_by z (f s).messages (f g).messages s t args k) (kept_part (λ e. e.off) d x s r (λ e. refl))
    ∙ ap (λ z. issued_by (d s).off z (f g).messages s t args k) (kept_part (λ e. e.messages) d x s r (λ e. refl)) ∙ ap (λ z. issued_by (d s).off (d s).messages z s t args k) (kept_part (λ e. e.messages) d x g r (λ e. refl))
    ∙ sym (issued_is d s t args k)

-- ---- a change made by an effect

done_state : (a : What) (k k1 : Evaluator) {o : Bool} → Plays (doing a) k (Ok tt) k1 o → record (state k) { world = (acted a (state k).world).1 } ≡ state k1
unfolding doing interp
done_state a k k1 h = h.leaves

or_true : (b : Bool) → (b || true) ≡ true
or_true true = refl
or_true false = refl

none_spoiled : (o : Option Log) → is_spoiled o ≡ true → o ≡ None
none_spoiled None e = refl
none_spoiled (Some u) e = absurd (true≢false (sym e))

done_log : (a : What) (k k1 : Evaluator) {o : Bool} → Plays (doing a) k (Ok tt) k1 o → k1.log ≡ None
unfolding doing interp
done_log a k k1 h = none_spoiled k1.log (h.notes.spoiled ∙ or_true (is_spoiled k.log))

-- ---- the swap

abbrev large : What
large = issue (codes "General") (codes "large") []

with_desk : Desk → State → State
with_desk d s = record s { world = record s.world { desk = d } }

module _ (x : Name) (r : Rules PlainRule) (k k1 k2 : Evaluator) (m : Plays (doing large) k (Ok tt) k1 false) (g : Plays (doing (give_rules x r)) k1 (Ok tt) k2 false) (h : Sound k) where
  abbrev between : Evaluator
  between = record k2 { desk = k.desk }

  both : record (state k) { world = (acted (give_rules x r) (acted large (state k).world).1).1 } ≡ state k2
  both = ap (λ (s : State). let z : State = record s { world = (acted (give_rules x r) s.world).1 } in z) (done_state large k k1 m) ∙ done_state (give_rules x r) k1 k2 g

  given_first : state between ≡ record (state k) { world = (acted (give_rules x r) (state k).world).1 }
  unfolding acted with_desk
  given_first = sym (ap (with_desk k.desk) both)

  told_then : state k2 ≡ record (state between) { world = (acted large (state between).world).1 }
  unfolding acted with_desk
  told_then =
      let d = (state k).world.definitions in
      let f = (state k2).world.definitions in
      let e : with_entry x (with_rules r (d x)) d ≡ f = ap (λ (s : State). s.world.definitions) both in
      let q : issued d (codes "General") (codes "large") [] k.desk ≡ k2.desk = ap (λ (s : State). s.world.desk) both in
      ap (λ z. with_desk z (state k2)) (sym q ∙ sym (issued_alike d x r (codes "General") (codes "large") [] k.desk) ∙ ap (λ (z : Definitions). issued z (codes "General") (codes "large") [] k.desk) e)

  last_sound : Sound k2
  last_sound = g.sound (m.sound h)

  between_sound : Sound between
  between_sound =
      let s = last_sound in
      record {
        distinct = s.distinct;
        drawn = s.drawn;
        honest = s.honest;
        history = s.history;
        recursion = s.recursion;
        iteration = s.iteration;
        recursion_most = s.recursion_most;
        iteration_most = s.iteration_most;
        deepest = s.deepest;
        quiets = let e = same_depth m in let d = same_depth g in omega (arith, h.quiets, e, d);
        current = s.current;
        began = s.began;
      }

  gives_first : Plays (doing (give_rules x r)) k (Ok tt) between false
  gives_first = plays_doing (give_rules x r) k between given_first (done_log (give_rules x r) k1 k2 g) (grows_trans m.grows g.grows) (λ s. between_sound)

  tells_then : Plays (doing large) between (Ok tt) k2 false
  tells_then = plays_doing large between k2 told_then (done_log (give_rules x r) k1 k2 g) (grows_refl _) (λ s. last_sound)

-- a message and then nothing
only_told : Prog (Unit {0})
only_told = doing large >>= λ _. done tt

only_told-is : only_told ≡ doing large
unfolding only_told doing ◌>>=◌
only_told-is = refl

-- where what was set aside is given back after the message, it could have been so before
pub swapped : (t : Option Taken) (k k1 k2 : Evaluator) → Sound k → Plays (message (codes "General") (codes "large") []) k (Ok tt) k1 false → Plays (give_back_taken t) k1 (Ok tt) k2 false
    → (between : Evaluator) × Plays (give_back_taken t) k (Ok tt) between false × Plays (message (codes "General") (codes "large") []) between (Ok tt) k2 false
unfolding only_told
swapped None k k1 k2 h m g = (k, plays_done, subst (λ p. Plays p k (Ok tt) k2 false) only_told-is (plays_bind (doing large) (λ _. done tt) m g))
swapped (Some u) k k1 k2 h m g = (between u.name u.rules k k1 k2 m g h, gives_first u.name u.rules k k1 k2 m g h, tells_then u.name u.rules k k1 k2 m g h)
