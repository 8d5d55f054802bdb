-- The questions of a row of loops and branches, one after the other, up to its end.
use Rattle.std.proofs.Common.{◌≡◌, ◌↔◌, ℕ, ◌+◌, ◌-◌, ◌*◌, ◌^◌, ◌≤◌, ◌<◌, map, length, Bool, true, false, List, ◌∷◌, Option, Some, None, option_map, Result, Ok, Err, IsTrue, refl, sym, ap, ◌∙◌, subst, arith, true≢false}
use Rattle.std.proofs.lemmas.List.Elements.{All-cons, All-head, All-tail, All-weaker}
use Rattle.std.proofs.Math.Nat.{mul-le-mul_left}
use Rattle.std.proofs.lemmas.Result.{err_from_is_err_and}
use Rattle.std.proofs.lemmas.List.{length-map}
use Rattle.std.specs.Result.{IsErrAnd}
use Rattle.wl_control.specs.Asks.{Asks, gives, stays, overflows, too_large, eval, eval_catching, matches, let_be, pass, Caught, value, broke, continued}
use Rattle.wl_control.specs.Cursors.{IsHeldFrom, stand}
use Rattle.wl_control.specs.Table.{Row, row_of}
use Rattle.wl_control.proofs.Pacing.{Falls, paced_next, row_paced}
use Rattle.wl_control.specs.Pacing.{IsPaced}
use Rattle.wl_control.specs.Places.{AllFrom, AskIsFrom}
use Rattle.wl_control.specs.Stand.{Question, evaluate, test, assign, begin_pass, overflow, result, unchanged, Answer, start, Stand, starts, for_value, for_end, for_match, for_leave, over, asked, behind, after, Catches, IsAwaited, IsTooLarge}
use Rattle.wl_control.specs.declared.cursor.Cursor.{Cursor}
use Rattle.wl_control.specs.declared.place.Ask.{Ask}
use Rattle.wl_control.specs.declared.place.Ask.TheVariants as ask
use Rattle.wl_expr.specs.Passed.{IsFrom}
use Rattle.wl_expr.specs.Stamped.{Stamped, plain}
use Rattle.wl_expr.specs.Tree.{Tree}
use Rattle.wl_expr.specs.Words.{Name, fits}
use Rattle.wl_expr.specs.declared.fault.ExprFault.{ExprFault}
use Rattle.wl_expr.specs.declared.fault.ExprFault.TheVariants as fault
use Rattle.wl_semantics.specs.State as spec
use Rattle.wl_semantics.specs.State.{State, End}
use Rattle.wl_semantics.specs.Prog as prog
use Rattle.wl_semantics.specs.Prog.{Prog, done, ◌>>=◌, ended, now, sized, end_of, value_of, value_of_built, tick, entry_of, is_protected}
use Rattle.wl_semantics.specs.Match as match
use Rattle.wl_semantics.specs.Control as control
use Rattle.wl_semantics.specs.Control.{Stood, stood, played, caught, end_of_built, set_iterator, give_back_taken, finished, iterated}
use Rattle.wl_state.specs.Honest.{Grows}
use Rattle.wl_state.specs.Parts.{sized_row}
use Rattle.wl_state.specs.Played as seen
use Rattle.wl_state.specs.Played.{Seen, Plays, Leads, Played, Ended, Honest, AllHonest, HonestMaybe, Sound, TooLarge, FaultStops, found_tree, itself}
use Rattle.wl_state.specs.Replies.{HonestReply, ReplyIsFrom, HonestAsk, Holds, IsBounded, IsCaught, Proceeds, caught_of, caught_reply, is_memory, stops_by_memory, set_aside, AreTaken, Ready, IsPosed, Finishes, Goes, Comes, IsRefused}
use Rattle.wl_state.specs.declared.ends.End as ends
use Rattle.wl_state.specs.declared.ends.End.TheVariants as end
use Rattle.wl_state.specs.declared.ends.Stop.{Stop}
use Rattle.wl_state.specs.declared.ends.Stop.TheVariants as stops
use Rattle.wl_state.specs.declared.evaluator.Evaluator.{Evaluator}
use Rattle.wl_state.specs.declared.evaluator.Taken.{Taken}
use Rattle.wl_state.specs.declared.replies.Reply.{Reply}
use Rattle.wl_state.specs.declared.replies.Reply.TheVariants as reply
use Rattle.wl_state.specs.declared.replies.Outcome.{Outcome}
use Rattle.wl_state.proofs.Answering.{OptionFits, beyond, within, from_honest, row_plays, row_stops, row_large}
use Rattle.wl_eval.proofs.Driving.{drive_eval, drive_catching, drive_matches, drive_pass, drive_let, finished_answers, finished_stops}
use Rattle.wl_state.proofs.Fitting.{plays_fits, sized_large, too_large_played}
use Rattle.wl_state.proofs.IteratorParts.{are_later}
use Rattle.wl_state.proofs.Playing.{plays_bind, plays_done, plays_now}
use Rattle.wl_state.proofs.Rows.{later, leads_on, leads_bind, played_bind, played_stop}
use Rattle.wl_state.proofs.Stores.{grows_refl, grows_trans, honest_grows}
use Rattle.wl_eval.proofs.Swapping.{swapped}

-- ---- which questions there are

at_value : (P : Asks → Type 0) (a : Asks) (u : Tree) → asked a ≡ Some (evaluate u) → ¬ Catches (behind a) → ((f : Tree → Asks) → P (eval u f)) → P a
at_value P (eval t f) u q n h = let e : u ≡ t = (let z : Some (evaluate t) ≡ Some (evaluate u) = q in cc) in subst (λ z. P (eval z f)) e (h f)
at_value P (eval_catching t f) u q n h = absurd (n tt)
at_value P (gives t) u q n h = absurd (let z : Some (result t) ≡ Some (evaluate u) = q in cc)
at_value P stays u q n h = absurd (let z : Some unchanged ≡ Some (evaluate u) = q in cc)
at_value P overflows u q n h = absurd (let z : Some overflow ≡ Some (evaluate u) = q in cc)
at_value P too_large u q n h = absurd (let z : None ≡ Some (evaluate u) = q in cc)
at_value P (matches t p f) u q n h = absurd (let z : Some (test t p) ≡ Some (evaluate u) = q in cc)
at_value P (let_be v f) u q n h = absurd (let z : Some (assign v) ≡ Some (evaluate u) = q in cc)
at_value P (pass f) u q n h = absurd (let z : Some begin_pass ≡ Some (evaluate u) = q in cc)

at_caught : (P : Asks → Type 0) (a : Asks) (u : Tree) → asked a ≡ Some (evaluate u) → Catches (behind a) → ((f : Caught → Asks) → P (eval_catching u f)) → P a
at_caught P (eval t f) u q n h = absurd n
at_caught P (eval_catching t f) u q n h = let e : u ≡ t = (let z : Some (evaluate t) ≡ Some (evaluate u) = q in cc) in subst (λ z. P (eval_catching z f)) e (h f)
at_caught P (gives t) u q n h = absurd n
at_caught P stays u q n h = absurd n
at_caught P overflows u q n h = absurd n
at_caught P too_large u q n h = absurd n
at_caught P (matches t p f) u q n h = absurd n
at_caught P (let_be v f) u q n h = absurd n
at_caught P (pass f) u q n h = absurd n

at_match : (P : Asks → Type 0) (a : Asks) (u p : Tree) → asked a ≡ Some (test u p) → ((f : Bool → Asks) → P (matches u p f)) → P a
at_match P (matches t r f) u p q h =
    let e : u ≡ t = (let z : Some (test t r) ≡ Some (test u p) = q in cc) in
    let d : p ≡ r = (let z : Some (test t r) ≡ Some (test u p) = q in cc) in
    subst (λ z. P (matches z r f)) e (subst (λ z. P (matches u z f)) d (h f))
at_match P (eval t f) u p q h = absurd (let z : Some (evaluate t) ≡ Some (test u p) = q in cc)
at_match P (eval_catching t f) u p q h = absurd (let z : Some (evaluate t) ≡ Some (test u p) = q in cc)
at_match P (gives t) u p q h = absurd (let z : Some (result t) ≡ Some (test u p) = q in cc)
at_match P stays u p q h = absurd (let z : Some unchanged ≡ Some (test u p) = q in cc)
at_match P overflows u p q h = absurd (let z : Some overflow ≡ Some (test u p) = q in cc)
at_match P too_large u p q h = absurd (let z : None ≡ Some (test u p) = q in cc)
at_match P (let_be v f) u p q h = absurd (let z : Some (assign v) ≡ Some (test u p) = q in cc)
at_match P (pass f) u p q h = absurd (let z : Some begin_pass ≡ Some (test u p) = q in cc)

at_let : (P : Asks → Type 0) (a : Asks) (u : Tree) → asked a ≡ Some (assign u) → ((f : Unit {0} → Asks) → P (let_be u f)) → P a
at_let P (let_be v f) u q h = let e : u ≡ v = (let z : Some (assign v) ≡ Some (assign u) = q in cc) in subst (λ z. P (let_be z f)) e (h f)
at_let P (eval t f) u q h = absurd (let z : Some (evaluate t) ≡ Some (assign u) = q in cc)
at_let P (eval_catching t f) u q h = absurd (let z : Some (evaluate t) ≡ Some (assign u) = q in cc)
at_let P (gives t) u q h = absurd (let z : Some (result t) ≡ Some (assign u) = q in cc)
at_let P stays u q h = absurd (let z : Some unchanged ≡ Some (assign u) = q in cc)
at_let P overflows u q h = absurd (let z : Some overflow ≡ Some (assign u) = q in cc)
at_let P too_large u q h = absurd (let z : None ≡ Some (assign u) = q in cc)
at_let P (matches t p f) u q h = absurd (let z : Some (test t p) ≡ Some (assign u) = q in cc)
at_let P (pass f) u q h = absurd (let z : Some begin_pass ≡ Some (assign u) = q in cc)

at_pass : (P : Asks → Type 0) (a : Asks) → asked a ≡ Some begin_pass → ((f : Unit {0} → Asks) → P (pass f)) → P a
at_pass P (pass f) q h = h f
at_pass P (eval t f) q h = absurd (let z : Some (evaluate t) ≡ Some begin_pass = q in cc)
at_pass P (eval_catching t f) q h = absurd (let z : Some (evaluate t) ≡ Some begin_pass = q in cc)
at_pass P (gives t) q h = absurd (let z : Some (result t) ≡ Some begin_pass = q in cc)
at_pass P stays q h = absurd (let z : Some unchanged ≡ Some begin_pass = q in cc)
at_pass P overflows q h = absurd (let z : Some overflow ≡ Some begin_pass = q in cc)
at_pass P too_large q h = absurd (let z : None ≡ Some begin_pass = q in cc)
at_pass P (matches t p f) q h = absurd (let z : Some (test t p) ≡ Some begin_pass = q in cc)
at_pass P (let_be v f) q h = absurd (let z : Some (assign v) ≡ Some begin_pass = q in cc)

at_overflow : (P : Asks → Type 0) (a : Asks) → asked a ≡ Some overflow → P overflows → P a
at_overflow P overflows q h = h
at_overflow P (pass f) q h = absurd (let z : Some begin_pass ≡ Some overflow = q in cc)
at_overflow P (eval t f) q h = absurd (let z : Some (evaluate t) ≡ Some overflow = q in cc)
at_overflow P (eval_catching t f) q h = absurd (let z : Some (evaluate t) ≡ Some overflow = q in cc)
at_overflow P (gives t) q h = absurd (let z : Some (result t) ≡ Some overflow = q in cc)
at_overflow P stays q h = absurd (let z : Some unchanged ≡ Some overflow = q in cc)
at_overflow P too_large q h = absurd (let z : None ≡ Some overflow = q in cc)
at_overflow P (matches t p f) q h = absurd (let z : Some (test t p) ≡ Some overflow = q in cc)
at_overflow P (let_be v f) q h = absurd (let z : Some (assign v) ≡ Some overflow = q in cc)

at_result : (P : Asks → Type 0) (a : Asks) (u : Tree) → asked a ≡ Some (result u) → P (gives u) → P a
at_result P (gives t) u q h = let e : u ≡ t = (let z : Some (result t) ≡ Some (result u) = q in cc) in subst (λ z. P (gives z)) e h
at_result P (pass f) u q h = absurd (let z : Some begin_pass ≡ Some (result u) = q in cc)
at_result P (eval t f) u q h = absurd (let z : Some (evaluate t) ≡ Some (result u) = q in cc)
at_result P (eval_catching t f) u q h = absurd (let z : Some (evaluate t) ≡ Some (result u) = q in cc)
at_result P stays u q h = absurd (let z : Some unchanged ≡ Some (result u) = q in cc)
at_result P overflows u q h = absurd (let z : Some overflow ≡ Some (result u) = q in cc)
at_result P too_large u q h = absurd (let z : None ≡ Some (result u) = q in cc)
at_result P (matches t p f) u q h = absurd (let z : Some (test t p) ≡ Some (result u) = q in cc)
at_result P (let_be v f) u q h = absurd (let z : Some (assign v) ≡ Some (result u) = q in cc)

at_unchanged : (P : Asks → Type 0) (a : Asks) → asked a ≡ Some unchanged → P stays → P a
at_unchanged P stays q h = h
at_unchanged P (gives t) q h = absurd (let z : Some (result t) ≡ Some unchanged = q in cc)
at_unchanged P (pass f) q h = absurd (let z : Some begin_pass ≡ Some unchanged = q in cc)
at_unchanged P (eval t f) q h = absurd (let z : Some (evaluate t) ≡ Some unchanged = q in cc)
at_unchanged P (eval_catching t f) q h = absurd (let z : Some (evaluate t) ≡ Some unchanged = q in cc)
at_unchanged P overflows q h = absurd (let z : Some overflow ≡ Some unchanged = q in cc)
at_unchanged P too_large q h = absurd (let z : None ≡ Some unchanged = q in cc)
at_unchanged P (matches t p f) q h = absurd (let z : Some (test t p) ≡ Some unchanged = q in cc)
at_unchanged P (let_be v f) q h = absurd (let z : Some (assign v) ≡ Some unchanged = q in cc)

-- ---- what comes of each

-- the end of an evaluation, where Break and Continue are caught
pub caught_played : (t : Tree) (k k1 : Evaluator) (e : ends.End) (r : Result Reply Stop) → fits t ≡ true → Ended t k (Ok e) k1 → IsCaught e r → Played caught_reply (end_of_built t) k r k1
caught_played t k k1 (end.Value v) r f h q = subst (λ z. Played caught_reply (end_of_built t) k z k1) (sym q) (plays_bind (sized t) _ (plays_fits t k f) (plays_bind (end_of t) _ h.0 (plays_now (Ok (value (plain v))) k1)), (h.1.0, refl))
caught_played t k k1 (end.Thrown v u) r f h q = subst (λ z. Played caught_reply (end_of_built t) k z k1) (sym q) (plays_bind (sized t) _ (plays_fits t k f) (plays_bind (end_of t) _ h.0 (plays_now (Err (spec.Thrown (plain v) (option_map plain u))) k1)), h.1)
caught_played t k k1 end.Aborted r f h q = subst (λ z. Played caught_reply (end_of_built t) k z k1) (sym q) (plays_bind (sized t) _ (plays_fits t k f) (plays_bind (end_of t) _ h.0 (plays_now (Err spec.Aborted) k1)), tt)
caught_played t k k1 end.BudgetEnded r f h q = subst (λ z. Played caught_reply (end_of_built t) k z k1) (sym q) (plays_bind (sized t) _ (plays_fits t k f) (plays_bind (end_of t) _ h.0 (plays_now (Err spec.BudgetEnded) k1)), tt)
caught_played t k k1 end.Broke r f h q = subst (λ z. Played caught_reply (end_of_built t) k z k1) (sym q) (plays_bind (sized t) _ (plays_fits t k f) (plays_bind (end_of t) _ h.0 (plays_now (Ok broke) k1)), (tt, refl))
caught_played t k k1 end.Continued r f h q = subst (λ z. Played caught_reply (end_of_built t) k z k1) (sym q) (plays_bind (sized t) _ (plays_fits t k f) (plays_bind (end_of t) _ h.0 (plays_now (Ok continued) k1)), (tt, refl))

abbrev goes_so : Option Name → Asks → Evaluator → Option Taken → Evaluator → Evaluator → Reply → Asks → Type 0
goes_so x row k t k1 k2 r b = Leads (played x None row) k (played x (set_aside x t) b) k1 → Goes x row k (behind b) r k2 t

abbrev stops_so : Option Name → Asks → Evaluator → Option Taken → Evaluator → Evaluator → Stop → Asks → Type 0
stops_so x row k t k1 k2 d b = Leads (played x None row) k (played x (set_aside x t) b) k1 → Finishes x row k (Err d) k2 t

abbrev ends_so : Option Name → Asks → Evaluator → Option Taken → Evaluator → Evaluator → Option Stamped → Asks → Type 0
ends_so x row k t k1 k2 o b = Leads (played x None row) k (played x (set_aside x t) b) k1 → Finishes x row k (Ok o) k2 t

-- from where the row has come to
module _ (x : Option Name) (row : Asks) (k : Evaluator) (t : Option Taken) (a : Asks) (k1 : Evaluator) (l : Leads (played x None row) k (played x (set_aside x t) a) k1) {k2 : Evaluator} where
  pub value_goes : (u : Tree) (e : Stamped) → asked a ≡ Some (evaluate u) → ¬ Catches (behind a) → Played seen.tree (value_of_built u) k1 (Ok e) k2 → Goes x row k (behind a) (reply.Value e) k2 t
  value_goes u e q n h = at_value (goes_so x row k t k1 k2 (reply.Value e)) a u q n (λ f m. record { leads = leads_on m (drive_eval x (set_aside x t) u f (plain e) h.0); awaited = tt; honest = h.1.0 }) l

  pub value_stops : (u : Tree) (d : Stop) → asked a ≡ Some (evaluate u) → ¬ Catches (behind a) → Played seen.tree (value_of_built u) k1 (Err d) k2 → Finishes x row k (Err d) k2 t
  unfolding played
  value_stops u d q n h =
      at_value (stops_so x row k t k1 k2 d) a u q n
      (λ f m k3 g. row_stops (finished x row) k k3 d (finished_stops x row (value_of_built u) (λ r. elim r [ Ok w ↦ played x (set_aside x t) (f w) | Err e ↦ stood (set_aside x t) (Err e) ]) (set_aside x t) (λ e. refl) m g seen.tree found_tree d h)) l

  pub caught_goes : (u : Tree) (r : Reply) → asked a ≡ Some (evaluate u) → Catches (behind a) → Played caught_reply (end_of_built u) k1 (Ok r) k2 → Goes x row k (behind a) r k2 t
  caught_goes u r q n h = at_caught (goes_so x row k t k1 k2 r) a u q n from l
    where
      from : (f : Caught → Asks) → goes_so x row k t k1 k2 r (eval_catching u f)
      from f m =
          record {
            leads = subst (λ z. Leads (played x None row) k (played x (set_aside x t) (after (behind (eval_catching u f)) z)) k2) (sym h.1.1) (leads_on m (drive_catching x (set_aside x t) u f (caught_of r) h.0));
            awaited = subst (IsAwaited (behind (eval_catching u f))) (sym h.1.1) tt;
            honest = h.1.0;
          }

  pub caught_stops : (u : Tree) (d : Stop) → asked a ≡ Some (evaluate u) → Catches (behind a) → Played caught_reply (end_of_built u) k1 (Err d) k2 → Finishes x row k (Err d) k2 t
  unfolding played
  caught_stops u d q n h =
      at_caught (stops_so x row k t k1 k2 d) a u q n
      (λ f m k3 g. row_stops (finished x row) k k3 d (finished_stops x row (end_of_built u) (λ r. elim r [ Ok w ↦ played x (set_aside x t) (f w) | Err e ↦ stood (set_aside x t) (Err e) ]) (set_aside x t) (λ e. refl) m g caught_reply found_tree d h)) l

  pub match_goes : (u p : Tree) (b : Bool) → asked a ≡ Some (test u p) → Plays (match.matches p u) k1 (Ok b) k2 false → Goes x row k (behind a) (reply.Matched b) k2 t
  match_goes u p b q h = at_match (goes_so x row k t k1 k2 (reply.Matched b)) a u p q (λ f m. record { leads = leads_on m (drive_matches x (set_aside x t) u p f b h); awaited = tt; honest = tt }) l

  pub match_stops : (u p : Tree) (d : Stop) → asked a ≡ Some (test u p) → Played itself (match.matches p u) k1 (Err d) k2 → Finishes x row k (Err d) k2 t
  unfolding played
  match_stops u p d q h =
      at_match (stops_so x row k t k1 k2 d) a u p q
      (λ f m k3 g. row_stops (finished x row) k k3 d (finished_stops x row (match.matches p u) (λ r. elim r [ Ok w ↦ played x (set_aside x t) (f w) | Err e ↦ stood (set_aside x t) (Err e) ]) (set_aside x t) (λ e. refl) m g itself found_tree d h)) l

  pub pass_goes : asked a ≡ Some begin_pass → Plays tick k1 (Ok tt) k2 false → Goes x row k (behind a) reply.Went k2 t
  pass_goes q h = at_pass (goes_so x row k t k1 k2 reply.Went) a q (λ f m. record { leads = leads_on m (drive_pass x (set_aside x t) f h); awaited = tt; honest = tt }) l

  pub pass_stops : (d : Stop) → asked a ≡ Some begin_pass → Played itself tick k1 (Err d) k2 → Finishes x row k (Err d) k2 t
  unfolding played
  pass_stops d q h =
      at_pass (stops_so x row k t k1 k2 d) a q
      (λ f m k3 g. row_stops (finished x row) k k3 d (finished_stops x row tick (λ r. elim r [ Ok w ↦ played x (set_aside x t) (f w) | Err e ↦ stood (set_aside x t) (Err e) ]) (set_aside x t) (λ e. refl) m g itself found_tree d h)) l

  pub let_goes : (n : Option Taken) (v : Tree) → asked a ≡ Some (assign v) → Plays (set_iterator x v (set_aside x t)) k1 (Ok (set_aside x n)) k2 false → Goes x row k (behind a) reply.Went k2 n
  let_goes n v q h =
      at_let (λ b. Leads (played x None row) k (played x (set_aside x t) b) k1 → Goes x row k (behind b) reply.Went k2 n) a v q
      (λ f m. record { leads = leads_on m (drive_let x (set_aside x t) (set_aside x n) v f h); awaited = tt; honest = tt }) l

  -- the row comes to its answer
  row_ends : (o : Option Stamped) → Leads (played x None row) k (stood (set_aside x t) (Ok (option_map plain o))) k2 → OptionFits (option_map plain o) → HonestMaybe k2 o → Finishes x row k (Ok o) k2 t
  row_ends None m f h k3 g = (row_plays (finished x row) k k3 None tt (finished_answers x row (set_aside x t) None m g), tt)
  row_ends (Some e) m f h k3 g = (row_plays (finished x row) k k3 (Some (plain e)) f (finished_answers x row (set_aside x t) (Some (plain e)) m g), later g e h)

  pub overflow_ends : (e : Stamped) → asked a ≡ Some overflow → fits (plain e) ≡ true → Plays control.overflow k1 (Ok (Some (plain e))) k2 false → Honest k2 e → Finishes x row k (Ok (Some e)) k2 t
  unfolding played
  overflow_ends e q f h g = at_overflow (ends_so x row k t k1 k2 (Some e)) a q (λ m. row_ends (Some e) (leads_on m (leads_bind control.overflow (λ r. stood (set_aside x t) (Ok r)) h)) f g) l

-- the row ends where it has come to
module _ (x : Option Name) (row : Asks) (k : Evaluator) (t : Option Taken) (a : Asks) (k1 : Evaluator) (l : Leads (played x None row) k (played x (set_aside x t) a) k1) where
  pub result_ends : (e : Stamped) → asked a ≡ Some (result (plain e)) → ¬ IsTooLarge a → Honest k1 e → Finishes x row k (Ok (Some e)) k1 t
  unfolding played
  result_ends e q n g = at_result (λ b. ¬ IsTooLarge b → ends_so x row k t k1 k1 (Some e) b) a (plain e) q (λ w m. row_ends x row k t a k1 l (Some e) m (within (plain e) w) g) n l

  pub unchanged_ends : asked a ≡ Some unchanged → Finishes x row k (Ok None) k1 t
  unfolding played
  unchanged_ends q = at_unchanged (ends_so x row k t k1 k1 None) a q (λ m. row_ends x row k t a k1 l None m tt tt) l

-- ---- what is too large

module _ (x : Option Name) (row : Asks) (k : Evaluator) (t : Option Taken) (k1 k2 : Evaluator) (s : Sound k1) (m : TooLarge k1 stops.Aborted k2) where
  abbrev refused_so : Asks → Type 0
  refused_so b = Leads (played x None row) k (played x (set_aside x t) b) k1 → IsTooLarge b → Finishes x row k (Err stops.Aborted) k2 t

  large_at : (a : Asks) → refused_so a
  unfolding played
  large_at too_large l w k3 g = row_stops (finished x row) k k3 stops.Aborted (finished_stops x row (prog.too_large {R = Option Tree}) (λ r. stood (set_aside x t) r) (set_aside x t) (λ e. refl) l g found_tree found_tree stops.Aborted (too_large_played found_tree k1 k2 stops.Aborted m))
  large_at (gives u) l w k3 g =
      let b = swapped (set_aside x t) k1 k2 k3 s m g in
      row_large (finished x row) u k b.0 k3 stops.Aborted (beyond u w) (finished_answers x row (set_aside x t) (Some u) l b.1) b.2
  large_at (eval u f) l w k3 g =
      row_stops (finished x row) k k3 stops.Aborted
      (finished_stops x row (value_of_built u) (λ r. elim r [ Ok v ↦ played x (set_aside x t) (f v) | Err e ↦ stood (set_aside x t) (Err e) ]) (set_aside x t) (λ e. refl) l g seen.tree found_tree stops.Aborted
      (played_stop itself seen.tree (sized u) _ k1 stops.Aborted k2 (sized_large itself u k1 k2 stops.Aborted (beyond u w) m)))
  large_at (eval_catching u f) l w k3 g =
      row_stops (finished x row) k k3 stops.Aborted
      (finished_stops x row (end_of_built u) (λ r. elim r [ Ok v ↦ played x (set_aside x t) (f v) | Err e ↦ stood (set_aside x t) (Err e) ]) (set_aside x t) (λ e. refl) l g caught_reply found_tree stops.Aborted
      (played_stop itself caught_reply (sized u) _ k1 stops.Aborted k2 (sized_large itself u k1 k2 stops.Aborted (beyond u w) m)))
  large_at stays l w k3 g = absurd w
  large_at overflows l w k3 g = absurd w
  large_at (matches u p f) l w k3 g = absurd w
  large_at (let_be v f) l w k3 g = absurd w
  large_at (pass f) l w k3 g = absurd w

pub refused_finishes : (x : Option Name) (row : Asks) (k : Evaluator) (t : Option Taken) (a : Asks) (k1 k2 : Evaluator) (e : Stop) → Sound k1 → Leads (played x None row) k (played x (set_aside x t) a) k1 → IsRefused a k1 e k2 → Finishes x row k (Err e) k2 t
refused_finishes x row k t a k1 k2 stops.Memory s l h k3 g = tt
refused_finishes x row k t a k1 k2 (stops.Thrown v u) s l h k3 g = absurd (h refl).1
refused_finishes x row k t a k1 k2 stops.Aborted s l h k3 g = let w = h refl in large_at x row k t k1 k2 s w.1 a l w.0 k3 g
refused_finishes x row k t a k1 k2 stops.BudgetEnded s l h k3 g = absurd (h refl).1
refused_finishes x row k t a k1 k2 stops.Broke s l h k3 g = absurd (h refl).1
refused_finishes x row k t a k1 k2 stops.Continued s l h k3 g = absurd (h refl).1

-- ---- what can be given back

module _ (x : Option Name) (t : Option Taken) (k k1 : Evaluator) (s : Sound k) (w : AreTaken k x t) where
  pub ready_at : {R : Type 0} {p : Prog R} {r : Result R End} {o : Bool} → Plays p k r k1 o → Ready x k k1 t
  ready_at h = record { sound = h.sound s; taken = are_later h x t w; grows = h.grows }

  pub ready_stop : {X R : Type 0} (sees : Seen X R) (p : Prog R) (e : Stop) → Played sees p k (Err e) k1 → is_memory e ≡ false → Ready x k k1 t
  ready_stop sees p stops.Memory h n = absurd (true≢false n)
  ready_stop sees p (stops.Thrown v u) h n = ready_at h.0
  ready_stop sees p stops.Aborted h n = ready_at h.0
  ready_stop sees p stops.BudgetEnded h n = ready_at h.0
  ready_stop sees p stops.Broke h n = ready_at h.0
  ready_stop sees p stops.Continued h n = ready_at h.0

  pub ready_large : (a : Asks) (e : Stop) → IsRefused a k e k1 → is_memory e ≡ false → Ready x k k1 t
  ready_large a stops.Memory h n = absurd (true≢false n)
  ready_large a (stops.Thrown v u) h n = absurd (h n).1
  ready_large a stops.Aborted h n = ready_at (h n).1
  ready_large a stops.BudgetEnded h n = absurd (h n).1
  ready_large a stops.Broke h n = absurd (h n).1
  ready_large a stops.Continued h n = absurd (h n).1

pub ready_same : (x : Option Name) (t : Option Taken) (k : Evaluator) → Sound k → AreTaken k x t → Ready x k k t
ready_same x t k s w = record { sound = s; taken = w; grows = grows_refl _ }

pub ready_then : (x : Option Name) (t n : Option Taken) (k k1 k2 : Evaluator) → Ready x k k1 t → Ready x k1 k2 n → Ready x k k2 n
ready_then x t n k k1 k2 a b = record { sound = b.sound; taken = b.taken; grows = grows_trans a.grows b.grows }

-- ---- what a row holds

pub ask_honest : (k : Evaluator) (es : List Stamped) → AllHonest k es → (q : Ask) → ((ms : List Stamped) → AllFrom ms es → AskIsFrom ms q) → HonestAsk k q
ask_honest k es h (ask.Eval e) f = from_honest k es h e f
ask_honest k es h (ask.Matches e p) f = (from_honest k es h e (λ ms w. (f ms w).0), from_honest k es h p (λ ms w. (f ms w).1))
ask_honest k es h (ask.Let v) f = from_honest k es h v f
ask_honest k es h ask.Pass f = tt
ask_honest k es h ask.Overflow f = tt
ask_honest k es h (ask.Done e) f = from_honest k es h e f
ask_honest k es h ask.Unchanged f = tt

abbrev hands_on : Cursor → Reply → Ask → Cursor → Type 0
hands_on c r q c' = (ms : List Stamped) → IsHeldFrom ms c → ReplyIsFrom ms r → AskIsFrom ms q × IsHeldFrom ms c'

pub asked_honest : (k : Evaluator) (c c' : Cursor) (r : Reply) (q : Ask) → Holds k c r → hands_on c r q c' → HonestAsk k q
asked_honest k c c' r q h f = ask_honest k h.parts h.honest q (λ ms w. let z = h.from ms w in (f ms z.0 z.1).0)

all_grown : (k k1 : Evaluator) → Grows k.store k1.store → (es : List Stamped) → AllHonest k es → AllHonest k1 es
all_grown k k1 g es h = All-weaker (Honest k) (Honest k1) (λ e w. honest_grows k.store k1.store g e w) es h

pub holds_next : (k k1 : Evaluator) (c c' : Cursor) (r r' : Reply) (q : Ask) → Holds k c r → hands_on c r q c' → Grows k.store k1.store → HonestReply k1 r' → Holds k1 c' r'
holds_next k k1 c c' r (reply.Value e) q h f g w =
    record {
      parts = e ∷ h.parts;
      honest = All-cons (Honest k1) e h.parts w (all_grown k k1 g h.parts h.honest);
      from = λ ms a. let z = h.from ms (All-tail (IsFrom ms) e h.parts a) in ((f ms z.0 z.1).1, All-head (IsFrom ms) e h.parts a);
    }
holds_next k k1 c c' r reply.Start q h f g w = record { parts = h.parts; honest = all_grown k k1 g h.parts h.honest; from = λ ms a. let z = h.from ms a in ((f ms z.0 z.1).1, tt) }
holds_next k k1 c c' r (reply.Matched b) q h f g w = record { parts = h.parts; honest = all_grown k k1 g h.parts h.honest; from = λ ms a. let z = h.from ms a in ((f ms z.0 z.1).1, tt) }
holds_next k k1 c c' r reply.Went q h f g w = record { parts = h.parts; honest = all_grown k k1 g h.parts h.honest; from = λ ms a. let z = h.from ms a in ((f ms z.0 z.1).1, tt) }
holds_next k k1 c c' r reply.Broke q h f g w = record { parts = h.parts; honest = all_grown k k1 g h.parts h.honest; from = λ ms a. let z = h.from ms a in ((f ms z.0 z.1).1, tt) }
holds_next k k1 c c' r reply.Continued q h f g w = record { parts = h.parts; honest = all_grown k k1 g h.parts h.honest; from = λ ms a. let z = h.from ms a in ((f ms z.0 z.1).1, tt) }

-- ---- the whole row

-- nothing is set aside yet
pub row_begins : (x : Option Name) (row : Asks) (s : Stand) (t : Option Taken) (k : Evaluator) → t ≡ None → s ≡ starts row → Leads (played x None row) k (played x (set_aside x t) (after s start)) k
row_begins None row s t k e q = subst (λ z. Leads (played None None row) k (played None None (after z start)) k) (sym q) (λ r k2 o h. h)
row_begins (Some x) row s t k e q = subst (λ u. Leads (played (Some x) None row) k (played (Some x) (set_aside (Some x) u) (after s start)) k) (sym e) (subst (λ z. Leads (played (Some x) None row) k (played (Some x) None (after z start)) k) (sym q) (λ r k2 o h. h))

-- a question, its stand apart
pub comes_at : (x : Option Name) (row : Asks) (k : Evaluator) (a : Asks) (q : Question) (s : Stand) (r : Result Outcome Stop) (k1 : Evaluator) (t : Option Taken) → IsPosed a q s → Comes x row k (behind a) r k1 t → Comes x row k s r k1 t
comes_at x row k a q s r k1 t p h = subst (λ z. Comes x row k z r k1 t) (sym p.stands) h

pub catches_behind : (a : Asks) (q : Question) (s : Stand) (b : Bool) → IsPosed a q s → (IsTrue b ↔ Catches s) → b ≡ true → Catches (behind a)
catches_behind a q s b p c e = subst Catches p.stands (c.0 e)

pub catches_not : (a : Asks) (q : Question) (s : Stand) (b : Bool) → IsPosed a q s → (IsTrue b ↔ Catches s) → b ≡ false → ¬ Catches (behind a)
catches_not a q s b p c e w = true≢false (sym (c.1 (subst Catches (sym p.stands) w)) ∙ e)

-- ---- how long it goes on

fewer_room : (i f m s t b : ℕ) → 1 ≤ f → t ≤ s → i + f + (m + 1) * s ≤ b → i + 1 + (f - 1) + (m + 1) * t ≤ b
fewer_room i f m s t b g l h = omega (arith, g, h, mul-le-mul_left (m + 1) l)

step_room : (i f m s t b : ℕ) → t + 1 ≤ s → i + f + (m + 1) * s ≤ b → i + 1 + m + (m + 1) * t ≤ b
step_room i f m s t b l h = omega (arith, h, mul-le-mul_left (m + 1) l)

-- as often as all steps pay for is less often than the loop goes
no_room : (i f m s b : ℕ) → m + 2 ≤ 2 ^ 64 → b < 2 ^ 64 → i + f + (m + 1) * s ≤ m + (m + 1) * b → i < 2 ^ 128 - 1
no_room i f m s b g l h =
    let most : (m + 1) * b ≤ (m + 1) * (2 ^ 64 - 1) = mul-le-mul_left (m + 1) (omega (arith, l)) in
    omega (arith, g, h, most)

module _ (i from s t : ℕ) (l : t ≤ s) where
  abbrev steps_for : Asks → Type 0
  steps_for a = asked a ≡ Some begin_pass → t + 1 ≤ s

  asks_less : (a b : Asks) (most few : ℕ) → most + 2 ≤ 2 ^ 64 → i + few + (most + 1) * s ≤ most + (most + 1) * from → (1 ≤ few) × IsPaced most (few - 1) b → Proceeds (i + 1) from t b
  asks_less a b most few g h f = record { most = most; few = few - 1; small = g; paced = f.1; room = fewer_room i few most s t (most + (most + 1) * from) f.0 l h }

  falls_on : (a b : Asks) (most few : ℕ) → most + 2 ≤ 2 ^ 64 → i + few + (most + 1) * s ≤ most + (most + 1) * from → steps_for a → Falls most few a b → Proceeds (i + 1) from t b
  falls_on (pass k) b most few g h n f = record { most = most; few = most; small = g; paced = f; room = step_room i few most s t (most + (most + 1) * from) (n refl) h }
  falls_on (eval u k) b most few g h n f = asks_less (eval u k) b most few g h f
  falls_on (eval_catching u k) b most few g h n f = asks_less (eval_catching u k) b most few g h f
  falls_on (matches u p k) b most few g h n f = asks_less (matches u p k) b most few g h f
  falls_on (let_be v k) b most few g h n f = asks_less (let_be v k) b most few g h f
  falls_on (gives u) b most few g h n f = asks_less (gives u) b most few g h f
  falls_on stays b most few g h n f = asks_less stays b most few g h f
  falls_on overflows b most few g h n f = asks_less overflows b most few g h f
  falls_on too_large b most few g h n f = asks_less too_large b most few g h f

  pub proceeds_on : (a : Asks) (q : Question) (w : Stand) (r : Answer) → IsPosed a q w → IsAwaited w r → (q ≡ begin_pass → t + 1 ≤ s) → Proceeds i from s a → Proceeds (i + 1) from t (after w r)
  proceeds_on a q w r p h n c =
      let e = subst (λ z. IsAwaited z r) p.stands h in
      subst (λ z. Proceeds (i + 1) from t (after z r)) (sym p.stands)
      (falls_on a (after (behind a) r) c.most c.few c.small c.room (λ z. n (let y : Some q ≡ Some begin_pass = sym p.question ∙ z in cc)) (paced_next c.most c.few a r e c.paced))

pub proceeds_first : (s : ℕ) (a : Asks) → IsBounded a → Proceeds 0 s s a
proceeds_first s a h = record { most = h.most; few = h.most; small = h.small; paced = h.paced; room = omega arith }

pub proceeds_ends : (i from s : ℕ) (a : Asks) → from < 2 ^ 64 → Proceeds i from s a → i < 2 ^ 128 - 1
proceeds_ends i from s a l h = no_room i h.few h.most s from h.small l h.room

pub row_bounded : (x : Name) (f : Row) (es : List Stamped) (s : Stand) → row_of x ≡ Some f → s ≡ starts (f (map plain es)) → length es + 5 ≤ 2 ^ 64 → IsBounded (after s start)
row_bounded x f es s e q l =
    subst (λ z. IsBounded (after z start)) (sym q) (record { most = length (map plain es) + 3; small = omega (arith, l, length-map es plain); paced = row_paced x f (map plain es) e })

-- ---- a row by its name

-- a cursor that was started stands before the row of its name
pub started : (es : List Tree) (c : Cursor) (o : Option Row) → option_map stand (Some c) ≡ option_map (λ (f : Row). starts (f es)) o → (f : Row) × (o ≡ Some f) × (stand c ≡ starts (f es))
started es c None e = absurd (let z : Some (stand c) ≡ None = e in cc)
started es c (Some f) e = (f, refl, (let z : Some (stand c) ≡ Some (starts (f es)) = e in cc))

unprotected_or : Name → Asks → Bool → Prog (Option Tree)
unprotected_or x row p = elim p [ true ↦ prog.unchanged | false ↦ finished (Some x) row ]

-- a look comes before what is tested
look_first : (x : Name) (f : Bool → Prog (Option Tree)) → sized_row (is_protected x >>= f) ≡ (is_protected x >>= λ p. sized_row (f p))
unfolding is_protected entry_of ◌>>=◌
look_first x f = refl

module _ (x : Name) (row : Asks) (k k1 : Evaluator) (p : Bool) (h : Plays (is_protected x) k (Ok p) k1 false) where
  pub protected_row : p ≡ true → Played found_tree (sized_row (iterated (Some x) row)) k (Ok None) k1
  unfolding unprotected_or
  protected_row e = (row_plays (iterated (Some x) row) k k1 None tt (plays_bind (is_protected x) (unprotected_or x row) h (subst (λ b. Plays (unprotected_or x row b) k1 (Ok None) k1 false) (sym e) plays_done)), tt)

  pub unprotected_row : (r : Result (Option Stamped) Stop) (k2 : Evaluator) → p ≡ false → Played found_tree (sized_row (finished (Some x) row)) k1 r k2 → Played found_tree (sized_row (iterated (Some x) row)) k r k2
  unfolding unprotected_or
  unprotected_row r k2 e m =
      subst (λ q. Played found_tree q k r k2) (sym (look_first x (unprotected_or x row)))
      (played_bind found_tree (is_protected x) (λ b. sized_row (unprotected_or x row b)) k k1 p r k2 h (subst (λ b. Played found_tree (sized_row (unprotected_or x row b)) k1 r k2) (sym e) m))

-- ---- the loop's start, and where nothing has changed

-- what waits for its first call starts a row
pub starts_row : (s : Stand) → IsAwaited s start → (row : Asks) × (s ≡ starts row)
starts_row (starts a) h = (a, refl)
starts_row (for_value f) h = absurd h
starts_row (for_end f) h = absurd h
starts_row (for_match f) h = absurd h
starts_row (for_leave f) h = absurd h
starts_row over h = absurd h

pub none_taken : (k : Evaluator) (x : Option Name) (t : Option Taken) → t ≡ None → AreTaken k x t
none_taken k None t e = tt
none_taken k (Some x) t e = subst (AreTaken k (Some x)) (sym e) tt

-- ---- exits

module _ {X : Type 0} (r : Result X Stop) (e : Stop) (h : IsErrAnd r (λ d. d ≡ e)) where
  exit_is : r ≡ Err e
  exit_is = let q = err_from_is_err_and r h in q.1 ∙ ap Err q.2

  pub ready_exit : {P : Type 0} → (is_memory e ≡ false → P) → stops_by_memory r ≡ false → P
  ready_exit m n = m (sym (ap stops_by_memory exit_is) ∙ n)

pub finishes_exit : (x : Option Name) (row : Asks) (k k1 : Evaluator) (t : Option Taken) (r : Result (Option Stamped) Stop) (e : Stop) → IsErrAnd r (λ d. d ≡ e) → Finishes x row k (Err e) k1 t → Finishes x row k r k1 t
finishes_exit x row k k1 t r e h m = subst (λ z. Finishes x row k z k1 t) (sym (exit_is r e h)) m

pub comes_exit : (x : Option Name) (row : Asks) (k k1 : Evaluator) (s : Stand) (t : Option Taken) (r : Result Outcome Stop) (e : Stop) → IsErrAnd r (λ d. d ≡ e) → Finishes x row k (Err e) k1 t → Comes x row k s r k1 t
comes_exit x row k k1 s t r e h m = subst (λ z. Comes x row k s z k1 t) (sym (exit_is r e h)) m

-- ---- a value for the iterator's name

-- without a name nothing is set
pub set_nothing : (x : Option Name) (t : Option Taken) (v : Tree) (k : Evaluator) → x ≡ None → Plays (set_iterator x v (set_aside x t)) k (Ok (set_aside x t)) k false
set_nothing x t v k e = subst (λ z. Plays (set_iterator z v (set_aside z t)) k (Ok (set_aside z t)) k false) (sym e) plays_done

pub set_named : (x : Option Name) (y : Name) (t n : Option Taken) (v : Tree) (k k1 : Evaluator) → x ≡ Some y → Plays (set_iterator (Some y) v (set_aside (Some y) t)) k (Ok (set_aside (Some y) n)) k1 false → Plays (set_iterator x v (set_aside x t)) k (Ok (set_aside x n)) k1 false
set_named x y t n v k k1 e h = subst (λ z. Plays (set_iterator z v (set_aside z t)) k (Ok (set_aside z n)) k1 false) (sym e) h

-- what is set aside after it
pub ready_set : (x : Option Name) (y : Name) (n : Option Taken) (k k1 : Evaluator) {R : Type 0} {p : Prog R} {r : Result R End} {o : Bool} → x ≡ Some y → Sound k → Plays p k r k1 o → AreTaken k1 (Some y) n → Ready x k k1 n
ready_set x y n k k1 e s h w = record { sound = h.sound s; taken = subst (λ z. AreTaken k1 z n) (sym e) w; grows = h.grows }

-- ---- a refusal by a row

pub refused_by : (a : Asks) (f : ExprFault) (k k1 : Evaluator) (d e : Stop) → (f ≡ fault.Large → IsTooLarge a) → FaultStops f k d k1 → d ≡ e → IsRefused a k e k1
refused_by a fault.Memory k k1 d e h s q n = absurd (true≢false (sym (ap is_memory (sym q ∙ s)) ∙ n))
refused_by a fault.Large k k1 d e h s q n = (h refl, subst (λ z. TooLarge k z k1) q s)
