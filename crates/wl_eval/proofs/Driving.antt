-- One question of a row of loops and branches after the other, over evaluators: what the driver's loop cites.
use Rattle.std.proofs.Common.{◌≡◌, Bool, true, false, ◌||◌, Option, None, option_map, Result, Ok, Err, refl, sym, ap, ◌∙◌, subst, true≢false}
use Rattle.wl_control.specs.Asks.{Asks, eval, eval_catching, matches, let_be, pass, Caught}
use Rattle.wl_expr.specs.Stamped.{plain}
use Rattle.wl_expr.specs.Tree.{Tree}
use Rattle.wl_expr.specs.Words.{Name}
use Rattle.wl_semantics.specs.State as spec
use Rattle.wl_semantics.specs.State.{End}
use Rattle.wl_semantics.specs.Prog.{Prog, ◌>>=◌, ended, now, value_of_built, tick}
use Rattle.wl_semantics.specs.Match as match
use Rattle.wl_semantics.specs.Scoping.{Taken}
use Rattle.wl_semantics.specs.Control.{Stood, stood, played, end_of_built, set_iterator, give_back_taken, finished}
use Rattle.wl_semantics.specs.Local.{is_budget}
use Rattle.wl_state.specs.Played.{Plays, Leads, Played, Seen}
use Rattle.wl_state.specs.declared.evaluator.Evaluator.{Evaluator}
use Rattle.wl_state.specs.declared.ends.Stop.{Stop}
use Rattle.wl_state.specs.declared.ends.Stop.TheVariants as stops
use Rattle.wl_semantics.proofs.Bind.{or_none}
use Rattle.wl_state.proofs.Holding.{plays_ended}
use Rattle.wl_state.proofs.Playing.{plays_bind, plays_done, plays_now}
use Rattle.wl_state.proofs.Rows.{later, option_later}

no_or : (a b : Bool) → (a || false) ≡ false → (a || b) ≡ b
no_or true b e = absurd (true≢false e)
no_or false b e = refl

-- a part that is caught gives its result, and what follows leads on
pub caught_leads : {A : Type 0} (p : Prog A) (f : Result A End → Prog Stood) {k k1 : Evaluator} (a : A) → Plays p k (Ok a) k1 false → Leads (ended p >>= f) k (f (Ok a)) k1
caught_leads p f {k} a h r k2 o m =
    let e = plays_ended p h in
    subst (λ b. Plays (ended p >>= f) k r k2 b) (no_or e.0 o e.2) (plays_bind (ended p) f e.1 m)

module _ (x : Option Name) (t : Option Taken) {k k1 : Evaluator} where
  pub drive_eval : (u : Tree) (f : Tree → Asks) (v : Tree) → Plays (value_of_built u) k (Ok v) k1 false → Leads (played x t (eval u f)) k (played x t (f v)) k1
  unfolding played
  drive_eval u f v h = caught_leads (value_of_built u) (λ r. elim r [ Ok w ↦ played x t (f w) | Err e ↦ stood t (Err e) ]) v h

  pub drive_catching : (u : Tree) (f : Caught → Asks) (c : Caught) → Plays (end_of_built u) k (Ok c) k1 false → Leads (played x t (eval_catching u f)) k (played x t (f c)) k1
  unfolding played
  drive_catching u f c h = caught_leads (end_of_built u) (λ r. elim r [ Ok w ↦ played x t (f w) | Err e ↦ stood t (Err e) ]) c h

  pub drive_matches : (u p : Tree) (f : Bool → Asks) (b : Bool) → Plays (match.matches p u) k (Ok b) k1 false → Leads (played x t (matches u p f)) k (played x t (f b)) k1
  unfolding played
  drive_matches u p f b h = caught_leads (match.matches p u) (λ r. elim r [ Ok w ↦ played x t (f w) | Err e ↦ stood t (Err e) ]) b h

  pub drive_pass : (f : Unit {0} → Asks) → Plays tick k (Ok tt) k1 false → Leads (played x t (pass f)) k (played x t (f tt)) k1
  unfolding played
  drive_pass f h = caught_leads tick (λ r. elim r [ Ok w ↦ played x t (f w) | Err e ↦ stood t (Err e) ]) tt h

  pub drive_let : (n : Option Taken) (v : Tree) (f : Unit {0} → Asks) → Plays (set_iterator x v t) k (Ok n) k1 false → Leads (played x t (let_be v f)) k (played x n (f tt)) k1
  unfolding played
  drive_let n v f h r k2 o m = plays_bind (set_iterator x v t) (λ w. played x w (f tt)) h m

-- the end: what was taken out is given back, and then the row's answer
pub finished_plays : (x : Option Name) (row : Asks) {k k1 k2 : Evaluator} (st : Stood) {b : Bool} → Plays (played x None row) k (Ok st) k1 b → Plays (give_back_taken st.taken) k1 (Ok tt) k2 false → Plays (finished x row) k st.answer k2 (b || is_budget st.answer)
finished_plays x row {k2 = k2} st h m = plays_bind (played x None row) (λ z. give_back_taken z.taken >>= λ _. now z.answer) h (plays_bind (give_back_taken st.taken) (λ _. now st.answer) m (plays_now st.answer k2))

-- a row that comes to its answer
pub finished_answers : (x : Option Name) (row : Asks) {k k1 k2 : Evaluator} (t : Option Taken) (r : Option Tree) → Leads (played x None row) k (stood t (Ok r)) k1 → Plays (give_back_taken t) k1 (Ok tt) k2 false → Plays (finished x row) k (Ok r) k2 false
finished_answers x row t r l m = finished_plays x row (record { answer = Ok r; taken = t }) (l _ _ _ plays_done) m

-- a question that ends otherwise stops the row
module _ (x : Option Name) (row : Asks) {A : Type 0} (p : Prog A) (f : Result A End → Prog Stood) (t : Option Taken) (same : (e : End) → f (Err e) ≡ stood t (Err e)) {k k1 k2 k3 : Evaluator} (l : Leads (played x None row) k (ended p >>= f) k1)
    (m : Plays (give_back_taken t) k2 (Ok tt) k3 false) where
  finished_ends : (e : End) (o : Bool) → Plays p k1 (Err e) k2 o → Plays (finished x row) k (Err e) k3 o
  finished_ends e o h =
      let c = plays_ended p h in
      let st : Stood = record { answer = Err e; taken = t } in
      let d : Plays (f (Err e)) k2 (Ok st) k2 false = subst (λ q. Plays q k2 (Ok st) k2 false) (sym (same e)) plays_done in
      subst (λ b. Plays (finished x row) k (Err e) k3 b) (ap (λ b. b || is_budget {R = Option Tree} (Err e)) (or_none c.0) ∙ c.2) (finished_plays x row st (l _ _ _ (plays_bind (ended p) f c.1 d)) m)

  pub finished_stops : {X Y : Type 0} (seen : Seen X A) (seen' : Seen Y (Option Tree)) (d : Stop) → Played seen p k1 (Err d) k2 → Played seen' (finished x row) k (Err d) k3
  finished_stops seen seen' stops.Memory h = tt
  finished_stops seen seen' (stops.Thrown v w) h = (finished_ends (spec.Thrown (plain v) (option_map plain w)) false h.0, (later m v h.1.0, option_later m w h.1.1))
  finished_stops seen seen' stops.Aborted h = (finished_ends spec.Aborted false h.0, tt)
  finished_stops seen seen' stops.BudgetEnded h = (finished_ends spec.BudgetEnded true h.0, tt)
  finished_stops seen seen' stops.Broke h = (finished_ends spec.Broke false h.0, tt)
  finished_stops seen seen' stops.Continued h = (finished_ends spec.Continued false h.0, tt)
