-- What is held for a time, over evaluators: a program whose end is caught, and what is given back however the inside ended.
use Rattle.std.proofs.Common.{◌≡◌, max, Bool, false, ◌||◌, [], ◌∷◌, ◌++◌, Result, Ok, Err, refl, sym, ap, ◌∙◌, subst}
use Rattle.wl_semantics.specs.State.{State, End}
use Rattle.wl_semantics.specs.Prog.{Prog, done, stop, look, eval, step, act, ended, now, ◌>>=◌}
use Rattle.wl_semantics.specs.Effects.{acted}
use Rattle.wl_semantics.specs.Eval.{Record, ◌then◌, reading, acting, Evaluator, asked, took, interp, Eval, Go}
use Rattle.wl_semantics.specs.Local.{is_budget}
use Rattle.wl_state.specs.Played.{Plays, Played, Seen, state}
use Rattle.wl_state.specs.declared.evaluator.Evaluator as evaluators
use Rattle.wl_state.specs.declared.ends.Stop.{Stop}
use Rattle.wl_state.specs.declared.ends.Stop.TheVariants as stops
use Rattle.wl_semantics.proofs.Caught.{ended-same}
use Rattle.wl_state.proofs.Playing.{notes_alike, plays_bind, plays_now}
use Rattle.wl_state.proofs.Rows.{later, option_later}

-- two records that are alike but for the budget's end
pub record Alike (a b : Record) : Type 0 where
  pub names : a.names ≡ b.names
  pub effect : a.effect ≡ b.effect
  pub depth : a.depth ≡ b.depth
  pub turns : a.turns ≡ b.turns

alike_then : (d a b : Record) → Alike a b → Alike (d then a) (d then b)
alike_then d a b h = record { names = ap (λ z. d.names ++ z) h.names; effect = ap (λ z. d.effect || z) h.effect; depth = ap (λ z. max d.depth z) h.depth; turns = ap (λ z. max d.turns z) h.turns }

ended-alike : {R : Type 0} (ev : Evaluator) (p : Prog R) (s : State) → Alike (interp ev p s).did (interp ev (ended p) s).did
unfolding interp ended
ended-alike ev (done r) s = record { names = refl; effect = refl; depth = refl; turns = refl }
ended-alike ev (stop e) s = record { names = refl; effect = refl; depth = refl; turns = refl }
ended-alike ev (look n k) s = alike_then (reading (n ∷ [])) _ _ (ended-alike ev (k (s.world.definitions n)) s)
ended-alike ev (eval q t k) s = let a = asked ev q t s in alike_then a.did _ _ (ended-alike ev (k a.result.0 a.result.1) a.state)
ended-alike ev (step k) s = let a = took s in alike_then a.did _ _ (ended-alike ev (k a.result) a.state)
ended-alike ev (act w k) s = let a = acted w s.world in alike_then (acting w) _ _ (ended-alike ev (k a.0) (record s { world = a.1 }))

-- a program whose end is caught; q says whether its record still tells of a budget's end
pub plays_ended : {R : Type 0} (p : Prog R) {k k1 : evaluators.Evaluator} {r : Result R End} {o : Bool} → Plays p k r k1 o → (q : Bool) × Plays (ended p) k (Ok r) k1 q × ((q || is_budget r) ≡ o)
plays_ended p {k} {k1} h =
    let e = ended-same Eval p (state k) in
    let a = ended-alike Eval p (state k) in (
      (Go (ended p) (state k)).did.out,
      record {
        ends = e.result ∙ ap Ok h.ends;
        leaves = e.state ∙ h.leaves;
        out = refl;
        notes = notes_alike k k1 _ _ a.names a.effect a.depth a.turns h.notes;
        grows = h.grows;
        sound = h.sound;
      },
      ap (λ x. (Go (ended p) (state k)).did.out || is_budget x) (sym h.ends) ∙ e.out ∙ h.out,
    )

-- the inside, what gives back, and then the inside's result or end
pub held_plays : {R : Type 0} (p : Prog R) (back : Prog (Unit {0})) {k k1 k2 : evaluators.Evaluator} {r : Result R End} {o : Bool} → Plays p k r k1 o → Plays back k1 (Ok tt) k2 false → Plays (ended p >>= λ q. back >>= λ _. now q) k r k2 o
held_plays p back {k} {k1} {k2} {r} {o} h m =
    let e = plays_ended p h in
    subst (λ b. Plays (ended p >>= λ q. back >>= λ _. now q) k r k2 b) e.2 (plays_bind (ended p) (λ q. back >>= λ _. now q) e.1 (plays_bind back (λ _. now r) m (plays_now r k2)))

-- the same of what the function returned, where what is given back keeps a result good
pub held_played : {X R : Type 0} (seen : Seen X R) (p : Prog R) (back : Prog (Unit {0})) (k k1 k2 : evaluators.Evaluator) (r : Result X Stop) → ((x : X) → seen.good k1 x → seen.good k2 x) → Played seen p k r k1 → Plays back k1 (Ok tt) k2 false
    → Played seen (ended p >>= λ q. back >>= λ _. now q) k r k2
held_played seen p back k k1 k2 (Ok x) g h m = (held_plays p back h.0 m, g x h.1)
held_played seen p back k k1 k2 (Err stops.Memory) g h m = tt
held_played seen p back k k1 k2 (Err (stops.Thrown v t)) g h m = (held_plays p back h.0 m, (later m v h.1.0, option_later m t h.1.1))
held_played seen p back k k1 k2 (Err stops.Aborted) g h m = (held_plays p back h.0 m, tt)
held_played seen p back k k1 k2 (Err stops.BudgetEnded) g h m = (held_plays p back h.0 m, tt)
held_played seen p back k k1 k2 (Err stops.Broke) g h m = (held_plays p back h.0 m, tt)
held_played seen p back k k1 k2 (Err stops.Continued) g h m = (held_plays p back h.0 m, tt)
