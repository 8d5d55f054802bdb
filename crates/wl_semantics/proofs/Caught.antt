-- A program whose end is caught plays as it does alone; its end is then a result.
use Rattle.std.proofs.Common.{◌≡◌, Bool, true, false, ◌||◌, Result, Ok, refl, sym, ap, ◌∙◌}
use Rattle.wl_semantics.specs.State.{State, End}
use Rattle.wl_semantics.specs.Prog.{Prog, done, stop, look, eval, step, act, ended}
use Rattle.wl_semantics.specs.Effects.{acted}
use Rattle.wl_semantics.specs.Eval.{Res, Evaluator, asked, took, interp, Eval, Go}
use Rattle.wl_semantics.specs.Local.{Plays, is_budget}

or_assoc : (a b c : Bool) → ((a || b) || c) ≡ (a || (b || c))
or_assoc true b c = refl
or_assoc false b c = refl

pub record Same {R : Type 0} (a : Res (Result R End)) (b : Res (Result (Result R End) End)) : Type 0 where
  pub result : b.result ≡ Ok a.result
  pub state : b.state ≡ a.state
  pub out : (b.did.out || is_budget a.result) ≡ a.did.out

pub ended-same : {R : Type 0} (ev : Evaluator) (p : Prog R) (s : State) → Same (interp ev p s) (interp ev (ended p) s)
unfolding interp ended
ended-same ev (done r) s = record { result = refl; state = refl; out = refl }
ended-same ev (stop e) s = record { result = refl; state = refl; out = refl }
ended-same ev (look n k) s =
    let h = ended-same ev (k (s.world.definitions n)) s in
    record { result = h.result; state = h.state; out = h.out }
ended-same ev (eval q t k) s =
    let a = asked ev q t s in
    let h = ended-same ev (k a.result.0 a.result.1) a.state in
    record { result = h.result; state = h.state; out = or_assoc a.did.out _ _ ∙ ap (λ b. a.did.out || b) h.out }
ended-same ev (step k) s =
    let a = took s in
    let h = ended-same ev (k a.result) a.state in
    record { result = h.result; state = h.state; out = or_assoc a.did.out _ _ ∙ ap (λ b. a.did.out || b) h.out }
ended-same ev (act w k) s =
    let a = acted w s.world in
    let h = ended-same ev (k a.0) (record s { world = a.1 }) in
    record { result = h.result; state = h.state; out = h.out }

-- what is held for a time is given back after this
pub plays_ended : {R : Type 0} (p : Prog R) {s s1 : State} {r : Result R End} {o : Bool} → Plays p s r s1 o →
    (q : Bool) × Plays (ended p) s (Ok r) s1 q × ((q || is_budget r) ≡ o)
plays_ended p {s} h =
    let e = ended-same Eval p s in (
      (Go (ended p) s).did.out,
      record { result = e.result ∙ ap Ok h.result; state = e.state ∙ h.state; out = refl },
      ap (λ x. (Go (ended p) s).did.out || is_budget x) (sym h.result) ∙ e.out ∙ h.out,
    )
