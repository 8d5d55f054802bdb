use Rattle.std.proofs.Common.{Ok, Some, None, false, sym, ◌∙◌, subst, arith}
use Rattle.std.proofs.lemmas.Result.{err_from_is_err_and}
use Rattle.wl_expr.specs.Stamped.{plain}
use Rattle.wl_match.specs.Left.{left, binding}
use Rattle.wl_state.specs.Played.{Plays, Played, itself}
use Rattle.wl_state.specs.Searching.{next_binding}
use Rattle.wl_state.proofs.Bindings.{next_none, next_fail, next_is}
use Rattle.wl_state.proofs.Playing.{plays_bind, plays_done}
use Rattle.wl_state.proofs.Rows.{leads_played, played_exit}
use Rattle.wl_state.proofs.Ticking.{ticked}
use Rattle.wl_state.proofs.evaluator.Evaluator.next_candidate.Goals as goal

pub returns-in-End-clause-played : goal.returns-in-End-clause-played
returns-in-End-clause-played g c =
    let ls = left c.args.pattern.now (plain c.args.e.now) c.leaves.machine in
    (c.leaves.invariant.leads _ _ _ (subst (λ z. Plays z c.leaves.self (Ok None) c.leaves.self false) (sym (next_none ls (rw c.in-End.is at c.in_ok-leaf.ensures.leaf).0)) plays_done), tt)

pub leaves-preserved : goal.leaves-preserved
leaves-preserved g c =
    let ss = c.args.pattern.now in
    let t = plain c.args.e.now in
    let l = c.leaves in
    record {
      leads = λ r k2 o h. l.invariant.leads r k2 o (subst (λ z. Plays z l.self r k2 o)
          (sym (next_fail (left ss t l.machine) (left ss t c.next.new.self) (rw c.in-Fail.is at c.in_ok-leaf.ensures.leaf)))
          (plays_bind _ _ c.in_ok-take_step-in-Fail.ensures.played.0 h));
      searches = c.next.ensures.searches l.invariant.searches;
      falls = omega arith;
      ticks = ticked 1 _ _ c.next.ensures.ticks ∙ l.invariant.ticks;
    }

pub returns-in_err-take_step-in-Fail-clause-played : goal.returns-in_err-take_step-in-Fail-clause-played
returns-in_err-take_step-in-Fail-clause-played g c =
    let ss = c.args.pattern.now in
    let t = plain c.args.e.now in
    let l = c.leaves in
    let seen = next_binding ss t c.next.new.self in
    let p = err_from_is_err_and c.from_residual-in_err-take_step-in-Fail.result c.from_residual-in_err-take_step-in-Fail.ensures.1 in
    leads_played seen _ _ _ _ _ _ l.invariant.leads (subst (λ z. Played seen z l.self c.from_residual-in_err-take_step-in-Fail.result c.take_step.new.self)
    (sym (next_fail (left ss t l.machine) (left ss t c.next.new.self) (rw c.in-Fail.is at c.in_ok-leaf.ensures.leaf)))
    (played_exit itself seen _ _ _ _ _ _ _ p.1 p.2 c.in_err-take_step-in-Fail.ensures.played))

pub returns-in_err-take_step-in-Candidate-clause-played : goal.returns-in_err-take_step-in-Candidate-clause-played
returns-in_err-take_step-in-Candidate-clause-played g c =
    let ss = c.args.pattern.now in
    let t = plain c.args.e.now in
    let l = c.leaves in
    let m = c.next.new.self in
    let seen = next_binding ss t m in
    let p = err_from_is_err_and c.from_residual-in_err-take_step-in-Candidate.result c.from_residual-in_err-take_step-in-Candidate.ensures.1 in
    leads_played seen _ _ _ _ _ _ l.invariant.leads (subst (λ z. Played seen z l.self c.from_residual-in_err-take_step-in-Candidate.result c.take_step-in-Candidate.new.self)
    (sym (next_is (left ss t l.machine) (left ss t m) (binding ss t m) (rw c.in-Candidate.is at c.in_ok-leaf.ensures.leaf)))
    (played_exit itself seen _ _ _ _ _ _ _ p.1 p.2 c.in_err-take_step-in-Candidate.ensures.played))

pub returns-in-Candidate-clause-played : goal.returns-in-Candidate-clause-played
returns-in-Candidate-clause-played g c =
    let ss = c.args.pattern.now in
    let t = plain c.args.e.now in
    let l = c.leaves in
    let m = c.next.new.self in (
      l.invariant.leads _ _ _ (subst (λ z. Plays z l.self (Ok (Some (binding ss t m, left ss t m))) c.take_step-in-Candidate.new.self false)
          (sym (next_is (left ss t l.machine) (left ss t m) (binding ss t m) (rw c.in-Candidate.is at c.in_ok-leaf.ensures.leaf)))
          (plays_bind _ _ c.in_ok-take_step-in-Candidate.ensures.played.0 plays_done)),
      tt,
    )

pub returns-in_err-leaf-clause-ticks : goal.returns-in_err-leaf-clause-ticks
returns-in_err-leaf-clause-ticks g c = ticked 1 _ _ c.next.ensures.ticks ∙ c.leaves.invariant.ticks

pub returns-in-End-clause-ticks : goal.returns-in-End-clause-ticks
returns-in-End-clause-ticks g c = ticked 1 _ _ c.next.ensures.ticks ∙ c.leaves.invariant.ticks

pub returns-in_err-take_step-in-Fail-clause-ticks : goal.returns-in_err-take_step-in-Fail-clause-ticks
returns-in_err-take_step-in-Fail-clause-ticks g c = ticked 1 _ _ c.next.ensures.ticks ∙ c.leaves.invariant.ticks

pub returns-in_err-take_step-in-Candidate-clause-ticks : goal.returns-in_err-take_step-in-Candidate-clause-ticks
returns-in_err-take_step-in-Candidate-clause-ticks g c = ticked 1 _ _ c.next.ensures.ticks ∙ c.leaves.invariant.ticks

pub returns-in-Candidate-clause-ticks : goal.returns-in-Candidate-clause-ticks
returns-in-Candidate-clause-ticks g c = ticked 1 _ _ c.next.ensures.ticks ∙ c.leaves.invariant.ticks
