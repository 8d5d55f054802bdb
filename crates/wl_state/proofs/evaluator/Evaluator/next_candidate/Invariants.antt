use Rattle.std.proofs.Common.{◌≡◌, ◌≤◌}
use Rattle.wl_expr.specs.Stamped.{plain}
use Rattle.wl_match.specs.Left.{Searches, left}
use Rattle.wl_state.specs.Played.{Leads}
use Rattle.wl_state.specs.Searching.{next_found}
use Rattle.wl_state.specs.Marks.{at_last_mark}
use Rattle.wl_state.proofs.evaluator.Evaluator.next_candidate.Given as goal

abbrev pub invariant-leaves : goal.invariant-leaves
invariant-leaves g l = record {
  leads : Leads (next_found (left l.pattern (plain l.e) l.fn.machine)) l.fn.self (next_found (left l.pattern (plain l.e) l.machine)) l.self;
  searches : Searches l.pattern (plain l.e) l.machine;
  falls : l.self.steps ≤ l.fn.self.steps;
  ticks : at_last_mark l.work ≡ at_last_mark l.fn.work;
}

abbrev pub decreases-leaves : goal.decreases-leaves
decreases-leaves g l = l.self.steps
