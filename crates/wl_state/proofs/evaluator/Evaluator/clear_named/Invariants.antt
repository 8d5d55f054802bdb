use Rattle.std.proofs.Common.{◌≡◌, drop}
use Rattle.wl_semantics.specs.EntryRows as rows
use Rattle.wl_state.specs.Operands.{names_among}
use Rattle.wl_state.specs.Played.{Leads, Sound, trees}
use Rattle.wl_state.specs.Marks.{at_last_mark}
use Rattle.wl_state.proofs.evaluator.Evaluator.clear_named.Given as goal

abbrev pub invariant-loop-i : goal.invariant-loop-i
invariant-loop-i g l = record {
  leads : Leads (rows.clear_each l.all (names_among (trees l.args))) l.fn.self (rows.clear_each l.all (names_among (trees (drop l.i l.args)))) l.self;
  sound : Sound l.self;
  kept : l.self.steps ≡ l.fn.self.steps;
  ticks : at_last_mark l.work ≡ at_last_mark l.fn.work;
}
