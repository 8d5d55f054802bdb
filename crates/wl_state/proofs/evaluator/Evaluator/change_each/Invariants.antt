use Rattle.std.proofs.Common.{◌≡◌, drop}
use Rattle.wl_semantics.specs.EntryRows as rows
use Rattle.wl_state.specs.Operands.{names_among, put_all}
use Rattle.wl_state.specs.Played.{Leads, Sound, trees}
use Rattle.wl_state.specs.Marks.{at_last_mark}
use Rattle.wl_state.proofs.evaluator.Evaluator.change_each.Given as goal

abbrev pub invariant-loop-i : goal.invariant-loop-i
invariant-loop-i g l = record {
  leads : Leads (rows.change_each (λ s. put_all l.are_in s l.attributes) (names_among (trees l.symbols))) l.fn.self (rows.change_each (λ s. put_all l.are_in s l.attributes) (names_among (trees (drop l.i l.symbols)))) l.self;
  sound : Sound l.self;
  kept : l.self.steps ≡ l.fn.self.steps;
  ticks : at_last_mark l.work ≡ at_last_mark l.fn.work;
}
