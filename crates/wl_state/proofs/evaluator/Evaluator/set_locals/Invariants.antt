use Rattle.std.proofs.Common.{◌≡◌, drop}
use Rattle.wl_state.specs.LocalNames.{AreLocals, locals_in}
use Rattle.wl_state.specs.Played.{Leads, Sound}
use Rattle.wl_semantics.specs.Scoping as scoping
use Rattle.wl_state.specs.Marks.{at_last_mark}
use Rattle.wl_state.proofs.evaluator.Evaluator.set_locals.Given as goal

abbrev pub invariant-loop-i : goal.invariant-loop-i
invariant-loop-i g l = record {
  leads : Leads (scoping.set_locals l.n (locals_in l.locals)) l.fn.self (scoping.set_locals l.n (locals_in (drop l.i l.locals))) l.self;
  sound : Sound l.self;
  locals : AreLocals l.self.store l.locals;
  kept : l.self.steps ≡ l.fn.self.steps;
  ticks : at_last_mark l.work ≡ at_last_mark l.fn.work;
}
