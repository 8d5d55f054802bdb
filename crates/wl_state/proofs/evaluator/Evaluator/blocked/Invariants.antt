use Rattle.std.proofs.Common.{◌≡◌, [], drop}
use Rattle.wl_state.specs.LocalNames.{AreFree, AreLocals, locals_in}
use Rattle.wl_state.specs.Played.{Leads, Sound}
use Rattle.wl_semantics.specs.Scoping as scoping
use Rattle.wl_state.specs.Marks.{at_last_mark}
use Rattle.wl_state.proofs.evaluator.Evaluator.blocked.Given as goal

abbrev pub invariant-loop-i : goal.invariant-loop-i
invariant-loop-i g l = record {
  leads : Leads (scoping.blocked [] (locals_in l.locals)) l.fn.self (scoping.blocked (locals_in l.others.items) (locals_in (drop l.i l.locals))) l.self;
  sound : Sound l.self;
  locals : AreLocals l.self.store l.locals;
  others : AreLocals l.self.store l.others.items;
  free : AreFree l.self l.others.items;
  kept : l.self.steps ≡ l.fn.self.steps;
  ticks : at_last_mark l.work ≡ at_last_mark l.fn.work;
}
