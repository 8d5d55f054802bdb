use Rattle.std.proofs.Common.{◌≡◌, drop}
use Rattle.wl_state.specs.LocalNames.{AreFree, AreLocals, locals_in}
use Rattle.wl_state.specs.Played.{Leads, Sound}
use Rattle.wl_semantics.specs.Scoping as scoping
use Rattle.wl_state.proofs.evaluator.Evaluator.set_all.Given as goal

abbrev pub invariant-loop-i : goal.invariant-loop-i
invariant-loop-i l = record {
  leads : Leads (scoping.set_all (locals_in l.locals)) l.fn.self (scoping.set_all (locals_in (drop l.i l.locals))) l.self;
  sound : Sound l.self;
  locals : AreLocals l.self.store l.locals;
  free : AreFree l.self l.locals;
  kept : l.self.steps ≡ l.fn.self.steps;
}
