use Rattle.std.proofs.Common.{◌≡◌, [], map, drop}
use Rattle.wl_state.specs.LocalNames.{AreFree, AreHeld, held_in, locals_in}
use Rattle.wl_state.specs.Played.{Leads, Sound}
use Rattle.wl_semantics.specs.Scoping as scoping
use Rattle.wl_state.proofs.evaluator.Evaluator.take_all.Given as goal

abbrev pub invariant-loop-i : goal.invariant-loop-i
invariant-loop-i l = record {
  leads : Leads (scoping.take_all [] (locals_in l.locals)) l.fn.self (scoping.take_all (map held_in l.held.items) (locals_in (drop l.i l.locals))) l.self;
  sound : Sound l.self;
  held : AreHeld l.self l.held.items;
  free : AreFree l.self l.locals;
  kept : l.self.steps ≡ l.fn.self.steps;
}
