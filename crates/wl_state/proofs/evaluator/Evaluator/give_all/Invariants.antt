use Rattle.std.proofs.Common.{◌≡◌, length, map, reverse}
use Rattle.wl_state.specs.LocalNames.{AreHeld, held_in}
use Rattle.wl_state.specs.Played.{Leads, Sound}
use Rattle.wl_semantics.specs.Scoping as scoping
use Rattle.wl_state.proofs.evaluator.Evaluator.give_all.Given as goal

abbrev pub invariant-names : goal.invariant-names
invariant-names l = record {
  leads : Leads (scoping.give_all (reverse (map held_in l.fn.held.items))) l.fn.self (scoping.give_all (reverse (map held_in l.left.items))) l.self;
  sound : Sound l.self;
  held : AreHeld l.self l.left.items;
  kept : l.self.steps ≡ l.fn.self.steps;
}

abbrev pub decreases-names : goal.decreases-names
decreases-names l = length l.left.items
