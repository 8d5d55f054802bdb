use Rattle.std.proofs.Common.{◌≡◌, ◌+◌, ◌*◌, List, map, take}
use Rattle.wl_expr.specs.Passed.{IsFrom}
use Rattle.wl_expr.specs.Stamped.{Stamped, plain, plains, from_list}
use Rattle.wl_expr.specs.Tree.{depth, depths}
use Rattle.wl_shape.specs.Answers.{AllFrom}
use Rattle.wl_state.specs.Played.{trees}
use Rattle.wl_semantics.specs.ScopeRows.{with_slots}
use Rattle.wl_state.specs.Slots.{new_or}
use Rattle.wl_state.proofs.function.+slots.Given as goal

abbrev pub decreases-with_slots : goal.decreases-with_slots
decreases-with_slots l = 2 * depth (plain l.e.now)

abbrev pub decreases-with_slots_in : goal.decreases-with_slots_in
decreases-with_slots_in l = 2 * depths (plains (from_list l.elements.now)) + 1

abbrev pub invariant-with_slots_in-loop-k : goal.invariant-with_slots_in-loop-k
invariant-with_slots_in-loop-k l = record {
  made : trees (new_or l.all.items (take l.k l.elements)) ≡ map (with_slots (plain l.f) (trees l.args)) (trees (take l.k l.elements));
  passed : (ms : List Stamped) → IsFrom ms l.f → AllFrom ms l.args → AllFrom ms l.elements → AllFrom ms (new_or l.all.items (take l.k l.elements));
}
