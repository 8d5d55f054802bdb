use Rattle.std.proofs.Common.{◌≡◌, false, drop}
use Rattle.wl_assign.specs.Tags.{tags}
use Rattle.wl_expr.specs.Stamped.{plain}
use Rattle.wl_semantics.specs.Definitions as definitions
use Rattle.wl_state.specs.Operands.{left_side}
use Rattle.wl_state.specs.Played.{Honest, Leads, Sound}
use Rattle.wl_state.specs.Marks.{at_last_mark}
use Rattle.wl_state.proofs.evaluator.Evaluator.define_tags.Given as goal

abbrev pub invariant-loop-k : goal.invariant-loop-k
invariant-loop-k g l = record {
  leads : Leads (definitions.define_tags (left_side (plain l.left) (plain l.core)) (plain l.body) (plain l.value) false (tags (plain l.core))) l.fn.self
      (definitions.define_tags (left_side (plain l.left) (plain l.core)) (plain l.body) (plain l.value) l.refused (drop l.k (tags (plain l.core)))) l.self;
  sound : Sound l.self;
  left : Honest l.self l.left;
  body : Honest l.self l.body;
  kept : l.self.steps ≡ l.fn.self.steps;
  ticks : at_last_mark l.work ≡ at_last_mark l.fn.work;
}
