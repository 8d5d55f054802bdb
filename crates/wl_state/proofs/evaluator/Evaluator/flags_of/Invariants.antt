use Rattle.std.proofs.Common.{◌≡◌, map, take}
use Rattle.wl_expr.specs.Stamped.{plain}
use Rattle.wl_match.specs.Heads.{heads}
use Rattle.wl_rules.specs.Stored.{definitions}
use Rattle.wl_state.specs.Played.{Leads, Sound}
use Rattle.wl_state.proofs.Flagging.{flags_by, flags_from}
use Rattle.wl_state.specs.Marks.{at_last_mark}
use Rattle.wl_state.proofs.evaluator.Evaluator.flags_of.Given as goal

abbrev pub invariant-loop-k : goal.invariant-loop-k
invariant-loop-k g l = record {
  leads : Leads (flags_from (definitions l.fn.self.store) 0 (heads (plain l.pattern))) l.fn.self (flags_from (definitions l.fn.self.store) l.k (heads (plain l.pattern))) l.self;
  same : definitions l.fn.self.store ≡ definitions l.self.store;
  sound : Sound l.self;
  flags : l.flags.items ≡ map (flags_by (definitions l.fn.self.store)) (take l.k (heads (plain l.pattern)));
  kept : l.self.steps ≡ l.fn.self.steps;
  ticks : at_last_mark l.work ≡ at_last_mark l.fn.work;
}
