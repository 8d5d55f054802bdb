use Rattle.std.proofs.Common.{◌≡◌, List, map, drop}
use Rattle.std.specs.List.{All}
use Rattle.wl_expr.specs.Passed.{IsFrom}
use Rattle.wl_expr.specs.Stamped.{Stamped, plain}
use Rattle.wl_rules.specs.StampedRules.{plain_rule}
use Rattle.wl_semantics.specs.MatchRows as rows
use Rattle.wl_state.specs.Replacing.{IsRuleFrom}
use Rattle.wl_state.proofs.ReadRules.{with_rules}
use Rattle.wl_state.proofs.rules_in.rules_of.Given as goal

abbrev pub invariant-loop-i : goal.invariant-loop-i
invariant-loop-i l = record {
  rules : rows.rules_of (map plain l.parts) ≡ with_rules (map plain_rule l.rules.items) (rows.rules_of (map plain (drop l.i l.parts)));
  passed : (ms : List Stamped) → All (IsFrom ms) l.parts → All (IsRuleFrom ms) l.rules.items;
}
