use Rattle.std.proofs.Common.{rules, of_calls}
use Rattle.std.proofs.lemmas.List.Sorted.{IsPartitionPoint-from_clause}
use Rattle.wl_rules.specs.StampedRules.{is_upto}
use Rattle.wl_rules.proofs.Places.{in_order_is_partitioned}
use Rattle.wl_rules.proofs.rule_set.place_by_key.Goals as goal

pub returns-clause-place : goal.returns-clause-place
returns-clause-place c =
    IsPartitionPoint-from_clause (is_upto c.args.key.now) c.args.rules.now c.partition_point.result c.partition_point.ensures.partitioned (in_order_is_partitioned c.args.key.now c.args.rules.now c.requires)
    (λ a r f q. search (rules, of_calls))
