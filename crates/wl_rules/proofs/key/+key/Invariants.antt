use Rattle.std.proofs.Common.{◌≡◌, ◌+◌, ◌<◌, ◌^◌, ◌||◌, ◌*◌, max, drop}
use Rattle.wl_expr.specs.Stamped.{plain, plains, from_list}
use Rattle.wl_expr.specs.Tree.{weights, depth, depths}
use Rattle.wl_rules.specs.Key.{joined, joined_all, any_has, parts}
use Rattle.wl_rules.proofs.key.+key.Given as goal

abbrev pub invariant-put_all-loop-arg : goal.invariant-put_all-loop-arg
invariant-put_all-loop-arg l = record {
  key : joined l.key (joined_all (parts (plains (from_list (drop l.arg-index l.args))))) ≡ joined l.initial.key (joined_all (parts (plains (from_list l.args))));
  has : (l.has || any_has (parts (plains (from_list (drop l.arg-index l.args))))) ≡ any_has (parts (plains (from_list l.args)));
  room : l.key.tests + weights (plains (from_list (drop l.arg-index l.args))) < 2 ^ 64;
}

abbrev pub decreases-put_part : goal.decreases-put_part
decreases-put_part l = 8 * depth (plain l.e.now)

abbrev pub decreases-put_node : goal.decreases-put_node
decreases-put_node l = 8 * max (depth (plain l.head.now)) (depths (plains (from_list l.args.now))) + 7

abbrev pub decreases-put_ordinary : goal.decreases-put_ordinary
decreases-put_ordinary l = 8 * max (depth (plain l.head.now)) (depths (plains (from_list l.args.now))) + 6

abbrev pub decreases-put_special : goal.decreases-put_special
decreases-put_special l = 8 * depths (plains (from_list l.args.now)) + 6

abbrev pub decreases-put_tested : goal.decreases-put_tested
decreases-put_tested l = 8 * depths (plains (from_list l.args.now)) + 4

abbrev pub decreases-put_optional : goal.decreases-put_optional
decreases-put_optional l = 8 * depths (plains (from_list l.args.now)) + 4

abbrev pub decreases-put_alternatives : goal.decreases-put_alternatives
decreases-put_alternatives l = 8 * depths (plains (from_list l.args.now)) + 4

abbrev pub decreases-put_first : goal.decreases-put_first
decreases-put_first l = 8 * depths (plains (from_list l.args.now)) + 2

abbrev pub decreases-put_second : goal.decreases-put_second
decreases-put_second l = 8 * depths (plains (from_list l.args.now)) + 2

abbrev pub decreases-put_all : goal.decreases-put_all
decreases-put_all l = 8 * depths (plains (from_list l.args.now)) + 1
