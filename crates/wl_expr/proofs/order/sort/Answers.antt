use Rattle.std.proofs.Common.{◌≡◌, ◌∙◌, List, map, ap, rules, subst}
use Rattle.std.proofs.lemmas.List.Sorted.{answers_always, IsPermutation-map}
use Rattle.std.specs.Ordering.{is_lt}
use Rattle.wl_expr.specs.Order.{canonical_order}
use Rattle.wl_expr.specs.Proper.{IsProper, AllProper}
use Rattle.wl_expr.specs.Stamped.{Stamped, plain}
use Rattle.wl_expr.proofs.Sorting.{sort_order, sort_order_is_weak, before_is_sort_order, sorted_by_order}
use Rattle.wl_expr.proofs.order.sort.Goals as goal

pub returns-clause-sorted : goal.returns-clause-sorted
returns-clause-sorted c =
    let proper = subst (λ (xs : List Stamped). AllProper (map plain xs)) c.as_slice.ensures.value c.look_at.ensures in
    let up = c.in_ok-sort_by.ensures.sorted sort_order sort_order_is_weak (answers_always _ _ _ (λ f a r g h.
    let value : r ≡ canonical_order (plain a.0.now) (plain a.1.0.now) = search rules in
    let left : IsProper (plain a.0.now) = search rules in
    let right : IsProper (plain a.1.0.now) = search rules in
    ap is_lt value ∙ before_is_sort_order a.0.now a.1.0.now left right)) in
    sorted_by_order c.args.args.now.items c.sort_by.new.self.items proper (IsPermutation-map plain _ _ c.sort_by.ensures.permutation) up
