use Rattle.std.proofs.Common.{refl}
use Rattle.wl_syntax.proofs.Expressions.{joined_items}
use Rattle.wl_syntax.proofs.Groups.{join_limit, join_groups, join_shallow}
use Rattle.wl_syntax.proofs.SmallTrees.{join_fits}
use Rattle.wl_syntax.proofs.build.join.Goals as goal

pub returns-in_default : goal.returns-in_default
returns-in_default c = join_limit _ _ _ _ c.joining-link.ensures c.in_default.ensures

pub returns : goal.returns
returns c =
    join_groups _ _ _ _ _ c.joining-link.ensures c.linked-form.ensures c.in-Some.ensures.0 c.in-Some.ensures.1 c.joined_pairs-pairs.ensures c.joined_reach-reach.ensures
    (λ l r x y. joined_items c.args.operator _ c.args.left c.args.right l r _ _ _ x y c.joining-link.ensures refl c.deref.ensures.value c.in_ok-items.ensures)

pub joined-requires : goal.joined-requires
joined-requires c =
    let (l, r, x, y, s) = c.requires in
    join_fits c.args.operator _ c.args.left c.args.right l r _ x y c.joining-link.ensures c.deref.ensures.value s (join_shallow c.args.left c.args.right _ c.args.operator _ l r x y c.joining-link.ensures c.in-Some.ensures.0 c.in-Some.ensures.1)
