use Rattle.wl_syntax.proofs.SmallTrees.{group_fits}
use Rattle.wl_syntax.proofs.build.add_element.Goals as goal

pub whole-requires : goal.whole-requires
whole-requires c = let (x, b, t) = c.requires in group_fits c.args.element x _ b c.deref.ensures.value t
