use Rattle.wl_syntax.proofs.SmallTrees.{group_fits}
use Rattle.wl_syntax.proofs.build.begin_call.Goals as goal

pub whole-requires : goal.whole-requires
whole-requires c = let (f, x, a, b, s, t) = c.requires in group_fits c.args.element x _ b c.deref.ensures.value t

pub whole-requires-2 : goal.whole-requires-2
whole-requires-2 c = let (f, x, a, b, s, t) = c.requires in group_fits c.args.head f _ a c.deref-2.ensures.value s
