use Rattle.std.proofs.Common.{subst}
use Rattle.wl_syntax.specs.Built.{Is, tree}
use Rattle.wl_syntax.proofs.SmallTrees.{before_fits}
use Rattle.wl_syntax.proofs.build.before.Goals as goal

pub prefixed-requires : goal.prefixed-requires
prefixed-requires c = let (t, i, s) = c.requires in before_fits c.args.operator c.in-Whole.group t _ (subst (λ j. Is j (tree t)) c.in-Whole.is i) c.deref.ensures.value s
