use Rattle.std.proofs.Common.{subst}
use Rattle.wl_syntax.specs.Built.{Is, tree}
use Rattle.wl_syntax.proofs.SmallTrees.{group_fits, in_paren}
use Rattle.wl_syntax.proofs.build.paren.Goals as goal

pub whole-requires : goal.whole-requires
whole-requires c = let (t, i, s) = c.requires in group_fits c.in-Whole.group t _ (subst (λ j. Is j (tree t)) c.in-Whole.is i) c.deref.ensures.value (in_paren t s)
