use Rattle.wl_syntax.proofs.Groups.{left_deep, right_deep}
use Rattle.std.proofs.Common.{subst}
use Rattle.wl_syntax.specs.Built.{Is, tree}
use Rattle.wl_syntax.proofs.build.between.Goals as goal

pub returns-in_default : goal.returns-in_default
returns-in_default c = left_deep _ c.args.right c.args.operator c.in_default.not-Whole

pub returns-in_default-right : goal.returns-in_default-right
returns-in_default-right c = right_deep c.args.left _ c.args.operator c.in_default-right.not-Whole

pub join-requires : goal.join-requires
join-requires c = let (l, r, x, y, s) = c.requires in (l, r, subst (λ j. Is j (tree l)) c.in-Whole.is x, subst (λ j. Is j (tree r)) c.in-Whole-right.is y, s)
