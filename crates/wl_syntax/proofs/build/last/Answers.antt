use Rattle.wl_syntax.proofs.Expressions.{last_expr}
use Rattle.wl_syntax.proofs.Groups.{last_wraps, last_one}
use Rattle.std.proofs.Common.{subst}
use Rattle.wl_syntax.specs.Built.{Is, tree}
use Rattle.wl_syntax.proofs.SmallTrees.{last_fits}
use Rattle.wl_syntax.proofs.build.last.Goals as goal

pub returns-in_default : goal.returns-in_default
returns-in_default c = last_wraps _ c.in_default.not-Whole

pub returns : goal.returns
returns c =
    last_one _ _ c.in-Whole.group _ _ _ c.in-Whole.is c.in_ok-one.ensures c.joining-link.ensures c.in-Some.ensures.0 c.in-Some.ensures.1
    (λ t v. last_expr c.in-Whole.group _ t _ v c.joining-link.ensures c.in_ok-expr.ensures)

pub last-requires : goal.last-requires
last-requires c = let (t, i, s) = c.requires in last_fits c.in-Whole.group _ t (subst (λ j. Is j (tree t)) c.in-Whole.is i) c.joining-link.ensures s
