use Rattle.std.proofs.Common.{refl, subst}
use Rattle.wl_syntax.specs.Tree.{after}
use Rattle.wl_syntax.proofs.Expressions.{group_expr, after_expr}
use Rattle.wl_syntax.proofs.Groups.{one_wraps}
use Rattle.wl_syntax.specs.Built.{Is, tree, IsGroup}
use Rattle.wl_syntax.proofs.Heads.{postfix_head}
use Rattle.wl_syntax.proofs.SmallTrees.{group_fits, in_after, after_fits}
use Rattle.wl_syntax.proofs.build.after.Goals as goal

pub returns : goal.returns
returns c =
    one_wraps _ _ c.in-Whole.group (λ t. after t c.args.operator) _ _ _ c.in-Whole.is c.in_ok-one.ensures c.in-Some.ensures
    (λ t v. after_expr c.args.operator t c.in_ok-operand.operand _ (group_expr c.in-Whole.group t _ _ v c.deref.ensures.value c.in_ok-operand.ensures) (rw c.postfix_name.ensures at c.in_ok-expr.ensures))
    c.after_form.ensures (λ t. refl) (λ t. refl) (λ t. refl)

pub whole-requires : goal.whole-requires
whole-requires c = let (t, i, s) = c.requires in group_fits c.in-Whole.group t _ (subst (λ j. Is j (tree t)) c.in-Whole.is i) c.deref.ensures.value (in_after c.args.operator t s)

pub named-requires : goal.named-requires
named-requires c =
    let (t, i, s) = c.requires in
    let g : IsGroup c.in-Whole.group t = subst (λ j. Is j (tree t)) c.in-Whole.is i in
    record {
      head = rw c.postfix_name.ensures (postfix_head c.args.operator);
      fits = rw c.postfix_name.ensures (after_fits c.args.operator c.in-Whole.group t c.in_ok-operand.operand g (group_expr c.in-Whole.group t _ _ g c.deref.ensures.value c.in_ok-operand.ensures) s);
    }
