use Rattle.std.proofs.Common.{◌∙◌, subst, [], refl, arith}
use Rattle.wl_syntax.proofs.Expressions.{group_expr, call_expr}
use Rattle.wl_syntax.proofs.Groups.{call_one, args_one}
use Rattle.wl_syntax.specs.Built.{Is}
use Rattle.wl_syntax.proofs.SmallTrees.{call_group, group_fits, head_of, small_fits, call_fits}
use Rattle.wl_syntax.specs.Tree.{none, call}
use Rattle.wl_syntax.specs.Lower.{lower}
use Rattle.wl_syntax.proofs.build.call.Goals as goal

pub returns-in_ok-one-in-Whole : goal.returns-in_ok-one-in-Whole
returns-in_ok-one-in-Whole c =
    call_one _ _ c.in-Whole.group _ _ c.in-Whole.is c.in_ok-one-in-Whole.ensures c.in-Some.ensures
    (λ t v. call_expr t c.in_ok-head-in-Whole.head _ (group_expr c.in-Whole.group t _ _ v c.deref.ensures.value c.in_ok-head-in-Whole.ensures) c.in_ok-expr-in-Whole.ensures)

pub returns-in_ok-one-in-Args : goal.returns-in_ok-one-in-Args
returns-in_ok-one-in-Args c =
    args_one _ _ c.in-Args.args _ _ c.in-Args.is c.in_ok-one-in-Args.ensures c.in-Some-deeper.ensures
    (λ h es p q. c.in_ok-expr-in-Args.ensures h es p (c.deref-in-Args.ensures.value ∙ q))

pub whole-requires : goal.whole-requires
whole-requires c =
    let (p, i, s) = c.requires in
    let (t, g, w) = call_group _ c.in-Whole.group p c.in-Whole.is i s in
    group_fits c.in-Whole.group t _ g c.deref.ensures.value (head_of t none w)

pub node-requires : goal.node-requires
node-requires c =
    let (p, i, s) = c.requires in
    let (t, g, w) = call_group _ c.in-Whole.group p c.in-Whole.is i s in
    let d = g.shallow in
    (lower t, [], group_expr c.in-Whole.group t _ _ g c.deref.ensures.value c.in_ok-head-in-Whole.ensures, refl, small_fits (call t none) w (omega arith))

pub node-requires-in-Args : goal.node-requires-in-Args
node-requires-in-Args c =
    let (p, i, s) = c.requires in
    let (h, es, a, b, w) = call_fits c.in-Args.args p (subst (λ j. Is j p) c.in-Args.is i) s in
    (h, es, a, c.deref-in-Args.ensures.value ∙ b, w)
