use Rattle.std.proofs.Common.{rules, ◌≡◌, [], Some, Err, sym, ap, ◌∙◌, subst}
use Rattle.wl_expr.specs.Same.{first_of_each}
use Rattle.wl_expr.specs.Stamped.{plain}
use Rattle.wl_expr.specs.Tree.{IsWithinLimits}
use Rattle.wl_expr.specs.Words.{applied}
use Rattle.wl_expr.specs.declared.fault.ExprFault.TheVariants.{Large}
use Rattle.wl_lists.specs.Answers.{trees}
use Rattle.wl_lists.specs.Nodes.{node_of}
use Rattle.wl_lists.proofs.Once.{firsts_fit}
use Rattle.wl_lists.proofs.parts.once.Goals as goal

pub unreachable-requires : goal.unreachable-requires
unreachable-requires c =
    let e = plain c.args.index.now in
    let h = plain c.in-Some.head.now in
    let es = c.in-Some.among.now in
    let seen : Some (h, trees es) ≡ node_of e = search rules in
    let large : c.node.result ≡ Err Large = c.in-Err-Large.is ∙ ap Err c.in-Err-Large.field-0-is in
    let made : trees c.as_slice.result.now ≡ first_of_each [] (trees es) = search rules in
    c.node.ensures.made.large large (subst (λ ts. IsWithinLimits (applied h ts)) (sym made) (firsts_fit e h (trees es) seen c.weight-weight.ensures.fits))
