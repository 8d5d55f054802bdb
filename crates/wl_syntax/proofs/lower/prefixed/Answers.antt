use Rattle.std.proofs.Common.{subst, ◌∷◌, [], sym, ap, ◌∙◌}
use Rattle.wl_expr.specs.Stamped.{unstamped}
use Rattle.wl_expr.specs.Tree.{IsWithinLimits}
use Rattle.wl_syntax.specs.Lower.{whole}
use Rattle.wl_syntax.proofs.Heads.{prefix_head}
use Rattle.wl_syntax.proofs.Building.{items_one, prefixed_other}
use Rattle.wl_syntax.proofs.lower.prefixed.Goals as goal

pub returns-in_ok-named-in_default : goal.returns-in_ok-named-in_default
returns-in_ok-named-in_default c es e =
    rw c.prefix_name.ensures at (c.in_ok-named-in_default.ensures (whole c.args.form es ∷ []) (items_one _ (whole c.args.form es) (c.in_ok-operand-in_default.ensures es e)))
    ∙ ap unstamped (sym (prefixed_other c.args.operator c.args.form c.args.reach es c.in_default.not-Negate))

pub named-requires : goal.named-requires
named-requires c =
    let (es, p, w) = c.requires in record {
      head = rw c.prefix_name.ensures (prefix_head c.args.operator);
      fits = (whole c.args.form es ∷ [], items_one _ (whole c.args.form es) (c.in_ok-operand-in_default.ensures es p), rw c.prefix_name.ensures (subst IsWithinLimits (prefixed_other c.args.operator c.args.form c.args.reach es c.in_default.not-Negate) w));
    }
