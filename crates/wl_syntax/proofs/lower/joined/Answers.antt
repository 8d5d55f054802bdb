use Rattle.std.proofs.Common.{sym, ap, ◌∙◌}
use Rattle.wl_syntax.specs.Built.{unstamped_all}
use Rattle.wl_syntax.specs.Lower.{operand_of, whole}
use Rattle.wl_syntax.proofs.Building.{joined_other}
use Rattle.wl_syntax.proofs.lower.joined.Goals as goal

pub returns-in_ok-chained-in_default : goal.returns-in_ok-chained-in_default
returns-in_ok-chained-in_default c es fs p q =
    c.in_ok-chained-in_default.ensures es (operand_of c.args.operator c.args.right_form c.args.right_reach fs) p (c.in_ok-operand-in_default.ensures fs q)
    ∙ ap unstamped_all (sym (joined_other c.args.operator c.args.link c.args.left_form c.args.right_form es (whole c.args.left_form es) (whole c.args.right_form fs) (operand_of c.args.operator c.args.right_form c.args.right_reach fs) c.in_default.not-Alone))
