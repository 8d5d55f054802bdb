use Rattle.wl_form.proofs.Pages.{closed_in_parens, closed_bare}
use Rattle.wl_form.proofs.leaves.close.Goals as goal

pub returns-in_ok-push_str : goal.returns-in_ok-push_str
returns-in_ok-push_str c = closed_in_parens c.args.in_parens c.args.out.now _ _ c.in_ok-close.ensures c.if-in_parens.true c.in_ok-push_str.ensures

pub returns-else-in_parens : goal.returns-else-in_parens
returns-else-in_parens c = closed_bare c.args.in_parens c.args.out.now _ c.in_ok-close.ensures c.if-in_parens.false
