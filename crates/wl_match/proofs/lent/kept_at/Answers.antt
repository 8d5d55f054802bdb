use Rattle.wl_expr.specs.Passed.{IsFrom}
use Rattle.wl_match.proofs.Views.{kept_by_part}
use Rattle.wl_match.proofs.lent.kept_at.Goals as goal

pub returns-in-Some-kept_in-clause-passed : goal.returns-in-Some-kept_in-clause-passed
returns-in-Some-kept_in-clause-passed c ms s h = c.in-Some-kept_in.ensures.passed ms (kept_by_part (IsFrom ms) c.args.pattern.now c.args.part _ c.in-Some.ensures.part h)
