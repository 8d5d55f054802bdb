use Rattle.wl_control.proofs.Elements.{push_from}
use Rattle.wl_control.proofs.iterators.table_on.Goals as goal

pub returns-clause-passed : goal.returns-clause-passed
returns-clause-passed c ms p f b = c.passes_from.ensures.passed ms p (push_from ms _ _ _ c.in_ok-more.ensures.values f b)
