use Rattle.wl_control.proofs.Elements.{push_from}
use Rattle.wl_control.proofs.families.fold_list_on.Goals as goal

pub returns-clause-passed : goal.returns-clause-passed
returns-clause-passed c ms f g v = c.fold_list_from.ensures.passed ms f (push_from ms _ _ _ c.in_ok-more.ensures.values g v) v
