use Rattle.wl_rules.specs.Entries.{left_side}
use Rattle.wl_rules.proofs.RuleOrder.{insert_in_order}
use Rattle.wl_rules.proofs.laws.rules_stay_in_order.Goals as goal

pub returns-clause-put : goal.returns-clause-put
returns-clause-put c = λ n rs h. insert_in_order left_side n rs h
