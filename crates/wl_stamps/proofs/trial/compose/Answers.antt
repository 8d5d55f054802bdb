use Rattle.std.proofs.Common.{rules, refl}
use Rattle.wl_stamps.proofs.trial.compose.Goals as goal

pub returns-clause-when : goal.returns-clause-when
returns-clause-when c = (λ t. (search rules, search rules, c.in_ok-add_reads.ensures.when.0 c.if-not-branch.false), λ h. refl)
