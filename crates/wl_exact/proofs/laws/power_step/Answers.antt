use Rattle.wl_exact.proofs.Powers.{power_step}
use Rattle.wl_exact.proofs.laws.power_step.Goals as goal

pub returns : goal.returns
returns c = λ f n h. power_step f n h.reduced
