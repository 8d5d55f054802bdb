use Rattle.wl_semantics.specs.Eval.{Eval}
use Rattle.wl_semantics.proofs.Bind.{interp-bind}
use Rattle.wl_laws.proofs.programs.Goals as goal

pub returns : goal.returns
returns g c = λ p f s. interp-bind Eval p f s
