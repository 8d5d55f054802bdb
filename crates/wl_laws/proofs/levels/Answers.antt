use Rattle.wl_semantics.proofs.Level.{Eval-level, Turns-level}
use Rattle.wl_laws.proofs.levels.Goals as goal

pub returns : goal.returns
returns c = record { evaluations = Eval-level; turns = Turns-level }
