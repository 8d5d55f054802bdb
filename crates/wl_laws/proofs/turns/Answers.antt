use Rattle.wl_semantics.proofs.Level.{Eval-is, Turns-is}
use Rattle.wl_laws.proofs.turns.Goals as goal

pub returns-clause-evaluation : goal.returns-clause-evaluation
returns-clause-evaluation c = Eval-is

pub returns-clause-more : goal.returns-clause-more
returns-clause-more c = Turns-is
