use Rattle.std.proofs.Common.{ap}
use Rattle.wl_syntax.specs.Flat.{nodes}
use Rattle.wl_syntax.proofs.Parsing.{finish_stuck, finish_whole, finish_open}
use Rattle.wl_syntax.proofs.machine.Machine.finish_operand.Goals as goal

pub returns-in_default : goal.returns-in_default
returns-in_default c = λ st h. finish_stuck _ _ _ _ _ _ c.requires c.in_default.not-Has st h (c.in_ok-close.ensures st h)

pub returns-in-None : goal.returns-in-None
returns-in-None c = λ st h. finish_whole _ _ _ _ _ _ _ c.requires c.in-Has.is c.in-None.ensures.3 (ap nodes c.in-None.ensures.1) st h (c.in_ok-close.ensures st h)

pub returns-in-Some : goal.returns-in-Some
returns-in-Some c = λ st h. finish_open _ _ _ _ _ _ _ _ c.requires c.in-Has.is c.in-Some.ensures.2 st h (c.in_ok-close.ensures st h)
