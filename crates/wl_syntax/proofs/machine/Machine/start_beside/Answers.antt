use Rattle.wl_syntax.specs.Machine.{beside}
use Rattle.wl_syntax.proofs.machine.Machine.start_beside.Goals as goal

pub returns : goal.returns
unfolding beside
returns c = λ st h. rw c.infix_level.ensures at (c.in_ok-start.ensures _ (c.in_ok-join.ensures _ (c.in_ok-close.ensures st h)))
