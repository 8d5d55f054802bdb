use Rattle.std.proofs.Common.{◌∙◌}
use Rattle.wl_syntax.proofs.machine.Machine.close.Goals as goal

pub loop-preserved : goal.loop-preserved
loop-preserved c =
    let h = rw c.if-branch.true at c.in_ok-close_top.ensures in
    (h.0, λ st a. let (to, i, e) = c.loop.invariant.1 st a in let (u, j, d) = h.2 to i in (u, j, e ∙ d))
