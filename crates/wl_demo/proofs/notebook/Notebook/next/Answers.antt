use Rattle.std.proofs.Common.{◌∙◌, sym}
use Rattle.wl_demo.proofs.Cells.{cells_after-given}
use Rattle.wl_demo.proofs.notebook.Notebook.next.Goals as goal

pub returns-in-Ok-clause-cell : goal.returns-in-Ok-clause-cell
returns-in-Ok-clause-cell c =
    sym c.self.view_is ∙ cells_after-given _ _ _ _ _ _ c.self.invariant.0 c.if-self.false c.self.invariant.1 c.next_state-state.ensures c.clear.ensures.bytes c.in-Ok.ensures
