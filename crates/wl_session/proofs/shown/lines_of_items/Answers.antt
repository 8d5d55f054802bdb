use Rattle.wl_session.proofs.Lines.{lines_more}
use Rattle.wl_session.proofs.shown.lines_of_items.Goals as goal

pub loop-item-preserved : goal.loop-item-preserved
loop-item-preserved c =
    lines_more c.args.items.now c.loop-item.item-index c.item-item.result _ _ _ c.loop-item-test.true c.item-item.is c.text.ensures c.loop-item.invariant c.in_ok-push_line.ensures
