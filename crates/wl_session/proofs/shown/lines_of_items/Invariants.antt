use Rattle.std.proofs.Common.{◌≡◌, string_bytes, take}
use Rattle.wl_session.specs.Line.{lines}
use Rattle.wl_session.proofs.shown.lines_of_items.Given as goal

abbrev pub invariant-loop-item : goal.invariant-loop-item
invariant-loop-item l = string_bytes l.text ≡ lines (take l.item-index l.items)
