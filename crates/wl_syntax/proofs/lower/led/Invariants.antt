use Rattle.std.proofs.Common.{◌≡◌, ◌∷◌, take}
use Rattle.wl_syntax.proofs.lower.led.Given as goal

abbrev pub invariant-loop-item : goal.invariant-loop-item
invariant-loop-item l = l.all.items ≡ l.fn.first ∷ take l.item-index l.rest
