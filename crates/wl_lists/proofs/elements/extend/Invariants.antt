use Rattle.std.proofs.Common.{◌≡◌, ◌++◌, take}
use Rattle.wl_lists.proofs.elements.extend.Given as goal

abbrev pub invariant-loop-element : goal.invariant-loop-element
invariant-loop-element l = l.all.items ≡ l.initial.all.items ++ take l.element-index l.elements
