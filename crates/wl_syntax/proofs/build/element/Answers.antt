use Rattle.wl_syntax.proofs.SmallTrees.{begin_fits, add_fits}
use Rattle.wl_syntax.proofs.build.element.Goals as goal

pub begin_call-requires : goal.begin_call-requires
begin_call-requires c = let (p, x, a, b, s) = c.requires in begin_fits _ _ _ _ p x c.in-Whole-below.is c.in-Whole.is a b s

pub add_element-requires : goal.add_element-requires
add_element-requires c = let (p, x, a, b, s) = c.requires in add_fits _ _ _ _ p x c.in-Args.is c.in-Whole.is a b s
