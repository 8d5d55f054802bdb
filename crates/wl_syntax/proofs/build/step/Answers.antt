use Rattle.wl_syntax.proofs.Pieces.{leaf_step, list_step, paren_step, element_step, call_step, part_step, before_step, after_step, last_step, between_step}
use Rattle.wl_syntax.proofs.SmallTrees.{leaf_small, paren_small, before_small, after_small, last_small, call_small, part_small, element_small, between_small}
use Rattle.wl_syntax.proofs.build.step.Goals as goal

pub returns-in_ok-push-in-Leaf : goal.returns-in_ok-push-in-Leaf
returns-in_ok-push-in-Leaf c = rw c.in-Leaf.is (leaf_step _ _ _ _ c.in_ok-item-in-Leaf.ensures c.in_ok-push-in-Leaf.ensures.items)

pub returns-in_ok-push-in-List : goal.returns-in_ok-push-in-List
returns-in_ok-push-in-List c = rw c.in-List.is (list_step _ _ _ c.in_ok-item-in-List.ensures c.in_ok-push-in-List.ensures.items)

pub returns-in_ok-push-in-Paren : goal.returns-in_ok-push-in-Paren
returns-in_ok-push-in-Paren c = rw c.in-Paren.is (paren_step _ _ _ _ _ c.take-operand.ensures c.in_ok-item-in-Paren.ensures c.in_ok-push-in-Paren.ensures.items)

pub returns-in_ok-push-in-Element : goal.returns-in_ok-push-in-Element
returns-in_ok-push-in-Element c = rw c.in-Element.is (element_step _ _ _ _ _ _ _ c.take-top.ensures c.take-below.ensures c.in_ok-item-in-Element.ensures c.in_ok-push-in-Element.ensures.items)

pub returns-in_ok-push-in-Call : goal.returns-in_ok-push-in-Call
returns-in_ok-push-in-Call c = rw c.in-Call.is (call_step _ _ _ _ _ c.take-args.ensures c.in_ok-item-in-Call.ensures c.in_ok-push-in-Call.ensures.items)

pub returns-in_ok-push-in-Part : goal.returns-in_ok-push-in-Part
returns-in_ok-push-in-Part c = rw c.in-Part.is (part_step _ _ _ _ _ c.take-args-in-Part.ensures c.in_ok-item-in-Part.ensures c.in_ok-push-in-Part.ensures.items)

pub returns-in_ok-push-in-Before : goal.returns-in_ok-push-in-Before
returns-in_ok-push-in-Before c = rw c.in-Before.is (before_step _ _ _ _ _ _ c.take-operand-in-Before.ensures c.in_ok-item-in-Before.ensures c.in_ok-push-in-Before.ensures.items)

pub returns-in_ok-push-in-After : goal.returns-in_ok-push-in-After
returns-in_ok-push-in-After c = rw c.in-After.is (after_step _ _ _ _ _ _ c.take-operand-in-After.ensures c.in_ok-item-in-After.ensures c.in_ok-push-in-After.ensures.items)

pub returns-in_ok-push-in-Last : goal.returns-in_ok-push-in-Last
returns-in_ok-push-in-Last c = rw c.in-Last.is (last_step _ _ _ _ _ c.take-operand-in-Last.ensures c.in_ok-item-in-Last.ensures c.in_ok-push-in-Last.ensures.items)

pub returns-in_ok-push-in-Between : goal.returns-in_ok-push-in-Between
returns-in_ok-push-in-Between c = rw c.in-Between.is (between_step _ _ _ _ _ _ _ _ c.take-right.ensures c.take-left.ensures c.in_ok-item-in-Between.ensures c.in_ok-push-in-Between.ensures.items)

pub leaf-requires : goal.leaf-requires
leaf-requires c = let (ps, a, s) = c.requires in leaf_small ps _ (rw c.in-Leaf.is at s)

pub paren-requires : goal.paren-requires
paren-requires c = let (ps, a, s) = c.requires in paren_small _ _ _ c.take-operand.ensures ps a (rw c.in-Paren.is at s)

pub before-requires : goal.before-requires
before-requires c = let (ps, a, s) = c.requires in before_small c.in-Before.operator _ _ _ c.take-operand-in-Before.ensures ps a (rw c.in-Before.is at s)

pub after-requires : goal.after-requires
after-requires c = let (ps, a, s) = c.requires in after_small c.in-After.operator _ _ _ c.take-operand-in-After.ensures ps a (rw c.in-After.is at s)

pub last-requires : goal.last-requires
last-requires c = let (ps, a, s) = c.requires in last_small _ _ _ c.take-operand-in-Last.ensures ps a (rw c.in-Last.is at s)

pub call-requires : goal.call-requires
call-requires c = let (ps, a, s) = c.requires in call_small _ _ _ c.take-args.ensures ps a (rw c.in-Call.is at s)

pub part-requires : goal.part-requires
part-requires c = let (ps, a, s) = c.requires in part_small _ _ _ c.take-args-in-Part.ensures ps a (rw c.in-Part.is at s)

pub element-requires : goal.element-requires
element-requires c = let (ps, a, s) = c.requires in element_small _ _ _ _ _ c.take-top.ensures c.take-below.ensures ps a (rw c.in-Element.is at s)

pub between-requires : goal.between-requires
between-requires c = let (ps, a, s) = c.requires in between_small c.in-Between.operator _ _ _ _ _ c.take-right.ensures c.take-left.ensures ps a (rw c.in-Between.is at s)
