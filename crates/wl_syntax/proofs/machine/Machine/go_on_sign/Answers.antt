use Rattle.std.proofs.Common.{refl}
use Rattle.wl_syntax.specs.Machine.{dead, join, end_with, part_with, closed}
use Rattle.wl_syntax.proofs.Steps.{behind_joins, behind_ends, behind_parts, behind_nothing, as_behind}
use Rattle.wl_syntax.proofs.machine.Machine.go_on_sign.Goals as goal

pub returns-in_ok-join-in-Joins : goal.returns-in_ok-join-in-Joins
returns-in_ok-join-in-Joins c = as_behind (λ st. join c.in-Joins.operator (closed c.infix_level.result st)) _ _ _ _ _ _ _ (behind_joins _ _ _ c.in-Joins.is c.infix_level.ensures) (λ st h. c.in_ok-join-in-Joins.ensures _ (c.in_ok-close-in-Joins.ensures st h))

pub returns-in_ok-end_with-in-Ends : goal.returns-in_ok-end_with-in-Ends
returns-in_ok-end_with-in-Ends c = as_behind (λ st. end_with c.in-Ends.operator (closed c.postfix_level.result st)) _ _ _ _ _ _ _ (behind_ends _ _ _ c.in-Ends.is c.postfix_level.ensures) (λ st h. c.in_ok-end_with-in-Ends.ensures _ (c.in_ok-close-in-Ends.ensures st h))

pub returns-in_ok-close-in-Parts : goal.returns-in_ok-close-in-Parts
returns-in_ok-close-in-Parts c = as_behind (λ st. part_with (closed 30 st)) _ _ _ _ _ _ _ (behind_parts _ c.in-Parts.is) (λ st h. c.part_with.ensures _ (c.in_ok-close-in-Parts.ensures st h))

pub returns-in-Nothing : goal.returns-in-Nothing
returns-in-Nothing c = as_behind (λ st. dead) _ _ _ _ _ _ _ (behind_nothing _ c.in-Nothing.is) (λ st h. refl)
