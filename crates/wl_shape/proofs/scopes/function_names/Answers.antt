use Rattle.std.proofs.Common.{sym, ap, ◌∙◌}
use Rattle.std.specs.Prelude.{Some}
use Rattle.wl_expr.specs.Stamped.{plain}
use Rattle.wl_shape.specs.Answers.{trees}
use Rattle.wl_shape.proofs.Parameters.{listed_names, listed_others, unlisted}
use Rattle.wl_shape.proofs.scopes.function_names.Goals as goal
use Rattle.wl_shape.proofs.scopes.function_names.Goals.{in_default-via-in-Some+else-are_names, in_default-via-in_default}

pub returns-in_ok-copy_all-in-Some : goal.returns-in_ok-copy_all-in-Some
returns-in_ok-copy_all-in-Some c =
    ap (λ us. Some (trees us)) c.in_ok-copy_all-in-Some.ensures
    ∙ listed_names (plain c.args.first.now) (trees c.in-Some.elements.now) (sym c.if-is_name.ensures) c.in-Some.ensures.value (sym c.if-are_names.ensures)

pub returns-in_default : goal.returns-in_default
returns-in_default c = elim c.in_default.branch [
  | in_default-via-in-Some+else-are_names w ↦ listed_others (plain c.args.first.now) (trees w.in-Some.elements.now) (sym c.if-is_name.ensures) w.in-Some.ensures.value (sym w.if-are_names.ensures)
  | in_default-via-in_default w ↦ unlisted (plain c.args.first.now) (sym c.if-is_name.ensures) w.in_default.ensures.value
]
