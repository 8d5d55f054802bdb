use Rattle.std.proofs.Common.{◌∷◌, []}
use Rattle.wl_form.specs.Boxes.{between}
use Rattle.wl_form.specs.Shown.{number_text}
use Rattle.wl_form.specs.Table.{opposite}
use Rattle.wl_form.proofs.Levels.{boxed_row}
use Rattle.wl_form.proofs.leaves.write_opposite.Goals as goal

pub returns : goal.returns
returns c = boxed_row c.args.out.now _ _ _ (between (number_text (opposite c.args.n)) ∷ []) c.in_ok-open.ensures c.in_ok-push_opposite.ensures c.in_ok-close.ensures
