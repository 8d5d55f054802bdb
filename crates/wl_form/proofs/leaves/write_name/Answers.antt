use Rattle.std.proofs.Common.{◌∷◌, []}
use Rattle.wl_form.specs.Boxes.{between}
use Rattle.wl_form.proofs.Levels.{boxed_row}
use Rattle.wl_form.proofs.leaves.write_name.Goals as goal

pub returns : goal.returns
returns c = boxed_row c.args.out.now _ _ _ (between (c.args.name.now) ∷ []) c.in_ok-open.ensures c.in_ok-push_str.ensures c.in_ok-close.ensures
