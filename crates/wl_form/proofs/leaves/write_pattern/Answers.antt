use Rattle.std.proofs.Common.{◌++◌, ◌∷◌, []}
use Rattle.wl_form.specs.Boxes.{between}
use Rattle.wl_form.proofs.Pages.{three_texts}
use Rattle.wl_form.proofs.Levels.{boxed_row}
use Rattle.wl_form.proofs.leaves.write_pattern.Goals as goal

pub returns : goal.returns
returns c = boxed_row c.args.out.now _ _ _ (between (c.args.name.now ++ (c.args.marks.now ++ c.args.head.now)) ∷ []) c.in_ok-open.ensures (three_texts _ _ _ _ _ _ _ c.in_ok-push_str.ensures c.in_ok-push_str-2.ensures c.in_ok-push_str-3.ensures) c.in_ok-close.ensures
