use Rattle.std.proofs.Common.{◌++◌, ◌∷◌, []}
use Rattle.std.specs.Prelude.{decimal}
use Rattle.wl_form.specs.Boxes.{between}
use Rattle.wl_form.specs.Shown.{slot_marks}
use Rattle.wl_form.proofs.Pages.{two_texts, pushed_text}
use Rattle.wl_form.proofs.Levels.{boxed_row}
use Rattle.wl_form.proofs.leaves.write_slot.Goals as goal

pub returns : goal.returns
returns c = boxed_row c.args.out.now _ _ _ (between (slot_marks c.args.double ++ decimal c.args.n) ∷ []) c.in_ok-open.ensures (two_texts _ _ _ _ _ (pushed_text _ _ _ _ c.in_ok-push_str.ensures c.slot_marks.ensures) c.in_ok-push_digits.ensures) c.in_ok-close.ensures
