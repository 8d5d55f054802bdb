use Rattle.wl_form.specs.Shown.{number}
use Rattle.wl_form.proofs.Levels.{parenthesised}
use Rattle.wl_form.proofs.leaves.write_number.Goals as goal

pub returns : goal.returns
returns c = parenthesised c.args.level c.number_level-own.result (number c.args.n) c.args.out.now _ _ _ c.number_level-own.ensures c.in_ok-open.ensures c.in_ok-push_number.ensures c.in_ok-close.ensures
