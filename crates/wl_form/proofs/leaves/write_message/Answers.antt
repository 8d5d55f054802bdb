use Rattle.std.proofs.Common.{refl, ◌∷◌, [], codes}
use Rattle.wl_form.specs.Boxes.{between}
use Rattle.wl_form.specs.Words.{message_shown}
use Rattle.wl_form.specs.Writing.{leaf}
use Rattle.wl_form.proofs.Levels.{parenthesised, three_steps}
use Rattle.wl_form.proofs.leaves.write_message.Goals as goal

pub returns : goal.returns
returns c = parenthesised c.args.level 1 (message_shown c.args.name.now c.args.tag.now) c.args.out.now _ _ _ refl c.in_ok-open.ensures (three_steps c.open.new.out c.write_name.new.out c.push_str.new.self c.write_name-2.new.out (leaf c.args.name.now) (between (codes "::") ∷ []) (leaf c.args.tag.now) _ c.in_ok-write_name.ensures c.in_ok-push_str.ensures c.in_ok-write_name-2.ensures refl) c.in_ok-close.ensures
