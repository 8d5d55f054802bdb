use Rattle.std.proofs.Common.{refl}
use Rattle.std.specs.Prelude.{codes}
use Rattle.wl_ports.proofs.AsciiNames.{ascii_is_name}
use Rattle.wl_lists.proofs.answer.give_list.Goals as goal

pub give_form-requires : goal.give_form-requires
give_form-requires c = ascii_is_name (codes "List") refl
