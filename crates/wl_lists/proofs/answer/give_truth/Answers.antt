use Rattle.std.proofs.Common.{refl}
use Rattle.std.specs.Prelude.{codes}
use Rattle.wl_ports.proofs.AsciiNames.{ascii_is_name}
use Rattle.wl_lists.proofs.answer.give_truth.Goals as goal

pub give_symbol-requires : goal.give_symbol-requires
give_symbol-requires c = ascii_is_name (codes "True") refl

pub give_symbol-requires-else-holds : goal.give_symbol-requires-else-holds
give_symbol-requires-else-holds c = ascii_is_name (codes "False") refl
