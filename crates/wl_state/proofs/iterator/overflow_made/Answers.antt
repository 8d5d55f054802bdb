use Rattle.std.proofs.Common.{codes, refl}
use Rattle.wl_ports.proofs.AsciiNames.{ascii_is_name}
use Rattle.wl_state.proofs.iterator.overflow_made.Goals as goal

pub symbol-requires : goal.symbol-requires
symbol-requires c = ascii_is_name (codes "Overflow") refl
