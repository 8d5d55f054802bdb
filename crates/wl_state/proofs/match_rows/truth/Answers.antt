use Rattle.std.proofs.Common.{codes, refl}
use Rattle.wl_ports.proofs.AsciiNames.{ascii_is_name}
use Rattle.wl_state.proofs.match_rows.truth.Goals as goal

pub symbol-requires : goal.symbol-requires
symbol-requires c = ascii_is_name (codes "True") refl

pub symbol-requires-2 : goal.symbol-requires-2
symbol-requires-2 c = ascii_is_name (codes "False") refl
