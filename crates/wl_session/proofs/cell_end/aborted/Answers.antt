use Rattle.std.proofs.Common.{codes, refl}
use Rattle.wl_ports.proofs.AsciiNames.{ascii_is_name}
use Rattle.wl_session.proofs.cell_end.aborted.Goals as goal

pub symbol-requires : goal.symbol-requires
symbol-requires c = ascii_is_name (codes "$Aborted") refl
