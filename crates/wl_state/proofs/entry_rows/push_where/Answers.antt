use Rattle.wl_ports.proofs.AsciiNames.{ascii_is_name}
use Rattle.wl_state.proofs.entry_rows.push_where.Goals as goal

pub symbol-requires : goal.symbol-requires
symbol-requires c = ascii_is_name c.args.name.now c.requires
