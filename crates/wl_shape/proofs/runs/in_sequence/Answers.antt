use Rattle.std.proofs.Common.{refl}
use Rattle.std.specs.Prelude.{codes}
use Rattle.wl_ports.proofs.AsciiNames.{ascii_is_name}
use Rattle.wl_shape.proofs.runs.in_sequence.Goals as goal

pub symbol-requires : goal.symbol-requires
symbol-requires c = ascii_is_name (codes "Sequence") refl
