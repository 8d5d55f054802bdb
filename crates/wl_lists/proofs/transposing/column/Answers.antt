use Rattle.std.proofs.Common.{refl}
use Rattle.std.specs.Prelude.{codes}
use Rattle.wl_ports.proofs.AsciiNames.{ascii_is_name}
use Rattle.wl_lists.proofs.transposing.column.Goals as goal

pub form-requires : goal.form-requires
form-requires c = ascii_is_name (codes "List") refl
