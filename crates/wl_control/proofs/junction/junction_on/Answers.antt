use Rattle.std.proofs.Common.{refl}
use Rattle.std.specs.Prelude.{codes}
use Rattle.wl_ports.proofs.AsciiNames.{ascii_is_name}
use Rattle.wl_control.proofs.junction.junction_on.Goals as goal

pub joined_on-requires : goal.joined_on-requires
joined_on-requires c = ascii_is_name (codes "False") refl

pub joined_on-requires-in-Or : goal.joined_on-requires-in-Or
joined_on-requires-in-Or c = ascii_is_name (codes "True") refl
