use Rattle.std.proofs.Common.{refl}
use Rattle.std.specs.Prelude.{codes}
use Rattle.wl_ports.proofs.AsciiNames.{ascii_is_name}
use Rattle.wl_control.proofs.junction.left_over.Goals as goal

pub joined-requires-clause-name : goal.joined-requires-clause-name
joined-requires-clause-name c = ascii_is_name (codes "And") refl

pub joined-requires-clause-skip : goal.joined-requires-clause-skip
joined-requires-clause-skip c = ascii_is_name (codes "True") refl

pub joined-requires-in-Or-clause-name : goal.joined-requires-in-Or-clause-name
joined-requires-in-Or-clause-name c = ascii_is_name (codes "Or") refl

pub joined-requires-in-Or-clause-skip : goal.joined-requires-in-Or-clause-skip
joined-requires-in-Or-clause-skip c = ascii_is_name (codes "False") refl
