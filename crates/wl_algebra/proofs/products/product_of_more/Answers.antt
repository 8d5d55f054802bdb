use Rattle.std.proofs.Common.{refl}
use Rattle.std.specs.Prelude.{codes}
use Rattle.wl_ports.proofs.AsciiNames.{ascii_is_name}
use Rattle.wl_algebra.proofs.products.product_of_more.Goals as goal

pub give_symbol-requires : goal.give_symbol-requires
give_symbol-requires c = ascii_is_name (codes "Indeterminate") refl

pub returns-then-has-clause-passed : goal.returns-then-has-clause-passed
returns-then-has-clause-passed c = λ ms h. c.give_symbol.ensures.passed ms
