use Rattle.std.proofs.Common.{refl}
use Rattle.std.specs.Prelude.{codes}
use Rattle.wl_ports.proofs.AsciiNames.{ascii_is_name}
use Rattle.wl_algebra.proofs.products.product_left.Goals as goal

pub give_symbol-requires : goal.give_symbol-requires
give_symbol-requires c = ascii_is_name (codes "ComplexInfinity") refl

pub returns-then-are_numbers_or_infinities-clause-passed : goal.returns-then-are_numbers_or_infinities-clause-passed
returns-then-are_numbers_or_infinities-clause-passed c = λ ms h. c.give_symbol.ensures.passed ms

pub returns-clause-passed : goal.returns-clause-passed
returns-clause-passed c = λ ms h. c.give_product.ensures.passed ms (c.in_ok-groups.ensures.passed ms h)
