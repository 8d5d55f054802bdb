use Rattle.std.proofs.Common.{refl}
use Rattle.std.specs.Prelude.{codes}
use Rattle.wl_ports.proofs.AsciiNames.{ascii_is_name}
use Rattle.wl_algebra.proofs.sums.finite_sum.Goals as goal

pub give_symbol-requires : goal.give_symbol-requires
give_symbol-requires c = ascii_is_name (codes "ComplexInfinity") refl

pub returns-then-are_numbers_or_infinities-clause-passed : goal.returns-then-are_numbers_or_infinities-clause-passed
returns-then-are_numbers_or_infinities-clause-passed c = λ ms h. c.give_symbol.ensures.passed ms

pub returns-in-Some-clause-passed : goal.returns-in-Some-clause-passed
returns-in-Some-clause-passed c = λ ms h. c.give_sum.ensures.passed ms (rw c.in-Some.is at (c.in_ok-sum.ensures.passed ms h))

pub returns-in-None-clause-passed : goal.returns-in-None-clause-passed
returns-in-None-clause-passed c = λ ms h. c.overflow.ensures.passed ms
