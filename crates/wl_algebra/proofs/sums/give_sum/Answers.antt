use Rattle.std.proofs.Common.{refl, sym, subst}
use Rattle.std.specs.Prelude.{codes}
use Rattle.wl_ports.proofs.AsciiNames.{ascii_is_name}
use Rattle.wl_algebra.specs.Answers.{AllFrom}
use Rattle.wl_algebra.proofs.sums.give_sum.Goals as goal

pub give_joined-requires : goal.give_joined-requires
give_joined-requires c = ascii_is_name (codes "Plus") refl

pub returns-clause-passed : goal.returns-clause-passed
returns-clause-passed c = λ ms h. c.give_joined.ensures.passed ms (subst (AllFrom ms) (sym c.as_slice.ensures.value) (c.in_ok-left.ensures.passed ms h))
