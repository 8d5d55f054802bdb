use Rattle.std.proofs.Common.{refl, subst, sym}
use Rattle.std.specs.Prelude.{codes}
use Rattle.wl_ports.proofs.AsciiNames.{ascii_is_name}
use Rattle.wl_lists.specs.Answers.{AllFrom}
use Rattle.wl_lists.proofs.joining.union_row.Goals as goal

pub give_form-requires : goal.give_form-requires
give_form-requires c = ascii_is_name (codes "List") refl

pub returns-clause-passed : goal.returns-clause-passed
returns-clause-passed c = λ ms h. c.give_form.ensures.passed ms (subst (AllFrom ms) (sym c.as_slice.ensures.value) (c.in_ok-united.ensures.passed ms h))
