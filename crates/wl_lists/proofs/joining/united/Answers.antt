use Rattle.std.proofs.Common.{subst, sym}
use Rattle.wl_lists.specs.Answers.{AllFrom}
use Rattle.wl_lists.proofs.joining.united.Goals as goal

pub returns-clause-passed : goal.returns-clause-passed
returns-clause-passed c = λ ms h.
    c.sorted.ensures.passed ms (subst (AllFrom ms) (sym c.as_slice-2.ensures.value) (c.in_ok-firsts.ensures.passed ms (subst (AllFrom ms) (sym c.as_slice.ensures.value) (c.in_ok-all.ensures.passed ms h))))
