use Rattle.std.proofs.Common.{subst, sym}
use Rattle.std.proofs.lemmas.List.Sorted.{All-permutation}
use Rattle.wl_expr.specs.Passed.{IsFrom}
use Rattle.wl_lists.specs.Answers.{AllFrom}
use Rattle.wl_lists.proofs.joining.sorted.Goals as goal

pub returns-clause-passed : goal.returns-clause-passed
returns-clause-passed c = λ ms h. All-permutation (IsFrom ms) _ _ c.sort.ensures.parts (subst (AllFrom ms) (sym c.in_ok-ordered.ensures) h)
