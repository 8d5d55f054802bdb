use Rattle.std.proofs.Common.{rules, ◌≡◌, List, subst}
use Rattle.wl_algebra.specs.SumsInside.{Entry, EntriesFrom}
use Rattle.wl_algebra.proofs.sums.with_element.Goals as goal

pub returns-in-Some-2-clause-passed : goal.returns-in-Some-2-clause-passed
returns-in-Some-2-clause-passed c =
    let q : c.args.sum.terms.entries ≡ c.terms-in-None.inside.columns.entries = search rules in
    λ ms h e. rw c.in-Some-2.is at (c.in_ok-terms-in-None.ensures.passed ms (subst (λ (es : List Entry). EntriesFrom ms es) q h) (c.in_ok-term_of-in-None.ensures.passed ms e))
