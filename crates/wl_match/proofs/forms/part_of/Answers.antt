use Rattle.std.proofs.Common.{◌<◌, subst, sym}
use Rattle.std.specs.List.{All}
use Rattle.wl_match.specs.Parts.{inside_some}
use Rattle.wl_match.proofs.forms.part_of.Goals as goal

pub returns-in-Some-clause-inside : goal.returns-in-Some-clause-inside
returns-in-Some-clause-inside c n h a =
    subst (λ o. All (λ i. i < n) (inside_some o)) c.in-Some.is (c.in_ok-part.ensures.inside n (subst (All (λ i. i < n)) (sym c.as_slice.ensures.value) a))
