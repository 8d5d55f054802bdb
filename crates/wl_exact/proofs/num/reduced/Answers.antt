use Rattle.std.proofs.Common.{rules, ◌≡◌, ◌∙◌, ap, FitsSigned}
use Rattle.std.specs.Prelude.{unsigned_abs}
use Rattle.std.specs.Int.{w128}
use Rattle.std.proofs.lemmas.Int.{to_z-of_z}
use Rattle.wl_exact.specs.Gcd.{gcd}
use Rattle.wl_exact.proofs.LowestTerms.{reduced_is_reduced, reduced_positive}
use Rattle.wl_exact.proofs.num.reduced.Goals as goal
use Rattle.wl_exact.proofs.num.reduced.Goals.{After-over}

common : (c : After-over) → c.gcd-common.result ≡ gcd (unsigned_abs c.args.num) c.args.den
common c =
    let fits : FitsSigned w128 c.args.num = c.ranges.num in
    let size = simp to_z-of_z at c.unsigned_abs.ensures.value in
    c.gcd-common.ensures.value ∙ ap (λ n. gcd n c.args.den) size

pub number-requires-clause-reduced : goal.number-requires-clause-reduced
number-requires-clause-reduced c =
    let fits : FitsSigned w128 c.args.num = c.ranges.num in
    let quotient_fits : FitsSigned w128 c.over.result = search rules in
    let quotient = simp to_z-of_z at c.over.ensures in
    simp to_z-of_z (rw (quotient, common c) (reduced_is_reduced c.args.num c.args.den c.requires.positive))

pub number-requires-clause-positive : goal.number-requires-clause-positive
number-requires-clause-positive c = rw (common c) (reduced_positive c.args.num c.args.den c.requires.positive)
