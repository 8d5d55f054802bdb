use Rattle.std.proofs.Common.{◌≡◌, ◌+◌, ◌-◌, drop, length}
use Rattle.wl_match.specs.Parts.{pat, pats_of}
use Rattle.wl_match.specs.Pattern.{plus}
use Rattle.wl_match.specs.Means.{site_at}
use Rattle.wl_match.specs.Trials.{needs, mosts}
use Rattle.wl_match.proofs.pattern.Pattern.together.Given as goal

abbrev pub invariant-loop-at : goal.invariant-loop-at
invariant-loop-at l =
    (l.need + needs (pats_of (pat l.self) (drop l.at l.parts)) ≡ needs (pats_of (pat l.self) (drop l.from l.parts)))
    × (plus l.most (mosts (site_at l.self l.i) (pats_of (pat l.self) (drop l.at l.parts))) ≡ mosts (site_at l.self l.i) (pats_of (pat l.self) (drop l.from l.parts)))

abbrev pub decreases-loop-at : goal.decreases-loop-at
decreases-loop-at l = length l.parts - l.at
