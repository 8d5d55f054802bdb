use Rattle.std.proofs.Common.{◌≡◌, drop}
use Rattle.wl_match.specs.Parts.{pat, pats_of}
use Rattle.wl_match.specs.Pattern.{any_optional}
use Rattle.wl_match.proofs.pattern.Pattern.any_optional.Given as goal

abbrev pub invariant-loop-q : goal.invariant-loop-q
invariant-loop-q l = any_optional (pats_of (pat l.self) (drop l.q-index l.parts)) ≡ any_optional (pats_of (pat l.self) l.parts)
