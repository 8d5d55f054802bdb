-- Left sides of a few definitions.
use Rattle.std.specs.Prelude.{◌≡◌, true, false, [], ◌∷◌, Some, None, codes}
use Rattle.wl_expr.specs.Tree.{Tree, symbol, text}
use Rattle.wl_expr.specs.Words.{form, applied, natural}
use Rattle.wl_assign.specs.Core.{core, is_held}
use Rattle.wl_assign.specs.Targets.{own, down, sub, raw, target}
use Rattle.wl_assign.specs.Tags.{tags}
use Rattle.wl_assign.specs.Limits.{limit_allows}

abbrev pub a : Tree
a = symbol (codes "a")

abbrev pub blank : Tree
blank = form (codes "Blank") []

-- `f[a]`
abbrev pub call : Tree
call = form (codes "f") (a ∷ [])

-- `f[a] /; c`, and a HoldPattern around it, and another condition around that; a `Condition` of one element is no condition
abbrev pub WorkedCores : Type 0
WorkedCores =
    (core (form (codes "Condition") (call ∷ a ∷ [])) ≡ call)
    × (is_held (form (codes "Condition") (call ∷ a ∷ [])) ≡ false)
    × (core (form (codes "Condition") (form (codes "HoldPattern") (form (codes "Condition") (call ∷ a ∷ []) ∷ []) ∷ a ∷ [])) ≡ call)
    × (is_held (form (codes "Condition") (form (codes "HoldPattern") (call ∷ []) ∷ a ∷ [])) ≡ true)
    × (core (form (codes "Condition") (call ∷ [])) ≡ form (codes "Condition") (call ∷ []))

-- `a`, `f[a]`, `f[a][a]`, `1`, `"s"[a]`
abbrev pub WorkedTargets : Type 0
WorkedTargets =
    (target a ≡ own (codes "a")) × (target call ≡ down (codes "f")) × (target (applied call (a ∷ [])) ≡ sub (codes "f")) × (target (natural 1) ≡ raw)
    × (target (applied (text (codes "s")) (a ∷ [])) ≡ raw)

-- `f[a, g[x], _h, a]`, and `f[x_, 1, p : g[a], n_?t, _]`: a name and a test have the tag of the pattern that they stand around, and blanks have their head's
abbrev pub WorkedTags : Type 0
WorkedTags =
    (tags (form (codes "f") (a ∷ form (codes "g") (symbol (codes "x") ∷ []) ∷ form (codes "Blank") (symbol (codes "h") ∷ []) ∷ a ∷ []))
    ≡ codes "a" ∷ codes "g" ∷ codes "h" ∷ [])
    × (tags (form (codes "f") (form (codes "Pattern") (symbol (codes "x") ∷ blank ∷ []) ∷ natural 1 ∷ form (codes "Pattern") (symbol (codes "p") ∷ form (codes "g") (a ∷ []) ∷ [])
    ∷ form (codes "PatternTest") (form (codes "BlankSequence") (symbol (codes "n") ∷ []) ∷ symbol (codes "t") ∷ []) ∷ blank ∷ [])) ≡ codes "g" ∷ codes "n" ∷ [])
    × (tags a ≡ [])

abbrev pub WorkedLimits : Type 0
WorkedLimits =
    (limit_allows (codes "$RecursionLimit") (natural 20) ≡ Some true) × (limit_allows (codes "$RecursionLimit") (natural 19) ≡ Some false)
    × (limit_allows (codes "$RecursionLimit") (natural 512) ≡ Some true) × (limit_allows (codes "$RecursionLimit") (natural 513) ≡ Some false)
    × (limit_allows (codes "$IterationLimit") (natural 1000000) ≡ Some true) × (limit_allows (codes "$IterationLimit") (natural 1000001) ≡ Some false)
    × (limit_allows (codes "$IterationLimit") a ≡ Some false) × (limit_allows (codes "a") (natural 20) ≡ None)

abbrev pub WorkedLeftSides : Type 0
WorkedLeftSides = WorkedCores × WorkedTargets × WorkedTags × WorkedLimits
