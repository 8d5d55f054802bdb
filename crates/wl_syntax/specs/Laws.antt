-- The laws of the grammar.
use Rattle.std.specs.Prelude.{ℕ, ◌+◌, ◌*◌, ◌<◌, length, pos, negsuc, ◌≡◌, ◌≤◌, List, [], ◌∷◌, codes}
use Rattle.wl_expr.specs.Tree as full
use Rattle.wl_syntax.specs.declared.fault.SyntaxFault.{SyntaxFault}
use Rattle.wl_syntax.specs.declared.fault.SyntaxFault.TheVariants.{Unclosed, Unexpected, Memory}
use Rattle.wl_expr.specs.Tree.{weight}
use Rattle.wl_syntax.specs.Atoms.{named, whole_number}
use Rattle.wl_syntax.specs.Lower.{lower}
use Rattle.wl_syntax.specs.Depth.{depth, max_depth}
use Rattle.wl_syntax.specs.Reads.{HasTree, IsReadAs, Refused}
use Rattle.wl_syntax.specs.Tree.{Tree, Right, reads}

-- Two right trees that read as the same tokens are the same tree.
abbrev pub OneReading : Type 0
OneReading = (t u : Tree) → Right t → Right u → reads t ≡ reads u → t ≡ u

-- A cell has one tree at most; one with a tree that isn't too deep is not refused; and each other one is for one cause. Want
-- of memory apart.
abbrev pub OneTree : Type 0
OneTree = (bytes : List ℕ) (t u : Tree) → HasTree bytes t → HasTree bytes u → t ≡ u

abbrev pub NotRefused : Type 0
NotRefused = (bytes : List ℕ) (t : Tree) → HasTree bytes t → depth t ≤ max_depth → (f : SyntaxFault) → Refused bytes f → f ≡ Memory

abbrev pub OneCause : Type 0
OneCause = (bytes : List ℕ) (f g : SyntaxFault) → Refused bytes f → Refused bytes g → (f ≡ Memory → ⊥) → (g ≡ Memory → ⊥) → f ≡ g

abbrev pub OneAnswer : Type 0
OneAnswer = OneTree × NotRefused × OneCause

-- The expression of a cell weighs less than 2,000,000, and is at most twice as deep as its tree, and 2 more: none passes the
-- limits of expressions.
abbrev pub SmallExpressions : Type 0
SmallExpressions = (bytes : List ℕ) (t : Tree) → length bytes ≤ 131072 → HasTree bytes t → (weight (lower t) < 2000000) × (full.depth (lower t) ≤ 2 * depth t + 2)

-- worked cells

-- `x -> y & /@ {1}`: a postfix operator that binds loosely ends all that is open before a tight infix one
abbrev pub LoosePostfix : Type 0
LoosePostfix =
    IsReadAs (codes "x -> y & /@ {1}")
    (named (codes "Map") (named (codes "Function") (named (codes "Rule") (full.symbol (codes "x") ∷ full.symbol (codes "y") ∷ []) ∷ []) ∷ named (codes "List") (whole_number (pos 1) ∷ []) ∷ []))

-- `a < b <= c`: comparisons of two kinds
abbrev pub MixedComparison : Type 0
MixedComparison = IsReadAs (codes "a < b <= c") (named (codes "Inequality") (full.symbol (codes "a") ∷ full.symbol (codes "Less") ∷ full.symbol (codes "b") ∷ full.symbol (codes "LessEqual") ∷ full.symbol (codes "c") ∷ []))

-- `a - 2 b` and `a - (2)`: negation turns the number that a product begins with, and stops at parentheses
abbrev pub Negations : Type 0
Negations =
    IsReadAs (codes "a - 2 b") (named (codes "Plus") (full.symbol (codes "a") ∷ named (codes "Times") (whole_number (negsuc 1) ∷ full.symbol (codes "b") ∷ []) ∷ []))
    × IsReadAs (codes "a - (2)") (named (codes "Plus") (full.symbol (codes "a") ∷ named (codes "Times") (whole_number (negsuc 0) ∷ whole_number (pos 2) ∷ []) ∷ []))

-- `g/:a=. x=5` has a tree, though what it begins with, `g/:a=. x`, is refused below
abbrev pub DottedTag : Type 0
DottedTag =
    IsReadAs (codes "g/:a=. x=5")
    (named (codes "TagSet") (full.symbol (codes "g") ∷ named (codes "Times") (named (codes "Unset") (full.symbol (codes "a") ∷ []) ∷ full.symbol (codes "x") ∷ []) ∷ whole_number (pos 5) ∷ []))

-- a sign that can't stand there; the beginning of a definition for a tag; and one that has no such end
abbrev pub Refusals : Type 0
Refusals = Refused (codes "x ^ ^ 2") (Unexpected 5) × Refused (codes "g /: l") Unclosed × Refused (codes "g/:a=. x") (Unexpected 8)

abbrev pub WorkedCells : Type 0
WorkedCells = LoosePostfix × MixedComparison × Negations × DottedTag × Refusals
