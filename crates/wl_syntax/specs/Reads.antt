-- What a cell reads as, by the first of these causes that holds: its bytes aren't text, a token is at fault, its tokens are no
-- right text but the beginning of one, one of them is unexpected, or their tree is too deep. Else it is the expression of its tree, without stamps.
use Rattle.std.specs.Prelude.{ℕ, ◌≡◌, ◌≤◌, ◌<◌, List, Some, None, Result, Ok, Err, map}
use Rattle.std.specs.Str.{IsUtf8}
use Rattle.std.specs.List.{slice_get}
use Rattle.wl_expr.specs.Stamped.{Stamped, plain, unstamped}
use Rattle.wl_expr.specs.Tree as full
use Rattle.wl_scan.specs.Tokens.{Lexeme, scanned}
use Rattle.wl_syntax.specs.declared.fault.SyntaxFault.{SyntaxFault}
use Rattle.wl_syntax.specs.declared.fault.SyntaxFault.TheVariants.{NotUtf8, Scan, Unclosed, Unexpected, TooDeep, Memory}
use Rattle.wl_syntax.specs.Parsed.{IsTreeOf, IsUnclosed, IsUnexpected}
use Rattle.wl_syntax.specs.Depth.{depth, max_depth}
use Rattle.wl_syntax.specs.Lexer.{tokens}
use Rattle.wl_syntax.specs.Lower.{lower}
use Rattle.wl_syntax.specs.Tree.{Tree}

-- the bytes are a text without a fault of a token
abbrev pub IsScanned : List ℕ → Type 0
IsScanned bytes = IsUtf8 bytes × ((scanned bytes).fault ≡ None)

-- a token of the text stands at this byte, and this many before it
abbrev pub StandsAt : List ℕ → ℕ → ℕ → Type 0
StandsAt bytes place at = slice_get (map (λ t. t.at) (scanned bytes).tokens) place ≡ Some at

-- the right tree of the bytes
abbrev pub HasTree : List ℕ → Tree → Type 0
HasTree bytes t = IsScanned bytes × IsTreeOf (tokens bytes) t

-- The cause of each refusal. Want of memory has none.
abbrev pub Refused : List ℕ → SyntaxFault → Type 0
Refused bytes NotUtf8 = IsUtf8 bytes → ⊥
Refused bytes (Scan f) = IsUtf8 bytes × ((scanned bytes).fault ≡ Some f)
Refused bytes Unclosed = IsScanned bytes × IsUnclosed (tokens bytes)
Refused bytes (Unexpected at) = IsScanned bytes × ((place : ℕ) × IsUnexpected (tokens bytes) place × StandsAt bytes place at)
Refused bytes TooDeep = (t : Tree) × HasTree bytes t × (max_depth < depth t)
Refused bytes Memory = Unit {0}

-- The bytes have a right tree, which isn't too deep, and e is what it stands for.
pub record IsReadAs (bytes : List ℕ) (e : full.Tree) : Type 0 where
  pub tree : Tree
  pub right : HasTree bytes tree
  pub shallow : depth tree ≤ max_depth
  pub lowered : e ≡ lower tree

abbrev pub Reads : List ℕ → Result Stamped SyntaxFault → Type 0
Reads bytes (Ok e) = IsReadAs bytes (plain e) × (e ≡ unstamped (plain e))
Reads bytes (Err f) = Refused bytes f

-- the tokens of a text, or its fault
abbrev pub Scans : {V : Type 0} → List ℕ → (V → List Lexeme) → Result V SyntaxFault → Type 0
Scans bytes lexemes (Ok v) = ((scanned bytes).tokens ≡ lexemes v) × ((scanned bytes).fault ≡ None)
Scans bytes lexemes (Err (Scan f)) = (scanned bytes).fault ≡ Some f
Scans bytes lexemes (Err Memory) = Unit {0}
Scans bytes lexemes (Err _) = ⊥
