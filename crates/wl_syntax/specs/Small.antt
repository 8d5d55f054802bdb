-- The trees of the texts of cells: what the tokens of a tree weigh at most in its expression, and the forms of its atoms.
use Rattle.std.specs.Prelude.{ℕ, ◌+◌, ◌*◌, ◌≤◌, List, [], ◌∷◌}
use Rattle.wl_expr.specs.Tree.{weight}
use Rattle.wl_scan.specs.Forms.{IsNumber, IsWord, IsPattern, IsSlot, IsOut}
use Rattle.wl_syntax.specs.declared.operator.Sign.{Sign}
use Rattle.wl_syntax.specs.declared.operator.Sign.TheVariants as sign
use Rattle.wl_syntax.specs.declared.operator.Infix.{Infix}
use Rattle.wl_syntax.specs.declared.build.Group.{Group}
use Rattle.wl_syntax.specs.declared.build.Item.{Item}
use Rattle.wl_syntax.specs.Atoms.{atom_tree}
use Rattle.wl_syntax.specs.Built.{Is, IsGroup, Piece, tree, calling, listing, Pieces, pieces, lost}
use Rattle.wl_syntax.specs.Token.{Atom, number, name, pattern, slot, output, text, Token}
use Rattle.wl_syntax.specs.Token as token
use Rattle.wl_syntax.specs.Tree.{Tree, leaf, paren, brace, call, part, before, after, last, between, Elems, none, more, Right, reads}

-- the bytes of a sign
unfoldable pub sign_bytes : Sign → ℕ
sign_bytes sign.Question = 1
sign_bytes sign.At = 1
sign_bytes sign.Caret = 1
sign_bytes sign.Slash = 1
sign_bytes sign.Star = 1
sign_bytes sign.Plus = 1
sign_bytes sign.Dash = 1
sign_bytes sign.Less = 1
sign_bytes sign.Greater = 1
sign_bytes sign.Bar = 1
sign_bytes sign.Colon = 1
sign_bytes sign.Equals = 1
sign_bytes sign.Semicolon = 1
sign_bytes sign.Bang = 1
sign_bytes sign.Ampersand = 1
sign_bytes sign.AtAtAt = 3
sign_bytes sign.EqualsEqualsEquals = 3
sign_bytes sign.EqualsBangEquals = 3
sign_bytes sign.SlashSlashDot = 3
sign_bytes sign.CaretColonEquals = 3
sign_bytes sign.DotDotDot = 3
sign_bytes sign.Unused = 0
sign_bytes _ = 2

-- An atom weighs what its expression does, and 9 for the operators beside it; the others 15 a byte.
unfoldable pub cost : Token → ℕ
cost (token.atom a) = weight (atom_tree a) + 9
cost (token.sign g) = 15 * sign_bytes g
cost _ = 15

unfoldable pub costs : List Token → ℕ
costs [] = 0
costs (k ∷ ks) = cost k + costs ks

-- what the tokens of 131,072 bytes cost at most, 15 a byte
abbrev pub max_cost : ℕ
max_cost = 1966080

-- an atom has the form of its kind
abbrev pub IsAtom : Atom → Type 0
IsAtom (number s) = IsNumber s
IsAtom (name s) = IsWord s
IsAtom (pattern s) = IsPattern s
IsAtom (slot s) = IsSlot s
IsAtom (output s) = IsOut s
IsAtom (text s) = Unit {0}

unfoldable pub TokensFit : List Token → Type 0
TokensFit [] = Unit {0}
TokensFit (token.atom a ∷ ks) = IsAtom a × TokensFit ks
TokensFit (_ ∷ ks) = TokensFit ks

-- and so has each of a tree
unfoldable mutual
  pub AtomsFit : Tree → Type 0
  AtomsFit (leaf a) = IsAtom a
  AtomsFit (paren t) = AtomsFit t
  AtomsFit (brace xs) = ElemsFit xs
  AtomsFit (call f xs) = AtomsFit f × ElemsFit xs
  AtomsFit (part f xs t) = AtomsFit f × ElemsFit xs × AtomsFit t
  AtomsFit (before o t) = AtomsFit t
  AtomsFit (after t o) = AtomsFit t
  AtomsFit (last t) = AtomsFit t
  AtomsFit (between l o r) = AtomsFit l × AtomsFit r

  pub ElemsFit : Elems → Type 0
  ElemsFit none = Unit {0}
  ElemsFit (more xs t) = ElemsFit xs × AtomsFit t

-- a right tree of the tokens of at most 131,072 bytes
pub record IsSmall (t : Tree) : Type 0 where
  pub right : Right t
  pub forms : AtomsFit t
  pub light : costs (reads t) ≤ max_cost

-- what the builder's stack stands for
abbrev pub IsSmallPiece : Piece → Type 0
IsSmallPiece (tree t) = IsSmall t
IsSmallPiece (calling f xs) = IsSmall (call f xs)
IsSmallPiece (listing xs) = IsSmall (brace xs)

abbrev pub AllSmall : List Piece → Type 0
AllSmall [] = Unit {0}
AllSmall (p ∷ ps) = IsSmallPiece p × AllSmall ps

abbrev pub AreSmall : Pieces → Type 0
AreSmall (pieces ps) = AllSmall ps
AreSmall lost = ⊥

-- What the builder's calls ask of their items: that the tree which they make is small.
abbrev pub FitsItem : Item → (Tree → Tree) → Type 0
FitsItem i f = (t : Tree) × Is i (tree t) × IsSmall (f t)

abbrev pub FitItems : Item → Item → (Tree → Tree → Tree) → Type 0
FitItems i j f = (l : Tree) × (r : Tree) × Is i (tree l) × Is j (tree r) × IsSmall (f l r)

abbrev pub FitGroups : Group → Group → Infix → Type 0
FitGroups g h o = (l : Tree) × (r : Tree) × IsGroup g l × IsGroup h r × IsSmall (between l o r)
