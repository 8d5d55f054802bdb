-- Syntax trees, which keep their parentheses; how they read, and which are right.
use Rattle.std.specs.Prelude.{ℕ, Bool, true, false, ◌≡◌, List, [], ◌∷◌, ◌++◌, Option, Some, None}
use Rattle.wl_syntax.specs.declared.operator.Infix.{Infix}
use Rattle.wl_syntax.specs.declared.operator.Infix.TheVariants.{Message, Beside, Set, SetDelayed, Tag}
use Rattle.wl_syntax.specs.declared.operator.Prefix.{Prefix}
use Rattle.wl_syntax.specs.declared.operator.Postfix.{Postfix}
use Rattle.wl_syntax.specs.declared.operator.Postfix.TheVariants.{Unset}
use Rattle.wl_syntax.specs.declared.operator.Sign.{Sign}
use Rattle.wl_syntax.specs.declared.operator.Sign.TheVariants as sign
use Rattle.wl_syntax.specs.Token.{Atom, name, text, Token}
use Rattle.wl_syntax.specs.Token as token
use Rattle.wl_syntax.specs.Table.{square_level, semi_level, infix_level, prefix_level, postfix_level, takes, leaves, infix_sign, prefix_sign, postfix_sign}

-- last t is t with a `;` that nothing follows.
mutual
  pub data Tree : Type 0 where
    leaf : Atom → Tree
    paren : Tree → Tree
    brace : Elems → Tree
    call : Tree → Elems → Tree
    part : Tree → Elems → Tree → Tree
    before : Prefix → Tree → Tree
    after : Tree → Postfix → Tree
    last : Tree → Tree
    between : Tree → Infix → Tree → Tree

  -- elements, the last one outermost; a part has one more index than these
  pub data Elems : Type 0 where
    none : Elems
    more : Elems → Tree → Elems

abbrev pub sign_tokens : Option Sign → List Token
sign_tokens None = []
sign_tokens (Some g) = token.sign g ∷ []

-- the comma between elements and the next one
abbrev pub comma_after : Elems → List Token
comma_after none = []
comma_after (more _ _) = token.comma ∷ []

-- the leaves and signs in order
unfoldable mutual
  pub reads : Tree → List Token
  reads (leaf a) = token.atom a ∷ []
  reads (paren t) = token.open_round ∷ (reads t ++ token.close_round ∷ [])
  reads (brace xs) = token.open_brace ∷ (read_elems xs ++ token.close_brace ∷ [])
  reads (call f xs) = reads f ++ token.open_square ∷ (read_elems xs ++ token.close_square ∷ [])
  reads (part f xs t) = reads f ++ token.open_square ∷ token.open_square ∷ (read_elems xs ++ (comma_after xs ++ (reads t ++ token.close_square ∷ token.close_square ∷ [])))
  reads (before o t) = token.sign (prefix_sign o) ∷ reads t
  reads (after t o) = reads t ++ token.sign (postfix_sign o) ∷ []
  reads (last t) = reads t ++ token.sign sign.Semicolon ∷ []
  reads (between l o r) = reads l ++ (sign_tokens (infix_sign o) ++ reads r)

  pub read_elems : Elems → List Token
  read_elems none = []
  read_elems (more xs t) = read_elems xs ++ (comma_after xs ++ reads t)

-- The levels of the operators on the right edge: the tree's own and, behind an infix or prefix operator, those of its
-- right child. A postfix operator, an atom and a bracket end the edge.
unfoldable pub right_edge : Tree → List ℕ
right_edge (between _ o r) = infix_level o ∷ right_edge r
right_edge (before o r) = prefix_level o ∷ right_edge r
right_edge _ = []

-- and on the left edge
unfoldable pub left_edge : Tree → List ℕ
left_edge (between l o _) = infix_level o ∷ left_edge l
left_edge (after l o) = postfix_level o ∷ left_edge l
left_edge (last l) = semi_level ∷ left_edge l
left_edge (call f _) = square_level ∷ left_edge f
left_edge (part f _ _) = square_level ∷ left_edge f
left_edge _ = []

-- whether the tree begins with an atom, `(` or `{`
unfoldable pub begins_open : Tree → Bool
begins_open (before _ _) = false
begins_open (between l _ _) = begins_open l
begins_open (after l _) = begins_open l
begins_open (last l) = begins_open l
begins_open (call f _) = begins_open f
begins_open (part f _ _) = begins_open f
begins_open _ = true

-- whether its last token is a postfix `;`
unfoldable pub ends_last : Tree → Bool
ends_last (last _) = true
ends_last (between _ _ r) = ends_last r
ends_last (before _ r) = ends_last r
ends_last _ = false

-- each level passes the test
abbrev pub Each : (ℕ → Bool) → List ℕ → Type 0
Each test [] = Unit {0}
Each test (n ∷ ns) = (test n ≡ true) × Each test ns

-- An operator of level q takes t as its left child: nothing on t's right edge binds looser. Behind t stands a sign or a
-- bracket that opens, so a `;` that ends t would be infix; it is postfix only at the end of an element or of the text.
abbrev pub TakesLeft : ℕ → Tree → Type 0
TakesLeft q t = Each (takes q) (right_edge t) × (ends_last t ≡ false)

-- one of level p takes t as its right child
abbrev pub TakesRight : ℕ → Tree → Type 0
TakesRight p t = Each (leaves p) (left_edge t)

unfoldable pub is_name : Tree → Bool
is_name (leaf (name _)) = true
is_name _ = false

unfoldable pub is_name_or_text : Tree → Bool
is_name_or_text (leaf (name _)) = true
is_name_or_text (leaf (text _)) = true
is_name_or_text _ = false

-- `l = r`, `l := r` or `l =.`
unfoldable pub is_definition : Tree → Bool
is_definition (between _ Set _) = true
is_definition (between _ SetDelayed _) = true
is_definition (after _ Unset) = true
is_definition _ = false

-- What single operators ask of their children besides: `s::t` is of names, the right side of a juxtaposition begins with
-- no sign, and `g /:` is followed by a definition.
abbrev pub Asks : Infix → Tree → Tree → Type 0
Asks Message l r = (is_name l ≡ true) × (is_name_or_text r ≡ true)
Asks Beside l r = begins_open r ≡ true
Asks Tag l r = is_definition r ≡ true
Asks _ l r = Unit {0}

unfoldable mutual
  pub Right : Tree → Type 0
  Right (leaf _) = Unit {0}
  Right (paren t) = Right t
  Right (brace xs) = RightElems xs
  Right (call f xs) = Right f × TakesLeft square_level f × RightElems xs
  Right (part f xs t) = Right f × TakesLeft square_level f × RightElems xs × Right t
  Right (before o r) = Right r × TakesRight (prefix_level o) r
  Right (after l o) = Right l × TakesLeft (postfix_level o) l
  Right (last l) = Right l × TakesLeft semi_level l
  Right (between l o r) = Right l × Right r × TakesLeft (infix_level o) l × TakesRight (infix_level o) r × Asks o l r

  pub RightElems : Elems → Type 0
  RightElems none = Unit {0}
  RightElems (more xs t) = RightElems xs × Right t
