-- Words for the steps of the writer.
use Rattle.std.specs.Prelude.{ℕ, Bool, true, false, ◌≡◌, ◌≢◌, ◌<◌, nat_le, List, [], ◌∷◌, ◌++◌, codes, length, if◌then◌else◌, Option, Some, None}
use Rattle.std.specs.Str.{bytes_eq}
use Rattle.wl_expr.specs.Stamped.{Stamped, plain, plains, from_list, unstamped}
use Rattle.wl_expr.specs.Tree as tree
use Rattle.wl_expr.specs.Tree.{Tree, Trees}
use Rattle.wl_form.specs.declared.leaves.Turn.{Turn as CodeTurn}
use Rattle.wl_form.specs.declared.leaves.Turn.TheVariants as code_turn
use Rattle.wl_form.specs.declared.operator.Infix.{Infix}
use Rattle.wl_form.specs.declared.operator.Infix.TheVariants as between_op
use Rattle.wl_form.specs.declared.operator.Prefix.{Prefix}
use Rattle.wl_form.specs.declared.operator.Postfix.{Postfix}
use Rattle.wl_form.specs.declared.operator.Row.{Row}
use Rattle.wl_form.specs.declared.operator.Row.TheVariants as row
use Rattle.wl_form.specs.Boxes.{Piece, between, boxed, pieces, box_of, operand_pieces}
use Rattle.wl_form.specs.Heads.{row_of}
use Rattle.wl_form.specs.Operators.{infix_level, infix_text, prefix_level, postfix_level}
use Rattle.wl_form.specs.Pages.{Page, opened, put_box, taken}
use Rattle.wl_form.specs.Shown.{Shown, level, operand, operand_or_equal, right_operand, call, chain, behind, nothing, before, after, none}
use Rattle.wl_form.specs.Table.{Showing, showing, showings, elems, terms_after, part_of, statements, ends_in_null, product_by, turn_of, opposed, dropped, stays, first_number, is_symbol}
use Rattle.wl_form.specs.Words.{word_of}

-- parentheses, where they are asked for

abbrev pub opening : Bool → List Piece
opening b = if b then between (codes "(") ∷ [] else []

abbrev pub closing : Bool → List Piece
closing b = if b then between (codes ")") ∷ [] else []

-- the box of what is printed, as operand of an operator of this level
abbrev pub placed : ℕ → Shown → List Piece
placed q s = opening (nat_le q (level s)) ++ (boxed (box_of (pieces s)) ∷ closing (nat_le q (level s)))

-- the operands of a chain behind the first
abbrev pub further_pieces : Infix → List Showing → List Piece
further_pieces o [] = []
further_pieces o (y ∷ ys) = between (infix_text o) ∷ (placed (infix_level o) y.whole ++ further_pieces o ys)

-- the later terms of a sum, each with its sign

abbrev pub term_pieces : Showing → List Piece
term_pieces y = between (infix_text y.sign) ∷ operand_pieces y.term (pieces y.term)

abbrev pub terms_pieces : List Showing → List Piece
terms_pieces [] = []
terms_pieces (y ∷ ys) = term_pieces y ++ terms_pieces ys

-- elements with commas between them, and nothing before the first

abbrev pub more_pieces : List Showing → List Piece
more_pieces [] = []
more_pieces (y ∷ ys) = between (codes ", ") ∷ (placed 31 y.whole ++ more_pieces ys)

abbrev pub row_pieces : List Showing → List Piece
row_pieces [] = []
row_pieces (y ∷ ys) = between [] ∷ (placed 31 y.whole ++ more_pieces ys)

-- the box of a word
abbrev pub leaf : List ℕ → List Piece
leaf s = boxed (box_of (between s ∷ [])) ∷ []

-- the row under way has become a box
abbrev pub Closed : Bool → Page → Page → Type 0
Closed b old new = (p : Page) (ps : List Piece) → old ≡ taken (opened p) ps → new ≡ taken (put_box p (unstamped (box_of ps))) (closing b)

-- what is printed of a node, row by row

abbrev pub node_showing : Tree → Trees → Showing
node_showing h ts = showing (tree.node h ts)

abbrev pub node_shown : Tree → Trees → Shown
node_shown h ts = (node_showing h ts).whole

abbrev pub call_shown : Showing → List Showing → Shown
call_shown x ys = call (operand_or_equal 3 x.whole) (elems ys)

abbrev pub pair_shown : Infix → Showing → Showing → Shown
pair_shown o x y = chain (operand (infix_level o) x.whole) (behind nothing o (right_operand (infix_level o) y.whole))

abbrev pub before_shown : Prefix → Showing → Shown
before_shown o x = before o (operand (prefix_level o) x.whole)

abbrev pub after_shown : Postfix → Showing → Shown
after_shown o x = after (operand (postfix_level o) x.whole) o

abbrev pub sum_shown : Showing → List Showing → Shown
sum_shown x ys = chain (operand 13 x.whole) (terms_after nothing ys)

abbrev pub part_shown : Showing → List Showing → Shown
part_shown x [] = x.whole
part_shown x (y ∷ ys) = part_of (operand 3 x.whole) none y ys

abbrev pub statements_shown : Tree → Trees → Shown
statements_shown t tree.none = (showing t).whole
statements_shown t (tree.more u us) = statements (ends_in_null (tree.more t (tree.more u us))) (showing t) (showing u) (showings us)

-- a product, with a factor and more
abbrev pub product_showing : Tree → Trees → Showing
product_showing t tree.none = showing t
product_showing t (tree.more u us) = product_by (turn_of (tree.more t (tree.more u us))) (first_number (tree.more t (tree.more u us))) (showing t) (showing u) (showings us)

abbrev pub HasTurn : CodeTurn → Tree → Trees → Type 0
HasTurn (code_turn.Opposed n) t ts = (turn_of (tree.more t ts) ≡ opposed) × (t ≡ tree.num n)
HasTurn code_turn.Dropped t ts = turn_of (tree.more t ts) ≡ dropped
HasTurn code_turn.Stays t ts = turn_of (tree.more t ts) ≡ stays

-- the name `Null`, and a list that ends in it
abbrev pub is_null : Tree → Bool
is_null (tree.symbol s) = bytes_eq s (codes "Null")
is_null _ = false

abbrev pub last_is_null : List Stamped → Bool
last_is_null [] = false
last_is_null (t ∷ []) = is_null (plain t)
last_is_null (t ∷ u ∷ us) = last_is_null (u ∷ us)

abbrev pub LastNull : List Stamped → List Stamped → Type 0
LastNull ts others = (t : Stamped) × ((ts ≡ others ++ t ∷ []) × (is_null (plain t) ≡ true))

-- the operator between two elements, of which this is the first
abbrev pub operator_behind : Row → Tree → Option Infix
operator_behind (row.Pair o) t = Some o
operator_behind row.Pattern t = if is_symbol t then Some between_op.Colon else None
operator_behind row.Optional t = if is_symbol t then None else Some between_op.Colon
operator_behind _ t = None

abbrev pub pair_operator : Row → Trees → Option Infix
pair_operator r (tree.more t (tree.more u tree.none)) = operator_behind r t
pair_operator r _ = None

-- a node of two elements or more that is no word, no pair and no list
pub record IsManyRow (r : Row) (h : Tree) (es : List Stamped) (t : Stamped) (ts : List Stamped) : Type 0 where
  pub row_is : row_of h ≡ r
  pub elements : es ≡ t ∷ ts
  pub more : 0 < length ts
  pub no_word : word_of r (plains (from_list es)) ≡ None
  pub no_pair : pair_operator r (plains (from_list es)) ≡ None
  pub no_list : r ≢ row.List

pub record IsProduct (h : Tree) (es : List Stamped) (t : Stamped) (ts : List Stamped) : Type 0 where
  pub showing_is : node_showing h (plains (from_list es)) ≡ product_showing (plain t) (plains (from_list ts))
  pub elements : es ≡ t ∷ ts
  pub more : 0 < length ts
