-- The expression that a syntax tree stands for.
use Rattle.std.specs.Prelude.{ℕ, zero, suc, negsuc, neg_ℤ, Bool, true, false, List, [], ◌∷◌, ◌++◌, Option, Some, None, option_map, codes, if◌then◌else◌}
use Rattle.wl_expr.specs.Tree as full
use Rattle.wl_expr.specs.Tree.{from_list, to_list}
use Rattle.wl_syntax.specs.declared.operator.Infix.{Infix}
use Rattle.wl_syntax.specs.declared.operator.Infix.TheVariants.{Message, Of, Divide, Times, Beside, Minus, Colon, Into, Tag, Semi}
use Rattle.wl_syntax.specs.declared.operator.Prefix.{Prefix}
use Rattle.wl_syntax.specs.declared.operator.Prefix.TheVariants.{Negate}
use Rattle.wl_syntax.specs.declared.chain.Form.{Form}
use Rattle.wl_syntax.specs.declared.chain.Form.TheVariants.{Name, Chain, Inequality, Defines}
use Rattle.wl_syntax.specs.declared.chain.Tagged.{Tagged}
use Rattle.wl_syntax.specs.declared.chain.Tagged.TheVariants.{TagSet, TagSetDelayed, TagUnset}
use Rattle.wl_syntax.specs.declared.chain.Link.{Link}
use Rattle.wl_syntax.specs.declared.chain.Link.TheVariants.{Alone, GoesOn, Mixes, MixesOn, Nests, NestsOn}
use Rattle.wl_syntax.specs.Atoms.{named, atom_tree, whole_number}
use Rattle.wl_syntax.specs.Chain.{form, link}
use Rattle.wl_syntax.specs.Table.{infix_name, prefix_name, postfix_name}
use Rattle.wl_syntax.specs.Token.{number}
use Rattle.wl_syntax.specs.Tree.{Tree, leaf, paren, brace, call, part, before, after, last, between, Elems, none, more}

-- The items of a chain are its operands so far, those of any other tree are one expression. This is the expression of both.
abbrev pub whole : Form → List full.Tree → full.Tree
whole (Chain o) es = named (infix_name o) es
whole Inequality es = named (codes "Inequality") es
whole _ (e ∷ es) = e
whole _ [] = full.text []

abbrev pub further : Option ℕ → Option ℕ
further n = option_map (λ k. suc k) n

-- a product that goes on is led through once
abbrev pub reach_in : Link → Option ℕ → Option ℕ
reach_in GoesOn n = n
reach_in _ n = further n

-- that of an operator, from that of its left side
abbrev pub joined_reach : Infix → Link → Option ℕ → Option ℕ
joined_reach Divide k n = further n
joined_reach Times k n = reach_in k n
joined_reach Beside k n = reach_in k n
joined_reach _ k n = None

-- How many first elements lead from an expression to the number that negation turns in its place: through the left side of
-- a `/` and the first operand of a product.
abbrev pub reach : Tree → Option ℕ
reach (leaf (number _)) = Some 0
reach (between l o r) = joined_reach o (link o (form l)) (reach l)
reach _ = None

abbrev pub negated_at : ℕ → full.Tree → full.Tree
negated_at zero (full.num f) = whole_number (neg_ℤ f.num)
negated_at (suc n) (full.node h (full.more t ts)) = full.node h (full.more (negated_at n t) ts)
negated_at _ e = e

abbrev pub minus_one : full.Tree
minus_one = whole_number (negsuc 0)

abbrev pub is_product : Form → Bool
is_product (Chain Times) = true
is_product (Chain Beside) = true
is_product _ = false

-- The negative of a tree of this form and reach: a number that it begins with is negated in its place; else -1 is put before
-- the operands of a product, and else before the whole.
abbrev pub negative : Form → Option ℕ → List full.Tree → full.Tree
negative f (Some n) es = negated_at n (whole f es)
negative f None es = if is_product f then named (codes "Times") (minus_one ∷ es) else named (codes "Times") (minus_one ∷ whole f es ∷ [])

abbrev pub prefixed : Prefix → Form → Option ℕ → List full.Tree → full.Tree
prefixed Negate f n es = negative f n es
prefixed o f n es = named (prefix_name o) (whole f es ∷ [])

-- the right operand; behind a `-` its negative
abbrev pub operand_of : Infix → Form → Option ℕ → List full.Tree → full.Tree
operand_of Minus f n es = negative f n es
operand_of o f n es = whole f es

abbrev pub as_text : full.Tree → full.Tree
as_text (full.symbol s) = full.text s
as_text e = e

abbrev pub args_of : full.Tree → List full.Tree
args_of (full.node h ts) = to_list ts
args_of e = []

abbrev pub tagged_name : Tagged → List ℕ
tagged_name TagSet = codes "TagSet"
tagged_name TagSetDelayed = codes "TagSetDelayed"
tagged_name TagUnset = codes "TagUnset"

abbrev pub tag_of : Tagged → full.Tree → full.Tree → full.Tree
tag_of d l r = named (tagged_name d) (l ∷ args_of r)

abbrev pub colon_of : Form → full.Tree → full.Tree → full.Tree
colon_of Name l r = named (codes "Pattern") (l ∷ r ∷ [])
colon_of _ l r = named (codes "Optional") (l ∷ r ∷ [])

-- an operator that is no chain, between sides of these forms
abbrev pub pair_of : Infix → Form → Form → full.Tree → full.Tree → full.Tree
pair_of Message f g l r = named (codes "MessageName") (l ∷ as_text r ∷ [])
pair_of Of f g l r = full.node l (from_list (r ∷ []))
pair_of Into f g l r = full.node r (from_list (l ∷ []))
pair_of Divide f g l r = named (codes "Times") (l ∷ named (codes "Power") (r ∷ minus_one ∷ []) ∷ [])
pair_of Colon f g l r = colon_of f l r
pair_of Tag f (Defines d) l r = tag_of d l r
pair_of o f g l r = named (infix_name o) (l ∷ r ∷ [])

abbrev pub before_each : full.Tree → List full.Tree → List full.Tree
before_each s [] = []
before_each s (e ∷ es) = s ∷ e ∷ before_each s es

-- operands with the sign between each two
abbrev pub separated : full.Tree → List full.Tree → List full.Tree
separated s [] = []
separated s (e ∷ es) = e ∷ before_each s es

-- pairs, nested to the left
abbrev pub nested_on : Infix → full.Tree → List full.Tree → full.Tree
nested_on p e [] = e
nested_on p e (f ∷ fs) = nested_on p (named (infix_name p) (e ∷ f ∷ [])) fs

abbrev pub nested : Infix → List full.Tree → full.Tree
nested p [] = full.text []
nested p (e ∷ es) = nested_on p e es

-- a chain with one more operand: its left side has these items and is this expression
abbrev pub chained : Infix → Link → List full.Tree → full.Tree → full.Tree → List full.Tree
chained o GoesOn es l r = es ++ r ∷ []
chained o (Mixes p) es l r = separated (full.symbol (infix_name p)) es ++ full.symbol (infix_name o) ∷ r ∷ []
chained o MixesOn es l r = es ++ full.symbol (infix_name o) ∷ r ∷ []
chained o (Nests p) es l r = named (infix_name o) (nested p es ∷ r ∷ []) ∷ []
chained o NestsOn es l r = named (infix_name o) (l ∷ r ∷ []) ∷ []
chained o _ es l r = l ∷ r ∷ []

abbrev pub joined : Infix → Link → Form → Form → List full.Tree → full.Tree → full.Tree → full.Tree → List full.Tree
joined o Alone f g es l r operand = pair_of o f g l r ∷ []
joined o k f g es l r operand = chained o k es l operand

-- the elements before a last `;`
abbrev pub statements : Link → List full.Tree → full.Tree → List full.Tree
statements GoesOn es l = es
statements _ es l = l ∷ []

abbrev mutual
  pub items : Tree → List full.Tree
  items (leaf a) = atom_tree a ∷ []
  items (paren t) = whole (form t) (items t) ∷ []
  items (brace xs) = named (codes "List") (elements xs) ∷ []
  items (call f xs) = full.node (whole (form f) (items f)) (from_list (elements xs)) ∷ []
  items (part f xs t) = named (codes "Part") (whole (form f) (items f) ∷ (elements xs ++ whole (form t) (items t) ∷ [])) ∷ []
  items (before o t) = prefixed o (form t) (reach t) (items t) ∷ []
  items (after t o) = named (postfix_name o) (whole (form t) (items t) ∷ []) ∷ []
  items (last t) = named (codes "CompoundExpression") (statements (link Semi (form t)) (items t) (whole (form t) (items t)) ++ full.symbol (codes "Null") ∷ []) ∷ []
  items (between l o r) = joined o (link o (form l)) (form l) (form r) (items l) (whole (form l) (items l)) (whole (form r) (items r)) (operand_of o (form r) (reach r) (items r))

  pub elements : Elems → List full.Tree
  elements none = []
  elements (more xs t) = elements xs ++ whole (form t) (items t) ∷ []

-- the expression
abbrev pub lower : Tree → full.Tree
lower t = whole (form t) (items t)
