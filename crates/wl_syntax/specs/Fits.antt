-- What the calls that make an expression ask of its parts, which have no stamps: that what is made is within the limits.
use Rattle.std.specs.Prelude.{ℕ, ◌≡◌, List, Option}
use Rattle.wl_expr.specs.Stamped.{Stamped, unstamped}
use Rattle.wl_expr.specs.Tree as full
use Rattle.wl_expr.specs.Tree.{IsWithinLimits, AreSmall, from_list}
use Rattle.wl_syntax.specs.declared.operator.Infix.{Infix}
use Rattle.wl_syntax.specs.declared.chain.Form.{Form}
use Rattle.wl_syntax.specs.declared.chain.Link.{Link}
use Rattle.wl_syntax.specs.Built.{unstamped_all}
use Rattle.wl_syntax.specs.Lower.{whole, operand_of, nested_on, chained, joined}

-- what is made of one
abbrev pub FitsOf : Stamped → (full.Tree → full.Tree) → Type 0
FitsOf a f = (t : full.Tree) × (a ≡ unstamped t) × IsWithinLimits (f t)

-- of two
abbrev pub FitsOfTwo : Stamped → Stamped → (full.Tree → full.Tree → full.Tree) → Type 0
FitsOfTwo a b f = (l : full.Tree) × (r : full.Tree) × (a ≡ unstamped l) × (b ≡ unstamped r) × IsWithinLimits (f l r)

-- of some
abbrev pub FitsOfAll : List Stamped → (List full.Tree → full.Tree) → Type 0
FitsOfAll vs f = (es : List full.Tree) × (vs ≡ unstamped_all es) × IsWithinLimits (f es)

-- nested pairs
abbrev pub FitsNested : Infix → Stamped → List Stamped → Type 0
FitsNested p a vs = (e : full.Tree) × (fs : List full.Tree) × (a ≡ unstamped e) × (vs ≡ unstamped_all fs) × IsWithinLimits (nested_on p e fs)

-- the items of a chain with one more operand
abbrev pub FitChained : Infix → Link → Form → List Stamped → Stamped → Type 0
FitChained o k f vs a = (es : List full.Tree) × (r : full.Tree) × (vs ≡ unstamped_all es) × (a ≡ unstamped r) × AreSmall (from_list (chained o k es (whole f es) r))

-- the items of an operator between two sides, and both sides
pub record FitSides (o : Infix) (k : Link) (f g : Form) (n : Option ℕ) (es gs : List full.Tree) : Type 0 where
  pub left : IsWithinLimits (whole f es)
  pub right : IsWithinLimits (whole g gs)
  pub operand : IsWithinLimits (operand_of o g n gs)
  pub items : AreSmall (from_list (joined o k f g es (whole f es) (whole g gs) (operand_of o g n gs)))

abbrev pub FitJoined : Infix → Link → Form → List Stamped → Form → Option ℕ → List Stamped → Type 0
FitJoined o k f vs g n ws = (es : List full.Tree) × (gs : List full.Tree) × (vs ≡ unstamped_all es) × (ws ≡ unstamped_all gs) × FitSides o k f g n es gs
