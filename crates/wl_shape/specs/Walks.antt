-- What the walk over an expression sees of it.
use Rattle.std.specs.Prelude.{◌≡◌, Bool, true, false, ◌||◌, ◌&&◌, is_some, List, Some, None, codes}
use Rattle.wl_expr.specs.Same.{is_name_among}
use Rattle.wl_expr.specs.Tree.{Tree, Trees, num, text, symbol, node, none, more}
use Rattle.wl_expr.specs.Words.{Name, is_the}
use Rattle.wl_shape.specs.Fill.{Values, Inside, fill, fill_all, fill_first, fill_scope, filled_symbol, inside}
use Rattle.wl_shape.specs.Held.{values_in}
use Rattle.wl_shape.specs.Locals.{two_of}
use Rattle.wl_shape.specs.Scopes.{parameters}
use Rattle.wl_shape.specs.Standing.{IsNotLarger}
use Rattle.wl_shape.specs.declared.values.Values as code

-- whether a node has the head and the number of elements of a scope
abbrev pub may_be_scope : Tree → Trees → Bool
may_be_scope h ts = is_some (two_of ts) && (is_the (codes "Function") h || is_the (codes "Module") h || is_the (codes "With") h)

-- whether such a node stands in a tree
abbrev mutual
  pub has_scope : Tree → Bool
  has_scope (num n) = false
  has_scope (text s) = false
  has_scope (symbol x) = false
  has_scope (node h ts) = may_be_scope h ts || has_scope h || have_scopes ts

  pub have_scopes : Trees → Bool
  have_scopes none = false
  have_scopes (more t ts) = has_scope t || have_scopes ts

-- the elements of a node with this head, filled
abbrev pub fill_elements : Values → Tree → Trees → Trees
fill_elements vs h ts = elim (parameters h ts) [ None ↦ fill_all vs ts | Some xs ↦ fill_scope vs (inside xs vs ts) ts ]

abbrev pub inside_with : code.Values → code.Values → Inside
inside_with renamed inner = record { renamed = values_in renamed; inner = values_in inner }

-- what stands for these names as parameters stands in the first of these elements, filled
abbrev pub AreParameters : List Name → Trees → Type 0
AreParameters xs none = ⊥
AreParameters xs (more t ts) = (vs rs : Values) (x : Name) → is_name_among x xs ≡ true → IsNotLarger (filled_symbol x (rs x)) (fill_first vs rs t)
