-- What an expression is seen as.
use Rattle.std.specs.Prelude.{◌≡◌, Option, string_bytes, option_map}
use Rattle.wl_expr.specs.Tree as tree
use Rattle.wl_expr.specs.Tree.{IsWithinLimits}
use Rattle.wl_expr.specs.Hash.{tree_hash}
use Rattle.wl_expr.specs.Proper.{IsProper}
use Rattle.wl_expr.specs.Stamped.{Stamped, num, text, symbol, node, from_list, plain, stamp_of}
use Rattle.wl_expr.specs.declared.stamp.Stamp.{Stamp}
use Rattle.wl_expr.specs.declared.expr.Expr.TheInside.{Inside}
use Rattle.wl_expr.specs.declared.expr.Shape.{Shape}
use Rattle.wl_expr.specs.declared.expr.Shape.TheVariants.{Number, Text, Symbol, Node}

-- the tree of this shape, with this stamp on top
abbrev pub shaped : Option Stamp → Shape → Stamped
shaped p (Number n) = num n
shaped p (Text s) = text (string_bytes s)
shaped p (Symbol s) = symbol p (string_bytes s)
shaped p (Node h ts) = node p h (from_list ts.items)

abbrev pub tree_of : Inside → Stamped
tree_of e = shaped (option_map (λ r. r.value) e.stamp) e.body.value.shape

-- the weight, the depth and the hash that are kept are the tree's, it is proper and within the limits, and a stamp stands on a symbol or a node alone
pub record IsCached (e : Inside) : Type 0 where
  pub weight : e.body.value.weight ≡ tree.weight (plain (tree_of e))
  pub depth : e.body.value.depth ≡ tree.depth (plain (tree_of e))
  pub hash : e.body.value.hash ≡ tree_hash (plain (tree_of e))
  pub fits : IsWithinLimits (plain (tree_of e))
  pub proper : IsProper (plain (tree_of e))
  pub top : option_map (λ r. r.value) e.stamp ≡ stamp_of (tree_of e)
