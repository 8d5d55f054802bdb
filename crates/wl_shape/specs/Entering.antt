-- What stands for names inside a scope, as the code makes it.
use Rattle.std.specs.Prelude.{◌≡◌, Bool, true, false, List, [], ◌∷◌, ◌++◌, Option, Some, None, bytes_eq}
use Rattle.wl_expr.specs.Same.{is_name_among}
use Rattle.wl_expr.specs.Stamped.{Stamped}
use Rattle.wl_expr.specs.Tree.{Tree, symbol, IsWithinLimits}
use Rattle.wl_expr.specs.Words.{Name}
use Rattle.wl_shape.specs.Fill.{Values, filled_symbol, new_name, or_else}
use Rattle.wl_shape.specs.Names.{has_name}

-- what stands for those names that are among these symbols, in the place of what stood for them
abbrev pub put_values : List Stamped → Values → Values → Values
put_values ks vs ws x = or_else (elim (has_name ks x) [ true ↦ vs x | false ↦ None ]) (ws x)

-- the new name of a parameter stands for it
abbrev pub put_new_name : List Name → Tree → Values → Values
put_new_name taken (symbol y) vs x = elim (bytes_eq x y) [ true ↦ Some (symbol (new_name taken y)) | false ↦ vs x ]
put_new_name taken t vs x = vs x

-- the new name of this parameter doesn't fit
abbrev pub IsTooLong : List Name → Tree → Type 0
IsTooLong taken (symbol y) = ¬ IsWithinLimits (symbol (new_name taken y))
IsTooLong taken t = ⊥

-- what stands for some of these names doesn't fit
pub record OneTooLong (xs : List Name) (rs : Values) : Type 0 where
  pub name : Name
  pub among : is_name_among name xs ≡ true
  pub large : ¬ IsWithinLimits (filled_symbol name (rs name))
