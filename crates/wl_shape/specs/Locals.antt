-- The parameters of a scope as the code sees them: their symbols.
use Rattle.std.specs.Prelude.{List, [], ◌∷◌, ◌++◌, Option, Some, None, map, option_map}
use Rattle.wl_expr.specs.Tree.{Tree, Trees, symbol, none, more}
use Rattle.wl_expr.specs.Words.{Name}
use Rattle.wl_shape.specs.Scopes.{Needs, values, names, local_of}
use Rattle.wl_shape.specs.declared.scopes.Needs as code
use Rattle.wl_shape.specs.declared.scopes.Needs.TheVariants as variant

abbrev pub needs_of : code.Needs → Needs
needs_of variant.Values = values
needs_of variant.Names = names

abbrev pub symbols_in : Option (List Name) → Option (List Tree)
symbols_in o = option_map (map symbol) o

-- the symbol of a local variable
abbrev pub local_name : Needs → Tree → Option Tree
local_name k t = option_map (λ l. symbol l.name) (local_of k t)

abbrev pub with_name : Option Tree → Option (List Tree) → Option (List Tree)
with_name (Some t) (Some ts) = Some (t ∷ ts)
with_name _ _ = None

-- those of some, where all are local variables
abbrev pub local_names : Needs → List Tree → Option (List Tree)
local_names k [] = Some []
local_names k (t ∷ ts) = with_name (local_name k t) (local_names k ts)

-- behind those that are known already
abbrev pub behind : List Tree → Option (List Tree) → Option (List Tree)
behind ts None = None
behind ts (Some us) = Some (ts ++ us)

-- the two elements, where there are two
abbrev pub two_of : Trees → Option (Tree × Tree)
two_of (more t (more u none)) = Some (t, u)
two_of ts = None
