-- Scopes for filling: `Function[x, b]`, `Function[{x, y}, b]`, and Module and With of two elements whose list has symbols or `x = v` (With: only the latter). Other shapes shadow nothing.
use Rattle.std.specs.Prelude.{true, false, List, [], ◌∷◌, map, Option, Some, None, codes, bytes_eq}
use Rattle.wl_expr.specs.Tree.{Tree, Trees, symbol, node, none, more}
use Rattle.wl_expr.specs.Words.{Name, is_the, is_list, elements, names_of}

-- a local name, perhaps with an initial value
pub record Local : Type 0 where
  pub name : Name
  pub value : Option Tree

-- whether names may stand without a value: not in With
pub data Needs : Type 0 where
  values : Needs
  names : Needs

abbrev pub local_of : Needs → Tree → Option Local
local_of names (symbol x) = Some (record { name = x; value = None })
local_of k (node h (more (symbol x) (more v none))) = elim (is_the (codes "Set") h) [ true ↦ Some (record { name = x; value = Some v }) | false ↦ None ]
local_of k t = None

abbrev pub with_local : Option Local → Option (List Local) → Option (List Local)
with_local (Some l) (Some ls) = Some (l ∷ ls)
with_local _ _ = None

abbrev pub locals_of : Needs → List Tree → Option (List Local)
locals_of k [] = Some []
locals_of k (t ∷ ts) = with_local (local_of k t) (locals_of k ts)

-- the local names of the list of Module, Block or With
abbrev pub locals : Needs → Tree → Option (List Local)
locals k t = elim (is_list t) [ true ↦ locals_of k (elements t) | false ↦ None ]

-- the names of `x` or `{x, y}` in `Function[x, b]`
abbrev pub function_names : Tree → Option (List Name)
function_names (symbol x) = Some (x ∷ [])
function_names t = elim (is_list t) [ true ↦ names_of (elements t) | false ↦ None ]

abbrev pub names_in : Option (List Local) → Option (List Name)
names_in None = None
names_in (Some ls) = Some (map (λ l. l.name) ls)

abbrev pub parameters_by : Name → Tree → Option (List Name)
parameters_by x first =
    elim (bytes_eq x (codes "Function")) [
      | true ↦ function_names first
      | false ↦ elim (bytes_eq x (codes "Module")) [
        | true ↦ names_in (locals names first)
        | false ↦ elim (bytes_eq x (codes "With")) [ true ↦ names_in (locals values first) | false ↦ None ]
      ]
    ]

-- the formal parameters of a node, where it is a scope
abbrev pub parameters : Tree → Trees → Option (List Name)
parameters (symbol x) (more first (more body none)) = parameters_by x first
parameters h ts = None
