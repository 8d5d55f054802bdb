-- What stands for names, as the code holds it.
use Rattle.std.specs.Prelude.{◌≡◌, Bool, true, false, List, Option, Some, None, option_map}
use Rattle.std.specs.List.{All}
use Rattle.std.specs.Map.{lookup}
use Rattle.std.specs.declared.alloc.Global.{Global}
use Rattle.std.specs.declared.rc.Rc.{Rc}
use Rattle.wl_expr.specs.Passed.{IsFrom}
use Rattle.wl_expr.specs.Same.{same, is_name_among}
use Rattle.wl_expr.specs.Stamped.{Stamped, plain}
use Rattle.wl_expr.specs.Tree.{Tree, symbol}
use Rattle.wl_expr.specs.Words.{Name}
use Rattle.wl_shape.specs.Fill as fill
use Rattle.wl_shape.specs.Names.{has_name}
use Rattle.wl_shape.specs.declared.values.Value.{Value}
use Rattle.wl_shape.specs.declared.values.Values.{Values}

abbrev pub Entry : Type 0
Entry = Stamped × Rc Value Global

abbrev pub value_tree : Rc Value Global → Tree
value_tree v = plain v.value.tree

-- what stands for the key that is this tree
abbrev pub found : List Entry → Tree → Option Tree
found es t = option_map value_tree (lookup (λ k. same t (plain k)) es)

abbrev pub values_in : Values → fill.Values
values_in v x = found v.map.entries (symbol x)

-- one value more, which takes the place of another
abbrev pub put_value : fill.Values → Tree → Tree → fill.Values
put_value vs k t x = elim (same (symbol x) k) [ true ↦ Some t | false ↦ vs x ]

-- the names that are kept with a value are those of its tree
abbrev pub IsKnown : Value → Type 0
IsKnown v = (x : Name) → has_name v.names.keys x ≡ is_name_among x (fill.names (plain v.tree))

-- an entry has nothing to do with a name: neither is it the entry's, nor does it stand in the value
abbrev pub IsApart : Name → Entry → Type 0
IsApart x p = (same (symbol x) (plain p.0) ≡ false) × (has_name p.1.value.names.keys x ≡ false)

-- the names of all values are known, and a name that isn't near has nothing to do with any entry
pub record IsReady (v : Values) : Type 0 where
  pub known : All (λ (p : Entry). IsKnown p.1.value) v.map.entries
  pub apart : (x : Name) → has_name v.near.keys x ≡ false → All (IsApart x) v.map.entries

abbrev pub ValuesFrom : List Stamped → Values → Type 0
ValuesFrom ms v = All (λ (p : Entry). IsFrom ms p.1.value.tree) v.map.entries
