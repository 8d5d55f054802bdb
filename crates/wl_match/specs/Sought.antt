-- A name that is looked for at a place of a list.
use Rattle.std.specs.Prelude.{◌≡◌, ℕ, ◌+◌, List, length, Some, slice_get, ⊤}
use Rattle.wl_expr.specs.Words.{Name}
use Rattle.wl_ports.specs.Name.{IsName}
use Rattle.wl_match.specs.declared.heads.Sought.{Sought}
use Rattle.wl_match.specs.declared.heads.Sought.TheVariants.{Found, Past}

abbrev pub IsSought : List Name → ℕ → Sought → Type 0
IsSought xs k (Found x) = slice_get xs k ≡ Some x.now
IsSought xs k (Past n) = k ≡ length xs + n

-- what was found is a name
abbrev pub FindsName : Sought → Type 0
FindsName (Found x) = IsName x.now
FindsName (Past n) = ⊤
