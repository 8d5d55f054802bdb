-- What the store answered about a name.
use Rattle.std.specs.Prelude.{◌≡◌, Bool, Option, None, is_some, IsNone, IfSome}
use Rattle.std.specs.Option.{option_and_then}
use Rattle.wl_expr.specs.Words.{Name, Bytes}
use Rattle.wl_rules.specs.Changes.{Shown, IsShown}
use Rattle.wl_rules.specs.Entries.{value_at}
use Rattle.wl_rules.specs.Stored.{Stored}

pub record IsConsulted (x : Name) (s : Stored) (o : Option Shown) : Type 0 where
  pub none : IsNone o → value_at x s.rows ≡ None
  pub shown : IfSome o (λ v. IsShown x s v)

abbrev pub message_in : Bytes → Option Shown → Option Bytes
message_in t o = option_and_then (λ v. value_at t v.messages) o

abbrev pub is_off_in : Bytes → Option Shown → Bool
is_off_in t o = is_some (option_and_then (λ v. value_at t v.off) o)
