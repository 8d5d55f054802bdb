-- What the calls of a source and a sink do.
use Rattle.std.specs.Prelude.{◌≡◌, ◌≢◌, ◌&&◌, ℕ, Bool, true, List, nat_eq, Option, Result, Ok, Err, IsErr, option_map}
use Rattle.wl_ports.specs.Causes.{next_count}

-- an `open` counts as a hit where it asks for the served name, and else as a stray, which fails
pub record IsCounted {T E : Type 0} (served asked : Option (List ℕ)) (hits strays hits' strays' : ℕ) (result : Result T E) : Type 0 where
  pub hit : asked ≡ served → (hits' ≡ next_count hits) × (strays' ≡ strays)
  pub stray : asked ≢ served → (hits' ≡ hits) × (strays' ≡ next_count strays) × IsErr result

-- a write of at least one byte ends that the sink is flushed
abbrev pub flushed_after : {E : Type 0} → Result ℕ E → Option Bool → Option Bool
flushed_after (Ok n) flushed = option_map (λ f. f && nat_eq n 0) flushed
flushed_after (Err e) flushed = flushed

-- a `flush` that answers Ok makes it so
abbrev pub flushed_by : {T E : Type 0} → Result T E → Option Bool → Option Bool
flushed_by {T} {E} (Ok x) flushed = option_map (λ f. true) flushed
flushed_by {T} {E} (Err e) flushed = flushed
