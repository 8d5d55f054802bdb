-- When a stamp is live: each name still has the version that was read, and none of these is the last number of the counter, which
-- is given more than once.
use Rattle.std.specs.Prelude.{◌≡◌, ◌≢◌, ℕ, ◌-◌, ◌^◌}
use Rattle.std.specs.List.{All}
use Rattle.wl_expr.specs.declared.stamp.Stamp.{Stamp}
use Rattle.wl_rules.specs.Stored.{Stored, version_at}
use Rattle.wl_stamps.specs.Reads.{Read}

abbrev pub last_version : ℕ
last_version = 2 ^ 64 - 1

abbrev pub IsLiveRead : Stored → Read → Type 0
IsLiveRead s r = (version_at r.0 s ≡ r.1) × (r.1 ≢ last_version)

abbrev pub IsLive : Stored → Stamp → Type 0
IsLive s p = All (IsLiveRead s) p.reads
