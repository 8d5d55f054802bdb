-- Whole parts of a list.
use Rattle.std.proofs.Common.{◌≡◌, ◌≤◌, ◌<◌, ◌+◌, ◌*◌, ◌/◌, ℕ, zero, suc, List, length, Some, refl, ap, arith}
use Rattle.std.proofs.Math.Nat.{div-mul-le_self, div-eq_of_lt, mul-le-mul_right}
use Rattle.wl_expr.specs.Applied.{gives}
use Rattle.wl_expr.specs.Tree.{Tree}
use Rattle.wl_expr.specs.Words.{applied}
use Rattle.wl_lists.specs.Partitions.{chunk, chunks, partition_by}
use Rattle.wl_lists.specs.Tabulated.{tabulated}

pub part_within : (k n l : ℕ) → k < l / n → k * n + n ≤ l
part_within k n l h =
    let m : (k + 1) * n ≤ l / n * n = mul-le-mul_right n (omega (arith, h)) in
    let d : l / n * n ≤ l = div-mul-le_self l n in
    let e : (k + 1) * n ≡ k * n + n = grind arith in
    omega (arith, m, d, e)

pub partitioned : (h : Tree) (ts : List Tree) (n : ℕ) → 0 < n → partition_by h ts (Some n) ≡ gives (applied h (chunks h n ts))
partitioned h ts zero l = absurd (omega arith)
partitioned h ts (suc n) l = refl

pub no_chunks : (h : Tree) (ts : List Tree) (n : ℕ) → length ts < n → chunks h n ts ≡ tabulated (chunk h n ts) 0 0
no_chunks h ts n l = ap (tabulated (chunk h n ts) 0) (div-eq_of_lt l)
