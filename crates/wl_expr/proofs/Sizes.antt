-- The size of a tree that is built of parts: what is put together, put in order or built anew of no larger parts is no larger.
use Rattle.std.proofs.Common.{◌≡◌, ℕ, ◌+◌, max, Bool, true, false, List, [], ◌∷◌, ◌++◌, map, arith, le_trans, ap}
use Rattle.std.specs.Ordering.{is_lt}
use Rattle.wl_expr.specs.Order.{canonical_order}
use Rattle.wl_expr.specs.Size.{weight_of, depth_of, AreNoLarger, IsNoLarger}
use Rattle.wl_expr.specs.Sorted.{placed, sorted_on, sorted}
use Rattle.wl_expr.specs.Stamped.{Stamped, plain, plains, from_list as from}
use Rattle.wl_expr.specs.Tree.{Tree, IsWithinLimits, weight, weights, depth, depths}
use Rattle.wl_expr.specs.Words.{applied}
use Rattle.wl_expr.proofs.Parts.{plains_from_list}

-- ---- several trees together

pub weight_of-append : (ts us : List Tree) → weight_of (ts ++ us) ≡ weight_of ts + weight_of us
weight_of-append [] us = omega arith
weight_of-append (t ∷ ts) us = omega (arith, weight_of-append ts us)

pub depth_of-append : (ts us : List Tree) → depth_of (ts ++ us) ≡ max (depth_of ts) (depth_of us)
depth_of-append [] us = omega arith
depth_of-append (t ∷ ts) us = omega (arith, depth_of-append ts us)

-- the elements of an expression
pub weights_plains : (ts : List Stamped) → weights (plains (from ts)) ≡ weight_of (map plain ts)
weights_plains ts = ap weights (plains_from_list ts)

pub depths_plains : (ts : List Stamped) → depths (plains (from ts)) ≡ depth_of (map plain ts)
depths_plains ts = ap depths (plains_from_list ts)

-- ---- no larger than before

pub themselves : (ts : List Tree) → AreNoLarger (weight_of ts) (depth_of ts) ts
themselves ts = record { light = omega arith; shallow = omega arith }

pub no_larger_chain : (w d : ℕ) (ts us : List Tree) → AreNoLarger w d ts → AreNoLarger (weight_of ts) (depth_of ts) us → AreNoLarger w d us
no_larger_chain w d ts us a b = record { light = le_trans b.light a.light; shallow = le_trans b.shallow a.shallow }

pub no_larger_append : (w d v e : ℕ) (ts us : List Tree) → AreNoLarger w d ts → AreNoLarger v e us → AreNoLarger (w + v) (max d e) (ts ++ us)
no_larger_append w d v e ts us a b = record {
  light = omega (arith, weight_of-append ts us, a.light, b.light);
  shallow = omega (arith, depth_of-append ts us, a.shallow, b.shallow);
}

-- a tree in its place, and all in order
pub no_larger_placed : (t : Tree) (us : List Tree) → AreNoLarger (weight t + weight_of us) (max (depth t) (depth_of us)) (placed t us)
no_larger_placed t [] = record { light = omega arith; shallow = omega arith }
no_larger_placed t (u ∷ us) = go (is_lt (canonical_order t u)) (no_larger_placed t us)
  where
    go : (b : Bool) → AreNoLarger (weight t + weight_of us) (max (depth t) (depth_of us)) (placed t us) → AreNoLarger (weight t + weight_of (u ∷ us)) (max (depth t) (depth_of (u ∷ us))) (elim b [ true ↦ t ∷ u ∷ us | false ↦ u ∷ placed t us ])
    go true m = record { light = omega arith; shallow = omega arith }
    go false m = record { light = omega (arith, m.light); shallow = omega (arith, m.shallow) }

pub no_larger_sorted_on : (us ts : List Tree) → AreNoLarger (weight_of us + weight_of ts) (max (depth_of us) (depth_of ts)) (sorted_on us ts)
no_larger_sorted_on us [] = record { light = omega arith; shallow = omega arith }
no_larger_sorted_on us (t ∷ ts) =
    let p = no_larger_placed t us in
    let r = no_larger_sorted_on (placed t us) ts in
    record { light = omega (arith, p.light, r.light); shallow = omega (arith, p.shallow, r.shallow) }

pub no_larger_sorted : (ts : List Tree) → AreNoLarger (weight_of ts) (depth_of ts) (sorted ts)
no_larger_sorted ts = let r = no_larger_sorted_on [] ts in record { light = omega (arith, r.light); shallow = omega (arith, r.shallow) }

-- ---- a node that is built anew

pub no_larger_node : (h k : Tree) (ts us : List Tree) → IsNoLarger h k → AreNoLarger (weight_of ts) (depth_of ts) us → IsNoLarger (applied h ts) (applied k us)
no_larger_node h k ts us a b = record { light = omega (arith, a.light, b.light); shallow = omega (arith, a.shallow, b.shallow) }

-- it is within the limits where the other is
pub no_larger_fits : (t u : Tree) → IsNoLarger t u → IsWithinLimits t → IsWithinLimits u
no_larger_fits t u a f = record { light = le_trans a.light f.light; shallow = le_trans a.shallow f.shallow }
