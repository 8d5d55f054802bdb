-- A rebuilt form is neither heavier nor deeper than the node that was shaped: so it is within the limits where that is, and is no tested tree.
use Rattle.std.proofs.Common.{◌≡◌, ℕ, ◌+◌, ◌≤◌, max, Bool, true, false, ◌||◌, List, [], ◌∷◌, ◌++◌, arith, le_trans}
use Rattle.std.specs.Prelude.{Option, Some, None, codes}
use Rattle.wl_expr.specs.Tree.{Tree, Trees, num, text, symbol, node, none, more, weight, weights, depth, depths}
use Rattle.std.specs.Ordering.{is_lt}
use Rattle.wl_expr.specs.Order.{canonical_order}
use Rattle.wl_expr.specs.Same.{same}
use Rattle.wl_expr.specs.Sorted.{placed, sorted_on, sorted}
use Rattle.wl_expr.specs.Words.{applied, list_of}
use Rattle.wl_rules.specs.Attributes.{AttributeSet}
use Rattle.wl_shape.specs.Sizes.{weight_of, depth_of, NoLarger, IsNoLarger}
use Rattle.wl_shape.specs.Shape.{Shaped, rebuilt, threaded, uneven, spliced, spliced_all, spliced_list, without_sequences, flattened, ordered, threads, first_length, lists_have, thread_by, thread, shape}

append-weight : (ts us : List Tree) → weight_of (ts ++ us) ≡ weight_of ts + weight_of us
append-weight [] us = omega arith
append-weight (t ∷ ts) us = omega (arith, append-weight ts us)

append-depth : (ts us : List Tree) → depth_of (ts ++ us) ≡ max (depth_of ts) (depth_of us)
append-depth [] us = omega arith
append-depth (t ∷ ts) us = omega (arith, append-depth ts us)

joined : (w d v e : ℕ) (ts us : List Tree) → NoLarger w d ts → NoLarger v e us → NoLarger (w + v) (max d e) (ts ++ us)
joined w d v e ts us a b = record { light = omega (arith, append-weight ts us, a.light, b.light); shallow = omega (arith, append-depth ts us, a.shallow, b.shallow) }

node_size : (b : Bool) (h k : Tree) (ts : Trees) → NoLarger (weights ts) (depths ts) (spliced_all h ts) →
    NoLarger (weight (node k ts)) (depth (node k ts)) (elim b [ true ↦ spliced_all h ts | false ↦ node k ts ∷ [] ])
node_size true h k ts a = record { light = omega (arith, a.light); shallow = omega (arith, a.shallow) }
node_size false h k ts a = record { light = omega arith; shallow = omega arith }

mutual
  spliced-size : (t : Tree) (h : Tree) → NoLarger (weight t) (depth t) (spliced h t)
  spliced-size (num n) h = record { light = omega arith; shallow = omega arith }
  spliced-size (text s) h = record { light = omega arith; shallow = omega arith }
  spliced-size (symbol x) h = record { light = omega arith; shallow = omega arith }
  spliced-size (node k ts) h = node_size (same h k) h k ts (spliced_all-size ts h)

  spliced_all-size : (ts : Trees) (h : Tree) → NoLarger (weights ts) (depths ts) (spliced_all h ts)
  spliced_all-size none h = record { light = omega arith; shallow = omega arith }
  spliced_all-size (more t ts) h = joined (weight t) (depth t) (weights ts) (depths ts) (spliced h t) (spliced_all h ts) (spliced-size t h) (spliced_all-size ts h)

spliced_list-size : (ts : List Tree) (h : Tree) → NoLarger (weight_of ts) (depth_of ts) (spliced_list h ts)
spliced_list-size [] h = record { light = omega arith; shallow = omega arith }
spliced_list-size (t ∷ ts) h = joined (weight t) (depth t) (weight_of ts) (depth_of ts) (spliced h t) (spliced_list h ts) (spliced-size t h) (spliced_list-size ts h)

itself : (ts : List Tree) → NoLarger (weight_of ts) (depth_of ts) ts
itself ts = record { light = omega arith; shallow = omega arith }

then_smaller : (w d : ℕ) (ts us : List Tree) → NoLarger w d ts → NoLarger (weight_of ts) (depth_of ts) us → NoLarger w d us
then_smaller w d ts us a b = record { light = le_trans b.light a.light; shallow = le_trans b.shallow a.shallow }

without_sequences-size : (a : AttributeSet) (es : List Tree) → NoLarger (weight_of es) (depth_of es) (without_sequences a es)
without_sequences-size a es = go (a.sequence_hold || a.hold_all_complete)
  where
    go : (b : Bool) → NoLarger (weight_of es) (depth_of es) (elim b [ true ↦ es | false ↦ spliced_list (symbol (codes "Sequence")) es ])
    go true = itself es
    go false = spliced_list-size es (symbol (codes "Sequence"))

flattened-size : (a : AttributeSet) (h : Tree) (es : List Tree) → NoLarger (weight_of es) (depth_of es) (flattened a h es)
flattened-size a h es = go a.flat
  where
    go : (b : Bool) → NoLarger (weight_of es) (depth_of es) (elim b [ true ↦ spliced_list h es | false ↦ es ])
    go true = spliced_list-size es h
    go false = itself es

placed-size : (t : Tree) (us : List Tree) → NoLarger (weight t + weight_of us) (max (depth t) (depth_of us)) (placed t us)
placed-size t [] = record { light = omega arith; shallow = omega arith }
placed-size t (u ∷ us) = go (is_lt (canonical_order t u)) (placed-size t us)
  where
    go : (b : Bool) → NoLarger (weight t + weight_of us) (max (depth t) (depth_of us)) (placed t us) →
        NoLarger (weight t + weight_of (u ∷ us)) (max (depth t) (depth_of (u ∷ us))) (elim b [ true ↦ t ∷ u ∷ us | false ↦ u ∷ placed t us ])
    go true m = record { light = omega arith; shallow = omega arith }
    go false m = record { light = omega (arith, m.light); shallow = omega (arith, m.shallow) }

sorted_on-size : (us ts : List Tree) → NoLarger (weight_of us + weight_of ts) (max (depth_of us) (depth_of ts)) (sorted_on us ts)
sorted_on-size us [] = record { light = omega arith; shallow = omega arith }
sorted_on-size us (t ∷ ts) =
    let p = placed-size t us in
    let r = sorted_on-size (placed t us) ts in
    record { light = omega (arith, p.light, r.light); shallow = omega (arith, p.shallow, r.shallow) }

ordered-size : (a : AttributeSet) (es : List Tree) → NoLarger (weight_of es) (depth_of es) (ordered a es)
ordered-size a es = go a.orderless
  where
    go : (b : Bool) → NoLarger (weight_of es) (depth_of es) (elim b [ true ↦ sorted es | false ↦ es ])
    go true = let r = sorted_on-size [] es in record { light = omega (arith, r.light); shallow = omega (arith, r.shallow) }
    go false = itself es

thread_by-size : (a : AttributeSet) (h : Tree) (es : List Tree) (o : Option ℕ) → IsNoLarger (weight (applied h es)) (depth (applied h es)) (thread_by o a h es)
thread_by-size a h es None = let r = ordered-size a es in (omega (arith, r.light), omega (arith, r.shallow))
thread_by-size a h es (Some n) = go (lists_have n es)
  where
    go : (b : Bool) → IsNoLarger (weight (applied h es)) (depth (applied h es)) (elim b [ true ↦ threaded (list_of (threads h es 0 n)) | false ↦ uneven (applied h (ordered a es)) ])
    go true = tt
    go false = let r = ordered-size a es in (omega (arith, r.light), omega (arith, r.shallow))

thread-size : (a : AttributeSet) (h : Tree) (es : List Tree) → IsNoLarger (weight (applied h es)) (depth (applied h es)) (thread a h es)
thread-size a h es = go a.listable
  where
    go : (b : Bool) → IsNoLarger (weight (applied h es)) (depth (applied h es)) (elim b [ true ↦ thread_by (first_length es) a h es | false ↦ thread_by None a h es ])
    go true = thread_by-size a h es (first_length es)
    go false = thread_by-size a h es None

weaker : (w d v e : ℕ) → w ≤ v → d ≤ e → (s : Shaped) → IsNoLarger w d s → IsNoLarger v e s
weaker w d v e a b (rebuilt t) h = (le_trans h.0 a, le_trans h.1 b)
weaker w d v e a b (uneven t) h = (le_trans h.0 a, le_trans h.1 b)
weaker w d v e a b (threaded t) h = tt

pub shape-size : (a : AttributeSet) (h : Tree) (es : List Tree) → IsNoLarger (weight (applied h es)) (depth (applied h es)) (shape a h es)
shape-size a h es =
    let fs = flattened a h (without_sequences a es) in
    let p = without_sequences-size a es in
    let q = flattened-size a h (without_sequences a es) in
    let r = then_smaller (weight_of es) (depth_of es) (without_sequences a es) fs p q in
    weaker (weight (applied h fs)) (depth (applied h fs)) (weight (applied h es)) (depth (applied h es)) (omega (arith, r.light)) (omega (arith, r.shallow)) _ (thread-size a h fs)
