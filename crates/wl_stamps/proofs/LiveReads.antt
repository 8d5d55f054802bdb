-- Reads that are live, one after the other, and the ticks that they take.
use Rattle.std.proofs.Common.{ℕ, zero, suc, ◌+◌, ◌<◌, ◌≤◌, ◌≡◌, ◌⊎◌, inl, inr, List, get_or, refl, sym, ap, ◌∙◌, subst, arith}
use Rattle.std.proofs.lemmas.Option.{get_or_from_slice_get, slice_get_within}
use Rattle.std.specs.List.{All}
use Rattle.std.specs.Prelude.{Some, slice_get}
use Rattle.wl_ports.specs.Counted.{add_to_last, add_twice, TicksAtMost}
use Rattle.wl_rules.specs.Stored.{Stored}
use Rattle.wl_stamps.specs.Live.{IsLiveRead}
use Rattle.wl_stamps.specs.Reads.{Read}

abbrev pub AreLive : Stored → List Read → ℕ → Type 0
AreLive s rs k = (j : ℕ) (d : Read) → j < k → IsLiveRead s (get_or rs j d)

below_or_at : (m n : ℕ) → m < n + 1 → (m < n) ⊎ (m ≡ n)
below_or_at zero zero p = inr refl
below_or_at zero (suc n) p = inl (omega arith)
below_or_at (suc m) zero p = absurd (omega (arith, p))
below_or_at (suc m) (suc n) p = elim (below_or_at m n (omega (arith, p))) [ inl q ↦ inl (omega (arith, q)) | inr q ↦ inr (ap suc q) ]

pub live_more : (s : Stored) (rs : List Read) (k : ℕ) (r : Read) → slice_get rs k ≡ Some r → IsLiveRead s r → AreLive s rs k → AreLive s rs (k + 1)
live_more s rs k r e h a j d l = go (below_or_at j k l)
  where
    go : (j < k) ⊎ (j ≡ k) → IsLiveRead s (get_or rs j d)
    go (inl p) = a j d p
    go (inr p) = subst (IsLiveRead s) (sym (ap (λ n. get_or rs n d) p ∙ get_or_from_slice_get rs k r d e)) h

pub not_live : (s : Stored) (rs : List Read) (k : ℕ) (r : Read) → slice_get rs k ≡ Some r → All (IsLiveRead s) rs → IsLiveRead s r
not_live s rs k r e a = subst (IsLiveRead s) (get_or_from_slice_get rs k r r e) (a k r (slice_get_within rs k r e))

-- ticks of the first reads and of the next one
pub ticks_more : (k : ℕ) (a b c : List ℕ) → TicksAtMost k a b → TicksAtMost 1 b c → TicksAtMost (k + 1) a c
ticks_more k a b c (m, l, e) (n, p, f) = (m + n, omega arith, f ∙ ap (add_to_last n) e ∙ add_twice m n a)

pub ticks_within : (k n : ℕ) (a b : List ℕ) → k ≤ n → TicksAtMost k a b → TicksAtMost n a b
ticks_within k n a b p (m, l, e) = (m, omega arith, e)
