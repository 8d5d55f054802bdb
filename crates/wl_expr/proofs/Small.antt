-- What isn't within the limits is part of nothing that is.
use Rattle.std.proofs.Common.{◌≡◌, ◌≤◌, ℕ, zero, suc, ◌<◌, true, false, inl, inr, sym, ◌∙◌, List, [], ◌∷◌, length, get_or, nat_le, arith}
use Rattle.std.proofs.lemmas.Bool.Decides.{Decides-and, leb_tells}
use Rattle.std.specs.Bool.{Decides}
use Rattle.wl_expr.specs.Stamped.{Stamped, plain, plains, from_list as from}
use Rattle.wl_expr.specs.Tree.{Tree, Trees, IsWithinLimits, AreSmall, node, from_list, weight, depth}
use Rattle.wl_expr.specs.Words.{fits}

pub large_head : (h : Tree) (ts : Trees) → ¬ IsWithinLimits h → ¬ IsWithinLimits (node h ts)
large_head h ts n f = n record { light = omega arith; shallow = omega arith }

pub large_args : (h : Tree) (ts : Trees) → ¬ AreSmall ts → ¬ IsWithinLimits (node h ts)
large_args h ts n f = n record { light = omega arith; shallow = omega arith }

pub small_head : (h : Tree) (ts : Trees) → IsWithinLimits (node h ts) → IsWithinLimits h
small_head h ts f = record { light = omega arith; shallow = omega arith }

pub small_args : (h : Tree) (ts : Trees) → IsWithinLimits (node h ts) → AreSmall ts
small_args h ts f = record { light = omega arith; shallow = omega arith }

-- one of a list of trees
pub small_at : (ts : List Tree) (i : ℕ) (d : Tree) → i < length ts → AreSmall (from_list ts) → IsWithinLimits (get_or ts i d)
small_at [] i d l s = absurd (omega arith)
small_at (t ∷ ts) zero d l s = record { light = omega arith; shallow = omega arith }
small_at (t ∷ ts) (suc i) d l s = small_at ts i d (omega arith) record { light = omega arith; shallow = omega arith }

pub large_at : (ts : List Tree) (i : ℕ) (d : Tree) → i < length ts → ¬ IsWithinLimits (get_or ts i d) → ¬ AreSmall (from_list ts)
large_at ts i d l n s = n (small_at ts i d l s)

-- one of the elements that a slice has
pub small_arg : (ts : List Stamped) (i : ℕ) (d : Stamped) → i < length ts → AreSmall (plains (from ts)) → IsWithinLimits (plain (get_or ts i d))
small_arg [] i d l s = absurd (omega arith)
small_arg (t ∷ ts) zero d l s = record { light = omega arith; shallow = omega arith }
small_arg (t ∷ ts) (suc i) d l s = small_arg ts i d (omega arith) record { light = omega arith; shallow = omega arith }

pub large_arg : (ts : List Stamped) (i : ℕ) (d : Stamped) → i < length ts → ¬ IsWithinLimits (plain (get_or ts i d)) → ¬ AreSmall (plains (from ts))
large_arg ts i d l n s = n (small_arg ts i d l s)

no_truth : false ≡ true → ⊥
no_truth e = absurd (cc)

at_most_decides : (a b : ℕ) → Decides (nat_le a b) (a ≤ b)
at_most_decides a b =
    elim (leb_tells a b) [
      | inl h ↦ (λ t. h.1, λ p. h.0)
      | inr h ↦ (λ t. absurd (no_truth (sym h.0 ∙ t)), λ p. absurd (omega (arith, p, h.1)))
    ]

-- the limits as a test
pub fits_decides : (t : Tree) → Decides (fits t) (IsWithinLimits t)
fits_decides t =
    let d = Decides-and (nat_le (weight t) 4000000) (nat_le (depth t) 1000) (at_most_decides (weight t) 4000000) (at_most_decides (depth t) 1000) in
    (λ h. record { light = (d.0 h).0; shallow = (d.0 h).1 }, λ f. d.1 (f.light, f.shallow))
