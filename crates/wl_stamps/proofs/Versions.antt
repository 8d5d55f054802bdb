-- Reads of which no name has two versions.
use Rattle.std.proofs.Common.{ℕ, zero, suc, ◌+◌, ◌≡◌, ◌≢◌, ◌⊎◌, inl, inr, Bool, true, false, cond, List, [], ◌∷◌, ◌++◌, take, drop, nat_eq, refl, sym, ap, ◌∙◌, subst, arith}
use Rattle.std.proofs.lemmas.Bool.{eqb-true}
use Rattle.std.proofs.lemmas.List.{append_assoc, take-append-drop, map-append}
use Rattle.std.proofs.lemmas.List.Elements.{Contains-append_left, Contains-append_right, Contains-append_cases}
use Rattle.std.proofs.lemmas.Cmp.{nat_eq_equiv}
use Rattle.std.proofs.lemmas.Map.Views.{Contains-from_lookup, lookup-from_Contains}
use Rattle.std.proofs.lemmas.Option.{get_or_from_slice_get, slice_get_within}
use Rattle.std.specs.Prelude.{Option, Some, None, slice_get, is_some}
use Rattle.std.specs.List.{Contains, IsDistinct}
use Rattle.std.specs.Map.{keys_of}
use Rattle.std.proofs.lemmas.Map.Keys.{IsDistinct-push}
use Rattle.std.proofs.lemmas.Map.Made.{is_some-lookup}
use Rattle.wl_stamps.specs.Composition.{IsOneVersionEach}
use Rattle.wl_stamps.specs.Reads.{Read, AreDistinct, version_of, or_behind, noted}
use Rattle.wl_stamps.proofs.Noting.{take-more}

single : {X : Type 0} (x y : X) → Contains (x ∷ []) y → x ≡ y
single x y (zero, l, e) = e
single x y (suc k, l, e) = absurd (omega (arith, l))

same : (i : ℕ) → nat_eq i i ≡ true
same i = nat_eq_equiv.refl i

pub none_there : (i v : ℕ) (xs : List Read) → version_of i xs ≡ None → Contains {X = Read} xs (i, v) → ⊥
none_there i v [] e (k, l, q) = omega (arith, l)
none_there i v (x ∷ xs) e (zero, l, q) = let b : nat_eq i x.0 ≡ true = ap (nat_eq i) (ap (λ y. y.0) q) ∙ same i in let n : Some x.1 ≡ None = sym (rw b refl) ∙ e in absurd (cc)
none_there i v (x ∷ xs) e (suc k, l, q) = go (nat_eq i x.0) e (λ f. none_there i v xs f (k, omega (arith, l), q))
  where
    go : (b : Bool) → cond b (Some x.1) (version_of i xs) ≡ None → (version_of i xs ≡ None → ⊥) → ⊥
    go true f h = absurd (cc)
    go false f h = h f

-- one more read, of a new name or of the version that its name has
pub one_more : (xs : List Read) (i v : ℕ) → IsOneVersionEach xs → ((version_of i xs ≡ None) ⊎ (version_of i xs ≡ Some v)) → IsOneVersionEach (xs ++ (i, v) ∷ [])
one_more xs i v h o j a b p q = go (Contains-append_cases xs ((i, v) ∷ []) (j, a) p) (Contains-append_cases xs ((i, v) ∷ []) (j, b) q)
  where
    met : (c : ℕ) → (version_of i xs ≡ None) ⊎ (version_of i xs ≡ Some v) → Contains {X = Read} xs (i, c) → c ≡ v
    met c (inl e) x = absurd (none_there i c xs e x)
    met c (inr e) x = h i c v x (Contains-from_lookup eqb-true i v xs e)

    go : Contains {X = Read} xs (j, a) ⊎ Contains {X = Read} ((i, v) ∷ []) (j, a) → Contains {X = Read} xs (j, b) ⊎ Contains {X = Read} ((i, v) ∷ []) (j, b) → a ≡ b
    go (inl x) (inl y) = h j a b x y
    go (inl x) (inr y) = let e = single (i, v) (j, b) y in met a o (subst (λ n. Contains {X = Read} xs (n, a)) (sym (ap (λ r. r.0) e)) x) ∙ ap (λ r. r.1) e
    go (inr x) (inl y) = let e = single (i, v) (j, a) x in sym (ap (λ r. r.1) e) ∙ sym (met b o (subst (λ n. Contains {X = Read} xs (n, b)) (sym (ap (λ r. r.0) e)) y))
    go (inr x) (inr y) = sym (ap (λ r. r.1) (single (i, v) (j, a) x)) ∙ ap (λ r. r.1) (single (i, v) (j, b) y)

-- the reads up to the next one
pub each_more : (rs ps : List Read) (k : ℕ) (r : Read) → slice_get ps k ≡ Some r → IsOneVersionEach (rs ++ take k ps)
    → ((version_of r.0 (rs ++ take k ps) ≡ None) ⊎ (version_of r.0 (rs ++ take k ps) ≡ Some r.1)) → IsOneVersionEach (rs ++ take (k + 1) ps)
each_more rs ps k r e h o =
    subst IsOneVersionEach (append_assoc rs (take k ps) (r ∷ []) ∙ ap (λ xs. rs ++ xs) (sym (take-more ps k r e))) (one_more (rs ++ take k ps) r.0 r.1 h o)

-- a name that is read at another version than at first
pub two_versions : (rs ps : List Read) (k : ℕ) (r : Read) (w : ℕ) → slice_get ps k ≡ Some r → version_of r.0 (rs ++ take k ps) ≡ Some w → w ≢ r.1 → IsOneVersionEach (rs ++ ps) → ⊥
two_versions rs ps k r w e f n h =
    n (h r.0 w r.1
    (subst (λ xs. Contains {X = Read} xs (r.0, w)) (append_assoc rs (take k ps) (drop k ps) ∙ ap (λ xs. rs ++ xs) (take-append-drop k ps))
    (Contains-append_left (rs ++ take k ps) (drop k ps) (r.0, w) (Contains-from_lookup eqb-true r.0 w (rs ++ take k ps) f)))
    (Contains-append_right rs ps r (k, slice_get_within ps k r e, get_or_from_slice_get ps k r r e)))

-- where each name stands once, none has two versions
pub once_each : (rs : List Read) → AreDistinct rs → IsOneVersionEach rs
once_each rs d i v w p q = let e : Some v ≡ Some w = sym (lookup-from_Contains nat_eq_equiv i v rs d p) ∙ lookup-from_Contains nat_eq_equiv i w rs d q in cc

-- a new name stands once
pub stand_once : (rs : List Read) (r : Read) → AreDistinct rs → AreDistinct (noted rs r)
stand_once rs r d = go (version_of r.0 rs) refl
  where
    go : (o : Option ℕ) → version_of r.0 rs ≡ o → AreDistinct (or_behind o rs r)
    go (Some v) e = d
    go None e = subst (IsDistinct nat_eq) (sym (map-append (λ q. q.0) rs (r ∷ []))) (IsDistinct-push nat_eq_equiv (keys_of rs) r.0 d (sym (is_some-lookup (nat_eq r.0) rs) ∙ ap is_some e))
