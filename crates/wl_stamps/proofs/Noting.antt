-- Reads that are noted one after the other.
use Rattle.std.proofs.Common.{ℕ, ◌+◌, ◌≡◌, Bool, true, false, cond, List, [], ◌∷◌, ◌++◌, length, take, nat_eq, refl, sym, ap, ◌∙◌}
use Rattle.std.proofs.Math.Seq.{take-suc, take-append_seam}
use Rattle.std.proofs.Math.Numerals.{add-one}
use Rattle.std.proofs.lemmas.Bool.{eqb-true}
use Rattle.std.proofs.lemmas.List.{append_assoc, append-nil}
use Rattle.std.proofs.lemmas.Option.{get_or_from_slice_get, slice_get_within}
use Rattle.std.specs.Prelude.{Option, Some, None, slice_get}
use Rattle.wl_stamps.specs.Reads.{Read, version_of, or_behind, noted, all_noted}

pub all_noted-append : (rs xs ys : List Read) → all_noted rs (xs ++ ys) ≡ all_noted (all_noted rs xs) ys
all_noted-append rs [] ys = refl
all_noted-append rs (x ∷ xs) ys = all_noted-append (noted rs x) xs ys

-- the first reads and the next one
pub take-more : (ps : List Read) (k : ℕ) (r : Read) → slice_get ps k ≡ Some r → take (k + 1) ps ≡ take k ps ++ r ∷ []
take-more ps k r e =
    ap (λ n. take n ps) (add-one k) ∙ take-suc ps k r (slice_get_within ps k r e) ∙ ap (λ q. take k ps ++ q ∷ []) (get_or_from_slice_get ps k r r e)

pub all_noted-more : (rs ps : List Read) (k : ℕ) (r : Read) → slice_get ps k ≡ Some r → all_noted rs (take (k + 1) ps) ≡ noted (all_noted rs (take k ps)) r
all_noted-more rs ps k r e = ap (all_noted rs) (take-more ps k r e) ∙ all_noted-append rs (take k ps) (r ∷ [])

-- what was there stands in front
or_behind-front : (o : Option ℕ) (rs : List Read) (r : Read) → (ys : List Read) × (or_behind o rs r ≡ rs ++ ys)
or_behind-front None rs r = (r ∷ [], refl)
or_behind-front (Some v) rs r = ([], sym (append-nil rs))

pub all_noted-front : (rs ps : List Read) → (ys : List Read) × (all_noted rs ps ≡ rs ++ ys)
all_noted-front rs [] = ([], sym (append-nil rs))
all_noted-front rs (p ∷ ps) =
    let (xs, e) = or_behind-front (version_of p.0 rs) rs p in
    let (ys, f) = all_noted-front (noted rs p) ps in
    (xs ++ ys, f ∙ ap (λ zs. zs ++ ys) e ∙ append_assoc rs xs ys)

pub take-all_noted : (rs ps : List Read) → take (length rs) (all_noted rs ps) ≡ rs
take-all_noted rs ps = let (ys, e) = all_noted-front rs ps in ap (take (length rs)) e ∙ take-append_seam rs ys

-- the first version of a name, among reads behind others
abbrev or_else : Option ℕ → Option ℕ → Option ℕ
or_else None o = o
or_else (Some v) o = Some v

version_of-append : (i : ℕ) (xs ys : List Read) → version_of i (xs ++ ys) ≡ or_else (version_of i xs) (version_of i ys)
version_of-append i [] ys = refl
version_of-append i (x ∷ xs) ys = go (nat_eq i x.0) (version_of-append i xs ys)
  where
    go : (b : Bool) → version_of i (xs ++ ys) ≡ or_else (version_of i xs) (version_of i ys)
        → cond b (Some x.1) (version_of i (xs ++ ys)) ≡ or_else (cond b (Some x.1) (version_of i xs)) (version_of i ys)
    go true e = refl
    go false e = e

-- it is the same among the reads that are noted
absorbed : (i : ℕ) (rs : List Read) (r : Read) (v : ℕ) → version_of r.0 rs ≡ Some v → version_of i rs ≡ or_else (version_of i rs) (version_of i (r ∷ []))
absorbed i rs r v e = go (nat_eq i r.0) refl (version_of i rs) refl
  where
    go : (b : Bool) → nat_eq i r.0 ≡ b → (o : Option ℕ) → version_of i rs ≡ o → o ≡ or_else o (cond b (Some r.1) None)
    go b q (Some w) f = refl
    go false q None f = refl
    go true q None f = let g : None ≡ Some v = sym f ∙ ap (λ j. version_of j rs) (eqb-true i r.0 q) ∙ e in absurd (cc)

noted_version : (i : ℕ) (rs : List Read) (r : Read) → version_of i (noted rs r) ≡ version_of i (rs ++ r ∷ [])
noted_version i rs r = go (version_of r.0 rs) refl
  where
    go : (o : Option ℕ) → version_of r.0 rs ≡ o → version_of i (or_behind o rs r) ≡ version_of i (rs ++ r ∷ [])
    go None e = refl
    go (Some v) e = absorbed i rs r v e ∙ sym (version_of-append i rs (r ∷ []))

pub version_of-all_noted : (i : ℕ) (rs ps : List Read) → version_of i (all_noted rs ps) ≡ version_of i (rs ++ ps)
version_of-all_noted i rs [] = ap (version_of i) (sym (append-nil rs))
version_of-all_noted i rs (p ∷ ps) =
    version_of-all_noted i (noted rs p) ps ∙ version_of-append i (noted rs p) ps ∙ ap (λ o. or_else o (version_of i ps)) (noted_version i rs p)
    ∙ sym (version_of-append i (rs ++ p ∷ []) ps) ∙ ap (version_of i) (append_assoc rs (p ∷ []) ps)

-- a name that wasn't read before goes last
pub noted_last : (rs : List Read) (r : Read) → version_of r.0 rs ≡ None → noted rs r ≡ rs ++ r ∷ []
noted_last rs r e = rw e refl

pub noted_before : (rs : List Read) (r : Read) (v : ℕ) → version_of r.0 rs ≡ Some v → noted rs r ≡ rs
noted_before rs r v e = rw e refl
