-- Maps with texts as keys, by the texts' bytes.
use Rattle.std.proofs.Common.{◌≡◌, ℕ, true, false, cond, List, [], ◌∷◌, map, Some, option_map, bytes_eq, slice_get, zero, suc, refl, ap}
use Rattle.std.proofs.lemmas.Map.Text.{is_eq-slice_cmp}
use Rattle.std.specs.BTreeMap.{insert_entry, is_at}
use Rattle.std.specs.Cmp.Lexicographic.{slice_cmp}
use Rattle.std.specs.Map.{lookup, remove_entry}
use Rattle.std.specs.List.{AllByRecursion}
use Rattle.std.specs.List.Sorted.{IsStrictlySortedBy}
use Rattle.std.specs.Ordering.{nat_cmp, match_ordering}
use Rattle.std.specs.declared.cmp.Ordering.TheVariants.{Less, Equal, Greater}
use Rattle.std.specs.declared.string.String.{String}
use Rattle.std.specs.String.{string_bytes, string_cmp}
use Rattle.wl_rules.specs.Entries.{value_at, without}

module _ {Y X Z : Type 0} (g : X → Z) where
  abbrev by_bytes : String Y × X → List ℕ × Z
  by_bytes p = (string_bytes p.0, g p.1)

  pub value_at-texts : (t : List ℕ) (es : List (String Y × X)) → value_at t (map (λ p. (string_bytes p.0, g p.1)) es) ≡ option_map g (lookup (is_at (λ k. slice_cmp nat_cmp t (string_bytes k))) es)
  value_at-texts t [] = refl
  value_at-texts t (e ∷ es) =
      rw (is_eq-slice_cmp t (string_bytes e.0)) (elim (bytes_eq t (string_bytes e.0)) as (λ b. cond b (Some (g e.1)) (value_at t (map by_bytes es)) ≡ option_map g (cond b (Some e.1) (lookup (is_at (λ k. slice_cmp nat_cmp t (string_bytes k))) es))) [
        | true ↦ refl
        | false ↦ value_at-texts t es
      ])

  pub without-texts : (t : List ℕ) (es : List (String Y × X)) → map (λ p. (string_bytes p.0, g p.1)) (remove_entry (is_at (λ k. slice_cmp nat_cmp t (string_bytes k))) es) ≡ without t (map (λ p. (string_bytes p.0, g p.1)) es)
  without-texts t [] = refl
  without-texts t (e ∷ es) =
      rw (is_eq-slice_cmp t (string_bytes e.0)) (elim (bytes_eq t (string_bytes e.0)) as (λ b. map by_bytes (cond b es (e ∷ remove_entry (is_at (λ k. slice_cmp nat_cmp t (string_bytes k))) es)) ≡ cond b (map by_bytes es) (by_bytes e ∷ without t (map by_bytes es))) [
        | true ↦ refl
        | false ↦ ap (λ xs. by_bytes e ∷ xs) (without-texts t es)
      ])

  pub insert-texts : (es : List (String Y × X)) (k : String Y) (v : X) → map (λ p. (string_bytes p.0, g p.1)) (insert_entry string_cmp es k v) ≡ insert_entry (slice_cmp nat_cmp) (map (λ p. (string_bytes p.0, g p.1)) es) (string_bytes k) (g v)
  insert-texts [] k v = refl
  insert-texts (e ∷ es) k v =
      elim (slice_cmp nat_cmp (string_bytes k) (string_bytes e.0)) as (λ o. map by_bytes (match_ordering o ((k, v) ∷ e ∷ es) ((e.0, v) ∷ es) (e ∷ insert_entry string_cmp es k v)) ≡ match_ordering o ((string_bytes k, g v) ∷ by_bytes e ∷ map by_bytes es) ((string_bytes e.0, g v) ∷ map by_bytes es) (by_bytes e ∷ insert_entry (slice_cmp nat_cmp) (map by_bytes es) (string_bytes k) (g v))) [
        | Less ↦ refl
        | Equal ↦ refl
        | Greater ↦ ap (λ xs. by_bytes e ∷ xs) (insert-texts es k v)
      ]

  -- ---- by place

  pub texts_at : (es : List (String Y × X)) (k : ℕ) → slice_get {X = List ℕ × Z} (map by_bytes es) k ≡ option_map by_bytes (slice_get es k)
  texts_at [] k = refl
  texts_at (e ∷ es) zero = refl
  texts_at (e ∷ es) (suc k) = texts_at es k

  pub tag_at : (es : List (String Y × X)) (k : ℕ) → option_map (λ (p : List ℕ × Z). p.0) (slice_get (map by_bytes es) k) ≡ option_map (λ (p : String Y × X). string_bytes p.0) (slice_get es k)
  tag_at [] k = refl
  tag_at (e ∷ es) zero = refl
  tag_at (e ∷ es) (suc k) = tag_at es k

  -- ---- the order of tags

  tags_above : (t : String Y) (es : List (String Y × X)) → AllByRecursion (λ y. string_cmp t y ≡ Less) (map (λ p. p.0) es) → AllByRecursion (λ y. slice_cmp nat_cmp (string_bytes t) y ≡ Less) (map (λ p. p.0) (map by_bytes es))
  tags_above t [] h = tt
  tags_above t (e ∷ es) h = (h.0, tags_above t es h.1)

  pub tags_ascend : (es : List (String Y × X)) → IsStrictlySortedBy string_cmp (map (λ p. p.0) es) → IsStrictlySortedBy (slice_cmp nat_cmp) (map (λ p. p.0) (map by_bytes es))
  unfolding IsStrictlySortedBy
  tags_ascend [] h = tt
  tags_ascend (e ∷ es) h = (tags_above e.0 es h.0, tags_ascend es h.1)
