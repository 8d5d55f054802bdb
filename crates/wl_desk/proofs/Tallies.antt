-- Counts by full names, and the entries of a map.
use Rattle.std.proofs.Common.{◌≡◌, ◌+◌, ℕ, Bool, true, false, cond, List, [], ◌∷◌, Some, map, bytes_eq, refl, ap}
use Rattle.std.specs.Option.{unwrap_or}
use Rattle.std.specs.Map.{lookup}
use Rattle.std.specs.declared.string.String.{String}
use Rattle.std.specs.String.{string_bytes, string_eq}
use Rattle.indexmap.specs.IndexMap.{insert_entry}
use Rattle.wl_rules.specs.Entries.{value_at}
use Rattle.wl_desk.specs.Desk.{count_of, counted}

abbrev row : {Y : Type 0} → String Y × ℕ → List ℕ × ℕ
row p = (string_bytes p.0, p.1)

pub value_at-rows : {Y : Type 0} (x : List ℕ) (es : List (String Y × ℕ)) → value_at x (map (λ p. (string_bytes p.0, p.1)) es) ≡ lookup (λ k. bytes_eq x (string_bytes k)) es
value_at-rows x [] = refl
value_at-rows x (e ∷ es) =
    elim (bytes_eq x (string_bytes e.0)) as (λ b. cond b (Some e.1) (value_at x (map (λ p. (string_bytes p.0, p.1)) es)) ≡ cond b (Some e.1) (lookup (λ k. bytes_eq x (string_bytes k)) es)) [
      | true ↦ refl
      | false ↦ value_at-rows x es
    ]

pub rows-insert : {Y : Type 0} (es : List (String Y × ℕ)) (k : String Y) (n : ℕ) → n ≡ count_of (string_bytes k) (map (λ p. (string_bytes p.0, p.1)) es) + 1
    → map (λ p. (string_bytes p.0, p.1)) (insert_entry string_eq es k n) ≡ counted (string_bytes k) (map (λ p. (string_bytes p.0, p.1)) es)
rows-insert [] k n h = ap (λ (m : ℕ). (string_bytes k, m) ∷ []) h
rows-insert {Y} (e ∷ es) k n h =
    let cases : (b : Bool) → n ≡ unwrap_or (cond b (Some e.1) (value_at (string_bytes k) (map row es))) 0 + 1
    → map row (cond b ((e.0, n) ∷ es) (e ∷ insert_entry string_eq es k n)) ≡ cond b ((string_bytes e.0, e.1 + 1) ∷ map row es) (row e ∷ counted (string_bytes k) (map row es)) =
    elim [
      | true ↦ λ p. ap (λ (m : ℕ). (string_bytes e.0, m) ∷ map row es) p
      | false ↦ λ p. ap (λ xs. row e ∷ xs) (rows-insert es k n p)
    ] in
    cases (string_eq k e.0) h
