-- The rows of a table by name and by index, and what a change of one entry makes of the definitions.
use Rattle.std.proofs.Common.{◌≡◌, ℕ, ◌^◌, ◌<◌, ◌≤◌, zero, suc, Bool, true, false, cond, List, [], ◌∷◌, ◌++◌, length, map, Some, None, option_map, bytes_eq, slice_get, refl, sym, ◌∙◌, ap, arith}
use Rattle.std.proofs.lemmas.Cmp.{nat_list_eq_equiv}
use Rattle.std.proofs.lemmas.Option.{slice_get-map}
use Rattle.std.proofs.lemmas.Map.Keys.{IsDistinct-head, IsDistinct-tail}
use Rattle.indexmap.specs.IndexMap.{insert_entry}
use Rattle.indexmap.specs.Layout.{set_value_at}
use Rattle.std.specs.Cmp.Lexicographic.{same_text}
use Rattle.std.specs.List.{IsDistinct, AllByRecursion}
use Rattle.std.specs.Map.{keys_of, lookup, lookup_key}
use Rattle.std.specs.declared.string.String.{String}
use Rattle.std.specs.String.{string_bytes, string_eq}
use Rattle.wl_expr.specs.Words.{Name}
use Rattle.wl_rules.specs.Entries.{Entry, PlainRule, value_at, map_entry, empty_entry}
use Rattle.wl_rules.specs.StampedRules.{plain_rule}
use Rattle.wl_rules.specs.Stored.{Slot, Stored, new_slot, row_at, name_at, version_at, entry_at, plain_entry, definitions, next_version, with_slot, changed}
use Rattle.wl_rules.specs.Changes.{AreDistinct, Defines, Draws}
use Rattle.wl_rules.specs.Starting.{with_row}
use Rattle.wl_rules.specs.declared.rule.Rule.{Rule}
use Rattle.wl_rules.proofs.Choices.{pick_true, pick_false, pick_again, none_picked}

-- ---- texts by their bytes

abbrev row : {Y : Type 0} → String Y × Slot → Name × Slot
row p = (string_bytes p.0, p.1)

pub value_at-rows : {Y X : Type 0} (x : List ℕ) (es : List (String Y × X)) → value_at x (map (λ p. (string_bytes p.0, p.1)) es) ≡ lookup (λ k. bytes_eq x (string_bytes k)) es
value_at-rows x [] = refl
value_at-rows x (e ∷ es) =
    elim (bytes_eq x (string_bytes e.0)) as (λ b. cond b (Some e.1) (value_at x (map (λ p. (string_bytes p.0, p.1)) es)) ≡ cond b (Some e.1) (lookup (λ k. bytes_eq x (string_bytes k)) es)) [
      | true ↦ refl
      | false ↦ value_at-rows x es
    ]

pub lookup_key_passes : {K X : Type 0} (test : K → Bool) (es : List (K × X)) (k : K) → lookup_key test es ≡ Some k → test k ≡ true
lookup_key_passes test [] k h = cc
lookup_key_passes test (e ∷ es) k h =
    let cases : (b : Bool) → test e.0 ≡ b → cond b (Some e.0) (lookup_key test es) ≡ Some k → test k ≡ true =
    elim [
      | true ↦ λ p q. cc
      | false ↦ λ p q. lookup_key_passes test es k q
    ] in
    cases _ refl h

no_row : {Y X : Type 0} (k : String Y) (es : List (String Y × X)) → AllByRecursion (λ y. string_eq k y ≡ false) (keys_of es) → value_at (string_bytes k) (map (λ p. (string_bytes p.0, p.1)) es) ≡ None
no_row k [] h = refl
no_row k (e ∷ es) h = pick_false (bytes_eq (string_bytes k) (string_bytes e.0)) (Some e.1) (value_at (string_bytes k) (map (λ p. (string_bytes p.0, p.1)) es)) None h.0 (no_row k es h.1)

pub rows_are_distinct : {Y : Type 0} (es : List (String Y × Slot)) → IsDistinct string_eq (keys_of es) → AreDistinct (map (λ p. (string_bytes p.0, p.1)) es)
rows_are_distinct [] h = tt
rows_are_distinct (e ∷ es) h = (no_row e.0 es (IsDistinct-head string_eq e.0 (keys_of es) h), rows_are_distinct es (IsDistinct-tail string_eq e.0 (keys_of es) h))

-- ---- a row in another's place

other_name : (x : Name) (rows : List (Name × Slot)) (i : ℕ) → i < length rows → value_at x rows ≡ None → bytes_eq x (row_at i rows).0 ≡ false
other_name x [] i h p = absurd (omega arith)
other_name x (r ∷ rs) zero h p = (none_picked (bytes_eq x r.0) r.1 (value_at x rs) p).0
other_name x (r ∷ rs) (suc i) h p = other_name x rs i (omega arith) (none_picked (bytes_eq x r.0) r.1 (value_at x rs) p).1

same_bytes : (x y : List ℕ) → bytes_eq x y ≡ true → x ≡ y
same_bytes x y h = same_text x y (sym h)

pub value_at-with_slot : (rows : List (Name × Slot)) (i : ℕ) (w : Slot) (y : Name) → i < length rows → AreDistinct rows → value_at y (with_slot i w rows) ≡ cond (bytes_eq (row_at i rows).0 y) (Some w) (value_at y rows)
value_at-with_slot [] i w y h d = absurd (omega arith)
value_at-with_slot (r ∷ rs) zero w y h d = pick_again (bytes_eq y r.0) (bytes_eq r.0 y) (Some w) (Some r.1) (value_at y rs) (nat_list_eq_equiv.symm y r.0)
value_at-with_slot (r ∷ rs) (suc i) w y h d =
    let cases : (b : Bool) → bytes_eq y r.0 ≡ b → cond b (Some r.1) (value_at y (with_slot i w rs)) ≡ cond (bytes_eq (row_at i rs).0 y) (Some w) (cond b (Some r.1) (value_at y rs)) =
    elim [
      | true ↦ λ e.
          let apart : bytes_eq (row_at i rs).0 y ≡ false = nat_list_eq_equiv.symm (row_at i rs).0 y ∙ ap (λ z. bytes_eq z (row_at i rs).0) (same_bytes y r.0 e) ∙ other_name r.0 rs i (omega arith) d.0 in
          sym (pick_false (bytes_eq (row_at i rs).0 y) (Some w) (Some r.1) (Some r.1) apart refl)
      | false ↦ λ e. value_at-with_slot rs i w y (omega arith) d.1
    ] in
    cases _ refl

pub value_at-own : (rows : List (Name × Slot)) (i : ℕ) → i < length rows → AreDistinct rows → value_at (row_at i rows).0 rows ≡ Some (row_at i rows).1
value_at-own [] i h d = absurd (omega arith)
value_at-own (r ∷ rs) zero h d = pick_true (bytes_eq r.0 r.0) (Some r.1) (value_at r.0 rs) (nat_list_eq_equiv.refl r.0)
value_at-own (r ∷ rs) (suc i) h d =
    let apart : bytes_eq (row_at i rs).0 r.0 ≡ false = nat_list_eq_equiv.symm (row_at i rs).0 r.0 ∙ other_name r.0 rs i (omega arith) d.0 in
    pick_false (bytes_eq (row_at i rs).0 r.0) (Some r.1) (value_at (row_at i rs).0 rs) (Some (row_at i rs).1) apart (value_at-own rs i (omega arith) d.1)

pub row_at-with_slot : (rows : List (Name × Slot)) (i : ℕ) (w : Slot) → i < length rows → row_at i (with_slot i w rows) ≡ ((row_at i rows).0, w)
row_at-with_slot [] i w h = absurd (omega arith)
row_at-with_slot (r ∷ rs) zero w h = refl
row_at-with_slot (r ∷ rs) (suc i) w h = row_at-with_slot rs i w (omega arith)

pub with_own_slot : (rows : List (Name × Slot)) (i : ℕ) → with_slot i (row_at i rows).1 rows ≡ rows
with_own_slot [] i = refl
with_own_slot (r ∷ rs) zero = refl
with_own_slot (r ∷ rs) (suc i) = ap (λ xs. r ∷ xs) (with_own_slot rs i)

-- each version is the one of the new slot, or was there
pub versions-with_slot : (rows : List (Name × Slot)) (i j : ℕ) (w : Slot) (n : ℕ) → (row_at j rows).1.version ≤ n → w.version ≤ n → (row_at j (with_slot i w rows)).1.version ≤ n
versions-with_slot [] i j w n p q = p
versions-with_slot (r ∷ rs) zero zero w n p q = q
versions-with_slot (r ∷ rs) zero (suc j) w n p q = p
versions-with_slot (r ∷ rs) (suc i) zero w n p q = p
versions-with_slot (r ∷ rs) (suc i) (suc j) w n p q = versions-with_slot rs i j w n p q

-- ---- a change of an entry

pub defines : (s : Stored) (i : ℕ) (e : Entry Rule) (make : Entry PlainRule → Entry PlainRule) → i < length s.rows → AreDistinct s.rows
    → map_entry plain_rule e ≡ make (map_entry plain_rule (entry_at i s)) → Defines (name_at i s) make s (changed i e s)
defines s i e make h d p y =
    rw (value_at-with_slot s.rows i (record { version = next_version s.drawn; entry = e }) y h d, value_at-own s.rows i h d, ← p)
    (elim (bytes_eq (name_at i s) y) as (λ b. plain_entry (cond b (Some (record { version = next_version s.drawn; entry = e })) (value_at y s.rows)) ≡ cond b (map_entry plain_rule e) (definitions s y)) [ true ↦ refl | false ↦ refl ])

pub draws : (s : Stored) (i : ℕ) (e : Entry Rule) → i < length s.rows → ((j : ℕ) → version_at j s ≤ s.drawn) → Draws i s (changed i e s)
draws s i e h p =
    let w : Slot = record { version = next_version s.drawn; entry = e } in
    let own : version_at i (changed i e s) ≡ next_version s.drawn = ap (λ (r : Name × Slot). r.1.version) (row_at-with_slot s.rows i w h) in
    record {
      greater = λ q. omega (arith, own);
      than_each = λ q j. omega (arith, own, p j);
      last = λ q. omega (arith, own);
      noted = sym own;
    }

-- ---- the rows that stand for the entries of a map

pub row_at-value : {Y : Type 0} (es : List (String Y × Slot)) (i : ℕ) (v : Slot) → slice_get (map (λ e. e.1) es) i ≡ Some v → (row_at i (map (λ p. (string_bytes p.0, p.1)) es)).1 ≡ v
row_at-value [] i v h = cc
row_at-value (e ∷ es) zero v h = cc
row_at-value (e ∷ es) (suc i) v h = row_at-value es i v h

pub rows-set_value_at : {Y : Type 0} (es : List (String Y × Slot)) (i : ℕ) (w : Slot) → map (λ p. (string_bytes p.0, p.1)) (set_value_at es i w) ≡ with_slot i w (map (λ p. (string_bytes p.0, p.1)) es)
rows-set_value_at [] i w = refl
rows-set_value_at (e ∷ es) zero w = refl
rows-set_value_at (e ∷ es) (suc i) w = ap (λ xs. (string_bytes e.0, e.1) ∷ xs) (rows-set_value_at es i w)

pub row_found : {Y : Type 0} (x : List ℕ) (es : List (String Y × Slot)) (i : ℕ) (k : String Y) (v : Slot) → slice_get es i ≡ Some (k, v)
    → Some k ≡ lookup_key (λ q. bytes_eq x (string_bytes q)) es → Some v ≡ lookup (λ q. bytes_eq x (string_bytes q)) es
    → (slice_get (map row es) i ≡ Some (x, v)) × (value_at x (map row es) ≡ Some v)
row_found x es i k v p q r =
    let named : x ≡ string_bytes k = same_bytes x (string_bytes k) (lookup_key_passes (λ q. bytes_eq x (string_bytes q)) es k (sym q)) in
    let placed : option_map row (slice_get es i) ≡ Some (string_bytes k, v) = ap (option_map row) p in
    let renamed : Some (string_bytes k, v) ≡ Some (x, v) = ap (λ (z : Name). Some (z, v)) (sym named) in
    (slice_get-map row es i ∙ placed ∙ renamed, value_at-rows x es ∙ sym r)

pub rows-insert_new : {Y : Type 0} (es : List (String Y × Slot)) (k : String Y) (v : Slot) → value_at (string_bytes k) (map row es) ≡ None
    → map row (insert_entry string_eq es k v) ≡ map row es ++ (string_bytes k, v) ∷ []
rows-insert_new [] k v h = refl
rows-insert_new {Y} (e ∷ es) k v h =
    let passed = none_picked (bytes_eq (string_bytes k) (string_bytes e.0)) e.1 (value_at (string_bytes k) (map row es)) h in
    let cases : (b : Bool) → b ≡ false → map row (cond b ((e.0, v) ∷ es) (e ∷ insert_entry string_eq es k v)) ≡ row e ∷ (map row es ++ (string_bytes k, v) ∷ []) =
    elim [
      | true ↦ λ p. cc
      | false ↦ λ p. ap (λ xs. row e ∷ xs) (rows-insert_new es k v passed.1)
    ] in
    cases (string_eq k e.0) passed.0

pub rows-insert : {Y : Type 0} (es : List (String Y × Slot)) (k : String Y) (v : Slot) → map (λ p. (string_bytes p.0, p.1)) (insert_entry string_eq es k v) ≡ with_row (string_bytes k) v (map (λ p. (string_bytes p.0, p.1)) es)
rows-insert [] k v = refl
rows-insert {Y} (e ∷ es) k v =
    elim (string_eq k e.0) as (λ b. map row (cond b ((e.0, v) ∷ es) (e ∷ insert_entry string_eq es k v)) ≡ cond b ((string_bytes e.0, v) ∷ map row es) (row e ∷ with_row (string_bytes k) v (map row es))) [
      | true ↦ refl
      | false ↦ ap (λ xs. row e ∷ xs) (rows-insert es k v)
    ]

-- a change keeps the versions up to the number drawn last
pub versions_changed : (rows : List (Name × Slot)) (i : ℕ) (w : Slot) (n : ℕ) → ((j : ℕ) → (row_at j rows).1.version ≤ n) → w.version ≡ next_version n → n < 2 ^ 64 → (j : ℕ) → (row_at j (with_slot i w rows)).1.version ≤ next_version n
versions_changed rows i w n h e b j = versions-with_slot rows i j w (next_version n) (omega (arith, h j)) (omega (arith, e))

-- a new name with the empty entry changes no definition
pub definitions-with_name : (rows : List (Name × Slot)) (name x : Name) → plain_entry (value_at x (rows ++ (name, new_slot) ∷ [])) ≡ plain_entry (value_at x rows)
definitions-with_name [] name x = elim (bytes_eq x name) as (λ b. plain_entry (cond b (Some new_slot) None) ≡ empty_entry) [ true ↦ refl | false ↦ refl ]
definitions-with_name (r ∷ rs) name x =
    elim (bytes_eq x r.0) as (λ b. plain_entry (cond b (Some r.1) (value_at x (rs ++ (name, new_slot) ∷ []))) ≡ plain_entry (cond b (Some r.1) (value_at x rs))) [
      | true ↦ refl
      | false ↦ definitions-with_name rs name x
    ]
