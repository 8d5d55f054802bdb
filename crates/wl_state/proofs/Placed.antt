-- The rows of a store by their places, with another entry in one of them, or one more.
use Rattle.std.proofs.Common.{◌≡◌, ◌≢◌, ℕ, zero, suc, ◌<◌, ◌≤◌, Bool, true, false, cond, bytes_eq, List, [], ◌∷◌, ◌++◌, length, Option, Some, None, IsSome, refl, sym, ap, ap₂, ◌∙◌, subst, arith, length-append}
use Rattle.std.proofs.lemmas.List.{get_or_append_left}
use Rattle.std.proofs.Math.Path.{fun_ext}
use Rattle.std.proofs.lemmas.List.Elements.{All-nil}
use Rattle.std.proofs.lemmas.Cmp.{nat_list_eq_equiv}
use native.Mathlib.Decide.{ℕ_discrete, dec_lt}
use Rattle.wl_expr.specs.Words.{Name}
use Rattle.wl_rules.specs.Changes.{AreDistinct, Defines, with_name}
use Rattle.wl_rules.specs.Entries.{Entry, PlainRule, value_at, map_entry, with_entry}
use Rattle.wl_rules.specs.StampedRules.{plain_rule}
use Rattle.wl_rules.specs.Stored.{Stored, Slot, IsIndex, new_slot, row_at, name_at, version_at, entry_at, plain_entry, definitions, next_version, with_slot, changed}
use Rattle.wl_rules.specs.declared.rule.Rule.{Rule}
use Rattle.wl_rules.specs.declared.rule.RuleKind.TheVariants.{Own, Down, Up, Sub}
use Rattle.wl_rules.proofs.Rows.{value_at-own, row_at-with_slot, definitions-with_name}
use Rattle.wl_stamps.specs.Live.{last_version}
use Rattle.wl_state.specs.Honest.{HonestRule, HonestRules, HonestStore, Grows, Kept}
use Rattle.wl_state.proofs.Stores.{kept_refl, kept_grows, grows_trans, rules_grow}

-- what the definitions have of a name is the entry at its place
pub defined_at : (a : Stored) (i : ℕ) → IsIndex i a → AreDistinct a.rows → definitions a (name_at i a) ≡ map_entry plain_rule (entry_at i a)
defined_at a i h d = ap plain_entry (value_at-own a.rows i h d)

-- ---- another entry in a place

length-with_slot : (rows : List (Name × Slot)) (i : ℕ) (w : Slot) → length (with_slot i w rows) ≡ length rows
length-with_slot [] i w = refl
length-with_slot (r ∷ rs) zero w = refl
length-with_slot (r ∷ rs) (suc i) w = ap suc (length-with_slot rs i w)

row_at-other : (rows : List (Name × Slot)) (i j : ℕ) (w : Slot) → j ≢ i → row_at j (with_slot i w rows) ≡ row_at j rows
row_at-other [] i j w n = refl
row_at-other (r ∷ rs) zero zero w n = absurd (n refl)
row_at-other (r ∷ rs) zero (suc j) w n = refl
row_at-other (r ∷ rs) (suc i) zero w n = refl
row_at-other (r ∷ rs) (suc i) (suc j) w n = row_at-other rs i j w (λ e. n (ap suc e))

same_some : (x : Name) (rows : List (Name × Slot)) (i : ℕ) (w : Slot) → value_at x rows ≡ None → value_at x (with_slot i w rows) ≡ None
same_some x [] i w h = h
same_some x (r ∷ rs) zero w h = cases (bytes_eq x r.0) h
  where
    cases : (b : Bool) → cond b (Some r.1) (value_at x rs) ≡ None → cond b (Some w) (value_at x rs) ≡ None
    cases true e = absurd (let q : Some r.1 ≡ None = e in cc)
    cases false e = e
same_some x (r ∷ rs) (suc i) w h = cases (bytes_eq x r.0) h (same_some x rs i w)
  where
    cases : (b : Bool) → cond b (Some r.1) (value_at x rs) ≡ None → (value_at x rs ≡ None → value_at x (with_slot i w rs) ≡ None) → cond b (Some r.1) (value_at x (with_slot i w rs)) ≡ None
    cases true e f = e
    cases false e f = f e

distinct-with_slot : (rows : List (Name × Slot)) (i : ℕ) (w : Slot) → AreDistinct rows → AreDistinct (with_slot i w rows)
distinct-with_slot [] i w d = d
distinct-with_slot (r ∷ rs) zero w d = d
distinct-with_slot (r ∷ rs) (suc i) w d = (same_some r.0 rs i w d.0, distinct-with_slot rs i w d.1)

-- ---- one more

value_at-behind : (x y : Name) (rows : List (Name × Slot)) (w : Slot) → bytes_eq x y ≡ false → value_at x rows ≡ None → value_at x (rows ++ (y, w) ∷ []) ≡ None
value_at-behind x y [] w n h = rw n refl
value_at-behind x y (r ∷ rs) w n h = cases (bytes_eq x r.0) h (value_at-behind x y rs w n)
  where
    cases : (b : Bool) → cond b (Some r.1) (value_at x rs) ≡ None → (value_at x rs ≡ None → value_at x (rs ++ (y, w) ∷ []) ≡ None) → cond b (Some r.1) (value_at x (rs ++ (y, w) ∷ [])) ≡ None
    cases true e f = e
    cases false e f = f e

not_first : (x : Name) (r : Name × Slot) (rs : List (Name × Slot)) → value_at x (r ∷ rs) ≡ None → (bytes_eq x r.0 ≡ false) × (value_at x rs ≡ None)
not_first x r rs h = cases (bytes_eq x r.0) refl h
  where
    cases : (b : Bool) → bytes_eq x r.0 ≡ b → cond b (Some r.1) (value_at x rs) ≡ None → (bytes_eq x r.0 ≡ false) × (value_at x rs ≡ None)
    cases true e q = absurd (let z : Some r.1 ≡ None = q in cc)
    cases false e q = (e, q)

distinct-behind : (rows : List (Name × Slot)) (x : Name) (w : Slot) → value_at x rows ≡ None → AreDistinct rows → AreDistinct (rows ++ (x, w) ∷ [])
distinct-behind [] x w h d = (refl, tt)
distinct-behind (r ∷ rs) x w h d =
    let n = not_first x r rs h in
    (value_at-behind r.0 x rs w (nat_list_eq_equiv.symm r.0 x ∙ n.0) d.0, distinct-behind rs x w n.1 d.1)

get_front : (rows : List (Name × Slot)) (r : Name × Slot) (j : ℕ) → j < length rows → row_at j (rows ++ r ∷ []) ≡ row_at j rows
get_front rows r j h = get_or_append_left rows (r ∷ []) ([], new_slot) j h

past_new : (rows : List (Name × Slot)) (x : Name) (j : ℕ) → length rows ≤ j → (row_at j (rows ++ (x, new_slot) ∷ [])).1 ≡ new_slot
past_new [] x zero l = refl
past_new [] x (suc j) l = refl
past_new (r ∷ rs) x zero l = absurd (omega (arith, l))
past_new (r ∷ rs) x (suc j) l = past_new rs x j (omega (arith, l))

-- ---- the place of a name, in a store that may have got an empty entry for it

-- the rules of each entry of the second store are honest in the first
abbrev pub HonestRows : Stored → Stored → Type 0
HonestRows c a = (i : ℕ) → HonestRules c (entry_at i a).rules

pub record Indexed (a : Stored) (x : Name) (i : ℕ) (b : Stored) : Type 0 where
  pub index : IsIndex i b
  pub name : name_at i b ≡ x
  pub kept : Kept a b
  pub distinct : AreDistinct a.rows → AreDistinct b.rows
  pub honest : (c : Stored) → HonestRows c a → HonestRows c b

no_rule : (c : Stored) → HonestRules c (new_slot.entry.rules)
no_rule c Own = All-nil (HonestRule c)
no_rule c Down = All-nil (HonestRule c)
no_rule c Up = All-nil (HonestRule c)
no_rule c Sub = All-nil (HonestRule c)

honest_new : (c a : Stored) (x : Name) → HonestRows c a → HonestRows c (with_name x a)
honest_new c a x h j = elim (dec_lt j (length a.rows)) [
  | yes l ↦ subst (λ (r : Name × Slot). HonestRules c r.1.entry.rules) (sym (get_front a.rows (x, new_slot) j l)) (h j)
  | no l ↦ subst (λ (w : Slot). HonestRules c w.entry.rules) (sym (past_new a.rows x j (omega (arith, l)))) (no_rule c)
]

new_kept : (a : Stored) (x : Name) → ((y : Name) → definitions (with_name x a) y ≡ definitions a y) → Kept a (with_name x a)
new_kept a x d = record {
  more = let e = length-append a.rows ((x, new_slot) ∷ []) in omega (arith, e);
  drawn = refl;
  rows = λ i h. get_front a.rows (x, new_slot) i h;
  definitions = fun_ext d;
}

pub indexed : (a b : Stored) (x : Name) (i : ℕ) → IsIndex i b × (name_at i b ≡ x) → (IsSome (value_at x a.rows) → b ≡ a) → (value_at x a.rows ≡ None → b ≡ with_name x a) → Indexed a x i b
indexed a b x i at met made = cases (value_at x a.rows) refl
  where
    cases : (o : Option Slot) → value_at x a.rows ≡ o → Indexed a x i b
    cases (Some w) e =
        let q : b ≡ a = met (subst IsSome (sym e) refl) in
        record {
          index = at.0;
          name = at.1;
          kept = subst (Kept a) (sym q) (kept_refl a);
          distinct = λ d. subst (λ (s : Stored). AreDistinct s.rows) (sym q) d;
          honest = λ c h. subst (HonestRows c) (sym q) h;
        }
    cases None e =
        let q : b ≡ with_name x a = made e in
        record {
          index = at.0;
          name = at.1;
          kept = subst (Kept a) (sym q) (new_kept a x (definitions-with_name a.rows x));
          distinct = λ d. subst (λ (s : Stored). AreDistinct s.rows) (sym q) (distinct-behind a.rows x new_slot e d);
          honest = λ c h. subst (HonestRows c) (sym q) (honest_new c a x h);
        }

-- ---- a change of an entry

module _ (s : Stored) (i : ℕ) (e : Entry Rule) (at : IsIndex i s) (d : AreDistinct s.rows) where
  abbrev slot : Slot
  slot = record { version = next_version s.drawn; entry = e }

  changed_row : row_at i (changed i e s).rows ≡ (name_at i s, slot)
  changed_row = row_at-with_slot s.rows i slot at

  changed_name : (j : ℕ) → name_at j (changed i e s) ≡ name_at j s
  changed_name j = elim (ℕ_discrete j i) [
    | yes q ↦ ap (λ z. name_at z (changed i e s)) q ∙ ap (λ (r : Name × Slot). r.0) changed_row ∙ sym (ap (λ z. name_at z s) q)
    | no q ↦ ap (λ (r : Name × Slot). r.0) (row_at-other s.rows i j slot q)
  ]

  pub changed_distinct : AreDistinct (changed i e s).rows
  changed_distinct = distinct-with_slot s.rows i slot d

  -- the entry that was changed has a new version, or the last one
  changed_version : (j : ℕ) → j ≡ i → version_at j (changed i e s) ≡ next_version s.drawn
  changed_version j q = ap (λ z. version_at z (changed i e s)) q ∙ ap (λ (r : Name × Slot). r.1.version) changed_row

  pub changed_grows : s.drawn ≤ last_version → Grows s (changed i e s)
  changed_grows m = record {
    more = let l = length-with_slot s.rows i slot in omega (arith, l);
    drawn = omega (arith, m);
    names = λ j h. changed_name j;
    versions = λ j h v n. elim (ℕ_discrete j i) [
      | yes q ↦ absurd (let w = changed_version j q in n (let r : version_at j (changed i e s) ≡ last_version = omega (arith, w, v) in r))
      | no q ↦ ap (λ (r : Name × Slot). r.1.version) (row_at-other s.rows i j slot q)
    ];
    entries = λ j h v n. elim (ℕ_discrete j i) [
      | yes q ↦ absurd (let w = changed_version j q in n (let r : version_at j (changed i e s) ≡ last_version = omega (arith, w, v) in r))
      | no q ↦
          let l = length-with_slot s.rows i slot in
          ap (definitions (changed i e s)) (sym (changed_name j)) ∙ defined_at (changed i e s) j (omega (arith, h, l)) changed_distinct
          ∙ ap (λ (r : Name × Slot). map_entry plain_rule r.1.entry) (row_at-other s.rows i j slot q) ∙ sym (defined_at s j h d)
    ];
  }

  pub changed_honest : (c : Stored) → HonestRows c s → HonestRules c e.rules → HonestRows c (changed i e s)
  changed_honest c h g j = elim (ℕ_discrete j i) [
    | yes q ↦ subst (λ (r : Name × Slot). HonestRules c r.1.entry.rules) (sym (ap (λ z. row_at z (changed i e s).rows) q ∙ changed_row)) g
    | no q ↦ subst (λ (r : Name × Slot). HonestRules c r.1.entry.rules) (sym (row_at-other s.rows i j slot q)) (h j)
  ]

-- a change of the entry of a name, which may be new
pub record Changes (a : Stored) (x : Name) (i : ℕ) (make : Entry PlainRule → Entry PlainRule) (e : Entry Rule) (b : Stored) : Type 0 where
  pub grows : Grows a b
  pub definitions : definitions b ≡ with_entry x (make (definitions a x)) (definitions a)
  pub distinct : AreDistinct b.rows
  pub drawn : b.drawn ≤ last_version
  pub honest : HonestStore a → HonestRules b e.rules → HonestStore b
  pub index : IsIndex i b
  pub name : name_at i b ≡ x
  pub entry : entry_at i b ≡ e

pub changes : (a s b : Stored) (x : Name) (i : ℕ) (make : Entry PlainRule → Entry PlainRule) (e : Entry Rule) → AreDistinct a.rows → a.drawn ≤ last_version → Indexed a x i s
    → b ≡ changed i e s → Defines (name_at i s) make s b → Changes a x i make e b
changes a s b x i make e d m t c f =
    let ds = t.distinct d in
    let ms : s.drawn ≤ last_version = omega (arith, m, t.kept.drawn) in
    let g : Grows a b = grows_trans (kept_grows t.kept) (subst (Grows s) (sym c) (changed_grows s i e t.index ds ms)) in
    record {
      grows = g;
      definitions = fun_ext f ∙ ap₂ (λ z (h : Name → Entry PlainRule). with_entry z (make (h z)) h) t.name t.kept.definitions;
      distinct = subst (λ (z : Stored). AreDistinct z.rows) (sym c) (changed_distinct s i e t.index ds);
      drawn = let q = ap (λ (z : Stored). z.drawn) c in omega (arith, q);
      index = let q = ap (λ (z : Stored). length z.rows) c in let l = length-with_slot s.rows i (slot s i e t.index ds) in omega (arith, q, l, t.index);
      name = ap (name_at i) c ∙ changed_name s i e t.index ds i ∙ t.name;
      entry = ap (entry_at i) c ∙ ap (λ (r : Name × Slot). r.1.entry) (changed_row s i e t.index ds);
      honest = λ h k. subst (HonestRows b) (sym c) (changed_honest s i e t.index ds b (t.honest b (λ j. rules_grow a b g (entry_at j a).rules (h j))) k);
    }

pub indexed_there : (a : Stored) (x : Name) (i : ℕ) → IsIndex i a → name_at i a ≡ x → Indexed a x i a
indexed_there a x i h n = record { index = h; name = n; kept = kept_refl a; distinct = λ d. d; honest = λ c g. g }
