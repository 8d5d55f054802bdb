-- Lists of rules stay in order.
use Rattle.std.proofs.Common.{◌≡◌, ℕ, ◌<◌, zero, suc, Bool, true, false, cond, List, [], ◌∷◌, length, get_or, take, set, remove, refl, sym, ap, arith}
use Rattle.std.proofs.lemmas.Cmp.{then_total, on_total, back_total, nat_cmp_total, nat_list_cmp_total, upto}
use Rattle.std.specs.Cmp.{IsTotalOrder}
use Rattle.std.specs.Ordering.{is_gt, ordering_reverse}
use Rattle.std.specs.declared.cmp.Ordering.{Ordering}
use Rattle.std.specs.declared.cmp.Ordering.TheVariants.{Less, Equal, Greater}
use Rattle.wl_expr.specs.Tree.{Tree}
use Rattle.wl_expr.specs.Same.{same, same_decides}
use Rattle.wl_rules.specs.Key.{Key, key_of, key_order}
use Rattle.wl_rules.specs.RuleLists.{has_left, replaced, inserted, removed, NoneBefore, IsInOrder}
use Rattle.wl_rules.specs.RuleLists as lists
use Rattle.wl_rules.proofs.Choices.{pick_true, pick_false}

pub key_order_total : IsTotalOrder key_order
key_order_total = then_total (on_total (λ (k : Key). k.digits) nat_list_cmp_total) (on_total (λ (k : Key). k.tests) (back_total nat_cmp_total))

no_later : (a b : Ordering) → a ≡ ordering_reverse b → is_gt b ≡ true → is_gt a ≡ false
no_later a Less p q = cc
no_later a Equal p q = cc
no_later a Greater p q = rw p refl

-- of two keys of which the first is greater, the second isn't
pub smaller_key : (a b : Key) → is_gt (key_order a b) ≡ true → is_gt (key_order b a) ≡ false
smaller_key a b h = no_later (key_order b a) (key_order a b) (key_order_total.antisymm b a) h

module _ {R : Type 0} (left : R → Tree) where
  none_before_upto : (j k : Key) (rs : List R) → is_gt (key_order j k) ≡ false → NoneBefore left k rs → NoneBefore left j rs
  none_before_upto j k [] p h = tt
  none_before_upto j k (r ∷ rs) p h = (upto key_order_total j k (key_of (left r)) p h.0, none_before_upto j k rs p h.1)

  none_before_inserted : (k : Key) (n : R) (rs : List R) → NoneBefore left k rs → is_gt (key_order k (key_of (left n))) ≡ false → NoneBefore left k (inserted left n rs)
  none_before_inserted k n [] h p = (p, tt)
  none_before_inserted k n (r ∷ rs) h p =
      elim (is_gt (key_order (key_of (left r)) (key_of (left n)))) as (λ b. NoneBefore left k ((cond b (n ∷ r ∷ rs) (r ∷ inserted left n rs)))) [
        | true ↦ (p, h)
        | false ↦ (h.0, none_before_inserted k n rs h.1 p)
      ]

  pub inserted_in_order : (n : R) (rs : List R) → IsInOrder left rs → IsInOrder left (inserted left n rs)
  inserted_in_order n [] h = (tt, tt)
  inserted_in_order n (r ∷ rs) h =
      let cases : (b : Bool) → is_gt (key_order (key_of (left r)) (key_of (left n))) ≡ b → IsInOrder left ((cond b (n ∷ r ∷ rs) (r ∷ inserted left n rs))) =
      elim [
        | true ↦ λ e. let p = smaller_key (key_of (left r)) (key_of (left n)) e in ((p, none_before_upto (key_of (left n)) (key_of (left r)) rs p h.0), h)
        | false ↦ λ e. (none_before_inserted (key_of (left r)) n rs h.0 e, inserted_in_order n rs h.1)
      ] in
      cases _ refl

  -- ---- a rule in another's place, and without a rule

  same_key : (n r : R) → same (left n) (left r) ≡ true → key_of (left n) ≡ key_of (left r)
  same_key n r h = ap key_of ((same_decides (left n) (left r)).0 h)

  none_before_replaced : (k : Key) (n : R) (rs : List R) → NoneBefore left k rs → NoneBefore left k (replaced left n rs)
  none_before_replaced k n [] h = tt
  none_before_replaced k n (r ∷ rs) h =
      let cases : (b : Bool) → same (left n) (left r) ≡ b → NoneBefore left k ((cond b (n ∷ rs) (r ∷ replaced left n rs))) =
      elim [
        | true ↦ λ e. (rw (same_key n r e) h.0, h.1)
        | false ↦ λ e. (h.0, none_before_replaced k n rs h.1)
      ] in
      cases _ refl

  pub replaced_in_order : (n : R) (rs : List R) → IsInOrder left rs → IsInOrder left (replaced left n rs)
  replaced_in_order n [] h = tt
  replaced_in_order n (r ∷ rs) h =
      let cases : (b : Bool) → same (left n) (left r) ≡ b → IsInOrder left ((cond b (n ∷ rs) (r ∷ replaced left n rs))) =
      elim [
        | true ↦ λ e. (rw (same_key n r e) h.0, h.1)
        | false ↦ λ e. (none_before_replaced (key_of (left r)) n rs h.0, replaced_in_order n rs h.1)
      ] in
      cases _ refl

  pub insert_in_order : (n : R) (rs : List R) → IsInOrder left rs → IsInOrder left (lists.insert left n rs)
  insert_in_order n rs h =
      elim (has_left left (left n) rs) as (λ b. IsInOrder left ((cond b (replaced left n rs) (inserted left n rs)))) [
        | true ↦ replaced_in_order n rs h
        | false ↦ inserted_in_order n rs h
      ]

  none_before_removed : (k : Key) (l : Tree) (rs : List R) → NoneBefore left k rs → NoneBefore left k (removed left l rs)
  none_before_removed k l [] h = tt
  none_before_removed k l (r ∷ rs) h =
      elim (same l (left r)) as (λ b. NoneBefore left k ((cond b (rs) (r ∷ removed left l rs)))) [
        | true ↦ h.1
        | false ↦ (h.0, none_before_removed k l rs h.1)
      ]

  pub removed_in_order : (l : Tree) (rs : List R) → IsInOrder left rs → IsInOrder left (removed left l rs)
  removed_in_order l [] h = tt
  removed_in_order l (r ∷ rs) h =
      elim (same l (left r)) as (λ b. IsInOrder left ((cond b (rs) (r ∷ removed left l rs)))) [
        | true ↦ h.1
        | false ↦ (none_before_removed (key_of (left r)) l rs h.0, removed_in_order l rs h.1)
      ]

  -- ---- by place

  -- where no rule before a place has this left side, and the rule there has it
  pub has_left_at : (l : Tree) (rs : List R) (i : ℕ) (d : R) → i < length rs → same l (left (get_or rs i d)) ≡ true → has_left left l rs ≡ true
  has_left_at l [] i d h e = absurd (omega arith)
  has_left_at l (r ∷ rs) zero d h e = pick_true (same l (left r)) true (has_left left l rs) e
  has_left_at l (r ∷ rs) (suc i) d h e =
      elim (same l (left r)) as (λ b. (cond b (true) (has_left left l rs)) ≡ true) [
        | true ↦ refl
        | false ↦ has_left_at l rs i d (omega arith) e
      ]

  -- no rule up to a place, and not the one there
  pub has_left_more : (l : Tree) (rs : List R) (i : ℕ) (d : R) → i < length rs → has_left left l (take i rs) ≡ false → same l (left (get_or rs i d)) ≡ false → has_left left l (take (suc i) rs) ≡ false
  has_left_more l [] i d h p e = absurd (omega arith)
  has_left_more l (r ∷ rs) zero d h p e = pick_false (same l (left r)) true false false e refl
  has_left_more l (r ∷ rs) (suc i) d h p e =
      let cases : (b : Bool) → (cond b (true) (has_left left l (take i rs))) ≡ false → (cond b (true) (has_left left l (take (suc i) rs))) ≡ false =
      elim [
        | true ↦ λ q. q
        | false ↦ λ q. has_left_more l rs i d (omega arith) q e
      ] in
      cases (same l (left r)) p

  pub replaced_at : (n : R) (rs : List R) (i : ℕ) (d : R) → i < length rs → has_left left (left n) (take i rs) ≡ false → same (left n) (left (get_or rs i d)) ≡ true → set rs i n ≡ replaced left n rs
  replaced_at n [] i d h p e = absurd (omega arith)
  replaced_at n (r ∷ rs) zero d h p e = sym (pick_true (same (left n) (left r)) (n ∷ rs) (r ∷ replaced left n rs) e)
  replaced_at n (r ∷ rs) (suc i) d h p e =
      let cases : (b : Bool) → (cond b (true) (has_left left (left n) (take i rs))) ≡ false → (r ∷ set rs i n) ≡ (cond b (n ∷ rs) (r ∷ replaced left n rs)) =
      elim [
        | true ↦ λ q. cc
        | false ↦ λ q. ap (λ xs. r ∷ xs) (replaced_at n rs i d (omega arith) q e)
      ] in
      cases (same (left n) (left r)) p

  pub removed_at : (l : Tree) (rs : List R) (i : ℕ) (d : R) → i < length rs → has_left left l (take i rs) ≡ false → same l (left (get_or rs i d)) ≡ true → remove rs i ≡ removed left l rs
  removed_at l [] i d h p e = absurd (omega arith)
  removed_at l (r ∷ rs) zero d h p e = sym (pick_true (same l (left r)) rs (r ∷ removed left l rs) e)
  removed_at l (r ∷ rs) (suc i) d h p e =
      let cases : (b : Bool) → (cond b (true) (has_left left l (take i rs))) ≡ false → (r ∷ remove rs i) ≡ (cond b (rs) (r ∷ removed left l rs)) =
      elim [
        | true ↦ λ q. cc
        | false ↦ λ q. ap (λ xs. r ∷ xs) (removed_at l rs i d (omega arith) q e)
      ] in
      cases (same l (left r)) p

  -- without a rule of this left side there is nothing to take away
  pub removed_none : (l : Tree) (rs : List R) → has_left left l rs ≡ false → removed left l rs ≡ rs
  removed_none l [] h = refl
  removed_none l (r ∷ rs) h =
      let cases : (b : Bool) → (cond b (true) (has_left left l rs)) ≡ false → (cond b (rs) (r ∷ removed left l rs)) ≡ r ∷ rs =
      elim [
        | true ↦ λ q. cc
        | false ↦ λ q. ap (λ xs. r ∷ xs) (removed_none l rs q)
      ] in
      cases (same l (left r)) h
