-- Where a rule goes among rules in order, and what is known of their left sides.
use Rattle.std.proofs.Common.{◌≡◌, ℕ, ◌<◌, ◌≤◌, zero, suc, Bool, true, false, cond, List, [], ◌∷◌, length, get_or, set, insert, remove, Some, None, refl, sym, ◌∙◌, ap, arith}
use Rattle.std.proofs.lemmas.Cmp.{upto, tied_itself}
use Rattle.std.specs.List.Sorted.{IsPartitionedBy}
use Rattle.std.specs.Ordering.{is_gt, is_le}
use Rattle.std.specs.declared.cmp.Ordering.{Ordering}
use Rattle.std.specs.declared.cmp.Ordering.TheVariants.{Less, Equal, Greater}
use Rattle.wl_expr.specs.Same.{same, same_decides}
use Rattle.wl_expr.specs.Stamped.{Stamped, plain}
use Rattle.wl_expr.specs.Tree.{Tree}
use Rattle.wl_rules.specs.Key.{Key, key_of, key_order}
use Rattle.wl_rules.specs.RuleLists.{has_left, replaced, inserted, removed, NoneBefore, IsInOrder}
use Rattle.wl_rules.specs.RuleLists as lists
use Rattle.wl_rules.specs.StampedRules.{left_of, is_upto, IsPlaceOf, IsPlaceByKey, AreKnown}
use Rattle.wl_rules.specs.declared.rule.Rule.{Rule}
use Rattle.wl_rules.proofs.Choices.{pick_true, pick_false}
use Rattle.wl_rules.proofs.RuleOrder.{key_order_total, has_left_at, replaced_at, removed_at}

is_le-not_gt : (o : Ordering) → is_gt o ≡ false → is_le o ≡ true
is_le-not_gt Less h = refl
is_le-not_gt Equal h = refl
is_le-not_gt Greater h = cc

not_gt-is_le : (o : Ordering) → is_le o ≡ true → is_gt o ≡ false
not_gt-is_le Less h = refl
not_gt-is_le Equal h = refl
not_gt-is_le Greater h = cc

gt-not_le : (o : Ordering) → is_le o ≡ false → is_gt o ≡ true
gt-not_le Less h = cc
gt-not_le Equal h = cc
gt-not_le Greater h = refl

-- ---- the order, by place

none_before_at : (k : Key) (rs : List Rule) (j : ℕ) (d : Rule) → NoneBefore left_of k rs → j < length rs → is_gt (key_order k (key_of (left_of (get_or rs j d)))) ≡ false
none_before_at k [] j d h p = absurd (omega arith)
none_before_at k (r ∷ rs) zero d h p = h.0
none_before_at k (r ∷ rs) (suc j) d h p = none_before_at k rs j d h.1 (omega arith)

in_order_at : (rs : List Rule) (i j : ℕ) (d : Rule) → IsInOrder left_of rs → i ≤ j → j < length rs → is_gt (key_order (key_of (left_of (get_or rs i d))) (key_of (left_of (get_or rs j d)))) ≡ false
in_order_at [] i j d h p q = absurd (omega arith)
in_order_at (r ∷ rs) zero zero d h p q = rw (tied_itself key_order_total (key_of (left_of r))) refl
in_order_at (r ∷ rs) zero (suc j) d h p q = none_before_at (key_of (left_of r)) rs j d h.0 (omega arith)
in_order_at (r ∷ rs) (suc i) zero d h p q = absurd (omega arith)
in_order_at (r ∷ rs) (suc i) (suc j) d h p q = in_order_at rs i j d h.1 (omega arith) (omega arith)

pub in_order_is_partitioned : (k : Key) (rs : List Rule) → IsInOrder left_of rs → IsPartitionedBy (is_upto k) rs
in_order_is_partitioned k rs h i j d p q e =
    is_le-not_gt _ (upto key_order_total (key_of (left_of (get_or rs i d))) (key_of (left_of (get_or rs j d))) k (in_order_at rs i j d h p q) (not_gt-is_le _ e))

pub inserted_at : (n : Rule) (rs : List Rule) (i : ℕ) → i ≤ length rs → IsPlaceByKey (key_of (left_of n)) rs i → insert rs i n ≡ inserted left_of n rs
inserted_at n [] zero b h = refl
inserted_at n [] (suc i) b h = absurd (omega arith)
inserted_at n (r ∷ rs) zero b h = sym (pick_true (is_gt (key_order (key_of (left_of r)) (key_of (left_of n)))) (n ∷ r ∷ rs) (r ∷ inserted left_of n rs) (gt-not_le _ (h.1 0 n (omega arith) (omega arith))))
inserted_at n (r ∷ rs) (suc i) b h =
    let behind : is_gt (key_order (key_of (left_of r)) (key_of (left_of n))) ≡ false = not_gt-is_le _ (h.0 0 n (omega arith) (omega arith)) in
    let rest : insert rs i n ≡ inserted left_of n rs = inserted_at n rs i (omega arith) (λ j d p q. h.0 (suc j) d (omega arith) (omega arith), λ j d p q. h.1 (suc j) d (omega arith) (omega arith)) in
    ap (λ xs. r ∷ xs) rest ∙ sym (pick_false (is_gt (key_order (key_of (left_of r)) (key_of (left_of n)))) (n ∷ r ∷ rs) (r ∷ inserted left_of n rs) (r ∷ inserted left_of n rs) behind refl)

-- what puts a rule among rules, by where it goes
pub insert_found : (n : Rule) (rs : List Rule) (i : ℕ) → IsPlaceOf (left_of n) rs (Some i) → set rs i n ≡ lists.insert left_of n rs
insert_found n rs i h =
    replaced_at left_of n rs i n h.0 h.1 (h.2 n) ∙ sym (pick_true (has_left left_of (left_of n) rs) (replaced left_of n rs) (inserted left_of n rs) (has_left_at left_of (left_of n) rs i n h.0 (h.2 n)))

pub insert_absent : (n : Rule) (rs : List Rule) (i : ℕ) → IsPlaceOf (left_of n) rs None → i ≤ length rs → IsPlaceByKey (key_of (left_of n)) rs i → insert rs i n ≡ lists.insert left_of n rs
insert_absent n rs i h b p =
    inserted_at n rs i b p ∙ sym (pick_false (has_left left_of (left_of n) rs) (replaced left_of n rs) (inserted left_of n rs) (inserted left_of n rs) h refl)

pub removed_found : (l : Tree) (rs : List Rule) (i : ℕ) → IsPlaceOf l rs (Some i) → remove rs i ≡ removed left_of l rs
removed_found l [] i h = absurd (omega (arith, h.0))
removed_found l (r ∷ rs) i h = removed_at left_of l (r ∷ rs) i r h.0 h.1 (h.2 r)

pub has_left_found : (l : Tree) (rs : List Rule) (i : ℕ) → IsPlaceOf l rs (Some i) → has_left left_of l rs ≡ true
has_left_found l [] i h = absurd (omega (arith, h.0))
has_left_found l (r ∷ rs) i h = has_left_at left_of l (r ∷ rs) i r h.0 (h.2 r)

-- ---- left sides that are known

-- a left side that isn't known is no rule's
pub unknown_left : (known : Stamped → Bool) → ((a b : Stamped) → plain a ≡ plain b → known a ≡ known b) → (l : Stamped) (rs : List Rule) → AreKnown known rs → known l ≡ false → has_left left_of (plain l) rs ≡ false
unknown_left known alike l [] h e = refl
unknown_left known alike l (r ∷ rs) h e =
    let cases : (b : Bool) → same (plain l) (plain r.left) ≡ b → (cond b (true) (has_left left_of (plain l) rs)) ≡ false =
    elim [
      | true ↦ λ p. cc (alike l r.left ((same_decides (plain l) (plain r.left)).0 p), h.0)
      | false ↦ λ p. unknown_left known alike l rs h.1 e
    ] in
    cases _ refl

pub known_more : (known more : Stamped → Bool) (rs : List Rule) → ((a : Stamped) → known a ≡ true → more a ≡ true) → AreKnown known rs → AreKnown more rs
known_more known more [] f h = tt
known_more known more (r ∷ rs) f h = (f r.left h.0, known_more known more rs f h.1)

known_replaced : (known : Stamped → Bool) (n : Rule) (rs : List Rule) → known n.left ≡ true → AreKnown known rs → AreKnown known (replaced left_of n rs)
known_replaced known n [] p h = tt
known_replaced known n (r ∷ rs) p h =
    elim (same (left_of n) (left_of r)) as (λ b. AreKnown known ((cond b (n ∷ rs) (r ∷ replaced left_of n rs)))) [
      | true ↦ (p, h.1)
      | false ↦ (h.0, known_replaced known n rs p h.1)
    ]

known_inserted : (known : Stamped → Bool) (n : Rule) (rs : List Rule) → known n.left ≡ true → AreKnown known rs → AreKnown known (inserted left_of n rs)
known_inserted known n [] p h = (p, tt)
known_inserted known n (r ∷ rs) p h =
    elim (is_gt (key_order (key_of (left_of r)) (key_of (left_of n)))) as (λ b. AreKnown known ((cond b (n ∷ r ∷ rs) (r ∷ inserted left_of n rs)))) [
      | true ↦ (p, h)
      | false ↦ (h.0, known_inserted known n rs p h.1)
    ]

pub known_insert : (known : Stamped → Bool) (n : Rule) (rs : List Rule) → known n.left ≡ true → AreKnown known rs → AreKnown known (lists.insert left_of n rs)
known_insert known n rs p h =
    elim (has_left left_of (left_of n) rs) as (λ b. AreKnown known ((cond b (replaced left_of n rs) (inserted left_of n rs)))) [
      | true ↦ known_replaced known n rs p h
      | false ↦ known_inserted known n rs p h
    ]

pub known_removed : (known : Stamped → Bool) (l : Tree) (rs : List Rule) → AreKnown known rs → AreKnown known (removed left_of l rs)
known_removed known l [] h = tt
known_removed known l (r ∷ rs) h =
    elim (same l (left_of r)) as (λ b. AreKnown known ((cond b (rs) (r ∷ removed left_of l rs)))) [
      | true ↦ h.1
      | false ↦ (h.0, known_removed known l rs h.1)
    ]

-- what a comparison at a place has told
pub same_at : (l : Tree) (rs : List Rule) (i : ℕ) (r : Rule) → i < length rs → r ≡ get_or rs i r → l ≡ left_of r → (d : Rule) → same l (left_of (get_or rs i d)) ≡ true
same_at l [] i r h e p d = absurd (omega arith)
same_at l (q ∷ rs) zero r h e p d = (same_decides l (left_of q)).1 (p ∙ ap left_of e)
same_at l (q ∷ rs) (suc i) r h e p d = same_at l rs i r (omega arith) e p d

pub apart_at : (l : Tree) (rs : List Rule) (i : ℕ) (r : Rule) → r ≡ get_or rs i r → (l ≡ left_of r → ⊥) → same l (left_of (get_or rs i r)) ≡ false
apart_at l rs i r e p =
    let cases : (b : Bool) → same l (left_of (get_or rs i r)) ≡ b → b ≡ false =
    elim [
      | true ↦ λ q. absurd (p ((same_decides l (left_of (get_or rs i r))).0 q ∙ sym (ap left_of e)))
      | false ↦ λ q. refl
    ] in
    cases _ refl
