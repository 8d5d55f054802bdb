-- Rules of equal keys stand in the order in which they came.
use Rattle.std.proofs.Common.{◌≡◌, ◌++◌, Bool, true, false, cond, List, [], ◌∷◌, refl, sym, ◌∙◌, ap, append-nil, true≢false}
use Rattle.std.proofs.lemmas.Cmp.{alike_right, tied_itself}
use Rattle.std.specs.Ordering.{is_eq, is_gt}
use Rattle.std.specs.declared.cmp.Ordering.{Ordering}
use Rattle.std.specs.declared.cmp.Ordering.TheVariants.{Less, Equal, Greater}
use Rattle.wl_expr.specs.Tree.{Tree}
use Rattle.wl_expr.specs.Same.{same, same_decides}
use Rattle.wl_rules.specs.Entries.{PlainRule, left_side}
use Rattle.wl_rules.specs.Key.{Key, key_of, key_order}
use Rattle.wl_rules.specs.RuleLaws.{of_key, joined_by, Change, put, taken, after, as_they_came}
use Rattle.wl_rules.specs.RuleLists.{has_left, replaced, inserted, removed, NoneBefore, IsInOrder}
use Rattle.wl_rules.specs.RuleLists as lists
use Rattle.wl_rules.proofs.Choices.{pick_true, pick_false}
use Rattle.wl_rules.proofs.RuleOrder.{key_order_total, insert_in_order, removed_in_order, removed_none}

equal_by : (o : Ordering) → is_eq o ≡ true → o ≡ Equal
equal_by Less h = cc
equal_by Equal h = refl
equal_by Greater h = cc

-- a key is as great beside one of two equal keys as beside the other
beside_equal : (i j k : Key) → is_eq (key_order j k) ≡ true → key_order i j ≡ key_order i k
beside_equal i j k h = alike_right key_order_total j k i (equal_by (key_order j k) h)

module _ {R : Type 0} (left : R → Tree) where
  is_of : Key → R → Bool
  is_of k r = is_eq (key_order k (key_of (left r)))

  of_key-append : (k : Key) (xs ys : List R) → of_key left k (xs ++ ys) ≡ of_key left k xs ++ of_key left k ys
  of_key-append k [] ys = refl
  of_key-append k (r ∷ rs) ys =
      elim (is_eq (key_order k (key_of (left r)))) as (λ b. cond b (r ∷ of_key left k (rs ++ ys)) (of_key left k (rs ++ ys)) ≡ cond b (r ∷ of_key left k rs) (of_key left k rs) ++ of_key left k ys) [
        | true ↦ ap (λ xs. r ∷ xs) (of_key-append k rs ys)
        | false ↦ of_key-append k rs ys
      ]

  -- behind a rule of greater key there is none of this one
  none_of_key : (j k : Key) (rs : List R) → is_gt (key_order j k) ≡ true → NoneBefore left j rs → of_key left k rs ≡ []
  none_of_key j k [] p h = refl
  none_of_key j k (r ∷ rs) p h =
      let cases : (b : Bool) → is_eq (key_order k (key_of (left r))) ≡ b → cond b (r ∷ of_key left k rs) (of_key left k rs) ≡ [] =
      elim [
        | true ↦ λ e. absurd (true≢false (sym p ∙ ap is_gt (beside_equal j k (key_of (left r)) e) ∙ h.0))
        | false ↦ λ e. none_of_key j k rs p h.1
      ] in
      cases _ refl

  of_key-inserted : (k : Key) (n : R) (rs : List R) → IsInOrder left rs → of_key left k (inserted left n rs) ≡ of_key left k rs ++ of_key left k (n ∷ [])
  of_key-inserted k n [] h = refl
  of_key-inserted k n (r ∷ rs) h =
      let before : is_gt (key_order (key_of (left r)) (key_of (left n))) ≡ true → (b : Bool) → is_eq (key_order k (key_of (left n))) ≡ b → cond b (n ∷ of_key left k (r ∷ rs)) (of_key left k (r ∷ rs)) ≡ of_key left k (r ∷ rs) ++ cond b (n ∷ []) [] =
      λ g. elim [
        | true ↦ λ e. let greater = ap is_gt (alike_right key_order_total k (key_of (left n)) (key_of (left r)) (equal_by _ e)) ∙ g in
            let own = ap is_gt (tied_itself key_order_total (key_of (left r))) in
            let empty : of_key left k (r ∷ rs) ≡ [] = none_of_key (key_of (left r)) k (r ∷ rs) greater (own, h.0) in
            ap (λ xs. n ∷ xs) empty ∙ sym (ap (λ xs. xs ++ n ∷ []) empty)
        | false ↦ λ e. sym (append-nil (of_key left k (r ∷ rs)))
      ] in
      let cases : (b : Bool) → is_gt (key_order (key_of (left r)) (key_of (left n))) ≡ b → of_key left k (cond b (n ∷ r ∷ rs) (r ∷ inserted left n rs)) ≡ of_key left k (r ∷ rs) ++ of_key left k (n ∷ []) =
      elim [
        | true ↦ λ g. before g _ refl
        | false ↦ λ g.
            elim (is_eq (key_order k (key_of (left r)))) as (λ b. cond b (r ∷ of_key left k (inserted left n rs)) (of_key left k (inserted left n rs)) ≡ cond b (r ∷ of_key left k rs) (of_key left k rs) ++ of_key left k (n ∷ [])) [
              | true ↦ ap (λ xs. r ∷ xs) (of_key-inserted k n rs h.1)
              | false ↦ of_key-inserted k n rs h.1
            ]
      ] in
      cases _ refl

  -- ---- identical left sides have one key

  key_of_same : (l : Tree) (r : R) → same l (left r) ≡ true → key_of l ≡ key_of (left r)
  key_of_same l r h = ap key_of ((same_decides l (left r)).0 h)

  absent_of_key : (k : Key) (l : Tree) (rs : List R) → is_eq (key_order k (key_of l)) ≡ false → has_left left l (of_key left k rs) ≡ false
  absent_of_key k l [] h = refl
  absent_of_key k l (r ∷ rs) h =
      let apart : is_eq (key_order k (key_of (left r))) ≡ true → (b : Bool) → same l (left r) ≡ b → cond b true (has_left left l (of_key left k rs)) ≡ false =
      λ e. elim [
        | true ↦ λ s. absurd (true≢false (sym e ∙ ap (λ j. is_eq (key_order k j)) (sym (key_of_same l r s)) ∙ h))
        | false ↦ λ s. absent_of_key k l rs h
      ] in
      let cases : (b : Bool) → is_eq (key_order k (key_of (left r))) ≡ b → has_left left l (cond b (r ∷ of_key left k rs) (of_key left k rs)) ≡ false =
      elim [
        | true ↦ λ e. apart e _ refl
        | false ↦ λ e. absent_of_key k l rs h
      ] in
      cases _ refl

  has_left-of_key : (l : Tree) (rs : List R) → has_left left l (of_key left (key_of l) rs) ≡ has_left left l rs
  has_left-of_key l [] = refl
  has_left-of_key l (r ∷ rs) =
      let own : same l (left r) ≡ true → is_eq (key_order (key_of l) (key_of (left r))) ≡ true =
      λ s. ap (λ j. is_eq (key_order (key_of l) j)) (sym (key_of_same l r s)) ∙ ap is_eq (tied_itself key_order_total (key_of l)) in
      let cases : (a b : Bool) → same l (left r) ≡ a → is_eq (key_order (key_of l) (key_of (left r))) ≡ b → (a ≡ true → b ≡ true) → has_left left l (cond b (r ∷ of_key left (key_of l) rs) (of_key left (key_of l) rs)) ≡ cond a true (has_left left l rs) =
      elim [
        | true ↦ elim [
          | true ↦ λ s e p. pick_true (same l (left r)) true (has_left left l (of_key left (key_of l) rs)) s
          | false ↦ λ s e p. absurd (true≢false (sym (p refl)))
        ]
        | false ↦ elim [
          | true ↦ λ s e p. pick_false (same l (left r)) true (has_left left l (of_key left (key_of l) rs)) (has_left left l rs) s (has_left-of_key l rs)
          | false ↦ λ s e p. has_left-of_key l rs
        ]
      ] in
      cases _ _ refl refl own

  replaced_none : (n : R) (rs : List R) → has_left left (left n) rs ≡ false → replaced left n rs ≡ rs
  replaced_none n [] h = refl
  replaced_none n (r ∷ rs) h =
      let cases : (b : Bool) → cond b true (has_left left (left n) rs) ≡ false → cond b (n ∷ rs) (r ∷ replaced left n rs) ≡ r ∷ rs =
      elim [
        | true ↦ λ q. cc
        | false ↦ λ q. ap (λ xs. r ∷ xs) (replaced_none n rs q)
      ] in
      cases (same (left n) (left r)) h

  of_key-replaced : (k : Key) (n : R) (rs : List R) → of_key left k (replaced left n rs) ≡ replaced left n (of_key left k rs)
  of_key-replaced k n [] = refl
  of_key-replaced k n (r ∷ rs) =
      let there : same (left n) (left r) ≡ true → (b : Bool) → is_eq (key_order k (key_of (left n))) ≡ b → cond b (n ∷ of_key left k rs) (of_key left k rs) ≡ replaced left n (cond b (r ∷ of_key left k rs) (of_key left k rs)) =
      λ s. elim [
        | true ↦ λ e. sym (pick_true (same (left n) (left r)) (n ∷ of_key left k rs) (r ∷ replaced left n (of_key left k rs)) s)
        | false ↦ λ e. sym (replaced_none n (of_key left k rs) (absent_of_key k (left n) rs e))
      ] in
      let elsewhere : same (left n) (left r) ≡ false → (b : Bool) → cond b (r ∷ of_key left k (replaced left n rs)) (of_key left k (replaced left n rs)) ≡ replaced left n (cond b (r ∷ of_key left k rs) (of_key left k rs)) =
      λ s. elim [
        | true ↦ sym (pick_false (same (left n) (left r)) (n ∷ of_key left k rs) (r ∷ replaced left n (of_key left k rs)) (r ∷ of_key left k (replaced left n rs)) s (ap (λ xs. r ∷ xs) (sym (of_key-replaced k n rs))))
        | false ↦ of_key-replaced k n rs
      ] in
      let cases : (a : Bool) → same (left n) (left r) ≡ a → of_key left k (cond a (n ∷ rs) (r ∷ replaced left n rs)) ≡ replaced left n (of_key left k (r ∷ rs)) =
      elim [
        | true ↦ λ s. there s _ refl ∙ ap (λ j. replaced left n (cond (is_eq (key_order k j)) (r ∷ of_key left k rs) (of_key left k rs))) (key_of_same (left n) r s)
        | false ↦ λ s. elsewhere s _
      ] in
      cases _ refl

  of_key-removed : (k : Key) (l : Tree) (rs : List R) → of_key left k (removed left l rs) ≡ removed left l (of_key left k rs)
  of_key-removed k l [] = refl
  of_key-removed k l (r ∷ rs) =
      let there : same l (left r) ≡ true → (b : Bool) → is_eq (key_order k (key_of l)) ≡ b → of_key left k rs ≡ removed left l (cond b (r ∷ of_key left k rs) (of_key left k rs)) =
      λ s. elim [
        | true ↦ λ e. sym (pick_true (same l (left r)) (of_key left k rs) (r ∷ removed left l (of_key left k rs)) s)
        | false ↦ λ e. sym (removed_none left l (of_key left k rs) (absent_of_key k l rs e))
      ] in
      let elsewhere : same l (left r) ≡ false → (b : Bool) → cond b (r ∷ of_key left k (removed left l rs)) (of_key left k (removed left l rs)) ≡ removed left l (cond b (r ∷ of_key left k rs) (of_key left k rs)) =
      λ s. elim [
        | true ↦ sym (pick_false (same l (left r)) (of_key left k rs) (r ∷ removed left l (of_key left k rs)) (r ∷ of_key left k (removed left l rs)) s (ap (λ xs. r ∷ xs) (sym (of_key-removed k l rs))))
        | false ↦ of_key-removed k l rs
      ] in
      let cases : (a : Bool) → same l (left r) ≡ a → of_key left k (cond a rs (r ∷ removed left l rs)) ≡ removed left l (of_key left k (r ∷ rs)) =
      elim [
        | true ↦ λ s. there s _ refl ∙ ap (λ j. removed left l (cond (is_eq (key_order k j)) (r ∷ of_key left k rs) (of_key left k rs))) (key_of_same l r s)
        | false ↦ λ s. elsewhere s _
      ] in
      cases _ refl

  -- ---- one change

  abbrev AreAlike : List R → List R → Type 0
  AreAlike rs as' = (k : Key) → of_key left k rs ≡ of_key left k as'

  has_left-alike : (l : Tree) (rs as' : List R) → AreAlike rs as' → has_left left l rs ≡ has_left left l as'
  has_left-alike l rs as' h = sym (has_left-of_key l rs) ∙ ap (has_left left l) (h (key_of l)) ∙ has_left-of_key l as'

  pub alike_put : (n : R) (rs as' : List R) → IsInOrder left rs → AreAlike rs as' → AreAlike (lists.insert left n rs) (joined_by left n as')
  alike_put n rs as' o h k =
      let chosen : (b : Bool) → of_key left k (cond b (replaced left n rs) (inserted left n rs)) ≡ of_key left k (cond b (replaced left n as') (as' ++ n ∷ [])) =
      elim [
        | true ↦ of_key-replaced k n rs ∙ ap (replaced left n) (h k) ∙ sym (of_key-replaced k n as')
        | false ↦ of_key-inserted k n rs o ∙ ap (λ xs. xs ++ of_key left k (n ∷ [])) (h k) ∙ sym (of_key-append k as' (n ∷ []))
      ] in
      chosen (has_left left (left n) rs) ∙ ap (λ b. of_key left k (cond b (replaced left n as') (as' ++ n ∷ []))) (has_left-alike (left n) rs as' h)

  pub alike_taken : (l : Tree) (rs as' : List R) → AreAlike rs as' → AreAlike (removed left l rs) (removed left l as')
  alike_taken l rs as' h k = of_key-removed k l rs ∙ ap (removed left l) (h k) ∙ sym (of_key-removed k l as')

-- ---- any changes

pub after_in_order : (cs : List Change) (rs : List PlainRule) → IsInOrder left_side rs → IsInOrder left_side (after cs rs)
after_in_order [] rs o = o
after_in_order (put n ∷ cs) rs o = after_in_order cs (lists.insert left_side n rs) (insert_in_order left_side n rs o)
after_in_order (taken l ∷ cs) rs o = after_in_order cs (removed left_side l rs) (removed_in_order left_side l rs o)

pub stand_as_they_came : (cs : List Change) (rs as' : List PlainRule) → IsInOrder left_side rs → AreAlike left_side rs as' → AreAlike left_side (after cs rs) (as_they_came cs as')
stand_as_they_came [] rs as' o h = h
stand_as_they_came (put n ∷ cs) rs as' o h = stand_as_they_came cs (lists.insert left_side n rs) (joined_by left_side n as') (insert_in_order left_side n rs o) (alike_put left_side n rs as' o h)
stand_as_they_came (taken l ∷ cs) rs as' o h = stand_as_they_came cs (removed left_side l rs) (removed left_side l as') (removed_in_order left_side l rs o) (alike_taken left_side l rs as' h)
