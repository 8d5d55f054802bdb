-- A list of one, two, three or four elements, from its length and its places.
use Rattle.std.proofs.Common.{◌≡◌, List, [], ◌∷◌, length, get_or, refl, ap, arith}

pub one_item : {X : Type 0} (xs : List X) (a : X) → length xs ≡ 1 → a ≡ get_or xs 0 a → xs ≡ a ∷ []
one_item [] a l p = absurd (omega arith)
one_item (x ∷ []) a l p = cc
one_item (x ∷ y ∷ xs) a l p = absurd (omega arith)

pub two_items : {X : Type 0} (xs : List X) (a b : X) → length xs ≡ 2 → a ≡ get_or xs 0 a → b ≡ get_or xs 1 b → xs ≡ a ∷ b ∷ []
two_items [] a b l p q = absurd (omega arith)
two_items (x ∷ []) a b l p q = absurd (omega arith)
two_items (x ∷ y ∷ []) a b l p q = cc
two_items (x ∷ y ∷ z ∷ xs) a b l p q = absurd (omega arith)

pub three_items : {X : Type 0} (xs : List X) (a b c : X) → length xs ≡ 3 → a ≡ get_or xs 0 a → b ≡ get_or xs 1 b → c ≡ get_or xs 2 c → xs ≡ a ∷ b ∷ c ∷ []
three_items [] a b c l p q r = absurd (omega arith)
three_items (x ∷ []) a b c l p q r = absurd (omega arith)
three_items (x ∷ y ∷ []) a b c l p q r = absurd (omega arith)
three_items (x ∷ y ∷ z ∷ []) a b c l p q r = cc
three_items (x ∷ y ∷ z ∷ w ∷ xs) a b c l p q r = absurd (omega arith)

-- ---- the same, with the places themselves

pub one_by_place : {X : Type 0} (xs : List X) (d : X) → length xs ≡ 1 → xs ≡ get_or xs 0 d ∷ []
one_by_place [] d l = absurd (omega arith)
one_by_place (x ∷ []) d l = refl
one_by_place (x ∷ y ∷ xs) d l = absurd (omega arith)

pub two_by_place : {X : Type 0} (xs : List X) (d : X) → length xs ≡ 2 → xs ≡ get_or xs 0 d ∷ get_or xs 1 d ∷ []
two_by_place [] d l = absurd (omega arith)
two_by_place (x ∷ xs) d l = ap (λ ys. x ∷ ys) (one_by_place xs d (omega arith))

pub three_by_place : {X : Type 0} (xs : List X) (d : X) → length xs ≡ 3 → xs ≡ get_or xs 0 d ∷ get_or xs 1 d ∷ get_or xs 2 d ∷ []
three_by_place [] d l = absurd (omega arith)
three_by_place (x ∷ xs) d l = ap (λ ys. x ∷ ys) (two_by_place xs d (omega arith))

pub four_by_place : {X : Type 0} (xs : List X) (d : X) → length xs ≡ 4 → xs ≡ get_or xs 0 d ∷ get_or xs 1 d ∷ get_or xs 2 d ∷ get_or xs 3 d ∷ []
four_by_place [] d l = absurd (omega arith)
four_by_place (x ∷ xs) d l = ap (λ ys. x ∷ ys) (three_by_place xs d (omega arith))
