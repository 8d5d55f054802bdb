-- A list by its first places and what lies behind them.
use Rattle.std.proofs.Common.{◌≡◌, ◌≤◌, ◌<◌, ◌-◌, ◌+◌, ℕ, suc, List, [], ◌∷◌, length, get_or, take, drop, drop-cons, add-one, sym, ap, ◌∙◌, arith}
use Rattle.std.proofs.lemmas.List.{take_all}

pub first_and_rest : {X : Type 0} (xs : List X) (x : X) → 1 ≤ length xs → x ≡ get_or xs 0 x → xs ≡ x ∷ take (length xs - 1) (drop 1 xs)
first_and_rest [] x l p = absurd (omega arith)
first_and_rest (y ∷ ys) x l p =
    let t : take (length (y ∷ ys) - 1) ys ≡ ys = take_all (length (y ∷ ys) - 1) ys (omega arith) in
    cc

pub two_and_rest : {X : Type 0} (xs : List X) (x y : X) → 2 ≤ length xs → x ≡ get_or xs 0 x → y ≡ get_or xs 1 y → xs ≡ x ∷ y ∷ take (length xs - 2) (drop 2 xs)
two_and_rest [] x y l p q = absurd (omega arith)
two_and_rest (z ∷ []) x y l p q = absurd (omega arith)
two_and_rest (z ∷ w ∷ zs) x y l p q =
    let t : take (length (z ∷ w ∷ zs) - 2) zs ≡ zs = take_all (length (z ∷ w ∷ zs) - 2) zs (omega arith) in
    cc

-- the place at which a loop stands
pub next_of : {X : Type 0} (xs : List X) (i : ℕ) (x : X) → i < length xs → x ≡ get_or xs i x → drop i xs ≡ x ∷ drop (i + 1) xs
next_of xs i x l p =
    let e : drop i xs ≡ get_or xs i x ∷ drop (suc i) xs = drop-cons xs i x l in
    rw add-one (e ∙ ap (λ y. y ∷ drop (suc i) xs) (sym p))
