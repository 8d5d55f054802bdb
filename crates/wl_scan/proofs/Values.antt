-- The number that digits write, digit by digit: it grows with each.
use Rattle.std.proofs.Common.{ℕ, ◌+◌, ◌*◌, ◌≤◌, ◌<◌, ◌≡◌, List, [], ◌∷◌, ◌++◌, length, take, drop, get_or, refl, sym, ap, subst, ◌∙◌, arith}
use Rattle.std.proofs.Math.Nat.{mul-le-mul_left}
use Rattle.std.proofs.lemmas.List.{take_more, take-append-drop}
use Rattle.wl_scan.specs.Characters.{digit_value}
use Rattle.wl_scan.specs.Literals.{value_after, value_in}

value_push : (base n : ℕ) (bs : List ℕ) (b : ℕ) → value_after base n (bs ++ b ∷ []) ≡ value_after base n bs * base + digit_value b
value_push base n [] b = refl
value_push base n (c ∷ cs) b = value_push base (n * base + digit_value c) cs b

-- the number of the first digits, with one digit more
pub value_next : (base : ℕ) (bs : List ℕ) (i d v w : ℕ) → i < length bs → v ≡ value_in base (take i bs) → w ≡ v * base + digit_value (get_or bs i d)
    → w ≡ value_in base (take (i + 1) bs)
value_next base bs i d v w within so_far is =
    is ∙ ap (λ n. n * base + digit_value (get_or bs i d)) so_far ∙ sym (value_push base 0 (take i bs) (get_or bs i d)) ∙ ap (value_in base) (sym (take_more bs i d within))

value_grows : (base n : ℕ) (bs : List ℕ) → 0 < base → n ≤ value_after base n bs
value_grows base n [] some = omega arith
value_grows base n (c ∷ cs) some = omega (arith, value_grows base (n * base + digit_value c) cs some, mul-le-mul_left n some)

value_append : (base n : ℕ) (bs cs : List ℕ) → value_after base n (bs ++ cs) ≡ value_after base (value_after base n bs) cs
value_append base n [] cs = refl
value_append base n (b ∷ bs) cs = value_append base (n * base + digit_value b) bs cs

-- the number of the first digits is no greater than that of all
value_part : (base : ℕ) (bs : List ℕ) (k : ℕ) → 0 < base → value_in base (take k bs) ≤ value_in base bs
value_part base bs k some =
    subst (λ n. value_in base (take k bs) ≤ n) (sym (value_append base 0 (take k bs) (drop k bs)) ∙ ap (value_in base) (take-append-drop k bs))
    (value_grows base (value_in base (take k bs)) (drop k bs) some)

-- nor is that with one digit more
pub value_stays : (base : ℕ) (bs : List ℕ) (i d v : ℕ) → 0 < base → i < length bs → v ≡ value_in base (take i bs) → v * base + digit_value (get_or bs i d) ≤ value_in base bs
value_stays base bs i d v some within so_far =
    subst (λ n. n ≤ value_in base bs) (sym (value_next base bs i d v (v * base + digit_value (get_or bs i d)) within so_far refl)) (value_part base bs (i + 1) some)
