-- The powers that make up a product, one by one.
use Rattle.std.proofs.Common.{◌≡◌, ◌≢◌, ℕ, ◌+◌, ◌<◌, true, false, pos, List, [], ◌∷◌, ◌++◌, length, get_or, take, map, refl, arith}
use Rattle.std.proofs.lemmas.List.{take_more, map-append, reverse-append}
use Rattle.std.proofs.lemmas.List.Elements.{filter-append}
use Rattle.wl_exact.specs.Fraction.{of_int}
use Rattle.wl_expr.specs.Order.{without_numbers, power_of, last_first}
use Rattle.wl_expr.specs.Stamped.{Stamped, plain, plains, from_list}
use Rattle.wl_expr.specs.Tree.{Tree, Trees, num, text, symbol, node, more}
use Rattle.wl_expr.specs.Words.{is_number}

-- a node of another number of elements than two is its own base
power_of_more : (h a b c : Tree) (ts : Trees) → power_of (node h (more a (more b (more c ts)))) ≡ record { base = node h (more a (more b (more c ts))); exponent = of_int (pos 1) }
power_of_more h a (num n) c ts = refl
power_of_more h a (text s) c ts = refl
power_of_more h a (symbol s) c ts = refl
power_of_more h a (node k us) c ts = refl

pub power_of_others : (h : Tree) (ts : List Stamped) → length ts ≢ 2 → power_of (node h (plains (from_list ts))) ≡ record { base = node h (plains (from_list ts)); exponent = of_int (pos 1) }
power_of_others h [] l = refl
power_of_others h (t ∷ []) l = refl
power_of_others h (t ∷ u ∷ []) l = absurd (l (omega arith))
power_of_others h (t ∷ u ∷ v ∷ ts) l = power_of_more h (plain t) (plain u) (plain v) (plains (from_list ts))

last_first_push : (ts : List Tree) (t : Tree) → last_first (without_numbers (ts ++ t ∷ [])) ≡ last_first (without_numbers (t ∷ [])) ++ last_first (without_numbers ts)
last_first_push ts t = simp (filter-append, map-append, reverse-append)

pub last_first_number : (ts : List Stamped) (i : ℕ) (d : Stamped) → i < length ts → is_number (plain (get_or ts i d)) ≡ true → last_first (without_numbers (map plain (take (i + 1) ts))) ≡ last_first (without_numbers (map plain (take i ts)))
last_first_number ts i d l n = rw (take_more ts i d l, map-append, last_first_push, n) refl

pub last_first_factor : (ts : List Stamped) (i : ℕ) (d : Stamped) → i < length ts → is_number (plain (get_or ts i d)) ≡ false → last_first (without_numbers (map plain (take (i + 1) ts))) ≡ power_of (plain (get_or ts i d)) ∷ last_first (without_numbers (map plain (take i ts)))
last_first_factor ts i d l n = rw (take_more ts i d l, map-append, last_first_push, n) refl
