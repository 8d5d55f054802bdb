-- Ticks leave the counts as they were at the last mark.
use Rattle.std.proofs.Common.{◌≡◌, ◌++◌, ℕ, List, [], ◌∷◌, refl, ap, ◌∙◌}
use Rattle.wl_ports.specs.Counted.{add_to_last, TicksAtMost}
use Rattle.wl_state.specs.Marks.{at_last_mark}

add_unmarked : (n : ℕ) (xs : List ℕ) → at_last_mark (add_to_last n xs) ≡ at_last_mark xs
add_unmarked n [] = refl
add_unmarked n (x ∷ []) = refl
add_unmarked n (x ∷ y ∷ []) = refl
add_unmarked n (x ∷ y ∷ z ∷ zs) = ap (λ (l : List ℕ). x ∷ l) (add_unmarked n (y ∷ z ∷ zs))

pub ticked : (n : ℕ) (xs ys : List ℕ) → ys ≡ add_to_last n xs → at_last_mark ys ≡ at_last_mark xs
ticked n xs ys is = ap at_last_mark is ∙ add_unmarked n xs

pub ticked_at_most : (k : ℕ) (xs ys : List ℕ) → TicksAtMost k xs ys → at_last_mark ys ≡ at_last_mark xs
ticked_at_most k xs ys t = ticked t.0 xs ys t.2

pub marked : (xs : List ℕ) (k : ℕ) → at_last_mark (xs ++ k ∷ []) ≡ xs ++ 0 ∷ []
marked [] k = refl
marked (x ∷ []) k = refl
marked (x ∷ y ∷ ys) k = ap (λ (l : List ℕ). x ∷ l) (marked (y ∷ ys) k)
