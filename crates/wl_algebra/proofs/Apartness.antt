-- Lists of different lengths are apart.
use Rattle.std.proofs.Common.{◌≡◌, ◌≢◌, Bool, true, false, ◌||◌, List, [], ◌∷◌, length, refl, ap, ◌∙◌, arith}
use Rattle.wl_expr.specs.Stamped.{Stamped, plain, plains, from_list}
use Rattle.wl_algebra.specs.Comparisons.{are_apart, some_apart}

or_true : (b : Bool) → true ≡ (b || true)
or_true true = refl
or_true false = refl

pub lengths_apart : (xs ys : List Stamped) → length xs ≢ length ys → true ≡ some_apart (plains (from_list xs)) (plains (from_list ys))
lengths_apart [] [] h = absurd (h refl)
lengths_apart [] (y ∷ ys) h = refl
lengths_apart (x ∷ xs) [] h = refl
lengths_apart (x ∷ xs) (y ∷ ys) h =
    or_true (are_apart (plain x) (plain y)) ∙ ap (λ b. are_apart (plain x) (plain y) || b) (lengths_apart xs ys (λ e. h (omega arith)))
