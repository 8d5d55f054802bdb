-- `Factorial[n]`, n from 0 up. Reference page of it.
use Rattle.std.specs.Prelude.{ℕ, ℤ, zero, suc, pos, ◌*◌, true, false, List, [], ◌∷◌, Option, Some}
use Rattle.wl_exact.specs.Fraction.{in_range}
use Rattle.wl_expr.specs.Applied.{Applied, unchanged, gives}
use Rattle.wl_expr.specs.Tree.{Tree}
use Rattle.wl_expr.specs.Words.{natural, int_of}
use Rattle.wl_algebra.specs.Answers.{overflowed}

abbrev pub factorial : ℕ → ℕ
factorial zero = 1
factorial (suc n) = suc n * factorial n

abbrev pub factorial_of : Option ℤ → Applied
factorial_of (Some (pos n)) = elim (in_range (pos (factorial n))) [ true ↦ gives (natural (factorial n)) | false ↦ overflowed ]
factorial_of _ = unchanged

abbrev pub factorial_row : List Tree → Applied
factorial_row (n ∷ []) = factorial_of (int_of n)
factorial_row es = unchanged
