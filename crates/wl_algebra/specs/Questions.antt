-- Questions of one element. Reference pages of these.
use Rattle.std.specs.Prelude.{ℤ, ◌%◌, Bool, false, not, nat_eq, List, [], ◌∷◌, Option, Some, None, unsigned_abs}
use Rattle.wl_expr.specs.Applied.{Applied, unchanged, gives}
use Rattle.wl_expr.specs.Tree.{Tree}
use Rattle.wl_expr.specs.Words.{truth, int_of, is_node}

abbrev pub question : (Tree → Bool) → List Tree → Applied
question f (t ∷ []) = gives (truth (f t))
question f es = unchanged

abbrev pub is_even_int : Option ℤ → Bool
is_even_int None = false
is_even_int (Some n) = nat_eq (unsigned_abs n % 2) 0

abbrev pub is_odd_int : Option ℤ → Bool
is_odd_int None = false
is_odd_int (Some n) = nat_eq (unsigned_abs n % 2) 1

abbrev pub is_even : Tree → Bool
is_even t = is_even_int (int_of t)

abbrev pub is_odd : Tree → Bool
is_odd t = is_odd_int (int_of t)

abbrev pub is_atom : Tree → Bool
is_atom t = not (is_node t)
