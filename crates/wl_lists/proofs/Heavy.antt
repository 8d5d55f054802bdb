-- Too many elements.
use Rattle.std.proofs.Common.{◌≤◌, ◌<◌, ◌+◌, ◌*◌, ℕ, zero, suc, arith}
use Rattle.wl_expr.specs.Tree.{Tree, AreSmall, num, text, symbol, node, from_list, weight, weights}
use Rattle.wl_lists.specs.Arrays.{image_at}
use Rattle.wl_lists.specs.Tabulated.{tabulated}

weighs : (t : Tree) → 1 ≤ weight t
weighs (num n) = omega arith
weighs (text s) = omega arith
weighs (symbol s) = omega arith
weighs (node h ts) = let w = weighs h in omega (arith, w)

images_weigh : (f : Tree) (k n : ℕ) → 2 * n ≤ weights (from_list (tabulated (image_at f) k n))
images_weigh f k zero = omega arith
images_weigh f k (suc n) = let w = weighs f in let r = images_weigh f (k + 1) n in omega (arith, w, r)

pub many_images : (f : Tree) (n : ℕ) → 2000000 < n → ¬ AreSmall (from_list (tabulated (image_at f) 1 n))
many_images f n l s = let w = images_weigh f 1 n in let r = s.light in absurd (omega (arith, w, r))
