-- Worked rows of the canonical order: each tree comes before the next.
use Rattle.std.proofs.Common.{◌≡◌, refl, pos, negsuc}
use Rattle.std.specs.Prelude.{codes}
use Rattle.std.specs.declared.cmp.Ordering.TheVariants.{Less}
use Rattle.wl_exact.specs.Fraction.{of_int}
use Rattle.wl_expr.specs.Order.{canonical_order}
use Rattle.wl_expr.specs.Tree.{Tree, Trees, num, text, symbol, node, none, more}

abbrev two : Tree
two = num (of_int (pos 2))

abbrev a : Tree
a = symbol (codes "a")

abbrev upper_a : Tree
upper_a = symbol (codes "A")

abbrev b : Tree
b = symbol (codes "b")

abbrev product : Trees → Tree
product ts = node (symbol (codes "Times")) ts

abbrev square : Tree → Tree
square t = node (symbol (codes "Power")) (more t (more two none))

abbrev f : Trees → Tree
f ts = node (symbol (codes "f")) ts

negative-half : canonical_order (num (of_int (negsuc 2))) (num (record { num = pos 1; den = 2 })) ≡ Less
negative-half = refl

half-two : canonical_order (num (record { num = pos 1; den = 2 })) two ≡ Less
half-two = refl

two-upper_text : canonical_order two (text (codes "A")) ≡ Less
two-upper_text = refl

upper_text-text : canonical_order (text (codes "A")) (text (codes "a")) ≡ Less
upper_text-text = refl

text-no_factors : canonical_order (text (codes "a")) (product none) ≡ Less
text-no_factors = refl

no_factors-a : canonical_order (product none) a ≡ Less
no_factors-a = refl

a-a_squared : canonical_order a (square a) ≡ Less
a-a_squared = refl

a_squared-upper_a : canonical_order (square a) upper_a ≡ Less
a_squared-upper_a = refl

upper_a-b : canonical_order upper_a b ≡ Less
upper_a-b = refl

b-a_times_b : canonical_order b (product (more a (more b none))) ≡ Less
b-a_times_b = refl

a_times_b-b_squared : canonical_order (product (more a (more b none))) (square b) ≡ Less
a_times_b-b_squared = refl

b_squared-one_element : canonical_order (square b) (f (more a none)) ≡ Less
b_squared-one_element = refl

one_element-two_elements : canonical_order (f (more a none)) (f (more a (more b none))) ≡ Less
one_element-two_elements = refl

-- the same factors: by structure
b-two_times_b : canonical_order b (product (more two (more b none))) ≡ Less
b-two_times_b = refl
