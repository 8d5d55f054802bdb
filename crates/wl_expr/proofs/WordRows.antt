-- Worked rows of the words on trees, and of the hash: its values are another program's.
use Rattle.std.proofs.Common.{◌≡◌, List, [], ◌∷◌, refl, pos, negsuc}
use Rattle.std.specs.Prelude.{codes, Some, None}
use Rattle.wl_exact.specs.Fraction.{of_int}
use Rattle.wl_exact.specs.Span.{Span, next, ended, first, following}
use Rattle.wl_expr.specs.Hash.{tree_hash}
use Rattle.wl_expr.specs.Same.{first_of_each}
use Rattle.wl_expr.specs.Sorted.{sorted}
use Rattle.wl_expr.specs.Spans.{span_of}
use Rattle.wl_expr.specs.Special.{special, named, ordinary}
use Rattle.wl_expr.specs.Tree.{Tree, num, text, symbol}
use Rattle.wl_expr.specs.Words.{form, applied, natural, head_of, leftmost, count_of, head_name}

abbrev x : Tree
x = symbol (codes "x")

abbrev f : List Tree → Tree
f ts = form (codes "f") ts

abbrev half : Tree
half = num (record { num = pos 1; den = 2 })

head-half : head_of half ≡ symbol (codes "Rational")
head-half = refl

leftmost-sub : leftmost (applied (f (x ∷ [])) (natural 1 ∷ [])) ≡ symbol (codes "f")
leftmost-sub = refl

head_name-sub : head_name (applied (f (x ∷ [])) (natural 1 ∷ [])) ≡ None
head_name-sub = refl

count-half : count_of half ≡ None
count-half = refl

special-pattern : special (form (codes "Pattern") (x ∷ form (codes "Blank") [] ∷ [])) ≡ named
special-pattern = refl

-- the first element of a Pattern is a symbol
special-no_pattern : special (form (codes "Pattern") (half ∷ form (codes "Blank") [] ∷ [])) ≡ ordinary
special-no_pattern = refl

special-two_blanks : special (form (codes "Blank") (x ∷ x ∷ [])) ≡ ordinary
special-two_blanks = refl

each-once : first_of_each [] (x ∷ half ∷ x ∷ f (x ∷ []) ∷ half ∷ []) ≡ x ∷ half ∷ f (x ∷ []) ∷ []
each-once = refl

in_order : sorted (f (x ∷ []) ∷ x ∷ natural 2 ∷ text (codes "x") ∷ half ∷ []) ≡ half ∷ natural 2 ∷ text (codes "x") ∷ x ∷ f (x ∷ []) ∷ []
in_order = refl

-- from 1 by 1/2 as far as 7/4: 1, 3/2
one_to_seven_fourths : Span
one_to_seven_fourths = record { from = of_int (pos 1); to = record { num = pos 7; den = 4 }; by = record { num = pos 1; den = 2 } }

first-one : first one_to_seven_fourths ≡ next (of_int (pos 1))
unfolding one_to_seven_fourths
first-one = refl

second-one : following one_to_seven_fourths (of_int (pos 1)) ≡ next (record { num = pos 3; den = 2 })
unfolding one_to_seven_fourths
second-one = refl

third-none : following one_to_seven_fourths (record { num = pos 3; den = 2 }) ≡ ended
unfolding one_to_seven_fourths
third-none = refl

span-up_to : span_of (natural 3 ∷ []) ≡ Some (record { from = of_int (pos 1); to = of_int (pos 3); by = of_int (pos 1) })
span-up_to = refl

span-no_step : span_of (natural 1 ∷ natural 3 ∷ natural 0 ∷ []) ≡ None
span-no_step = refl

hash-node : tree_hash (f (x ∷ half ∷ [])) ≡ 0x503A7DB88B05ECFC
hash-node = refl

hash-negative : tree_hash (num (of_int (negsuc 2))) ≡ 0x831F5791FF2D7BB3
hash-negative = refl
