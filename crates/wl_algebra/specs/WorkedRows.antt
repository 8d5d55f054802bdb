-- Worked rows of the definition, by the manual's pages on these functions.
use Rattle.std.specs.Prelude.{◌≡◌, ℕ, ℤ, pos, negsuc, List, [], ◌∷◌, codes}
use Rattle.wl_expr.specs.Applied.{gives, infinite, indeterminate, noticed, unchanged}
use Rattle.wl_expr.specs.Tree.{Tree, num, symbol}
use Rattle.wl_expr.specs.Words.{form, false_symbol, list_of, natural, true_symbol, whole}
use Rattle.wl_algebra.specs.Answers.{indeterminate_symbol, infinity}
use Rattle.wl_algebra.specs.Powers.{power}
use Rattle.wl_algebra.specs.Table.{apply}

abbrev a : Tree
a = symbol (codes "a")

abbrev b : Tree
b = symbol (codes "b")

abbrev x : Tree
x = symbol (codes "x")

abbrev fraction : ℤ → ℕ → Tree
fraction p q = num (record { num = p; den = q })

abbrev times : List Tree → Tree
times ts = form (codes "Times") ts

abbrev plus : List Tree → Tree
plus ts = form (codes "Plus") ts

pub record WorkedSums : Type 0 where
  pub fractions_add : apply (codes "Plus") (fraction (pos 1) 6 ∷ fraction (pos 1) 10 ∷ []) ≡ gives (fraction (pos 4) 15)
  pub rests_join : apply (codes "Plus") (b ∷ times (natural 2 ∷ a ∷ []) ∷ natural 3 ∷ a ∷ []) ≡ gives (plus (natural 3 ∷ b ∷ times (natural 3 ∷ a ∷ []) ∷ []))
  pub rest_vanishes : apply (codes "Plus") (a ∷ b ∷ times (whole (negsuc 0) ∷ a ∷ []) ∷ []) ≡ gives b
  pub one_infinity : apply (codes "Plus") (natural 1 ∷ infinity ∷ []) ≡ gives infinity
  pub two_infinities : apply (codes "Plus") (infinity ∷ a ∷ infinity ∷ []) ≡ gives indeterminate_symbol

pub record WorkedProducts : Type 0 where
  pub bases_join : apply (codes "Times") (x ∷ natural 2 ∷ x ∷ []) ≡ gives (times (natural 2 ∷ power x (plus (natural 1 ∷ natural 1 ∷ [])) ∷ []))
  pub zero_with_infinity : apply (codes "Times") (natural 0 ∷ infinity ∷ a ∷ []) ≡ gives indeterminate_symbol
  pub zero_to_zero : apply (codes "Power") (natural 0 ∷ natural 0 ∷ []) ≡ noticed (indeterminate (power (natural 0) (natural 0))) indeterminate_symbol
  pub zero_below_zero : apply (codes "Power") (natural 0 ∷ whole (negsuc 0) ∷ []) ≡ noticed (infinite (power (natural 0) (whole (negsuc 0)))) infinity
  pub powers_of_factors : apply (codes "Power") (times (a ∷ b ∷ []) ∷ natural 2 ∷ []) ≡ gives (times (power a (natural 2) ∷ power b (natural 2) ∷ []))

pub record WorkedNumbers : Type 0 where
  pub remainder_below : apply (codes "Mod") (whole (negsuc 6) ∷ natural 3 ∷ []) ≡ gives (natural 2)
  pub greatest_in_lists : apply (codes "Max") (natural 1 ∷ list_of (natural 3 ∷ list_of (natural 2 ∷ []) ∷ []) ∷ []) ≡ gives (natural 3)
  pub no_greatest : apply (codes "Max") [] ≡ unchanged
  pub five_factorial : apply (codes "Factorial") (natural 5 ∷ []) ≡ gives (natural 120)
  pub lengths_differ : apply (codes "Equal") (list_of (a ∷ []) ∷ list_of (a ∷ b ∷ []) ∷ []) ≡ gives false_symbol
  pub symbols_stay : apply (codes "Equal") (a ∷ b ∷ []) ≡ unchanged
  pub chain_holds : apply (codes "Inequality") (natural 1 ∷ symbol (codes "Less") ∷ natural 2 ∷ symbol (codes "LessEqual") ∷ natural 2 ∷ []) ≡ gives true_symbol
  pub other_names_stay : apply (codes "f") (a ∷ []) ≡ unchanged
