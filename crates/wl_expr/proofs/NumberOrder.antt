-- The order of numbers by value is a total order, Equal on one number alone.
use Rattle.std.proofs.Common.{◌≡◌, pos, refl, sym, ap, lit<}
use Rattle.std.specs.Ordering.{ordering_reverse}
use Rattle.std.specs.declared.cmp.Ordering.TheVariants.{Equal}
use Rattle.wl_exact.specs.Arithmetic.{fraction_cmp}
use Rattle.wl_exact.specs.Fraction.{Fraction, IsNumber, of_int}
use Rattle.wl_exact.proofs.Order.{cmp_reverses, cmp_chains, cmp_alike, cmp_equal}
use Rattle.wl_expr.proofs.Chain.{Chain}

pub number_reverse : (a b : Fraction) → fraction_cmp b a ≡ ordering_reverse (fraction_cmp a b)
number_reverse a b = cmp_reverses b a

pub number_equal : (a b : Fraction) → IsNumber a → IsNumber b → fraction_cmp a b ≡ Equal → a ≡ b
number_equal a b p q e = cmp_equal a b p.reduced q.reduced q.positive e

pub number_chain : (a b c : Fraction) → IsNumber a → IsNumber b → IsNumber c → Chain (fraction_cmp a b) (fraction_cmp b c) (fraction_cmp a c)
number_chain a b c p q r = record {
  alike_left = λ e. cmp_alike a b c p.positive q.positive r.positive e;
  alike_right = λ e. ap (fraction_cmp a) (sym (number_equal b c q r e));
  less = cmp_chains a b c p.positive q.positive r.positive;
}

pub one_number : IsNumber (of_int (pos 1))
one_number = record { reduced = refl; positive = lit< tt; range = record { num = lit< tt; den = lit< tt } }
