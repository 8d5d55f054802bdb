-- Worked rows: both sides compute to the same. The values are Python's.
use Rattle.std.specs.Prelude.{pos, negsuc, ◌≡◌, refl, ◌^◌, ◌-◌, Ok, Err}
use Rattle.std.specs.declared.cmp.Ordering.TheVariants.{Greater}
use Rattle.wl_exact.specs.Fraction.{of_int, reduced}
use Rattle.wl_exact.specs.Arithmetic.{checked_sum, checked_product, checked_power, checked_ratio, checked_quotient, checked_remainder, fraction_cmp, gcd_of, floor_of}
use Rattle.wl_exact.specs.declared.num.NumFault.TheVariants.{Overflow, ZeroDivisor}

sum_of_small_parts : checked_sum (reduced (pos 1) (2 ^ 100)) (reduced (pos 1) (2 ^ 100)) ≡ Ok (record { num = pos 1; den = 2 ^ 99 })
sum_of_small_parts = refl

sum_past_the_range : checked_sum (of_int (pos (2 ^ 126))) (reduced (negsuc (2 ^ 127 - 2)) 2) ≡ Err Overflow
sum_past_the_range = refl

ratio_by_a_negative : checked_ratio (pos 6) (negsuc 3) ≡ Ok (record { num = negsuc 2; den = 2 })
ratio_by_a_negative = refl

ratio_of_negatives : checked_ratio (negsuc 5) (negsuc 3) ≡ Ok (record { num = pos 3; den = 2 })
ratio_of_negatives = refl

quotient_of_a_negative : checked_quotient (of_int (negsuc 6)) (of_int (pos 2)) ≡ Ok (of_int (negsuc 3))
quotient_of_a_negative = refl

remainder_by_a_negative : checked_remainder (of_int (pos 7)) (of_int (negsuc 1)) ≡ Ok (of_int (negsuc 0))
remainder_by_a_negative = refl

power_below_zero : checked_power (reduced (negsuc 1) 3) (negsuc 2) ≡ Ok (record { num = negsuc 26; den = 8 })
power_below_zero = refl

order_of_negatives : fraction_cmp (reduced (negsuc 1) 3) (reduced (negsuc 2) 4) ≡ Greater
order_of_negatives = refl

power_past_the_range : checked_power (of_int (pos 2)) (pos 127) ≡ Err Overflow
power_past_the_range = refl

product_cancelled : checked_product (reduced (pos 2) 3) (reduced (negsuc 2) 4) ≡ Ok (record { num = negsuc 0; den = 2 })
product_cancelled = refl

power_in_range : checked_power (of_int (negsuc 1)) (pos 126) ≡ Ok (of_int (pos (2 ^ 126)))
power_in_range = refl

power_of_zero : checked_power (of_int (pos 0)) (negsuc 0) ≡ Err ZeroDivisor
power_of_zero = refl

gcd_of_negatives : gcd_of (of_int (negsuc 11)) (of_int (negsuc 17)) ≡ of_int (pos 6)
gcd_of_negatives = refl

floor_of_a_negative : floor_of (record { num = negsuc 6; den = 2 }) ≡ of_int (negsuc 3)
floor_of_a_negative = refl
