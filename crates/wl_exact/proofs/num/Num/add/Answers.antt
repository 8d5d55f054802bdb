use Rattle.std.proofs.Common.{rules, ◌≡◌, ◌∙◌, sym, ap, arith, ℤ, ℕ, FitsSigned}
use Rattle.std.specs.Prelude.{Ok, Err, ◌+ℤ◌}
use Rattle.std.specs.Int.{w128}
use Rattle.std.proofs.lemmas.Int.{to_z-of_z}
use Rattle.wl_exact.specs.declared.num.NumFault.TheVariants.{Overflow}
use Rattle.wl_exact.specs.Fraction.{Fraction, reduced}
use Rattle.wl_exact.specs.Arithmetic.{formed, formed_size, checked_sum}
use Rattle.wl_exact.proofs.Sums.{left_of, right_of, den_of, told_left, told_right, told_den, den_positive, sum_refused_left, sum_refused_right, sum_refused_num, sum_refused_den, sum_given, sum_overflow}
use Rattle.wl_exact.proofs.num.Num.add.Goals as goal
use Rattle.wl_exact.proofs.num.Num.add.Goals.{In_ok-left, In_ok-right, In_ok-num, In_ok-den}

abbrev parts : ℤ → ℕ → Fraction
parts n d = record { num = n; den = d }

-- from the fields to the numbers that the clauses see
of_views : (a b f g : Fraction) → a ≡ f → b ≡ g → checked_sum a b ≡ checked_sum f g
of_views a b f g p q = ap (λ x. checked_sum x b) p ∙ ap (checked_sum f) q

-- ---- the numbers that were formed

left_formed : (c : In_ok-left) → formed (left_of (parts c.self.inside.num c.self.inside.den) (parts c.b.inside.num c.b.inside.den)) ≡ Ok c.in_ok-left.left
left_formed c =
    let fits : FitsSigned w128 c.self.inside.num = search rules in
    told_left (parts c.self.inside.num c.self.inside.den) (parts c.b.inside.num c.b.inside.den) _ _ _ c.gcd-common.ensures.value (simp to_z-of_z at c.scaled.ensures) c.in_ok-left.was

right_formed : (c : In_ok-right) → formed (right_of (parts c.self.inside.num c.self.inside.den) (parts c.b.inside.num c.b.inside.den)) ≡ Ok c.in_ok-right.right
right_formed c =
    let fits : FitsSigned w128 c.b.inside.num = search rules in
    told_right (parts c.self.inside.num c.self.inside.den) (parts c.b.inside.num c.b.inside.den) _ _ _ c.gcd-common.ensures.value (simp to_z-of_z at c.scaled-2.ensures) c.in_ok-right.was

num_formed : (c : In_ok-num) → formed (c.in_ok-left.left +ℤ c.in_ok-right.right) ≡ Ok c.in_ok-num.num
num_formed c =
    let left_fits : FitsSigned w128 c.in_ok-left.left = search rules in
    let right_fits : FitsSigned w128 c.in_ok-right.right = search rules in
    sym (simp to_z-of_z at c.sum.ensures) ∙ c.in_ok-num.was

den_formed : (c : In_ok-den) → formed_size (den_of (parts c.self.inside.num c.self.inside.den) (parts c.b.inside.num c.b.inside.den)) ≡ Ok c.in_ok-den.den
den_formed c =
    told_den (parts c.self.inside.num c.self.inside.den) (parts c.b.inside.num c.b.inside.den) _ _ _ c.gcd-common.ensures.value c.size_product.ensures c.in_ok-den.was

-- ---- the answers

pub returns-in_err-left-clause-answer : goal.returns-in_err-left-clause-answer
returns-in_err-left-clause-answer c =
    let a : Fraction = parts c.self.inside.num c.self.inside.den in
    let b : Fraction = parts c.b.inside.num c.b.inside.den in
    let fits : FitsSigned w128 a.num = search rules in
    let left = told_left a b _ _ _ c.gcd-common.ensures.value (simp to_z-of_z at c.scaled.ensures) c.in_err-left.was in
    let refused : c.from_residual.result ≡ Err Overflow = grind arith in
    refused ∙ sum_refused_left a b _ left ∙ of_views a b c.args.self.now c.args.b.now c.self.view_is c.b.view_is

pub returns-in_err-left-clause-overflow : goal.returns-in_err-left-clause-overflow
returns-in_err-left-clause-overflow c = sum_overflow c.args.self.now c.args.b.now _ (returns-in_err-left-clause-answer c)

pub returns-in_err-right-clause-answer : goal.returns-in_err-right-clause-answer
returns-in_err-right-clause-answer c =
    let a : Fraction = parts c.self.inside.num c.self.inside.den in
    let b : Fraction = parts c.b.inside.num c.b.inside.den in
    let fits : FitsSigned w128 b.num = search rules in
    let left = left_formed (goal.at.returns-in_err-right-clause-answer c).In_ok-left in
    let right = told_right a b _ _ _ c.gcd-common.ensures.value (simp to_z-of_z at c.scaled-2.ensures) c.in_err-right.was in
    let refused : c.from_residual-in_err-right.result ≡ Err Overflow = grind arith in
    refused ∙ sum_refused_right a b _ _ left right ∙ of_views a b c.args.self.now c.args.b.now c.self.view_is c.b.view_is

pub returns-in_err-right-clause-overflow : goal.returns-in_err-right-clause-overflow
returns-in_err-right-clause-overflow c = sum_overflow c.args.self.now c.args.b.now _ (returns-in_err-right-clause-answer c)

pub returns-in_err-num-clause-answer : goal.returns-in_err-num-clause-answer
returns-in_err-num-clause-answer c =
    let a : Fraction = parts c.self.inside.num c.self.inside.den in
    let b : Fraction = parts c.b.inside.num c.b.inside.den in
    let left_fits : FitsSigned w128 c.in_ok-left.left = search rules in
    let right_fits : FitsSigned w128 c.in_ok-right.right = search rules in
    let left = left_formed (goal.at.returns-in_err-num-clause-answer c).In_ok-left in
    let right = right_formed (goal.at.returns-in_err-num-clause-answer c).In_ok-right in
    let num = sym (simp to_z-of_z at c.sum.ensures) ∙ c.in_err-num.was in
    let refused : c.from_residual-in_err-num.result ≡ Err Overflow = grind arith in
    refused ∙ sum_refused_num a b _ _ _ left right num ∙ of_views a b c.args.self.now c.args.b.now c.self.view_is c.b.view_is

pub returns-in_err-num-clause-overflow : goal.returns-in_err-num-clause-overflow
returns-in_err-num-clause-overflow c = sum_overflow c.args.self.now c.args.b.now _ (returns-in_err-num-clause-answer c)

pub returns-in_err-den-clause-answer : goal.returns-in_err-den-clause-answer
returns-in_err-den-clause-answer c =
    let a : Fraction = parts c.self.inside.num c.self.inside.den in
    let b : Fraction = parts c.b.inside.num c.b.inside.den in
    let left = left_formed (goal.at.returns-in_err-den-clause-answer c).In_ok-left in
    let right = right_formed (goal.at.returns-in_err-den-clause-answer c).In_ok-right in
    let num = num_formed (goal.at.returns-in_err-den-clause-answer c).In_ok-num in
    let den = told_den a b _ _ _ c.gcd-common.ensures.value c.size_product.ensures c.in_err-den.was in
    let refused : c.from_residual-in_err-den.result ≡ Err Overflow = grind arith in
    refused ∙ sum_refused_den a b _ _ _ _ left right num den ∙ of_views a b c.args.self.now c.args.b.now c.self.view_is c.b.view_is

pub returns-in_err-den-clause-overflow : goal.returns-in_err-den-clause-overflow
returns-in_err-den-clause-overflow c = sum_overflow c.args.self.now c.args.b.now _ (returns-in_err-den-clause-answer c)

pub reduced-requires-clause-positive : goal.reduced-requires-clause-positive
reduced-requires-clause-positive c =
    den_positive (parts c.self.inside.num c.self.inside.den) (parts c.b.inside.num c.b.inside.den) _ c.self.invariant.positive c.b.invariant.positive (den_formed c)

pub returns-clause-answer : goal.returns-clause-answer
returns-clause-answer c =
    let a : Fraction = parts c.self.inside.num c.self.inside.den in
    let b : Fraction = parts c.b.inside.num c.b.inside.den in
    let fits : FitsSigned w128 c.in_ok-num.num = search rules in
    let left = left_formed (goal.at.returns-clause-answer c).In_ok-left in
    let right = right_formed (goal.at.returns-clause-answer c).In_ok-right in
    let num = num_formed (goal.at.returns-clause-answer c).In_ok-num in
    let den = den_formed (goal.at.returns-clause-answer c).In_ok-den in
    let value : c.reduced.result ≡ reduced c.in_ok-num.num c.in_ok-den.den = simp to_z-of_z at c.reduced.ensures in
    ap (λ (f : Fraction). Ok f) value
    ∙ sum_given a b _ _ _ _ c.b.invariant.positive left right num den
    ∙ of_views a b c.args.self.now c.args.b.now c.self.view_is c.b.view_is

pub returns-clause-overflow : goal.returns-clause-overflow
returns-clause-overflow c = sum_overflow c.args.self.now c.args.b.now _ (returns-clause-answer c)
