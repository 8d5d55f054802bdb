use Rattle.std.proofs.Common.{rules, ◌≡◌, ◌∙◌, refl, ap, arith, ℤ, ℕ, FitsSigned, to_z, of_z}
use Rattle.std.specs.Prelude.{Ok, Err, unsigned_abs}
use Rattle.std.specs.Int.{w128}
use Rattle.std.proofs.lemmas.Int.{to_z-of_z}
use Rattle.wl_exact.specs.declared.num.NumFault.TheVariants.{Overflow}
use Rattle.wl_exact.specs.Gcd.{gcd}
use Rattle.wl_exact.specs.Fraction.{Fraction}
use Rattle.wl_exact.specs.Arithmetic.{formed, formed_size, checked_product}
use Rattle.wl_exact.proofs.Products.{num_of, den_of, IsLowest, told_num, told_den, product_refused_num, product_refused_den, product_given, product_lowest, product_overflow}
use Rattle.wl_exact.proofs.num.Num.mul.Goals as goal
use Rattle.wl_exact.proofs.num.Num.mul.Goals.{After-product, After-size_product, In_ok-den}

abbrev parts : ℤ → ℕ → Fraction
parts n d = record { num = n; den = d }

-- from the fields to the numbers that the clauses see
of_views : (a b f g : Fraction) → a ≡ f → b ≡ g → checked_product a b ≡ checked_product f g
of_views a b f g p q = ap (λ x. checked_product x b) p ∙ ap (checked_product f) q

-- ---- the numbers that were formed

divisor_is : (n : ℤ) (d u g : ℕ) → FitsSigned w128 n → u ≡ unsigned_abs (to_z w128 (of_z w128 n)) → g ≡ gcd u d → g ≡ gcd (unsigned_abs n) d
divisor_is n d u g fits e h = h ∙ ap (λ m. gcd m d) (e ∙ ap unsigned_abs (to_z-of_z w128 n fits))

product_told : (c : After-product) → formed (num_of (parts c.self.inside.num c.self.inside.den) (parts c.b.inside.num c.b.inside.den)) ≡ c.product.result
product_told c =
    let a : Fraction = parts c.self.inside.num c.self.inside.den in
    let b : Fraction = parts c.b.inside.num c.b.inside.den in
    let a_fits : FitsSigned w128 a.num = search rules in
    let b_fits : FitsSigned w128 b.num = search rules in
    let over_fits : FitsSigned w128 c.over.result = search rules in
    let over_b_fits : FitsSigned w128 c.over-2.result = search rules in
    let left = divisor_is a.num b.den _ _ a_fits c.unsigned_abs.ensures.value c.gcd-left.ensures.value in
    let right = divisor_is b.num a.den _ _ b_fits c.unsigned_abs-2.ensures.value c.gcd-right.ensures.value in
    told_num a b _ _ _ _ _ _ left right (simp to_z-of_z at c.over.ensures) (simp to_z-of_z at c.over-2.ensures) (simp to_z-of_z at c.product.ensures) refl

size_told : (c : After-size_product) → formed_size (den_of (parts c.self.inside.num c.self.inside.den) (parts c.b.inside.num c.b.inside.den)) ≡ c.size_product.result
size_told c =
    let a : Fraction = parts c.self.inside.num c.self.inside.den in
    let b : Fraction = parts c.b.inside.num c.b.inside.den in
    let a_fits : FitsSigned w128 a.num = search rules in
    let b_fits : FitsSigned w128 b.num = search rules in
    let left = divisor_is a.num b.den _ _ a_fits c.unsigned_abs.ensures.value c.gcd-left.ensures.value in
    let right = divisor_is b.num a.den _ _ b_fits c.unsigned_abs-2.ensures.value c.gcd-right.ensures.value in
    told_den a b _ _ _ _ left right c.size_product.ensures refl

lowest : (c : In_ok-den) → IsLowest c.in_ok-num.num c.in_ok-den.den
lowest c =
    let a : Fraction = parts c.self.inside.num c.self.inside.den in
    let b : Fraction = parts c.b.inside.num c.b.inside.den in
    let num = product_told (goal.at.number-requires-clause-reduced c).After-product ∙ c.in_ok-num.was in
    let den = size_told (goal.at.number-requires-clause-reduced c).After-size_product ∙ c.in_ok-den.was in
    product_lowest a b _ _ c.self.invariant c.b.invariant num den

-- ---- the answers

pub returns-in_err-num-clause-answer : goal.returns-in_err-num-clause-answer
returns-in_err-num-clause-answer c =
    let a : Fraction = parts c.self.inside.num c.self.inside.den in
    let b : Fraction = parts c.b.inside.num c.b.inside.den in
    let num = product_told (goal.at.returns-in_err-num-clause-answer c).After-product ∙ c.in_err-num.was in
    let refused : c.from_residual.result ≡ Err Overflow = grind arith in
    refused
    ∙ product_refused_num a b _ c.self.invariant c.b.invariant num
    ∙ of_views a b c.args.self.now c.args.b.now c.self.view_is c.b.view_is

pub returns-in_err-num-clause-overflow : goal.returns-in_err-num-clause-overflow
returns-in_err-num-clause-overflow c = product_overflow c.args.self.now c.args.b.now _ (returns-in_err-num-clause-answer c)

pub returns-in_err-den-clause-answer : goal.returns-in_err-den-clause-answer
returns-in_err-den-clause-answer c =
    let a : Fraction = parts c.self.inside.num c.self.inside.den in
    let b : Fraction = parts c.b.inside.num c.b.inside.den in
    let num = product_told (goal.at.returns-in_err-den-clause-answer c).After-product ∙ c.in_ok-num.was in
    let den = size_told (goal.at.returns-in_err-den-clause-answer c).After-size_product ∙ c.in_err-den.was in
    let refused : c.from_residual-in_err-den.result ≡ Err Overflow = grind arith in
    refused
    ∙ product_refused_den a b _ _ c.self.invariant c.b.invariant num den
    ∙ of_views a b c.args.self.now c.args.b.now c.self.view_is c.b.view_is

pub returns-in_err-den-clause-overflow : goal.returns-in_err-den-clause-overflow
returns-in_err-den-clause-overflow c = product_overflow c.args.self.now c.args.b.now _ (returns-in_err-den-clause-answer c)

pub number-requires-clause-reduced : goal.number-requires-clause-reduced
number-requires-clause-reduced c =
    let fits : FitsSigned w128 c.in_ok-num.num = search rules in
    simp to_z-of_z (lowest c).reduced

pub number-requires-clause-positive : goal.number-requires-clause-positive
number-requires-clause-positive c = (lowest c).positive

pub returns-clause-answer : goal.returns-clause-answer
returns-clause-answer c =
    let a : Fraction = parts c.self.inside.num c.self.inside.den in
    let b : Fraction = parts c.b.inside.num c.b.inside.den in
    let fits : FitsSigned w128 c.in_ok-num.num = search rules in
    let num = product_told (goal.at.returns-clause-answer c).After-product ∙ c.in_ok-num.was in
    let den = size_told (goal.at.returns-clause-answer c).After-size_product ∙ c.in_ok-den.was in
    let value : c.number.result ≡ parts c.in_ok-num.num c.in_ok-den.den = simp to_z-of_z at c.number.ensures in
    ap (λ (f : Fraction). Ok f) value
    ∙ product_given a b _ _ c.self.invariant c.b.invariant num den
    ∙ of_views a b c.args.self.now c.args.b.now c.self.view_is c.b.view_is

pub returns-clause-overflow : goal.returns-clause-overflow
returns-clause-overflow c = product_overflow c.args.self.now c.args.b.now _ (returns-clause-answer c)
