use Rattle.std.proofs.Common.{◌≡◌, codes, refl, arith}
use Rattle.wl_scan.specs.Literals.{literal_value}
use Rattle.wl_text_tests.proofs.scan.value_of_a_literal.Goals as goal

pub literal_value-requires : goal.literal_value-requires
literal_value-requires c = λ _.
    let value : literal_value (codes "16^^ff") ≡ 255 = refl in
    record { base = refl; fits = omega (arith, value) }
