use Rattle.std.proofs.Common.{refl}
use Rattle.std.specs.Prelude.{codes}
use Rattle.wl_ports.proofs.AsciiNames.{ascii_is_name}
use Rattle.wl_expr.specs.Stamped.{plain}
use Rattle.wl_algebra.specs.Answers.{trees}
use Rattle.wl_algebra.specs.Powers.{power, power_of_product}
use Rattle.wl_algebra.proofs.Factors.{large_power}
use Rattle.wl_algebra.proofs.Faults.{fault_makes}
use Rattle.wl_algebra.proofs.powers.power_of_product.Goals as goal

pub form-requires : goal.form-requires
form-requires c = ascii_is_name (codes "Times") refl

pub returns-in_err-power-clause-made : goal.returns-in_err-power-clause-made
returns-in_err-power-clause-made c =
    fault_makes (power_of_product (trees c.args.factors.now) (plain c.args.n.now)) (power (plain c.factor-item.result) (plain c.args.n.now)) c.in_err-power.field-0.0 c.power.result c.from_residual-in_err-power.result
    c.in_err-power.was c.power.ensures.made
    (large_power (plain c.args.n.now) c.args.factors.now c.loop-factor.factor-index c.factor-item.result c.loop-factor-test.true c.factor-item.is)
    c.from_residual-in_err-power.ensures.1
