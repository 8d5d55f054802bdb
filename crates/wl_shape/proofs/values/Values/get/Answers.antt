use Rattle.wl_expr.specs.Passed.{IsFrom}
use Rattle.wl_expr.specs.Stamped.{plain}
use Rattle.wl_shape.specs.Held.{IsKnown}
use Rattle.wl_shape.proofs.Holdings.{got}
use Rattle.wl_shape.proofs.values.Values.get.Goals as goal

pub returns-clause-known : goal.returns-clause-known
returns-clause-known c = λ r. got (λ v. IsKnown v.value) (plain c.args.symbol.now) c.args.self.now.map.entries c.get.result c.get.ensures.value r.known

pub returns-clause-passed : goal.returns-clause-passed
returns-clause-passed c = λ ms a. got (λ v. IsFrom ms v.value.tree) (plain c.args.symbol.now) c.args.self.now.map.entries c.get.result c.get.ensures.value a
