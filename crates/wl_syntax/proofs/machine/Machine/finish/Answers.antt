use Rattle.wl_syntax.specs.declared.machine.Standing.TheVariants as standing
use Rattle.std.proofs.Common.{refl}
use Rattle.wl_syntax.proofs.Flat.{pushed}
use Rattle.wl_syntax.proofs.Parsing.{semi_finishes, finish_other}
use Rattle.wl_syntax.proofs.machine.Machine.finish.Goals as goal

pub returns-in_ok-finish_operand-in-Semi : goal.returns-in_ok-finish_operand-in-Semi
returns-in_ok-finish_operand-in-Semi c = semi_finishes c.args.self.now (record c.args.self.now { out = c.push.new.self; standing = standing.Has }) c.finish_operand-in-Semi.new.self c.in_ok-finish_operand-in-Semi.field-0 c.in-Semi.is refl (pushed _ _ _ c.in_ok-push-in-Semi.ensures.items) refl c.in_ok-finish_operand-in-Semi.ensures

pub returns-in_default : goal.returns-in_default
returns-in_default c = finish_other _ _ _ c.in_default.not-Has c.in_default.not-Semi
