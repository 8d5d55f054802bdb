use Rattle.std.proofs.Common.{codes, option_map, refl, subst}
use Rattle.wl_ports.proofs.AsciiNames.{ascii_is_name}
use Rattle.wl_expr.specs.Stamped.{plain}
use Rattle.wl_state.specs.Prepared.{Stands, under}
use Rattle.wl_state.proofs.Preparing.{unfit_within}
use Rattle.wl_state.proofs.left_sides.put_back.Goals as goal

pub returns-in_default-clause-made : goal.returns-in_default-clause-made
returns-in_default-clause-made c t s = unfit_within (under (option_map (λ e. plain e.now) c.args.condition) (plain c.args.left.now)) t (subst (Stands t) c.in_default.is s).0

pub form-requires : goal.form-requires
form-requires c = ascii_is_name (codes "Condition") refl
