use Rattle.std.proofs.Common.{refl, sym, ◌∙◌, subst}
use Rattle.std.specs.Prelude.{codes}
use Rattle.wl_ports.proofs.AsciiNames.{ascii_is_name}
use Rattle.wl_expr.specs.Stamped.{plain}
use Rattle.wl_expr.specs.Tree.{Tree}
use Rattle.wl_algebra.specs.Answers.{IsMade}
use Rattle.wl_algebra.proofs.Leftovers.{times_joined}
use Rattle.wl_algebra.proofs.sums.times_of.Goals as goal

pub number_form-requires : goal.number_form-requires
number_form-requires c = ascii_is_name (codes "Times") refl

pub number_form-requires-2 : goal.number_form-requires-2
number_form-requires-2 c = ascii_is_name (codes "Times") refl

pub returns-then-is_symbol-clause-made : goal.returns-then-is_symbol-clause-made
returns-then-is_symbol-clause-made c =
    subst (λ (t : Tree). IsMade t c.number_form.result)
    (sym (times_joined c.args.coefficient.now (plain c.in-Node.head.now) c.in-Node.args.now (plain c.args.rest.now) c.in-Node.ensures.plain (sym c.if-is_symbol.true ∙ c.is_symbol.ensures)))
    c.number_form.ensures.made
