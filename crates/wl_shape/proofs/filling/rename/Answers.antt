use Rattle.std.proofs.Common.{◌≡◌, Option, Some, None, true, false, sym, ◌∙◌, subst}
use Rattle.wl_expr.specs.Stamped.{plain}
use Rattle.wl_expr.specs.Tree.{Tree, symbol}
use Rattle.wl_expr.specs.Words.{Name}
use Rattle.wl_shape.specs.Answers.{IsFilled, trees}
use Rattle.wl_shape.specs.Fill.{Values, fill, numbered, numbered_names, reached}
use Rattle.wl_shape.specs.Given.{NoneStands}
use Rattle.wl_shape.specs.Names.{has_name, names_in}
use Rattle.wl_shape.proofs.Meetings.{has_name-among}
use Rattle.wl_shape.proofs.filling.rename.Goals as goal

pub returns-clause-filled : goal.returns-clause-filled
returns-clause-filled c =
    let ns = c.args.names.now in
    let given : Values = λ x. elim (has_name c.in_ok-locals.locals.keys x) [ true ↦ Some (symbol (numbered c.args.n x)) | false ↦ None ] in
    let same : given ≡ numbered_names (names_in (trees ns)) c.args.n =
    λ i x. elim ((c.in_ok-locals.ensures x ∙ has_name-among ns x) i) [ true ↦ Some (symbol (numbered c.args.n x)) | false ↦ None ] in
    subst (λ vs. IsFilled (fill vs (plain c.args.body.now)) c.filled_with.result) same c.filled_with.ensures.filled

pub returns-clause-kept : goal.returns-clause-kept
returns-clause-kept c = λ n.
    let ns = c.args.names.now in
    let given : Values = λ x. elim (has_name c.in_ok-locals.locals.keys x) [ true ↦ Some (symbol (numbered c.args.n x)) | false ↦ None ] in
    let same : given ≡ numbered_names (names_in (trees ns)) c.args.n =
    λ i x. elim ((c.in_ok-locals.ensures x ∙ has_name-among ns x) i) [ true ↦ Some (symbol (numbered c.args.n x)) | false ↦ None ] in
    c.filled_with.ensures.kept (subst (NoneStands (reached (plain c.args.body.now))) (sym same) n)
