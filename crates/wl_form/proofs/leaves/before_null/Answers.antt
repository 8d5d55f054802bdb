use Rattle.std.proofs.Common.{rules, ◌≡◌, ◌++◌, ◌∷◌, [], ◌∙◌, false}
use Rattle.wl_expr.specs.Stamped.{plain}
use Rattle.wl_form.specs.Writing.{is_null}
use Rattle.wl_form.proofs.Nodes.{null_last}
use Rattle.wl_form.proofs.leaves.before_null.Goals as goal

pub returns-else-is_null : goal.returns-else-is_null
returns-else-is_null c =
    let e : c.args.args.now ≡ c.in-Some.others.now ++ c.in-Some.last.now ∷ [] = search rules in
    let n : is_null (plain c.in-Some.last.now) ≡ false = search rules in
    null_last c.args.args.now c.in-Some.others.now c.in-Some.last.now e ∙ n
