use Rattle.std.proofs.Common.{◌-◌, length, take, drop, ap, ◌∙◌}
use Rattle.wl_expr.specs.Stamped.{plain}
use Rattle.wl_algebra.specs.Answers.{trees}
use Rattle.wl_algebra.specs.Comparisons.{comparison_row}
use Rattle.wl_algebra.specs.Kinds.{relation_by}
use Rattle.wl_algebra.proofs.Chains.{comparison_begins}
use Rattle.wl_algebra.proofs.Splits.{first_and_rest}
use Rattle.wl_algebra.proofs.comparisons.comparison_row.Goals as goal

pub loop-arg-init : goal.loop-arg-init
loop-arg-init c =
    let xs = c.args.args.now in
    let rest = take (length xs - 1) (drop 1 xs) in
    ap (λ ys. comparison_row (relation_by c.args.relation) (trees ys)) (first_and_rest xs c.first-item.result c.in-len1-up.len_at_least c.first-item.is)
    ∙ comparison_begins (relation_by c.args.relation) (plain c.first-item.result) (trees rest) c.in-Some.previous c.in-Some.ensures
