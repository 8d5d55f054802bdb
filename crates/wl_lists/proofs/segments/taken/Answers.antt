use Rattle.std.proofs.Common.{◌≡◌, ◌+◌, ◌-◌, take, drop, sym, ap, ◌∙◌, arith}
use Rattle.std.proofs.lemmas.List.{take-map}
use Rattle.std.specs.List.{drop-map}
use Rattle.wl_expr.specs.Stamped.{plain}
use Rattle.wl_lists.specs.Answers.{trees}
use Rattle.wl_lists.proofs.segments.taken.Goals as goal

pub returns-clause-value : goal.returns-clause-value
returns-clause-value c =
    let es = c.args.elements.now in
    let from = c.args.s.from in
    let count = c.args.s.count in
    let n : from + count - from ≡ count = omega arith in
    ap (λ k. trees (take k (drop from es))) n ∙ sym (take-map plain count (drop from es)) ∙ ap (take count) (sym (drop-map plain from es))
