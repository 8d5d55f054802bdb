use Rattle.std.proofs.Common.{◌+◌, List, drop, sym, ap, ◌∙◌}
use Rattle.wl_expr.specs.Stamped.{Stamped, plain, plains, from_list}
use Rattle.wl_algebra.specs.Spliced.{spliced, spliced_in}
use Rattle.wl_algebra.specs.Standings.{better_by, with_trees}
use Rattle.wl_algebra.specs.declared.extremes.Best.{Best}
use Rattle.wl_algebra.proofs.Splices.{taken_on}
use Rattle.wl_algebra.proofs.Splits.{next_of}
use Rattle.wl_algebra.proofs.extremes.+spliced.Goals as goal

pub with_all-loop-arg-preserved : goal.with_all-loop-arg-preserved
with_all-loop-arg-preserved t c =
    let f = better_by c.args.extreme in
    let rest = spliced_in (plains (from_list (drop (c.loop-arg.arg-index + 1) c.args.args.now))) in
    ap (λ (b : Best). with_trees f b rest) c.with_spliced-best.ensures
    ∙ sym (taken_on f c.loop-arg.best (spliced (plain c.arg-item.result)) rest)
    ∙ ap (λ (us : List Stamped). with_trees f c.loop-arg.best (spliced_in (plains (from_list us)))) (sym (next_of c.args.args.now c.loop-arg.arg-index c.arg-item.result c.loop-arg-test.true c.arg-item.is))
    ∙ c.loop-arg.invariant
