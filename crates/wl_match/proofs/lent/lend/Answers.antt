use Rattle.std.proofs.Common.{ap, sym, ◌∙◌}
use Rattle.wl_expr.specs.Stamped.{plain}
use Rattle.wl_match.specs.Runs.{run_at}
use Rattle.wl_match.proofs.Subjects.{slice_is}
use Rattle.wl_match.proofs.lent.lend.Goals as goal

pub returns-in-Slice : goal.returns-in-Slice
returns-in-Slice c = slice_is _ _ _ _ _ _ c.some_of.ensures c.args_of-args.ensures.is c.tree_at.ensures.is ∙ ap (run_at c.args.pattern.now (plain c.args.subject.now)) (sym c.in-Slice.is)
