use Rattle.std.proofs.Common.{ap, sym, ◌∙◌}
use Rattle.wl_match.proofs.CutsLemmas as lemmas
use Rattle.wl_match.proofs.Fitting as fitting
use Rattle.wl_match.specs.Runs.{run_at, tree_at, picked}
use Rattle.std.specs.Prelude.{take, drop}
use Rattle.wl_match.proofs.cuts.cut.Goals as goal

pub returns-in_ok-copy-in-Picked-clause-is : goal.returns-in_ok-copy-in-Picked-clause-is
returns-in_ok-copy-in-Picked-clause-is c ss t = ap (λ p. picked (tree_at ss t p) c.in_ok-left-in-Picked.left) c.in_ok-copy-in-Picked.ensures ∙ lemmas.picked_cut (tree_at ss t c.in-Picked.place) c.in-Picked.places _ c.args.from c.args.count c.in_ok-left-in-Picked.ensures ∙ ap (λ r. take c.args.count (drop c.args.from (run_at ss t r))) (sym c.in-Picked.is)

pub returns-in_ok-copy-in-Picked-clause-narrows : goal.returns-in_ok-copy-in-Picked-clause-narrows
returns-in_ok-copy-in-Picked-clause-narrows c = fitting.narrows_picked c.args.run.now c.in-Picked.place _ c.in-Picked.places _ c.args.count c.args.from c.in-Picked.is c.in_ok-copy-in-Picked.ensures c.in_ok-left-in-Picked.ensures
