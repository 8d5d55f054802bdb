use Rattle.std.proofs.Common.{ap, ◌∙◌, arith}
use Rattle.wl_match.proofs.CutsLemmas as lemmas
use Rattle.wl_match.proofs.Fitting as fitting
use Rattle.wl_match.specs.Runs.{elements_of, tree_at}
use Rattle.std.specs.Prelude.{take, drop}
use Rattle.wl_match.proofs.cuts.cut_slice.Goals as goal

pub returns-clause-is : goal.returns-clause-is
returns-clause-is c ss t = ap (λ p. take c.min.result (drop c.in-Some.at (elements_of (tree_at ss t p)))) c.in_ok-copy.ensures ∙ lemmas.slice_cut (elements_of (tree_at ss t c.args.place.now)) c.args.start c.args.n c.args.from c.args.count c.min-from.result c.in-Some.at c.min.result c.min-from.ensures (omega (arith, c.in-Some.ensures)) c.min.ensures

pub returns-clause-narrows : goal.returns-clause-narrows
returns-clause-narrows c m k = fitting.narrows_slice c.args.place.now _ m k _ _ c.in_ok-copy.ensures
