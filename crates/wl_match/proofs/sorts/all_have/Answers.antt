use Rattle.std.proofs.Common.{ap, sym, ◌∙◌}
use Rattle.wl_expr.specs.Stamped.{plain}
use Rattle.std.specs.Option.{option_map}
use Rattle.wl_match.specs.Trials.{all_have}
use Rattle.wl_match.specs.Runs.{trees_of}
use Rattle.wl_match.proofs.LentLemmas as lemmas
use Rattle.wl_match.proofs.sorts.all_have.Goals as goal

pub returns-in-None : goal.returns-in-None
returns-in-None c = lemmas.any_have (trees_of c.args.run.now) ∙ ap (λ o. all_have (option_map plain o) (trees_of c.args.run.now)) (sym c.in-None.is)
