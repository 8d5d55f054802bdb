use Rattle.std.proofs.Common.{◌+◌, ap, ◌∙◌}
use Rattle.wl_match.proofs.LooksLemmas as lemmas
use Rattle.wl_match.specs.declared.part.Part.TheVariants as part
use Rattle.wl_match.specs.Parts.{pat}
use Rattle.wl_match.specs.Trials.{default_of}
use Rattle.wl_match.specs.Means.{site_at}
use Rattle.wl_match.proofs.pattern.Pattern.default_at.Goals as goal

pub returns-in-None-own : goal.returns-in-None-own
returns-in-None-own c t =
    lemmas.part_value (default_of (site_at c.args.self.now c.args.i) (c.args.j + 1)) c.args.self.now c.args.q _ _ _ c.in-Some.ensures
    (c.in-Optional.is ∙ ap (λ o. part.Optional o c.in-Optional.field-1) c.in-None-own.is) (c.default_under.ensures t (pat c.args.self.now c.in-Optional.field-1))
