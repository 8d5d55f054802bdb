use Rattle.std.proofs.Common.{ap, ◌∙◌}
use Rattle.wl_match.specs.Sizes.{sizes_of}
use Rattle.wl_match.proofs.PatternLemmas.{size_is, no_size}
use Rattle.wl_match.proofs.pattern.Pattern.size.Goals as goal

pub returns-then-i-sizes : goal.returns-then-i-sizes
returns-then-i-sizes c = size_is _ c.args.self.now c.args.i _ (c.as_slice-sizes.ensures.value ∙ c.self.invariant.1.1.0 ∙ ap sizes_of c.self.view_is) c.if-i-sizes.true

pub returns-else-i-sizes : goal.returns-else-i-sizes
returns-else-i-sizes c = no_size _ c.args.self.now c.args.i (c.as_slice-sizes.ensures.value ∙ c.self.invariant.1.1.0 ∙ ap sizes_of c.self.view_is) c.if-i-sizes.false
