use Rattle.std.proofs.Common.{subst, ◌∙◌}
use Rattle.wl_match.specs.Parts.{HaveOwnHeads, IsBehind}
use Rattle.wl_match.proofs.PatternLemmas.{part_is, no_part}
use Rattle.wl_match.proofs.pattern.Pattern.part.Goals as goal

pub returns-then-i-parts : goal.returns-then-i-parts
returns-then-i-parts c = part_is _ c.args.self.now c.args.i _ (c.as_slice-parts.ensures.value ∙ c.self.view_is) c.index-parts-i.is c.if-i-parts.true (subst (IsBehind 0) c.self.view_is c.self.invariant.0) (subst HaveOwnHeads c.self.view_is c.self.invariant.1.1.1)

pub returns-else-i-parts : goal.returns-else-i-parts
returns-else-i-parts c = no_part _ c.args.self.now c.args.i (c.as_slice-parts.ensures.value ∙ c.self.view_is) c.if-i-parts.false
