use Rattle.wl_match.proofs.LooksLemmas as lemmas
use Rattle.wl_match.specs.Parts.{pat}
use Rattle.wl_match.proofs.pattern.Pattern.any_optional.Goals as goal

pub returns-then-is_optional : goal.returns-then-is_optional
returns-then-is_optional c = lemmas.optional_here (pat c.args.self.now) c.args.parts.now _ _ _ c.loop-q-test.true c.is_optional.ensures c.if-is_optional.true c.loop-q.invariant

pub loop-q-preserved : goal.loop-q-preserved
loop-q-preserved c = lemmas.optional_later (pat c.args.self.now) c.args.parts.now _ _ _ c.loop-q-test.true c.is_optional.ensures c.if-is_optional.false c.loop-q.invariant
