use Rattle.std.proofs.Common.{refl}
use Rattle.wl_match.proofs.WalkLemmas as lemmas
use Rattle.wl_match.proofs.walk.Walk.mark.Goals as goal

pub invariant_of-self : goal.invariant_of-self
invariant_of-self c = record { nested = lemmas.whole_marked _ _ _ _ _ _ _ c.push.ensures c.args.self.now.nested }

pub returns : goal.returns
returns c = lemmas.marks_is _ _ _ refl refl c.in_ok-push.ensures refl c.args.self.now.nested.1
