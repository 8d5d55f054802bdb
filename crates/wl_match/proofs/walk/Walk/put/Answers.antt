use Rattle.std.proofs.Common.{refl}
use Rattle.wl_match.proofs.WalkLemmas as lemmas
use Rattle.wl_match.proofs.walk.Walk.put.Goals as goal

pub invariant_of-self-2 : goal.invariant_of-self-2
invariant_of-self-2 c = record { nested = lemmas.whole_put c.args.self.now.goals _ _ _ _ _ _ c.in_ok-self.ensures.0 c.in_ok-self.ensures.1 c.args.self.now.nested }

pub returns : goal.returns
returns c = lemmas.puts_is _ _ _ _ _ refl c.in_ok-self.ensures.0 c.in_ok-self.ensures.1 refl refl refl c.args.self.now.nested.1
