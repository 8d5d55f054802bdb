use Rattle.std.proofs.Common.{refl}
use Rattle.wl_match.proofs.WalkLemmas as lemmas
use Rattle.wl_match.proofs.walk.Walk.keep.Goals as goal

pub invariant_of-self-2 : goal.invariant_of-self-2
invariant_of-self-2 c = record { nested = lemmas.whole_kept _ _ 0 _ _ _ _ _ c.args.self.now.choices.items c.add.new.choices.items c.add.ensures c.in_ok-goals.ensures.0 c.in_ok-goals.ensures.1 c.len-cells.ensures c.len-marks.ensures c.args.self.now.nested }

pub returns : goal.returns
returns c = lemmas.keeps_is _ _ _ _ _ refl c.in_ok-goals.ensures.0 c.in_ok-goals.ensures.1 c.len-cells.ensures c.len-marks.ensures refl refl c.in_ok-add.ensures c.args.self.now.nested
