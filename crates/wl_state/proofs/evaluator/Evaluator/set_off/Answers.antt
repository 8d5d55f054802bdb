use Rattle.std.proofs.Common.{ap, refl}
use Rattle.wl_rules.specs.Entries as entries
use Rattle.wl_rules.specs.Entries.{left_side}
use Rattle.wl_rules.specs.Stored.{entry_at, definitions}
use Rattle.wl_semantics.specs.Effects.{acted}
use Rattle.wl_semantics.specs.Prog as prog
use Rattle.wl_state.proofs.Changing.{change_stays}
use Rattle.wl_state.proofs.Placed.{indexed}
use Rattle.wl_state.proofs.Changing.{off_rules}
use Rattle.wl_state.proofs.evaluator.Evaluator.set_off.Goals as goal

pub returns-clause-played : goal.returns-clause-played
unfolding acted
returns-clause-played c =
    let k = c.args.self.now in
    let x = c.args.name.now in
    let s = c.index_of.new.self in
    let e = c.in_ok-index.ensures in
    let i = c.in_ok-index.index in
    let t = indexed k.store s x i e.index e.met e.made in
    let g = c.args.tag.now in
    let b = c.args.off in
    change_stays (prog.set_off x g b) k s c.set_off.new.self x i (entries.set_off g b) (entries.set_off g b (entry_at i s)) c.requires.sound t
    c.in_ok-set_off.ensures.ok c.in_ok-set_off.ensures.defines refl (off_rules g b (entry_at i s)) (ap (λ r. r.own) (off_rules g b (definitions k.store x)))
