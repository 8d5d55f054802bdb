use Rattle.std.proofs.Common.{refl}
use Rattle.wl_rules.specs.Entries.{with_attributes}
use Rattle.wl_rules.specs.Stored.{entry_at}
use Rattle.wl_semantics.specs.Effects.{acted}
use Rattle.wl_semantics.specs.Prog as prog
use Rattle.wl_state.proofs.Changing.{change_stays}
use Rattle.wl_state.proofs.Placed.{indexed}
use Rattle.wl_state.proofs.evaluator.Evaluator.set_attributes.Goals as goal

pub returns-clause-played : goal.returns-clause-played
unfolding acted
returns-clause-played c =
    let k = c.args.self.now in
    let x = c.args.name.now in
    let s = c.index_of.new.self in
    let e = c.in_ok-index.ensures in
    let i = c.in_ok-index.index in
    let a = c.args.attributes in
    change_stays (prog.set_attributes x a) k s c.set_attributes.new.self x i (with_attributes a) (with_attributes a (entry_at i s)) c.requires.sound (indexed k.store s x i e.index e.met e.made) c.set_attributes.ensures.ok c.set_attributes.ensures.defines refl refl refl
