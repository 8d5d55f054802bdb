use Rattle.std.proofs.Common.{refl}
use Rattle.wl_rules.specs.Entries as entries
use Rattle.wl_rules.specs.Entries.{left_side}
use Rattle.wl_rules.specs.Stored.{entry_at}
use Rattle.wl_semantics.specs.Effects.{acted}
use Rattle.wl_semantics.specs.Prog as prog
use Rattle.wl_state.proofs.Changing.{change_other, unprotected, cleared_honest, on_ok}
use Rattle.wl_state.proofs.Placed.{indexed}
use Rattle.wl_state.proofs.evaluator.Evaluator.clear_entry.Goals as goal

pub unrefused-requires : goal.unrefused-requires
unrefused-requires c q =
    let k = c.args.self.now in
    let e = c.in_ok-index.ensures in
    unprotected k.store c.index_of.new.self c.args.name.now c.in_ok-index.index c.requires.sound.distinct (indexed k.store c.index_of.new.self c.args.name.now c.in_ok-index.index e.index e.met e.made) c.requires.unprotected (c.clear.ensures.protected.0 q)

pub returns-clause-played : goal.returns-clause-played
unfolding acted
returns-clause-played c =
    let k = c.args.self.now in
    let x = c.args.name.now in
    let s = c.index_of.new.self in
    let e = c.in_ok-index.ensures in
    let i = c.in_ok-index.index in
    let t = indexed k.store s x i e.index e.met e.made in
    let a = c.args.all in
    change_other (prog.clear x a) k s c.clear.new.self x i (entries.cleared a) (entries.cleared a (entry_at i s)) c.requires.sound c.requires.limits t
    (on_ok c.in_ok-unrefused.ensures c.clear.ensures.ok) (on_ok c.in_ok-unrefused.ensures c.clear.ensures.defines) refl (λ _. cleared_honest c.clear.new.self a (entry_at i s))
