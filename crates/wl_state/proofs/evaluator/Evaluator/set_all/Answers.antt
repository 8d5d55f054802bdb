use Rattle.std.proofs.Common.{◌+◌, drop, ◌∙◌, arith}
use Rattle.wl_state.specs.LocalNames.{local_in, locals_in}
use Rattle.wl_state.proofs.Rows.{leads_on}
use Rattle.wl_state.proofs.LocalParts.{locals_at, no_locals}
use Rattle.wl_state.proofs.ScopingParts.{all_free_later, free_at, given_protects, local_at, locals_later, set_all_step, set_all_over}
use Rattle.wl_state.proofs.evaluator.Evaluator.set_all.Goals as goal

pub set_given-requires : goal.set_given-requires
set_given-requires c =
    let ls = c.args.locals.now in
    let l = c.loop-i in
    let x = c.index-locals-i.result in
    record { sound = l.invariant.sound; local = local_at _ ls l.i x c.loop-i-test.true c.index-locals-i.is l.invariant.locals; free = free_at _ ls l.i x c.loop-i-test.true c.index-locals-i.is l.invariant.free }

pub loop-i-preserved : goal.loop-i-preserved
loop-i-preserved c =
    let ls = c.args.locals.now in
    let l = c.loop-i in
    let x = c.index-locals-i.result in
    let e = c.in_ok-set_given.ensures in
    record {
      leads = leads_on l.invariant.leads (set_all_step (local_in x) (locals_in (drop l.i ls)) (locals_in (drop (l.i + 1) ls)) l.self c.set_given.new.self (locals_at ls l.i x c.loop-i-test.true c.index-locals-i.is) e.played);
      sound = e.played.sound l.invariant.sound;
      locals = locals_later e.played ls l.invariant.locals;
      free = all_free_later l.self c.set_given.new.self (given_protects x l.self c.set_given.new.self e.played) ls l.invariant.free;
      kept = e.kept ∙ l.invariant.kept;
    }

pub returns-clause-played : goal.returns-clause-played
returns-clause-played c =
    let ls = c.args.locals.now in
    let l = c.loop-i in
    l.invariant.leads _ _ _ (set_all_over (locals_in (drop l.i ls)) l.self (no_locals ls l.i (omega arith)))
