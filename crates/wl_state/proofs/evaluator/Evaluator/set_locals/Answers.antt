use Rattle.std.proofs.Common.{◌+◌, drop, ◌∙◌, arith}
use Rattle.wl_state.specs.LocalNames.{local_in, locals_in}
use Rattle.wl_state.proofs.Rows.{leads_on}
use Rattle.wl_state.proofs.LocalParts.{locals_at, no_locals}
use Rattle.wl_state.proofs.ScopingParts.{locals_later, local_at, set_locals_step, set_locals_over}
use Rattle.wl_state.proofs.evaluator.Evaluator.set_locals.Goals as goal

pub set_local-requires : goal.set_local-requires
set_local-requires g c = record { sound = c.loop-i.invariant.sound; local = local_at _ c.args.locals.now c.loop-i.i c.index-locals-i.result c.loop-i-test.true c.index-locals-i.is c.loop-i.invariant.locals }

pub loop-i-preserved : goal.loop-i-preserved
loop-i-preserved g c =
    let ls = c.args.locals.now in
    let l = c.loop-i in
    let x = c.index-locals-i.result in
    let e = c.in_ok-set_local.ensures in
    record {
      leads = leads_on l.invariant.leads (set_locals_step c.args.n (local_in x) (locals_in (drop l.i ls)) (locals_in (drop (l.i + 1) ls)) l.self c.set_local.new.self (locals_at ls l.i x c.loop-i-test.true c.index-locals-i.is) e.played);
      sound = e.played.sound l.invariant.sound;
      locals = locals_later e.played ls l.invariant.locals;
      kept = e.kept ∙ l.invariant.kept;
      ticks = cc;
    }

pub returns-clause-played : goal.returns-clause-played
returns-clause-played g c =
    let ls = c.args.locals.now in
    let l = c.loop-i in
    l.invariant.leads _ _ _ (set_locals_over c.args.n (locals_in (drop l.i ls)) l.self (no_locals ls l.i (omega arith)))
