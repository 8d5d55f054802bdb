use Rattle.std.proofs.Common.{[], map, sym, ◌∙◌, ap, arith}
use Rattle.wl_expr.specs.Stamped.{plain}
use Rattle.wl_match.specs.Heads.{heads}
use Rattle.wl_rules.specs.Stored.{definitions}
use Rattle.wl_semantics.specs.Match.{flags_in}
use Rattle.wl_state.proofs.Flagging.{flags_by, met_after, flags_step, flags_more, flags_are, flags_end, flags_known, all_taken}
use Rattle.wl_state.proofs.Moves.{looked_same}
use Rattle.wl_state.proofs.evaluator.Evaluator.flags_of.Goals as goal

pub loop-k-preserved : goal.loop-k-preserved
loop-k-preserved g c =
    let f = definitions c.args.self.now.store in
    let hs = heads (plain c.args.pattern.now) in
    let l = c.loop-k in
    let x = c.in-Some.name.now in
    let k1 = c.attributes_of.new.self in
    let e = c.in_ok-attributes.ensures in
    let at = sym c.in-Some.ensures.value in
    record {
      leads = λ r k2 o h. l.invariant.leads r k2 o (flags_step f hs l.k x l.self k1 at l.invariant.same e.looked r k2 o h);
      same = l.invariant.same ∙ sym (looked_same x l.self k1 e.looked);
      sound = e.looked.sound l.invariant.sound;
      flags = flags_more f hs l.k x l.flags.items c.push.new.self.items _ at c.in_ok-push.ensures.items l.invariant.flags
          (flags_are c.in_ok-attributes.attributes (f x).attributes _ _ _ (e.value ∙ sym (ap (λ d. (d x).attributes) l.invariant.same)) c.has.ensures c.has-in-loop-k.ensures c.has-in-loop-k-2.ensures);
      kept = e.kept ∙ l.invariant.kept;
      ticks = cc;
    }

pub returns-clause-played : goal.returns-clause-played
returns-clause-played g c =
    let f = definitions c.args.self.now.store in
    let hs = heads (plain c.args.pattern.now) in
    let l = c.loop-k in (
      flags_in (met_after f [] hs),
      l.invariant.leads _ _ _ (flags_end f hs l.k l.self (omega (arith, c.head_count-k-end.ensures))),
      l.invariant.flags ∙ ap (map (flags_by f)) (all_taken hs l.k (omega (arith, c.head_count-k-end.ensures))) ∙ flags_known f hs,
    )
