use Rattle.std.proofs.Common.{◌+◌, ◌++◌, ◌∷◌, [], drop, sym, ap, ◌∙◌, subst, arith}
use Rattle.wl_state.specs.LocalNames.{AreFree, AreLocals, local_in, locals_in}
use Rattle.wl_state.specs.Played.{Leads}
use Rattle.wl_semantics.specs.Scoping as scoping
use Rattle.wl_state.proofs.Rows.{leads_on}
use Rattle.wl_state.proofs.LocalParts.{locals_at, locals_push, no_locals}
use Rattle.wl_state.proofs.ScopingParts.{all_free_later, blocked_less, blocked_more, blocked_over, free_push, local_at, local_later, locals_later, locals_pushed, same_protects}
use Rattle.wl_state.proofs.evaluator.Evaluator.blocked.Goals.{then-may_block+in_ok-copy+in_ok-push, else-may_block}
use Rattle.wl_state.proofs.evaluator.Evaluator.blocked.Goals as goal

pub may_block-requires : goal.may_block-requires
may_block-requires g c = record { sound = c.loop-i.invariant.sound; symbol = (local_at _ c.args.locals.now c.loop-i.i c.index-locals-i.result c.loop-i-test.true c.index-locals-i.is c.loop-i.invariant.locals).symbol }

pub loop-i-preserved : goal.loop-i-preserved
loop-i-preserved g c =
    let ls = c.args.locals.now in
    let l = c.loop-i in
    let x = c.index-locals-i.result in
    let e = c.in_ok-may_block.ensures in
    let k1 = c.may_block.new.self in
    let at = locals_at ls l.i x c.loop-i-test.true c.index-locals-i.is in
    let here = local_later e.played x (local_at _ ls l.i x c.loop-i-test.true c.index-locals-i.is l.invariant.locals) in
    elim c.if-may_block.branch [
      | then-may_block+in_ok-copy+in_ok-push w ↦
          let push = ap (λ v. v.items) w.others-is ∙ w.in_ok-push.ensures.items ∙ ap (λ z. l.others.items ++ z ∷ []) w.in_ok-copy.ensures in
          record {
            leads = leads_on l.invariant.leads (subst (λ zs. Leads (scoping.blocked (locals_in l.others.items) (locals_in (drop l.i ls))) l.self (scoping.blocked zs (locals_in (drop (l.i + 1) ls))) k1) (sym (locals_push l.others.items x _ push))
                (blocked_more (locals_in l.others.items) (local_in x) (locals_in (drop l.i ls)) (locals_in (drop (l.i + 1) ls)) l.self k1 c.in_ok-may_block.may_block at e.played w.if-may_block.true));
            sound = e.played.sound l.invariant.sound;
            locals = locals_later e.played ls l.invariant.locals;
            others = locals_pushed _ l.others.items x _ push (locals_later e.played l.others.items l.invariant.others) here;
            free = free_push k1 l.others.items x _ push (all_free_later l.self k1 (same_protects l.self k1 e.same) l.others.items l.invariant.free) (e.free w.if-may_block.true);
            kept = e.kept ∙ l.invariant.kept;
            ticks = cc;
          }
      | else-may_block w ↦
          let same = ap (λ v. v.items) w.others-is in
          record {
            leads = leads_on l.invariant.leads (subst (λ zs. Leads (scoping.blocked (locals_in l.others.items) (locals_in (drop l.i ls))) l.self (scoping.blocked (locals_in zs) (locals_in (drop (l.i + 1) ls))) k1) (sym same)
                (blocked_less (locals_in l.others.items) (local_in x) (locals_in (drop l.i ls)) (locals_in (drop (l.i + 1) ls)) l.self k1 c.in_ok-may_block.may_block at e.played w.if-may_block.false));
            sound = e.played.sound l.invariant.sound;
            locals = locals_later e.played ls l.invariant.locals;
            others = subst (AreLocals k1.store) (sym same) (locals_later e.played l.others.items l.invariant.others);
            free = subst (AreFree k1) (sym same) (all_free_later l.self k1 (same_protects l.self k1 e.same) l.others.items l.invariant.free);
            kept = e.kept ∙ l.invariant.kept;
            ticks = cc;
          }
    ]

pub returns-clause-played : goal.returns-clause-played
returns-clause-played g c =
    let ls = c.args.locals.now in
    let l = c.loop-i in
    l.invariant.leads _ _ _ (blocked_over (locals_in l.others.items) (locals_in (drop l.i ls)) l.self (no_locals ls l.i (omega arith)))
