use Rattle.std.proofs.Common.{◌+◌, map, drop, sym, ap, ◌∙◌, subst, arith}
use Rattle.wl_expr.specs.Stamped.{Stamped, plain}
use Rattle.wl_state.specs.LocalNames.{held_in, local_in, locals_in, name_in}
use Rattle.wl_state.specs.Played.{IsTaken, IsUnprotected, Leads}
use Rattle.wl_state.specs.declared.locals.Local.{Local}
use Rattle.wl_semantics.specs.Scoping as scoping
use Rattle.wl_state.specs.declared.scoping.Held.{Held}
use Rattle.wl_state.proofs.Rows.{leads_on}
use Rattle.wl_state.proofs.LocalParts.{locals_at, no_locals}
use Rattle.wl_state.proofs.ScopingParts.{all_free_later, are_held_push, free_at, held_later, held_push, take_all_over, take_all_step, take_plays, take_protects}
use Rattle.wl_state.proofs.evaluator.Evaluator.take_all.Goals as goal

pub take_rules-requires : goal.take_rules-requires
take_rules-requires c =
    let l = c.loop-i in
    let x = c.index-locals-i.result in
    record { sound = l.invariant.sound; unprotected = subst (λ z. IsUnprotected z l.self) (sym (c.name_of.ensures ∙ ap (λ (z : Stamped). name_in (plain z)) c.in_ok-name.ensures ∙ ap (λ (z : Local). name_in (plain z.name)) (sym c.index-locals-i.is))) (free_at _ c.args.locals.now l.i x c.loop-i-test.true c.index-locals-i.is l.invariant.free).unprotected }

pub loop-i-preserved : goal.loop-i-preserved
loop-i-preserved c =
    let ls = c.args.locals.now in
    let l = c.loop-i in
    let x = c.index-locals-i.result in
    let e = c.in_ok-taken.ensures in
    let k1 = c.take_rules.new.self in
    let named = c.name_of.ensures ∙ ap (λ (z : Stamped). name_in (plain z)) c.in_ok-name.ensures ∙ ap (λ (z : Local). name_in (plain z.name)) (sym c.index-locals-i.is) in
    let h : Held = record { name = c.in_ok-name.name; taken = c.in_ok-taken.taken } in
    let at = locals_at ls l.i x c.loop-i-test.true c.index-locals-i.is in
    record {
      leads = leads_on l.invariant.leads (subst (λ zs. Leads (scoping.take_all (map held_in l.held.items) (locals_in (drop l.i ls))) l.self (scoping.take_all zs (locals_in (drop (l.i + 1) ls))) k1) (sym (held_push l.held.items h _ c.in_ok-push.ensures.items))
          (take_all_step (map held_in l.held.items) (held_in h) (local_in x) (locals_in (drop l.i ls)) (locals_in (drop (l.i + 1) ls)) l.self k1 at (take_plays h _ _ l.self k1 named c.name_of.ensures e.played)));
      sound = e.played.sound l.invariant.sound;
      held = are_held_push k1 l.held.items h _ c.in_ok-push.ensures.items (held_later e.played l.held.items l.invariant.held) (subst (λ z. IsTaken k1 z c.in_ok-taken.taken) c.name_of.ensures e.taken);
      free = all_free_later l.self k1 (take_protects _ l.self k1 _ e.played) ls l.invariant.free;
      kept = e.kept ∙ l.invariant.kept;
    }

pub returns-clause-played : goal.returns-clause-played
returns-clause-played c =
    let ls = c.args.locals.now in
    let l = c.loop-i in
    l.invariant.leads _ _ _ (take_all_over (map held_in l.held.items) (locals_in (drop l.i ls)) l.self (no_locals ls l.i (omega arith)))
