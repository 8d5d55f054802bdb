use Rattle.std.proofs.Common.{[], List, Ok, map, false, sym, subst}
use Rattle.wl_state.specs.LocalNames.{AreLocals, held_in, locals_in}
use Rattle.wl_state.specs.Played.{Plays}
use Rattle.wl_semantics.specs.Scoping as scoping
use Rattle.wl_state.specs.declared.locals.Local.{Local}
use Rattle.wl_state.proofs.ScopeRowParts.{aside_plays}
use Rattle.wl_state.proofs.ScopingParts.{held_later, locals_later}
use Rattle.wl_state.proofs.evaluator.Evaluator.set_aside.Goals as goal

pub set_all-requires-clause-locals : goal.set_all-requires-clause-locals
set_all-requires-clause-locals g c = subst (AreLocals c.take_all.new.self.store) (sym c.as_slice-2.ensures.value) (locals_later c.in_ok-held.ensures.played c.in_ok-others.others.items c.in_ok-others.ensures.locals)

pub returns-clause-played : goal.returns-clause-played
returns-clause-played g c =
    let k1 = c.blocked.new.self in
    let k2 = c.take_all.new.self in
    let k3 = c.set_all.new.self in
    let ts = map held_in c.in_ok-held.held.items in
    aside_plays (locals_in c.args.locals.now) (locals_in c.in_ok-others.others.items) ts c.args.self.now k1 k2 k3 c.in_ok-others.ensures.played
    (subst (λ (zs : List Local). Plays (scoping.take_all [] (locals_in zs)) k1 (Ok ts) k2 false) c.as_slice.ensures.value c.in_ok-held.ensures.played)
    (subst (λ (zs : List Local). Plays (scoping.set_all (locals_in zs)) k2 (Ok tt) k3 false) c.as_slice-2.ensures.value c.in_ok-set_all.ensures.played)

pub returns-clause-held : goal.returns-clause-held
returns-clause-held g c = held_later c.in_ok-set_all.ensures.played c.in_ok-held.held.items c.in_ok-held.ensures.held
