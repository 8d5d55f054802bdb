use Rattle.std.proofs.Common.{◌≡◌, ◌++◌, ◌∙◌, false, arith, ap, sym, subst, take, length, List, ℕ}
use Rattle.std.proofs.lemmas.List.{with_items_is}
use Rattle.std.specs.Vec.{with_items}
use Rattle.wl_scan.specs.Cells.{Cutting, IsCutting, cell_limit}
use Rattle.wl_scan.specs.contracts.cells.Cells.{the_view}
use Rattle.wl_scan.proofs.Pieces.{stored, long_is, ran_is, run_taken, ran-IsCutting, run_ends}
use Rattle.wl_scan.proofs.cells.Cells.take_run.Goals as goal

pub run-count-requires-clause-depth : goal.run-count-requires-clause-depth
run-count-requires-clause-depth c =
    let before : c.self.inside.taken ≡ c.args.self.now.taken = ap (λ (x : Cutting). x.taken) c.self.view_is in
    omega (arith, c.requires.room, c.self.invariant.2.depth)

pub returns-clause-none : goal.returns-clause-none
returns-clause-none c =
    (run_taken _ _ _ _ _ c.self.view_is c.self.invariant.2 c.requires.untold c.requires.within c.run-count.ensures.count c.run-count.ensures.place).1

pub returns-clause-end : goal.returns-clause-end
returns-clause-end c = λ short. run_ends _ _ _ _ c.run-count.ensures.place c.run-count.ensures.count short

pub returns-clause-after : goal.returns-clause-after
returns-clause-after c =
    let inside = c.self.inside in
    let untold : inside.told ≡ false = ap (λ (x : Cutting). x.told) c.self.view_is ∙ c.requires.untold in
    let buffer : (with_items inside.buffer c.put.new.buffer).items ≡ c.put.new.buffer =
    with_items_is inside.buffer c.put.new.buffer (omega (arith, c.put.auto.buffer, c.deref_mut.ensures.len)) in
    let kept =
    stored inside.buffer.items c.put.new.buffer (with_items inside.buffer c.put.new.buffer).items c.args.bytes.now inside.len c.run-count.result.1 c.min-kept.result
    c.self.invariant.0 c.self.invariant.1 c.run-count.ensures.within c.min-kept.ensures buffer
    (c.put.ensures ∙ ap (λ (l : List ℕ). take inside.len l ++ take c.min-kept.result c.args.bytes.now) c.deref_mut.ensures.value) in
    ran_is (the_view inside) _ _ _ _ _ untold kept (long_is _ _ _ c.self.invariant.0 c.self.invariant.1)
    ∙ (run_taken (the_view inside) _ _ _ _ c.self.view_is c.self.invariant.2 c.requires.untold c.requires.within c.run-count.ensures.count c.run-count.ensures.place).0

pub invariant_of-self : goal.invariant_of-self
invariant_of-self c =
    let inside = c.self.inside in
    let untold : inside.told ≡ false = ap (λ (x : Cutting). x.told) c.self.view_is ∙ c.requires.untold in
    let before : inside.taken ≡ c.args.self.now.taken = ap (λ (x : Cutting). x.taken) c.self.view_is in
    let buffer : (with_items inside.buffer c.put.new.buffer).items ≡ c.put.new.buffer =
    with_items_is inside.buffer c.put.new.buffer (omega (arith, c.put.auto.buffer, c.deref_mut.ensures.len)) in
    let kept =
    stored inside.buffer.items c.put.new.buffer (with_items inside.buffer c.put.new.buffer).items c.args.bytes.now inside.len c.run-count.result.1 c.min-kept.result
    c.self.invariant.0 c.self.invariant.1 c.run-count.ensures.within c.min-kept.ensures buffer
    (c.put.ensures ∙ ap (λ (l : List ℕ). take inside.len l ++ take c.min-kept.result c.args.bytes.now) c.deref_mut.ensures.value) in
    let size : length c.put.new.buffer ≡ cell_limit = omega (arith, c.put.auto.buffer, ap length c.deref_mut.ensures.value, c.self.invariant.0) in (
      ap length buffer ∙ size,
      omega (arith, c.self.invariant.1, c.min-kept.ensures),
      subst IsCutting (sym (ran_is (the_view inside) _ _ _ _ _ untold kept (long_is _ _ _ c.self.invariant.0 c.self.invariant.1)))
          (ran-IsCutting (the_view inside) _ _ _ c.self.invariant.2 untold c.run-count.ensures.within (omega (arith, c.requires.room, c.run-count.ensures.within))
          c.run-count.ensures.count c.run-count.ensures.place c.run-count.ensures.depth c.run-count.ensures.nesting),
    )
