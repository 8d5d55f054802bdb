use Rattle.std.proofs.Common.{◌≡◌, length, arith, ap, inr, take}
use Rattle.std.proofs.lemmas.List.{length-take}
use Rattle.wl_scan.proofs.Pieces.{skipped, skipped-IsCutting, blank_length-behind}
use Rattle.wl_scan.specs.Cells.{Cutting}
use Rattle.wl_scan.proofs.cells.Cells.skip_blanks.Goals as goal

pub overflow_add-self : goal.overflow_add-self
overflow_add-self c =
    let before : c.self.inside.taken ≡ c.args.self.now.taken = ap (λ (x : Cutting). x.taken) c.self.view_is in
    omega (arith, c.requires.room, c.blank_length-blanks.ensures.within)

pub invariant_of-self : goal.invariant_of-self
invariant_of-self c =
    let none : length (take c.self.inside.len c.self.inside.buffer.items) ≡ 0 = omega (arith, length-take c.self.inside.len c.self.inside.buffer.items) in
    let before : c.self.inside.taken ≡ c.args.self.now.taken = ap (λ (x : Cutting). x.taken) c.self.view_is in (
      c.self.invariant.0,
      c.self.invariant.1,
      skipped-IsCutting _ _ c.self.invariant.2 none (omega (arith, c.requires.room, c.blank_length-blanks.ensures.within)),
    )

pub returns-clause-after : goal.returns-clause-after
returns-clause-after c =
    let none : length (take c.self.inside.len c.self.inside.buffer.items) ≡ 0 = omega (arith, length-take c.self.inside.len c.self.inside.buffer.items) in
    (skipped _ _ _ _ c.self.view_is c.self.invariant.2 none c.blank_length-blanks.ensures.length).0

pub returns-clause-none : goal.returns-clause-none
returns-clause-none c =
    let none : length (take c.self.inside.len c.self.inside.buffer.items) ≡ 0 = omega (arith, length-take c.self.inside.len c.self.inside.buffer.items) in
    (skipped _ _ _ _ c.self.view_is c.self.invariant.2 none c.blank_length-blanks.ensures.length).1

pub returns-clause-behind : goal.returns-clause-behind
returns-clause-behind c = inr (rw c.blank_length-blanks.ensures.length (blank_length-behind c.args.bytes.now))
