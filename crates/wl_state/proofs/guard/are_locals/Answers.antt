use Rattle.std.proofs.Common.{sym, ◌∙◌, arith}
use Rattle.wl_state.specs.Searching.{needs_values}
use Rattle.wl_state.proofs.Guarding.{locals_are, one_not_local, all_local}
use Rattle.wl_state.proofs.guard.are_locals.Goals as goal

pub returns-then-not-is_one : goal.returns-then-not-is_one
returns-then-not-is_one c =
    let k = needs_values c.args.need_values in
    let xs = c.in-Node.args.now in
    sym (locals_are k _ _ xs c.in-Node.ensures.plain (sym c.is_symbol.ensures ∙ c.if-not-is_symbol.false) ∙ c.loop-i.invariant
    ∙ one_not_local k xs c.loop-i.i c.index-args-i.result (omega arith) c.index-args-i.is (sym c.is_local-is_one.ensures ∙ c.if-not-is_one.true))

pub returns : goal.returns
returns c =
    let k = needs_values c.args.need_values in
    let xs = c.in-Node.args.now in
    sym (locals_are k _ _ xs c.in-Node.ensures.plain (sym c.is_symbol.ensures ∙ c.if-not-is_symbol.false) ∙ c.loop-i.invariant ∙ all_local k xs c.loop-i.i (omega arith))
