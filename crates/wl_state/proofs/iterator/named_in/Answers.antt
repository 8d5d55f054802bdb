use Rattle.std.proofs.Common.{None, sym, ◌∙◌, arith}
use Rattle.wl_expr.specs.Stamped.{plain}
use Rattle.wl_state.proofs.IteratorParts.{in_list, many}
use Rattle.wl_state.proofs.iterator.named_in.Goals as goal

pub returns-then-elements-gt4-clause-value : goal.returns-then-elements-gt4-clause-value
returns-then-elements-gt4-clause-value c =
    let es = c.in-Node.elements.now in
    sym (in_list (plain c.args.e.now) (plain c.in-Node.head.now) es c.in-Node.ensures.plain None (sym c.is_symbol.ensures ∙ c.if-not-is_symbol.false) (many es (omega (arith, c.if-elements-gt4.true))))
