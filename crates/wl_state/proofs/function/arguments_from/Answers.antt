use Rattle.std.proofs.Common.{◌-◌, length, take, drop, codes, refl, sym, ap, ◌∙◌, subst, arith}
use Rattle.std.proofs.lemmas.List.{take_rest}
use Rattle.wl_expr.specs.Stamped.{plain}
use Rattle.wl_expr.specs.Tree.{IsWithinLimits}
use Rattle.wl_ports.proofs.AsciiNames.{ascii_is_name}
use Rattle.wl_state.specs.Played.{trees}
use Rattle.wl_semantics.specs.ScopeRows as rows
use Rattle.wl_state.proofs.SlotParts.{fault_renewed, sequence_tree}
use Rattle.wl_state.proofs.function.arguments_from.Goals as goal

pub symbol-requires : goal.symbol-requires
symbol-requires c = ascii_is_name (codes "Sequence") refl

pub returns-in_err-sequence-clause-made : goal.returns-in_err-sequence-clause-made
returns-in_err-sequence-clause-made c = λ t.
    let es = c.args.args.now in
    let n = c.args.n in
    let w = sequence_tree es (take (length es - (n - 1)) (drop (n - 1) es)) t n (n - 1) c.in_ok-head.head c.in_ok-head.ensures (take_rest es (n - 1)) (omega arith) (omega arith) in
    fault_renewed t (rows.slots_from (trees es) t n) c.in_err-sequence.field-0.0 c.node.result c.from_residual-in_err-sequence.result c.in_err-sequence.was c.from_residual-in_err-sequence.ensures.1
    (λ l f. c.node.ensures.large.0 l (subst IsWithinLimits (sym w) f))

pub returns-clause-made : goal.returns-clause-made
returns-clause-made c = λ t.
    let es = c.args.args.now in
    let n = c.args.n in
    record { tree = ap plain c.in_ok-sequence.ensures.ok ∙ sequence_tree es (take (length es - (n - 1)) (drop (n - 1) es)) t n (n - 1) c.in_ok-head.head c.in_ok-head.ensures (take_rest es (n - 1)) (omega arith) (omega arith); large = λ l. cc }
