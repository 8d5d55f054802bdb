use Rattle.std.proofs.Common.{◌≡◌, map, drop}
use Rattle.wl_rules.specs.Starting.{with_symbol_rows}
use Rattle.wl_rules.proofs.start.put_symbol_rows.Given as goal

abbrev pub invariant-loop-attributes : goal.invariant-loop-attributes
invariant-loop-attributes l =
    with_symbol_rows (map (λ r. (r.0.now, map (λ x. x.now) r.1.now)) (drop l.attributes-index l.rows)) l.table
    ≡ with_symbol_rows (map (λ r. (r.0.now, map (λ x. x.now) r.1.now)) l.rows) l.initial.table
