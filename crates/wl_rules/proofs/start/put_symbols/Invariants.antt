use Rattle.std.proofs.Common.{◌≡◌, map, drop}
use Rattle.wl_rules.specs.Starting.{with_symbols}
use Rattle.wl_rules.proofs.start.put_symbols.Given as goal

abbrev pub invariant-loop-name : goal.invariant-loop-name
invariant-loop-name l =
    with_symbols l.attributes (map (λ x. x.now) (drop l.name-index l.names)) l.table ≡ with_symbols l.attributes (map (λ x. x.now) l.names) l.initial.table
