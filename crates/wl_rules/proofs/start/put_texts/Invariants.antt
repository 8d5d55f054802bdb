use Rattle.std.proofs.Common.{◌≡◌, map, drop}
use Rattle.wl_rules.specs.Start.{with_texts}
use Rattle.wl_rules.proofs.start.put_texts.Given as goal

abbrev pub invariant-loop-symbol : goal.invariant-loop-symbol
invariant-loop-symbol l =
    (l.entry.version ≡ 0)
    × (with_texts l.name (map (λ m. record { symbol = m.0.now; tag = m.1.now; text = m.2.now }) (drop l.symbol-index l.texts)) l.entry.entry
    ≡ with_texts l.name (map (λ m. record { symbol = m.0.now; tag = m.1.now; text = m.2.now }) l.texts) l.initial.entry.entry)
