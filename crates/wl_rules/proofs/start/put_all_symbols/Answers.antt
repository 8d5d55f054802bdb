use Rattle.std.proofs.Common.{◌≡◌, map, subst}
use Rattle.std.specs.Prelude.{OnOk}
use Rattle.wl_rules.specs.Starting.{with_symbol_rows}
use Rattle.wl_rules.proofs.start.put_all_symbols.Goals as goal

pub returns : goal.returns
returns c =
    subst (λ rs. OnOk c.put_symbol_rows.result (c.put_symbol_rows.new.table ≡ with_symbol_rows (map (λ r. (r.0.now, map (λ x. x.now) r.1.now)) rs) c.args.table.now)) c.as_slice.ensures c.put_symbol_rows.ensures
