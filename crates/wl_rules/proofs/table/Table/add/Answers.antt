use Rattle.std.proofs.Common.{◌≡◌, None, subst, sym, List, ℕ}
use Rattle.std.specs.String.{string_bytes}
use Rattle.wl_rules.specs.Entries.{value_at}
use Rattle.wl_rules.proofs.Rows.{rows-insert_new}
use Rattle.wl_rules.proofs.table.Table.add.Goals as goal

pub returns-clause-ok : goal.returns-clause-ok
returns-clause-ok c =
    let named : value_at (string_bytes c.in_ok-name.name) c.args.self.now ≡ None = subst (λ (x : List ℕ). value_at x c.args.self.now ≡ None) (sym c.in_ok-name.ensures.ok) c.requires in
    let absent = rw (← c.self.view_is) at named in
    rw (c.in_ok-insert.ensures.entries, ← c.empty.ensures, ← c.in_ok-name.ensures.ok, ← c.self.view_is) (rows-insert_new c.self.inside.entries.entries c.in_ok-name.name c.empty.result absent)
