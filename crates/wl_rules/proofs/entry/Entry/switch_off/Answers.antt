use Rattle.std.proofs.Common.{refl}
use Rattle.wl_rules.proofs.Texts.{insert-texts}
use Rattle.wl_rules.proofs.entry.Entry.switch_off.Goals as goal

pub returns-clause-ok : goal.returns-clause-ok
returns-clause-ok c =
    rw (c.in_ok-insert.ensures.entries, insert-texts (λ u. u) c.self.inside.off.entries c.in_ok-tag.tag tt, c.in_ok-tag.ensures.ok, ← c.self.view_is) refl
