use Rattle.std.proofs.Common.{refl}
use Rattle.std.specs.String.{string_bytes}
use Rattle.wl_rules.proofs.Texts.{insert-texts}
use Rattle.wl_rules.proofs.entry.Entry.put_message.Goals as goal

pub returns-clause-ok : goal.returns-clause-ok
returns-clause-ok c =
    rw (c.in_ok-insert.ensures.entries, insert-texts string_bytes c.self.inside.messages.entries c.in_ok-tag.tag c.in_ok-text.text, c.in_ok-tag.ensures.ok, c.in_ok-text.ensures.ok, ← c.self.view_is) refl
