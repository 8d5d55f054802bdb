use Rattle.std.proofs.Common.{sym, ◌∙◌, ap, option_map}
use Rattle.std.specs.String.{string_bytes}
use Rattle.wl_rules.proofs.Texts.{value_at-texts}
use Rattle.wl_rules.proofs.entry.Entry.message.Goals as goal

pub returns-in-None : goal.returns-in-None
returns-in-None c = rw (← c.self.view_is) (ap (option_map string_bytes) c.in-None.ensures.value ∙ sym (value_at-texts string_bytes c.args.tag.now c.self.inside.messages.entries))

pub returns-in-Some : goal.returns-in-Some
returns-in-Some c =
    rw (← c.self.view_is, c.as_str.ensures.value) (ap (option_map string_bytes) c.in-Some.ensures.value ∙ sym (value_at-texts string_bytes c.args.tag.now c.self.inside.messages.entries))
