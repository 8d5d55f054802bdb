use Rattle.std.proofs.Common.{◌∙◌, ap}
use Rattle.wl_rules.specs.Entries.{with_attributes}
use Rattle.wl_rules.specs.Start.{with_texts, message_rows}
use Rattle.wl_rules.specs.Stored.{Slot}
use Rattle.wl_rules.proofs.start.symbol_entry.Goals as goal

pub returns : goal.returns
returns c =
    let with_own_texts : Slot → Slot = λ w. record { version = 0; entry = with_texts c.args.name.now message_rows w.entry } in
    let with_own_attributes : Slot → Slot = λ w. record { version = 0; entry = with_attributes c.args.attributes w.entry } in
    c.in_ok-put_own_texts.ensures ∙ ap with_own_texts (c.set_attributes.ensures ∙ ap with_own_attributes c.empty-entry.ensures)
