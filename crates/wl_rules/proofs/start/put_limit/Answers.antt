use Rattle.std.proofs.Common.{◌≡◌, ◌∙◌, ap, subst}
use Rattle.std.specs.Prelude.{OnOk}
use Rattle.wl_rules.specs.Entries.{put_rule}
use Rattle.wl_rules.specs.Start.{with_texts, message_rows, slot_of_limit}
use Rattle.wl_rules.specs.Starting.{with_row}
use Rattle.wl_rules.specs.StampedRules.{left_of}
use Rattle.wl_rules.specs.Stored.{Slot, new_slot}
use Rattle.wl_rules.specs.declared.rule.Rule.{Rule}
use Rattle.wl_rules.specs.declared.rule.RuleKind.TheVariants.{Own}
use Rattle.wl_rules.proofs.start.put_limit.Goals as goal

pub returns : goal.returns
returns c =
    let with_own_texts : Slot → Slot = λ w. record { version = 0; entry = with_texts c.args.name.now message_rows w.entry } in
    let with_own_rule : Rule → Slot → Slot = λ r w. record { version = 0; entry = put_rule left_of Own r w.entry } in
    let made : c.put_own_texts.new.entry ≡ slot_of_limit c.args.name.now c.args.limit =
    c.in_ok-put_own_texts.ensures ∙ ap with_own_texts (c.in_ok-put_rule.ensures.ok ∙ ap (with_own_rule c.in_ok-rule.rule) c.empty-entry.ensures ∙ ap (λ (r : Rule). with_own_rule r new_slot) c.in_ok-rule.ensures) in
    subst (λ (w : Slot). OnOk c.put.result (c.put.new.self ≡ with_row c.args.name.now w c.args.table.now)) made c.put.ensures
