-- How the checker tells entries and stores apart.
use Rattle.std.specs.Prelude.{List, refl}
use Rattle.std.specs.Coded.{Coded, coded_ℕ, coded_bool, coded_list, coded×, code_by}
use Rattle.wl_expr.specs.Stamped.{bytes_code}
use Rattle.wl_expr.specs.Words.{Bytes}
use Rattle.wl_rules.specs.Attributes.{AttributeSet}
use Rattle.wl_rules.specs.Changes.{Shown}
use Rattle.wl_rules.specs.Codes.{rules_code}
use Rattle.wl_rules.specs.Entries.{Entry}
use Rattle.wl_rules.specs.Stored.{Slot, Stored}
use Rattle.wl_rules.specs.declared.rule.Rule.{Rule}

abbrev pub attributes_code : Coded AttributeSet
attributes_code =
    code_by (_ × _)
    (coded× coded_bool (coded× coded_bool (coded× coded_bool (coded× coded_bool (coded× coded_bool (coded× coded_bool (coded× coded_bool (coded× coded_bool (coded× coded_bool (coded× coded_bool coded_bool))))))))))
    (λ s. (s.flat, (s.hold_all, (s.hold_all_complete, (s.hold_first, (s.hold_rest, (s.listable, (s.numeric_function, (s.one_identity, (s.orderless, (s.protected, s.sequence_hold)))))))))))
    (λ p. record {
      flat = p.0;
      hold_all = p.1.0;
      hold_all_complete = p.1.1.0;
      hold_first = p.1.1.1.0;
      hold_rest = p.1.1.1.1.0;
      listable = p.1.1.1.1.1.0;
      numeric_function = p.1.1.1.1.1.1.0;
      one_identity = p.1.1.1.1.1.1.1.0;
      orderless = p.1.1.1.1.1.1.1.1.0;
      protected = p.1.1.1.1.1.1.1.1.1.0;
      sequence_hold = p.1.1.1.1.1.1.1.1.1.1;
    }) (λ _. refl)

abbrev pub text_code : Coded (Bytes × Bytes)
text_code = coded× bytes_code bytes_code

abbrev pub tag_code : Coded (Bytes × Unit {0})
tag_code = code_by _ bytes_code (λ p. p.0) (λ t. (t, tt)) (λ _. refl)

abbrev pub entry_code : Coded (Entry Rule)
entry_code =
    code_by (_ × _) (coded× rules_code (coded× attributes_code (coded× (coded_list text_code) (coded_list tag_code))))
    (λ e. (e.rules, (e.attributes, (e.messages, e.off)))) (λ p. record { rules = p.0; attributes = p.1.0; messages = p.1.1.0; off = p.1.1.1 }) (λ _. refl)

abbrev pub slot_code : Coded Slot
slot_code = code_by (_ × _) (coded× coded_ℕ entry_code) (λ w. (w.version, w.entry)) (λ p. record { version = p.0; entry = p.1 }) (λ _. refl)

abbrev pub rows_code : Coded (List (Bytes × Slot))
rows_code = coded_list (coded× bytes_code slot_code)

abbrev pub stored_code : Coded Stored
stored_code = code_by (_ × _) (coded× rows_code coded_ℕ) (λ s. (s.rows, s.drawn)) (λ p. record { rows = p.0; drawn = p.1 }) (λ _. refl)

abbrev pub shown_code : Coded Shown
shown_code =
    code_by (_ × _) (coded× coded_ℕ (coded× attributes_code (coded× (coded_list text_code) (coded_list tag_code))))
    (λ v. (v.index, (v.attributes, (v.messages, v.off)))) (λ p. record { index = p.0; attributes = p.1.0; messages = p.1.1.0; off = p.1.1.1 }) (λ _. refl)
