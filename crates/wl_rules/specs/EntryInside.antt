-- How the fields of an entry stand for it.
use Rattle.std.specs.Prelude.{map}
use Rattle.std.specs.String.{string_bytes}
use Rattle.wl_rules.specs.Stored.{Slot}
use Rattle.wl_rules.specs.declared.entry.Entry.TheInside.{Inside}

abbrev pub slot_of : Inside → Slot
slot_of a = record {
  version = a.version;
  entry = record {
    rules = a.rules;
    attributes = a.attributes;
    messages = map (λ p. (string_bytes p.0, string_bytes p.1)) a.messages.entries;
    off = map (λ p. (string_bytes p.0, p.1)) a.off.entries;
  };
}
