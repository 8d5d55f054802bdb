use Rattle.std.proofs.Common.{Some, option_map, sym, ◌∙◌, ap}
use Rattle.std.proofs.lemmas.Iterator.Consumers.{nth_from_yields_List, YieldsList-from_rest}
use Rattle.std.specs.Map.Iter.{deref_pair}
use Rattle.std.specs.String.{string_bytes}
use Rattle.wl_rules.proofs.Texts.{tags_ascend, texts_at}
use Rattle.wl_rules.proofs.entry.Entry.message_at.Goals as goal

pub returns-in-Some-clause-value : goal.returns-in-Some-clause-value
returns-in-Some-clause-value c =
    let entries = c.self.inside.messages.entries in
    let found = nth_from_yields_List (Some (c.in-Some.tag, c.in-Some.text)) c.nth.new.self c.args.k c.in-Some.ensures.ran (YieldsList-from_rest {shows = deref_pair} entries c.iter.ensures.rest) in
    rw (← c.self.view_is, c.as_str.ensures.value, c.as_str-in-Some.ensures.value) (ap (option_map (λ p. (string_bytes p.0, string_bytes p.1))) found ∙ sym (texts_at string_bytes entries c.args.k))

pub returns-in-None-clause-sorted : goal.returns-in-None-clause-sorted
returns-in-None-clause-sorted c = rw (← c.self.view_is) (tags_ascend string_bytes c.self.inside.messages.entries c.iter.ensures.ordered)

pub returns-in-Some-clause-sorted : goal.returns-in-Some-clause-sorted
returns-in-Some-clause-sorted c = rw (← c.self.view_is) (tags_ascend string_bytes c.self.inside.messages.entries c.iter.ensures.ordered)
