use Rattle.std.proofs.Common.{◌∙◌}
use Rattle.std.specs.BTreeMap.{is_at}
use Rattle.std.specs.Cmp.Lexicographic.{slice_cmp}
use Rattle.std.specs.Map.{lookup}
use Rattle.std.specs.Ordering.{nat_cmp}
use Rattle.std.specs.String.{string_bytes}
use Rattle.wl_rules.proofs.Choices.{is_some-option_map}
use Rattle.wl_rules.proofs.Texts.{value_at-texts}
use Rattle.wl_rules.proofs.entry.Entry.is_off.Goals as goal

pub returns : goal.returns
returns c =
    rw (← c.self.view_is, value_at-texts (λ u. u) c.args.tag.now c.self.inside.off.entries) (c.contains_key.ensures ∙ is_some-option_map (λ u. u) (lookup (is_at (λ k. slice_cmp nat_cmp c.args.tag.now (string_bytes k))) c.self.inside.off.entries))
