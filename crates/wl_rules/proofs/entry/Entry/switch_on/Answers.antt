use Rattle.std.proofs.Common.{refl}
use Rattle.wl_rules.proofs.Texts.{without-texts}
use Rattle.wl_rules.proofs.entry.Entry.switch_on.Goals as goal

pub returns : goal.returns
returns c = rw (c.remove.ensures.entries, without-texts (λ u. u) c.args.tag.now c.self.inside.off.entries, ← c.self.view_is) refl
