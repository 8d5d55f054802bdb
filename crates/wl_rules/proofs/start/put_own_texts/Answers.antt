use Rattle.std.proofs.Common.{◌≡◌, map, subst}
use Rattle.std.specs.Prelude.{OnOk}
use Rattle.wl_rules.specs.Start.{with_texts}
use Rattle.wl_rules.proofs.start.put_own_texts.Goals as goal

pub returns : goal.returns
returns c =
    subst (λ ms. OnOk c.put_texts.result (c.put_texts.new.entry ≡ record { version = 0; entry = with_texts c.args.name.now (map (λ m. record { symbol = m.0.now; tag = m.1.now; text = m.2.now }) ms) c.args.entry.now.entry })) c.as_slice.ensures c.put_texts.ensures
