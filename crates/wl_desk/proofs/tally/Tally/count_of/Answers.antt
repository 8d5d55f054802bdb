use Rattle.std.proofs.Common.{◌∙◌, ap}
use Rattle.std.specs.Option.{unwrap_or}
use Rattle.wl_desk.proofs.Tallies.{value_at-rows}
use Rattle.wl_desk.proofs.tally.Tally.count_of.Goals as goal

pub returns : goal.returns
returns c =
    rw (← c.self.view_is, value_at-rows c.args.name.now c.self.inside.counts.entries, ← c.get.ensures.value)
    (c.unwrap_or.ensures ∙ ap (λ o. unwrap_or o 0) c.copied.ensures)
