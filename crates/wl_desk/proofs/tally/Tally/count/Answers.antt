use Rattle.std.proofs.Common.{◌≡◌, ◌+◌, ◌∙◌, ap, ℕ, List}
use Rattle.std.specs.String.{string_bytes}
use Rattle.wl_desk.specs.Desk.{count_of}
use Rattle.wl_desk.proofs.Tallies.{rows-insert}
use Rattle.wl_desk.proofs.tally.Tally.count.Goals as goal

pub returns-clause-ok : goal.returns-clause-ok
returns-clause-ok c =
    let count : c.count_of-count.result ≡ count_of (string_bytes c.args.name) c.args.self.now =
    c.count_of-count.ensures ∙ ap (λ (n : List ℕ). count_of n c.args.self.now) c.as_str.ensures.value in
    let here = rw (← c.self.view_is) at count in
    rw (c.in_ok-insert.ensures.entries, ← c.self.view_is) (rows-insert c.self.inside.counts.entries c.args.name (c.count_of-count.result + 1) (ap (λ (n : ℕ). n + 1) here))
