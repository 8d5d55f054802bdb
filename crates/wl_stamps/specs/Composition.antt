-- What an evaluation read and took, with that of a part of it added.
use Rattle.std.specs.Prelude.{◌≡◌, ℕ, ◌+◌, ◌^◌, ◌<◌, max, List, ◌++◌, take}
use Rattle.std.specs.List.{Contains}
use Rattle.wl_expr.specs.declared.stamp.Stamp.{Stamp}
use Rattle.wl_stamps.specs.Reads.{Read, all_noted}
use Rattle.wl_stamps.specs.declared.trial.Trial.{Trial}

-- no name was read at two versions
abbrev pub IsOneVersionEach : List Read → Type 0
IsOneVersionEach rs = (i v w : ℕ) → Contains {X = Read} rs (i, v) → Contains {X = Read} rs (i, w) → v ≡ w

-- the sums stay within their types, and no name has two versions
abbrev pub Composes : Trial → Stamp → Type 0
Composes t p = (t.steps + p.steps < 2 ^ 64) × (p.depth + 1 < 2 ^ 32) × IsOneVersionEach (t.reads ++ p.reads)

-- The reads of the trial and then of the part, each name once; the steps of both; as depth that of the trial, or one more than that
-- of the part if that is greater, since the part stood one deeper; and the greater of the turns.
abbrev pub composed : Trial → Stamp → Trial
composed t p = record { reads = all_noted t.reads p.reads; steps = t.steps + p.steps; depth = max t.depth (p.depth + 1); turns = max t.turns p.turns }

-- the trial with the first reads of the part
abbrev pub with_some : ℕ → Trial → Stamp → Trial
with_some n t p = record { reads = all_noted t.reads (take n p.reads); steps = t.steps; depth = t.depth; turns = t.turns }
