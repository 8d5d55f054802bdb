-- The counts of the work list: one for each cell that was begun.
use Rattle.std.specs.Prelude.{◌≡◌, ◌++◌, ℕ, List, length}

-- a count for each of so many cells stands behind those that were there before, which are as they were
pub record HasBegun (cells : ℕ) (counts counts' : List ℕ) : Type 0 where
  pub new : List ℕ
  pub behind : counts' ≡ counts ++ new
  pub each : length new ≡ cells
