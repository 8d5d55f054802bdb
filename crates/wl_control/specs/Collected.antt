-- What Table, FoldList and NestList collect, and how heavy it may be. The limit is this project's own.
use Rattle.std.specs.Prelude.{◌≡◌, ℕ, ◌+◌, ◌≤◌, nat_le, map, List, [], ◌∷◌, if◌then◌else◌}
use Rattle.wl_expr.specs.Stamped.{Stamped, plain}
use Rattle.wl_expr.specs.Tree.{Tree, weight}
use Rattle.wl_control.specs.Asks.{Asks, too_large}

abbrev pub total_weight : List Tree → ℕ
total_weight [] = 0
total_weight (t ∷ ts) = weight t + total_weight ts

-- after each pass the sum of the weights of the collected values is tested
abbrev pub collected : List Tree → (List Tree → Asks) → Asks
collected found k = if nat_le (total_weight found) 4000000 then k found else too_large

-- the sum that is kept is that of the values, and isn't past the limit
pub record IsWeighed (w : ℕ) (es : List Stamped) : Type 0 where
  pub sum : w ≡ total_weight (map plain es)
  pub light : w ≤ 4000000
