-- The guards of Module, With and Block by their local names and bodies, where these are there.
use Rattle.std.specs.Prelude.{ℕ, true, List, Option, Some, None}
use Rattle.wl_expr.specs.Tree.{Tree}
use Rattle.wl_shape.specs.Scopes.{Local}
use Rattle.wl_semantics.specs.Prog.{Prog, done, ◌>>=◌, sized}
use Rattle.wl_semantics.specs.Match.{guard_within, value_inside}
use Rattle.wl_semantics.specs.Scoping.{module_body, with_body, in_block}

-- the value of what a guard gives
abbrev pub guarded_value : ℕ → Tree → Prog (Option Tree)
guarded_value n b = do
  r ← guard_within n b
  value_inside r

abbrev pub module_guard : ℕ → Tree → Option (List Local × Tree) → Prog (Option Tree)
module_guard n g None = done (Some g)
module_guard n g (Some p) = do
  u ← module_body true p.0 p.1
  guard_within n u

abbrev pub with_guard : ℕ → Tree → Option (List Local × Tree) → Prog (Option Tree)
with_guard n g None = done (Some g)
with_guard n g (Some p) = do
  u ← with_body p.0 p.1
  _ ← sized u
  guard_within n u

abbrev pub block_guard : ℕ → Tree → Option (List Local × Tree) → Prog (Option Tree)
block_guard n g None = done (Some g)
block_guard n g (Some p) = in_block p.0 (guarded_value n p.1)
