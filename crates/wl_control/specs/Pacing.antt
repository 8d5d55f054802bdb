-- How often a row asks between two passes.
use Rattle.std.specs.Prelude.{ℕ, ◌-◌, ◌≤◌, ⊤, Bool}
use Rattle.wl_expr.specs.Tree.{Tree}
use Rattle.wl_control.specs.Asks.{Asks, gives, stays, overflows, too_large, eval, eval_catching, matches, let_be, pass, Caught}

-- at most n questions come before a pass begins or the row ends, and at most m between two passes
abbrev pub IsPaced : ℕ → ℕ → Asks → Type 0
IsPaced m n (gives t) = ⊤
IsPaced m n stays = ⊤
IsPaced m n overflows = ⊤
IsPaced m n too_large = ⊤
IsPaced m n (eval t k) = (1 ≤ n) × ((v : Tree) → IsPaced m (n - 1) (k v))
IsPaced m n (eval_catching t k) = (1 ≤ n) × ((u : Caught) → IsPaced m (n - 1) (k u))
IsPaced m n (matches t p k) = (1 ≤ n) × ((b : Bool) → IsPaced m (n - 1) (k b))
IsPaced m n (let_be v k) = (1 ≤ n) × IsPaced m (n - 1) (k tt)
IsPaced m n (pass k) = IsPaced m m (k tt)
