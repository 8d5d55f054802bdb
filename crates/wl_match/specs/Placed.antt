-- A tree read as a pattern, where the flags of its heads stand in a list in the order of the heads.
use Rattle.std.specs.Prelude.{ℕ, ◌+◌, List, length, get_or}
use Rattle.wl_expr.specs.Tree.{Tree, Trees, num, text, symbol, node, none, more}
use Rattle.wl_match.specs.declared.flags.Flags.{Flags}
use Rattle.wl_match.specs.Heads.{heads, head_symbol, heads_above}
use Rattle.wl_match.specs.Pattern.{Pat, Pats, exactly, end, also, no_flags, read_node}

-- the flags of the k-th head
abbrev pub flags_at : List Flags → ℕ → Flags
flags_at fs k = get_or fs k no_flags

-- k heads stand before the tree
abbrev mutual
  pub placed : List Flags → ℕ → Tree → Pat
  placed fs k (num n) = exactly (num n)
  placed fs k (text s) = exactly (text s)
  placed fs k (symbol s) = exactly (symbol s)
  placed fs k (node h ts) =
      read_node (λ s. flags_at fs k) h ts (placed fs (k + length (head_symbol h)) h) (placed_in fs (k + length (heads_above h)) ts)

  pub placed_in : List Flags → ℕ → Trees → Pats
  placed_in fs k none = end
  placed_in fs k (more t ts) = also (placed fs k t) (placed_in fs (k + length (heads t)) ts)
