-- `Flatten[e]`, `Flatten[e, n]`: inner nodes with e's head are spliced, to any depth or to n. Reference page of it.
use Rattle.std.specs.Prelude.{ℕ, ◌-◌, Bool, true, false, ◌&&◌, nat_lt, List, [], ◌∷◌, ◌++◌, Option, Some, None}
use Rattle.wl_expr.specs.Applied.{Applied, unchanged, gives}
use Rattle.wl_expr.specs.Same.{same}
use Rattle.wl_expr.specs.Tree.{Tree, Trees, num, text, symbol, node, none, more}
use Rattle.wl_expr.specs.Words.{applied, count_of}

-- to a depth that is left, or to any
abbrev pub one_less : Option ℕ → Option ℕ
one_less None = None
one_less (Some n) = Some (n - 1)

abbrev pub may_splice : Option ℕ → Bool
may_splice None = true
may_splice (Some n) = nat_lt 0 n

abbrev mutual
  pub flattened : Tree → Option ℕ → Tree → List Tree
  flattened h n (num m) = num m ∷ []
  flattened h n (text s) = text s ∷ []
  flattened h n (symbol x) = symbol x ∷ []
  flattened h n (node k ts) = elim (may_splice n && same h k) [ true ↦ flattened_in h (one_less n) ts | false ↦ node k ts ∷ [] ]

  pub flattened_in : Tree → Option ℕ → Trees → List Tree
  flattened_in h n none = []
  flattened_in h n (more t ts) = flattened h n t ++ flattened_in h n ts

-- of an expression that is a node
abbrev pub flatten_by : Option ℕ → Tree → Applied
flatten_by n (node h ts) = gives (applied h (flattened_in h n ts))
flatten_by n t = unchanged

abbrev pub flatten_to : Option ℕ → Tree → Applied
flatten_to None t = unchanged
flatten_to (Some n) t = flatten_by (Some n) t

abbrev pub flatten_row : List Tree → Applied
flatten_row (t ∷ []) = flatten_by None t
flatten_row (t ∷ n ∷ []) = flatten_to (count_of n) t
flatten_row es = unchanged
