-- Lists among elements, spliced at all depths.
use Rattle.std.specs.Prelude.{true, false, List, [], ◌∷◌, ◌++◌, codes}
use Rattle.wl_expr.specs.Tree.{Tree, Trees, num, text, symbol, node, none, more}
use Rattle.wl_expr.specs.Words.{is_the}

abbrev mutual
  pub spliced : Tree → List Tree
  spliced (num n) = num n ∷ []
  spliced (text s) = text s ∷ []
  spliced (symbol x) = symbol x ∷ []
  spliced (node h ts) = elim (is_the (codes "List") h) [ true ↦ spliced_in ts | false ↦ node h ts ∷ [] ]

  pub spliced_in : Trees → List Tree
  spliced_in none = []
  spliced_in (more t ts) = spliced t ++ spliced_in ts

abbrev pub spliced_lists : List Tree → List Tree
spliced_lists [] = []
spliced_lists (t ∷ ts) = spliced t ++ spliced_lists ts
