-- The symbols that are heads of nodes of a pattern, in preorder: a match reads the attributes of these.
use Rattle.std.specs.Prelude.{List, [], ◌∷◌, ◌++◌}
use Rattle.wl_expr.specs.Tree.{Tree, Trees, num, text, symbol, node, none, more}
use Rattle.wl_expr.specs.Words.{Name}

abbrev pub head_symbol : Tree → List Name
head_symbol (symbol x) = x ∷ []
head_symbol t = []

abbrev mutual
  pub heads : Tree → List Name
  heads (num n) = []
  heads (text s) = []
  heads (symbol s) = []
  heads (node h ts) = head_symbol h ++ (heads h ++ heads_in ts)

  pub heads_in : Trees → List Name
  heads_in none = []
  heads_in (more t ts) = heads t ++ heads_in ts

-- those of a node that come before its elements': its own head, or those in it
abbrev pub heads_above : Tree → List Name
heads_above h = head_symbol h ++ heads h
