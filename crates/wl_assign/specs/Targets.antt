-- Which kind of rule a core gets, and of which symbol.
use Rattle.wl_expr.specs.Tree.{Tree, symbol, node}
use Rattle.wl_expr.specs.Words.{Name, leftmost}

pub data Target : Type 0 where
  own : Name → Target
  down : Name → Target
  sub : Name → Target
  raw : Target

-- the symbol that a head begins with gets a sub rule; a number or a text gets none
abbrev pub of_leftmost : Tree → Target
of_leftmost (symbol x) = sub x
of_leftmost t = raw

-- A symbol gets an own rule; a node whose head is a symbol a down rule of that symbol; another node a sub rule of the symbol
-- that it begins with.
abbrev pub target : Tree → Target
target (symbol x) = own x
target (node (symbol x) ts) = down x
target (node h ts) = of_leftmost (leftmost h)
target t = raw
