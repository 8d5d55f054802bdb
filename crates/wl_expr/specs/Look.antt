-- One level of a tree.
use Rattle.std.specs.Prelude.{List, Option, ⊤}
use Rattle.std.specs.List.{All}
use Rattle.std.specs.Str.{IsUtf8}
use Rattle.wl_exact.specs.Fraction.{IsNumber}
use Rattle.wl_ports.specs.Name.{IsName}
use Rattle.wl_expr.specs.Passed.{IsFrom}
use Rattle.wl_expr.specs.Proper.{IsProper}
use Rattle.wl_expr.specs.Tree as tree
use Rattle.wl_expr.specs.Tree.{Tree}
use Rattle.wl_expr.specs.Stamped.{Stamped, num, text, symbol, node, from_list, plain, plains}
use Rattle.wl_expr.specs.declared.stamp.Stamp.{Stamp}
use Rattle.wl_expr.specs.declared.look.Look.{Look}
use Rattle.wl_expr.specs.declared.look.Look.TheVariants.{Num, Text, Symbol, Node}

-- the tree of this level, with this stamp on top
abbrev pub looked : Option Stamp → Look → Stamped
looked p (Num n) = num n
looked p (Text s) = text s.now
looked p (Symbol s) = symbol p s.now
looked p (Node h ts) = node p h.now (from_list ts.now)

-- the plain tree of this level
abbrev pub plain_look : Look → Tree
plain_look (Num n) = tree.num n
plain_look (Text s) = tree.text s.now
plain_look (Symbol s) = tree.symbol s.now
plain_look (Node h ts) = tree.node (plain h.now) (plains (from_list ts.now))

-- what is proper of this level: the number, the text, the name, or the head and each element
abbrev pub LookIsProper : Look → Type 0
LookIsProper (Num n) = IsNumber n
LookIsProper (Text s) = IsUtf8 s.now
LookIsProper (Symbol s) = IsUtf8 s.now × IsName s.now
LookIsProper (Node h ts) = IsProper (plain h.now) × All (λ t. IsProper (plain t)) ts.now

-- each stamped part of the head and the elements of this level is one of these
abbrev pub LookIsFrom : List Stamped → Look → Type 0
LookIsFrom ms (Num n) = ⊤
LookIsFrom ms (Text s) = ⊤
LookIsFrom ms (Symbol s) = ⊤
LookIsFrom ms (Node h ts) = IsFrom ms h.now × All (IsFrom ms) ts.now
