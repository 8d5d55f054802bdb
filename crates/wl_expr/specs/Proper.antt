-- Trees that stand for expressions: each number is in lowest terms and in range, each text is UTF-8, and each symbol has a name in UTF-8.
use Rattle.std.specs.Prelude.{List, [], ◌∷◌, ⊤}
use Rattle.std.specs.Str.{IsUtf8}
use Rattle.wl_exact.specs.Fraction.{IsNumber}
use Rattle.wl_ports.specs.Name.{IsName}
use Rattle.wl_expr.specs.Tree.{Tree, Trees, num, text, symbol, node, none, more}

abbrev mutual
  pub IsProper : Tree → Type 0
  IsProper (num n) = IsNumber n
  IsProper (text s) = IsUtf8 s
  IsProper (symbol s) = IsUtf8 s × IsName s
  IsProper (node h ts) = IsProper h × AreProper ts

  pub AreProper : Trees → Type 0
  AreProper none = ⊤
  AreProper (more t ts) = IsProper t × AreProper ts

abbrev pub AllProper : List Tree → Type 0
AllProper [] = ⊤
AllProper (t ∷ ts) = IsProper t × AllProper ts
