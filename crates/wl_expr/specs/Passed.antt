-- Stamps that are handed on and not made: a tree is from some stamped trees where each of its parts that has a stamp is one of them.
use Rattle.std.specs.Prelude.{List, [], ◌∷◌, ◌++◌, Some, None, ⊤}
use Rattle.std.specs.List.{Contains}
use Rattle.wl_expr.specs.Stamped.{Stamped, Stampeds, num, text, symbol, node, none, more}

abbrev mutual
  pub IsFrom : List Stamped → Stamped → Type 0
  IsFrom ms (num n) = ⊤
  IsFrom ms (text s) = ⊤
  IsFrom ms (symbol None s) = ⊤
  IsFrom ms (symbol (Some p) s) = Contains ms (symbol (Some p) s)
  IsFrom ms (node None h ts) = IsFrom ms h × AreFrom ms ts
  IsFrom ms (node (Some p) h ts) = Contains ms (node (Some p) h ts) × IsFrom ms h × AreFrom ms ts

  pub AreFrom : List Stamped → Stampeds → Type 0
  AreFrom ms none = ⊤
  AreFrom ms (more t ts) = IsFrom ms t × AreFrom ms ts

-- the parts that have a stamp
abbrev mutual
  pub stamped_parts : Stamped → List Stamped
  stamped_parts (num n) = []
  stamped_parts (text s) = []
  stamped_parts (symbol None s) = []
  stamped_parts (symbol (Some p) s) = symbol (Some p) s ∷ []
  stamped_parts (node None h ts) = stamped_parts h ++ stamped_parts_of ts
  stamped_parts (node (Some p) h ts) = node (Some p) h ts ∷ (stamped_parts h ++ stamped_parts_of ts)

  pub stamped_parts_of : Stampeds → List Stamped
  stamped_parts_of none = []
  stamped_parts_of (more t ts) = stamped_parts t ++ stamped_parts_of ts

-- P holds of each part that has a stamp
abbrev mutual
  pub AtStamps : (Stamped → Type 0) → Stamped → Type 0
  AtStamps P (num n) = ⊤
  AtStamps P (text s) = ⊤
  AtStamps P (symbol None s) = ⊤
  AtStamps P (symbol (Some p) s) = P (symbol (Some p) s)
  AtStamps P (node None h ts) = AtStamps P h × AllAtStamps P ts
  AtStamps P (node (Some p) h ts) = P (node (Some p) h ts) × AtStamps P h × AllAtStamps P ts

  pub AllAtStamps : (Stamped → Type 0) → Stampeds → Type 0
  AllAtStamps P none = ⊤
  AllAtStamps P (more t ts) = AtStamps P t × AllAtStamps P ts
