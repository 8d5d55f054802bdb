-- Trees whose symbols and nodes may carry a stamp: what contracts see of an expression.
use Rattle.std.specs.Prelude.{◌≡◌, ℕ, List, [], ◌∷◌, Option, Some, None, refl, ⊤}
use Rattle.std.specs.Coded.{Coded, coded_ℕ, coded_list, coded×, coded_option, code_by}
use base.Stored.{Gv, gnil, gnum, gcons}
use Rattle.wl_exact.specs.Fraction.{Fraction, fraction_code}
use Rattle.wl_expr.specs.declared.stamp.Stamp.{Stamp}
use Rattle.wl_expr.specs.Tree as tree
use Rattle.wl_expr.specs.Tree.{Tree, Trees}

mutual
  pub data Stamped : Type 0 where
    num : Fraction → Stamped
    text : List ℕ → Stamped
    symbol : Option Stamp → List ℕ → Stamped
    node : Option Stamp → Stamped → Stampeds → Stamped

  pub data Stampeds : Type 0 where
    none : Stampeds
    more : Stamped → Stampeds → Stampeds

abbrev pub from_list : List Stamped → Stampeds
from_list [] = none
from_list (t ∷ ts) = more t (from_list ts)

-- the tree without its stamps
abbrev mutual
  pub plain : Stamped → Tree
  plain (num n) = tree.num n
  plain (text s) = tree.text s
  plain (symbol p s) = tree.symbol s
  plain (node p h ts) = tree.node (plain h) (plains ts)

  pub plains : Stampeds → Trees
  plains none = tree.none
  plains (more t ts) = tree.more (plain t) (plains ts)

abbrev pub depth : Stamped → ℕ
depth t = tree.depth (plain t)

-- the stamp of the top
abbrev pub stamp_of : Stamped → Option Stamp
stamp_of (num n) = None
stamp_of (text s) = None
stamp_of (symbol p s) = p
stamp_of (node p h ts) = p

-- a symbol or a node
abbrev pub MayCarryStamp : Stamped → Type 0
MayCarryStamp (num n) = ⊥
MayCarryStamp (text s) = ⊥
MayCarryStamp (symbol p s) = ⊤
MayCarryStamp (node p h ts) = ⊤

-- the same with this stamp on top, where a stamp may stand there
abbrev pub with_stamp : Stamped → Stamp → Stamped
with_stamp (num n) q = num n
with_stamp (text s) q = text s
with_stamp (symbol p s) q = symbol (Some q) s
with_stamp (node p h ts) q = node (Some q) h ts

-- the same with no stamp on top
abbrev pub without_stamp : Stamped → Stamped
without_stamp (num n) = num n
without_stamp (text s) = text s
without_stamp (symbol p s) = symbol None s
without_stamp (node p h ts) = node None h ts

-- a tree with no stamp
abbrev mutual
  pub unstamped : Tree → Stamped
  unstamped (tree.num n) = num n
  unstamped (tree.text s) = text s
  unstamped (tree.symbol s) = symbol None s
  unstamped (tree.node h ts) = node None (unstamped h) (unstampeds ts)

  pub unstampeds : Trees → Stampeds
  unstampeds tree.none = none
  unstampeds (tree.more t ts) = more (unstamped t) (unstampeds ts)

mutual
  pub plain_unstamped : (t : Tree) → plain (unstamped t) ≡ t
  plain_unstamped (tree.num n) = refl
  plain_unstamped (tree.text s) = refl
  plain_unstamped (tree.symbol s) = refl
  plain_unstamped (tree.node h ts) = λ i. tree.node (plain_unstamped h i) (plains_unstampeds ts i)

  pub plains_unstampeds : (ts : Trees) → plains (unstampeds ts) ≡ ts
  plains_unstampeds tree.none = refl
  plains_unstampeds (tree.more t ts) = λ i. tree.more (plain_unstamped t i) (plains_unstampeds ts i)

-- how the checker tells stamps, stamped trees and plain trees apart
abbrev pub stamp_code : Coded Stamp
stamp_code = code_by (_ × _) (coded× (coded_list (coded× coded_ℕ coded_ℕ)) (coded× coded_ℕ (coded× coded_ℕ coded_ℕ)))
    (λ s. (s.reads, (s.steps, (s.depth, s.turns)))) (λ p. record { reads = p.0; steps = p.1.0; depth = p.1.1.0; turns = p.1.1.1 }) (λ _. refl)

abbrev pub top_code : Coded (Option Stamp)
top_code = coded_option stamp_code

abbrev pub bytes_code : Coded (List ℕ)
bytes_code = coded_list coded_ℕ

abbrev mutual
  pub code : Stamped → Gv
  code (num n) = gcons (gnum 0) (fraction_code.code n)
  code (text s) = gcons (gnum 1) (bytes_code.code s)
  code (symbol p s) = gcons (gnum 2) (gcons (top_code.code p) (bytes_code.code s))
  code (node p h ts) = gcons (gnum 3) (gcons (top_code.code p) (gcons (code h) (codes ts)))

  pub codes : Stampeds → Gv
  codes none = gnil
  codes (more t ts) = gcons (code t) (codes ts)

mutual
  pub code_inj : (x y : Stamped) → code x ≡ code y → x ≡ y
  code_inj (num n) (num m) p = cc (fraction_code.inj n m (cc))
  code_inj (text s) (text t) p = cc (bytes_code.inj s t (cc))
  code_inj (symbol a s) (symbol b t) p = cc (top_code.inj a b (cc), bytes_code.inj s t (cc))
  code_inj (node a h ts) (node b k us) p = cc (top_code.inj a b (cc), code_inj h k (cc), codes_inj ts us (cc))
  code_inj _ _ p = cc

  pub codes_inj : (x y : Stampeds) → codes x ≡ codes y → x ≡ y
  codes_inj none none p = refl
  codes_inj (more t ts) (more u us) p = cc (code_inj t u (cc), codes_inj ts us (cc))
  codes_inj _ _ p = cc

abbrev pub stamped_code : Coded Stamped
stamped_code = record { code = code; inj = code_inj }

abbrev pub tree_code : Coded Tree
tree_code = code_by Stamped stamped_code unstamped plain plain_unstamped
