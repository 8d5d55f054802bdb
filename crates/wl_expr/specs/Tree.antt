-- Trees: numbers, texts, symbols by their names, and nodes of a head and elements. Their weight, their depth and the limits of both are this project's own.
use Rattle.std.specs.Prelude.{◌≡◌, ℕ, ◌+◌, ◌≤◌, max, List, [], ◌∷◌, length, refl}
use Rattle.std.proofs.Common.{ap}
use Rattle.wl_exact.specs.Fraction.{Fraction}

mutual
  pub data Tree : Type 0 where
    num : Fraction → Tree
    text : List ℕ → Tree
    symbol : List ℕ → Tree
    node : Tree → Trees → Tree

  pub data Trees : Type 0 where
    none : Trees
    more : Tree → Trees → Trees

abbrev pub to_list : Trees → List Tree
to_list none = []
to_list (more t ts) = t ∷ to_list ts

abbrev pub from_list : List Tree → Trees
from_list [] = none
from_list (t ∷ ts) = more t (from_list ts)

pub to_list_from_list : (ts : List Tree) → to_list (from_list ts) ≡ ts
to_list_from_list [] = refl
to_list_from_list (t ∷ ts) = ap (λ us. t ∷ us) (to_list_from_list ts)

pub from_list_to_list : (ts : Trees) → from_list (to_list ts) ≡ ts
from_list_to_list none = refl
from_list_to_list (more t ts) = ap (λ us. more t us) (from_list_to_list ts)

-- a number weighs 1, a text and a symbol 1 and their bytes, a node what its head and elements weigh
abbrev mutual
  pub weight : Tree → ℕ
  weight (num n) = 1
  weight (text s) = 1 + length s
  weight (symbol s) = 1 + length s
  weight (node h ts) = weight h + weights ts

  pub weights : Trees → ℕ
  weights none = 0
  weights (more t ts) = weight t + weights ts

-- a leaf has depth 1, a node one more than the deepest of its head and elements
abbrev mutual
  pub depth : Tree → ℕ
  depth (num n) = 1
  depth (text s) = 1
  depth (symbol s) = 1
  depth (node h ts) = 1 + max (depth h) (depths ts)

  pub depths : Trees → ℕ
  depths none = 0
  depths (more t ts) = max (depth t) (depths ts)

-- the tree is neither too heavy nor too deep
pub record IsWithinLimits (t : Tree) : Type 0 where
  pub light : weight t ≤ 4000000
  pub shallow : depth t ≤ 1000

-- the elements are those of a node that may be within the limits
pub record AreSmall (ts : Trees) : Type 0 where
  pub light : weights ts ≤ 4000000
  pub shallow : depths ts ≤ 1000

-- one more at the end
abbrev pub push : Trees → Tree → Trees
push none u = more u none
push (more t ts) u = more t (push ts u)
