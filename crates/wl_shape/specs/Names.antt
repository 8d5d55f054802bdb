-- Sets of names, as the code keeps them: symbols, each once.
use Rattle.std.specs.Prelude.{◌≡◌, Bool, ◌||◌, ◌&&◌, not, true, List, [], ◌∷◌, Option, Some, None}
use Rattle.std.specs.declared.hash.BuildHasherDefault.{BuildHasherDefault}
use Rattle.std.specs.declared.hash.FoldHasher.{FoldHasher}
use Rattle.indexmap.specs.IndexSet.{IndexSet}
use Rattle.std.specs.List.{list_any}
use Rattle.wl_expr.specs.Same.{same, is_name_among}
use Rattle.wl_expr.specs.Stamped.{Stamped, plain}
use Rattle.wl_expr.specs.Tree.{Tree, symbol}
use Rattle.wl_expr.specs.Words.{Name}

-- whether the tree is in the set
abbrev pub has_tree : List Stamped → Tree → Bool
has_tree ks t = list_any (λ k. same t (plain k)) ks

abbrev pub NameSet : Type 0
NameSet = IndexSet Stamped (BuildHasherDefault FoldHasher)

abbrev pub has_name : List Stamped → Name → Bool
has_name ks x = has_tree ks (symbol x)

-- the names of those trees that are symbols
abbrev pub names_in : List Tree → List Name
names_in [] = []
names_in (symbol x ∷ ts) = x ∷ names_in ts
names_in (t ∷ ts) = names_in ts

-- the keys of a set that is new, or of the one that stays
abbrev pub keys_or : Option NameSet → List Stamped → List Stamped
keys_or None ks = ks
keys_or (Some s) ks = s.keys

-- the set has this tree more
abbrev pub HasOneMore : List Stamped → List Stamped → Tree → Type 0
HasOneMore old new t = (u : Tree) → has_tree new u ≡ (has_tree old u || same u t)

-- the set has these names more
abbrev pub HasMore : List Stamped → List Stamped → List Name → Type 0
HasMore old new xs = (x : Name) → has_name new x ≡ (has_name old x || is_name_among x xs)

-- the set has those of these names more that are among others
abbrev pub HasMet : List Stamped → List Stamped → List Stamped → List Name → Type 0
HasMet targets old new xs = (x : Name) → has_name new x ≡ (has_name old x || (has_name targets x && is_name_among x xs))
