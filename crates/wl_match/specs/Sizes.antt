-- How many expressions a pattern takes, by the numbers of the parts inside it.
use Rattle.std.specs.Prelude.{ℕ, min, List, [], ◌∷◌, map, get_or, Option, Some, None}
use Rattle.wl_match.specs.declared.part.Part.{Part}
use Rattle.wl_match.specs.declared.part.Part.TheVariants as part
use Rattle.wl_match.specs.declared.size.Size.{Size}
use Rattle.wl_match.specs.Pattern.{Count, Pat, need, most, need_of, most_of, greater}
use Rattle.wl_match.specs.Parts.{count_of, table}

abbrev pub size : Pat → Size
size p = record { need = need p; most = most p }

abbrev pub size_of_count : Count → Size
size_of_count c = record { need = need_of c; most = most_of c }

abbrev pub one_tree : Size
one_tree = record { need = 1; most = Some 1 }

abbrev pub either_size : Size → Size → Size
either_size a b = record { need = min a.need b.need; most = greater a.most b.most }

abbrev pub joined : Size → Option Size → Size
joined s None = s
joined s (Some t) = either_size s t

-- what is joined behind
abbrev pub after : Option Size → Size → Size
after None s = s
after (Some t) s = either_size t s

abbrev pub size_among : (ℕ → Size) → List ℕ → Option Size
size_among f [] = None
size_among f (i ∷ is) = Some (joined (f i) (size_among f is))

abbrev pub or_one : Option Size → Size
or_one None = one_tree
or_one (Some s) = s

-- a part, by the sizes at places
abbrev pub size_by : (ℕ → Size) → Part → Size
size_by f (part.Exactly t) = one_tree
size_by f (part.Blank c h) = size_of_count (count_of c)
size_by f (part.Named x q) = f q
size_by f (part.Applies t q) = f q
size_by f (part.Holds c q) = f q
size_by f (part.Hold q) = f q
size_by f (part.Optional d q) = record { need = 0; most = (f q).most }
size_by f (part.Alternatives qs) = or_one (size_among f qs.items)
size_by f (part.Repeated c q) = size_of_count (count_of c)
size_by f (part.Except t q) = one_tree
size_by f (part.Nodes g h hp qs) = one_tree

abbrev pub size_at : List Size → ℕ → Size
size_at ss i = get_or ss i one_tree

-- the sizes of the patterns of parts
abbrev pub sizes_of : List Part → List Size
sizes_of ss = map size (table [] ss)
