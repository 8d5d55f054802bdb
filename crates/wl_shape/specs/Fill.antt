-- Filling: names in a body are replaced by trees. Inner scopes shadow, and a formal parameter that would capture gets `$` appended. Tutorial on pure functions and on Module; the renaming is this project's own.
use Rattle.std.specs.Prelude.{ℕ, zero, suc, ◌+◌, max, Bool, true, false, ◌&&◌, List, [], ◌∷◌, ◌++◌, length, Option, Some, None, option_map, codes, decimal, bytes_eq}
use Rattle.wl_expr.specs.Tree.{Tree, Trees, num, text, symbol, node, none, more}
use Rattle.wl_expr.specs.Same.{is_name_among}
use Rattle.wl_expr.specs.Words.{Name, sequence_of}
use Rattle.wl_shape.specs.Scopes.{parameters}

-- what stands for each name
abbrev pub Values : Type 0
Values = Name → Option Tree

-- the values of other names
abbrev pub without_names : List Name → Values → Values
without_names xs vs x = elim (is_name_among x xs) [ true ↦ None | false ↦ vs x ]

-- all names in a tree
abbrev mutual
  pub names : Tree → List Name
  names (num n) = []
  names (text s) = []
  names (symbol x) = x ∷ []
  names (node h ts) = names h ++ names_all ts

  pub names_all : Trees → List Name
  names_all none = []
  names_all (more t ts) = names t ++ names_all ts

abbrev pub except_names : List Name → List Name → List Name
except_names xs [] = []
except_names xs (y ∷ ys) = elim (is_name_among y xs) [ true ↦ except_names xs ys | false ↦ y ∷ except_names xs ys ]

-- the names in a tree that filling would reach: not those that a scope shadows, and not the parameters themselves
abbrev mutual
  pub reached : Tree → List Name
  reached (num n) = []
  reached (text s) = []
  reached (symbol x) = x ∷ []
  reached (node h ts) = reached h ++ elim (parameters h ts) [ None ↦ reached_all ts | Some xs ↦ reached_scope xs ts ]

  pub reached_all : Trees → List Name
  reached_all none = []
  reached_all (more t ts) = reached t ++ reached_all ts

  -- of the two elements of a scope
  pub reached_scope : List Name → Trees → List Name
  reached_scope xs (more t (more u none)) = reached_first t ++ except_names xs (reached u)
  reached_scope xs ts = []

  -- of the parameters `x`, `{x, y}` or `{x, y = v}`: the initial values
  pub reached_first : Tree → List Name
  reached_first (node h ts) = reached h ++ reached_formals ts
  reached_first t = []

  pub reached_formals : Trees → List Name
  reached_formals none = []
  reached_formals (more t ts) = reached_formal t ++ reached_formals ts

  pub reached_formal : Tree → List Name
  reached_formal (node h (more x (more v none))) = reached h ++ reached v
  reached_formal t = []

-- ---- renaming of captured parameters

abbrev pub value_names : Option Tree → List Name
value_names None = []
value_names (Some t) = names t

-- all names in what stands for these names, which arrive in a body that reaches them
abbrev pub arriving : List Name → Values → List Name
arriving [] vs = []
arriving (x ∷ xs) vs = value_names (vs x) ++ arriving xs vs

abbrev pub longest : List Name → ℕ
longest [] = 0
longest (x ∷ xs) = max (length x) (longest xs)

abbrev pub marked : Name → Name
marked x = x ++ codes "$"

-- `$` appended until the name isn't taken, n times at most
abbrev pub fresh : ℕ → List Name → Name → Name
fresh zero taken x = x
fresh (suc n) taken x = elim (is_name_among x taken) [ true ↦ fresh n taken (marked x) | false ↦ x ]

-- no name is taken that is longer than the longest of those that are
abbrev pub new_name : List Name → Name → Name
new_name taken x = fresh (longest taken + 1) taken (marked x)

-- what stands for those parameters that arriving names would be captured by: their new names
abbrev pub renamings : List Name → List Name → List Name → Values
renamings arrived taken xs x = elim (is_name_among x xs && is_name_among x arrived) [ true ↦ Some (symbol (new_name taken x)) | false ↦ None ]

abbrev pub or_else : Option Tree → Option Tree → Option Tree
or_else None o = o
or_else (Some t) o = Some t

-- what a scope does to the values that come in: the new names of its parameters, and what stands for which name inside
pub record Inside : Type 0 where
  pub renamed : Values
  pub inner : Values

abbrev pub inside_of : List Name → Values → Tree → Inside
inside_of xs vs body =
    let outer = without_names xs vs in
    let arrived = arriving (reached body) outer in
    let rs = renamings arrived (arrived ++ names body) xs in
    record { renamed = rs; inner = λ x. or_else (rs x) (outer x) }

abbrev pub inside : List Name → Values → Trees → Inside
inside xs vs (more first (more body none)) = inside_of xs vs body
inside xs vs ts = record { renamed = λ x. None; inner = vs }

-- ---- filling

abbrev pub filled_symbol : Name → Option Tree → Tree
filled_symbol x None = symbol x
filled_symbol x (Some t) = t

-- a parameter: its new name, where it has one
abbrev pub parameter : Values → Tree → Tree
parameter rs (symbol x) = filled_symbol x (rs x)
parameter rs t = t

abbrev mutual
  pub fill : Values → Tree → Tree
  fill vs (num n) = num n
  fill vs (text s) = text s
  fill vs (symbol x) = filled_symbol x (vs x)
  fill vs (node h ts) = elim (parameters h ts) [ None ↦ node (fill vs h) (fill_all vs ts) | Some xs ↦ node (fill vs h) (fill_scope vs (inside xs vs ts) ts) ]

  pub fill_all : Values → Trees → Trees
  fill_all vs none = none
  fill_all vs (more t ts) = more (fill vs t) (fill_all vs ts)

  -- the two elements of a scope
  pub fill_scope : Values → Inside → Trees → Trees
  fill_scope vs i (more t (more u none)) = more (fill_first vs i.renamed t) (more (fill i.inner u) none)
  fill_scope vs i ts = ts

  -- the parameters `x`, `{x, y}` or `{x, y = v}`: initial values are outside the scope
  pub fill_first : Values → Values → Tree → Tree
  fill_first vs rs (num n) = num n
  fill_first vs rs (text s) = text s
  fill_first vs rs (symbol x) = filled_symbol x (rs x)
  fill_first vs rs (node h ts) = node (fill vs h) (fill_formals vs rs ts)

  pub fill_formals : Values → Values → Trees → Trees
  fill_formals vs rs none = none
  fill_formals vs rs (more t ts) = more (fill_formal vs rs t) (fill_formals vs rs ts)

  pub fill_formal : Values → Values → Tree → Tree
  fill_formal vs rs (symbol x) = filled_symbol x (rs x)
  fill_formal vs rs (node h (more x (more v none))) = node (fill vs h) (more (parameter rs x) (more (fill vs v) none))
  fill_formal vs rs t = t

-- ---- the calls

-- what stands for a bound run: the element of a run of one, a Sequence for another
abbrev pub run_tree : List Tree → Tree
run_tree (t ∷ []) = t
run_tree ts = sequence_of ts

-- the runs that names are bound to
abbrev pub Runs : Type 0
Runs = Name → Option (List Tree)

abbrev pub binding : Runs → Values
binding rs x = option_map run_tree (rs x)

abbrev pub fill_binding : Tree → Runs → Tree
fill_binding body rs = fill (binding rs) body

-- of equal names the first counts
abbrev pub given : List Name → List Tree → Values
given [] ts x = None
given (y ∷ ys) [] x = None
given (y ∷ ys) (t ∷ ts) x = elim (bytes_eq x y) [ true ↦ Some t | false ↦ given ys ts x ]

abbrev pub replace : Tree → List Name → List Tree → Tree
replace body xs ts = fill (given xs ts) body

-- the name of a local variable of the n-th Module
abbrev pub numbered : ℕ → Name → Name
numbered n x = x ++ (codes "$" ++ decimal n)

abbrev pub numbered_names : List Name → ℕ → Values
numbered_names xs n x = elim (is_name_among x xs) [ true ↦ Some (symbol (numbered n x)) | false ↦ None ]

abbrev pub rename : Tree → List Name → ℕ → Tree
rename body xs n = fill (numbered_names xs n) body
