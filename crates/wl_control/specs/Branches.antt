-- Branches: If, Which, Switch, And, Or, CompoundExpression. The rules are those of the manual's pages on these.
use Rattle.std.specs.Prelude.{Bool, true, false, List, [], ◌∷◌, ◌++◌, codes, if◌then◌else◌}
use Rattle.wl_expr.specs.Tree.{Tree, symbol}
use Rattle.wl_expr.specs.Words.{Name, is_the, null_symbol}
use Rattle.wl_control.specs.Asks.{Asks, gives, stays, eval, matches, by_truth, alone_or}

-- `If[c, a]`, `If[c, a, b]`, `If[c, a, b, d]`: a for True; b or Null for False; d for another c
abbrev pub if_row : List Tree → Asks
if_row (c ∷ a ∷ []) = by_truth c (gives a) (gives null_symbol) stays
if_row (c ∷ a ∷ b ∷ []) = by_truth c (gives a) (gives b) stays
if_row (c ∷ a ∷ b ∷ d ∷ []) = by_truth c (gives a) (gives b) (gives d)
if_row es = stays

-- `Which[c, v, c, v]`: conditions evaluated in turn; False goes on, True gives its v, another value leaves all unchanged; none gives Null
abbrev pub which_from : List Tree → Asks
which_from [] = gives null_symbol
which_from (c ∷ []) = stays
which_from (c ∷ v ∷ es) = eval c (λ u. by_truth u (gives v) (which_from es) stays)

-- whether they are pairs
abbrev pub are_pairs : List Tree → Bool
are_pairs [] = true
are_pairs (c ∷ []) = false
are_pairs (c ∷ v ∷ es) = are_pairs es

abbrev pub which_row : List Tree → Asks
which_row [] = stays
which_row (c ∷ es) = if are_pairs (c ∷ es) then which_from (c ∷ es) else stays

-- `Switch[e, p, v, p, v]`: patterns evaluated and matched in turn; the first match gives its v
abbrev pub switch_from : Tree → List Tree → Asks
switch_from e [] = stays
switch_from e (p ∷ []) = stays
switch_from e (p ∷ v ∷ es) = eval p (λ q. matches e q (λ b. if b then gives v else switch_from e es))

abbrev pub switch_row : List Tree → Asks
switch_row [] = stays
switch_row (e ∷ []) = stays
switch_row (e ∷ p ∷ es) = if are_pairs (p ∷ es) then switch_from e (p ∷ es) else stays

-- And, Or: elements evaluated in turn up to the first False (True), which is the result; True (False) vanishes; the rest stay, one alone as itself
abbrev pub left_over : Name → Name → List Tree → Tree
left_over h skip [] = symbol skip
left_over h skip (e ∷ es) = alone_or h (e ∷ es)

-- what the value of an element leads to, as it ends the row, vanishes or is left
abbrev pub joined : Name → Name → List Tree → Tree → (List Tree → Asks) → Asks
joined end skip left v again = if is_the end v then gives (symbol end) else if is_the skip v then again left else again (left ++ v ∷ [])

abbrev pub junction : Name → Name → Name → List Tree → List Tree → Asks
junction h end skip left [] = gives (left_over h skip left)
junction h end skip left (e ∷ es) = eval e (λ v. joined end skip left v (λ more. junction h end skip more es))

abbrev pub conjunction : List Tree → List Tree → Asks
conjunction left es = junction (codes "And") (codes "False") (codes "True") left es

abbrev pub disjunction : List Tree → List Tree → Asks
disjunction left es = junction (codes "Or") (codes "True") (codes "False") left es

abbrev pub and_row : List Tree → Asks
and_row es = conjunction [] es

abbrev pub or_row : List Tree → Asks
or_row es = disjunction [] es

-- CompoundExpression: all but the last evaluated in turn; the result is the last
abbrev pub compound_row : List Tree → Asks
compound_row [] = stays
compound_row (e ∷ []) = gives e
compound_row (e ∷ f ∷ es) = eval e (λ v. compound_row (f ∷ es))
