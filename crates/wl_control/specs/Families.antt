-- Functions over elements, and functions that are repeated: Select, Scan, Fold, FoldList, Nest, NestList, FixedPoint. Each pass takes a step. The rules are those of the manual's pages on these.
use Rattle.std.specs.Prelude.{ℕ, zero, suc, List, [], ◌∷◌, ◌++◌, Option, Some, None, if◌then◌else◌}
use Rattle.wl_expr.specs.Same.{same}
use Rattle.wl_expr.specs.Tree.{Tree, node, to_list}
use Rattle.wl_expr.specs.Words.{applied, null_symbol, is_true, head_of, list_of, count_of}
use Rattle.wl_control.specs.Asks.{Asks, gives, stays, eval, pass, endless}
use Rattle.wl_control.specs.Collected.{collected}

-- the elements of a node
abbrev pub elements_of : Tree → Option (List Tree)
elements_of (node h ts) = Some (to_list ts)
elements_of t = None

abbrev pub over : Option (List Tree) → (List Tree → Asks) → Asks
over None k = stays
over (Some ts) k = k ts

-- `Select[e, t]`: the elements x for which `t[x]` evaluates to True, under the head of e
abbrev pub select_from : Tree → Tree → List Tree → List Tree → Asks
select_from h t left [] = gives (applied h left)
select_from h t left (x ∷ xs) = pass (λ _. eval (applied t (x ∷ [])) (λ v. if is_true v then select_from h t (left ++ x ∷ []) xs else select_from h t left xs))

abbrev pub select_row : List Tree → Asks
select_row (e ∷ t ∷ []) = over (elements_of e) (select_from (head_of e) t [])
select_row es = stays

-- `Scan[f, e]`: each `f[x]` evaluated, Null
abbrev pub scan_from : Tree → List Tree → Asks
scan_from f [] = gives null_symbol
scan_from f (x ∷ xs) = pass (λ _. eval (applied f (x ∷ [])) (λ v. scan_from f xs))

abbrev pub scan_row : List Tree → Asks
scan_row (f ∷ e ∷ []) = over (elements_of e) (scan_from f)
scan_row es = stays

-- `Fold[f, x, l]`: each value evaluated in turn
abbrev pub fold_from : Tree → Tree → List Tree → Asks
fold_from f v [] = gives v
fold_from f v (x ∷ xs) = pass (λ _. eval (applied f (v ∷ x ∷ [])) (λ w. fold_from f w xs))

abbrev pub fold_row : List Tree → Asks
fold_row (f ∷ x ∷ e ∷ []) = over (elements_of e) (fold_from f x)
fold_row es = stays

-- `FoldList[f, x, l]`: the list of the values, x first
abbrev pub fold_list_from : Tree → List Tree → Tree → List Tree → Asks
fold_list_from f found v [] = gives (list_of found)
fold_list_from f found v (x ∷ xs) = pass (λ _. eval (applied f (v ∷ x ∷ [])) (λ w. collected (found ++ w ∷ []) (λ more. fold_list_from f more w xs)))

abbrev pub fold_list_row : List Tree → Asks
fold_list_row (f ∷ x ∷ e ∷ []) = over (elements_of e) (fold_list_from f (x ∷ []) x)
fold_list_row es = stays

-- `Nest[f, x, n]`, n from 0 up
unfoldable pub nest_from : Tree → Tree → ℕ → Asks
nest_from f v zero = gives v
nest_from f v (suc n) = pass (λ _. eval (applied f (v ∷ [])) (λ w. nest_from f w n))

abbrev pub times : Option ℕ → (ℕ → Asks) → Asks
times None k = stays
times (Some n) k = k n

abbrev pub nest_row : List Tree → Asks
nest_row (f ∷ x ∷ n ∷ []) = times (count_of n) (nest_from f x)
nest_row es = stays

-- `NestList[f, x, n]`: the list of the values, x first
unfoldable pub nest_list_from : Tree → List Tree → Tree → ℕ → Asks
nest_list_from f found v zero = gives (list_of found)
nest_list_from f found v (suc n) = pass (λ _. eval (applied f (v ∷ [])) (λ w. collected (found ++ w ∷ []) (λ more. nest_list_from f more w n)))

abbrev pub nest_list_row : List Tree → Asks
nest_list_row (f ∷ x ∷ n ∷ []) = times (count_of n) (nest_list_from f (x ∷ []) x)
nest_list_row es = stays

-- `FixedPoint[f, x]`: until a value is identical to the one before
unfoldable pub fixed_point_from : ℕ → Tree → Tree → Asks
fixed_point_from zero f v = stays
fixed_point_from (suc n) f v = pass (λ _. eval (applied f (v ∷ [])) (λ w. if same w v then gives v else fixed_point_from n f w))

abbrev pub fixed_point_row : List Tree → Asks
fixed_point_row (f ∷ x ∷ []) = fixed_point_from endless f x
fixed_point_row es = stays
