-- Matching and replacement. Reference pages of these; which parts are looked at, and in which order, is this project's own.
use Rattle.std.specs.Prelude.{ℕ, zero, suc, ◌+◌, ◌^◌, Bool, true, false, ◌||◌, not, List, [], ◌∷◌, ◌++◌, Option, Some, None, unwrap_or, codes}
use Rattle.wl_expr.specs.Tree.{Tree, Trees, num, text, symbol, node, none, more, to_list}
use Rattle.wl_expr.specs.Same.{same}
use Rattle.wl_expr.specs.Words.{applied, is_the, is_list, elements, list_of, truth, natural}
use Rattle.wl_rules.specs.Entries.{PlainRule}
use Rattle.wl_semantics.specs.State.{BudgetEnded}
use Rattle.wl_semantics.specs.Prog.{Prog, done, stop, ◌>>=◌, value_of_built, tick, unchanged, result}
use Rattle.wl_semantics.specs.LeftSides.{Sides, moved_condition}
use Rattle.wl_semantics.specs.Match.{matches, rule_result, trial}

-- ---- which elements match

-- up to the first that matches
unfoldable pub any_matches : Tree → List Tree → Prog Bool
any_matches p [] = done false
any_matches p (t ∷ ts) = do
  b ← matches p t
  elim b [ true ↦ done true | false ↦ any_matches p ts ]

-- those that match, and those that don't, behind those that are found
abbrev pub kept : Bool → List Tree → Tree → List Tree
kept true ts t = ts ++ t ∷ []
kept false ts t = ts

unfoldable pub matching : List Tree → Tree → List Tree → Prog (List Tree)
matching found p [] = done found
matching found p (t ∷ ts) = do
  b ← matches p t
  matching (kept b found t) p ts

unfoldable pub unmatched : List Tree → Tree → List Tree → Prog (List Tree)
unmatched found p [] = done found
unmatched found p (t ∷ ts) = do
  b ← matches p t
  unmatched (kept (not b) found t) p ts

unfoldable pub count_matching : ℕ → Tree → List Tree → Prog ℕ
count_matching n p [] = done n
count_matching n p (t ∷ ts) = do
  b ← matches p t
  count_matching (elim b [ true ↦ n + 1 | false ↦ n ]) p ts

-- `MatchQ[e, p]`
abbrev pub match_row : List Tree → Prog (Option Tree)
match_row (e ∷ p ∷ []) = do
  b ← matches p e
  result (truth b)
match_row es = unchanged

-- `MemberQ[e, p]`: whether an element matches
abbrev pub member_row : List Tree → Prog (Option Tree)
member_row (e ∷ p ∷ []) = do
  b ← any_matches p (elements e)
  result (truth b)
member_row es = unchanged

-- `Count[e, p]`
abbrev pub count_row : List Tree → Prog (Option Tree)
count_row (e ∷ p ∷ []) = do
  n ← count_matching 0 p (elements e)
  result (natural n)
count_row es = unchanged

-- all parts, each before its own parts, and its head before its elements
abbrev mutual
  pub parts : Tree → List Tree
  parts (num n) = num n ∷ []
  parts (text s) = text s ∷ []
  parts (symbol x) = symbol x ∷ []
  parts (node h ts) = node h ts ∷ (parts h ++ parts_in ts)

  pub parts_in : Trees → List Tree
  parts_in none = []
  parts_in (more t ts) = parts t ++ parts_in ts

-- `FreeQ[e, p]`
abbrev pub free_row : List Tree → Prog (Option Tree)
free_row (e ∷ p ∷ []) = do
  b ← any_matches p (parts e)
  result (truth (not b))
free_row es = unchanged

-- `DeleteCases[e, p]`; an atom stays
abbrev pub delete_cases_row : List Tree → Prog (Option Tree)
delete_cases_row (node h ts ∷ p ∷ []) = do
  us ← unmatched [] p (to_list ts)
  result (applied h us)
delete_cases_row (e ∷ p ∷ []) = result e
delete_cases_row es = unchanged

-- ---- rules

abbrev pub rule_from : Sides → PlainRule
rule_from s = record { left = s.left; body = s.body }

-- `l -> r` or `l :> r`; a condition of r becomes one of l
abbrev pub rule_of : Tree → Option PlainRule
rule_of (node h (more l (more r none))) = elim (is_the (codes "Rule") h || is_the (codes "RuleDelayed") h) [ true ↦ Some (rule_from (moved_condition l r)) | false ↦ None ]
rule_of t = None

abbrev pub with_rule : Option PlainRule → Option (List PlainRule) → Option (List PlainRule)
with_rule (Some r) (Some rs) = Some (r ∷ rs)
with_rule _ _ = None

abbrev pub rules_of : List Tree → Option (List PlainRule)
rules_of [] = Some []
rules_of (t ∷ ts) = with_rule (rule_of t) (rules_of ts)

-- a rule, or a list of rules
abbrev pub rules_in : Tree → Option (List PlainRule)
rules_in t = elim (is_list t) [ true ↦ rules_of (elements t) | false ↦ rules_of (t ∷ []) ]

-- ---- `Cases[e, p]`, `Cases[e, p :> r]`

unfoldable pub cases_by : List Tree → PlainRule → List Tree → Prog (List Tree)
cases_by found r [] = done found
cases_by found r (t ∷ ts) = do
  u ← rule_result r t
  cases_by (elim u [ None ↦ found | Some v ↦ found ++ v ∷ [] ]) r ts

-- only `p :> r` is a rule there; `p -> r` is a pattern, which matches rules
abbrev pub delayed_rule : Tree → Option PlainRule
delayed_rule (node h (more l (more r none))) = elim (is_the (codes "RuleDelayed") h) [ true ↦ Some (rule_from (moved_condition l r)) | false ↦ None ]
delayed_rule t = None

abbrev pub cases_in : List Tree → Tree → Option PlainRule → Prog (List Tree)
cases_in ts p None = matching [] p ts
cases_in ts p (Some r) = cases_by [] r ts

abbrev pub cases_row : List Tree → Prog (Option Tree)
cases_row (e ∷ p ∷ []) = do
  ts ← cases_in (elements e) p (delayed_rule p)
  result (list_of ts)
cases_row es = unchanged

-- ---- replacement

-- `Replace[e, rules]` tries e as a whole, and gives e where no rule matches
abbrev pub replace_by : Tree → Option (List PlainRule) → Prog (Option Tree)
replace_by e None = unchanged
replace_by e (Some rs) = do
  u ← trial rs e
  result (unwrap_or u e)

abbrev pub replace_row : List Tree → Prog (Option Tree)
replace_row (e ∷ r ∷ []) = replace_by e (rules_in r)
replace_row es = unchanged

-- what stands for a part isn't searched again
abbrev pub unless_replaced : Option Tree → Prog Tree → Prog Tree
unless_replaced (Some u) p = done u
unless_replaced None p = p

-- each part before its own parts, and its head before its elements
unfoldable mutual
  pub replace_all : List PlainRule → Tree → Prog Tree
  replace_all rs (num n) = trial rs (num n) >>= λ u. done (unwrap_or u (num n))
  replace_all rs (text s) = trial rs (text s) >>= λ u. done (unwrap_or u (text s))
  replace_all rs (symbol x) = trial rs (symbol x) >>= λ u. done (unwrap_or u (symbol x))
  replace_all rs (node h ts) =
      trial rs (node h ts) >>= λ u. unless_replaced u (replace_all rs h >>= λ k. replace_each rs ts >>= λ us. done (node k us))

  pub replace_each : List PlainRule → Trees → Prog Trees
  replace_each rs none = done none
  replace_each rs (more t ts) = replace_all rs t >>= λ u. replace_each rs ts >>= λ us. done (more u us)

abbrev pub replace_all_by : Tree → Option (List PlainRule) → Prog (Option Tree)
replace_all_by e None = unchanged
replace_all_by e (Some rs) = do
  u ← replace_all rs e
  result u

-- `ReplaceAll[e, rules]`
abbrev pub replace_all_row : List Tree → Prog (Option Tree)
replace_all_row (e ∷ r ∷ []) = replace_all_by e (rules_in r)
replace_all_row es = unchanged

-- Replaces in all parts and evaluates, again and again, until that changes nothing. A pass costs a step. The number n is never reached, since there are fewer steps.
unfoldable pub replace_repeated : ℕ → List PlainRule → Tree → Prog (Option Tree)
replace_repeated zero rs e = stop BudgetEnded
replace_repeated (suc n) rs e = do
  _ ← tick
  u ← replace_all rs e
  v ← value_of_built u
  elim (same v e) [ true ↦ result e | false ↦ replace_repeated n rs v ]

abbrev pub replace_repeated_by : Tree → Option (List PlainRule) → Prog (Option Tree)
replace_repeated_by e None = unchanged
replace_repeated_by e (Some rs) = replace_repeated (2 ^ 64) rs e

-- `ReplaceRepeated[e, rules]`
abbrev pub replace_repeated_row : List Tree → Prog (Option Tree)
replace_repeated_row (e ∷ r ∷ []) = replace_repeated_by e (rules_in r)
replace_repeated_row es = unchanged
