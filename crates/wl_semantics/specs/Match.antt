-- Matches, trials of rules, and guards. Tutorials on patterns and on conditions; the order of the leaves, that tests run once a leaf has bound all names, and how guards go, are this project's own.
use Rattle.std.specs.Prelude.{ℕ, zero, suc, ◌^◌, Bool, true, false, not, ◌&&◌, ◌||◌, List, [], ◌∷◌, Option, Some, None, is_some, codes, bytes_eq}
use Rattle.wl_expr.specs.Tree.{Tree, symbol, node, none, more}
use Rattle.wl_expr.specs.Words.{Name, applied, elements, is_true}
use Rattle.wl_expr.specs.Special.{condition, special}
use Rattle.wl_match.specs.declared.flags.Flags.{Flags}
use Rattle.wl_match.specs.Pattern.{Ask, applies, holds, refuses, pattern, no_flags}
use Rattle.wl_match.specs.Search.{Trail, bound, noted, run_of, Leaf, Fail, Found}
use Rattle.wl_match.specs.Trials.{Trials}
use Rattle.wl_match.specs.Heads.{heads}
use Rattle.wl_rules.specs.Attributes.{AttributeSet}
use Rattle.wl_rules.specs.Entries.{PlainRule}
use Rattle.wl_shape.specs.Scopes.{Local, values, names, locals}
use Rattle.wl_shape.specs.Fill.{Runs, fill_binding}
use Rattle.wl_semantics.specs.State.{BudgetEnded}
use Rattle.wl_semantics.specs.Prog.{Prog, done, stop, ◌>>=◌, value_of, value_of_built, entry_of, tick, sized, or_else}
use Rattle.wl_semantics.specs.Scoping.{module_body, with_body, in_block}

-- ---- the attributes of the heads in a pattern, read before the first leaf

abbrev pub flags : AttributeSet → Flags
flags a = record { flat = a.flat; orderless = a.orderless; one_identity = a.one_identity }

abbrev pub flags_in : List (Name × Flags) → Name → Flags
flags_in [] x = no_flags
flags_in (p ∷ ps) x = elim (bytes_eq x p.0) [ true ↦ p.1 | false ↦ flags_in ps x ]

unfoldable pub flags_of : List (Name × Flags) → List Name → Prog (Name → Flags)
flags_of met [] = done (flags_in met)
flags_of met (x ∷ xs) = do
  e ← entry_of x
  flags_of ((x, flags e.attributes) ∷ met) xs

-- ---- the walk over the leaves

-- A leaf costs a step. f says what a binding gives, and the first that gives something ends the walk.
unfoldable pub walk : {A : Type 0} → (Trail → Prog (Option A)) → List Leaf → Prog (Option A)
walk f [] = done None
walk f (Fail ∷ ls) = do
  _ ← tick
  walk f ls
walk f (Found e ∷ ls) = do
  _ ← tick
  a ← f e
  or_else a (walk f ls)

-- the runs that a leaf has bound names to
abbrev pub runs : Trail → Runs
runs e x = run_of x e

-- ---- tests

-- `p?t`: `t[e]` is True for one after the other of the expressions that p matched
unfoldable pub each_applies : Tree → List Tree → Prog Bool
each_applies t [] = done true
each_applies t (e ∷ es) = do
  v ← value_of_built (applied t (e ∷ []))
  elim (is_true v) [ true ↦ each_applies t es | false ↦ done false ]

-- `p /; c`: c with the bound names filled in is True. `Except[c]`: c doesn't match, where no name is bound.
unfoldable pub test_holds : (Tree → Tree → Prog Bool) → Runs → Ask → List Tree → Prog Bool
test_holds inner rs (applies t) r = each_applies t r
test_holds inner rs (holds c) r = do
  v ← value_of_built (fill_binding c rs)
  done (is_true v)
test_holds inner rs (refuses c) (e ∷ []) = do
  b ← inner c e
  done (not b)
test_holds inner rs (refuses c) r = done false

-- the tests as they stand in the pattern, each with all names bound; one that fails is the last
unfoldable pub tests_hold : (Tree → Tree → Prog Bool) → Runs → Trail → Prog Bool
tests_hold inner rs [] = done true
tests_hold inner rs (bound x r ∷ es) = tests_hold inner rs es
tests_hold inner rs (noted a r ∷ es) = do
  b ← test_holds inner rs a r
  elim b [ true ↦ tests_hold inner rs es | false ↦ done false ]

-- ---- a match without a body

abbrev pub holding : (Tree → Tree → Prog Bool) → Trail → Prog (Option Trail)
holding inner e = do
  b ← tests_hold inner (runs e) e
  elim b [ true ↦ done (Some e) | false ↦ done None ]

-- whether p matches t, with at most n matches one inside the other; each has taken a step before the next
unfoldable pub matches_within : ℕ → Tree → Tree → Prog Bool
matches_within zero p t = stop BudgetEnded
matches_within (suc n) p t = do
  f ← flags_of [] (heads p)
  r ← walk (holding (λ q u. matches_within n q u)) (Trials (pattern f p) t)
  done (is_some r)

abbrev pub matches : Tree → Tree → Prog Bool
matches p t = matches_within (2 ^ 64) p t

-- ---- guards

-- the local names of `Module[v, b]`, `With[v, b]` or `Block[v, b]`, where v is such a list
pub data Scope : Type 0 where
  of_module : List Local → Tree → Scope
  of_with : List Local → Tree → Scope
  of_block : List Local → Tree → Scope
  no_scope : Scope

abbrev pub with_locals : (List Local → Tree → Scope) → Option (List Local) → Tree → Scope
with_locals f None b = no_scope
with_locals f (Some ls) b = f ls b

abbrev pub scope_named : Name → Tree → Tree → Scope
scope_named x v b =
    elim (bytes_eq x (codes "Module")) [
      | true ↦ with_locals of_module (locals names v) b
      | false ↦ elim (bytes_eq x (codes "With")) [
        | true ↦ with_locals of_with (locals values v) b
        | false ↦ elim (bytes_eq x (codes "Block")) [ true ↦ with_locals of_block (locals names v) b | false ↦ no_scope ]
      ]
    ]

abbrev pub scope : Tree → Scope
scope (node (symbol x) (more v (more b none))) = scope_named x v b
scope t = no_scope

abbrev pub is_scope : Scope → Bool
is_scope no_scope = false
is_scope _ = true

abbrev pub is_condition : Tree → Bool
is_condition t = elim (special t) [ condition ↦ true | _ ↦ false ]

-- a scope around a condition, or around another such scope
abbrev pub is_guarded : Tree → Bool
is_guarded (node (symbol x) (more v (more b none))) = is_scope (scope_named x v b) && (is_condition b || is_guarded b)
is_guarded t = false

-- `r /; c` gives r if c is True, and else nothing
abbrev pub condition_result : List Tree → Prog (Option Tree)
condition_result (r ∷ c ∷ []) = do
  v ← value_of c
  elim (is_true v) [ true ↦ done (Some r) | false ↦ done None ]
condition_result ts = done None

-- what is inside a Block gives its value, while the rules are still set aside
abbrev pub value_inside : Option Tree → Prog (Option Tree)
value_inside None = done None
value_inside (Some r) = do
  v ← value_of r
  done (Some v)

-- the guard of a scope, by that of its body
abbrev pub guard_by : (Tree → Prog (Option Tree)) → Scope → Tree → Prog (Option Tree)
guard_by inner (of_module ls b) g = do
  u ← module_body true ls b
  inner u
guard_by inner (of_with ls b) g = do
  u ← with_body ls b
  _ ← sized u
  inner u
guard_by inner (of_block ls b) g = in_block ls (do r ← inner b; value_inside r)
guard_by inner no_scope g = done (Some g)

-- What a guard gives, if anything. A body that is no guard any more, since values came into it, is given as it is. The number n is never reached: from one guard to the next a step is taken, or the tree is less deep.
unfoldable pub guard_within : ℕ → Tree → Prog (Option Tree)
guard_within zero g = stop BudgetEnded
guard_within (suc n) g =
    elim (is_condition g) [
      | true ↦ condition_result (elements g)
      | false ↦ elim (is_guarded g) [ true ↦ guard_by (λ u. guard_within n u) (scope g) g | false ↦ done (Some g) ]
    ]

abbrev pub guard : Tree → Prog (Option Tree)
guard g = guard_within (2 ^ 80) g

-- ---- a match with a body, and trials

-- what a binding gives: nothing if a test fails, else the body filled, or what its guard gives
abbrev pub filling : Tree → Trail → Prog (Option Tree)
filling body e = do
  b ← tests_hold (λ p t. matches p t) (runs e) e
  elim b [
    | false ↦ done None
    | true ↦ do
      let u = fill_binding body (runs e)
      _ ← sized u
      elim (is_guarded body && is_guarded u) [ true ↦ guard u | false ↦ done (Some u) ]
  ]

abbrev pub rule_result : PlainRule → Tree → Prog (Option Tree)
rule_result r t = do
  f ← flags_of [] (heads r.left)
  walk (filling r.body) (Trials (pattern f r.left) t)

-- the rules as they stand; the first that gives something is used, and those that are put in meanwhile aren't tried
unfoldable pub trial : List PlainRule → Tree → Prog (Option Tree)
trial [] t = done None
trial (r ∷ rs) t = do
  u ← rule_result r t
  or_else u (trial rs t)
