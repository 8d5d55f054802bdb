-- What the functions of matches and trials say: a search from binding to binding, and what is lent to tests and bodies.
use Rattle.std.specs.Prelude.{ℕ, Bool, true, false, not, List, [], ◌∷◌, Option, Some, None, is_some, ⊤}
use Rattle.wl_expr.specs.Tree.{Tree, symbol, node, none, more}
use Rattle.wl_expr.specs.Words.{is_true}
use Rattle.wl_match.specs.declared.machine.Machine.{Machine}
use Rattle.wl_match.specs.declared.part.Part.{Part}
use Rattle.wl_match.specs.declared.view.View.{View}
use Rattle.wl_match.specs.Left.{left, binding}
use Rattle.wl_match.specs.Parts.{kept}
use Rattle.wl_match.specs.Search.{Trail, Leaf, Fail, Found}
use Rattle.wl_match.specs.Shown.{pattern_in, subject_in}
use Rattle.wl_shape.specs.Scopes.{Needs, values, names}
use Rattle.wl_semantics.specs.Prog.{Prog, done, ◌>>=◌, tick, value_of_built}
use Rattle.wl_semantics.specs.Match.{walk, holding, matches_within, tests_hold, runs, scope_named, is_scope}
use Rattle.wl_state.specs.Played.{Seen, Honest, AllHonest}
use Rattle.wl_state.specs.declared.evaluator.Evaluator.{Evaluator}

-- ---- from binding to binding

-- the leaves up to the next binding, each with its step: the binding, and the leaves behind it
unfoldable pub next_found : List Leaf → Prog (Option (Trail × List Leaf))
next_found [] = done None
next_found (Fail ∷ ls) = do
  _ ← tick
  next_found ls
next_found (Found e ∷ ls) = do
  _ ← tick
  done (Some (e, ls))

-- the binding that a search has come to, and what it still has
abbrev pub found_by : List Part → Tree → Machine → Bool → Option (Trail × List Leaf)
found_by ss t m true = Some (binding ss t m, left ss t m)
found_by ss t m false = None

abbrev pub next_binding : List Part → Tree → Machine → Seen Bool (Option (Trail × List Leaf))
next_binding ss t m = record { view = found_by ss t m; good = λ k b. ⊤ }

-- ---- tests

-- whether the value of a tree that was built is True
abbrev pub true_of_built : Tree → Prog Bool
true_of_built t = do
  v ← value_of_built t
  done (is_true v)

-- the tests of a binding, each match in them with at most n inside
abbrev pub tests_within : ℕ → Trail → Prog Bool
tests_within n e = tests_hold (λ p t. matches_within n p t) (runs e) e

-- whether the tests of a binding among these leaves hold
unfoldable pub passes_within : ℕ → List Leaf → Prog Bool
passes_within n ls = do
  r ← walk (holding (λ p t. matches_within n p t)) ls
  done (is_some r)

-- pattern and subject of a view are honest
abbrev pub HonestView : Evaluator → View → Type 0
HonestView k v = Honest k (subject_in v) × AllHonest k (kept (pattern_in v))

-- whether a pattern doesn't match the one expression that there is
abbrev pub refuses_within : ℕ → Tree → List Tree → Prog Bool
refuses_within n p (t ∷ []) = do
  b ← matches_within n p t
  done (not b)
refuses_within n p ts = done false

-- ---- guards

-- the body of a scope
abbrev pub body_of_two : Bool → Tree → Option Tree
body_of_two true b = Some b
body_of_two false b = None

abbrev pub scope_body : Tree → Option Tree
scope_body (node (symbol x) (more v (more b none))) = body_of_two (is_scope (scope_named x v b)) b
scope_body t = None

-- With needs values
abbrev pub needs_values : Bool → Needs
needs_values true = values
needs_values false = names
