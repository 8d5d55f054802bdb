-- Module, With and Block, up to their bodies. Tutorial on modularity; what Block leaves untouched and its message for a Protected name are this project's own.
use Rattle.std.specs.Prelude.{ℕ, Bool, true, false, ◌&&◌, not, List, [], ◌∷◌, ◌++◌, map, filter_map, reverse, Some, None, option_map, unwrap_or, codes}
use Rattle.wl_expr.specs.Tree.{Tree, symbol}
use Rattle.wl_expr.specs.Words.{Name, null_symbol}
use Rattle.wl_semantics.specs.LeftSides.{is_limit, limit_allows}
use Rattle.wl_rules.specs.Entries.{PlainRule, Rules, no_rules}
use Rattle.wl_rules.specs.declared.rule.RuleKind.TheVariants.{Own}
use Rattle.wl_shape.specs.Scopes.{Local}
use Rattle.wl_shape.specs.Fill.{replace, rename, numbered}
use Rattle.wl_semantics.specs.Prog.{Prog, done, put_rule, take_rules, give_rules, draw, Answer, nothing, rules, number, found, ◌>>=◌, ended, now, value_of, doing, asking, message, sized, is_protected}

-- The symbol gets this value. A condition in it stays where it is, other than in a definition.
abbrev pub set_own : Name → Tree → Prog (Unit {0})
set_own x v = doing (put_rule x Own (record { left = symbol x; body = v }))

-- ---- initial values, from left to right

abbrev pub initial : Local → Prog Local
initial l = elim l.value [
  | None ↦ done l
  | Some t ↦ do
    v ← value_of t
    done (record l { value = Some v })
]

unfoldable pub initials : List Local → List Local → Prog (List Local)
initials vs [] = done vs
initials vs (l ∷ ls) = do
  v ← initial l
  initials (vs ++ v ∷ []) ls

abbrev pub names_of : List Local → List Name
names_of ls = map (λ l. l.name) ls

abbrev pub values_of : List Local → List Tree
values_of ls = filter_map (λ l. l.value) ls

-- ---- Module

-- a module number, from 1 up
abbrev pub number_in : Answer → ℕ
number_in (number n) = n
number_in nothing = 0
number_in (rules r) = 0
number_in (found t) = 0

-- a variable of this Module gets its value, unless its name is Protected
abbrev pub set_numbered : Name → Tree → Prog (Unit {0})
set_numbered x v = do
  p ← is_protected x
  elim p [ true ↦ message (codes "Set") (codes "wrsym") (symbol x ∷ []) | false ↦ set_own x v ]

abbrev pub set_local : ℕ → Local → Prog (Unit {0})
set_local n l = elim l.value [ None ↦ done tt | Some v ↦ set_numbered (numbered n l.name) v ]

unfoldable pub set_locals : ℕ → List Local → Prog (Unit {0})
set_locals n [] = done tt
set_locals n (l ∷ ls) = do
  _ ← set_local n l
  set_locals n ls

abbrev pub sized_if : Bool → Tree → Prog (Unit {0})
sized_if true t = sized t
sized_if false t = done tt

-- The initial values come first, then a number n that wasn't drawn before. In the body each name x is `x$n`, and these get the values. Of a guard the size of this body is tested before that.
abbrev pub module_body : Bool → List Local → Tree → Prog Tree
module_body guards ls b = do
  vs ← initials [] ls
  a ← asking draw
  let n = number_in a
  let renamed = rename b (names_of vs) n
  _ ← sized_if guards renamed
  _ ← set_locals n vs
  done renamed

-- ---- With

-- the initial values, and the body with these in place of the names
abbrev pub with_body : List Local → Tree → Prog Tree
with_body ls b = do
  vs ← initials [] ls
  done (replace b (names_of vs) (values_of vs))

-- ---- Block

-- whether Block takes a name: not a Protected one, and one of the two limits only with a value that is allowed; a message tells why not
abbrev pub may_block : Local → Prog Bool
may_block l = do
  p ← is_protected l.name
  elim p [
    | true ↦ do
      _ ← message (codes "Set") (codes "wrsym") (symbol l.name ∷ [])
      done false
    | false ↦ elim (is_limit l.name && not (unwrap_or (option_map (limit_allows l.name) l.value) false)) [
      | true ↦ do
        _ ← message l.name (codes "limset") (symbol l.name ∷ unwrap_or l.value null_symbol ∷ [])
        done false
      | false ↦ done true
    ]
  ]

unfoldable pub blocked : List Local → List Local → Prog (List Local)
blocked os [] = done os
blocked os (l ∷ ls) = do
  b ← may_block l
  elim b [ true ↦ blocked (os ++ l ∷ []) ls | false ↦ blocked os ls ]

-- the rules that were taken out of an entry for a time
pub record Taken : Type 0 where
  pub name : Name
  pub rules : Rules PlainRule

abbrev pub rules_in : Answer → Rules PlainRule
rules_in (rules r) = r
rules_in nothing = no_rules
rules_in (number n) = no_rules
rules_in (found t) = no_rules

abbrev pub take_out : Name → Prog Taken
take_out x = do
  a ← asking (take_rules x)
  done (record { name = x; rules = rules_in a })

unfoldable pub take_all : List Taken → List Local → Prog (List Taken)
take_all ts [] = done ts
take_all ts (l ∷ ls) = do
  t ← take_out l.name
  take_all (ts ++ t ∷ []) ls

abbrev pub set_given : Local → Prog (Unit {0})
set_given l = elim l.value [ None ↦ done tt | Some v ↦ set_own l.name v ]

unfoldable pub set_all : List Local → Prog (Unit {0})
set_all [] = done tt
set_all (l ∷ ls) = do
  _ ← set_given l
  set_all ls

abbrev pub give_back : Taken → Prog (Unit {0})
give_back t = doing (give_rules t.name t.rules)

unfoldable pub give_all : List Taken → Prog (Unit {0})
give_all [] = done tt
give_all (t ∷ ts) = do
  _ ← give_back t
  give_all ts

-- First all initial values, then a look at each name; then the rules are set aside and the values set. After what is inside, whatever its end, the rules come back, those that were taken last first.
abbrev pub in_block : {R : Type 0} → List Local → Prog R → Prog R
in_block ls inside = do
  vs ← initials [] ls
  os ← blocked [] vs
  ts ← take_all [] os
  _ ← set_all os
  r ← ended inside
  _ ← give_all (reverse ts)
  now r
