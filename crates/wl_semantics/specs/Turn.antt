-- A turn of a symbol and of a node. Tutorials on the evaluation of expressions and on the standard evaluation procedure; when a turn is the last one is this project's own.
use Rattle.std.specs.Prelude.{Bool, true, false, List, [], ◌∷◌, Option, Some, None, filter_map, codes}
use Rattle.wl_expr.specs.Tree.{Tree, num, text, symbol, node, to_list}
use Rattle.wl_expr.specs.Same.{same, first_names}
use Rattle.wl_expr.specs.Words.{Name, applied, head_name, elements, leftmost}
use Rattle.wl_rules.specs.Attributes.{AttributeSet}
use Rattle.wl_rules.specs.Entries.{of_kind}
use Rattle.wl_rules.specs.declared.rule.RuleKind.{RuleKind}
use Rattle.wl_rules.specs.declared.rule.RuleKind.TheVariants.{Own, Down, Up, Sub}
use Rattle.wl_shape.specs.Shape.{Shaped, rebuilt, threaded, uneven, shape}
use Rattle.wl_semantics.specs.State.{Turned, Final, Next}
use Rattle.wl_semantics.specs.Prog.{Prog, done, ◌>>=◌, value_of, entry_of, message, sized, or_else, attributes_of}
use Rattle.wl_semantics.specs.Elements.{evaluated, bared, is_bared}
use Rattle.wl_semantics.specs.Match.{trial}
use Rattle.wl_semantics.specs.BuiltIn.{built_in}

-- the rules of that kind that the symbol has by then
abbrev pub tried : RuleKind → Name → Tree → Prog (Option Tree)
tried k x t = do
  e ← entry_of x
  trial (of_kind k e.rules) t

-- without a rule that applies the turn is the last one, and so it is where the rule gives what was tried
abbrev pub turned : Tree → Tree → Option Tree → Turned
turned form final None = Final final
turned form final (Some u) = elim (same u form) [ true ↦ Final final | false ↦ Next u ]

-- a symbol without a value of its own stays
abbrev pub symbol_turn : Name → Prog Turned
symbol_turn x = do
  r ← tried Own x (symbol x)
  done (turned (symbol x) (symbol x) r)

-- ---- the rules of a node

-- an element has the up rules of the symbol that it is, or that is its head; no symbol is asked twice
abbrev pub up_name : Tree → Option Name
up_name (symbol x) = Some x
up_name t = head_name t

abbrev pub up_names : List Tree → List Name
up_names es = first_names [] (filter_map up_name es)

unfoldable pub up_result : List Name → Tree → Prog (Option Tree)
up_result [] t = done None
up_result (x ∷ xs) t = do
  r ← tried Up x t
  or_else r (up_result xs t)

-- HoldAllComplete keeps up rules away
abbrev pub up_values : AttributeSet → Tree → Prog (Option Tree)
up_values a t = elim a.hold_all_complete [ true ↦ done None | false ↦ up_result (up_names (elements t)) t ]

-- `f[..]` has the down rules of f; `f[..][..]` and `f[..][..][..]` have the sub rules of f
abbrev pub sub_values : Tree → Tree → Prog (Option Tree)
sub_values (symbol x) t = tried Sub x t
sub_values h t = done None

abbrev pub head_values : Tree → Prog (Option Tree)
head_values (node (symbol x) ts) = tried Down x (node (symbol x) ts)
head_values (node h ts) = sub_values (leftmost h) (node h ts)
head_values t = done None

-- up rules come before down and sub rules, and all of these before the built-in function
abbrev pub applied_rule : AttributeSet → Tree → Prog (Option Tree)
applied_rule a t = do
  u ← up_values a t
  or_else u (do
    d ← head_values t
    or_else d (built_in t))

-- ---- a turn of a node

-- a node that stays keeps the Unevaluated of its elements
abbrev pub final_form : Bool → Tree → Tree → Tree
final_form true first form = first
final_form false first form = form

abbrev pub rules_turn : AttributeSet → Tree → Bool → Tree → Prog Turned
rules_turn a first changed form = do
  r ← applied_rule a form
  done (turned form (final_form changed first form) r)

-- no rule is tried on what is threaded over; lists that don't fit together are told, and stay elements
abbrev pub shaped_turn : AttributeSet → Tree → Bool → Shaped → Prog Turned
shaped_turn a first changed (rebuilt form) = rules_turn a first changed form
shaped_turn a first changed (threaded list) = do
  _ ← sized list
  done (Next list)
shaped_turn a first changed (uneven form) = do
  _ ← message (codes "Thread") (codes "tdlen") (form ∷ [])
  rules_turn a first changed form

-- The head, then the elements as its attributes have it, which gives the first form; sequences, threading and sorting give the rebuilt form, on which the rules are tried.
abbrev pub node_turn : Tree → List Tree → Prog Turned
node_turn h es = do
  k ← value_of h
  a ← attributes_of k
  vs ← evaluated a es
  let first = applied k vs
  _ ← sized first
  shaped_turn a first (is_bared a vs) (shape a k (bared a vs))

unfoldable pub turn : Tree → Prog Turned
turn (num n) = done (Final (num n))
turn (text s) = done (Final (text s))
turn (symbol x) = symbol_turn x
turn (node h ts) = node_turn h (to_list ts)
