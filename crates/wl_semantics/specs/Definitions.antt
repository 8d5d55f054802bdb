-- Definitions: Set and its relatives. Tutorials on definitions and on evaluation in assignments; which message comes for which left side is this project's own.
use Rattle.std.specs.Prelude.{negsuc, Bool, true, false, ◌&&◌, ◌||◌, not, nat_eq, List, [], ◌∷◌, length, Option, codes, bytes_eq}
use Rattle.wl_expr.specs.Tree.{Tree, Trees, num, text, symbol, node, none, more, to_list}
use Rattle.wl_expr.specs.Same.{same, is_name_among}
use Rattle.wl_expr.specs.Words.{Name, Bytes, form, applied, is_the, is_list, elements, leftmost, null_symbol, failed_symbol, natural, whole}
use Rattle.wl_rules.specs.Entries.{left_side, of_kind}
use Rattle.wl_rules.specs.RuleLists.{has_left}
use Rattle.wl_rules.specs.declared.rule.RuleKind.{RuleKind}
use Rattle.wl_rules.specs.declared.rule.RuleKind.TheVariants.{Own, Down, Up, Sub}
use Rattle.wl_assign.specs.Core.{core, is_held}
use Rattle.wl_assign.specs.Tags.{tags}
use Rattle.wl_assign.specs.Targets.{Target, own, down, sub, raw, target}
use Rattle.wl_shape.specs.Shape.{without_sequences}
use Rattle.wl_semantics.specs.Prog.{Prog, done, put_rule, remove_rule, put_message, ◌>>=◌, value_of, value_of_built, entry_of, doing, message, sized, attributes_of, is_protected, unchanged, result}
use Rattle.wl_semantics.specs.Elements.{evaluated}
use Rattle.wl_semantics.specs.LeftSides.{with_core, moved_condition, is_limit, limit_allows}

-- ---- the left side

-- The elements of a core are evaluated, but not the core: held ones stay, sequences are opened. A head that is a node comes first and is treated alike.
unfoldable pub evaluated_core : Tree → Prog Tree
evaluated_core (node h ts) = do
  k ← evaluated_core h
  a ← attributes_of k
  es ← evaluated a (to_list ts)
  done (applied k (without_sequences a es))
evaluated_core t = done t

abbrev pub core_of : Tree → Prog Tree
core_of l = elim (is_held l) [ true ↦ done (core l) | false ↦ evaluated_core (core l) ]

-- a left side as its rule keeps it, and its core
pub record LeftSide : Type 0 where
  pub left : Tree
  pub core : Tree

abbrev pub prepared : Tree → Prog LeftSide
prepared l = do
  c ← core_of l
  let left = with_core l c
  _ ← sized left
  done (record { left = left; core = c })

-- ---- refusals

-- why a Protected symbol gets no rule
abbrev pub write_message : RuleKind → Name → Tree → Prog (Unit {0})
write_message Own x c = message (codes "Set") (codes "wrsym") (symbol x ∷ [])
write_message Down x c = message (codes "Set") (codes "write") (symbol x ∷ c ∷ [])
write_message Up x c = message (codes "Set") (codes "write") (symbol x ∷ c ∷ [])
write_message Sub x c = message (codes "Set") (codes "write") (symbol x ∷ c ∷ [])

abbrev pub limset : Name → Tree → Prog (Unit {0})
limset x v = message x (codes "limset") (symbol x ∷ v ∷ [])

-- whether the symbol gets no rule of this kind, and the message that says why
abbrev pub refuses : RuleKind → Name → Tree → Tree → Bool → Prog Bool
refuses k x c v allowed = do
  p ← is_protected x
  elim p [
    | true ↦ do
      _ ← write_message k x c
      done true
    | false ↦ elim (is_limit x && not allowed) [
      | true ↦ do
        _ ← limset x v
        done true
      | false ↦ done false
    ]
  ]

-- nothing can be defined for a number or a text that a core begins with
abbrev pub refused_raw : Tree → Prog Bool
refused_raw c = do
  _ ← message (codes "Set") (codes "setraw") (leftmost c ∷ [])
  done true

-- the symbol gets the rule, unless that is refused; whether it is
abbrev pub defined : RuleKind → Name → LeftSide → Tree → Tree → Bool → Prog Bool
defined k x l body v allowed = do
  r ← refuses k x l.core v allowed
  elim r [
    | true ↦ done true
    | false ↦ do
      _ ← doing (put_rule x k (record { left = l.left; body = body }))
      done false
  ]

-- ---- `l = v`, `l := v`: whether it is refused

-- of these only `l = v` may set a limit, and only by its plain name
abbrev pub sets_limit : Bool → Tree → Name → Tree → Bool
sets_limit immediate left x v = immediate && same left (symbol x) && limit_allows x v

abbrev pub define_target : Bool → LeftSide → Tree → Tree → Target → Prog Bool
define_target immediate l body v raw = refused_raw l.core
define_target immediate l body v (own x) = defined Own x l body v (sets_limit immediate l.left x v)
define_target immediate l body v (down x) = defined Down x l body v false
define_target immediate l body v (sub x) = defined Sub x l body v false

abbrev pub define : Bool → Tree → Tree → Prog Bool
define immediate l v = do
  let m = moved_condition l v
  s ← prepared m.left
  define_target immediate s m.body v (target s.core)

-- ---- `l ^= v`, `l ^:= v`: an up rule for each tag; whether one of them is refused

unfoldable pub define_tags : LeftSide → Tree → Tree → Bool → List Name → Prog Bool
define_tags l body v refused [] = done refused
define_tags l body v refused (x ∷ xs) = do
  r ← defined Up x l body v false
  define_tags l body v (refused || r) xs

abbrev pub define_up_target : LeftSide → Tree → Tree → Target → Prog Bool
define_up_target l body v raw = refused_raw l.core
define_up_target l body v (own x) = define_tags l body v false (tags l.core)
define_up_target l body v (down x) = define_tags l body v false (tags l.core)
define_up_target l body v (sub x) = define_tags l body v false (tags l.core)

abbrev pub define_up : Tree → Tree → Prog Bool
define_up l v = do
  let m = moved_condition l v
  s ← prepared m.left
  define_up_target s m.body v (target s.core)

-- ---- `g /: l = v`, `g /: l := v`

-- the rule that g gets: an up rule as a tag, else the rule that the plain definition would make, if that is one of g
pub data Tagged : Type 0 where
  of_kind_of : RuleKind → Tagged
  not_found : Tagged
  is_raw : Tagged

abbrev pub tagged_by : Bool → Name → Target → Tagged
tagged_by b g raw = is_raw
tagged_by true g t = of_kind_of Up
tagged_by false g (own x) = not_found
tagged_by false g (down x) = elim (bytes_eq g x) [ true ↦ of_kind_of Down | false ↦ not_found ]
tagged_by false g (sub x) = elim (bytes_eq g x) [ true ↦ of_kind_of Sub | false ↦ not_found ]

abbrev pub tagged : Name → Tree → Tagged
tagged g c = tagged_by (is_name_among g (tags c)) g (target c)

abbrev pub refused_tag : Name → Tree → Prog Bool
refused_tag g c = do
  _ ← message (codes "TagSet") (codes "tagnf") (symbol g ∷ c ∷ [])
  done true

abbrev pub define_tagged_by : Name → LeftSide → Tree → Tree → Tagged → Prog Bool
define_tagged_by g l body v is_raw = refused_raw l.core
define_tagged_by g l body v not_found = refused_tag g l.core
define_tagged_by g l body v (of_kind_of k) = defined k g l body v false

abbrev pub define_tagged : Name → Tree → Tree → Prog Bool
define_tagged g l v = do
  let m = moved_condition l v
  s ← prepared m.left
  define_tagged_by g s m.body v (tagged g s.core)

-- ---- Set

-- a message text is refused where other definitions of that symbol are
abbrev pub set_message : Name → Bytes → Bytes → Prog (Unit {0})
set_message s t x = do
  p ← is_protected s
  elim p [
    | true ↦ message (codes "Set") (codes "wrsym") (symbol s ∷ [])
    | false ↦ elim (is_limit s) [ true ↦ limset s (text x) | false ↦ doing (put_message s t x) ]
  ]

abbrev pub set_plain : Tree → Tree → Prog (Unit {0})
set_plain l v = do
  r ← define true l v
  done tt

-- `s::t = "x"` stores a message text
abbrev pub set_node : Tree → Trees → Tree → Prog (Unit {0})
set_node h (more (symbol s) (more (text t) none)) (text x) =
    elim (is_the (codes "MessageName") h) [ true ↦ set_message s t x | false ↦ set_plain (node h (more (symbol s) (more (text t) none))) (text x) ]
set_node h ts v = set_plain (node h ts) v

abbrev pub has_shape : Trees → Tree → Bool
has_shape ls v = is_list v && nat_eq (length (to_list ls)) (length (elements v))

-- `{l, m} = {v, w}` sets each left side to its value, lists within lists too; a message tells of lists of other shapes.
unfoldable mutual
  pub set : Tree → Tree → Prog (Unit {0})
  set (num n) v = set_plain (num n) v
  set (text s) v = set_plain (text s) v
  set (symbol x) v = set_plain (symbol x) v
  set (node h ls) v =
      elim (is_the (codes "List") h) [
        | true ↦ elim (has_shape ls v) [ true ↦ set_each ls (elements v) | false ↦ message (codes "Set") (codes "shape") (node h ls ∷ v ∷ []) ]
        | false ↦ set_node h ls v
      ]

  pub set_each : Trees → List Tree → Prog (Unit {0})
  set_each none vs = done tt
  set_each (more l ls) [] = done tt
  set_each (more l ls) (v ∷ vs) = set l v >>= λ _. set_each ls vs

-- ---- the rows

-- a delayed definition gives Null, a refused one `$Failed`
abbrev pub delayed : Prog Bool → Prog (Option Tree)
delayed p = do
  r ← p
  elim r [ true ↦ result failed_symbol | false ↦ result null_symbol ]

-- `Set[l, v]` gives v in any case
abbrev pub set_row : List Tree → Prog (Option Tree)
set_row (l ∷ v ∷ []) = do
  _ ← set l v
  result v
set_row es = unchanged

-- `SetDelayed[l, v]`
abbrev pub set_delayed_row : List Tree → Prog (Option Tree)
set_delayed_row (l ∷ v ∷ []) = delayed (define false l v)
set_delayed_row es = unchanged

-- `UpSet[l, v]`
abbrev pub up_set_row : List Tree → Prog (Option Tree)
up_set_row (l ∷ v ∷ []) = do
  _ ← define_up l v
  result v
up_set_row es = unchanged

-- `UpSetDelayed[l, v]`
abbrev pub up_set_delayed_row : List Tree → Prog (Option Tree)
up_set_delayed_row (l ∷ v ∷ []) = delayed (define_up l v)
up_set_delayed_row es = unchanged

-- `TagSet[g, l, v]`: v is evaluated first, and then the left side
abbrev pub tag_set_row : List Tree → Prog (Option Tree)
tag_set_row (symbol g ∷ l ∷ v ∷ []) = do
  u ← value_of v
  _ ← define_tagged g l u
  result u
tag_set_row es = unchanged

-- `TagSetDelayed[g, l, v]`
abbrev pub tag_set_delayed_row : List Tree → Prog (Option Tree)
tag_set_delayed_row (symbol g ∷ l ∷ v ∷ []) = delayed (define_tagged g l v)
tag_set_delayed_row es = unchanged

-- takes away the rule that the definition would make; `$Failed` if there is none, or if the definition would be refused
abbrev pub taken_away : RuleKind → Name → LeftSide → Prog (Option Tree)
taken_away k x l = do
  r ← refuses k x l.core null_symbol false
  e ← entry_of x
  elim (r || not (has_left left_side l.left (of_kind k e.rules))) [
    | true ↦ result failed_symbol
    | false ↦ do
      _ ← doing (remove_rule x k l.left)
      result null_symbol
  ]

abbrev pub failed_after : Prog Bool → Prog (Option Tree)
failed_after p = do
  _ ← p
  result failed_symbol

abbrev pub unset_target : LeftSide → Target → Prog (Option Tree)
unset_target l raw = failed_after (refused_raw l.core)
unset_target l (own x) = taken_away Own x l
unset_target l (down x) = taken_away Down x l
unset_target l (sub x) = taken_away Sub x l

-- `Unset[l]`
abbrev pub unset_row : List Tree → Prog (Option Tree)
unset_row (l ∷ []) = do
  s ← prepared l
  unset_target s (target s.core)
unset_row es = unchanged

abbrev pub unset_tagged : Name → LeftSide → Tagged → Prog (Option Tree)
unset_tagged g l is_raw = failed_after (refused_raw l.core)
unset_tagged g l not_found = failed_after (refused_tag g l.core)
unset_tagged g l (of_kind_of k) = taken_away k g l

-- `TagUnset[g, l]`
abbrev pub tag_unset_row : List Tree → Prog (Option Tree)
tag_unset_row (symbol g ∷ l ∷ []) = do
  s ← prepared l
  unset_tagged g s (tagged g s.core)
tag_unset_row es = unchanged

-- ---- AddTo and its relatives

-- An x that has a value o gets a new one by `Set[x, new]`, which is evaluated; x without a value leaves the expression. The result is the new value, or for `x++` the old one.
abbrev pub changing : (Tree → Tree → Tree) → (Tree → Tree) → Tree → Prog (Option Tree)
changing keep new x = do
  o ← value_of x
  elim (same o x) [
    | true ↦ unchanged
    | false ↦ do
      v ← value_of_built (form (codes "Set") (x ∷ new o ∷ []))
      result (keep o v)
  ]

abbrev pub after : Tree → Tree → Tree
after o v = v

abbrev pub before : Tree → Tree → Tree
before o v = o

abbrev pub minus_one : Tree
minus_one = whole (negsuc 0)

abbrev pub plus : Tree → Tree → Tree
plus o v = form (codes "Plus") (o ∷ v ∷ [])

abbrev pub times : Tree → Tree → Tree
times o v = form (codes "Times") (o ∷ v ∷ [])

-- a row of two elements
abbrev pub changing_by : (Tree → Tree → Tree) → List Tree → Prog (Option Tree)
changing_by new (x ∷ v ∷ []) = changing after (λ o. new o v) x
changing_by new es = unchanged

-- a row of one element
abbrev pub stepping : (Tree → Tree → Tree) → Tree → List Tree → Prog (Option Tree)
stepping keep v (x ∷ []) = changing keep (λ o. plus o v) x
stepping keep v es = unchanged

abbrev pub add_to_row : List Tree → Prog (Option Tree)
add_to_row es = changing_by plus es

abbrev pub subtract_from_row : List Tree → Prog (Option Tree)
subtract_from_row es = changing_by (λ o v. plus o (times minus_one v)) es

abbrev pub times_by_row : List Tree → Prog (Option Tree)
times_by_row es = changing_by times es

abbrev pub divide_by_row : List Tree → Prog (Option Tree)
divide_by_row es = changing_by (λ o v. times o (form (codes "Power") (v ∷ minus_one ∷ []))) es

abbrev pub append_to_row : List Tree → Prog (Option Tree)
append_to_row es = changing_by (λ o v. form (codes "Append") (o ∷ v ∷ [])) es

abbrev pub prepend_to_row : List Tree → Prog (Option Tree)
prepend_to_row es = changing_by (λ o v. form (codes "Prepend") (o ∷ v ∷ [])) es

abbrev pub pre_increment_row : List Tree → Prog (Option Tree)
pre_increment_row es = stepping after (natural 1) es

abbrev pub pre_decrement_row : List Tree → Prog (Option Tree)
pre_decrement_row es = stepping after minus_one es

abbrev pub increment_row : List Tree → Prog (Option Tree)
increment_row es = stepping before (natural 1) es

abbrev pub decrement_row : List Tree → Prog (Option Tree)
decrement_row es = stepping before minus_one es
