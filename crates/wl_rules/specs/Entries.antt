-- Definitions: a finite map from names to entries. A name without an entry and a name with the empty entry mean the same, so the map is a function that gives each name its entry. An entry is written for any kind of rule: for rules of plain trees, and for those of trees that may carry stamps.
use Rattle.std.specs.Prelude.{Bool, true, false, if◌then◌else◌, List, [], ◌∷◌, Option, Some, None, is_some, map, bytes_eq}
use Rattle.std.specs.Cmp.Lexicographic.{slice_cmp}
use Rattle.std.specs.Ordering.{nat_cmp}
use Rattle.std.specs.BTreeMap.{insert_entry}
use Rattle.wl_expr.specs.Tree.{Tree}
use Rattle.wl_expr.specs.Words.{Name, Bytes}
use Rattle.wl_rules.specs.Attributes.{AttributeSet, no_attributes}
use Rattle.wl_rules.specs.RuleLists.{insert, removed}
use Rattle.wl_rules.specs.declared.rule.RuleKind.{RuleKind}
use Rattle.wl_rules.specs.declared.rule.RuleKind.TheVariants.{Own, Down, Up, Sub}

pub record PlainRule : Type 0 where
  pub left : Tree
  pub body : Tree

-- the four lists of rules
pub record Rules (R : Type 0) : Type 0 where
  pub own : List R
  pub down : List R
  pub up : List R
  pub sub : List R

-- texts by tag, and the tags that are off, each in the order of the tags' bytes
pub record Entry (R : Type 0) : Type 0 where
  pub rules : Rules R
  pub attributes : AttributeSet
  pub messages : List (Bytes × Bytes)
  pub off : List (Bytes × Unit {0})

abbrev pub Definitions : Type 0
Definitions = Name → Entry PlainRule

-- the left side of a rule of plain trees
abbrev pub left_side : PlainRule → Tree
left_side r = r.left

abbrev pub no_rules : {R : Type 0} → Rules R
no_rules = record { own = []; down = []; up = []; sub = [] }

abbrev pub empty_entry : {R : Type 0} → Entry R
empty_entry = record { rules = no_rules; attributes = no_attributes; messages = []; off = [] }

-- the definitions with another entry of a name
abbrev pub with_entry : Name → Entry PlainRule → Definitions → Definitions
with_entry x e d y = if bytes_eq x y then e else d y

-- ---- rules

abbrev pub of_kind : {R : Type 0} → RuleKind → Rules R → List R
of_kind Own r = r.own
of_kind Down r = r.down
of_kind Up r = r.up
of_kind Sub r = r.sub

abbrev pub with_kind : {R : Type 0} → RuleKind → List R → Rules R → Rules R
with_kind Own rs r = record r { own = rs }
with_kind Down rs r = record r { down = rs }
with_kind Up rs r = record r { up = rs }
with_kind Sub rs r = record r { sub = rs }

abbrev pub map_rules : {R S : Type 0} → (R → S) → Rules R → Rules S
map_rules f r = record { own = map f r.own; down = map f r.down; up = map f r.up; sub = map f r.sub }

abbrev pub map_entry : {R S : Type 0} → (R → S) → Entry R → Entry S
map_entry f e = record { rules = map_rules f e.rules; attributes = e.attributes; messages = e.messages; off = e.off }

-- ---- changes of an entry

abbrev pub put_rule : {R : Type 0} → (R → Tree) → RuleKind → R → Entry R → Entry R
put_rule left k n e = record e { rules = with_kind k (insert left n (of_kind k e.rules)) e.rules }

abbrev pub remove_rule : {R : Type 0} → (R → Tree) → RuleKind → Tree → Entry R → Entry R
remove_rule left k l e = record e { rules = with_kind k (removed left l (of_kind k e.rules)) e.rules }

-- the rules are taken away; with all, also attributes, message texts and tags that are off
abbrev pub cleared : {R : Type 0} → Bool → Entry R → Entry R
cleared true e = empty_entry
cleared false e = record e { rules = no_rules }

abbrev pub with_attributes : {R : Type 0} → AttributeSet → Entry R → Entry R
with_attributes s e = record e { attributes = s }

abbrev pub with_rules : {R : Type 0} → Rules R → Entry R → Entry R
with_rules r e = record e { rules = r }

-- ---- messages

abbrev pub value_at : {X : Type 0} → Bytes → List (Bytes × X) → Option X
value_at t [] = None
value_at t (p ∷ ps) = if bytes_eq t p.0 then Some p.1 else value_at t ps

abbrev pub without : {X : Type 0} → Bytes → List (Bytes × X) → List (Bytes × X)
without t [] = []
without t (p ∷ ps) = if bytes_eq t p.0 then ps else p ∷ without t ps

abbrev pub message : {R : Type 0} → Entry R → Bytes → Option Bytes
message e t = value_at t e.messages

abbrev pub is_off : {R : Type 0} → Entry R → Bytes → Bool
is_off e t = is_some (value_at t e.off)

abbrev pub put_message : {R : Type 0} → Bytes → Bytes → Entry R → Entry R
put_message t s e = record e { messages = insert_entry (slice_cmp nat_cmp) e.messages t s }

abbrev pub set_off : {R : Type 0} → Bytes → Bool → Entry R → Entry R
set_off t true e = record e { off = insert_entry (slice_cmp nat_cmp) e.off t tt }
set_off t false e = record e { off = without t e.off }
