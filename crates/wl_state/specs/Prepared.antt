-- What the functions of definitions say besides: parts of left sides, and what an assignment makes of an old value.
use Rattle.std.specs.Prelude.{◌≡◌, ℕ, Bool, true, false, ◌&&◌, List, [], ◌∷◌, length, Option, Some, None, option_map, Result, Ok, Err, bytes_eq, codes, nat_eq}
use Rattle.wl_expr.specs.Stamped.{Stamped, plain}
use Rattle.wl_expr.specs.Tree.{Tree, Trees, text, symbol, node}
use Rattle.wl_expr.specs.Words.{Name, Bytes, form, fits, is_list, is_node, elements, natural}
use Rattle.wl_rules.specs.Attributes.{AttributeSet, no_attributes, with}
use Rattle.wl_rules.specs.declared.attribute.Attribute.TheVariants.{SequenceHold}
use Rattle.wl_rules.specs.declared.rule.RuleKind.{RuleKind}
use Rattle.wl_semantics.specs.Prog.{Prog, message}
use Rattle.wl_semantics.specs.Definitions as definitions
use Rattle.wl_semantics.specs.Definitions.{LeftSide, Tagged, set_node, set_plain, set_each, plus, times, minus_one}
use Rattle.wl_semantics.specs.LeftSides.{Sides}
use Rattle.wl_semantics.specs.MessageRows.{MessageName, message_name}
use Rattle.wl_state.specs.Played.{Honest, HonestMaybe, Played, Plays, Seen, honest_tree}
use Rattle.wl_state.specs.declared.defining.Tagged as declared
use Rattle.wl_state.specs.declared.defining.Tagged.TheVariants as variant
use Rattle.wl_state.specs.declared.ends.Stop.{Stop}
use Rattle.wl_state.specs.declared.evaluator.Evaluator.{Evaluator}
use Rattle.wl_state.specs.declared.left_sides.Prepared.{Prepared}
use Rattle.wl_state.specs.declared.update_rows.Update as updates
use Rattle.wl_state.specs.declared.update_rows.Update.TheVariants as update

-- ---- the condition of a right side

-- a left side with this condition, where there is one
abbrev pub under : Option Tree → Tree → Tree
under None l = l
under (Some c) l = form (codes "Condition") (l ∷ c ∷ [])

abbrev pub sides_by : Tree → Tree → Option Tree → Sides
sides_by l r o = record { left = under o l; body = r }

-- ---- cores

-- of these attributes what says whether sequences stay
abbrev pub kept_sequences : Bool → AttributeSet
kept_sequences true = with no_attributes SequenceHold
kept_sequences false = no_attributes

-- the expression is this tree; none stands for a node that doesn't fit
abbrev pub Stands : Tree → Option Stamped → Type 0
Stands t None = (fits t ≡ false) × (is_node t ≡ true)
Stands t (Some e) = plain e ≡ t

-- what is made where a program gives a tree that need not fit
abbrev pub MadeBy : Prog Tree → Evaluator → Result (Option Stamped) Stop → Evaluator → Type 0
MadeBy p k (Ok o) k' = (t : Tree) × Plays p k (Ok t) k' false × Stands t o × HonestMaybe k' o
MadeBy p k (Err e) k' = Played honest_tree p k (Err e) k'

-- a left side and its core
abbrev pub prepared_side : Seen Prepared LeftSide
prepared_side = record { view = λ p. record { left = plain p.left; core = plain p.core }; good = λ k p. Honest k p.left }

-- ---- what a definition gives

abbrev pub tagged_of : declared.Tagged → Tagged
tagged_of (variant.OfKind k) = definitions.of_kind_of k
tagged_of variant.NotFound = definitions.not_found
tagged_of variant.Raw = definitions.is_raw

abbrev pub tagged_by_head : RuleKind → Name → Name → Tagged
tagged_by_head k x g = elim (bytes_eq g x) [ true ↦ definitions.of_kind_of k | false ↦ definitions.not_found ]

-- what a delayed definition gives
abbrev pub refusal_name : Bool → Name
refusal_name true = codes "$Failed"
refusal_name false = codes "Null"

abbrev pub refusal : Bool → Tree
refusal b = symbol (refusal_name b)

-- ---- one left side, and lists of them

-- a left side that is no list
abbrev pub set_one : Tree → Tree → Prog (Unit {0})
set_one (node h ls) v = set_node h ls v
set_one l v = set_plain l v

-- the message that a left side names, and the text that it is set to
abbrev pub message_text : Tree → Tree → Option (MessageName × Bytes)
message_text l (text x) = option_map (λ m. (m, x)) (message_name l)
message_text l v = None

-- the elements of a list of so many
abbrev pub same_shape : ℕ → Tree → Option (List Tree)
same_shape n v = elim (is_list v && nat_eq n (length (elements v))) [ true ↦ Some (elements v) | false ↦ None ]

-- the left sides of a list, with these values
abbrev pub set_by : Trees → Tree → Tree → Option (List Tree) → Prog (Unit {0})
set_by ls l v None = message (codes "Set") (codes "shape") (l ∷ v ∷ [])
set_by ls l v (Some vs) = set_each ls vs

-- the one of a row, and the elements of one whose first is a symbol
abbrev pub only_tree : List Tree → Option Tree
only_tree (t ∷ []) = Some t
only_tree es = None

abbrev pub name_and_one : List Tree → Option (Name × Tree)
name_and_one (symbol x ∷ t ∷ []) = Some (x, t)
name_and_one es = None

abbrev pub name_and_two : List Tree → Option (Name × Tree × Tree)
name_and_two (symbol x ∷ t ∷ u ∷ []) = Some (x, t, u)
name_and_two es = None

-- ---- new values

abbrev pub updated : updates.Update → Tree → Tree → Tree
updated update.Plus o v = plus o v
updated update.Minus o v = plus o (times minus_one v)
updated update.Times o v = times o v
updated update.Divide o v = times o (form (codes "Power") (v ∷ minus_one ∷ []))
updated update.Append o v = form (codes "Append") (o ∷ v ∷ [])
updated update.Prepend o v = form (codes "Prepend") (o ∷ v ∷ [])

-- which of the old and the new value is given
abbrev pub kept : Bool → Tree → Tree → Tree
kept true o v = o
kept false o v = v

-- 1, or -1
abbrev pub one : Bool → Tree
one true = minus_one
one false = natural 1
