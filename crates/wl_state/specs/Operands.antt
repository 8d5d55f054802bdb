-- What rows that evaluate nothing read in their elements, and the parts that they are made of.
use Rattle.std.specs.Prelude.{◌≡◌, ℤ, negsuc, ⊤, Result, IfOk, Bool, true, false, List, [], ◌∷◌, Option, Some, None, filter_map}
use Rattle.wl_expr.specs.Tree.{Tree, text, symbol}
use Rattle.wl_expr.specs.Stamped as stamped
use Rattle.wl_expr.specs.Stamped.{Stamped}
use Rattle.wl_expr.specs.declared.fault.ExprFault.{ExprFault}
use Rattle.wl_expr.specs.Words.{Name, Bytes, int_of, is_list, elements, list_of, name_of, names_of, null_symbol, failed_symbol}
use Rattle.wl_rules.specs.Attributes.{AttributeSet, put, with_all, without_all}
use Rattle.wl_rules.specs.declared.attribute.Attribute.{Attribute}
use Rattle.wl_rules.specs.declared.attribute.Attribute.TheVariants.{Protected}
use Rattle.wl_semantics.specs.Prog.{Prog, set_attributes, ◌>>=◌, entry_of, doing, unchanged, result}
use Rattle.wl_semantics.specs.Definitions.{LeftSide}
use Rattle.wl_semantics.specs.EntryRows.{changing, attributes_in}
use Rattle.wl_semantics.specs.MessageRows.{MessageName, message_name}
use Rattle.wl_state.specs.Played.{Makes}

-- ---- elements

-- the name of a single symbol
abbrev pub only_name : List Tree → Option Name
only_name (symbol x ∷ []) = Some x
only_name es = None

-- the two of a row
abbrev pub two_trees : List Tree → Option (Tree × Tree)
two_trees (s ∷ t ∷ []) = Some (s, t)
two_trees es = None

-- a single integer
abbrev pub only_int : List Tree → Option ℤ
only_int (n ∷ []) = int_of n
only_int es = None

-- a symbol and a text
abbrev pub name_and_text : List Tree → Option MessageName
name_and_text (symbol s ∷ text t ∷ []) = Some (record { symbol = s; tag = t })
name_and_text es = None

-- a single `s::t`
abbrev pub only_message : List Tree → Option MessageName
only_message (m ∷ []) = message_name m
only_message es = None

abbrev pub as_message : Name × Bytes → MessageName
as_message p = record { symbol = p.0; tag = p.1 }

-- the line that `Out` asks for
abbrev pub out_line : List Tree → Option ℤ
out_line [] = Some (negsuc 0)
out_line (n ∷ []) = int_of n
out_line es = None

-- the text of a message that was made, where there is one
abbrev pub IsTextMade : Option Bytes → Option (Result Stamped ExprFault) → Type 0
IsTextMade None None = ⊤
IsTextMade None (Some r) = ⊥
IsTextMade (Some t) None = ⊥
IsTextMade (Some t) (Some r) = Makes (text t) r × IfOk r (λ e. e ≡ stamped.text t)

-- the elements of a list, or the tree alone
abbrev pub listed : Tree → List Tree
listed t = elim (is_list t) [ true ↦ elements t | false ↦ t ∷ [] ]

-- the names of those that are symbols
abbrev pub names_among : List Tree → List Name
names_among es = filter_map name_of es

-- ---- attributes

-- the set in which these attributes are, or aren't, as said
abbrev pub put_all : Bool → AttributeSet → List Attribute → AttributeSet
put_all true = with_all
put_all false = without_all

-- the row that sets attributes, or that takes them away
abbrev pub attributes_changed : Bool → List Tree → Prog (Option Tree)
attributes_changed b (s ∷ a ∷ []) = changing (put_all b) (names_of (listed s)) (attributes_in (names_of (listed a)))
attributes_changed b es = unchanged

-- the name as a text in a list, where the symbol comes to be Protected, or to be so no more
abbrev pub protection_names : Bool → Bool → Name → Tree
protection_names true true x = list_of []
protection_names true false x = list_of (text x ∷ [])
protection_names false true x = list_of (text x ∷ [])
protection_names false false x = list_of []

abbrev pub protection : Bool → Name → Prog (Option Tree)
protection b x = do
  e ← entry_of x
  _ ← doing (set_attributes x (put b e.attributes Protected))
  result (protection_names b e.attributes.protected x)

-- ---- definitions

abbrev pub left_side : Tree → Tree → LeftSide
left_side l c = record { left = l; core = c }

-- what Unset gives
abbrev pub taken_answer : Bool → Tree
taken_answer true = null_symbol
taken_answer false = failed_symbol
