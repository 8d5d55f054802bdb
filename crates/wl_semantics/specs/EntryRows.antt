-- Clear, ClearAll, Attributes and their changes, Protect and Unprotect. Reference pages of these; what is refused is this project's own.
use Rattle.std.specs.Prelude.{Bool, true, false, List, [], ◌∷◌, map, Option, Some, None, codes}
use Rattle.wl_expr.specs.Tree.{Tree, text, symbol}
use Rattle.wl_expr.specs.Words.{Name, is_list, elements, list_of, names_of, null_symbol}
use Rattle.wl_rules.specs.Attributes.{AttributeSet, with, without, with_all, without_all, attributes_named, names_of_attributes}
use Rattle.wl_rules.specs.declared.attribute.Attribute.{Attribute}
use Rattle.wl_rules.specs.declared.attribute.Attribute.TheVariants.{Protected}
use Rattle.wl_semantics.specs.Prog.{Prog, clear, set_attributes, ◌>>=◌, entry_of, doing, message, is_protected, unchanged, result}
use Rattle.wl_semantics.specs.Definitions.{limset}
use Rattle.wl_semantics.specs.LeftSides.{is_limit}

-- ---- `Clear[s]`, `ClearAll[s]`, one or more names

abbrev pub clear_one : Bool → Name → Prog (Unit {0})
clear_one all x = do
  p ← is_protected x
  elim p [
    | true ↦ message (codes "Set") (codes "wrsym") (symbol x ∷ [])
    | false ↦ elim (is_limit x) [ true ↦ limset x null_symbol | false ↦ doing (clear x all) ]
  ]

unfoldable pub clear_each : Bool → List Name → Prog (Option Tree)
clear_each all [] = result null_symbol
clear_each all (x ∷ xs) = do
  _ ← clear_one all x
  clear_each all xs

abbrev pub clear_named : Bool → Option (List Name) → Prog (Option Tree)
clear_named all None = unchanged
clear_named all (Some []) = unchanged
clear_named all (Some (x ∷ xs)) = clear_each all (x ∷ xs)

abbrev pub clear_row : List Tree → Prog (Option Tree)
clear_row es = clear_named false (names_of es)

abbrev pub clear_all_row : List Tree → Prog (Option Tree)
clear_all_row es = clear_named true (names_of es)

-- ---- attributes

-- `Attributes[s]`: their names, sorted
abbrev pub attributes_row : List Tree → Prog (Option Tree)
attributes_row (symbol x ∷ []) = do
  e ← entry_of x
  result (list_of (map symbol (names_of_attributes e.attributes)))
attributes_row es = unchanged

-- a name or a list of names
abbrev pub one_or_more : Tree → Option (List Name)
one_or_more t = elim (is_list t) [ true ↦ names_of (elements t) | false ↦ names_of (t ∷ []) ]

abbrev pub attributes_in : Option (List Name) → Option (List Attribute)
attributes_in None = None
attributes_in (Some xs) = attributes_named xs

-- Attributes of Protected symbols may be changed too. It is a change even where they come out as they were.
abbrev pub change_attributes : (AttributeSet → AttributeSet) → Name → Prog (Unit {0})
change_attributes f x = do
  e ← entry_of x
  doing (set_attributes x (f e.attributes))

unfoldable pub change_each : (AttributeSet → AttributeSet) → List Name → Prog (Option Tree)
change_each f [] = result null_symbol
change_each f (x ∷ xs) = do
  _ ← change_attributes f x
  change_each f xs

abbrev pub changing : (AttributeSet → List Attribute → AttributeSet) → Option (List Name) → Option (List Attribute) → Prog (Option Tree)
changing f (Some xs) (Some ks) = change_each (λ a. f a ks) xs
changing f _ _ = unchanged

-- `SetAttributes[s, a]`, `ClearAttributes[s, a]`, for one or more symbols and attributes
abbrev pub set_attributes_row : List Tree → Prog (Option Tree)
set_attributes_row (s ∷ a ∷ []) = changing with_all (one_or_more s) (attributes_in (one_or_more a))
set_attributes_row es = unchanged

abbrev pub clear_attributes_row : List Tree → Prog (Option Tree)
clear_attributes_row (s ∷ a ∷ []) = changing without_all (one_or_more s) (attributes_in (one_or_more a))
clear_attributes_row es = unchanged

-- ---- `Protect[s]`, `Unprotect[s]`: a list with the name as a string, if that changed something

abbrev pub protect_row : List Tree → Prog (Option Tree)
protect_row (symbol x ∷ []) = do
  e ← entry_of x
  _ ← doing (set_attributes x (with e.attributes Protected))
  result (elim e.attributes.protected [ true ↦ list_of [] | false ↦ list_of (text x ∷ []) ])
protect_row es = unchanged

abbrev pub unprotect_row : List Tree → Prog (Option Tree)
unprotect_row (symbol x ∷ []) = do
  e ← entry_of x
  _ ← doing (set_attributes x (without e.attributes Protected))
  result (elim e.attributes.protected [ true ↦ list_of (text x ∷ []) | false ↦ list_of [] ])
unprotect_row es = unchanged
