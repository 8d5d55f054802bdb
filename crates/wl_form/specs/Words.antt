-- Nodes that are printed as one word.
use Rattle.std.specs.Prelude.{ℕ, Bool, true, false, ◌&&◌, ◌==◌, not, List, [], if◌then◌else◌, Option, Some, None, unsigned_abs}
use Rattle.wl_ports.specs.Name.{is_name}
use Rattle.wl_expr.specs.Tree as tree
use Rattle.wl_expr.specs.Tree.{Tree, Trees}
use Rattle.wl_exact.specs.Fraction.{Fraction}
use Rattle.wl_form.specs.declared.operator.Infix.TheVariants as between_op
use Rattle.wl_form.specs.declared.operator.Marks.TheVariants.{One}
use Rattle.wl_form.specs.declared.operator.Row.{Row}
use Rattle.wl_form.specs.declared.operator.Row.TheVariants as row
use Rattle.wl_form.specs.declared.word.Word.{Word}
use Rattle.wl_form.specs.declared.word.Word.TheVariants as code
use Rattle.wl_form.specs.Heads.{row_of}
use Rattle.wl_form.specs.Shown.{Shown, name, pattern, slot, chain, nothing, behind, is_negative}
use Rattle.wl_form.specs.Table.{blanks_of, named_blanks, default_of}

abbrev pub message_shown : List ℕ → List ℕ → Shown
message_shown s t = chain (name s) (behind nothing between_op.Message (name t))

abbrev pub shown_word : Word → Shown
shown_word (code.Pattern x k h) = pattern x.now k h.now
shown_word (code.Slot d n) = slot d n
shown_word (code.Message s t) = message_shown s.now t.now

abbrev pub name_of : Tree → Option (List ℕ)
name_of (tree.symbol s) = Some s
name_of _ = None

abbrev pub is_one_blank : Row → Bool
is_one_blank (row.Blanks One) = true
is_one_blank _ = false

abbrev pub is_blank : Tree → Bool
is_blank (tree.node h tree.none) = is_one_blank (row_of h)
is_blank _ = false

abbrev pub name_before_blank : Trees → Option (List ℕ)
name_before_blank (tree.more t (tree.more p tree.none)) = if is_blank p then name_of t else None
name_before_blank _ = None

abbrev pub blank_name_by : Row → Trees → Option (List ℕ)
blank_name_by row.Pattern ts = name_before_blank ts
blank_name_by _ ts = None

abbrev pub blank_name : Tree → Option (List ℕ)
blank_name (tree.node h ts) = blank_name_by (row_of h) ts
blank_name _ = None

abbrev pub pattern_word : Trees → Option Shown
pattern_word (tree.more (tree.symbol x) (tree.more p tree.none)) = named_blanks x p
pattern_word _ = None

abbrev pub default_word : Trees → Option Shown
default_word (tree.more p tree.none) = default_of p
default_word _ = None

abbrev pub number_slot : Bool → Fraction → Option Shown
number_slot d f = if not (is_negative f) && (f.den == 1) then Some (slot d (unsigned_abs f.num)) else None

abbrev pub slot_word : Bool → Trees → Option Shown
slot_word d (tree.more (tree.num f) tree.none) = number_slot d f
slot_word d _ = None

abbrev pub message_word : Trees → Option Shown
message_word (tree.more (tree.symbol s) (tree.more (tree.text t) tree.none)) = if is_name t then Some (message_shown s t) else None
message_word _ = None

abbrev pub word_of : Row → Trees → Option Shown
word_of (row.Blanks k) ts = blanks_of k [] ts
word_of row.Pattern ts = pattern_word ts
word_of row.Optional ts = default_word ts
word_of (row.Slot d) ts = slot_word d ts
word_of row.Message ts = message_word ts
word_of _ ts = None
