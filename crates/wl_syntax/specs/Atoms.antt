-- What an atom stands for.
use Rattle.std.specs.Prelude.{ℕ, ℤ, pos, neg_ℤ, Bool, true, false, ◌==◌, List, [], ◌∷◌, length, drop, codes, nat_eq, if◌then◌else◌, encode_utf8_all}
use Rattle.std.specs.List.{before_first, after_first, starts_with}
use Rattle.std.specs.Str.{bytes_eq, chars}
use Rattle.wl_exact.specs.Fraction.{of_int}
use Rattle.wl_scan.specs.Forms.{is_mark}
use Rattle.wl_scan.specs.Literals.{literal_value}
use Rattle.wl_expr.specs.Tree as full
use Rattle.wl_expr.specs.Tree.{from_list}
use Rattle.wl_syntax.specs.Token.{Atom, number, name, pattern, slot, output, text}

-- a node by the name of its head
abbrev pub named : List ℕ → List full.Tree → full.Tree
named head args = full.node (full.symbol head) (from_list args)

abbrev pub whole_number : ℤ → full.Tree
whole_number z = full.num (of_int z)

-- `#` and `##` alone are the first
abbrev pub index : List ℕ → full.Tree
index s = if length s == 0 then whole_number (pos 1) else whole_number (pos (literal_value s))

abbrev pub slot_tree : List ℕ → full.Tree
slot_tree s = if starts_with nat_eq s (codes "##") then named (codes "SlotSequence") (index (drop 2 s) ∷ []) else named (codes "Slot") (index (drop 1 s) ∷ [])

-- `%` is the last output, k signs count back to the k-th last, and `%` and digits name one
abbrev pub output_tree : List ℕ → full.Tree
output_tree s =
    if length s == 1 then named (codes "Out") []
    else (if starts_with nat_eq s (codes "%%") then named (codes "Out") (whole_number (neg_ℤ (pos (length s))) ∷ [])
    else named (codes "Out") (whole_number (pos (literal_value (drop 1 s))) ∷ []))

-- one to three `_`, and the head behind them; a `.` is no head
abbrev pub blank : List ℕ → List ℕ → full.Tree
blank kind head = if (length head == 0) then named kind [] else (if bytes_eq head (codes ".") then named kind [] else named kind (full.symbol head ∷ []))

-- what stands behind the first `_`
abbrev pub blanks : List ℕ → full.Tree
blanks s =
    if starts_with nat_eq s (codes "__") then blank (codes "BlankNullSequence") (drop 2 s)
    else (if starts_with nat_eq s (codes "_") then blank (codes "BlankSequence") (drop 1 s)
    else blank (codes "Blank") s)

-- a name before them makes a pattern
abbrev pub bound : List ℕ → full.Tree → full.Tree
bound s p = if length s == 0 then p else named (codes "Pattern") (full.symbol s ∷ p ∷ [])

-- and a `.` behind them a default
abbrev pub defaulted : List ℕ → full.Tree → full.Tree
defaulted rest p = if bytes_eq rest (codes ".") then named (codes "Optional") (p ∷ []) else p

abbrev pub pattern_tree : List ℕ → full.Tree
pattern_tree s = defaulted (after_first is_mark s) (bound (before_first is_mark s) (blanks (after_first is_mark s)))

-- the character behind a `\`
abbrev pub escaped : ℕ → ℕ
escaped c = if c == 110 then 10 else (if c == 116 then 9 else (if c == 114 then 13 else c))

-- The characters of a string: the quotes go, and a `\` and the character behind it stand for one.
abbrev pub unquoted : Bool → List ℕ → List ℕ
unquoted b [] = []
unquoted true (c ∷ cs) = escaped c ∷ unquoted false cs
unquoted false (c ∷ cs) = if c == 92 then unquoted true cs else (if c == 34 then unquoted false cs else c ∷ unquoted false cs)

abbrev pub string_of : List ℕ → List ℕ
string_of s = encode_utf8_all (unquoted false (chars s))

abbrev pub atom_tree : Atom → full.Tree
atom_tree (number s) = whole_number (pos (literal_value s))
atom_tree (name s) = full.symbol s
atom_tree (pattern s) = pattern_tree s
atom_tree (slot s) = slot_tree s
atom_tree (output s) = output_tree s
atom_tree (text s) = full.text (string_of s)
