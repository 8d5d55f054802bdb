-- The form that a token has by its kind.
use Rattle.std.specs.Prelude.{ℕ, ◌≡◌, ◌≢◌, ◌<◌, ◌==◌, Bool, nat_eq, if◌then◌else◌, None, List, length, drop, codes}
use Rattle.std.specs.List.{position_or_len, before_first, after_first, starts_with}
use Rattle.std.specs.Str.{byte, IsUtf8}
use Rattle.wl_ports.specs.Name.{IsName}
use Rattle.wl_scan.specs.Lengths.{digits_length, number_length, slot_marks, percents_length}
use Rattle.wl_scan.specs.Literals.{digit_fault, HasValue}
use Rattle.wl_scan.specs.declared.token.Kind.{Kind}
use Rattle.wl_scan.specs.declared.token.Kind.TheVariants.{Number, Name, Pattern, Slot, Out, Text, Sign}

-- a literal, of digits of its base alone, whose number is in range
pub record IsNumber (text : List ℕ) : Type 0 where
  pub whole : number_length text ≡ length text
  pub digits : digit_fault text ≡ None
  pub value : HasValue text

-- decimal digits alone, or none, whose number is in range
pub record IsNumeral (text : List ℕ) : Type 0 where
  pub digits : digits_length text ≡ length text
  pub value : HasValue text

-- a name, whose bytes are text
pub record IsWord (text : List ℕ) : Type 0 where
  pub name : IsName text
  pub utf8 : IsUtf8 text

abbrev pub is_mark : ℕ → Bool
is_mark b = b == byte "_"

-- what stands behind the first mark of a pattern and up to two more
abbrev pub head_of : List ℕ → List ℕ
head_of rest = if starts_with nat_eq rest (codes "__") then drop 2 rest else (if starts_with nat_eq rest (codes "_") then drop 1 rest else rest)

-- a name or nothing, one to three marks, and a name, a `.` or nothing
pub record IsPattern (text : List ℕ) : Type 0 where
  pub mark : position_or_len is_mark text < length text
  pub name : 0 < length (before_first is_mark text) → IsWord (before_first is_mark text)
  pub head : 0 < length (head_of (after_first is_mark text)) → head_of (after_first is_mark text) ≢ codes "." → IsWord (head_of (after_first is_mark text))

-- one or two `#`, and a numeral
pub record IsSlot (text : List ℕ) : Type 0 where
  pub marks : 0 < slot_marks text
  pub numeral : IsNumeral (drop (slot_marks text) text)

-- one or more `%`, and behind one alone a numeral
pub record IsOut (text : List ℕ) : Type 0 where
  pub marks : 0 < percents_length text
  pub numeral : percents_length text ≡ 1 → IsNumeral (drop 1 text)

abbrev pub HasForm : Kind → List ℕ → Type 0
HasForm Number text = IsNumber text
HasForm Name text = IsWord text
HasForm Pattern text = IsPattern text
HasForm Slot text = IsSlot text
HasForm Out text = IsOut text
HasForm Text text = Unit {0}
HasForm Sign text = Unit {0}
