-- The tokens of a text: the longest at each place, up to the end or the first fault. The forms are this project's own choice of the language's.
use Rattle.std.specs.Prelude.{ℕ, zero, suc, ◌+◌, ◌-◌, Bool, false, ◌&&◌, ◌||◌, ◌==◌, nat_lt, if◌then◌else◌, Option, None, Some, List, [], ◌∷◌, take, drop, codes}
use Rattle.std.specs.Str.{byte}
use Rattle.wl_scan.specs.Lengths.{blank_length, digits_length, number_length, name_length, pattern_length, is_lone_dot, slot_marks, slot_length, out_length, text_length, is_quote, bad_escape, sign_length, begins_with, comment_length}
use Rattle.wl_scan.specs.Literals.{decimal_value, greatest, base_of, is_base, digit_fault, literal_value}
use Rattle.wl_scan.specs.declared.token.Kind.{Kind}
use Rattle.wl_scan.specs.declared.token.Kind.TheVariants.{Number, Name, Pattern, Slot, Out, Text, Sign}
use Rattle.wl_scan.specs.declared.token.ScanKind.{ScanKind}
use Rattle.wl_scan.specs.declared.token.ScanKind.TheVariants.{Real, LongNumber, BadChar, BadEscape, OpenString, OpenComment, Base, Digit}
use Rattle.wl_scan.specs.declared.token.ScanFault.{ScanFault}
use Rattle.wl_scan.specs.declared.found.Found.{Found}
use Rattle.wl_scan.specs.declared.found.Found.TheVariants.{Gap, Lexed, Fault}

-- a token, with the place of its first byte, counted from 1
pub record Lexeme : Type 0 where
  pub kind : Kind
  pub text : List ℕ
  pub at : ℕ

-- the tokens up to the end of a text, or up to the first fault
pub record Scanned : Type 0 where
  pub tokens : List Lexeme
  pub fault : Option ScanFault

-- the digits that these bytes begin with write a number past the greatest
abbrev pub is_long : List ℕ → Bool
is_long text = nat_lt greatest (decimal_value (take (digits_length text) text))

-- each form of token with its length here
unfoldable pub rows : List ℕ → List (Kind × ℕ)
rows text =
    (Number, number_length text) ∷ (Name, name_length text) ∷ (Pattern, pattern_length text) ∷ (Slot, slot_length text) ∷ (Out, out_length text) ∷ (Text, text_length text)
    ∷ (Sign, sign_length text) ∷ []

-- the longest of them
abbrev pub longest : List (Kind × ℕ) → Kind × ℕ
longest [] = (Sign, 0)
longest (row ∷ more) = if nat_lt row.1 (longest more).1 then longest more else row

-- a `.` with a digit behind it
abbrev pub is_fraction : List ℕ → Bool
is_fraction [] = false
is_fraction (b ∷ bs) = (b == byte ".") && nat_lt 0 (digits_length bs)

-- behind a `#` these may not stand: a name, or a string
abbrev pub is_word : List ℕ → Bool
is_word text = nat_lt 0 (name_length text) || is_quote text

-- no token begins here
abbrev pub unlexed : List ℕ → Found
unlexed text = if is_quote text then Fault OpenString 0 else Fault BadChar 0

-- a string of n bytes, unless an escape in it is at fault
abbrev pub string_lexed : ℕ → Option ℕ → Found
string_lexed n None = Lexed Text n
string_lexed n (Some k) = Fault BadEscape (1 + k)

-- a number of n bytes, of which one may be at fault: of several faults the digit comes first, then the point, then the size
abbrev pub in_base : Option ℕ → ℕ → List ℕ → Found
in_base (Some k) n text = Fault Digit k
in_base None n text =
    if is_lone_dot (drop n text) then Fault Real 0
    else (if nat_lt greatest (literal_value (take n text)) then Fault LongNumber 0 else Lexed Number n)

-- and the base before all of them
abbrev pub number_lexed : ℕ → List ℕ → Found
number_lexed n text = if is_base (base_of (take n text)) then in_base (digit_fault (take n text)) n text else Fault Base 0

-- a token of n bytes, unless it is at fault
abbrev pub lexed : Kind → ℕ → List ℕ → Found
lexed Number n text = number_lexed n text
lexed Slot n text =
    if is_long (drop (slot_marks text) text) then Fault LongNumber 0
    else (if (n == 1) && is_word (drop 1 text) then Fault BadChar 0 else Lexed Slot n)
lexed Out n text = if is_long (drop 1 text) then Fault LongNumber 0 else Lexed Out n
lexed Text n text = string_lexed n (bad_escape false (drop 1 text))
lexed kind n text = Lexed kind n

-- a comment that is closed stands between tokens
abbrev pub commented : Option ℕ → Found
commented None = Fault OpenComment 0
commented (Some n) = Gap n

-- the row that was chosen, where it is a token at all
abbrev pub chosen : Kind × ℕ → List ℕ → Found
chosen row text = if row.1 == 0 then unlexed text else lexed row.0 row.1 text

-- behind the blanks and comments: a token, or a fault that many bytes on
abbrev pub token_found : List ℕ → Found
token_found text = if is_fraction text then Fault Real 0 else chosen (longest (rows text)) text

abbrev pub is_comment : List ℕ → Bool
is_comment text = begins_with text (codes "(*")

-- what stands at a place where a token is looked for
abbrev pub found : List ℕ → Found
found text =
    if nat_lt 0 (blank_length text) then Gap (blank_length text)
    else (if is_comment text then commented (comment_length text) else token_found text)

abbrev pub nothing : Scanned
nothing = record { tokens = []; fault = None }

abbrev pub token_before : Lexeme → Scanned → Scanned
token_before token scanned = record scanned { tokens = token ∷ scanned.tokens }

abbrev pub faulty : ScanFault → Scanned
faulty fault = record { tokens = []; fault = Some fault }

abbrev pub fault_at : ScanKind → ℕ → Scanned
fault_at kind at = faulty (record { kind = kind; at = at })

-- what comes at a place: what was found there, and then the rest, of which this many bytes belong to it
abbrev pub coming : Found → List ℕ → ℕ → (ℕ → Scanned) → Scanned
coming (Gap n) text at rest = rest (n - 1)
coming (Lexed kind n) text at rest = token_before (record { kind = kind; text = take n text; at = at }) (rest (n - 1))
coming (Fault kind n) text at rest = fault_at kind (at + n)

-- what is still to come at a place, of which this many bytes belong to what was found before it. It gets the number of the place's byte and the bytes from there on
unfoldable pub scanned_from : ℕ → ℕ → List ℕ → Scanned
scanned_from passed at [] = nothing
scanned_from (suc passed) at (b ∷ bs) = scanned_from passed (at + 1) bs
scanned_from zero at (b ∷ bs) = coming (found (b ∷ bs)) (b ∷ bs) at (λ n. scanned_from n (at + 1) bs)

-- the tokens of a whole text, or its first fault
abbrev pub scanned : List ℕ → Scanned
scanned text = scanned_from 0 1 text
