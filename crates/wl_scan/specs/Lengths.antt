-- How many bytes each form of token, and each gap between tokens, takes at the start of a text; 0 where none begins there.
-- The names, patterns and slots are those of the Wolfram Language tutorials on syntax; which forms there are is this project's own choice.
use Rattle.std.specs.Prelude.{ℕ, ◌+◌, Bool, true, false, not, ◌&&◌, ◌==◌, nat_lt, max, if◌then◌else◌, Option, None, Some, List, [], ◌∷◌, length, take, drop, map, codes}
use Rattle.std.specs.Char.{len_utf8}
use Rattle.std.specs.Str.{chars, byte}
use Rattle.std.specs.Option.{unwrap_or}
use Rattle.std.specs.List.{list_any, prefix_len}
use Rattle.wl_ports.specs.Name.{begins_name, continues_name}
use Rattle.wl_scan.specs.Characters.{is_blank, is_digit, is_letter_or_digit}
use Rattle.wl_scan.specs.Places.{in_comment, is_code}
use Rattle.wl_scan.specs.declared.place.Region.{Region}
use Rattle.wl_scan.specs.declared.place.Region.TheVariants.{Comment}

-- a place that lies n bytes further on
abbrev pub beyond : ℕ → Option ℕ → Option ℕ
beyond n None = None
beyond n (Some k) = Some (n + k)

-- the blanks before a token

abbrev pub blank_length : List ℕ → ℕ
blank_length text = prefix_len is_blank text

-- numbers: digits, or the digits of a base and at once `^^` and letters and digits

abbrev pub begins_with : List ℕ → List ℕ → Bool
begins_with text [] = true
begins_with [] (s ∷ sign) = false
begins_with (b ∷ bs) (s ∷ sign) = (b == s) && begins_with bs sign

abbrev pub digits_length : List ℕ → ℕ
digits_length text = prefix_len is_digit text

abbrev pub letters_length : List ℕ → ℕ
letters_length text = prefix_len is_letter_or_digit text

-- whether `^^` stands right behind the digits that the text begins with
abbrev pub is_based : List ℕ → Bool
is_based text = begins_with (drop (digits_length text) text) (codes "^^")

abbrev pub number_length : List ℕ → ℕ
number_length text =
    let n = digits_length text in
    if n == 0 then 0
    else (if is_based text then n + 2 + letters_length (drop (n + 2) text)
    else n)

-- names, over the characters of the text

-- whether a character may stand in a name, the first or a later one
abbrev pub fits_name : Bool → ℕ → Bool
fits_name true c = begins_name c
fits_name false c = continues_name c

abbrev pub spelled_length : Bool → List ℕ → ℕ
spelled_length is_first [] = 0
spelled_length is_first (c ∷ cs) = if fits_name is_first c then len_utf8 c + spelled_length false cs else 0

abbrev pub name_length : List ℕ → ℕ
name_length text = spelled_length true (chars text)

-- patterns: a name or none, one to three `_`, and a name or none. Behind one `_` alone, a `.` that no further `.` follows belongs to it

-- up to three `_`
abbrev pub marks_length : List ℕ → ℕ
marks_length text = prefix_len (λ b. b == byte "_") (take 3 text)

-- a `.` that no further `.` follows
abbrev pub is_lone_dot : List ℕ → Bool
is_lone_dot [] = false
is_lone_dot (b ∷ []) = b == byte "."
is_lone_dot (b ∷ c ∷ cs) = (b == byte ".") && not (c == byte ".")

-- what follows n marks in the same pattern
abbrev pub tail_length : ℕ → List ℕ → ℕ
tail_length n text = if nat_lt 0 (name_length text) then name_length text else (if (n == 1) && is_lone_dot text then 1 else 0)

-- the marks and what follows them
abbrev pub blanks_length : List ℕ → ℕ
blanks_length text = let n = marks_length text in if n == 0 then 0 else n + tail_length n (drop n text)

abbrev pub pattern_length : List ℕ → ℕ
pattern_length text = let n = blanks_length (drop (name_length text) text) in if n == 0 then 0 else name_length text + n

-- slots: `#` or `##`, and digits

abbrev pub slot_marks : List ℕ → ℕ
slot_marks [] = 0
slot_marks (b ∷ []) = if b == byte "#" then 1 else 0
slot_marks (b ∷ c ∷ cs) = if b == byte "#" then (if c == byte "#" then 2 else 1) else 0

abbrev pub slot_length : List ℕ → ℕ
slot_length text = let n = slot_marks text in if n == 0 then 0 else n + digits_length (drop n text)

-- earlier outputs: some `%`, or one `%` and digits

abbrev pub percents_length : List ℕ → ℕ
percents_length text = prefix_len (λ b. b == byte "%") text

abbrev pub out_length : List ℕ → ℕ
out_length text = let n = percents_length text in if n == 1 then 1 + digits_length (drop 1 text) else n

-- strings: from a `"` to the next, where a `\` takes the next byte with it

-- how many bytes there are up to and with the `"` that closes; the first is taken by a `\` before it, or isn't
abbrev pub closed_length : Bool → List ℕ → Option ℕ
closed_length taken [] = None
closed_length true (b ∷ bs) = beyond 1 (closed_length false bs)
closed_length false (b ∷ bs) = if b == byte "\"" then Some 1 else beyond 1 (closed_length (b == byte "\\") bs)

abbrev pub is_quote : List ℕ → Bool
is_quote [] = false
is_quote (b ∷ bs) = b == byte "\""

abbrev pub text_length : List ℕ → ℕ
text_length text = if is_quote text then unwrap_or (beyond 1 (closed_length false (drop 1 text))) 0 else 0

-- whether a `\` before these bytes stands for a character: `\"` `\\` `\n` `\t` `\r`
abbrev pub is_escape : List ℕ → Bool
is_escape [] = false
is_escape (b ∷ bs) = list_any (λ x. b == x) (codes "\"\\ntr")

-- where the first `\` stands that has no such byte behind it, in a string that is closed
abbrev pub bad_escape : Bool → List ℕ → Option ℕ
bad_escape taken [] = None
bad_escape true (b ∷ bs) = beyond 1 (bad_escape false bs)
bad_escape false (b ∷ bs) =
    if b == byte "\"" then None
    else (if (b == byte "\\") && not (is_escape bs) then Some 0
    else beyond 1 (bad_escape (b == byte "\\") bs))

-- signs: the longest of the list

abbrev pub signs : List (List ℕ)
signs =
    map codes ("(" ∷ ")" ∷ "[" ∷ "]" ∷ "{" ∷ "}" ∷ "," ∷ "::" ∷ "?" ∷ "++" ∷ "--" ∷ "@" ∷ "/@" ∷ "@@" ∷ "@@@" ∷ "!" ∷ "!!" ∷ "<>" ∷ "^" ∷ "-" ∷ "/" ∷ "*" ∷ "+"
    ∷ "==" ∷ "!=" ∷ "<" ∷ "<=" ∷ ">" ∷ ">=" ∷ "===" ∷ "=!=" ∷ "&&" ∷ "||" ∷ ".." ∷ "..." ∷ "|" ∷ ":" ∷ "~~" ∷ "/;" ∷ "->" ∷ ":>" ∷ "/." ∷ "//." ∷ "+=" ∷ "-=" ∷ "*=" ∷ "/="
    ∷ "&" ∷ "//" ∷ "=" ∷ ":=" ∷ "^=" ∷ "^:=" ∷ "/:" ∷ "=." ∷ ";" ∷ ";;" ∷ [])

-- the length of the longest of these signs that begin the text
abbrev pub longest_sign : List (List ℕ) → List ℕ → ℕ
longest_sign [] text = 0
longest_sign (sign ∷ more) text = max (if begins_with text sign then length sign else 0) (longest_sign more text)

abbrev pub sign_length : List ℕ → ℕ
sign_length text = longest_sign signs text

-- comments: up to the byte behind which the text is code again

abbrev pub comment_rest : Region → List ℕ → Option ℕ
comment_rest region [] = None
comment_rest region (b ∷ bs) = if is_code (in_comment region b) then Some 1 else beyond 1 (comment_rest (in_comment region b) bs)

-- the whole comment that a `(*` begins, where it is closed
abbrev pub comment_length : List ℕ → Option ℕ
comment_length text = beyond 2 (comment_rest (Comment 1) (drop 2 text))
