-- The first byte of a text decides which rows are not empty.
use Rattle.std.proofs.Common.{inl, inr, ◌≡◌, ◌==◌, ℕ, ◌+◌, ◌-◌, ◌≤◌, ◌<◌, Bool, true, false, ◌&&◌, ◌||◌, cond, ltb, leb, max, List, [], ◌∷◌, ◌++◌, length, take, drop, get_or, ap, sym, subst, refl, ◌∙◌, arith, le-ltb, lt-ltb, ne_eqb, Option}
use Rattle.std.specs.Str.{IsUtf8}
use Rattle.std.specs.Char.{is_ascii_alphabetic}
use Rattle.std.proofs.lemmas.Str.{chars_past_char, encode_ascii}
use Rattle.std.proofs.lemmas.Bool.{cases_lt, cond_both, cond-true, cond-false, agree_below_at, agree_below, or_parts, and_from, le-leb, and_parts, eqb-true, leb-true, true≢false}
use Rattle.unicode_ident.proofs.IdentLemmas.{is_xid_start-ascii}
use Rattle.unicode_ident.proofs.Computing.{unicode_ident}
use Rattle.wl_ports.specs.Name.{begins_name}
use Rattle.wl_scan.specs.Characters.{is_digit}
use Rattle.wl_scan.specs.Lengths.{digits_length, letters_length, is_based, number_length, marks_length, spelled_length, name_length, tail_length, blanks_length, pattern_length, slot_marks, slot_length, percents_length, out_length, is_quote, text_length, beyond, comment_rest, comment_length, blank_length, signs, begins_with, longest_sign, sign_length}
use Rattle.wl_scan.specs.Tokens.{longest, rows, chosen, lexed, is_fraction, token_found, is_comment, commented, found}
use Rattle.wl_scan.specs.Scanning.{word_or_sign}
use Rattle.wl_scan.specs.declared.token.Kind.{Kind}
use Rattle.wl_scan.specs.declared.token.Kind.TheVariants.{Number, Name, Pattern, Slot, Out, Text, Sign}
use Rattle.std.proofs.lemmas.List.{take_rest}
use Rattle.wl_scan.specs.declared.place.Region.TheVariants.{Comment}
use Rattle.wl_scan.specs.declared.found.Found.TheVariants.{Lexed}

-- the longest of the rows where all but one are empty

abbrev table : ℕ → ℕ → ℕ → ℕ → ℕ → ℕ → ℕ → List (Kind × ℕ)
table d n p s o t g = (Number, d) ∷ (Name, n) ∷ (Pattern, p) ∷ (Slot, s) ∷ (Out, o) ∷ (Text, t) ∷ (Sign, g) ∷ []

-- a row before a longer one
before : (kind : Kind) (n : ℕ) (more : List (Kind × ℕ)) (row : Kind × ℕ) → longest more ≡ row → n < row.1 → longest ((kind, n) ∷ more) ≡ row
before kind n more row is longer =
    ap (λ (r : Kind × ℕ). cond (ltb n r.1) r (kind, n)) is ∙ cond-true (ltb n row.1) row (kind, n) (lt-ltb n row.1 longer)

under : (kind : Kind) (more : List (Kind × ℕ)) (row : Kind × ℕ) → longest more ≡ row → 0 < row.1 → longest ((kind, 0) ∷ more) ≡ row
under kind more row is some = before kind 0 more row is some

-- a row before none that is longer
over : (row : Kind × ℕ) (more : List (Kind × ℕ)) → (longest more).1 ≤ row.1 → longest (row ∷ more) ≡ row
over row more none = cond-false (ltb row.1 (longest more).1) (longest more) row (le-ltb row.1 (longest more).1 none)

only_number : (d : ℕ) → longest (table d 0 0 0 0 0 0) ≡ (Number, d)
only_number d = over (Number, d) ((Name, 0) ∷ (Pattern, 0) ∷ (Slot, 0) ∷ (Out, 0) ∷ (Text, 0) ∷ (Sign, 0) ∷ []) (omega arith)

only_slot : (s : ℕ) → 0 < s → longest (table 0 0 0 s 0 0 0) ≡ (Slot, s)
only_slot s some =
    let rest = (Out, 0) ∷ (Text, 0) ∷ (Sign, 0) ∷ [] in
    let here : longest ((Slot, s) ∷ rest) ≡ (Slot, s) = over (Slot, s) rest (omega arith) in
    let patterns = under Pattern ((Slot, s) ∷ rest) (Slot, s) here some in
    under Number ((Name, 0) ∷ (Pattern, 0) ∷ (Slot, s) ∷ rest) (Slot, s) (under Name ((Pattern, 0) ∷ (Slot, s) ∷ rest) (Slot, s) patterns some) some

only_out : (o : ℕ) → 0 < o → longest (table 0 0 0 0 o 0 0) ≡ (Out, o)
only_out o some =
    let rest = (Text, 0) ∷ (Sign, 0) ∷ [] in
    let here : longest ((Out, o) ∷ rest) ≡ (Out, o) = over (Out, o) rest (omega arith) in
    let slots = under Slot ((Out, o) ∷ rest) (Out, o) here some in
    let patterns = under Pattern ((Slot, 0) ∷ (Out, o) ∷ rest) (Out, o) slots some in
    let names = under Name ((Pattern, 0) ∷ (Slot, 0) ∷ (Out, o) ∷ rest) (Out, o) patterns some in
    under Number ((Name, 0) ∷ (Pattern, 0) ∷ (Slot, 0) ∷ (Out, o) ∷ rest) (Out, o) names some

only_text : (t : ℕ) → 0 < t → longest (table 0 0 0 0 0 t 0) ≡ (Text, t)
only_text t some =
    let rest = (Sign, 0) ∷ [] in
    let here : longest ((Text, t) ∷ rest) ≡ (Text, t) = over (Text, t) rest (omega arith) in
    let outs = under Out ((Text, t) ∷ rest) (Text, t) here some in
    let slots = under Slot ((Out, 0) ∷ (Text, t) ∷ rest) (Text, t) outs some in
    let patterns = under Pattern ((Slot, 0) ∷ (Out, 0) ∷ (Text, t) ∷ rest) (Text, t) slots some in
    let names = under Name ((Pattern, 0) ∷ (Slot, 0) ∷ (Out, 0) ∷ (Text, t) ∷ rest) (Text, t) patterns some in
    under Number ((Name, 0) ∷ (Pattern, 0) ∷ (Slot, 0) ∷ (Out, 0) ∷ (Text, t) ∷ rest) (Text, t) names some

-- rows that are empty for a first byte

no_digits : (b : ℕ) (bs : List ℕ) → is_digit b ≡ false → digits_length (b ∷ bs) ≡ 0
no_digits b bs none = cond-false (is_digit b) _ _ none

no_number : (b : ℕ) (bs : List ℕ) → is_digit b ≡ false → number_length (b ∷ bs) ≡ 0
no_number b bs none =
    let text = b ∷ bs in
    ap (λ (n : ℕ). cond (n == 0) 0 (cond (is_based text) (n + 2 + letters_length (drop (n + 2) text)) n)) (no_digits b bs none)

no_name : (b : ℕ) (bs : List ℕ) → IsUtf8 (b ∷ bs) → b < 128 → begins_name b ≡ false → name_length (b ∷ bs) ≡ 0
no_name b bs utf8 ascii none =
    ap (spelled_length true) (chars_past_char (b ∷ bs) bs b utf8 (ap (λ (l : List ℕ). l ++ bs) (sym (encode_ascii b ascii)))) ∙ cond-false (begins_name b) _ _ none

no_blanks : (b : ℕ) (bs : List ℕ) → (b == 95) ≡ false → blanks_length (b ∷ bs) ≡ 0
no_blanks b bs none =
    let marks : marks_length (b ∷ bs) ≡ 0 = cond-false (b == 95) _ _ none in
    ap (λ (n : ℕ). cond (n == 0) 0 (n + tail_length n (drop n (b ∷ bs)))) marks

no_pattern : (b : ℕ) (bs : List ℕ) → name_length (b ∷ bs) ≡ 0 → (b == 95) ≡ false → pattern_length (b ∷ bs) ≡ 0
no_pattern b bs no_name none =
    ap (λ (m : ℕ). let n = blanks_length (drop m (b ∷ bs)) in cond (n == 0) 0 (m + n)) no_name
    ∙ ap (λ (n : ℕ). cond (n == 0) 0 (0 + n)) (no_blanks b bs none)

no_marks : (b : ℕ) (bs : List ℕ) → (b == 35) ≡ false → slot_marks (b ∷ bs) ≡ 0
no_marks b [] none = cond-false (b == 35) _ _ none
no_marks b (c ∷ cs) none = cond-false (b == 35) _ _ none

no_slot : (b : ℕ) (bs : List ℕ) → (b == 35) ≡ false → slot_length (b ∷ bs) ≡ 0
no_slot b bs none = ap (λ (n : ℕ). cond (n == 0) 0 (n + digits_length (drop n (b ∷ bs)))) (no_marks b bs none)

no_out : (b : ℕ) (bs : List ℕ) → (b == 37) ≡ false → out_length (b ∷ bs) ≡ 0
no_out b bs none = ap (λ (n : ℕ). cond (n == 1) (1 + digits_length (drop 1 (b ∷ bs))) n) (cond-false (b == 37) _ _ none)

no_text : (b : ℕ) (bs : List ℕ) → (b == 34) ≡ false → text_length (b ∷ bs) ≡ 0
no_text b bs none = cond-false (b == 34) _ _ none

-- some of these signs begins with this byte
abbrev is_first : List (List ℕ) → ℕ → Bool
is_first [] b = false
is_first ([] ∷ more) b = true
is_first ((s ∷ sign) ∷ more) b = (b == s) || is_first more b

no_sign_of : (list : List (List ℕ)) (b : ℕ) (bs : List ℕ) → is_first list b ≡ false → longest_sign list (b ∷ bs) ≡ 0
no_sign_of [] b bs none = refl
no_sign_of ([] ∷ more) b bs none = absurd (true≢false none)
no_sign_of ((s ∷ sign) ∷ more) b bs none =
    let parts = or_parts (b == s) (is_first more b) none in
    let here : begins_with (b ∷ bs) (s ∷ sign) ≡ false = ap (λ (t : Bool). t && begins_with bs sign) parts.0 in
    ap (λ (t : Bool). max (cond t (length (s ∷ sign)) 0) (longest_sign more (b ∷ bs))) here ∙ ap (max 0) (no_sign_of more b bs parts.1)

-- a digit begins no name and no sign

digit_below : (b : ℕ) → is_digit b ≡ true → b < 128
digit_below b digit = omega (arith, leb-true b 57 (and_parts (leb 48 b) (leb b 57) digit).1)

digit_elsewhere : (f : ℕ → Bool) (b : ℕ) → agree_below (λ c. is_digit c && f c) (λ _. false) 128 ≡ true → is_digit b ≡ true → f b ≡ false
digit_elsewhere f b table digit =
    let none : (is_digit b && f b) ≡ false = agree_below_at (λ c. is_digit c && f c) (λ _. false) 128 b table (digit_below b digit) in
    sym (ap (λ (t : Bool). t && f b) digit) ∙ none

digit_begins_no_name : (b : ℕ) → is_digit b ≡ true → begins_name b ≡ false
digit_begins_no_name b digit =
    ap (λ (t : Bool). t || (b == 36)) (is_xid_start-ascii b (digit_below b digit)) ∙ digit_elsewhere (λ c. is_ascii_alphabetic c || (c == 36)) b refl digit

-- the rows of a text whose first byte is none of a digit, `#`, `%` and `"`

abbrev others : ℕ → List (Kind × ℕ)
others g = (Slot, 0) ∷ (Out, 0) ∷ (Text, 0) ∷ (Sign, g) ∷ []

some_sign : (g : ℕ) → 0 < g → longest (others g) ≡ (Sign, g)
some_sign g some =
    let here : longest ((Sign, g) ∷ []) ≡ (Sign, g) = over (Sign, g) [] (omega arith) in
    let texts = under Text ((Sign, g) ∷ []) (Sign, g) here some in
    let outs = under Out ((Text, 0) ∷ (Sign, g) ∷ []) (Sign, g) texts some in
    under Slot ((Out, 0) ∷ (Text, 0) ∷ (Sign, g) ∷ []) (Sign, g) outs some

others_length : (g : ℕ) → (longest (others g)).1 ≡ g
others_length g =
    elim (cases_lt 0 g) [
      | inl some ↦ ap (λ (r : Kind × ℕ). r.1) (some_sign g some)
      | inr none ↦ let zero_sign : g ≡ 0 = omega arith in ap (λ (k : ℕ). (longest (others k)).1) zero_sign ∙ sym zero_sign
    ]

patterns_length : (g : ℕ) → (longest ((Pattern, 0) ∷ others g)).1 ≡ g
patterns_length g =
    elim (cases_lt 0 g) [
      | inl some ↦ ap (λ (r : Kind × ℕ). r.1) (under Pattern (others g) (Sign, g) (some_sign g some) some)
      | inr none ↦ let zero_sign : g ≡ 0 = omega arith in ap (λ (k : ℕ). (longest ((Pattern, 0) ∷ others k)).1) zero_sign ∙ sym zero_sign
    ]

-- a row that isn't empty is lexed
some_row : (kind : Kind) (n : ℕ) (text : List ℕ) → 0 < n → chosen (kind, n) text ≡ lexed kind n text
some_row kind n text some = cond-false (n == 0) _ _ (ne_eqb n 0 (λ e. omega (arith, e, some)))

sign_wins : (kind : Kind) (w g : ℕ) → w < g → word_or_sign kind w g ≡ Lexed Sign g
sign_wins kind w g longer = cond-true (ltb w g) _ _ (lt-ltb w g longer)

word_wins : (kind : Kind) (w g : ℕ) → g ≤ w → 0 < w → word_or_sign kind w g ≡ Lexed kind w
word_wins kind w g longer some = cond-false (ltb w g) _ _ (le-ltb w g longer) ∙ cond-false (w == 0) _ _ (ne_eqb w 0 (λ e. omega (arith, e, some)))

name_or_sign : (n g : ℕ) (text : List ℕ) → is_quote text ≡ false → word_or_sign Name n g ≡ chosen (longest (table 0 n 0 0 0 0 g)) text
name_or_sign n g text no_quote =
    let tail = (Pattern, 0) ∷ others g in
    elim (cases_lt n g) [
      | inl longer ↦
          let some : 0 < g = omega arith in
          let patterns = under Pattern (others g) (Sign, g) (some_sign g some) some in
          let all = under Number ((Name, n) ∷ tail) (Sign, g) (before Name n tail (Sign, g) patterns longer) some in
          sign_wins Name n g longer ∙ sym (ap (λ (r : Kind × ℕ). chosen r text) all ∙ some_row Sign g text some)
      | inr shorter ↦
          let names = over (Name, n) tail (omega (arith, patterns_length g)) in
          elim (cases_lt 0 n) [
            | inl some ↦
                let all = under Number ((Name, n) ∷ tail) (Name, n) names some in
                word_wins Name n g shorter some ∙ sym (ap (λ (r : Kind × ℕ). chosen r text) all ∙ some_row Name n text some)
            | inr none ↦
                let no_name : n ≡ 0 = omega arith in
                let no_sign : g ≡ 0 = omega arith in
                ap (λ (k : ℕ). word_or_sign Name k g) no_name ∙ ap (λ (k : ℕ). word_or_sign Name 0 k) no_sign
                ∙ sym (ap (λ (k : ℕ). chosen (longest (table 0 k 0 0 0 0 g)) text) no_name ∙ ap (λ (k : ℕ). chosen (longest (table 0 0 0 0 0 0 k)) text) no_sign
                ∙ cond-false (is_quote text) _ _ no_quote)
          ]
    ]

pattern_or_sign : (n p g : ℕ) (text : List ℕ) → n < p → word_or_sign Pattern p g ≡ chosen (longest (table 0 n p 0 0 0 g)) text
pattern_or_sign n p g text more =
    let tail = (Pattern, p) ∷ others g in
    elim (cases_lt p g) [
      | inl longer ↦
          let some : 0 < g = omega arith in
          let patterns = before Pattern p (others g) (Sign, g) (some_sign g some) longer in
          let all = under Number ((Name, n) ∷ tail) (Sign, g) (before Name n tail (Sign, g) patterns (omega arith)) some in
          sign_wins Pattern p g longer ∙ sym (ap (λ (r : Kind × ℕ). chosen r text) all ∙ some_row Sign g text some)
      | inr shorter ↦
          let some : 0 < p = omega arith in
          let patterns = over (Pattern, p) (others g) (omega (arith, others_length g)) in
          let all = under Number ((Name, n) ∷ tail) (Pattern, p) (before Name n tail (Pattern, p) patterns more) some in
          word_wins Pattern p g shorter some ∙ sym (ap (λ (r : Kind × ℕ). chosen r text) all ∙ some_row Pattern p text some)
    ]

-- the rows by their lengths
rows_are : (text : List ℕ) (d n p s o t g : ℕ) → number_length text ≡ d → name_length text ≡ n → pattern_length text ≡ p → slot_length text ≡ s → out_length text ≡ o
    → text_length text ≡ t → sign_length text ≡ g → rows text ≡ table d n p s o t g
unfolding rows
rows_are text d n p s o t g ed en ep es eo et eg = cc

-- what the code asks of the first byte of a word or sign
pub record BeginsWordOrSign (text : List ℕ) : Type 0 where
  pub some : 0 < length text
  pub digit : is_digit (get_or text 0 0) ≡ false
  pub slot : get_or text 0 0 ≡ 35 → ⊥
  pub out : get_or text 0 0 ≡ 37 → ⊥
  pub quote : get_or text 0 0 ≡ 34 → ⊥

word_rows : (text : List ℕ) (p : ℕ) → BeginsWordOrSign text → pattern_length text ≡ p → rows text ≡ table 0 (name_length text) p 0 0 0 (sign_length text)
word_rows [] p begins pattern = absurd (omega (arith, begins.some))
word_rows (b ∷ bs) p begins pattern =
    rows_are (b ∷ bs) 0 (name_length (b ∷ bs)) p 0 0 0 (sign_length (b ∷ bs)) (no_number b bs begins.digit) refl pattern (no_slot b bs (ne_eqb b 35 begins.slot))
    (no_out b bs (ne_eqb b 37 begins.out)) (no_text b bs (ne_eqb b 34 begins.quote)) refl

no_quote_first : (text : List ℕ) → BeginsWordOrSign text → is_quote text ≡ false
no_quote_first [] begins = refl
no_quote_first (b ∷ bs) begins = ne_eqb b 34 begins.quote

-- a name or a sign, where no `_` follows the name
pub word_is_name : (text : List ℕ) (n g k : ℕ) → BeginsWordOrSign text → n ≡ name_length text → g ≡ sign_length text → k ≡ blanks_length (drop n text) → k ≡ 0
    → word_or_sign Name n g ≡ chosen (longest (rows text)) text
word_is_name text n g k begins name sign marks none =
    let no_blanks : blanks_length (drop (name_length text) text) ≡ 0 = ap (λ (m : ℕ). blanks_length (drop m text)) (sym name) ∙ sym marks ∙ none in
    let pattern : pattern_length text ≡ 0 = ap (λ (m : ℕ). cond (m == 0) 0 (name_length text + m)) no_blanks in
    ap (λ (m : ℕ). word_or_sign Name m g) name ∙ ap (λ (m : ℕ). word_or_sign Name (name_length text) m) sign
    ∙ name_or_sign (name_length text) (sign_length text) text (no_quote_first text begins)
    ∙ ap (λ (list : List (Kind × ℕ)). chosen (longest list) text) (sym (word_rows text 0 begins pattern))

-- a pattern or a sign
pub word_is_pattern : (text : List ℕ) (n g k : ℕ) → BeginsWordOrSign text → n ≡ name_length text → g ≡ sign_length text → k ≡ blanks_length (drop n text) → 0 < k
    → word_or_sign Pattern (n + k) g ≡ chosen (longest (rows text)) text
word_is_pattern text n g k begins name sign marks some =
    let blanks : blanks_length (drop (name_length text) text) ≡ k = ap (λ (m : ℕ). blanks_length (drop m text)) (sym name) ∙ sym marks in
    let pattern : pattern_length text ≡ n + k =
    ap (λ (m : ℕ). cond (m == 0) 0 (name_length text + m)) blanks ∙ cond-false (k == 0) _ _ (ne_eqb k 0 (λ e. omega (arith, e, some))) ∙ ap (λ (m : ℕ). m + k) (sym name) in
    ap (λ (m : ℕ). word_or_sign Pattern (n + k) m) sign
    ∙ pattern_or_sign (name_length text) (n + k) (sign_length text) text (omega (arith, name, some))
    ∙ ap (λ (list : List (Kind × ℕ)). chosen (longest list) text) (sym (word_rows text (n + k) begins pattern))

-- the rows of a text that begins with a digit, `#`, `%` or `"`

no_sign_digit : (b : ℕ) (bs : List ℕ) → is_digit b ≡ true → sign_length (b ∷ bs) ≡ 0
no_sign_digit b bs digit = no_sign_of signs b bs (digit_elsewhere (is_first signs) b refl digit)

digit_is_not : (k : ℕ) (b : ℕ) → agree_below (λ c. is_digit c && (c == k)) (λ _. false) 128 ≡ true → is_digit b ≡ true → (b == k) ≡ false
digit_is_not k b table digit = digit_elsewhere (λ c. c == k) b table digit

some_digits : (b : ℕ) (bs : List ℕ) → is_digit b ≡ true → 0 < digits_length (b ∷ bs)
some_digits b bs digit = omega (arith, cond-true (is_digit b) (1 + digits_length bs) 0 digit)

some_number : (b : ℕ) (bs : List ℕ) → is_digit b ≡ true → 0 < number_length (b ∷ bs)
some_number b bs digit =
    let n = digits_length (b ∷ bs) in
    let some = some_digits b bs digit in
    cond_both (n == 0) 0 _ (λ (k : ℕ). 0 < k) (λ none. absurd (omega (arith, some, eqb-true n 0 none)))
    (λ _. cond_both (is_based (b ∷ bs)) (n + 2 + letters_length (drop (n + 2) (b ∷ bs))) n (λ (k : ℕ). 0 < k) (λ _. omega arith) (λ _. some))

pub number_found : (text : List ℕ) → IsUtf8 text → 0 < length text → is_digit (get_or text 0 0) ≡ true → is_fraction text ≡ false
    → lexed Number (number_length text) text ≡ token_found text
number_found [] utf8 some digit whole = absurd (omega (arith, some))
number_found (b ∷ bs) utf8 some digit whole =
    let text = b ∷ bs in
    let name = no_name b bs utf8 (digit_below b digit) (digit_begins_no_name b digit) in
    let all : rows text ≡ table (number_length text) 0 0 0 0 0 0 =
    rows_are text (number_length text) 0 0 0 0 0 0 refl name (no_pattern b bs name (digit_is_not 95 b refl digit)) (no_slot b bs (digit_is_not 35 b refl digit))
    (no_out b bs (digit_is_not 37 b refl digit)) (no_text b bs (digit_is_not 34 b refl digit)) (no_sign_digit b bs digit) in
    sym (cond-false (is_fraction text) _ _ whole ∙ ap (λ (list : List (Kind × ℕ)). chosen (longest list) text) all
    ∙ ap (λ (row : Kind × ℕ). chosen row text) (only_number (number_length text)) ∙ some_row Number (number_length text) text (some_number b bs digit))

-- `#`, `%` and `"` begin no name

marks_are_no_names : (begins_name 35 ≡ false) × (begins_name 37 ≡ false) × (begins_name 34 ≡ false)
unfolding unicode_ident
marks_are_no_names = (refl, refl, refl)

some_marks : (bs : List ℕ) → 0 < slot_marks (35 ∷ bs)
some_marks [] = omega arith
some_marks (c ∷ cs) = cond_both (c == 35) 2 1 (λ (n : ℕ). 0 < n) (λ _. omega arith) (λ _. omega arith)

some_slot : (bs : List ℕ) → 0 < slot_length (35 ∷ bs)
some_slot bs =
    let n = slot_marks (35 ∷ bs) in
    omega (arith, some_marks bs, cond-false (n == 0) 0 (n + digits_length (drop n (35 ∷ bs))) (ne_eqb n 0 (λ e. omega (arith, e, some_marks bs))))

slot_row : (bs : List ℕ) → IsUtf8 (35 ∷ bs) → lexed Slot (slot_length (35 ∷ bs)) (35 ∷ bs) ≡ token_found (35 ∷ bs)
slot_row bs utf8 =
    let text = 35 ∷ bs in
    let name = no_name 35 bs utf8 (omega arith) marks_are_no_names.0 in
    let all : rows text ≡ table 0 0 0 (slot_length text) 0 0 0 =
    rows_are text 0 0 0 (slot_length text) 0 0 0 refl name (no_pattern 35 bs name refl) refl (no_out 35 bs refl) (no_text 35 bs refl) refl in
    sym (ap (λ (list : List (Kind × ℕ)). chosen (longest list) text) all
    ∙ ap (λ (row : Kind × ℕ). chosen row text) (only_slot (slot_length text) (some_slot bs)) ∙ some_row Slot (slot_length text) text (some_slot bs))

some_out : (bs : List ℕ) → 0 < out_length (37 ∷ bs)
some_out bs =
    let n = percents_length (37 ∷ bs) in
    let some : 0 < n = omega arith in
    cond_both (n == 1) (1 + digits_length (drop 1 (37 ∷ bs))) n (λ (k : ℕ). 0 < k) (λ _. omega arith) (λ _. some)

out_row : (bs : List ℕ) → IsUtf8 (37 ∷ bs) → lexed Out (out_length (37 ∷ bs)) (37 ∷ bs) ≡ token_found (37 ∷ bs)
out_row bs utf8 =
    let text = 37 ∷ bs in
    let name = no_name 37 bs utf8 (omega arith) marks_are_no_names.1 in
    let all : rows text ≡ table 0 0 0 0 (out_length text) 0 0 =
    rows_are text 0 0 0 0 (out_length text) 0 0 refl name (no_pattern 37 bs name refl) (no_slot 37 bs refl) refl (no_text 37 bs refl) refl in
    sym (ap (λ (list : List (Kind × ℕ)). chosen (longest list) text) all
    ∙ ap (λ (row : Kind × ℕ). chosen row text) (only_out (out_length text) (some_out bs)) ∙ some_row Out (out_length text) text (some_out bs))

-- a string that isn't closed leaves all rows empty
text_or_none : (t : ℕ) (text : List ℕ) → chosen (Text, t) text ≡ chosen (longest (table 0 0 0 0 0 t 0)) text
text_or_none t text =
    elim (cases_lt 0 t) [
      | inl some ↦ sym (ap (λ (row : Kind × ℕ). chosen row text) (only_text t some))
      | inr none ↦
          let no_text : t ≡ 0 = omega arith in
          ap (λ (k : ℕ). chosen (Text, k) text) no_text ∙ sym (ap (λ (k : ℕ). chosen (longest (table 0 0 0 0 0 k 0)) text) no_text)
    ]

text_row : (bs : List ℕ) → IsUtf8 (34 ∷ bs) → chosen (Text, text_length (34 ∷ bs)) (34 ∷ bs) ≡ token_found (34 ∷ bs)
text_row bs utf8 =
    let text = 34 ∷ bs in
    let name = no_name 34 bs utf8 (omega arith) marks_are_no_names.2 in
    let all : rows text ≡ table 0 0 0 0 0 (text_length text) 0 =
    rows_are text 0 0 0 0 0 (text_length text) 0 refl name (no_pattern 34 bs name refl) (no_slot 34 bs refl) (no_out 34 bs refl) refl refl in
    text_or_none (text_length text) text ∙ sym (ap (λ (list : List (Kind × ℕ)). chosen (longest list) text) all)

-- the same by what the first byte is
pub slot_found : (text : List ℕ) → IsUtf8 text → 0 < length text → get_or text 0 0 ≡ 35 → lexed Slot (slot_length text) text ≡ token_found text
slot_found [] utf8 some is = absurd (omega (arith, some))
slot_found (b ∷ bs) utf8 some is =
    subst (λ (x : ℕ). lexed Slot (slot_length (x ∷ bs)) (x ∷ bs) ≡ token_found (x ∷ bs)) (sym is) (slot_row bs (subst (λ (x : ℕ). IsUtf8 (x ∷ bs)) is utf8))

pub out_found : (text : List ℕ) → IsUtf8 text → 0 < length text → get_or text 0 0 ≡ 37 → lexed Out (out_length text) text ≡ token_found text
out_found [] utf8 some is = absurd (omega (arith, some))
out_found (b ∷ bs) utf8 some is =
    subst (λ (x : ℕ). lexed Out (out_length (x ∷ bs)) (x ∷ bs) ≡ token_found (x ∷ bs)) (sym is) (out_row bs (subst (λ (x : ℕ). IsUtf8 (x ∷ bs)) is utf8))

pub text_found : (text : List ℕ) → IsUtf8 text → 0 < length text → get_or text 0 0 ≡ 34 → chosen (Text, text_length text) text ≡ token_found text
text_found [] utf8 some is = absurd (omega (arith, some))
text_found (b ∷ bs) utf8 some is =
    subst (λ (x : ℕ). chosen (Text, text_length (x ∷ bs)) (x ∷ bs) ≡ token_found (x ∷ bs)) (sym is) (text_row bs (subst (λ (x : ℕ). IsUtf8 (x ∷ bs)) is utf8))

pub digit_between : (b : ℕ) → 48 ≤ b → b ≤ 57 → is_digit b ≡ true
digit_between b low high = and_from (leb 48 b) (leb b 57) (le-leb 48 b low) (le-leb b 57 high)

-- where no blank comes first
pub unspaced : (text : List ℕ) (blanks : ℕ) → blanks ≡ blank_length text → blanks ≤ 0 → found text ≡ cond (is_comment text) (commented (comment_length text)) (token_found text)
unspaced text blanks count none = cond-false (ltb 0 (blank_length text)) _ _ (le-ltb 0 (blank_length text) (omega (arith, count, none)))

pub comment_found : (text bytes : List ℕ) (blanks : ℕ) (rest : Option ℕ) → bytes ≡ text → blanks ≡ blank_length bytes → blanks ≤ 0 → is_comment bytes ≡ true
    → rest ≡ comment_rest (Comment 1) (take (length bytes - 2) (drop 2 bytes)) → commented (beyond 2 rest) ≡ found text
comment_found text bytes blanks rest same count none comment behind =
    ap (λ (o : Option ℕ). commented (beyond 2 o)) (behind ∙ ap (comment_rest (Comment 1)) (take_rest bytes 2))
    ∙ sym (unspaced bytes blanks count none ∙ cond-true (is_comment bytes) _ _ comment) ∙ ap found same
