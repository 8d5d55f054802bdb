-- How far what is found reaches: within the text, and to a place where what is left is UTF-8 again.
use Rattle.std.proofs.Common.{◌≡◌, ◌==◌, ℕ, suc, ◌+◌, ◌≤◌, ◌<◌, Bool, true, false, not, ◌&&◌, cond, ltb, leb, max, List, [], ◌∷◌, ◌++◌, length, take, drop, codes, get_or, ap, sym, subst, refl, ◌∙◌, arith, inl, inr, Option, None, Some}
use Rattle.std.proofs.lemmas.List.Sums.{prefix_len-le-length}
use Rattle.std.specs.List.{prefix_len, list_all}
use Rattle.std.specs.Option.{unwrap_or}
use Rattle.std.specs.Char.{encode_utf8, len_utf8}
use Rattle.std.specs.Str.{chars, IsUtf8, all_scalars, encode_utf8_all, IsCharBoundary}
use Rattle.std.proofs.lemmas.Str.{IsUtf8-drop, IsUtf8-nil, IsCharBoundary-after_ascii, IsCharBoundary-from_drop, IsCharBoundary-from_rest, chars-encodes, length-encode}
use Rattle.std.proofs.Math.Seq.{drop-append-add}
use Rattle.std.proofs.lemmas.List.{length-append, length-drop, length-take, drop-drop, get_or-drop}
use Rattle.std.proofs.lemmas.Bool.Decides.{nat_tests}
use Rattle.std.proofs.lemmas.Bool.{true≢false, false≢true, and_right, eqb-false, cond_both, cases_Bool, cases_lt, eqb-true, and_parts, leb-true, ltb-true, cond-true, cond-false}
use Rattle.wl_scan.specs.Characters.{is_blank, is_digit, is_letter_or_digit, digit_value}
use Rattle.wl_scan.specs.Lengths.{beyond, blank_length, digits_length, letters_length, is_based, number_length, fits_name, spelled_length, name_length, marks_length, is_lone_dot, tail_length, blanks_length, pattern_length, slot_marks, slot_length, percents_length, out_length, closed_length, is_quote, text_length, is_escape, bad_escape, signs, begins_with, longest_sign, sign_length, comment_rest, comment_length}
use Rattle.wl_scan.specs.Places.{is_code, after_comment, outside, in_comment}
use Rattle.wl_scan.specs.Literals.{greatest, base_of, is_base, digits_start, digits_of, fitting_length, bad_digit, digit_fault, literal_value}
use Rattle.wl_scan.specs.Tokens.{rows, longest, is_long, is_word, is_fraction, is_comment, string_lexed, in_base, lexed, unlexed, chosen, commented, token_found, found}
use Rattle.wl_scan.specs.declared.place.Region.{Region}
use Rattle.wl_scan.specs.declared.place.Region.TheVariants.{Code, Opening, Quoted, Escape, Comment, CommentOpening, CommentClosing}
use Rattle.wl_scan.specs.declared.token.Kind.{Kind}
use Rattle.wl_scan.specs.declared.token.Kind.TheVariants.{Number, Name, Pattern, Slot, Out, Text, Sign}
use Rattle.wl_scan.specs.declared.token.ScanKind.TheVariants.{Real, LongNumber, BadChar, OpenString, Base}
use Rattle.wl_scan.specs.declared.found.Found.{Found}
use Rattle.wl_scan.specs.declared.found.Found.TheVariants.{Gap, Lexed, Fault}
use Rattle.wl_scan.proofs.Boundaries.{past_ascii, past_prefix, marks_within}

pub record Reaches (text : List ℕ) (n : ℕ) : Type 0 where
  pub within : n ≤ length text
  pub utf8 : IsUtf8 (drop n text)

pub reaches_boundary : (text : List ℕ) (n : ℕ) → Reaches text n → IsCharBoundary text n
reaches_boundary text n reach = IsCharBoundary-from_drop text n reach.within reach.utf8

none_reaches : (text : List ℕ) → IsUtf8 text → Reaches text 0
none_reaches text utf8 = record { within = omega arith; utf8 = utf8 }

on_reaches : (text : List ℕ) (m n : ℕ) → Reaches text m → Reaches (drop m text) n → Reaches text (m + n)
on_reaches text m n first second = record {
  within = omega (arith, first.within, second.within, length-drop m text);
  utf8 = subst IsUtf8 (drop-drop n m text) second.utf8;
}

prefix_reaches : (p : ℕ → Bool) (ascii : (b : ℕ) → p b ≡ true → b < 128) (n : ℕ) (text : List ℕ) → IsUtf8 text → n ≤ prefix_len p text → Reaches text n
prefix_reaches p ascii n text utf8 within = record {
  within = omega (arith, within, prefix_len-le-length p text);
  utf8 = past_prefix p ascii n text utf8 within;
}

-- behind an ASCII byte
behind_reaches : (text : List ℕ) (n : ℕ) → IsUtf8 text → n < length text → get_or text n 0 < 128 → Reaches text (n + 1)
behind_reaches text n utf8 short ascii = record {
  within = omega arith;
  utf8 = IsUtf8-drop text (n + 1) utf8 (IsCharBoundary-after_ascii text n utf8 short ascii);
}

is_blank-ascii : (b : ℕ) → is_blank b ≡ true → b < 128
is_blank-ascii b blank = grind (arith, nat_tests)

is_digit-ascii : (b : ℕ) → is_digit b ≡ true → b < 128
is_digit-ascii b digit = omega (arith, leb-true b 57 (and_parts (leb 48 b) (leb b 57) digit).1)

is_letter_or_digit-ascii : (b : ℕ) → is_letter_or_digit b ≡ true → b < 128
is_letter_or_digit-ascii b fits = grind (arith, nat_tests)

pub blank_reaches : (text : List ℕ) → IsUtf8 text → Reaches text (blank_length text)
blank_reaches text utf8 = prefix_reaches is_blank is_blank-ascii (blank_length text) text utf8 (omega arith)

digits_reach : (text : List ℕ) → IsUtf8 text → Reaches text (digits_length text)
digits_reach text utf8 = prefix_reaches is_digit is_digit-ascii (digits_length text) text utf8 (omega arith)

-- names

spelled_reaches : (is_first : Bool) (cs : List ℕ) → all_scalars cs ≡ true → Reaches (encode_utf8_all cs) (spelled_length is_first cs)
spelled_reaches is_first [] scalars = none_reaches [] IsUtf8-nil
spelled_reaches is_first (c ∷ cs) scalars =
    let text = encode_utf8 c ++ encode_utf8_all cs in
    let rest = spelled_reaches false cs (and_parts _ (all_scalars cs) scalars).1 in
    let n = spelled_length false cs in
    cond_both (fits_name is_first c) (len_utf8 c + n) 0 (Reaches text)
    (λ _. record {
      within = omega (arith, length-append (encode_utf8 c) (encode_utf8_all cs), length-encode c, rest.within);
      utf8 = subst IsUtf8 (sym (ap (λ (k : ℕ). drop (k + n) text) (sym (length-encode c)) ∙ drop-append-add (encode_utf8 c) (encode_utf8_all cs) n)) rest.utf8;
    })
    (λ _. none_reaches text (c ∷ cs, (scalars, refl)))

pub name_reaches : (text : List ℕ) → IsUtf8 text → Reaches text (name_length text)
name_reaches text utf8 =
    let cs = utf8.0 in
    let spelled = spelled_reaches true cs utf8.1.0 in
    let characters : chars text ≡ cs = ap chars (sym utf8.1.1) ∙ chars-encodes cs utf8.1.0 in
    subst (λ (n : ℕ). Reaches text n) (ap (spelled_length true) (sym characters)) (subst (λ (t : List ℕ). Reaches t (spelled_length true cs)) utf8.1.1 spelled)

-- patterns

dot_reaches : (text : List ℕ) → IsUtf8 text → is_lone_dot text ≡ true → Reaches text 1
dot_reaches [] utf8 dot = absurd (false≢true dot)
dot_reaches (b ∷ []) utf8 dot = behind_reaches (b ∷ []) 0 utf8 (omega arith) (omega (arith, eqb-true b 46 dot))
dot_reaches (b ∷ c ∷ cs) utf8 dot = behind_reaches (b ∷ c ∷ cs) 0 utf8 (omega arith) (omega (arith, eqb-true b 46 (and_parts (b == 46) _ dot).0))

tail_reaches : (n : ℕ) (text : List ℕ) → IsUtf8 text → Reaches text (tail_length n text)
tail_reaches n text utf8 =
    cond_both (ltb 0 (name_length text)) (name_length text) _ (Reaches text) (λ _. name_reaches text utf8)
    (λ _. cond_both ((n == 1) && is_lone_dot text) 1 0 (Reaches text) (λ dot. dot_reaches text utf8 (and_parts (n == 1) _ dot).1) (λ _. none_reaches text utf8))

is_underscore-ascii : (b : ℕ) → (b == 95) ≡ true → b < 128
is_underscore-ascii b is95 = omega (arith, eqb-true b 95 is95)

blanks_reach : (text : List ℕ) → IsUtf8 text → Reaches text (blanks_length text)
blanks_reach text utf8 =
    let n = marks_length text in
    let marks = prefix_reaches (λ b. b == 95) is_underscore-ascii n text utf8 (marks_within text) in
    cond_both (n == 0) 0 (n + tail_length n (drop n text)) (Reaches text) (λ _. none_reaches text utf8)
    (λ _. on_reaches text n (tail_length n (drop n text)) marks (tail_reaches n (drop n text) marks.utf8))

pattern_reaches : (text : List ℕ) → IsUtf8 text → Reaches text (pattern_length text)
pattern_reaches text utf8 =
    let name = name_reaches text utf8 in
    let n = blanks_length (drop (name_length text) text) in
    cond_both (n == 0) 0 (name_length text + n) (Reaches text) (λ _. none_reaches text utf8)
    (λ _. on_reaches text (name_length text) n name (blanks_reach (drop (name_length text) text) name.utf8))

-- slots and outputs

marks_reach : (text : List ℕ) → IsUtf8 text → Reaches text (slot_marks text)
marks_reach [] utf8 = none_reaches [] utf8
marks_reach (b ∷ []) utf8 =
    cond_both (b == 35) 1 0 (Reaches (b ∷ [])) (λ e. behind_reaches (b ∷ []) 0 utf8 (omega arith) (omega (arith, eqb-true b 35 e))) (λ _. none_reaches (b ∷ []) utf8)
marks_reach (b ∷ c ∷ cs) utf8 =
    let text = b ∷ c ∷ cs in
    cond_both (b == 35) (cond (c == 35) 2 1) 0 (Reaches text)
    (λ e. cond_both (c == 35) 2 1 (Reaches text) (λ f. behind_reaches text 1 utf8 (omega arith) (omega (arith, eqb-true c 35 f)))
    (λ _. behind_reaches text 0 utf8 (omega arith) (omega (arith, eqb-true b 35 e))))
    (λ _. none_reaches text utf8)

slot_reaches : (text : List ℕ) → IsUtf8 text → Reaches text (slot_length text)
slot_reaches text utf8 =
    let n = slot_marks text in
    let marks = marks_reach text utf8 in
    cond_both (n == 0) 0 (n + digits_length (drop n text)) (Reaches text) (λ _. none_reaches text utf8)
    (λ _. on_reaches text n (digits_length (drop n text)) marks (digits_reach (drop n text) marks.utf8))

is_percent-ascii : (b : ℕ) → (b == 37) ≡ true → b < 128
is_percent-ascii b is37 = omega (arith, eqb-true b 37 is37)

out_reaches : (text : List ℕ) → IsUtf8 text → Reaches text (out_length text)
out_reaches text utf8 =
    let n = percents_length text in
    let marks = prefix_reaches (λ b. b == 37) is_percent-ascii n text utf8 (omega arith) in
    cond_both (n == 1) (1 + digits_length (drop 1 text)) n (Reaches text)
    (λ e.
    let one : Reaches text 1 = subst (Reaches text) (eqb-true n 1 e) marks in
    on_reaches text 1 (digits_length (drop 1 text)) one (digits_reach (drop 1 text) one.utf8))
    (λ _. marks)

-- what is closed by a byte of ASCII

pub record EndsIn (c : ℕ) (bytes : List ℕ) (n : ℕ) : Type 0 where
  pub place : ℕ
  pub last : n ≡ place + 1
  pub within : place < length bytes
  pub byte : get_or bytes place 0 ≡ c

beyond_ends : (c : ℕ) (o : Option ℕ) (b : ℕ) (bs : List ℕ) (n : ℕ) → ((k : ℕ) → o ≡ Some k → EndsIn c bs k) → beyond 1 o ≡ Some n → EndsIn c (b ∷ bs) n
beyond_ends c None b bs n rest e = absurd (cc)
beyond_ends c (Some k) b bs n rest e =
    let ends = rest k refl in
    let is : 1 + k ≡ n = cc in
    record { place = suc ends.place; last = omega (arith, is, ends.last); within = omega (arith, ends.within); byte = ends.byte }

first_ends : (c b : ℕ) (bs : List ℕ) (n : ℕ) → b ≡ c → Some 1 ≡ Some n → EndsIn c (b ∷ bs) n
first_ends c b bs n byte e =
    let is : 1 ≡ n = cc in
    record { place = 0; last = omega (arith, is); within = omega arith; byte = byte }

closed_ends : (taken : Bool) (bs : List ℕ) (n : ℕ) → closed_length taken bs ≡ Some n → EndsIn 34 bs n
closed_ends taken [] n e = absurd (cc)
closed_ends true (b ∷ bs) n e = beyond_ends 34 (closed_length false bs) b bs n (closed_ends false bs) e
closed_ends false (b ∷ bs) n e =
    elim (cases_Bool (b == 34)) [
      | inl quote ↦ first_ends 34 b bs n (eqb-true b 34 quote) (sym (cond-true (b == 34) (Some 1) _ quote) ∙ e)
      | inr other ↦ beyond_ends 34 (closed_length (b == 92) bs) b bs n (closed_ends (b == 92) bs) (sym (cond-false (b == 34) (Some 1) _ other) ∙ e)
    ]

within_beyond : (o : Option ℕ) (b : ℕ) (bs : List ℕ) (n : ℕ) → ((k : ℕ) → o ≡ Some k → k < length bs) → beyond 1 o ≡ Some n → n < length (b ∷ bs)
within_beyond None b bs n rest e = absurd (cc)
within_beyond (Some k) b bs n rest e =
    let is : 1 + k ≡ n = cc in
    omega (arith, is, rest k refl)

bad_within : (taken : Bool) (bs : List ℕ) (n : ℕ) → bad_escape taken bs ≡ Some n → n < length bs
bad_within taken [] n e = absurd (cc)
bad_within true (b ∷ bs) n e = within_beyond (bad_escape false bs) b bs n (bad_within false bs) e
bad_within false (b ∷ bs) n e =
    elim (cases_Bool (b == 34)) [
      | inl quote ↦ let none : None ≡ Some n = sym (cond-true (b == 34) None _ quote) ∙ e in absurd (cc)
      | inr other ↦
          let rest = sym (cond-false (b == 34) None _ other) ∙ e in
          elim (cases_Bool ((b == 92) && not (is_escape bs))) [
            | inl bad ↦ let here : Some 0 ≡ Some n = sym (cond-true ((b == 92) && not (is_escape bs)) (Some 0) _ bad) ∙ rest in let is : 0 ≡ n = cc in omega (arith, is)
            | inr good ↦ within_beyond (bad_escape (b == 92) bs) b bs n (bad_within (b == 92) bs) (sym (cond-false ((b == 92) && not (is_escape bs)) (Some 0) _ good) ∙ rest)
          ]
    ]

ends_reach : (c : ℕ) (text : List ℕ) (m n : ℕ) → IsUtf8 text → c < 128 → m ≤ length text → EndsIn c (drop m text) n → Reaches text (m + n)
ends_reach c text m n utf8 ascii start ends =
    let byte : get_or text (m + ends.place) 0 ≡ c = sym (get_or-drop m text ends.place 0) ∙ ends.byte in
    subst (Reaches text) (omega (arith, ends.last)) (behind_reaches text (m + ends.place) utf8 (omega (arith, ends.within, length-drop m text)) (omega (arith, byte, ascii)))

closed_reaches : (o : Option ℕ) (text : List ℕ) → IsUtf8 text → 0 < length text → ((n : ℕ) → o ≡ Some n → EndsIn 34 (drop 1 text) n) → Reaches text (unwrap_or (beyond 1 o) 0)
closed_reaches None text utf8 some ends = none_reaches text utf8
closed_reaches (Some n) text utf8 some ends = ends_reach 34 text 1 n utf8 (omega arith) (omega arith) (ends n refl)

text_reaches : (text : List ℕ) → IsUtf8 text → 0 < length text → Reaches text (text_length text)
text_reaches text utf8 some =
    cond_both (is_quote text) _ 0 (Reaches text) (λ _. closed_reaches (closed_length false (drop 1 text)) text utf8 some (closed_ends false (drop 1 text))) (λ _. none_reaches text utf8)

-- comments

comment_stays : (n b : ℕ) → is_code (after_comment n b) ≡ true → b ≡ 41
comment_stays n b out =
    cond_both (b == 40) (CommentOpening n) _ (λ r. is_code r ≡ true → b ≡ 41) (λ _ e. absurd (false≢true e))
    (λ _. cond_both (b == 42) (CommentClosing n) (Comment n) (λ r. is_code r ≡ true → b ≡ 41) (λ _ e. absurd (false≢true e)) (λ _ e. absurd (false≢true e))) out

comment_left : (region : Region) (b : ℕ) → is_code region ≡ false → is_code (in_comment region b) ≡ true → b ≡ 41
comment_left Code b inside out = absurd (true≢false inside)
comment_left Opening b inside out = absurd (false≢true out)
comment_left Quoted b inside out = absurd (false≢true out)
comment_left Escape b inside out = absurd (false≢true out)
comment_left (Comment n) b inside out = comment_stays n b out
comment_left (CommentOpening n) b inside out =
    cond_both (b == 42) (Comment (n + 1)) (after_comment n b) (λ r. is_code r ≡ true → b ≡ 41) (λ _ e. absurd (false≢true e)) (λ _ e. comment_stays n b e) out
comment_left (CommentClosing n) b inside out =
    cond_both (b == 41) (outside n) (after_comment n b) (λ r. is_code r ≡ true → b ≡ 41) (λ e _. eqb-true b 41 e) (λ _ e. comment_stays n b e) out

comment_ends : (region : Region) (bs : List ℕ) (n : ℕ) → is_code region ≡ false → comment_rest region bs ≡ Some n → EndsIn 41 bs n
comment_ends region [] n inside e = absurd (cc)
comment_ends region (b ∷ bs) n inside e =
    let next = in_comment region b in
    elim (cases_Bool (is_code next)) [
      | inl out ↦ first_ends 41 b bs n (comment_left region b inside out) (sym (cond-true (is_code next) (Some 1) _ out) ∙ e)
      | inr still ↦
          beyond_ends 41 (comment_rest next bs) b bs n (λ k f. comment_ends next bs k still f) (sym (cond-false (is_code next) (Some 1) _ still) ∙ e)
    ]

-- signs

abbrev is_ascii_all : List (List ℕ) → Bool
is_ascii_all [] = true
is_ascii_all (sign ∷ more) = list_all (λ s. ltb s 128) sign && is_ascii_all more

cons_reaches : (b : ℕ) (bs : List ℕ) (n : ℕ) → Reaches bs n → Reaches (b ∷ bs) (suc n)
cons_reaches b bs n reach = record { within = omega (arith, reach.within); utf8 = reach.utf8 }

begins_reach : (sign text : List ℕ) → list_all (λ s. ltb s 128) sign ≡ true → IsUtf8 text → begins_with text sign ≡ true → Reaches text (length sign)
begins_reach [] text ascii utf8 begins = none_reaches text utf8
begins_reach (s ∷ sign) [] ascii utf8 begins = absurd (false≢true begins)
begins_reach (s ∷ sign) (b ∷ bs) ascii utf8 begins =
    let low = and_parts (ltb s 128) (list_all (λ x. ltb x 128) sign) ascii in
    let same = and_parts (b == s) (begins_with bs sign) begins in
    cons_reaches b bs (length sign)
    (begins_reach sign bs low.1 (past_ascii b bs (omega (arith, eqb-true b s same.0, ltb-true s 128 low.0)) utf8) same.1)

max_reaches : (text : List ℕ) (m n : ℕ) → Reaches text m → Reaches text n → Reaches text (max m n)
max_reaches text m n first second =
    elim (cases_lt m n) [ inl less ↦ subst (Reaches text) (omega arith) second | inr more ↦ subst (Reaches text) (omega arith) first ]

signs_reach : (list : List (List ℕ)) (text : List ℕ) → is_ascii_all list ≡ true → IsUtf8 text → Reaches text (longest_sign list text)
signs_reach [] text ascii utf8 = none_reaches text utf8
signs_reach (sign ∷ more) text ascii utf8 =
    let low = and_parts (list_all (λ s. ltb s 128) sign) (is_ascii_all more) ascii in
    max_reaches text _ _
    (cond_both (begins_with text sign) (length sign) 0 (Reaches text) (λ begins. begins_reach sign text low.0 utf8 begins) (λ _. none_reaches text utf8))
    (signs_reach more text low.1 utf8)

sign_reaches : (text : List ℕ) → IsUtf8 text → Reaches text (sign_length text)
sign_reaches text utf8 = signs_reach signs text refl utf8

-- numbers

number_reaches : (text : List ℕ) → IsUtf8 text → Reaches text (number_length text)
number_reaches text utf8 =
    let n = digits_length text in
    let digits = digits_reach text utf8 in
    cond_both (n == 0) 0 _ (Reaches text) (λ _. none_reaches text utf8)
    (λ _. cond_both (is_based text) (n + 2 + letters_length (drop (n + 2) text)) n (Reaches text)
    (λ based.
    let behind = on_reaches text n 2 digits (begins_reach (codes "^^") (drop n text) refl digits.utf8 based) in
    on_reaches text (n + 2) (letters_length (drop (n + 2) text)) behind
    (prefix_reaches is_letter_or_digit is_letter_or_digit-ascii (letters_length (drop (n + 2) text)) (drop (n + 2) text) behind.utf8 (omega arith)))
    (λ _. digits))

pub begins_within : (sign text : List ℕ) → begins_with text sign ≡ true → length sign ≤ length text
begins_within [] text begins = omega arith
begins_within (s ∷ sign) [] begins = absurd (false≢true begins)
begins_within (s ∷ sign) (b ∷ bs) begins = omega (arith, begins_within sign bs (and_parts (b == s) (begins_with bs sign) begins).1)

start_within : (literal : List ℕ) → digits_start literal ≤ length literal
start_within literal =
    let n = digits_length literal in
    cond_both (is_based literal) (n + 2) 0 (λ (k : ℕ). k ≤ length literal)
    (λ based. omega (arith, begins_within (codes "^^") (drop n literal) based, length-drop n literal, prefix_len-le-length is_digit literal)) (λ _. omega arith)

beyond_some : (m k : ℕ) (o : Option ℕ) → beyond m o ≡ Some k → (j : ℕ) × (o ≡ Some j) × (k ≡ m + j)
beyond_some m k None e = absurd (cc)
beyond_some m k (Some j) e = let is : m + j ≡ k = cc in (j, refl, sym is)

bad_digit_within : (base : ℕ) (digits : List ℕ) (k : ℕ) → bad_digit base digits ≡ Some k → k ≤ length digits
bad_digit_within base digits k =
    let n = fitting_length base digits in
    cond_both (ltb 0 n && (n == length digits)) None (Some n) (λ o. o ≡ Some k → k ≤ length digits)
    (λ _ e. absurd (cc))
    (λ _ e. let is : n ≡ k = cc in omega (arith, is, prefix_len-le-length (λ b. ltb (digit_value b) base) digits))

digit_fault_within : (literal : List ℕ) (k : ℕ) → digit_fault literal ≡ Some k → k ≤ length literal
digit_fault_within literal k e =
    let s = digits_start literal in
    let at = beyond_some s k (bad_digit (base_of literal) (digits_of literal)) e in
    omega (arith, at.2, bad_digit_within (base_of literal) (digits_of literal) at.0 at.1, length-drop s literal, start_within literal)

-- the longest row

row_reaches : (text : List ℕ) (row : Kind × ℕ) (more : List (Kind × ℕ)) → Reaches text row.1 → Reaches text (longest more).1 → Reaches text (longest (row ∷ more)).1
row_reaches text row more first rest = cond_both (ltb row.1 (longest more).1) (longest more) row (λ (r : Kind × ℕ). Reaches text r.1) (λ _. rest) (λ _. first)

longest_reaches : (text : List ℕ) → IsUtf8 text → 0 < length text → Reaches text (longest (rows text)).1
unfolding rows
longest_reaches text utf8 some =
    let signs_row = (Sign, sign_length text) ∷ [] in
    let texts_row = (Text, text_length text) ∷ signs_row in
    let outs_row = (Out, out_length text) ∷ texts_row in
    let slots_row = (Slot, slot_length text) ∷ outs_row in
    let patterns_row = (Pattern, pattern_length text) ∷ slots_row in
    let names_row = (Name, name_length text) ∷ patterns_row in
    let sign = row_reaches text (Sign, sign_length text) [] (sign_reaches text utf8) (none_reaches text utf8) in
    let string = row_reaches text (Text, text_length text) signs_row (text_reaches text utf8 some) sign in
    let out = row_reaches text (Out, out_length text) texts_row (out_reaches text utf8) string in
    let slot = row_reaches text (Slot, slot_length text) outs_row (slot_reaches text utf8) out in
    let pattern = row_reaches text (Pattern, pattern_length text) slots_row (pattern_reaches text utf8) slot in
    let name = row_reaches text (Name, name_length text) patterns_row (name_reaches text utf8) pattern in
    row_reaches text (Number, number_length text) names_row (number_reaches text utf8) name

-- what is found lies within the text
abbrev pub Advances : List ℕ → Found → Type 0
Advances text (Gap n) = (0 < n) × Reaches text n
Advances text (Lexed kind n) = (0 < n) × Reaches text n
Advances text (Fault kind n) = n ≤ length text

string_advances : (text : List ℕ) (n : ℕ) (o : Option ℕ) → 0 < n → Reaches text n → ((k : ℕ) → o ≡ Some k → k < length (drop 1 text)) → Advances text (string_lexed n o)
string_advances text n None some reach within = (some, reach)
string_advances text n (Some k) some reach within = omega (arith, within k refl, length-drop 1 text)

based_advances : (n : ℕ) (text : List ℕ) (o : Option ℕ) → 0 < n → Reaches text n → digit_fault (take n text) ≡ o → Advances text (in_base o n text)
based_advances n text (Some k) some reach is = omega (arith, digit_fault_within (take n text) k is, length-take n text)
based_advances n text None some reach is =
    cond_both (is_lone_dot (drop n text)) (Fault Real 0) _ (Advances text) (λ _. omega arith)
    (λ _. cond_both (ltb greatest (literal_value (take n text))) (Fault LongNumber 0) (Lexed Number n) (Advances text) (λ _. omega arith) (λ _. (some, reach)))

lexed_advances : (kind : Kind) (n : ℕ) (text : List ℕ) → 0 < n → Reaches text n → 0 < length text → Advances text (lexed kind n text)
lexed_advances Number n text some reach any =
    cond_both (is_base (base_of (take n text))) (in_base (digit_fault (take n text)) n text) (Fault Base 0) (Advances text)
    (λ _. based_advances n text (digit_fault (take n text)) some reach refl) (λ _. omega arith)
lexed_advances Slot n text some reach any =
    cond_both (is_long (drop (slot_marks text) text)) (Fault LongNumber 0) _ (Advances text) (λ _. omega arith)
    (λ _. cond_both ((n == 1) && is_word (drop 1 text)) (Fault BadChar 0) (Lexed Slot n) (Advances text) (λ _. omega arith) (λ _. (some, reach)))
lexed_advances Out n text some reach any =
    cond_both (is_long (drop 1 text)) (Fault LongNumber 0) (Lexed Out n) (Advances text) (λ _. omega arith) (λ _. (some, reach))
lexed_advances Text n text some reach any = string_advances text n (bad_escape false (drop 1 text)) some reach (bad_within false (drop 1 text))
lexed_advances Name n text some reach any = (some, reach)
lexed_advances Pattern n text some reach any = (some, reach)
lexed_advances Sign n text some reach any = (some, reach)

token_advances : (text : List ℕ) → IsUtf8 text → 0 < length text → Advances text (token_found text)
token_advances text utf8 some =
    let row = longest (rows text) in
    cond_both (is_fraction text) (Fault Real 0) (chosen row text) (Advances text) (λ _. omega arith)
    (λ _. cond_both (row.1 == 0) (unlexed text) (lexed row.0 row.1 text) (Advances text)
    (λ _. cond_both (is_quote text) (Fault OpenString 0) (Fault BadChar 0) (Advances text) (λ _. omega arith) (λ _. omega arith))
    (λ e. lexed_advances row.0 row.1 text (let not_none : row.1 ≡ 0 → ⊥ = eqb-false row.1 0 e in omega (arith, not_none)) (longest_reaches text utf8 some) some))

comment_advances : (text : List ℕ) (o : Option ℕ) → IsUtf8 text → 2 ≤ length text → ((n : ℕ) → o ≡ Some n → EndsIn 41 (drop 2 text) n) → Advances text (commented (beyond 2 o))
comment_advances text None utf8 some ends = omega (arith, some)
comment_advances text (Some n) utf8 some ends = (omega arith, ends_reach 41 text 2 n utf8 (omega arith) some (ends n refl))

comment_size : (text : List ℕ) → is_comment text ≡ true → 2 ≤ length text
comment_size [] e = absurd (false≢true e)
comment_size (b ∷ []) e = absurd (false≢true (sym (and_right (b == 40) false refl) ∙ e))
comment_size (b ∷ c ∷ cs) e = omega arith

pub found_advances : (text : List ℕ) → IsUtf8 text → 0 < length text → Advances text (found text)
found_advances text utf8 some =
    cond_both (ltb 0 (blank_length text)) (Gap (blank_length text)) _ (Advances text) (λ e. (ltb-true 0 (blank_length text) e, blank_reaches text utf8))
    (λ _. cond_both (is_comment text) (commented (comment_length text)) (token_found text) (Advances text)
    (λ e. comment_advances text (comment_rest (Comment 1) (drop 2 text)) utf8 (comment_size text e) (λ n f. comment_ends (Comment 1) (drop 2 text) n refl f))
    (λ _. token_advances text utf8 some))

-- what was found, by its variant
pub advances_as : (rest : List ℕ) (f g : Found) → IsUtf8 rest → 0 < length rest → f ≡ found rest → f ≡ g → Advances rest g
advances_as rest f g utf8 some looked is = subst (Advances rest) (sym looked ∙ is) (found_advances rest utf8 some)

-- a part that reaches from a place of the text
pub part_reaches : (text rest : List ℕ) (place n : ℕ) → rest ≡ drop place text → place ≤ length text → Reaches rest n → IsCharBoundary text (place + n)
part_reaches text rest place n is start reach =
    IsCharBoundary-from_rest text place n start (subst (λ (l : List ℕ). IsCharBoundary l n) is (reaches_boundary rest n reach))
