-- Names, numbers, patterns, slots and strings are cut off whole.
use Rattle.std.proofs.Common.{inl, inr, ◌⊎◌, ℕ, zero, suc, ◌+◌, ◌-◌, ◌*◌, ◌/◌, ◌%◌, ◌^◌, ◌<◌, ◌≤◌, ◌≡◌, Bool, true, false, not, ◌&&◌, ◌==◌, cond, List, [], ◌∷◌, ◌++◌, length, take, drop, get_or, refl, sym, ap, ◌∙◌, arith, codes, subst, ltb, leb, append_assoc, append-nil, lt-ltb, le-ltb}
use Rattle.std.specs.Prelude.{Option, Some, None, decimal, encode_utf8_all}
use Rattle.std.specs.List.{prefix_len}
use Rattle.std.specs.Str.{IsUtf8, chars, all_scalars}
use lib.Utf8.{scalar}
use Rattle.std.specs.Char.{encode_utf8, len_utf8}
use Rattle.std.specs.Option.{unwrap_or}
use Rattle.std.proofs.lemmas.List.{length-append}
use Rattle.std.proofs.lemmas.Bool.{cases_Bool, cond_both, cond-true, cond-false, and_parts, ne_eqb, true≢false, le-leb, leb-true, and_from}
use Rattle.std.proofs.lemmas.Bool.Decides.{nat_tests}
use Rattle.std.proofs.lemmas.Fmt.{decimal_by_steps_wide}
use Rattle.std.proofs.lemmas.Str.{IsUtf8-append, IsUtf8-nil, encodes-append, scalars-chars}
use Rattle.wl_form.specs.declared.operator.Marks.{Marks}
use Rattle.wl_form.specs.declared.operator.Marks.TheVariants.{One, Two, Three}
use Rattle.wl_form.specs.Operators.{marks_text}
use Rattle.wl_form.specs.Shown.{slot_marks as marks_of_slot, escaped, all_escaped, quoted}
use Rattle.unicode_ident.proofs.Computing.{unicode_ident}
use Rattle.wl_ports.specs.Name.{continues_name}
use Rattle.wl_scan.specs.Characters.{is_digit, digit_value}
use Rattle.wl_scan.specs.Lengths.{blank_length, digits_length, letters_length, is_based, number_length, begins_with, name_length, spelled_length, blanks_length, tail_length, marks_length, slot_marks, slot_length, text_length, closed_length, bad_escape, beyond, is_escape, is_lone_dot, signs}
use Rattle.wl_scan.specs.Tokens.{found, lexed, is_comment, token_found, is_fraction, chosen, longest, rows, is_long, is_word, string_lexed, in_base}
use Rattle.wl_scan.specs.Literals.{value_after, value_in, decimal_value, greatest, base_of, is_base, digits_start, digits_of, literal_value, fitting_length, bad_digit, digit_fault}
use Rattle.wl_scan.specs.Scanning.{word_or_sign}
use Rattle.wl_scan.specs.declared.token.Kind.{Kind}
use Rattle.wl_scan.specs.declared.token.Kind.TheVariants.{Number, Name, Pattern, Slot, Text}
use Rattle.wl_scan.specs.declared.found.Found.TheVariants.{Lexed, Fault}
use Rattle.wl_scan.specs.declared.token.ScanKind.TheVariants.{Base}
use Rattle.wl_scan.proofs.Rows.{BeginsWordOrSign, word_is_name, word_is_pattern, number_found, slot_found, text_found, unspaced}
use Rattle.wl_scan.proofs.Escapes.{beyond-beyond}
use Rattle.wl_reading_back.proofs.Signs.{avoids, further, no_sign}
use Rattle.wl_reading_back.proofs.Cut.{drop_front, take_front, utf8_more, no_name_byte}
use Rattle.wl_reading_back.proofs.Classes.{avoids_less, covered, equal_self, digit_small, digit_avoids, odd, IsWord, word_avoids, word_length, word_some, closes, closes_digits, closes_marks, closes_base, closes_dot, closes_name, closes_no_name, chars_ascii, no_blank_first, first_is_not, no_comment, no_fraction}

-- behind no blank, comment or fraction a token is looked for
pub at_token : (text : List ℕ) → blank_length text ≡ 0 → is_comment text ≡ false → is_fraction text ≡ false → found text ≡ chosen (longest (rows text)) text
at_token text b c f = unspaced text 0 (sym b) (omega arith) ∙ cond-false (is_comment text) _ _ c ∙ cond-false (is_fraction text) _ _ f

pub begins_odd : (text : List ℕ) → 0 < length text → avoids text (codes "0123456789#%\"") ≡ true → BeginsWordOrSign text
begins_odd [] some h = absurd (omega (arith, some))
begins_odd (b ∷ bs) some h = record {
  some = omega arith;
  digit = covered b (codes "0123456789#%\"") is_digit (digit_small b) refl h;
  slot = λ e. true≢false (sym (same b 35 e) ∙ first_is_not b 35 bs (avoids_less (b ∷ bs) (35 ∷ []) (codes "0123456789#%\"") refl h));
  out = λ e. true≢false (sym (same b 37 e) ∙ first_is_not b 37 bs (avoids_less (b ∷ bs) (37 ∷ []) (codes "0123456789#%\"") refl h));
  quote = λ e. true≢false (sym (same b 34 e) ∙ first_is_not b 34 bs (avoids_less (b ∷ bs) (34 ∷ []) (codes "0123456789#%\"") refl h));
}
  where
    same : (b k : ℕ) → b ≡ k → (b == k) ≡ true
    same b k e = grind (arith, nat_tests)

-- a word or pattern that begins with a name
word_first : (w rest : List ℕ) → IsWord w → BeginsWordOrSign (w ++ rest)
word_first w rest h = begins_odd (w ++ rest) (omega (arith, length-append w rest, word_some w h)) (avoids_less (w ++ rest) (codes "0123456789#%\"") odd refl (word_avoids w rest h))

odd_token : (text : List ℕ) → avoids text odd ≡ true → found text ≡ chosen (longest (rows text)) text
odd_token text h = at_token text (no_blank_first text (avoids_less text (12 ∷ codes " \t\n\r") odd refl h)) (no_comment text (avoids_less text (codes "(") odd refl h)) (no_fraction text (avoids_less text (codes ".") odd refl h))

blanks_by : (text : List ℕ) (n : ℕ) → marks_length text ≡ n → blanks_length text ≡ (cond (n == 0) 0 (n + tail_length n (drop n text)))
blanks_by text n e = ap (λ (n : ℕ). cond (n == 0) 0 (n + tail_length n (drop n text))) e

lexed_word : (kind : Kind) (n : ℕ) → 0 < n → word_or_sign kind n 0 ≡ Lexed kind n
lexed_word kind n some = cond-false (ltb n 0) _ _ (le-ltb n 0 (omega arith)) ∙ cond-false (n == 0) _ _ (ne_eqb n 0 (λ e. omega (arith, e, some)))

no_blanks_at : (text : List ℕ) → marks_length text ≡ 0 → blanks_length text ≡ 0
no_blanks_at text e = blanks_by text 0 e

pub name_found : (w rest : List ℕ) → IsWord w → IsUtf8 rest → closes rest ≡ true → found (w ++ rest) ≡ Lexed Name (length w)
name_found w rest h u c =
    odd_token (w ++ rest) (word_avoids w rest h)
    ∙ sym (word_is_name (w ++ rest) (length w) 0 0 (word_first w rest h) (sym (word_length w rest h (closes_name rest u c)))
    (sym (no_sign (w ++ rest) (avoids_less (w ++ rest) (further [] signs) odd refl (word_avoids w rest h))))
    (sym (ap blanks_length (drop_front w rest) ∙ no_blanks_at rest (closes_marks rest c))) refl)
    ∙ lexed_word Name (length w) (word_some w h)

-- patterns

-- where no mark comes first, none is counted in a shorter part either
no_mark_within : (y : List ℕ) (n : ℕ) → marks_length y ≡ 0 → prefix_len (λ b. b == 95) (take n y) ≡ 0
no_mark_within [] zero e = refl
no_mark_within [] (suc n) e = refl
no_mark_within (b ∷ bs) zero e = refl
no_mark_within (b ∷ bs) (suc n) e = elim (cases_Bool (b == 95)) [
  | inl mark ↦ absurd (omega (arith, e, cond-true (b == 95) (1 + prefix_len (λ c. c == 95) (take 2 bs)) 0 mark))
  | inr other ↦ cond-false (b == 95) _ _ other
]

abbrev pub count_of : Marks → ℕ
count_of One = 1
count_of Two = 2
count_of Three = 3

pub blanks_are : (k : Marks) (y : List ℕ) (m : ℕ) → marks_length y ≡ 0 → tail_length (count_of k) y ≡ m → blanks_length (marks_text k ++ y) ≡ length (marks_text k) + m
blanks_are One y m e t = blanks_by (95 ∷ y) 1 (ap (λ (n : ℕ). 1 + n) (no_mark_within y 2 e)) ∙ ap (λ (n : ℕ). 1 + n) t
blanks_are Two y m e t = blanks_by (95 ∷ 95 ∷ y) 2 (ap (λ (n : ℕ). 1 + (1 + n)) (no_mark_within y 1 e)) ∙ ap (λ (n : ℕ). 2 + n) t
blanks_are Three y m e t = blanks_by (95 ∷ 95 ∷ 95 ∷ y) 3 (ap (λ (n : ℕ). 1 + (1 + (1 + n))) (no_mark_within y 0 e)) ∙ ap (λ (n : ℕ). 3 + n) t

abbrev pub MaybeWord : List ℕ → Type 0
MaybeWord [] = Unit {0}
MaybeWord (c ∷ cs) = IsWord (c ∷ cs)

-- what stands behind the marks of a pattern
abbrev pub PatternEnd : Marks → List ℕ → Type 0
PatternEnd k h = MaybeWord h ⊎ ((k ≡ One) × (h ≡ codes "."))

pub maybe_utf8 : (w : List ℕ) → MaybeWord w → IsUtf8 w
maybe_utf8 [] h = IsUtf8-nil
maybe_utf8 (c ∷ cs) h = h.utf8

marks_utf8 : (k : Marks) (y : List ℕ) → IsUtf8 y → IsUtf8 (marks_text k ++ y)
marks_utf8 One y u = utf8_more 95 y (omega arith) u
marks_utf8 Two y u = utf8_more 95 (95 ∷ y) (omega arith) (utf8_more 95 y (omega arith) u)
marks_utf8 Three y u = utf8_more 95 (95 ∷ 95 ∷ y) (omega arith) (utf8_more 95 (95 ∷ y) (omega arith) (utf8_more 95 y (omega arith) u))

end_utf8 : (k : Marks) (h : List ℕ) → PatternEnd k h → IsUtf8 h
end_utf8 k h (inl w) = maybe_utf8 h w
end_utf8 k h (inr (e, f)) = subst IsUtf8 (sym f) (utf8_more 46 [] (omega arith) IsUtf8-nil)

pub pattern_utf8 : (x : List ℕ) (k : Marks) (h : List ℕ) → MaybeWord x → PatternEnd k h → IsUtf8 (x ++ (marks_text k ++ h))
pattern_utf8 x k h m e = IsUtf8-append x (marks_text k ++ h) (maybe_utf8 x m) (marks_utf8 k h (end_utf8 k h e))

-- the tail behind the marks

word_tail : (k : Marks) (h rest : List ℕ) → IsWord h → IsUtf8 rest → closes rest ≡ true → tail_length (count_of k) (h ++ rest) ≡ length h
word_tail k h rest w u c =
    let e = word_length h rest w (closes_name rest u c) in
    ap (λ (n : ℕ). cond (ltb 0 n) n (cond ((count_of k == 1) && is_lone_dot (h ++ rest)) 1 0)) e ∙ cond-true (ltb 0 (length h)) _ _ (lt-ltb 0 (length h) (word_some h w))

abbrev lone : Bool → ℕ
lone b = cond b 1 0

no_tail : (k : Marks) (rest : List ℕ) → IsUtf8 rest → closes rest ≡ true → tail_length (count_of k) rest ≡ 0
no_tail k rest u c =
    ap (λ (n : ℕ). cond (ltb 0 n) n (cond ((count_of k == 1) && is_lone_dot rest) 1 0)) (closes_no_name rest u c)
    ∙ ap (λ (d : Bool). lone ((count_of k == 1) && d)) (closes_dot rest c) ∙ none k
  where
    none : (k : Marks) → lone ((count_of k == 1) && false) ≡ 0
    none One = refl
    none Two = refl
    none Three = refl

dot_lone : (rest : List ℕ) → avoids rest (codes ".") ≡ true → is_lone_dot (46 ∷ rest) ≡ true
dot_lone [] h = refl
dot_lone (b ∷ bs) h = ap not (first_is_not b 46 bs h)

dot_tail : (rest : List ℕ) → IsUtf8 rest → avoids rest (codes ".") ≡ true → tail_length 1 (46 ∷ rest) ≡ 1
unfolding unicode_ident
dot_tail rest u a =
    ap (λ (n : ℕ). cond (ltb 0 n) n (cond ((1 == 1) && is_lone_dot (46 ∷ rest)) 1 0)) (no_name_byte 46 rest (utf8_more 46 rest (omega arith) u) (omega arith) refl)
    ∙ ap lone (dot_lone rest a)

word_no_marks : (h rest : List ℕ) → IsWord h → marks_length (h ++ rest) ≡ 0
word_no_marks h rest w = go (h ++ rest) (word_avoids h rest w)
  where
    go : (t : List ℕ) → avoids t odd ≡ true → marks_length t ≡ 0
    go [] a = refl
    go (b ∷ bs) a = cond-false (b == 95) _ _ (first_is_not b 95 bs (avoids_less (b ∷ bs) (95 ∷ []) odd refl a))

-- the blanks of a pattern
pub pattern_blanks : (k : Marks) (h rest : List ℕ) → PatternEnd k h → IsUtf8 rest → closes rest ≡ true → (h ≡ codes "." → avoids rest (codes ".") ≡ true)
    → blanks_length (marks_text k ++ (h ++ rest)) ≡ length (marks_text k) + length h
pattern_blanks k [] rest (inl w) u c a = blanks_are k rest 0 (closes_marks rest c) (no_tail k rest u c)
pattern_blanks k (b ∷ bs) rest (inl w) u c a = blanks_are k ((b ∷ bs) ++ rest) (length (b ∷ bs)) (word_no_marks (b ∷ bs) rest w) (word_tail k (b ∷ bs) rest w u c)
pattern_blanks k h rest (inr (e, f)) u c a =
    subst (λ x. blanks_length (marks_text k ++ (x ++ rest)) ≡ length (marks_text k) + length x) (sym f)
    (subst (λ j. blanks_length (marks_text j ++ (46 ∷ rest)) ≡ length (marks_text j) + 1) (sym e) (blanks_are One (46 ∷ rest) 1 refl (dot_tail rest u (a f))))

-- the name before the marks
mark_ends_name : (y : List ℕ) → IsUtf8 (95 ∷ y) → spelled_length false (chars (95 ∷ y)) ≡ 0
unfolding unicode_ident
mark_ends_name y u = ap (spelled_length false) (chars_ascii 95 y (omega arith) u) ∙ cond-false (continues_name 95) (len_utf8 95 + spelled_length false (chars y)) 0 refl

marks_end_name : (k : Marks) (y : List ℕ) → IsUtf8 (marks_text k ++ y) → spelled_length false (chars (marks_text k ++ y)) ≡ 0
marks_end_name One y u = mark_ends_name y u
marks_end_name Two y u = mark_ends_name (95 ∷ y) u
marks_end_name Three y u = mark_ends_name (95 ∷ 95 ∷ y) u

marks_no_name : (k : Marks) (y : List ℕ) → IsUtf8 (marks_text k ++ y) → name_length (marks_text k ++ y) ≡ 0
unfolding unicode_ident
marks_no_name One y u = no_name_byte 95 y u (omega arith) refl
marks_no_name Two y u = no_name_byte 95 (95 ∷ y) u (omega arith) refl
marks_no_name Three y u = no_name_byte 95 (95 ∷ 95 ∷ y) u (omega arith) refl

pattern_name : (x : List ℕ) (k : Marks) (y : List ℕ) → MaybeWord x → IsUtf8 (marks_text k ++ y) → name_length (x ++ (marks_text k ++ y)) ≡ length x
pattern_name [] k y m u = marks_no_name k y u
pattern_name (c ∷ cs) k y m u = word_length (c ∷ cs) (marks_text k ++ y) m (marks_end_name k y u)

-- all odd bytes but `_`
abbrev pub odd_but_marks : List ℕ
odd_but_marks = 12 ∷ codes " \t\n\r0123456789#%\"'\\`()[]{},:?+-@/!<>^*=&|.~;"

pub pattern_avoids : (x : List ℕ) (k : Marks) (y : List ℕ) → MaybeWord x → avoids (x ++ (marks_text k ++ y)) odd_but_marks ≡ true
pattern_avoids [] One y m = refl
pattern_avoids [] Two y m = refl
pattern_avoids [] Three y m = refl
pattern_avoids (c ∷ cs) k y m = avoids_less ((c ∷ cs) ++ (marks_text k ++ y)) odd_but_marks odd refl (word_avoids (c ∷ cs) (marks_text k ++ y) m)

marks_some : (k : Marks) → 0 < length (marks_text k)
marks_some One = omega arith
marks_some Two = omega arith
marks_some Three = omega arith

odd_token_marks : (text : List ℕ) → avoids text odd_but_marks ≡ true → found text ≡ chosen (longest (rows text)) text
odd_token_marks text h = at_token text (no_blank_first text (avoids_less text (12 ∷ codes " \t\n\r") odd_but_marks refl h)) (no_comment text (avoids_less text (codes "(") odd_but_marks refl h)) (no_fraction text (avoids_less text (codes ".") odd_but_marks refl h))

pub pattern_found : (x : List ℕ) (k : Marks) (h rest : List ℕ) → MaybeWord x → PatternEnd k h → IsUtf8 rest → closes rest ≡ true → (h ≡ codes "." → avoids rest (codes ".") ≡ true)
    → found ((x ++ (marks_text k ++ h)) ++ rest) ≡ Lexed Pattern (length (x ++ (marks_text k ++ h)))
pattern_found x k h rest m e u c a =
    let y : List ℕ = h ++ rest in
    let text : List ℕ = x ++ (marks_text k ++ y) in
    let n : ℕ = length x in
    let j : ℕ = length (marks_text k) + length h in
    let same : (x ++ (marks_text k ++ h)) ++ rest ≡ text = append_assoc x (marks_text k ++ h) rest ∙ ap (λ l. x ++ l) (append_assoc (marks_text k) h rest) in
    let av : avoids text odd_but_marks ≡ true = pattern_avoids x k y m in
    let uy : IsUtf8 (marks_text k ++ y) = marks_utf8 k y (IsUtf8-append h rest (end_utf8 k h e) u) in
    let some : 0 < j = omega (arith, marks_some k) in
    let long : length text ≡ n + (length (marks_text k) + length y) = length-append x (marks_text k ++ y) ∙ ap (λ (i : ℕ). n + i) (length-append (marks_text k) y) in
    let begins : BeginsWordOrSign text = begins_odd text (omega (arith, long, marks_some k)) (avoids_less text (codes "0123456789#%\"") odd_but_marks refl av) in
    let total : n + j ≡ length (x ++ (marks_text k ++ h)) = omega (arith, length-append x (marks_text k ++ h), length-append (marks_text k) h) in
    ap found same ∙ odd_token_marks text av
    ∙ sym (word_is_pattern text n 0 j begins (sym (pattern_name x k y m uy)) (sym (no_sign text (avoids_less text (further [] signs) odd_but_marks refl av)))
    (sym (ap blanks_length (drop_front x (marks_text k ++ y)) ∙ pattern_blanks k h rest e u c a)) some)
    ∙ lexed_word Pattern (n + j) (omega (arith, some))
    ∙ ap (λ (i : ℕ). Lexed Pattern i) total

-- numbers

abbrev pub AllDigit : List ℕ → Type 0
AllDigit [] = Unit {0}
AllDigit (b ∷ bs) = (is_digit b ≡ true) × AllDigit bs

all_digit_push : (ds : List ℕ) (b : ℕ) → AllDigit ds → is_digit b ≡ true → AllDigit (ds ++ (b ∷ []))
all_digit_push [] b h d = (d, tt)
all_digit_push (c ∷ ds) b h d = (h.0, all_digit_push ds b h.1 d)

value_push : (n : ℕ) (bs : List ℕ) (b : ℕ) → value_after 10 n (bs ++ (b ∷ [])) ≡ value_after 10 n bs * 10 + digit_value b
value_push n [] b = refl
value_push n (c ∷ cs) b = value_push (n * 10 + digit_value c) cs b

-- digits that write n
pub record Writes (n : ℕ) (ds : List ℕ) : Type 0 where
  pub some : 0 < length ds
  pub digits : AllDigit ds
  pub value : decimal_value ds ≡ n

digit_char : (d : ℕ) → d < 10 → is_digit (48 + d) ≡ true
digit_char d l = and_from (leb 48 (48 + d)) (leb (48 + d) 57) (le-leb 48 (48 + d) (omega arith)) (le-leb (48 + d) 57 (omega arith))

digit_is : (d : ℕ) → d < 10 → digit_value (48 + d) ≡ d
digit_is d l = cond-true (is_digit (48 + d)) _ _ (digit_char d l) ∙ omega arith

pub writes_decimal : (n : ℕ) → n < 10 ^ 64 → Writes n (decimal n)
writes_decimal = decimal_by_steps_wide Writes one more
  where
    one : (n : ℕ) → n < 10 → Writes n ((48 + n) ∷ [])
    one n l = record { some = omega arith; digits = (digit_char n l, tt); value = omega (arith, digit_is n l) }

    more : (n : ℕ) (ds : List ℕ) → 10 ≤ n → Writes (n / 10) ds → Writes n (ds ++ ((48 + n % 10) ∷ []))
    more n ds l h = record {
      some = omega (arith, length-append ds ((48 + n % 10) ∷ []));
      digits = all_digit_push ds (48 + n % 10) h.digits (digit_char (n % 10) (omega arith));
      value = omega (arith, value_push 0 ds (48 + n % 10), h.value, digit_is (n % 10) (omega arith));
    }

in_range : (n : ℕ) → n < 2 ^ 127 → n < 10 ^ 64
in_range n l = omega arith

pub writes_number : (n : ℕ) → n < 2 ^ 127 → Writes n (decimal n)
writes_number n l = writes_decimal n (in_range n l)

pub digits_ascii : (ds : List ℕ) → AllDigit ds → IsUtf8 ds
digits_ascii [] h = IsUtf8-nil
digits_ascii (b ∷ bs) h = utf8_more b bs (digit_small b h.0) (digits_ascii bs h.1)

digits_run : (ds rest : List ℕ) → AllDigit ds → digits_length rest ≡ 0 → digits_length (ds ++ rest) ≡ length ds
digits_run [] rest h e = e
digits_run (b ∷ bs) rest h e = cond-true (is_digit b) (1 + digits_length (bs ++ rest)) 0 h.0 ∙ omega (arith, digits_run bs rest h.1 e)

no_space_digits : (ds rest : List ℕ) → 0 < length ds → AllDigit ds → (blank_length (ds ++ rest) ≡ 0) × (is_comment (ds ++ rest) ≡ false) × (is_fraction (ds ++ rest) ≡ false)
no_space_digits [] rest some h = absurd (omega (arith, some))
no_space_digits (b ∷ bs) rest some h =
    let a : avoids ((b ∷ bs) ++ rest) (12 ∷ codes " \t\n\r(.") ≡ true = digit_avoids b (bs ++ rest) (12 ∷ codes " \t\n\r(.") refl h.0 in
    (no_blank_first (b ∷ (bs ++ rest)) (avoids_less (b ∷ (bs ++ rest)) (12 ∷ codes " \t\n\r") (12 ∷ codes " \t\n\r(.") refl a), no_comment (b ∷ (bs ++ rest)) (avoids_less (b ∷ (bs ++ rest)) (codes "(") (12 ∷ codes " \t\n\r(.") refl a), no_fraction (b ∷ (bs ++ rest)) (avoids_less (b ∷ (bs ++ rest)) (codes ".") (12 ∷ codes " \t\n\r(.") refl a))

first_digit : (ds rest : List ℕ) → 0 < length ds → AllDigit ds → is_digit (get_or (ds ++ rest) 0 0) ≡ true
first_digit [] rest some h = absurd (omega (arith, some))
first_digit (b ∷ bs) rest some h = h.0

not_long : (ds rest : List ℕ) (n : ℕ) → Writes n ds → n < 2 ^ 127 → digits_length rest ≡ 0 → is_long (ds ++ rest) ≡ false
not_long ds rest n w l e =
    ap (λ (i : ℕ). ltb greatest (decimal_value (take i (ds ++ rest)))) (digits_run ds rest w.digits e)
    ∙ ap (λ x. ltb greatest (decimal_value x)) (take_front ds rest) ∙ ap (λ (i : ℕ). ltb greatest i) w.value ∙ le-ltb greatest n (omega arith)

-- digits that no `^^` follows are a literal in base ten

no_base : (ds rest : List ℕ) → AllDigit ds → digits_length rest ≡ 0 → begins_with rest (codes "^^") ≡ false → is_based (ds ++ rest) ≡ false
no_base ds rest h e b = ap (λ (i : ℕ). begins_with (drop i (ds ++ rest)) (codes "^^")) (digits_run ds rest h e) ∙ ap (λ l. begins_with l (codes "^^")) (drop_front ds rest) ∙ b

alone_no_base : (ds : List ℕ) → AllDigit ds → is_based ds ≡ false
alone_no_base ds h = subst (λ l. is_based l ≡ false) (append-nil ds) (no_base ds [] h refl refl)

in_ten : (ds : List ℕ) → AllDigit ds → base_of ds ≡ 10
in_ten ds h = cond-false (is_based ds) _ _ (alone_no_base ds h)

at_once : (ds : List ℕ) → AllDigit ds → digits_start ds ≡ 0
at_once ds h = cond-false (is_based ds) _ _ (alone_no_base ds h)

pub literal_is : (n : ℕ) (ds : List ℕ) → Writes n ds → literal_value ds ≡ n
literal_is n ds w = ap (λ (b : ℕ). value_in b (digits_of ds)) (in_ten ds w.digits) ∙ ap (λ (s : ℕ). value_in 10 (drop s ds)) (at_once ds w.digits) ∙ w.value

digit_fits : (b : ℕ) → is_digit b ≡ true → ltb (digit_value b) 10 ≡ true
digit_fits b d =
    let value : digit_value b ≡ b - 48 = cond-true (is_digit b) _ _ d in
    lt-ltb (digit_value b) 10 (omega (arith, value, leb-true b 57 (and_parts (leb 48 b) (leb b 57) d).1))

all_fit : (ds : List ℕ) → AllDigit ds → fitting_length 10 ds ≡ length ds
all_fit [] h = refl
all_fit (b ∷ bs) h = cond-true (ltb (digit_value b) 10) (1 + fitting_length 10 bs) 0 (digit_fits b h.0) ∙ omega (arith, all_fit bs h.1)

no_bad : (ds : List ℕ) → 0 < length ds → AllDigit ds → bad_digit 10 ds ≡ None
no_bad ds some h =
    let e = all_fit ds h in
    cond-true (ltb 0 (fitting_length 10 ds) && (fitting_length 10 ds == length ds)) _ _ (and_from (ltb 0 (fitting_length 10 ds)) (fitting_length 10 ds == length ds) (lt-ltb 0 (fitting_length 10 ds) (omega (arith, e, some))) (equal_self (fitting_length 10 ds) (length ds) e))

no_fault : (n : ℕ) (ds : List ℕ) → Writes n ds → digit_fault ds ≡ None
no_fault n ds w =
    ap (λ (s : ℕ). beyond s (bad_digit (base_of ds) (drop s ds))) (at_once ds w.digits)
    ∙ ap (λ (b : ℕ). beyond 0 (bad_digit b ds)) (in_ten ds w.digits) ∙ ap (beyond 0) (no_bad ds w.some w.digits)

number_run : (ds rest : List ℕ) → 0 < length ds → AllDigit ds → digits_length rest ≡ 0 → begins_with rest (codes "^^") ≡ false → number_length (ds ++ rest) ≡ length ds
number_run ds rest some h e b =
    let text : List ℕ = ds ++ rest in
    let run = digits_run ds rest h e in
    cond-false (digits_length text == 0) _ _ (ne_eqb (digits_length text) 0 (λ z. omega (arith, z, run, some)))
    ∙ cond-false (is_based text) (digits_length text + 2 + letters_length (drop (digits_length text + 2) text)) _ (no_base ds rest h e b) ∙ run

-- of the literal alone
literal_lexed : (n : ℕ) (ds text : List ℕ) → Writes n ds → n < 2 ^ 127 → take (length ds) text ≡ ds → is_lone_dot (drop (length ds) text) ≡ false → lexed Number (length ds) text ≡ Lexed Number (length ds)
literal_lexed n ds text w l front dot =
    let k : ℕ = length ds in
    ap (λ x. cond (is_base (base_of x)) (in_base (digit_fault x) k text) (Fault Base 0)) front
    ∙ ap (λ (b : ℕ). cond (is_base b) (in_base (digit_fault ds) k text) (Fault Base 0)) (in_ten ds w.digits)
    ∙ ap (λ o. in_base o k text) (no_fault n ds w)
    ∙ cond-false (is_lone_dot (drop k text)) _ _ dot
    ∙ cond-false (ltb greatest (literal_value (take k text))) _ _ (ap (λ x. ltb greatest (literal_value x)) front ∙ ap (λ (i : ℕ). ltb greatest i) (literal_is n ds w) ∙ le-ltb greatest n (omega arith))

pub number_cut : (ds rest : List ℕ) (n : ℕ) → Writes n ds → n < 2 ^ 127 → IsUtf8 rest → closes rest ≡ true → found (ds ++ rest) ≡ Lexed Number (length ds)
number_cut ds rest n w l u c =
    let (b, k, f) = no_space_digits ds rest w.some w.digits in
    let e = closes_digits rest c in
    unspaced (ds ++ rest) 0 (sym b) (omega arith) ∙ cond-false (is_comment (ds ++ rest)) _ _ k
    ∙ sym (number_found (ds ++ rest) (IsUtf8-append ds rest (digits_ascii ds w.digits) u) (omega (arith, length-append ds rest, w.some)) (first_digit ds rest w.some w.digits) f)
    ∙ ap (λ (i : ℕ). lexed Number i (ds ++ rest)) (number_run ds rest w.some w.digits e (closes_base rest c))
    ∙ literal_lexed n ds (ds ++ rest) w l (take_front ds rest) (ap is_lone_dot (drop_front ds rest) ∙ closes_dot rest c)

-- slots

no_hash : (ds rest : List ℕ) → 0 < length ds → AllDigit ds → (b : ℕ) × (bs : List ℕ) × (ds ++ rest ≡ b ∷ bs) × ((b == 35) ≡ false)
no_hash [] rest some h = absurd (omega (arith, some))
no_hash (b ∷ bs) rest some h = (b, bs ++ rest, refl, first_is_not b 35 (bs ++ rest) (digit_avoids b (bs ++ rest) (35 ∷ []) refl h.0))

one_mark : (ds rest : List ℕ) → 0 < length ds → AllDigit ds → slot_marks (35 ∷ (ds ++ rest)) ≡ 1
one_mark ds rest some h = let (b, bs, e, n) = no_hash ds rest some h in ap (λ l. slot_marks (35 ∷ l)) e ∙ cond-false (b == 35) _ _ n

slot_by : (text : List ℕ) (n : ℕ) → slot_marks text ≡ n → slot_length text ≡ (cond (n == 0) 0 (n + digits_length (drop n text)))
slot_by text n e = ap (λ (i : ℕ). cond (i == 0) 0 (i + digits_length (drop i text))) e

slot_lexed : (m n : ℕ) (text : List ℕ) → slot_marks text ≡ m → is_long (drop m text) ≡ false → 1 < n → lexed Slot n text ≡ Lexed Slot n
slot_lexed m n text e s l =
    cond-false (is_long (drop (slot_marks text) text)) _ _ (ap (λ (i : ℕ). is_long (drop i text)) e ∙ s)
    ∙ cond-false ((n == 1) && is_word (drop 1 text)) _ _ (ap (λ (x : Bool). x && is_word (drop 1 text)) (ne_eqb n 1 (λ q. omega (arith, q, l))))

open_slot : (rest : List ℕ) → found (35 ∷ rest) ≡ token_found (35 ∷ rest)
open_slot rest = unspaced (35 ∷ rest) 0 refl (omega arith)

pub slot_cut : (d : Bool) (ds rest : List ℕ) (n : ℕ) → Writes n ds → n < 2 ^ 127 → IsUtf8 rest → closes rest ≡ true → found ((marks_of_slot d ++ ds) ++ rest) ≡ Lexed Slot (length (marks_of_slot d ++ ds))
slot_cut false ds rest n w l u c =
    let run = digits_run ds rest w.digits (closes_digits rest c) in
    let marks = one_mark ds rest w.some w.digits in
    let count : slot_length (35 ∷ (ds ++ rest)) ≡ length (35 ∷ ds) = slot_by (35 ∷ (ds ++ rest)) 1 marks ∙ omega (arith, run) in
    open_slot (ds ++ rest)
    ∙ sym (slot_found (35 ∷ (ds ++ rest)) (utf8_more 35 (ds ++ rest) (omega arith) (IsUtf8-append ds rest (digits_ascii ds w.digits) u)) (omega arith) refl)
    ∙ ap (λ (i : ℕ). lexed Slot i (35 ∷ (ds ++ rest))) count
    ∙ slot_lexed 1 (length (35 ∷ ds)) (35 ∷ (ds ++ rest)) marks (not_long ds rest n w l (closes_digits rest c)) (omega (arith, w.some))
slot_cut true ds rest n w l u c =
    let run = digits_run ds rest w.digits (closes_digits rest c) in
    let count : slot_length (35 ∷ 35 ∷ (ds ++ rest)) ≡ length (35 ∷ 35 ∷ ds) = slot_by (35 ∷ 35 ∷ (ds ++ rest)) 2 refl ∙ omega (arith, run) in
    open_slot (35 ∷ (ds ++ rest))
    ∙ sym (slot_found (35 ∷ 35 ∷ (ds ++ rest)) (utf8_more 35 (35 ∷ (ds ++ rest)) (omega arith) (utf8_more 35 (ds ++ rest) (omega arith) (IsUtf8-append ds rest (digits_ascii ds w.digits) u))) (omega arith) refl)
    ∙ ap (λ (i : ℕ). lexed Slot i (35 ∷ 35 ∷ (ds ++ rest))) count
    ∙ slot_lexed 2 (length (35 ∷ 35 ∷ ds)) (35 ∷ 35 ∷ (ds ++ rest)) refl (not_long ds rest n w l (closes_digits rest c)) (omega (arith, w.some))

-- strings

nothing_more : (o : Option ℕ) → o ≡ beyond 0 o
nothing_more None = refl
nothing_more (Some k) = ap Some (omega arith)

-- bytes that are no quote and no backslash
abbrev AllPlain : List ℕ → Type 0
AllPlain [] = Unit {0}
AllPlain (b ∷ bs) = ((b == 34) ≡ false) × ((b == 92) ≡ false) × AllPlain bs

one_more : (b : ℕ) (e : List ℕ) (o : Option ℕ) → beyond 1 (beyond (length e) o) ≡ beyond (length (b ∷ e)) o
one_more b e o = beyond-beyond 1 (length e) o ∙ ap (λ (n : ℕ). beyond n o) (omega arith)

plain_closed : (e r : List ℕ) → AllPlain e → closed_length false (e ++ r) ≡ beyond (length e) (closed_length false r)
plain_closed [] r p = nothing_more (closed_length false r)
plain_closed (b ∷ e) r p =
    cond-false (b == 34) _ _ p.0 ∙ ap (λ (t : Bool). beyond 1 (closed_length t (e ++ r))) p.1 ∙ ap (beyond 1) (plain_closed e r p.2) ∙ one_more b e (closed_length false r)

plain_good : (e r : List ℕ) → AllPlain e → bad_escape false (e ++ r) ≡ beyond (length e) (bad_escape false r)
plain_good [] r p = nothing_more (bad_escape false r)
plain_good (b ∷ e) r p =
    cond-false (b == 34) _ _ p.0 ∙ cond-false ((b == 92) && not (is_escape (e ++ r))) _ _ (ap (λ (t : Bool). t && not (is_escape (e ++ r))) p.1)
    ∙ ap (λ (t : Bool). beyond 1 (bad_escape t (e ++ r))) p.1 ∙ ap (beyond 1) (plain_good e r p.2) ∙ one_more b e (bad_escape false r)

high : (b k : ℕ) → 128 ≤ b → k < 128 → (b == k) ≡ false
high b k l m = ne_eqb b k (λ e. omega (arith, e, l, m))

quote_apart : (b : ℕ) → 128 ≤ b → (b == 34) ≡ false
quote_apart b l = high b 34 l (omega arith)

slash_apart : (b : ℕ) → 128 ≤ b → (b == 92) ≡ false
slash_apart b l = high b 92 l (omega arith)

plain_char : (c : ℕ) → (c == 34) ≡ false → (c == 92) ≡ false → AllPlain (encode_utf8 c)
unfolding encode_utf8
plain_char c q k =
    cond_both (ltb c 128) _ _ AllPlain (λ _. (q, k, tt))
    (λ _. cond_both (ltb c 2048) _ _ AllPlain (λ _. (quote_apart (192 + c / 64) (omega arith), slash_apart (192 + c / 64) (omega arith), (quote_apart (128 + c % 64) (omega arith), slash_apart (128 + c % 64) (omega arith), tt)))
    (λ _. cond_both (ltb c 65536) _ _ AllPlain (λ _. (quote_apart (224 + c / 4096) (omega arith), slash_apart (224 + c / 4096) (omega arith), (quote_apart (128 + c / 64 % 64) (omega arith), slash_apart (128 + c / 64 % 64) (omega arith), (quote_apart (128 + c % 64) (omega arith), slash_apart (128 + c % 64) (omega arith), tt))))
    (λ _. (quote_apart (240 + c / 262144) (omega arith), slash_apart (240 + c / 262144) (omega arith), (quote_apart (128 + c / 4096 % 64) (omega arith), slash_apart (128 + c / 4096 % 64) (omega arith), (quote_apart (128 + c / 64 % 64) (omega arith), slash_apart (128 + c / 64 % 64) (omega arith), (quote_apart (128 + c % 64) (omega arith), slash_apart (128 + c % 64) (omega arith), tt)))))))

-- what is written of one character
abbrev UnitOf : List ℕ → Type 0
UnitOf e = (r : List ℕ) → (closed_length false (encode_utf8_all e ++ r) ≡ beyond (length (encode_utf8_all e)) (closed_length false r)) × (bad_escape false (encode_utf8_all e ++ r) ≡ beyond (length (encode_utf8_all e)) (bad_escape false r))

alone : (c : ℕ) (r : List ℕ) → (c == 34) ≡ false → (c == 92) ≡ false → (closed_length false (encode_utf8_all (c ∷ []) ++ r) ≡ beyond (length (encode_utf8_all (c ∷ []))) (closed_length false r)) × (bad_escape false (encode_utf8_all (c ∷ []) ++ r) ≡ beyond (length (encode_utf8_all (c ∷ []))) (bad_escape false r))
alone c r q k = rw (append-nil (encode_utf8 c)) (plain_closed (encode_utf8 c) r (plain_char c q k), plain_good (encode_utf8 c) r (plain_char c q k))

escaped_unit : (c : ℕ) → UnitOf (escaped c)
unfolding encode_utf8
escaped_unit c =
    cond_both (c == 34) _ _ UnitOf (λ _ r. (beyond-beyond 1 1 (closed_length false r), beyond-beyond 1 1 (bad_escape false r)))
    (λ q. cond_both (c == 92) _ _ UnitOf (λ _ r. (beyond-beyond 1 1 (closed_length false r), beyond-beyond 1 1 (bad_escape false r)))
    (λ k. cond_both (c == 10) _ _ UnitOf (λ _ r. (beyond-beyond 1 1 (closed_length false r), beyond-beyond 1 1 (bad_escape false r)))
    (λ _. cond_both (c == 9) _ _ UnitOf (λ _ r. (beyond-beyond 1 1 (closed_length false r), beyond-beyond 1 1 (bad_escape false r)))
    (λ _. cond_both (c == 13) _ _ UnitOf (λ _ r. (beyond-beyond 1 1 (closed_length false r), beyond-beyond 1 1 (bad_escape false r)))
    (λ _ r. alone c r q k)))))

length_two : (a b : List ℕ) (o : Option ℕ) → beyond (length a) (beyond (length b) o) ≡ beyond (length (a ++ b)) o
length_two a b o = beyond-beyond (length a) (length b) o ∙ ap (λ (n : ℕ). beyond n o) (sym (length-append a b))

written_unit : (cs r : List ℕ) → (closed_length false (encode_utf8_all (all_escaped cs) ++ r) ≡ beyond (length (encode_utf8_all (all_escaped cs))) (closed_length false r)) × (bad_escape false (encode_utf8_all (all_escaped cs) ++ r) ≡ beyond (length (encode_utf8_all (all_escaped cs))) (bad_escape false r))
written_unit [] r = (nothing_more (closed_length false r), nothing_more (bad_escape false r))
written_unit (c ∷ cs) r =
    let a : List ℕ = encode_utf8_all (escaped c) in
    let b : List ℕ = encode_utf8_all (all_escaped cs) in
    let whole : encode_utf8_all (escaped c ++ all_escaped cs) ≡ a ++ b = encodes-append (escaped c) (all_escaped cs) in
    let h = escaped_unit c (b ++ r) in
    let t = written_unit cs r in
    subst (λ x. (closed_length false (x ++ r) ≡ beyond (length x) (closed_length false r)) × (bad_escape false (x ++ r) ≡ beyond (length x) (bad_escape false r))) (sym whole) (
      ap (closed_length false) (append_assoc a b r) ∙ h.0 ∙ ap (beyond (length a)) t.0 ∙ length_two a b (closed_length false r),
      ap (bad_escape false) (append_assoc a b r) ∙ h.1 ∙ ap (beyond (length a)) t.1 ∙ length_two a b (bad_escape false r),
    )

-- a string is a quote, what is written of its characters, and a quote
pub quoted_is : (s : List ℕ) → quoted s ≡ 34 ∷ (encode_utf8_all (all_escaped (chars s)) ++ (34 ∷ []))
unfolding encode_utf8
quoted_is s = ap (λ l. 34 ∷ l) (encodes-append (all_escaped (chars s)) (34 ∷ []))

string_row : (body rest : List ℕ) → closed_length false (body ++ (34 ∷ rest)) ≡ Some (length body + 1) → bad_escape false (body ++ (34 ∷ rest)) ≡ None → IsUtf8 (34 ∷ (body ++ (34 ∷ rest)))
    → found (34 ∷ (body ++ (34 ∷ rest))) ≡ Lexed Text (length (34 ∷ (body ++ (34 ∷ []))))
string_row body rest c g u =
    let text : List ℕ = 34 ∷ (body ++ (34 ∷ rest)) in
    let n : text_length text ≡ 1 + (length body + 1) = ap (λ o. unwrap_or (beyond 1 o) 0) c in
    unspaced text 0 refl (omega arith)
    ∙ sym (text_found text u (omega arith) refl)
    ∙ ap (λ (i : ℕ). chosen (Text, i) text) n
    ∙ cond-false (1 + (length body + 1) == 0) _ _ (ne_eqb (1 + (length body + 1)) 0 (λ e. omega (arith, e)))
    ∙ ap (string_lexed (1 + (length body + 1))) g
    ∙ ap (λ (i : ℕ). Lexed Text i) (omega (arith, length-append body (34 ∷ [])))

pub string_cut : (s rest : List ℕ) → IsUtf8 (quoted s) → IsUtf8 rest → found (quoted s ++ rest) ≡ Lexed Text (length (quoted s))
string_cut s rest u v =
    let body : List ℕ = encode_utf8_all (all_escaped (chars s)) in
    let e = quoted_is s in
    let w = written_unit (chars s) (34 ∷ rest) in
    let same : (34 ∷ (body ++ (34 ∷ []))) ++ rest ≡ 34 ∷ (body ++ (34 ∷ rest)) = ap (λ l. 34 ∷ l) (append_assoc body (34 ∷ []) rest) in
    let whole : quoted s ++ rest ≡ 34 ∷ (body ++ (34 ∷ rest)) = ap (λ l. l ++ rest) e ∙ same in
    ap found whole
    ∙ string_row body rest w.0 w.1 (subst IsUtf8 whole (IsUtf8-append (quoted s) rest u v))
    ∙ ap (λ l. Lexed Text (length l)) (sym e)

-- the characters of a string's text

escaped_scalars : (c : ℕ) (ds : List ℕ) → scalar c ≡ true → all_scalars ds ≡ true → all_scalars (escaped c ++ ds) ≡ true
escaped_scalars c ds h k =
    cond_both (c == 34) _ _ (λ e. all_scalars (e ++ ds) ≡ true) (λ _. k)
    (λ _. cond_both (c == 92) _ _ (λ e. all_scalars (e ++ ds) ≡ true) (λ _. k)
    (λ _. cond_both (c == 10) _ _ (λ e. all_scalars (e ++ ds) ≡ true) (λ _. k)
    (λ _. cond_both (c == 9) _ _ (λ e. all_scalars (e ++ ds) ≡ true) (λ _. k)
    (λ _. cond_both (c == 13) _ _ (λ e. all_scalars (e ++ ds) ≡ true) (λ _. k)
    (λ _. and_from (scalar c) (all_scalars ds) h k)))))

all_escaped_scalars : (cs ds : List ℕ) → all_scalars cs ≡ true → all_scalars ds ≡ true → all_scalars (all_escaped cs ++ ds) ≡ true
all_escaped_scalars [] ds h k = k
all_escaped_scalars (c ∷ cs) ds h k =
    let p = and_parts (scalar c) (all_scalars cs) h in
    subst (λ l. all_scalars l ≡ true) (sym (append_assoc (escaped c) (all_escaped cs) ds)) (escaped_scalars c (all_escaped cs ++ ds) p.0 (all_escaped_scalars cs ds p.1 k))

pub quoted_scalars : (s : List ℕ) → IsUtf8 s → all_scalars (34 ∷ (all_escaped (chars s) ++ (34 ∷ []))) ≡ true
quoted_scalars s u = all_escaped_scalars (chars s) (34 ∷ []) (scalars-chars s u) refl

pub quoted_utf8 : (s : List ℕ) → IsUtf8 s → IsUtf8 (quoted s)
quoted_utf8 s u = (34 ∷ (all_escaped (chars s) ++ (34 ∷ [])), (quoted_scalars s u, refl))
