-- Each token has the form of its kind.
use Rattle.std.proofs.Common.{inl, inr, ◌≡◌, ◌==◌, ℕ, zero, suc, ◌+◌, ◌-◌, ◌^◌, ◌≤◌, ◌<◌, Bool, true, false, ◌&&◌, cond, ltb, List, [], ◌∷◌, length, take, drop, codes, ap, sym, refl, subst, ◌∙◌, arith, Option, None, Some}
use Rattle.std.proofs.lemmas.List.Sums.{prefix_len-le-length}
use Rattle.std.specs.List.{All, prefix_len}
use Rattle.std.specs.Str.{IsUtf8}
use Rattle.std.proofs.lemmas.List.{drop-take, drop_all, length-drop, length-take-le}
use Rattle.std.proofs.lemmas.List.Elements.{All-nil, All-cons}
use Rattle.std.proofs.lemmas.Bool.{cases_Bool, cond_both, cond-true, cond-false, eqb-true, eqb-false, ne_eqb, ltb-true, ltb-false, false≢true, and_parts, and_from}
use Rattle.wl_scan.specs.Characters.{is_digit, is_letter_or_digit}
use Rattle.wl_scan.specs.Lengths.{blank_length, digits_length, letters_length, is_based, number_length, name_length, pattern_length, is_lone_dot, slot_marks, slot_length, percents_length, out_length, text_length, is_quote, bad_escape, begins_with, sign_length, comment_length}
use Rattle.wl_scan.specs.Literals.{value_in, decimal_value, greatest, base_of, is_base, digits_start, digits_of, literal_value, digit_fault, HasValue}
use Rattle.wl_scan.specs.Tokens.{Lexeme, Scanned, is_long, longest, rows, is_fraction, is_word, is_comment, string_lexed, in_base, lexed, unlexed, chosen, commented, token_found, found, coming, scanned_from}
use Rattle.wl_scan.specs.Forms.{IsNumeral, IsWord, IsSlot, HasForm}
use Rattle.wl_scan.specs.declared.token.Kind.{Kind}
use Rattle.wl_scan.specs.declared.token.Kind.TheVariants.{Number, Name, Pattern, Slot, Out, Text, Sign}
use Rattle.wl_scan.specs.declared.token.ScanKind.TheVariants.{Real, LongNumber, BadChar, OpenString, Base}
use Rattle.wl_scan.specs.declared.found.Found.{Found}
use Rattle.wl_scan.specs.declared.found.Found.TheVariants.{Gap, Lexed, Fault}
use Rattle.wl_scan.proofs.Steps.{Advances, begins_within, found_advances}
use Rattle.wl_scan.proofs.Words.{word_taken}
use Rattle.wl_scan.proofs.Patterns.{pattern_taken}

-- the passing bytes at the start of a text, in a front of it that holds them

prefix_kept : (p : ℕ → Bool) (k : ℕ) (text : List ℕ) → prefix_len p text ≤ k → prefix_len p (take k text) ≡ prefix_len p text
prefix_kept p zero [] within = refl
prefix_kept p zero (b ∷ bs) within = omega (arith, within)
prefix_kept p (suc k) [] within = refl
prefix_kept p (suc k) (b ∷ bs) within =
    elim (cases_Bool (p b)) [
      | inl passes ↦
          let rest = prefix_kept p k bs (omega (arith, within, cond-true (p b) (1 + prefix_len p bs) 0 passes)) in
          ap (λ (t : Bool). cond t (1 + prefix_len p (take k bs)) 0) passes ∙ ap (λ (n : ℕ). 1 + n) rest ∙ sym (cond-true (p b) (1 + prefix_len p bs) 0 passes)
      | inr fails ↦ cond-false (p b) (1 + prefix_len p (take k bs)) 0 fails ∙ sym (cond-false (p b) (1 + prefix_len p bs) 0 fails)
    ]

-- they pass by themselves
prefix_alone : (p : ℕ → Bool) (text : List ℕ) → prefix_len p (take (prefix_len p text) text) ≡ length (take (prefix_len p text) text)
prefix_alone p text =
    prefix_kept p (prefix_len p text) text (omega arith) ∙ sym (length-take-le (prefix_len p text) text (prefix_len-le-length p text))

begins_kept : (sign text : List ℕ) (k : ℕ) → length sign ≤ k → begins_with text sign ≡ true → begins_with (take k text) sign ≡ true
begins_kept [] text k within begins = refl
begins_kept (s ∷ sign) [] k within begins = absurd (false≢true begins)
begins_kept (s ∷ sign) (b ∷ bs) zero within begins = absurd (omega (arith, within))
begins_kept (s ∷ sign) (b ∷ bs) (suc k) within begins =
    let parts = and_parts (b == s) (begins_with bs sign) begins in
    and_from (b == s) (begins_with (take k bs) sign) parts.0 (begins_kept sign bs k (omega (arith, within)) parts.1)

-- digits alone are a literal in base ten

no_base : (text : List ℕ) → digits_length text ≡ length text → is_based text ≡ false
no_base text digits = ap (λ (l : List ℕ). begins_with l (codes "^^")) (drop_all (digits_length text) text (omega (arith, digits)))

plain_value : (text : List ℕ) → digits_length text ≡ length text → decimal_value text < 2 ^ 127 → HasValue text
plain_value text digits fits =
    let plain = no_base text digits in
    let base : base_of text ≡ 10 = cond-false (is_based text) _ 10 plain in
    let start : digits_start text ≡ 0 = cond-false (is_based text) _ 0 plain in
    let value : literal_value text ≡ decimal_value text = ap (λ (b : ℕ). value_in b (digits_of text)) base ∙ ap (λ (s : ℕ). value_in 10 (drop s text)) start in
    record { base = ap is_base base; fits = subst (λ (n : ℕ). n < 2 ^ 127) (sym value) fits }

below : (n : ℕ) → ltb greatest n ≡ false → n < 2 ^ 127
below n short = omega (arith, ltb-false greatest n short)

numeral_alone : (text : List ℕ) → is_long text ≡ false → IsNumeral (take (digits_length text) text)
numeral_alone text short =
    let digits = prefix_alone is_digit text in
    record { digits = digits; value = plain_value (take (digits_length text) text) digits (below (decimal_value (take (digits_length text) text)) short) }

-- the literal that a text begins with is a literal by itself

plain_whole : (text : List ℕ) → number_length (take (digits_length text) text) ≡ length (take (digits_length text) text)
plain_whole text =
    let literal = take (digits_length text) text in
    let n = digits_length literal in
    let digits : n ≡ length literal = prefix_alone is_digit text in
    cond_both (n == 0) 0 _ (λ (k : ℕ). k ≡ length literal) (λ none. sym (eqb-true n 0 none) ∙ digits)
    (λ _. cond-false (is_based literal) (n + 2 + letters_length (drop (n + 2) literal)) n (no_base literal digits) ∙ digits)

based_whole : (text : List ℕ) (d m : ℕ) → 0 < d → d ≡ digits_length text → m ≡ letters_length (drop (d + 2) text) → is_based text ≡ true
    → number_length (take (d + 2 + m) text) ≡ length (take (d + 2 + m) text)
based_whole text d m some digits letters based =
    let literal = take (d + 2 + m) text in
    let front : digits_length literal ≡ d = prefix_kept is_digit (d + 2 + m) text (omega (arith, digits)) ∙ sym digits in
    let regroup : d + 2 + m ≡ d + (2 + m) = omega arith in
    let behind : drop d literal ≡ take (2 + m) (drop d text) = ap (λ (k : ℕ). drop d (take k text)) regroup ∙ drop-take d (2 + m) text in
    let here : begins_with (drop d text) (codes "^^") ≡ true = ap (λ (k : ℕ). begins_with (drop k text) (codes "^^")) digits ∙ based in
    let marks : begins_with (drop d literal) (codes "^^") ≡ true =
    ap (λ (l : List ℕ). begins_with l (codes "^^")) behind ∙ begins_kept (codes "^^") (drop d text) (2 + m) (omega arith) here in
    let still : is_based literal ≡ true = ap (λ (k : ℕ). begins_with (drop k literal) (codes "^^")) front ∙ marks in
    let rest : drop (d + 2) literal ≡ take m (drop (d + 2) text) = drop-take (d + 2) m text in
    let alone : letters_length (drop (d + 2) literal) ≡ length (drop (d + 2) literal) =
    ap letters_length rest
    ∙ subst (λ (k : ℕ). letters_length (take k (drop (d + 2) text)) ≡ length (take k (drop (d + 2) text))) (sym letters) (prefix_alone is_letter_or_digit (drop (d + 2) text))
    ∙ sym (ap length rest) in
    let some_digits : (digits_length literal == 0) ≡ false = ne_eqb (digits_length literal) 0 (λ e. omega (arith, e, front, some)) in
    cond-false (digits_length literal == 0) 0 _ some_digits
    ∙ cond-true (is_based literal) (digits_length literal + 2 + letters_length (drop (digits_length literal + 2) literal)) (digits_length literal) still
    ∙ ap (λ (k : ℕ). k + 2 + letters_length (drop (k + 2) literal)) front
    ∙ omega (arith, alone, length-drop (d + 2) literal, begins_within (codes "^^") (drop d literal) marks, length-drop d literal)

number_whole : (text : List ℕ) (n : ℕ) → n ≡ number_length text → number_length (take n text) ≡ length (take n text)
number_whole text n is =
    let d = digits_length text in
    let m = letters_length (drop (d + 2) text) in
    let P : ℕ → Type 0 = λ k. number_length (take k text) ≡ length (take k text) in
    subst P (sym is)
    (elim (cases_Bool (d == 0)) [
      | inl none ↦ subst P (sym (cond-true (d == 0) 0 (cond (is_based text) (d + 2 + m) d) none)) refl
      | inr some ↦
          let not_none : d ≡ 0 → ⊥ = eqb-false d 0 some in
          subst P (sym (cond-false (d == 0) 0 (cond (is_based text) (d + 2 + m) d) some))
          (cond_both (is_based text) (d + 2 + m) d P (λ based. based_whole text d m (omega (arith, not_none)) refl refl based) (λ _. plain_whole text))
    ])

-- the marks of a slot are those of a longer front

first_mark : (b c : ℕ) (cs : List ℕ) (k : ℕ) → (b == 35) ≡ true → (c == 35) ≡ false → slot_marks (take (suc k) (b ∷ c ∷ cs)) ≡ 1
first_mark b c cs zero mark no_second = cond-true (b == 35) 1 0 mark
first_mark b c cs (suc k) mark no_second = cond-true (b == 35) (cond (c == 35) 2 1) 0 mark ∙ cond-false (c == 35) 2 1 no_second

two_marks : (b c : ℕ) (cs : List ℕ) (k : ℕ) → slot_marks (take (suc (suc k)) (b ∷ c ∷ cs)) ≡ slot_marks (b ∷ c ∷ cs)
two_marks b c cs k = refl

one_mark : (b k : ℕ) → slot_marks (take (suc k) (b ∷ [])) ≡ slot_marks (b ∷ [])
one_mark b zero = refl
one_mark b (suc k) = refl

marks_kept : (text : List ℕ) (k : ℕ) → 0 < slot_marks text → slot_marks (take (slot_marks text + k) text) ≡ slot_marks text
marks_kept [] k some = absurd (omega (arith, some))
marks_kept (b ∷ []) k some =
    elim (cases_Bool (b == 35)) [
      | inl mark ↦
          let one : slot_marks (b ∷ []) ≡ 1 = cond-true (b == 35) 1 0 mark in
          let one_more : 1 + k ≡ suc k = omega arith in
          ap (λ (n : ℕ). slot_marks (take (n + k) (b ∷ []))) one ∙ ap (λ (n : ℕ). slot_marks (take n (b ∷ []))) one_more ∙ one_mark b k
      | inr other ↦ let none : slot_marks (b ∷ []) ≡ 0 = cond-false (b == 35) 1 0 other in absurd (omega (arith, some, none))
    ]
marks_kept (b ∷ c ∷ cs) k some =
    let text = b ∷ c ∷ cs in
    elim (cases_Bool (b == 35)) [
      | inl mark ↦
          elim (cases_Bool (c == 35)) [
            | inl second ↦
                let two : slot_marks text ≡ 2 = cond-true (b == 35) (cond (c == 35) 2 1) 0 mark ∙ cond-true (c == 35) 2 1 second in
                let two_more : 2 + k ≡ suc (suc k) = omega arith in
                ap (λ (n : ℕ). slot_marks (take (n + k) text)) two ∙ ap (λ (n : ℕ). slot_marks (take n text)) two_more ∙ two_marks b c cs k
            | inr no_second ↦
                let one : slot_marks text ≡ 1 = cond-true (b == 35) (cond (c == 35) 2 1) 0 mark ∙ cond-false (c == 35) 2 1 no_second in
                let one_more : 1 + k ≡ suc k = omega arith in
                ap (λ (n : ℕ). slot_marks (take (n + k) text)) one ∙ ap (λ (n : ℕ). slot_marks (take n text)) one_more ∙ first_mark b c cs k mark no_second ∙ sym one
          ]
      | inr other ↦ let none : slot_marks text ≡ 0 = cond-false (b == 35) (cond (c == 35) 2 1) 0 other in absurd (omega (arith, some, none))
    ]

marks_some : (text : List ℕ) (n : ℕ) → 0 < n → n ≡ slot_length text → 0 < slot_marks text
marks_some text n some is =
    let m = slot_marks text in
    elim (cases_Bool (m == 0)) [
      | inl none ↦ absurd (omega (arith, some, is, cond-true (m == 0) 0 (m + digits_length (drop m text)) none))
      | inr marks ↦ let not_none : m ≡ 0 → ⊥ = eqb-false m 0 marks in omega (arith, not_none)
    ]

slot_taken : (text : List ℕ) (n : ℕ) → 0 < n → n ≡ slot_length text → is_long (drop (slot_marks text) text) ≡ false → IsSlot (take n text)
slot_taken text n some is short =
    let m = slot_marks text in
    let d = digits_length (drop m text) in
    let marks : 0 < m = marks_some text n some is in
    let whole : n ≡ m + d = is ∙ cond-false (m == 0) 0 (m + d) (ne_eqb m 0 (λ e. omega (arith, e, marks))) in
    let kept : slot_marks (take n text) ≡ m = ap (λ (k : ℕ). slot_marks (take k text)) whole ∙ marks_kept text d marks in
    let part : drop (slot_marks (take n text)) (take n text) ≡ take d (drop m text) =
    ap (λ (k : ℕ). drop k (take n text)) kept ∙ ap (λ (k : ℕ). drop m (take k text)) whole ∙ drop-take m d text in
    record { marks = omega (arith, kept, marks); numeral = subst IsNumeral (sym part) (numeral_alone (drop m text) short) }

out_numeral : (text : List ℕ) (n : ℕ) → n ≡ out_length text → is_long (drop 1 text) ≡ false → percents_length (take n text) ≡ 1 → IsNumeral (drop 1 (take n text))
out_numeral text n is short one =
    let m = percents_length text in
    let d = digits_length (drop 1 text) in
    elim (cases_Bool (m == 1)) [
      | inl single ↦
          let whole : n ≡ 1 + d = is ∙ cond-true (m == 1) (1 + d) m single in
          subst IsNumeral (sym (ap (λ (k : ℕ). drop 1 (take k text)) whole ∙ drop-take 1 d text)) (numeral_alone (drop 1 text) short)
      | inr several ↦
          let whole : n ≡ m = is ∙ cond-false (m == 1) (1 + d) m several in
          let alone : percents_length (take n text) ≡ length (take n text) = subst (λ (k : ℕ). percents_length (take k text) ≡ length (take k text)) (sym whole) (prefix_alone _ text) in
          let size : length (take n text) ≡ n = length-take-le n text (omega (arith, whole, prefix_len-le-length (λ b. b == 37) text)) in
          absurd (eqb-false m 1 several (omega (arith, alone, size, one, whole)))
    ]

-- the row that is the longest has the length of its kind

abbrev row_length : Kind → List ℕ → ℕ
row_length Number text = number_length text
row_length Name text = name_length text
row_length Pattern text = pattern_length text
row_length Slot text = slot_length text
row_length Out text = out_length text
row_length Text text = text_length text
row_length Sign text = sign_length text

abbrev IsRow : List ℕ → Kind × ℕ → Type 0
IsRow text row = row.1 ≡ row_length row.0 text

longer_is_row : (text : List ℕ) (row : Kind × ℕ) (more : List (Kind × ℕ)) → IsRow text row → IsRow text (longest more) → IsRow text (longest (row ∷ more))
longer_is_row text row more first rest = cond_both (ltb row.1 (longest more).1) (longest more) row (IsRow text) (λ _. rest) (λ _. first)

last_is_row : (text : List ℕ) → IsRow text (longest ((Sign, sign_length text) ∷ []))
last_is_row text =
    let last : Kind × ℕ = (Sign, sign_length text) in
    cond_both (ltb (sign_length text) 0) (longest []) last (IsRow text) (λ e. absurd (omega (arith, ltb-true (sign_length text) 0 e))) (λ _. refl)

longest_is_row : (text : List ℕ) → IsRow text (longest (rows text))
unfolding rows
longest_is_row text =
    let signs_row = (Sign, sign_length text) ∷ [] in
    let texts_row = (Text, text_length text) ∷ signs_row in
    let outs_row = (Out, out_length text) ∷ texts_row in
    let slots_row = (Slot, slot_length text) ∷ outs_row in
    let patterns_row = (Pattern, pattern_length text) ∷ slots_row in
    let names_row = (Name, name_length text) ∷ patterns_row in
    longer_is_row text (Number, number_length text) names_row refl
    (longer_is_row text (Name, name_length text) patterns_row refl
    (longer_is_row text (Pattern, pattern_length text) slots_row refl
    (longer_is_row text (Slot, slot_length text) outs_row refl
    (longer_is_row text (Out, out_length text) texts_row refl (longer_is_row text (Text, text_length text) signs_row refl (last_is_row text))))))

-- what is found

abbrev FoundHasForm : List ℕ → Found → Type 0
FoundHasForm text (Lexed kind n) = HasForm kind (take n text)
FoundHasForm text f = Unit {0}

string_has : (text : List ℕ) (n : ℕ) (o : Option ℕ) → FoundHasForm text (string_lexed n o)
string_has text n None = tt
string_has text n (Some k) = tt

some_percent : (text : List ℕ) (n : ℕ) → 0 < n → n ≡ out_length text → 0 < percents_length (take n text)
some_percent [] n some is = absurd (omega (arith, some, is))
some_percent (b ∷ bs) zero some is = absurd (omega (arith, some))
some_percent (b ∷ bs) (suc n) some is =
    elim (cases_Bool (b == 37)) [
      | inl mark ↦ omega (arith, cond-true (b == 37) (1 + percents_length (take n bs)) 0 mark)
      | inr other ↦ absurd (omega (arith, some, is, ap (λ (k : ℕ). cond (k == 1) (1 + digits_length bs) k) (cond-false (b == 37) (1 + percents_length bs) 0 other)))
    ]

number_has : (n : ℕ) (text : List ℕ) (o : Option ℕ) → n ≡ number_length text → is_base (base_of (take n text)) ≡ true → digit_fault (take n text) ≡ o
    → FoundHasForm text (in_base o n text)
number_has n text (Some k) is base digits = tt
number_has n text None is base digits =
    cond_both (is_lone_dot (drop n text)) (Fault Real 0) _ (FoundHasForm text) (λ _. tt)
    (λ _. cond_both (ltb greatest (literal_value (take n text))) (Fault LongNumber 0) (Lexed Number n) (FoundHasForm text) (λ _. tt)
    (λ short. record { whole = number_whole text n is; digits = digits; value = record { base = base; fits = below (literal_value (take n text)) short } }))

lexed_has : (kind : Kind) (n : ℕ) (text : List ℕ) → IsUtf8 text → 0 < n → n ≡ row_length kind text → FoundHasForm text (lexed kind n text)
lexed_has Number n text utf8 some is =
    cond_both (is_base (base_of (take n text))) (in_base (digit_fault (take n text)) n text) (Fault Base 0) (FoundHasForm text)
    (λ base. number_has n text (digit_fault (take n text)) is base refl) (λ _. tt)
lexed_has Slot n text utf8 some is =
    cond_both (is_long (drop (slot_marks text) text)) (Fault LongNumber 0) _ (FoundHasForm text) (λ _. tt)
    (λ short. cond_both ((n == 1) && is_word (drop 1 text)) (Fault BadChar 0) (Lexed Slot n) (FoundHasForm text) (λ _. tt) (λ _. slot_taken text n some is short))
lexed_has Out n text utf8 some is =
    cond_both (is_long (drop 1 text)) (Fault LongNumber 0) (Lexed Out n) (FoundHasForm text) (λ _. tt)
    (λ short. record { marks = some_percent text n some is; numeral = out_numeral text n is short })
lexed_has Text n text utf8 some is = string_has text n (bad_escape false (drop 1 text))
lexed_has Name n text utf8 some is = subst (λ (k : ℕ). IsWord (take k text)) (sym is) (word_taken text utf8 (omega (arith, some, is)))
lexed_has Pattern n text utf8 some is = pattern_taken text n utf8 some is
lexed_has Sign n text utf8 some is = tt

token_has : (text : List ℕ) → IsUtf8 text → FoundHasForm text (token_found text)
token_has text utf8 =
    let row = longest (rows text) in
    let P = FoundHasForm text in
    cond_both (is_fraction text) (Fault Real 0) (chosen row text) P (λ _. tt)
    (λ _. cond_both (row.1 == 0) (unlexed text) (lexed row.0 row.1 text) P
    (λ _. cond_both (is_quote text) (Fault OpenString 0) (Fault BadChar 0) P (λ _. tt) (λ _. tt))
    (λ e. lexed_has row.0 row.1 text utf8 (let not_none : row.1 ≡ 0 → ⊥ = eqb-false row.1 0 e in omega (arith, not_none)) (longest_is_row text)))

comment_has : (text : List ℕ) (o : Option ℕ) → FoundHasForm text (commented o)
comment_has text None = tt
comment_has text (Some n) = tt

pub found_has : (text : List ℕ) → IsUtf8 text → FoundHasForm text (found text)
found_has text utf8 =
    cond_both (ltb 0 (blank_length text)) (Gap (blank_length text)) _ (FoundHasForm text) (λ _. tt)
    (λ _. cond_both (is_comment text) (commented (comment_length text)) (token_found text) (FoundHasForm text) (λ _. comment_has text (comment_length text))
    (λ _. token_has text utf8))

-- what is still to come

abbrev TokenHas : Lexeme → Type 0
TokenHas t = HasForm t.kind t.text

coming_has : (b at : ℕ) (bs : List ℕ) (f : Found) (rest : ℕ → Scanned) → FoundHasForm (b ∷ bs) f → Advances (b ∷ bs) f
    → ((n : ℕ) → IsUtf8 (drop n bs) → All TokenHas (rest n).tokens) → All TokenHas (coming f (b ∷ bs) at rest).tokens
coming_has b at bs (Gap zero) rest here advances all = absurd (omega (arith, advances.0))
coming_has b at bs (Gap (suc n)) rest here advances all = let next : n ≡ suc n - 1 = omega arith in subst (λ (k : ℕ). All TokenHas (rest k).tokens) next (all n advances.1.utf8)
coming_has b at bs (Lexed kind zero) rest here advances all = absurd (omega (arith, advances.0))
coming_has b at bs (Lexed kind (suc n)) rest here advances all =
    let next : n ≡ suc n - 1 = omega arith in
    All-cons TokenHas (record { kind = kind; text = take (suc n) (b ∷ bs); at = at }) (rest (suc n - 1)).tokens here
    (subst (λ (k : ℕ). All TokenHas (rest k).tokens) next (all n advances.1.utf8))
coming_has b at bs (Fault kind n) rest here advances all = All-nil TokenHas

pub forms_from : (passed at : ℕ) (bs : List ℕ) → IsUtf8 (drop passed bs) → All TokenHas (scanned_from passed at bs).tokens
unfolding scanned_from
forms_from passed at [] utf8 = All-nil TokenHas
forms_from (suc passed) at (b ∷ bs) utf8 = forms_from passed (at + 1) bs utf8
forms_from zero at (b ∷ bs) utf8 =
    coming_has b at bs (found (b ∷ bs)) (λ n. scanned_from n (at + 1) bs) (found_has (b ∷ bs) utf8) (found_advances (b ∷ bs) utf8 (omega arith))
    (λ n rest. forms_from n (at + 1) bs rest)
