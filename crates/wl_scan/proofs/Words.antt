-- The bytes of a name at the start of a text are a name.
use Rattle.std.proofs.Common.{inl, inr, ◌≡◌, ℕ, ◌+◌, ◌<◌, Bool, true, false, cond, List, [], ◌∷◌, ◌++◌, length, take, get_or, ap, sym, subst, refl, ◌∙◌, arith}
use Rattle.std.specs.Char.{encode_utf8, len_utf8}
use Rattle.std.specs.Str.{chars, IsUtf8, all_scalars, encode_utf8_all, NonePass, NoCharPasses}
use Rattle.std.proofs.Math.Seq.{take-append-add}
use Rattle.std.proofs.lemmas.Str.{chars-encodes, length-encode, NoCharPasses-byte}
use Rattle.std.proofs.lemmas.Bool.{cases_Bool, cases_lt, cond_both, cond-true, cond-false, and_parts, and_from, ne_eqb, false≢true}
use Rattle.unicode_ident.proofs.Computing.{unicode_ident}
use Rattle.wl_ports.specs.Name.{begins_name, continues_name, all_continue_name, spells_name, is_name}
use Rattle.wl_scan.specs.Lengths.{fits_name, spelled_length, name_length}
use Rattle.wl_scan.specs.Forms.{IsWord, is_mark}

-- the characters of the name that a text begins with
abbrev spelled : Bool → List ℕ → List ℕ
spelled is_first [] = []
spelled is_first (c ∷ cs) = cond (fits_name is_first c) (c ∷ spelled false cs) []

taken_spelled : (is_first : Bool) (cs : List ℕ) → take (spelled_length is_first cs) (encode_utf8_all cs) ≡ encode_utf8_all (spelled is_first cs)
taken_spelled is_first [] = refl
taken_spelled is_first (c ∷ cs) =
    let n = spelled_length false cs in
    let text = encode_utf8 c ++ encode_utf8_all cs in
    elim (cases_Bool (fits_name is_first c)) [
      | inl fits ↦
          ap (λ (k : ℕ). take k text) (cond-true (fits_name is_first c) (len_utf8 c + n) 0 fits ∙ ap (λ (k : ℕ). k + n) (sym (length-encode c)))
          ∙ take-append-add (encode_utf8 c) (encode_utf8_all cs) n ∙ ap (λ (l : List ℕ). encode_utf8 c ++ l) (taken_spelled false cs)
          ∙ ap encode_utf8_all (sym (cond-true (fits_name is_first c) (c ∷ spelled false cs) [] fits))
      | inr fails ↦
          ap (λ (k : ℕ). take k text) (cond-false (fits_name is_first c) (len_utf8 c + n) 0 fails)
          ∙ ap encode_utf8_all (sym (cond-false (fits_name is_first c) (c ∷ spelled false cs) [] fails))
    ]

spelled_scalars : (is_first : Bool) (cs : List ℕ) → all_scalars cs ≡ true → all_scalars (spelled is_first cs) ≡ true
spelled_scalars is_first [] scalars = refl
spelled_scalars is_first (c ∷ cs) scalars =
    let parts = and_parts _ (all_scalars cs) scalars in
    cond_both (fits_name is_first c) (c ∷ spelled false cs) [] (λ (l : List ℕ). all_scalars l ≡ true)
    (λ _. and_from _ (all_scalars (spelled false cs)) parts.0 (spelled_scalars false cs parts.1)) (λ _. refl)

spelled_continues : (cs : List ℕ) → all_continue_name (spelled false cs) ≡ true
spelled_continues [] = refl
spelled_continues (c ∷ cs) =
    cond_both (continues_name c) (c ∷ spelled false cs) [] (λ (l : List ℕ). all_continue_name l ≡ true)
    (λ fits. and_from (continues_name c) (all_continue_name (spelled false cs)) fits (spelled_continues cs)) (λ _. refl)

spelled_name : (cs : List ℕ) → 0 < spelled_length true cs → spells_name (spelled true cs) ≡ true
spelled_name [] some = absurd (omega (arith, some))
spelled_name (c ∷ cs) some =
    elim (cases_Bool (begins_name c)) [
      | inl fits ↦
          ap spells_name (cond-true (begins_name c) (c ∷ spelled false cs) [] fits) ∙ and_from (begins_name c) (all_continue_name (spelled false cs)) fits (spelled_continues cs)
      | inr fails ↦ absurd (omega (arith, some, cond-false (begins_name c) (len_utf8 c + spelled_length false cs) 0 fails))
    ]

name_characters : (text : List ℕ) (utf8 : IsUtf8 text) → take (name_length text) text ≡ encode_utf8_all (spelled true utf8.0)
name_characters text utf8 =
    let cs = utf8.0 in
    let characters : chars text ≡ cs = ap chars (sym utf8.1.1) ∙ chars-encodes cs utf8.1.0 in
    ap (λ (k : ℕ). take k text) (ap (spelled_length true) characters) ∙ ap (take (spelled_length true cs)) (sym utf8.1.1) ∙ taken_spelled true cs

pub word_taken : (text : List ℕ) → IsUtf8 text → 0 < name_length text → IsWord (take (name_length text) text)
word_taken text utf8 some =
    let cs = utf8.0 in
    let scalars = spelled_scalars true cs utf8.1.0 in
    let characters : chars text ≡ cs = ap chars (sym utf8.1.1) ∙ chars-encodes cs utf8.1.0 in
    let name : is_name (encode_utf8_all (spelled true cs)) ≡ true =
    ap spells_name (chars-encodes (spelled true cs) scalars) ∙ spelled_name cs (subst (λ (l : List ℕ). 0 < spelled_length true l) characters some) in
    subst IsWord (sym (name_characters text utf8)) (record { name = name; utf8 = (spelled true cs, (scalars, refl)) })

-- no `_` stands in a name

mark_begins_none : begins_name 95 ≡ false
unfolding unicode_ident
mark_begins_none = refl

mark_continues_none : continues_name 95 ≡ false
unfolding unicode_ident
mark_continues_none = refl

fits_unmarked : (is_first : Bool) (c : ℕ) → fits_name is_first c ≡ true → is_mark c ≡ false
fits_unmarked true c fits = ne_eqb c 95 (λ e. absurd (false≢true (sym mark_begins_none ∙ subst (λ (d : ℕ). begins_name d ≡ true) e fits)))
fits_unmarked false c fits = ne_eqb c 95 (λ e. absurd (false≢true (sym mark_continues_none ∙ subst (λ (d : ℕ). continues_name d ≡ true) e fits)))

spelled_unmarked : (is_first : Bool) (cs : List ℕ) → NonePass is_mark (spelled is_first cs)
spelled_unmarked is_first [] = tt
spelled_unmarked is_first (c ∷ cs) =
    cond_both (fits_name is_first c) (c ∷ spelled false cs) [] (NonePass is_mark) (λ fits. (fits_unmarked is_first c fits, spelled_unmarked false cs)) (λ _. tt)

abbrev pub IsUnmarked : List ℕ → Type 0
IsUnmarked text = (k : ℕ) → k < length text → is_mark (get_or text k 0) ≡ false

pub word_unmarked : (text : List ℕ) → IsUtf8 text → IsUnmarked (take (name_length text) text)
word_unmarked text utf8 k within =
    let word = take (name_length text) text in
    let none : NoCharPasses is_mark word = (spelled true utf8.0, sym (name_characters text utf8), spelled_unmarked true utf8.0) in
    elim (cases_lt (get_or word k 0) 128) [
      | inl low ↦ NoCharPasses-byte is_mark word k none within low
      | inr high ↦ ne_eqb (get_or word k 0) 95 (λ e. omega (arith, e, high))
    ]
