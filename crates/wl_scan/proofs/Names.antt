-- A name is read character by character.
use Rattle.std.proofs.Common.{◌≡◌, ℕ, ◌+◌, Bool, true, false, cond, List, [], ◌∷◌, ◌++◌, length, drop, ap, sym, subst, refl, ◌∙◌, arith}
use Rattle.std.proofs.lemmas.List.{length-append}
use Rattle.std.proofs.lemmas.Bool.{cond-true, cond-false}
use Rattle.std.specs.Char.{encode_utf8, len_utf8}
use Rattle.std.specs.Str.{chars, IsUtf8, IsCharBoundary}
use Rattle.std.proofs.lemmas.Str.{chars_past_char, IsUtf8-past_char, drop_past_char, length-encode, IsCharBoundary-from_drop}
use Rattle.wl_scan.specs.Lengths.{fits_name, spelled_length, name_length}

-- what is left of a text behind the first n bytes of a name
pub record NameSoFar (text rest : List ℕ) (n : ℕ) (is_first : Bool) : Type 0 where
  pub utf8 : IsUtf8 rest
  pub place : drop n text ≡ rest
  pub within : n + length rest ≡ length text
  pub same : name_length text ≡ n + spelled_length is_first (chars rest)

pub name_begins : (text rest : List ℕ) → IsUtf8 text → rest ≡ text → NameSoFar text rest 0 true
name_begins text rest utf8 same = record {
  utf8 = subst IsUtf8 (sym same) utf8;
  place = sym same;
  within = omega (arith, ap length same);
  same = ap name_length (sym same) ∙ omega arith;
}

spelled-cons : (before rest : List ℕ) (c : ℕ) (is_first : Bool) → IsUtf8 before → before ≡ encode_utf8 c ++ rest
    → spelled_length is_first (chars before) ≡ cond (fits_name is_first c) (len_utf8 c + spelled_length false (chars rest)) 0
spelled-cons before rest c is_first utf8 first = ap (spelled_length is_first) (chars_past_char before rest c utf8 first)

pub name_goes_on : (text before rest : List ℕ) (n c : ℕ) (is_first : Bool) → NameSoFar text before n is_first → before ≡ encode_utf8 c ++ rest → fits_name is_first c ≡ true
    → NameSoFar text rest (n + len_utf8 c) false
name_goes_on text before rest n c is_first so_far first fits = record {
  utf8 = IsUtf8-past_char before rest c so_far.utf8 first;
  place = drop_past_char text rest n c (so_far.place ∙ first);
  within = omega (arith, so_far.within, ap length first, length-append (encode_utf8 c) rest, length-encode c);
  same =
      let step : spelled_length is_first (chars before) ≡ len_utf8 c + spelled_length false (chars rest) =
      spelled-cons before rest c is_first so_far.utf8 first ∙ cond-true (fits_name is_first c) _ _ fits in
      omega (arith, so_far.same, step);
}

pub name_ends : (text before rest : List ℕ) (n c : ℕ) (is_first : Bool) → NameSoFar text before n is_first → before ≡ encode_utf8 c ++ rest → fits_name is_first c ≡ false
    → n ≡ name_length text
name_ends text before rest n c is_first so_far first none =
    let step : spelled_length is_first (chars before) ≡ 0 = spelled-cons before rest c is_first so_far.utf8 first ∙ cond-false (fits_name is_first c) _ _ none in
    omega (arith, so_far.same, step)

no_characters : (rest : List ℕ) → length rest ≡ 0 → chars rest ≡ []
unfolding chars
no_characters [] none = refl
no_characters (b ∷ bs) none = absurd (omega arith)

pub name_is_all : (text rest : List ℕ) (n : ℕ) (is_first : Bool) → NameSoFar text rest n is_first → length rest ≡ 0 → n ≡ name_length text
name_is_all text rest n is_first so_far none =
    let step : spelled_length is_first (chars rest) ≡ 0 = ap (spelled_length is_first) (no_characters rest none) in
    omega (arith, so_far.same, step)

pub name_boundary : (text rest : List ℕ) (n : ℕ) (is_first : Bool) → NameSoFar text rest n is_first → IsCharBoundary text n
name_boundary text rest n is_first so_far = IsCharBoundary-from_drop text n (omega (arith, so_far.within)) (subst IsUtf8 (sym so_far.place) so_far.utf8)
