-- A name is read character by character.
use Rattle.std.proofs.Common.{◌≡◌, ℕ, Bool, true, false, List, [], ◌∷◌, ◌++◌, ◌&&◌, length, ap, sym, subst, refl, ◌∙◌, arith}
use Rattle.std.specs.Char.{encode_utf8}
use Rattle.std.specs.Str.{chars, IsUtf8}
use Rattle.std.proofs.lemmas.Str.{chars_past_char, IsUtf8-past_char}
use Rattle.wl_ports.specs.Name.{begins_name, continues_name, all_continue_name, spells_name, is_name}

-- what is left of a text: it is UTF-8, and the text is a name where the rest continues one
pub record IsNameSoFar (text rest : List ℕ) : Type 0 where
  pub utf8 : IsUtf8 rest
  pub same : is_name text ≡ all_continue_name (chars rest)

pub name_begun : (text before rest : List ℕ) (c : ℕ) → IsUtf8 text → before ≡ text → before ≡ encode_utf8 c ++ rest → begins_name c ≡ true → IsNameSoFar text rest
name_begun text before rest c utf8 same first begins =
    let here : IsUtf8 before = subst IsUtf8 (sym same) utf8 in
    record {
      utf8 = IsUtf8-past_char before rest c here first;
      same = ap is_name (sym same) ∙ ap spells_name (chars_past_char before rest c here first) ∙ ap (λ (b : Bool). b && all_continue_name (chars rest)) begins;
    }

pub name_goes_on : (text before rest : List ℕ) (c : ℕ) → IsNameSoFar text before → before ≡ encode_utf8 c ++ rest → continues_name c ≡ true → IsNameSoFar text rest
name_goes_on text before rest c so_far first continues = record {
  utf8 = IsUtf8-past_char before rest c so_far.utf8 first;
  same = so_far.same ∙ ap all_continue_name (chars_past_char before rest c so_far.utf8 first) ∙ ap (λ (b : Bool). b && all_continue_name (chars rest)) continues;
}

pub name_not_begun : (text before rest : List ℕ) (c : ℕ) → IsUtf8 text → before ≡ text → before ≡ encode_utf8 c ++ rest → begins_name c ≡ false → false ≡ is_name text
name_not_begun text before rest c utf8 same first begins =
    let here : IsUtf8 before = subst IsUtf8 (sym same) utf8 in
    sym (ap is_name (sym same) ∙ ap spells_name (chars_past_char before rest c here first) ∙ ap (λ (b : Bool). b && all_continue_name (chars rest)) begins)

pub name_ends_early : (text before rest : List ℕ) (c : ℕ) → IsNameSoFar text before → before ≡ encode_utf8 c ++ rest → continues_name c ≡ false → false ≡ is_name text
name_ends_early text before rest c so_far first continues =
    sym (so_far.same ∙ ap all_continue_name (chars_past_char before rest c so_far.utf8 first) ∙ ap (λ (b : Bool). b && all_continue_name (chars rest)) continues)

no_characters : (rest : List ℕ) → length rest ≡ 0 → chars rest ≡ []
unfolding chars
no_characters [] none = refl
no_characters (b ∷ bs) none = absurd (omega arith)

pub name_ended : (text rest : List ℕ) → IsNameSoFar text rest → length rest ≡ 0 → true ≡ is_name text
name_ended text rest so_far none = sym (so_far.same ∙ ap all_continue_name (no_characters rest none))

pub no_name : (text rest : List ℕ) → rest ≡ text → length rest ≡ 0 → false ≡ is_name text
no_name text rest same none = sym (ap is_name (sym same) ∙ ap spells_name (no_characters rest none))
