-- The characters of a string, one after another.
use Rattle.std.proofs.Common.{ℕ, ◌≡◌, ◌≢◌, Bool, true, false, List, [], ◌∷◌, ◌++◌, length, refl, sym, ap, ◌∙◌, append_assoc, append-nil}
use Rattle.std.specs.Prelude.{encode_utf8, encode_utf8_all}
use Rattle.std.specs.Str.{IsUtf8, chars}
use Rattle.std.proofs.lemmas.Bool.{ne_eqb}
use Rattle.std.proofs.lemmas.Str.{chars_past_char, IsUtf8-past_char, chars-nil}
use Rattle.wl_syntax.specs.Atoms.{unquoted, escaped, string_of}

-- what is written of a string, and what is left of it
pub record Unquoting (token written : List ℕ) (is_escaped : Bool) (rest : List ℕ) : Type 0 where
  pub utf8 : IsUtf8 rest
  pub whole : string_of token ≡ written ++ encode_utf8_all (unquoted is_escaped (chars rest))

pub unquoting_begins : (token written rest : List ℕ) (b : Bool) → IsUtf8 token → rest ≡ token → written ≡ [] → b ≡ false → Unquoting token written b rest
unquoting_begins token written rest b u e f g = rw (e, f, g) (record { utf8 = u; whole = refl })

-- a character stands for one
stands : (token written new : List ℕ) (b : Bool) (rest left : List ℕ) (c d : ℕ) → Unquoting token written b rest → rest ≡ encode_utf8 c ++ left → unquoted b (c ∷ chars left) ≡ d ∷ unquoted false (chars left) → new ≡ written ++ encode_utf8 d → Unquoting token new false left
stands token written new b rest left c d h e f g = record {
  utf8 = IsUtf8-past_char rest left c h.utf8 e;
  whole = h.whole ∙ ap (λ cs. written ++ encode_utf8_all (unquoted b cs)) (chars_past_char rest left c h.utf8 e) ∙ ap (λ cs. written ++ encode_utf8_all cs) f
      ∙ sym (append_assoc written (encode_utf8 d) (encode_utf8_all (unquoted false (chars left)))) ∙ ap (λ w. w ++ encode_utf8_all (unquoted false (chars left))) (sym g);
}

-- or for none
skips : (token written : List ℕ) (b to : Bool) (rest left : List ℕ) (c : ℕ) → Unquoting token written b rest → rest ≡ encode_utf8 c ++ left → unquoted b (c ∷ chars left) ≡ unquoted to (chars left) → Unquoting token written to left
skips token written b to rest left c h e f = record {
  utf8 = IsUtf8-past_char rest left c h.utf8 e;
  whole = h.whole ∙ ap (λ cs. written ++ encode_utf8_all (unquoted b cs)) (chars_past_char rest left c h.utf8 e) ∙ ap (λ cs. written ++ encode_utf8_all cs) f;
}

pub next_escaped : (token written new : List ℕ) (b : Bool) (rest left : List ℕ) (c d : ℕ) → b ≡ true → Unquoting token written b rest → rest ≡ encode_utf8 c ++ left → d ≡ escaped c → new ≡ written ++ encode_utf8 d → Unquoting token new false left
next_escaped token written new b rest left c d t h e f g = stands token written new b rest left c d h e (rw (t, f) refl) g

pub next_backslash : (token written : List ℕ) (b : Bool) (rest left : List ℕ) (c : ℕ) → b ≡ false → Unquoting token written b rest → rest ≡ encode_utf8 c ++ left → c ≡ 92 → Unquoting token written true left
next_backslash token written b rest left c t h e f = skips token written b true rest left c h e (rw (t, f) refl)

pub next_quote : (token written : List ℕ) (b : Bool) (rest left : List ℕ) (c : ℕ) → b ≡ false → Unquoting token written b rest → rest ≡ encode_utf8 c ++ left → c ≡ 34 → Unquoting token written b left
next_quote token written b rest left c t h e f = skips token written b b rest left c h e (rw (t, f) refl)

pub next_plain : (token written new : List ℕ) (b : Bool) (rest left : List ℕ) (c : ℕ) → b ≡ false → Unquoting token written b rest → rest ≡ encode_utf8 c ++ left → c ≢ 92 → c ≢ 34 → new ≡ written ++ encode_utf8 c → Unquoting token new b left
next_plain token written new b rest left c t h e m n g =
    rw t (stands token written new b rest left c c h e (rw (t, ne_eqb c 92 m, ne_eqb c 34 n) refl) g)

pub unquoting_ends : (token written rest : List ℕ) (b : Bool) → Unquoting token written b rest → length rest ≡ 0 → written ≡ string_of token
unquoting_ends token written [] b h e = sym (h.whole ∙ ap (λ cs. written ++ encode_utf8_all (unquoted b cs)) chars-nil ∙ nothing b)
  where
    nothing : (c : Bool) → written ++ encode_utf8_all (unquoted c []) ≡ written
    nothing true = append-nil written
    nothing false = append-nil written
unquoting_ends token written (c ∷ rest) b h e = absurd (cc)
