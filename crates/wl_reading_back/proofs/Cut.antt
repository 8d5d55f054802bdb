-- The tokens of a text, one cut off after another.
use Rattle.std.proofs.Common.{ℕ, zero, suc, ◌+◌, ◌-◌, ◌<◌, ◌≡◌, true, false, ◌==◌, cond, List, [], ◌∷◌, ◌++◌, length, take, drop, get_or, refl, sym, ap, ◌∙◌, arith, ltb}
use Rattle.std.specs.Prelude.{None, map}
use Rattle.std.specs.Str.{IsUtf8}
use Rattle.std.proofs.lemmas.List.{take-append-le, drop-append-le, take_all, drop_all}
use Rattle.std.proofs.lemmas.Bool.{cond-true, cond-false, true≢false, lt-ltb}
use Rattle.std.proofs.lemmas.Bool.Decides.{nat_tests}
use Rattle.std.proofs.lemmas.Str.{chars_past_char, encode_ascii, IsUtf8-append, IsUtf8-nil, IsUtf8-from_ascii}
use Rattle.wl_ports.specs.Name.{begins_name}
use Rattle.wl_scan.specs.Characters.{is_blank, is_digit}
use Rattle.wl_scan.specs.Lengths.{blank_length, name_length, spelled_length, blanks_length, marks_length, signs}
use Rattle.wl_scan.specs.Tokens.{found, scanned_from, coming, token_before, is_comment, commented, token_found, is_fraction, chosen, longest, rows}
use Rattle.wl_scan.specs.declared.token.Kind.{Kind}
use Rattle.wl_scan.specs.declared.token.Kind.TheVariants.{Sign}
use Rattle.wl_scan.specs.declared.found.Found.TheVariants.{Gap, Lexed}
use Rattle.wl_scan.proofs.Rows.{BeginsWordOrSign, word_is_name, unspaced}
use Rattle.wl_syntax.specs.Lexer.{grammar_token, token_of_kind}
use Rattle.wl_syntax.specs.Token.{Token}
use Rattle.wl_reading_back.proofs.Signs.{avoids, further, is_among, sign_is}

-- the text is cut into these tokens, without a fault, wherever it begins
pub record Scans (text : List ℕ) (ks : List Token) : Type 0 where
  pub utf8 : IsUtf8 text
  pub tokens : (at : ℕ) → map grammar_token (scanned_from 0 at text).tokens ≡ ks
  pub fault : (at : ℕ) → (scanned_from 0 at text).fault ≡ None

pub scans_nothing : Scans [] []
unfolding scanned_from
scans_nothing = record { utf8 = IsUtf8-nil; tokens = λ at. refl; fault = λ at. refl }

-- bytes that belong to what was found before are passed over
passed_over : (n at : ℕ) (bs : List ℕ) → scanned_from n at bs ≡ scanned_from 0 (at + n) (drop n bs)
unfolding scanned_from
passed_over zero at bs = ap (λ (a : ℕ). scanned_from 0 a bs) (omega arith)
passed_over (suc n) at [] = refl
passed_over (suc n) at (b ∷ bs) = passed_over n (at + 1) bs ∙ ap (λ (a : ℕ). scanned_from 0 a (drop n bs)) (omega arith)

pub drop_front : (w rest : List ℕ) → drop (length w) (w ++ rest) ≡ rest
drop_front w rest = drop-append-le (length w) w rest (omega arith) ∙ ap (λ l. l ++ rest) (drop_all (length w) w (omega arith))

pub take_front : (w rest : List ℕ) → take (length w) (w ++ rest) ≡ w
take_front w rest = take-append-le (length w) w rest (omega arith) ∙ take_all (length w) w (omega arith)

one_less : (b : ℕ) (bs : List ℕ) → length (b ∷ bs) - 1 ≡ length bs
one_less b bs = omega arith

behind_token : (b : ℕ) (bs rest : List ℕ) (kind : Kind) (at : ℕ) → found ((b ∷ bs) ++ rest) ≡ Lexed kind (length (b ∷ bs))
    → scanned_from 0 at ((b ∷ bs) ++ rest) ≡ token_before (record { kind = kind; text = b ∷ bs; at = at }) (scanned_from 0 (at + 1 + length bs) rest)
unfolding scanned_from
behind_token b bs rest kind at f =
    ap (λ x. coming x (b ∷ (bs ++ rest)) at (λ n. scanned_from n (at + 1) (bs ++ rest))) f
    ∙ ap (λ t. token_before (record { kind = kind; text = t; at = at }) (scanned_from (length (b ∷ bs) - 1) (at + 1) (bs ++ rest))) (take_front (b ∷ bs) rest)
    ∙ ap (λ (n : ℕ). token_before (record { kind = kind; text = b ∷ bs; at = at }) (scanned_from n (at + 1) (bs ++ rest))) (one_less b bs)
    ∙ ap (token_before (record { kind = kind; text = b ∷ bs; at = at })) (passed_over (length bs) (at + 1) (bs ++ rest) ∙ ap (scanned_from 0 (at + 1 + length bs)) (drop_front bs rest))

-- a token before a text that is cut already
pub scans_token : (w rest : List ℕ) (kind : Kind) (ks : List Token) → 0 < length w → IsUtf8 w → found (w ++ rest) ≡ Lexed kind (length w) → Scans rest ks → Scans (w ++ rest) (token_of_kind kind w ∷ ks)
scans_token [] rest kind ks some u f h = absurd (omega (arith, some))
scans_token (b ∷ bs) rest kind ks some u f h = record {
  utf8 = IsUtf8-append (b ∷ bs) rest u h.utf8;
  tokens = λ at. ap (λ s. map grammar_token s.tokens) (behind_token b bs rest kind at f) ∙ ap (λ l. token_of_kind kind (b ∷ bs) ∷ l) (h.tokens (at + 1 + length bs));
  fault = λ at. ap (λ s. s.fault) (behind_token b bs rest kind at f) ∙ h.fault (at + 1 + length bs);
}

pub ascii_byte : (b : ℕ) → b < 128 → IsUtf8 (b ∷ [])
ascii_byte b l = IsUtf8-from_ascii (b ∷ []) (λ i. one i)
  where
    one : (i : ℕ) → get_or (b ∷ []) i 0 < 128
    one zero = l
    one (suc i) = omega arith

pub utf8_more : (b : ℕ) (bs : List ℕ) → b < 128 → IsUtf8 bs → IsUtf8 (b ∷ bs)
utf8_more b bs l u = IsUtf8-append (b ∷ []) bs (ascii_byte b l) u

one_gap : (rest : List ℕ) → blank_length rest ≡ 0 → found (32 ∷ rest) ≡ Gap 1
one_gap rest e = ap (λ n. cond (ltb 0 (1 + n)) (Gap (1 + n)) (cond (is_comment (32 ∷ rest)) (commented None) (token_found (32 ∷ rest)))) e

behind_gap : (rest : List ℕ) (at : ℕ) → blank_length rest ≡ 0 → scanned_from 0 at (32 ∷ rest) ≡ scanned_from 0 (at + 1) rest
unfolding scanned_from
behind_gap rest at e = ap (λ x. coming x (32 ∷ rest) at (λ n. scanned_from n (at + 1) rest)) (one_gap rest e)

-- a space before it
pub scans_space : (rest : List ℕ) (ks : List Token) → blank_length rest ≡ 0 → Scans rest ks → Scans (32 ∷ rest) ks
scans_space rest ks e h = record {
  utf8 = utf8_more 32 rest (omega arith) h.utf8;
  tokens = λ at. ap (λ s. map grammar_token s.tokens) (behind_gap rest at e) ∙ h.tokens (at + 1);
  fault = λ at. ap (λ s. s.fault) (behind_gap rest at e) ∙ h.fault (at + 1);
}

-- what is asked of the first byte of a sign
pub record BeginsSign (c : ℕ) : Type 0 where
  pub ascii : c < 128
  pub digit : is_digit c ≡ false
  pub slot : (c == 35) ≡ false
  pub out : (c == 37) ≡ false
  pub quote : (c == 34) ≡ false
  pub mark : (c == 95) ≡ false
  pub blank : is_blank c ≡ false
  pub name : begins_name c ≡ false

pub no_name_byte : (b : ℕ) (bs : List ℕ) → IsUtf8 (b ∷ bs) → b < 128 → begins_name b ≡ false → name_length (b ∷ bs) ≡ 0
no_name_byte b bs u l n = ap (spelled_length true) (chars_past_char (b ∷ bs) bs b u (ap (λ (l : List ℕ). l ++ bs) (sym (encode_ascii b l)))) ∙ cond-false (begins_name b) _ _ n

no_marks_byte : (b : ℕ) (bs : List ℕ) → (b == 95) ≡ false → marks_length (b ∷ bs) ≡ 0
no_marks_byte b bs n = cond-false (b == 95) _ _ n

no_blanks_from : (text : List ℕ) → marks_length text ≡ 0 → blanks_length text ≡ 0
no_blanks_from text e = rw e refl

begins_word : (c : ℕ) (cs : List ℕ) → BeginsSign c → BeginsWordOrSign (c ∷ cs)
begins_word c cs h = record {
  some = omega arith;
  digit = h.digit;
  slot = λ e. true≢false (sym (self c 35 e) ∙ h.slot);
  out = λ e. true≢false (sym (self c 37 e) ∙ h.out);
  quote = λ e. true≢false (sym (self c 34 e) ∙ h.quote);
}
  where
    self : (c k : ℕ) → c ≡ k → (c == k) ≡ true
    self c k e = grind (arith, nat_tests)

sign_row : (c : ℕ) (cs rest : List ℕ) → IsUtf8 (c ∷ (cs ++ rest)) → BeginsSign c → is_among (c ∷ cs) signs ≡ true → avoids rest (further (c ∷ cs) signs) ≡ true → Lexed Sign (length (c ∷ cs)) ≡ chosen (longest (rows (c ∷ (cs ++ rest)))) (c ∷ (cs ++ rest))
sign_row c cs rest u h m a =
    sym (cond-true (ltb 0 (length (c ∷ cs))) (Lexed Sign (length (c ∷ cs))) _ (lt-ltb 0 (length (c ∷ cs)) (omega arith)))
    ∙ word_is_name (c ∷ (cs ++ rest)) 0 (length (c ∷ cs)) 0 (begins_word c (cs ++ rest) h) (sym (no_name_byte c (cs ++ rest) u h.ascii h.name)) (sym (sign_is (c ∷ cs) rest m a)) (sym (no_blanks_from (c ∷ (cs ++ rest)) (no_marks_byte c (cs ++ rest) h.mark))) refl

-- a sign before a text that is cut already
pub scans_sign : (c : ℕ) (cs rest : List ℕ) (ks : List Token) → BeginsSign c → IsUtf8 (c ∷ cs) → is_among (c ∷ cs) signs ≡ true → is_comment (c ∷ (cs ++ rest)) ≡ false → is_fraction (c ∷ (cs ++ rest)) ≡ false
    → avoids rest (further (c ∷ cs) signs) ≡ true → Scans rest ks → Scans ((c ∷ cs) ++ rest) (token_of_kind Sign (c ∷ cs) ∷ ks)
scans_sign c cs rest ks h w m n f a s = scans_token (c ∷ cs) rest Sign ks (omega arith) w at_sign s
  where
    whole : List ℕ
    whole = c ∷ (cs ++ rest)

    at_sign : found ((c ∷ cs) ++ rest) ≡ Lexed Sign (length (c ∷ cs))
    at_sign =
        unspaced (c ∷ (cs ++ rest)) 0 (sym (cond-false (is_blank c) _ _ h.blank)) (omega arith)
        ∙ cond-false (is_comment (c ∷ (cs ++ rest))) _ _ n
        ∙ cond-false (is_fraction (c ∷ (cs ++ rest))) _ _ f
        ∙ sym (sign_row c cs rest (IsUtf8-append (c ∷ cs) rest w s.utf8) h m a)
