-- Which bytes may begin and follow the parts of a printed text.
use Rattle.std.proofs.Common.{inl, inr, ℕ, ◌+◌, ◌<◌, ◌≤◌, ◌≡◌, Bool, true, false, not, ◌&&◌, ◌||◌, ◌==◌, List, [], ◌∷◌, ◌++◌, length, refl, sym, ap, ◌∙◌, arith, codes, subst, append_assoc, ltb, leb}
use Rattle.std.specs.Prelude.{nat_lt}
use Rattle.std.specs.List.{list_any, list_all}
use Rattle.std.specs.Str.{IsUtf8, chars}
use Rattle.std.specs.Char.{is_ascii_alphabetic, is_ascii_alphanumeric}
use Rattle.std.proofs.lemmas.Bool.{cases_Bool, cond_both, cond-true, cond-false, and_parts, or_parts, or_cases, or_left, or_right, eqb-true, true≢false, agree_below_at, agree_below, not-true, not_from_false, ltb-true, leb-true, false_from_ne_true}
use Rattle.std.proofs.lemmas.Bool.Decides.{nat_tests}
use Rattle.std.specs.Char.{encode_utf8, len_utf8}
use Rattle.std.specs.Prelude.{encode_utf8_all}
use Rattle.std.proofs.lemmas.List.{length-append}
use Rattle.std.proofs.lemmas.Str.{chars_past_char, encode_ascii, encodes-chars, chars-append, length-encode}
use Rattle.unicode_ident.proofs.IdentLemmas.{is_xid_start-ascii, is_xid_continue-ascii}
use Rattle.wl_ports.specs.Name.{begins_name, continues_name, all_continue_name, spells_name, is_name, IsName}
use Rattle.wl_scan.specs.Characters.{is_blank, is_digit}
use Rattle.wl_scan.specs.Lengths.{blank_length, digits_length, name_length, spelled_length, marks_length, is_lone_dot, begins_with}
use Rattle.wl_scan.specs.Tokens.{is_comment, is_fraction}
use Rattle.wl_reading_back.proofs.Signs.{avoids}

-- a byte of a list

pub in_list : (b : ℕ) (L : List ℕ) (P : ℕ → Bool) → list_all P L ≡ true → list_any (λ k. b == k) L ≡ true → P b ≡ true
in_list b [] P all h = absurd (cc)
in_list b (k ∷ L) P all h =
    let parts = and_parts (P k) (list_all P L) all in
    elim (or_cases (b == k) (list_any (λ x. b == x) L) h) [
      | inl e ↦ subst (λ (x : ℕ). P x ≡ true) (sym (eqb-true b k e)) parts.0
      | inr m ↦ in_list b L P parts.1 m
    ]

pub equal_self : (b k : ℕ) → b ≡ k → (b == k) ≡ true
equal_self b k e = grind (arith, nat_tests)

-- bytes of X are bytes of L
abbrev pub is_part : List ℕ → List ℕ → Bool
is_part X L = list_all (λ x. list_any (λ k. x == k) L) X

pub avoids_less : (rest X L : List ℕ) → is_part X L ≡ true → avoids rest L ≡ true → avoids rest X ≡ true
avoids_less [] X L p h = refl
avoids_less (b ∷ bs) X L p h = elim (cases_Bool (list_any (λ k. b == k) X)) [
  | inl m ↦ absurd (true≢false (sym (in_list b X (λ x. list_any (λ k. x == k) L) p m) ∙ not-true (list_any (λ k. b == k) L) h))
  | inr n ↦ not_from_false (list_any (λ k. b == k) X) n
]

-- a test of a byte that a list of bytes covers
pub covered : (b : ℕ) (L : List ℕ) (f : ℕ → Bool) → (f b ≡ true → b < 128) → agree_below (λ c. f c && not (list_any (λ k. c == k) L)) (λ _. false) 128 ≡ true → not (list_any (λ k. b == k) L) ≡ true → f b ≡ false
covered b L f small table h = elim (cases_Bool (f b)) [
  | inl holds ↦ absurd (true≢false (sym (refl_and (f b) (not (list_any (λ k. b == k) L)) holds h) ∙ agree_below_at (λ c. f c && not (list_any (λ k. c == k) L)) (λ _. false) 128 b table (small holds)))
  | inr fails ↦ fails
]
  where
    refl_and : (x y : Bool) → x ≡ true → y ≡ true → (x && y) ≡ true
    refl_and true y e f = f
    refl_and false y e f = absurd (cc)

-- bytes that begin no name: blanks, digits, marks, and all that begin a sign
abbrev pub odd : List ℕ
odd = 12 ∷ codes " \t\n\r0123456789_#%\"'\\`()[]{},:?+-@/!<>^*=&|.~;"

-- a byte from 128 on is none of ASCII
high_avoids : (b : ℕ) (L : List ℕ) → 128 ≤ b → list_all (λ k. nat_lt k 128) L ≡ true → not (list_any (λ k. b == k) L) ≡ true
high_avoids b L h all = not_from_false _ (false_from_ne_true _ (λ m. absurd (low (in_list b L (λ k. nat_lt k 128) all m))))
  where
    low : nat_lt b 128 ≡ true → ⊥
    low e = omega (arith, ltb-true b 128 e)

-- the first byte of a character
first_avoids : (c : ℕ) (r L : List ℕ) → list_all (λ k. nat_lt k 128) L ≡ true → (c < 128 → not (list_any (λ k. c == k) L) ≡ true) → avoids (encode_utf8 c ++ r) L ≡ true
unfolding encode_utf8
first_avoids c r L all low =
    cond_both (ltb c 128) _ _ (λ e. avoids (e ++ r) L ≡ true) (λ e. low (ltb-true c 128 e))
    (λ _. cond_both (ltb c 2048) _ _ (λ e. avoids (e ++ r) L ≡ true) (λ _. high_avoids _ L (omega arith) all)
    (λ _. cond_both (ltb c 65536) _ _ (λ e. avoids (e ++ r) L ≡ true) (λ _. high_avoids _ L (omega arith) all) (λ _. high_avoids _ L (omega arith) all)))

begins_ascii : ℕ → Bool
begins_ascii c = is_ascii_alphabetic c || (c == 36)

pub name_not_odd : (c : ℕ) → begins_name c ≡ true → c < 128 → not (list_any (λ k. c == k) odd) ≡ true
unfolding begins_ascii
name_not_odd c n l =
    let t : begins_ascii c ≡ true = ap (λ (x : Bool). x || (c == 36)) (sym (is_xid_start-ascii c l)) ∙ n in
    not_from_false _ (both_off (begins_ascii c) _ t (agree_below_at (λ b. begins_ascii b && list_any (λ k. b == k) odd) (λ _. false) 128 c refl l))
  where
    both_off : (x y : Bool) → x ≡ true → (x && y) ≡ false → y ≡ false
    both_off true y e f = f
    both_off false y e f = absurd (cc)

-- texts of names
pub record IsWord (w : List ℕ) : Type 0 where
  pub utf8 : IsUtf8 w
  pub name : IsName w

pub word_avoids : (w rest : List ℕ) → IsWord w → avoids (w ++ rest) odd ≡ true
word_avoids w rest h = subst (λ v. avoids (v ++ rest) odd ≡ true) (encodes-chars w h.utf8) (go (chars w) h.name)
  where
    go : (cs : List ℕ) → spells_name cs ≡ true → avoids (encode_utf8_all cs ++ rest) odd ≡ true
    go [] n = absurd (cc)
    go (c ∷ cs) n = rw (append_assoc (encode_utf8 c) (encode_utf8_all cs) rest) (first_avoids c (encode_utf8_all cs ++ rest) odd refl (name_not_odd c (and_parts (begins_name c) (all_continue_name cs) n).0))

continues_all : (cs ds : List ℕ) → all_continue_name cs ≡ true → spelled_length false (cs ++ ds) ≡ length (encode_utf8_all cs) + spelled_length false ds
continues_all [] ds h = omega arith
continues_all (c ∷ cs) ds h =
    let parts = and_parts (continues_name c) (all_continue_name cs) h in
    let here = cond-true (continues_name c) (len_utf8 c + spelled_length false (cs ++ ds)) 0 parts.0 in
    let more = continues_all cs ds parts.1 in
    omega (arith, here, more, length-append (encode_utf8 c) (encode_utf8_all cs), length-encode c)

spells_all : (cs ds : List ℕ) → spells_name cs ≡ true → spelled_length true (cs ++ ds) ≡ length (encode_utf8_all cs) + spelled_length false ds
spells_all [] ds h = absurd (cc)
spells_all (c ∷ cs) ds h =
    let parts = and_parts (begins_name c) (all_continue_name cs) h in
    let here = cond-true (begins_name c) (len_utf8 c + spelled_length false (cs ++ ds)) 0 parts.0 in
    let more = continues_all cs ds parts.1 in
    omega (arith, here, more, length-append (encode_utf8 c) (encode_utf8_all cs), length-encode c)

-- a name ends where what follows goes on with none
pub word_length : (w rest : List ℕ) → IsWord w → spelled_length false (chars rest) ≡ 0 → name_length (w ++ rest) ≡ length w
word_length w rest h e =
    ap (spelled_length true) (chars-append w rest h.utf8) ∙ spells_all (chars w) (chars rest) h.name
    ∙ ap (λ (n : ℕ). length (encode_utf8_all (chars w)) + n) e ∙ plus_zero (length (encode_utf8_all (chars w))) ∙ ap length (encodes-chars w h.utf8)
  where
    plus_zero : (n : ℕ) → n + 0 ≡ n
    plus_zero n = omega arith

no_name : is_name [] ≡ true → ⊥
unfolding chars
no_name e = cc

pub word_some : (w : List ℕ) → IsWord w → 0 < length w
word_some [] h = absurd (no_name h.name)
word_some (b ∷ bs) h = omega arith

-- what may follow a part of a printed text

abbrev pub closers : List ℕ
closers = codes " )]},;*^?:[!/"

abbrev pub begins_stop : List ℕ → Bool
begins_stop [] = false
begins_stop (b ∷ bs) = b == 46

-- nothing, one of these bytes, or two full stops; behind a `^` no other follows, which would make digits before it a base
abbrev pub closes : List ℕ → Bool
closes [] = true
closes (b ∷ bs) = (list_any (λ k. b == k) closers || ((b == 46) && begins_stop bs)) && not (begins_with (b ∷ bs) (codes "^^"))

abbrev pub closer : ℕ → Bool
closer b = list_any (λ k. b == k) (46 ∷ closers)

closes_parts : (b : ℕ) (bs : List ℕ) → closes (b ∷ bs) ≡ true → ((list_any (λ k. b == k) closers || ((b == 46) && begins_stop bs)) ≡ true) × (not (begins_with (b ∷ bs) (codes "^^")) ≡ true)
closes_parts b bs h = and_parts (list_any (λ k. b == k) closers || ((b == 46) && begins_stop bs)) (not (begins_with (b ∷ bs) (codes "^^"))) h

closes_byte : (b : ℕ) (bs : List ℕ) → closes (b ∷ bs) ≡ true → closer b ≡ true
closes_byte b bs h = elim (or_cases (list_any (λ k. b == k) closers) ((b == 46) && begins_stop bs) (closes_parts b bs h).0) [
  | inl m ↦ or_right (b == 46) _ m
  | inr m ↦ or_left (b == 46) _ (and_parts (b == 46) (begins_stop bs) m).0
]

closer_small : (b : ℕ) → closer b ≡ true → b < 128
closer_small b h = ltb-true b 128 (in_list b (46 ∷ closers) (λ k. nat_lt k 128) refl h)

-- a test that fails at each of these bytes
closer_fails : (f : ℕ → Bool) (b : ℕ) → agree_below (λ c. closer c && f c) (λ _. false) 128 ≡ true → closer b ≡ true → f b ≡ false
closer_fails f b t h = off (closer b) (f b) h (agree_below_at (λ c. closer c && f c) (λ _. false) 128 b t (closer_small b h))
  where
    off : (x y : Bool) → x ≡ true → (x && y) ≡ false → y ≡ false
    off true y e f = f
    off false y e f = absurd (cc)

pub closes_digits : (rest : List ℕ) → closes rest ≡ true → digits_length rest ≡ 0
closes_digits [] h = refl
closes_digits (b ∷ bs) h = cond-false (is_digit b) _ _ (closer_fails is_digit b refl (closes_byte b bs h))

pub closes_marks : (rest : List ℕ) → closes rest ≡ true → marks_length rest ≡ 0
closes_marks [] h = refl
closes_marks (b ∷ bs) h = cond-false (b == 95) _ _ (closer_fails (λ c. c == 95) b refl (closes_byte b bs h))

-- digits before it are no base
pub closes_base : (rest : List ℕ) → closes rest ≡ true → begins_with rest (codes "^^") ≡ false
closes_base [] h = refl
closes_base (b ∷ bs) h = not-true (begins_with (b ∷ bs) (codes "^^")) (closes_parts b bs h).1

and_off : (x : Bool) → (x && false) ≡ false
and_off true = refl
and_off false = refl

pub closes_dot : (rest : List ℕ) → closes rest ≡ true → is_lone_dot rest ≡ false
closes_dot [] h = refl
closes_dot (b ∷ bs) h = elim (or_cases (list_any (λ k. b == k) closers) ((b == 46) && begins_stop bs) (closes_parts b bs h).0) [
  | inl m ↦ no_dot b bs (in_list b closers (λ k. not (k == 46)) refl m)
  | inr m ↦ two_dots b bs (and_parts (b == 46) (begins_stop bs) m).1
]
  where
    no_dot : (b : ℕ) (bs : List ℕ) → not (b == 46) ≡ true → is_lone_dot (b ∷ bs) ≡ false
    no_dot b [] e = not-true (b == 46) e
    no_dot b (c ∷ cs) e = ap (λ (x : Bool). x && not (c == 46)) (not-true (b == 46) e)

    two_dots : (b : ℕ) (bs : List ℕ) → begins_stop bs ≡ true → is_lone_dot (b ∷ bs) ≡ false
    two_dots b [] e = absurd (cc)
    two_dots b (c ∷ cs) e = ap (λ (x : Bool). (b == 46) && not x) e ∙ and_off (b == 46)

continues_ascii : ℕ → Bool
continues_ascii c = ((is_ascii_alphanumeric c || (c == 95)) && not (c == 95)) || (c == 36)

continues_is : (c : ℕ) → c < 128 → continues_name c ≡ continues_ascii c
unfolding continues_ascii
continues_is c l = ap (λ (x : Bool). (x && not (c == 95)) || (c == 36)) (is_xid_continue-ascii c l)

begins_is : (c : ℕ) → c < 128 → begins_name c ≡ begins_ascii c
unfolding begins_ascii
begins_is c l = ap (λ (x : Bool). x || (c == 36)) (is_xid_start-ascii c l)

pub chars_ascii : (b : ℕ) (bs : List ℕ) → b < 128 → IsUtf8 (b ∷ bs) → chars (b ∷ bs) ≡ b ∷ chars bs
chars_ascii b bs l u = chars_past_char (b ∷ bs) bs b u (ap (λ (l : List ℕ). l ++ bs) (sym (encode_ascii b l)))

pub closes_name : (rest : List ℕ) → IsUtf8 rest → closes rest ≡ true → spelled_length false (chars rest) ≡ 0
unfolding continues_ascii chars
closes_name [] u h = refl
closes_name (b ∷ bs) u h =
    let k = closes_byte b bs h in
    let l = closer_small b k in
    ap (spelled_length false) (chars_ascii b bs l u) ∙ cond-false (continues_name b) _ _ (continues_is b l ∙ closer_fails continues_ascii b refl k)

pub closes_no_name : (rest : List ℕ) → IsUtf8 rest → closes rest ≡ true → name_length rest ≡ 0
unfolding begins_ascii chars
closes_no_name [] u h = refl
closes_no_name (b ∷ bs) u h =
    let k = closes_byte b bs h in
    let l = closer_small b k in
    ap (spelled_length true) (chars_ascii b bs l u) ∙ cond-false (begins_name b) _ _ (begins_is b l ∙ closer_fails begins_ascii b refl k)

-- what odd bytes are none of, at the first byte of a word

pub digit_small : (b : ℕ) → is_digit b ≡ true → b < 128
digit_small b h = omega (arith, leb-true b 57 (and_parts (leb 48 b) (leb b 57) h).1)

blank_small : (b : ℕ) → is_blank b ≡ true → b < 128
blank_small b h = ltb-true b 128 (in_list b (32 ∷ 9 ∷ 10 ∷ 12 ∷ 13 ∷ []) (λ k. nat_lt k 128) refl (listed (b == 32) (b == 9) (b == 10) (b == 12) (b == 13) h))
  where
    listed : (p q r s t : Bool) → (p || q || r || s || t) ≡ true → (p || (q || (r || (s || (t || false))))) ≡ true
    listed true q r s t h = refl
    listed false true r s t h = refl
    listed false false true s t h = refl
    listed false false false true t h = refl
    listed false false false false true h = refl
    listed false false false false false h = absurd (cc)

pub no_blank_first : (text : List ℕ) → avoids text (12 ∷ codes " \t\n\r") ≡ true → blank_length text ≡ 0
no_blank_first [] h = refl
no_blank_first (b ∷ bs) h = cond-false (is_blank b) _ _ (covered b (12 ∷ codes " \t\n\r") is_blank (blank_small b) refl h)

-- a byte that the text doesn't begin with
pub first_is_not : (b k : ℕ) (bs : List ℕ) → avoids (b ∷ bs) (k ∷ []) ≡ true → (b == k) ≡ false
first_is_not b k bs h = (or_parts (b == k) false (not-true ((b == k) || false) h)).0

pub no_comment : (text : List ℕ) → avoids text (codes "(") ≡ true → is_comment text ≡ false
no_comment [] h = refl
no_comment (b ∷ bs) h = ap (λ (x : Bool). x && begins_with bs (codes "*")) (first_is_not b 40 bs h)

pub no_comment_open : (rest : List ℕ) → avoids rest (codes "*") ≡ true → is_comment (40 ∷ rest) ≡ false
no_comment_open [] h = refl
no_comment_open (b ∷ bs) h = ap (λ (x : Bool). x && begins_with bs []) (first_is_not b 42 bs h)

pub no_power : (rest : List ℕ) → avoids rest (codes "^") ≡ true → begins_with rest (codes "^") ≡ false
no_power [] h = refl
no_power (b ∷ bs) h = ap (λ (x : Bool). x && begins_with bs []) (first_is_not b 94 bs h)

pub no_fraction : (text : List ℕ) → avoids text (codes ".") ≡ true → is_fraction text ≡ false
no_fraction [] h = refl
no_fraction (b ∷ bs) h = ap (λ (x : Bool). x && nat_lt 0 (digits_length bs)) (first_is_not b 46 bs h)

-- a digit is none of these bytes
pub digit_avoids : (b : ℕ) (bs L : List ℕ) → agree_below (λ c. is_digit c && list_any (λ k. c == k) L) (λ _. false) 128 ≡ true → is_digit b ≡ true → avoids (b ∷ bs) L ≡ true
digit_avoids b bs L t d = not_from_false _ (off (is_digit b) (list_any (λ k. b == k) L) d (agree_below_at (λ c. is_digit c && list_any (λ k. c == k) L) (λ _. false) 128 b t (digit_small b d)))
  where
    off : (x y : Bool) → x ≡ true → (x && y) ≡ false → y ≡ false
    off true y e f = f
    off false y e f = absurd (cc)

-- what closes begins with none of the bytes that no closer is
pub closes_avoids : (rest L : List ℕ) → agree_below (λ c. closer c && list_any (λ k. c == k) L) (λ _. false) 128 ≡ true → closes rest ≡ true → avoids rest L ≡ true
closes_avoids [] L t h = refl
closes_avoids (b ∷ bs) L t h = not_from_false _ (closer_fails (λ c. list_any (λ k. c == k) L) b t (closes_byte b bs h))

pub continues_not_mark : (c : ℕ) → continues_name c ≡ true → c < 128 → (c == 95) ≡ false
unfolding continues_ascii
continues_not_mark c h l = covered_mark (continues_ascii c) (c == 95) (sym (continues_is c l) ∙ h) (agree_below_at (λ b. continues_ascii b && (b == 95)) (λ _. false) 128 c refl l)
  where
    covered_mark : (x y : Bool) → x ≡ true → (x && y) ≡ false → y ≡ false
    covered_mark true y e f = f
    covered_mark false y e f = absurd (cc)
