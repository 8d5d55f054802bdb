-- A printed text is cut into the tokens that its syntax tree reads as.
use Rattle.std.proofs.Common.{inl, inr, ◌⊎◌, ℕ, ℤ, suc, ◌+◌, ◌^◌, ◌<◌, ◌≤◌, ◌≡◌, Bool, true, false, not, ◌&&◌, ◌||◌, ◌==◌, cond, List, [], ◌∷◌, ◌++◌, length, refl, sym, ap, ◌∙◌, arith, codes, subst, append_assoc, append-nil}
use Rattle.std.specs.Prelude.{nat_lt, pos, negsuc, decimal, unsigned_abs}
use Rattle.std.specs.Fmt.{signed_decimal}
use Rattle.std.specs.List.{list_any, list_all}
use Rattle.std.specs.Str.{IsUtf8, bytes_eq}
use Rattle.std.proofs.lemmas.Bool.{cases_Bool, cond_both, or_left, and_parts, and_from, not-true, true≢false, agree_below, ltb-true}
use Rattle.std.proofs.lemmas.Str.{IsUtf8-nil}
use Rattle.std.proofs.lemmas.Slice.Eq.{bytes_eq-Decides}
use Rattle.wl_form.specs.declared.operator.Marks.{Marks}
use Rattle.wl_form.specs.declared.operator.Marks.TheVariants.{One, Two, Three}
use Rattle.std.proofs.lemmas.List.{length-append}
use Rattle.wl_syntax.specs.declared.operator.Infix.TheVariants as read_infix
use Rattle.wl_syntax.specs.Chain.{is_chain}
use Rattle.unicode_ident.proofs.Computing.{unicode_ident}
use Rattle.wl_ports.specs.Name.{begins_name}
use Rattle.wl_form.specs.declared.operator.Infix.{Infix}
use Rattle.wl_form.specs.declared.operator.Infix.TheVariants.{Message, PatternTest, Map, Apply, StringJoin, Power, Times, Plus, Minus, Equal, Unequal, Less, LessEqual, Greater, GreaterEqual, SameQ, UnsameQ, And, Or, Alternatives, Colon, StringExpression, Condition, Rule, RuleDelayed, ReplaceAll, ReplaceRepeated, AddTo, SubtractFrom, TimesBy, DivideBy, Set, SetDelayed, UpSet, UpSetDelayed, Semi}
use Rattle.wl_form.specs.declared.operator.Prefix.{Prefix}
use Rattle.wl_form.specs.declared.operator.Prefix.TheVariants.{Negate, Not}
use Rattle.wl_form.specs.declared.operator.Postfix.{Postfix}
use Rattle.wl_form.specs.declared.operator.Postfix.TheVariants.{Factorial, Repeated, RepeatedNull, Function}
use Rattle.wl_form.specs.Operators.{infix_text, prefix_level, prefix_text, postfix_level, postfix_text, marks_text}
use Rattle.wl_form.specs.Shown.{Shown, number, name, string, pattern, slot, parens, braces, call, part, before, after, chain, ended, Elems, none, more, Links, nothing, behind, level, links_level, is_below_zero, text_of, elems_text, links_text, comma_after, quoted, slot_marks}
use Rattle.wl_form.specs.Texts.{ends_in_stop}
use Rattle.wl_scan.specs.Characters.{is_blank, is_digit}
use Rattle.wl_scan.specs.Lengths.{blank_length, signs, begins_with}
use Rattle.wl_scan.specs.Tokens.{is_comment, is_fraction}
use Rattle.wl_scan.specs.declared.token.Kind.TheVariants as kind
use Rattle.wl_syntax.specs.declared.operator.Sign.TheVariants as sign
use Rattle.wl_syntax.specs.Lexer.{token_of_kind}
use Rattle.wl_syntax.specs.Table.{infix_sign, prefix_sign, postfix_sign}
use Rattle.wl_syntax.specs.Token.{Token}
use Rattle.wl_syntax.specs.Token as token
use Rattle.wl_syntax.specs.Tree as tree
use Rattle.wl_syntax.specs.Tree.{reads, read_elems, sign_tokens}
use Rattle.wl_reading_back.specs.Written.{as_infix, as_postfix, written, written_elems, linked, signed, digits_of}
use Rattle.wl_reading_back.proofs.Signs.{avoids, further, is_among}
use Rattle.wl_reading_back.proofs.Classes.{first_is_not, closers, begins_stop, in_list, is_part, avoids_less, word_some, word_avoids, odd, closes, closes_avoids, digit_avoids, no_blank_first, no_comment_open, no_power}
use Rattle.wl_reading_back.proofs.Cut.{Scans, scans_token, scans_space, scans_sign, BeginsSign, utf8_more}
use Rattle.wl_reading_back.proofs.Words.{pattern_utf8, pattern_found, pattern_avoids, odd_but_marks, name_found, writes_number, number_cut, digits_ascii, slot_cut, string_cut, quoted_utf8, quoted_is, AllDigit}
use Rattle.wl_reading_back.proofs.Well.{Well, WellElems, WellLinks, GoesOnFrom, NoStop, chain_strict, fitting_le, low_links}

-- bytes that begin a sign
abbrev sign_bytes : List ℕ
sign_bytes = codes "!&()*+,-./:;<=>?@[]^{|}~"

fact : (c : ℕ) (f : ℕ → Bool) → list_any (λ k. c == k) sign_bytes ≡ true → list_all (λ k. not (f k)) sign_bytes ≡ true → f c ≡ false
fact c f m a = not-true (f c) (in_list c sign_bytes (λ k. not (f k)) a m)

begins_sign : (c : ℕ) → list_any (λ k. c == k) sign_bytes ≡ true → BeginsSign c
unfolding unicode_ident
begins_sign c m = record {
  ascii = ltb-true c 128 (in_list c sign_bytes (λ k. nat_lt k 128) refl m);
  digit = fact c is_digit m refl;
  slot = fact c (λ k. k == 35) m refl;
  out = fact c (λ k. k == 37) m refl;
  quote = fact c (λ k. k == 34) m refl;
  mark = fact c (λ k. k == 95) m refl;
  blank = fact c is_blank m refl;
  name = fact c begins_name m refl;
}

ascii_text : (g : List ℕ) → list_all (λ k. nat_lt k 128) g ≡ true → IsUtf8 g
ascii_text [] h = IsUtf8-nil
ascii_text (b ∷ bs) h = go (nat_lt b 128) (ltb-true b 128) (ascii_text bs) h
  where
    go : (t : Bool) → (t ≡ true → b < 128) → (list_all (λ k. nat_lt k 128) bs ≡ true → IsUtf8 bs) → (t && list_all (λ k. nat_lt k 128) bs) ≡ true → IsUtf8 (b ∷ bs)
    go true l u h = utf8_more b bs (l refl) (u h)
    go false l u h = absurd (cc)

-- what computes of a sign
abbrev is_plain_sign : ℕ → List ℕ → Bool
is_plain_sign c cs = list_any (λ k. c == k) sign_bytes && (is_among (c ∷ cs) signs && list_all (λ k. nat_lt k 128) (c ∷ cs))

three : (a b c : Bool) → (a && (b && c)) ≡ true → (a ≡ true) × (b ≡ true) × (c ≡ true)
three true true true h = (refl, refl, refl)
three true true false h = absurd (cc)
three true false c h = absurd (cc)
three false b c h = absurd (cc)

cut_sign : (c : ℕ) (cs rest : List ℕ) (ks : List Token) → is_plain_sign c cs ≡ true → is_comment (c ∷ (cs ++ rest)) ≡ false → is_fraction (c ∷ (cs ++ rest)) ≡ false → avoids rest (further (c ∷ cs) signs) ≡ true → Scans rest ks → Scans (c ∷ (cs ++ rest)) (token_of_kind kind.Sign (c ∷ cs) ∷ ks)
cut_sign c cs rest ks p n f a h = let t = three (list_any (λ k. c == k) sign_bytes) (is_among (c ∷ cs) signs) (list_all (λ k. nat_lt k 128) (c ∷ cs)) p in
    scans_sign c cs rest ks (begins_sign c t.0) (ascii_text (c ∷ cs) t.2) t.1 n f a h

-- with a space on each side
cut_spaced : (c : ℕ) (cs rest : List ℕ) (ks : List Token) → is_plain_sign c cs ≡ true → is_comment (c ∷ (cs ++ (32 ∷ rest))) ≡ false → is_fraction (c ∷ (cs ++ (32 ∷ rest))) ≡ false → avoids (32 ∷ rest) (further (c ∷ cs) signs) ≡ true → blank_length rest ≡ 0 → Scans rest ks
    → Scans (32 ∷ c ∷ (cs ++ (32 ∷ rest))) (token_of_kind kind.Sign (c ∷ cs) ∷ ks)
cut_spaced c cs rest ks p n f a b h =
    scans_space (c ∷ (cs ++ (32 ∷ rest))) (token_of_kind kind.Sign (c ∷ cs) ∷ ks) (no_blank c (cs ++ (32 ∷ rest)) (begins_sign c (three (list_any (λ k. c == k) sign_bytes) (is_among (c ∷ cs) signs) (list_all (λ k. nat_lt k 128) (c ∷ cs)) p).0).blank) (cut_sign c cs (32 ∷ rest) ks p n f a (scans_space rest ks b h))
  where
    no_blank : (c : ℕ) (cs : List ℕ) → is_blank c ≡ false → blank_length (c ∷ cs) ≡ 0
    no_blank c cs e = ap (λ (t : Bool). cond t (1 + blank_length cs) 0) e

-- no operand begins with these bytes
abbrev pub apart : List ℕ
apart = 12 ∷ codes " \t\n\r)]},;*^?:=<>|&~@/.+"

apart_blank : (rest : List ℕ) → avoids rest apart ≡ true → blank_length rest ≡ 0
apart_blank rest a = no_blank_first rest (avoids_less rest (12 ∷ codes " \t\n\r") apart refl a)

-- an operator between operands
cut_infix : (o : Infix) (rest : List ℕ) (ks : List Token) → avoids rest apart ≡ true → Scans rest ks → Scans (infix_text o ++ rest) (sign_tokens (infix_sign (as_infix o)) ++ ks)
unfolding infix_sign
cut_infix Message rest ks a h = cut_sign 58 (58 ∷ []) rest ks refl refl refl (avoids_less rest (further (58 ∷ 58 ∷ []) signs) apart refl a) h
cut_infix PatternTest rest ks a h = cut_sign 63 ([]) rest ks refl refl refl (avoids_less rest (further (63 ∷ []) signs) apart refl a) h
cut_infix Map rest ks a h = cut_spaced 47 (64 ∷ []) rest ks refl refl refl refl (apart_blank rest a) h
cut_infix Apply rest ks a h = cut_spaced 64 (64 ∷ []) rest ks refl refl refl refl (apart_blank rest a) h
cut_infix StringJoin rest ks a h = cut_spaced 60 (62 ∷ []) rest ks refl refl refl refl (apart_blank rest a) h
cut_infix Power rest ks a h = cut_sign 94 ([]) rest ks refl refl refl (avoids_less rest (further (94 ∷ []) signs) apart refl a) h
cut_infix Times rest ks a h = cut_sign 42 ([]) rest ks refl refl refl (avoids_less rest (further (42 ∷ []) signs) apart refl a) h
cut_infix Plus rest ks a h = cut_spaced 43 ([]) rest ks refl refl refl refl (apart_blank rest a) h
cut_infix Minus rest ks a h = cut_spaced 45 ([]) rest ks refl refl refl refl (apart_blank rest a) h
cut_infix Equal rest ks a h = cut_spaced 61 (61 ∷ []) rest ks refl refl refl refl (apart_blank rest a) h
cut_infix Unequal rest ks a h = cut_spaced 33 (61 ∷ []) rest ks refl refl refl refl (apart_blank rest a) h
cut_infix Less rest ks a h = cut_spaced 60 ([]) rest ks refl refl refl refl (apart_blank rest a) h
cut_infix LessEqual rest ks a h = cut_spaced 60 (61 ∷ []) rest ks refl refl refl refl (apart_blank rest a) h
cut_infix Greater rest ks a h = cut_spaced 62 ([]) rest ks refl refl refl refl (apart_blank rest a) h
cut_infix GreaterEqual rest ks a h = cut_spaced 62 (61 ∷ []) rest ks refl refl refl refl (apart_blank rest a) h
cut_infix SameQ rest ks a h = cut_spaced 61 (61 ∷ 61 ∷ []) rest ks refl refl refl refl (apart_blank rest a) h
cut_infix UnsameQ rest ks a h = cut_spaced 61 (33 ∷ 61 ∷ []) rest ks refl refl refl refl (apart_blank rest a) h
cut_infix And rest ks a h = cut_spaced 38 (38 ∷ []) rest ks refl refl refl refl (apart_blank rest a) h
cut_infix Or rest ks a h = cut_spaced 124 (124 ∷ []) rest ks refl refl refl refl (apart_blank rest a) h
cut_infix Alternatives rest ks a h = cut_spaced 124 ([]) rest ks refl refl refl refl (apart_blank rest a) h
cut_infix Colon rest ks a h = cut_sign 58 ([]) rest ks refl refl refl (avoids_less rest (further (58 ∷ []) signs) apart refl a) h
cut_infix StringExpression rest ks a h = cut_spaced 126 (126 ∷ []) rest ks refl refl refl refl (apart_blank rest a) h
cut_infix Condition rest ks a h = cut_spaced 47 (59 ∷ []) rest ks refl refl refl refl (apart_blank rest a) h
cut_infix Rule rest ks a h = cut_spaced 45 (62 ∷ []) rest ks refl refl refl refl (apart_blank rest a) h
cut_infix RuleDelayed rest ks a h = cut_spaced 58 (62 ∷ []) rest ks refl refl refl refl (apart_blank rest a) h
cut_infix ReplaceAll rest ks a h = cut_spaced 47 (46 ∷ []) rest ks refl refl refl refl (apart_blank rest a) h
cut_infix ReplaceRepeated rest ks a h = cut_spaced 47 (47 ∷ 46 ∷ []) rest ks refl refl refl refl (apart_blank rest a) h
cut_infix AddTo rest ks a h = cut_spaced 43 (61 ∷ []) rest ks refl refl refl refl (apart_blank rest a) h
cut_infix SubtractFrom rest ks a h = cut_spaced 45 (61 ∷ []) rest ks refl refl refl refl (apart_blank rest a) h
cut_infix TimesBy rest ks a h = cut_spaced 42 (61 ∷ []) rest ks refl refl refl refl (apart_blank rest a) h
cut_infix DivideBy rest ks a h = cut_spaced 47 (61 ∷ []) rest ks refl refl refl refl (apart_blank rest a) h
cut_infix Set rest ks a h = cut_spaced 61 ([]) rest ks refl refl refl refl (apart_blank rest a) h
cut_infix SetDelayed rest ks a h = cut_spaced 58 (61 ∷ []) rest ks refl refl refl refl (apart_blank rest a) h
cut_infix UpSet rest ks a h = cut_spaced 94 (61 ∷ []) rest ks refl refl refl refl (apart_blank rest a) h
cut_infix UpSetDelayed rest ks a h = cut_spaced 94 (58 ∷ 61 ∷ []) rest ks refl refl refl refl (apart_blank rest a) h
cut_infix Semi rest ks a h = cut_sign 59 [] (32 ∷ rest) ks refl refl refl refl (scans_space rest ks (apart_blank rest a) h)

-- the end of a text: what it may not be followed by, though it closes

pub data End : Type 0 where
  plain : End
  stop : End
  bang : End
  semi : End

abbrev pub held : End → List ℕ
held plain = []
held stop = codes "."
held bang = codes "!"
held semi = codes ";"

abbrev pub rank : End → ℕ
rank plain = 0
rank stop = 0
rank bang = 7
rank semi = 30

abbrev postfix_end : Postfix → End
postfix_end Factorial = bang
postfix_end Repeated = stop
postfix_end RepeatedNull = stop
postfix_end Function = plain

abbrev mutual
  pub end_of : Shown → End
  end_of (pattern x k h) = cond (bytes_eq h (codes ".")) stop plain
  end_of (before o s) = end_of s
  end_of (after s o) = postfix_end o
  end_of (chain s ls) = end_behind (end_of s) ls
  end_of (ended s ls) = semi
  end_of (number f) = plain
  end_of (name s) = plain
  end_of (string s) = plain
  end_of (slot d n) = plain
  end_of (parens s) = plain
  end_of (braces xs) = plain
  end_of (call f xs) = plain
  end_of (part f xs s) = plain

  pub end_behind : End → Links → End
  end_behind e nothing = e
  end_behind e (behind ls o s) = end_of s

-- what follows a text with this end
pub record Allowed (e : End) (rest : List ℕ) : Type 0 where
  pub closes : closes rest ≡ true
  pub apart : avoids rest (held e) ≡ true

-- an end binds no looser than the text
postfix_rank : (o : Postfix) → rank (postfix_end o) ≤ postfix_level o
postfix_rank Factorial = omega arith
postfix_rank Repeated = omega arith
postfix_rank RepeatedNull = omega arith
postfix_rank Function = omega arith

pattern_rank : (b : Bool) → rank (cond b stop plain) ≤ 0
pattern_rank true = omega arith
pattern_rank false = omega arith

mutual
  unfolding Well

  ends_low : (s : Shown) → Well s → rank (end_of s) ≤ level s
  ends_low (pattern x k h) w = pattern_rank (bytes_eq h (codes "."))
  ends_low (before o s) w = omega (arith, ends_low s w.0, w.1)
  ends_low (after s o) w = postfix_rank o
  ends_low (chain s ls) w = behind_low (links_level ls) s ls (omega (arith, ends_low s w.0, w.1)) w.2
  ends_low (ended s ls) w = omega arith
  ends_low (number f) w = omega arith
  ends_low (name s) w = omega arith
  ends_low (string s) w = omega arith
  ends_low (slot d n) w = omega arith
  ends_low (parens s) w = omega arith
  ends_low (braces xs) w = omega arith
  ends_low (call f xs) w = omega arith
  ends_low (part f xs s) w = omega arith

  behind_low : (q : ℕ) (s : Shown) (ls : Links) → rank (end_of s) ≤ q → WellLinks q s ls → rank (end_behind (end_of s) ls) ≤ q
  behind_low q s nothing l w = l
  behind_low q s (behind ls o r) l w = omega (arith, ends_low r w.1, fitting_le (level r) q w.3)

-- a text with this end ends in a full stop
stop_append : (x y : List ℕ) → ends_in_stop y ≡ true → ends_in_stop (x ++ y) ≡ true
stop_append [] y h = h
stop_append (b ∷ []) [] h = absurd (cc)
stop_append (b ∷ []) (c ∷ cs) h = h
stop_append (b ∷ c ∷ x) y h = stop_append (c ∷ x) y h

pattern_stop : (x : List ℕ) (k : Marks) (h : List ℕ) → cond (bytes_eq h (codes ".")) stop plain ≡ stop → ends_in_stop (x ++ (marks_text k ++ h)) ≡ true
pattern_stop x k h e = elim (cases_Bool (bytes_eq h (codes "."))) [
  | inl same ↦ stop_append x (marks_text k ++ h) (stop_append (marks_text k) h (ap ends_in_stop ((bytes_eq-Decides h (codes ".")).0 same)))
  | inr other ↦ absurd (apart_ends (sym (ap (λ (b : Bool). cond b stop plain) other) ∙ e))
]
  where
    apart_ends : plain ≡ stop → ⊥
    apart_ends e = cc

mutual
  pub stop_text : (s : Shown) → end_of s ≡ stop → ends_in_stop (text_of s) ≡ true
  stop_text (pattern x k h) e = pattern_stop x k h e
  stop_text (before o s) e = stop_append (prefix_text o) (text_of s) (stop_text s e)
  stop_text (after s Repeated) e = stop_append (text_of s) (codes "..") refl
  stop_text (after s RepeatedNull) e = stop_append (text_of s) (codes "...") refl
  stop_text (after s Factorial) e = absurd (cc)
  stop_text (after s Function) e = absurd (cc)
  stop_text (chain s ls) e = stop_links (end_of s) (text_of s) ls (stop_text s) e
  stop_text (ended s ls) e = absurd (cc)
  stop_text (number f) e = absurd (cc)
  stop_text (name s) e = absurd (cc)
  stop_text (string s) e = absurd (cc)
  stop_text (slot d n) e = absurd (cc)
  stop_text (parens s) e = absurd (cc)
  stop_text (braces xs) e = absurd (cc)
  stop_text (call f xs) e = absurd (cc)
  stop_text (part f xs s) e = absurd (cc)

  stop_links : (e : End) (t : List ℕ) (ls : Links) → (e ≡ stop → ends_in_stop t ≡ true) → end_behind e ls ≡ stop → ends_in_stop (t ++ links_text ls) ≡ true
  stop_links e t nothing f h = subst (λ l. ends_in_stop l ≡ true) (sym (append-nil t)) (f h)
  stop_links e t (behind ls o r) f h = stop_append t (links_text ls ++ (infix_text o ++ text_of r)) (stop_append (links_text ls) (infix_text o ++ text_of r) (stop_append (infix_text o) (text_of r) (stop_text r h)))

-- The first byte of a text of level below m is none of L.
record Opening (L : List ℕ) (m : ℕ) : Type 0 where
  words : is_part L odd_but_marks ≡ true
  digits : agree_below (λ c. is_digit c && list_any (λ k. c == k) L) (λ _. false) 128 ≡ true
  quote : not (list_any (λ k. 34 == k) L) ≡ true
  hash : not (list_any (λ k. 35 == k) L) ≡ true
  round : not (list_any (λ k. 40 == k) L) ≡ true
  curly : not (list_any (λ k. 123 == k) L) ≡ true
  dash : 10 < m → not (list_any (λ k. 45 == k) L) ≡ true
  exclamation : 16 < m → not (list_any (λ k. 33 == k) L) ≡ true

digits_first : (L : List ℕ) (m : ℕ) → Opening L m → (ds rest : List ℕ) → 0 < length ds → AllDigit ds → avoids (ds ++ rest) L ≡ true
digits_first L m o [] rest some h = absurd (omega (arith, some))
digits_first L m o (b ∷ bs) rest some h = digit_avoids b (bs ++ rest) L o.digits h.0

decimal_first : (L : List ℕ) (m : ℕ) → Opening L m → (n : ℕ) (rest : List ℕ) → n < 2 ^ 127 → avoids (decimal n ++ rest) L ≡ true
decimal_first L m o n rest l = let w = writes_number n l in digits_first L m o (decimal n) rest w.some w.digits

signed_first : (L : List ℕ) (m : ℕ) → Opening L m → (z : ℤ) (rest : List ℕ) → unsigned_abs z < 2 ^ 127 → (is_below_zero z ≡ true → 10 < m) → avoids (signed_decimal z ++ rest) L ≡ true
signed_first L m o (pos n) rest l d = decimal_first L m o n rest l
signed_first L m o (negsuc n) rest l d = o.dash (d refl)

number_first : (L : List ℕ) (m : ℕ) → Opening L m → (z : ℤ) (q : ℕ) (b : Bool) (rest : List ℕ) → unsigned_abs z < 2 ^ 127 → cond b (cond (is_below_zero z) 10 0) 11 < m
    → avoids (cond b (signed_decimal z) (signed_decimal z ++ (codes "/" ++ decimal q)) ++ rest) L ≡ true
number_first L m o z q true rest l h = signed_first L m o z rest l (λ e. subst (λ (t : Bool). cond t 10 0 < m) e h)
number_first L m o z q false rest l h = rw (append_assoc (signed_decimal z) (codes "/" ++ decimal q) rest) (signed_first L m o z (codes "/" ++ decimal q ++ rest) l (λ e. omega (arith, h)))

-- bytes of a shorter list are bytes of a longer one
part_of_odd : (L : List ℕ) → is_part L odd_but_marks ≡ true → is_part L odd ≡ true
part_of_odd [] h = refl
part_of_odd (x ∷ L) h = let p = and_parts (list_any (λ k. x == k) odd_but_marks) (is_part L odd_but_marks) h in
    and_from (list_any (λ k. x == k) odd) (is_part L odd) (in_list x odd_but_marks (λ c. list_any (λ k. c == k) odd) refl p.0) (part_of_odd L p.1)

begins : (L : List ℕ) (m : ℕ) → Opening L m → (s : Shown) → Well s → level s < m → (rest : List ℕ) → avoids (text_of s ++ rest) L ≡ true
unfolding Well
begins L m o (number f) w h rest = number_first L m o f.num f.den (f.den == 1) rest w.range.num h
begins L m o (name s) w h rest = avoids_less (s ++ rest) L odd (part_of_odd L o.words) (word_avoids s rest w)
begins L m o (string s) w h rest = rw (quoted_is s) o.quote
begins L m o (pattern x k t) w h rest = rw (append_assoc x (marks_text k ++ t) rest, append_assoc (marks_text k) t rest) (avoids_less (x ++ (marks_text k ++ (t ++ rest))) L odd_but_marks o.words (pattern_avoids x k (t ++ rest) w.0))
begins L m o (slot false n) w h rest = o.hash
begins L m o (slot true n) w h rest = o.hash
begins L m o (parens s) w h rest = o.round
begins L m o (braces xs) w h rest = o.curly
begins L m o (call f xs) w h rest = rw (append_assoc (text_of f) (codes "[" ++ (elems_text xs ++ codes "]")) rest) (begins L m o f w.0 (omega (arith, w.1, h)) ((codes "[" ++ (elems_text xs ++ codes "]")) ++ rest))
begins L m o (part f xs s) w h rest = rw (append_assoc (text_of f) (codes "[[" ++ (elems_text xs ++ (comma_after xs ++ (text_of s ++ codes "]]")))) rest) (begins L m o f w.0 (omega (arith, w.1, h)) ((codes "[[" ++ (elems_text xs ++ (comma_after xs ++ (text_of s ++ codes "]]")))) ++ rest))
begins L m o (before Negate s) w h rest = o.dash h
begins L m o (before Not s) w h rest = o.exclamation h
begins L m o (after s p) w h rest = rw (append_assoc (text_of s) (postfix_text p) rest) (begins L m o s w.0 (omega (arith, w.1, h)) (postfix_text p ++ rest))
begins L m o (chain s ls) w h rest = rw (append_assoc (text_of s) (links_text ls) rest) (begins L m o s w.0 (omega (arith, w.1, h)) (links_text ls ++ rest))
begins L m o (ended s ls) w h rest = rw (append_assoc (text_of s) (links_text ls ++ codes ";") rest) (begins L m o s w.0 (omega (arith, w.1, h)) ((links_text ls ++ codes ";") ++ rest))

loose : Opening apart 31
loose = record { words = refl; digits = refl; quote = refl; hash = refl; round = refl; curly = refl; dash = λ _. refl; exclamation = λ _. refl }

behind_dash : Opening (45 ∷ apart) 10
behind_dash = record { words = refl; digits = refl; quote = refl; hash = refl; round = refl; curly = refl; dash = λ l. absurd (omega (arith, l)); exclamation = λ l. absurd (omega (arith, l)) }

behind_exclamation : Opening (33 ∷ apart) 16
behind_exclamation = record { words = refl; digits = refl; quote = refl; hash = refl; round = refl; curly = refl; dash = λ _. refl; exclamation = λ l. absurd (omega (arith, l)) }

prefix_max : (o : Prefix) → prefix_level o ≤ 30
prefix_max Negate = omega arith
prefix_max Not = omega arith

postfix_max : (o : Postfix) → postfix_level o ≤ 30
postfix_max Factorial = omega arith
postfix_max _ = omega arith

level_max : (s : Shown) → level s < 31
level_max (number f) = cond_both (f.den == 1) (cond (is_below_zero f.num) 10 0) 11 (λ (n : ℕ). n < 31) (λ _. cond_both (is_below_zero f.num) 10 0 (λ (n : ℕ). n < 31) (λ _. omega arith) (λ _. omega arith)) (λ _. omega arith)
level_max (name s) = omega arith
level_max (string s) = omega arith
level_max (pattern x k h) = omega arith
level_max (slot d n) = omega arith
level_max (parens s) = omega arith
level_max (braces xs) = omega arith
level_max (call f xs) = omega arith
level_max (part f xs s) = omega arith
level_max (before o s) = omega (arith, prefix_max o)
level_max (after s o) = omega (arith, postfix_max o)
level_max (chain s ls) = omega (arith, low_links ls)
level_max (ended s ls) = omega arith

begins_apart : (s : Shown) → Well s → (rest : List ℕ) → avoids (text_of s ++ rest) apart ≡ true
begins_apart s w rest = begins apart 31 loose s w (level_max s) rest

avoids_none : (rest : List ℕ) → avoids rest [] ≡ true
avoids_none [] = refl
avoids_none (b ∷ bs) = refl

-- brackets, commas and spaces may follow any end
abbrev free : List ℕ
free = codes " )]},*?:[/"

free_closes : (b : ℕ) (bs : List ℕ) → list_any (λ k. b == k) free ≡ true → closes (b ∷ bs) ≡ true
free_closes b bs m =
    and_from (list_any (λ k. b == k) closers || ((b == 46) && begins_stop bs)) (not (begins_with (b ∷ bs) (codes "^^")))
    (or_left (list_any (λ k. b == k) closers) ((b == 46) && begins_stop bs) (in_list b free (λ c. list_any (λ k. c == k) closers) refl m))
    (ap (λ (x : Bool). not (x && begins_with bs (codes "^"))) (not-true (b == 94) (in_list b free (λ c. not (c == 94)) refl m)))

allowed_by : (e : End) (b : ℕ) (bs : List ℕ) → list_any (λ k. b == k) free ≡ true → Allowed e (b ∷ bs)
allowed_by e b bs m = record { closes = free_closes b bs m; apart = go e }
  where
    go : (e : End) → not (list_any (λ k. b == k) (held e)) ≡ true
    go plain = refl
    go stop = in_list b free (λ c. not (list_any (λ k. c == k) (codes "."))) refl m
    go bang = in_list b free (λ c. not (list_any (λ k. c == k) (codes "!"))) refl m
    go semi = in_list b free (λ c. not (list_any (λ k. c == k) (codes ";"))) refl m

infix_closes : (o : Infix) (X : List ℕ) → avoids X apart ≡ true → closes (infix_text o ++ X) ≡ true
infix_closes Power X a = ap not (no_power X (avoids_less X (codes "^") apart refl a))
infix_closes _ X a = refl

infix_stop : (o : Infix) (X : List ℕ) → avoids (infix_text o ++ X) (codes ".") ≡ true
infix_stop Message X = refl
infix_stop _ X = refl

infix_bang : (o : Infix) (X : List ℕ) → avoids (infix_text o ++ X) (codes "!") ≡ true
infix_bang Message X = refl
infix_bang _ X = refl

infix_allowed : (e : End) (o : Infix) (X : List ℕ) → avoids X apart ≡ true → rank e < 30 → Allowed e (infix_text o ++ X)
infix_allowed plain o X a r = record { closes = infix_closes o X a; apart = avoids_none (infix_text o ++ X) }
infix_allowed stop o X a r = record { closes = infix_closes o X a; apart = infix_stop o X }
infix_allowed bang o X a r = record { closes = infix_closes o X a; apart = infix_bang o X }
infix_allowed semi o X a r = absurd (omega (arith, r))

semi_allowed : (e : End) (X : List ℕ) → rank e < 30 → Allowed e (59 ∷ X)
semi_allowed plain X r = record { closes = refl; apart = refl }
semi_allowed stop X r = record { closes = refl; apart = refl }
semi_allowed bang X r = record { closes = refl; apart = refl }
semi_allowed semi X r = absurd (omega (arith, r))

apart_when : (t : List ℕ) → (ends_in_stop t ≡ true) → ends_in_stop t ≡ false → ⊥
apart_when t e f = true≢false (sym e ∙ f)

-- an operator behind an operand
postfix_allowed : (o : Postfix) (s : Shown) (X : List ℕ) → NoStop o s → rank (end_of s) < postfix_level o → Allowed (end_of s) (postfix_text o ++ X)
postfix_allowed o s X n r = go o (end_of s) n r (stop_text s)
  where
    go : (o : Postfix) (e : End) → NoStop o s → rank e < postfix_level o → (e ≡ stop → ends_in_stop (text_of s) ≡ true) → Allowed e (postfix_text o ++ X)
    go Function e n r f = allowed_by e 32 (38 ∷ X) refl
    go Factorial plain n r f = record { closes = refl; apart = refl }
    go Factorial stop n r f = record { closes = refl; apart = refl }
    go Factorial bang n r f = absurd (omega (arith, r))
    go Factorial semi n r f = absurd (omega (arith, r))
    go Repeated plain n r f = record { closes = refl; apart = refl }
    go Repeated stop n r f = absurd (apart_when (text_of s) (f refl) n)
    go Repeated bang n r f = record { closes = refl; apart = refl }
    go Repeated semi n r f = absurd (omega (arith, r))
    go RepeatedNull plain n r f = record { closes = refl; apart = refl }
    go RepeatedNull stop n r f = absurd (apart_when (text_of s) (f refl) n)
    go RepeatedNull bang n r f = record { closes = refl; apart = refl }
    go RepeatedNull semi n r f = absurd (omega (arith, r))

recut : (t u : List ℕ) (ks ls : List Token) → t ≡ u → ks ≡ ls → Scans t ks → Scans u ls
recut t u ks ls e f h = subst (λ x. Scans x ls) e (subst (λ x. Scans t x) f h)

joined_avoided : (b : ℕ) → (b == 33) ≡ false → (b == 61) ≡ false → not ((b == 33) || ((b == 61) || false)) ≡ true
joined_avoided b e f = rw (e, f) refl

both_avoided : (rest : List ℕ) → Allowed bang rest → avoids rest (codes "!=") ≡ true
both_avoided [] a = refl
both_avoided (b ∷ bs) a = joined_avoided b (first_is_not b 33 bs a.apart) (first_is_not b 61 bs (closes_avoids (b ∷ bs) (codes "=") refl a.closes))

cut_postfix : (o : Postfix) (rest : List ℕ) (ks : List Token) → Allowed (postfix_end o) rest → Scans rest ks → Scans (postfix_text o ++ rest) (token.sign (postfix_sign (as_postfix o)) ∷ ks)
unfolding postfix_sign
cut_postfix Factorial rest ks a h = cut_sign 33 [] rest ks refl refl refl (both_avoided rest a) h
cut_postfix Repeated rest ks a h = cut_sign 46 (46 ∷ []) rest ks refl refl refl a.apart h
cut_postfix RepeatedNull rest ks a h = cut_sign 46 (46 ∷ 46 ∷ []) rest ks refl refl refl (avoids_none rest) h
cut_postfix Function rest ks a h = scans_space (38 ∷ rest) _ refl (cut_sign 38 [] rest ks refl refl refl (closes_avoids rest (codes "&") refl a.closes) h)

-- numbers
cut_digits : (n : ℕ) → n < 2 ^ 127 → (rest : List ℕ) (ks : List Token) → closes rest ≡ true → Scans rest ks → Scans (decimal n ++ rest) (token.atom (token.number (decimal n)) ∷ ks)
cut_digits n l rest ks c h = let w = writes_number n l in scans_token (decimal n) rest kind.Number ks w.some (digits_ascii (decimal n) w.digits) (number_cut (decimal n) rest n w l h.utf8 c) h

cut_signed : (z : ℤ) → unsigned_abs z < 2 ^ 127 → (rest : List ℕ) (ks : List Token) → closes rest ≡ true → Scans rest ks → Scans (signed_decimal z ++ rest) (reads (signed z) ++ ks)
unfolding reads prefix_sign
cut_signed (pos n) l rest ks c h = cut_digits n l rest ks c h
cut_signed (negsuc n) l rest ks c h =
    cut_sign 45 [] (decimal (suc n) ++ rest) _ refl refl refl (avoids_less (decimal (suc n) ++ rest) (further (45 ∷ []) signs) (45 ∷ apart) refl (decimal_first (45 ∷ apart) 10 behind_dash (suc n) rest l)) (cut_digits (suc n) l rest ks c h)

cut_number : (z : ℤ) (q : ℕ) (b : Bool) → unsigned_abs z < 2 ^ 127 → q < 2 ^ 127 → (rest : List ℕ) (ks : List Token) → closes rest ≡ true → Scans rest ks
    → Scans (cond b (signed_decimal z) (signed_decimal z ++ (codes "/" ++ decimal q)) ++ rest) (reads (cond b (signed z) (tree.between (signed z) read_infix.Divide (digits_of q))) ++ ks)
unfolding reads infix_sign
cut_number z q true l m rest ks c h = cut_signed z l rest ks c h
cut_number z q false l m rest ks c h =
    recut _ _ _ _ (sym (append_assoc (signed_decimal z) (codes "/" ++ decimal q) rest)) (sym (append_assoc (reads (signed z)) (token.sign sign.Slash ∷ reads (digits_of q)) ks))
    (cut_signed z l (47 ∷ (decimal q ++ rest)) (token.sign sign.Slash ∷ (reads (digits_of q) ++ ks)) refl
    (cut_sign 47 [] (decimal q ++ rest) _ refl refl refl (avoids_less (decimal q ++ rest) (further (47 ∷ []) signs) apart refl (decimal_first apart 31 loose q rest m)) (cut_digits q m rest ks c h)))

-- brackets and commas
AfterElems : Elems → List ℕ → Type 0
AfterElems none rest = Unit {0}
AfterElems (more xs s) rest = (e : End) → Allowed e rest

behind_comma : (xs : Elems) (X : List ℕ) → AfterElems xs (comma_after xs ++ X)
unfolding AfterElems
behind_comma none X = tt
behind_comma (more xs s) X = λ e. allowed_by e 44 (32 ∷ X) refl

after_bracket : (xs : Elems) (b : ℕ) (X : List ℕ) → list_any (λ k. b == k) free ≡ true → AfterElems xs (b ∷ X)
unfolding AfterElems
after_bracket none b X m = tt
after_bracket (more xs s) b X m = λ e. allowed_by e b X m

cut_comma : (xs : Elems) (X : List ℕ) (ks : List Token) → avoids X apart ≡ true → Scans X ks → Scans (comma_after xs ++ X) (tree.comma_after (written_elems xs) ++ ks)
cut_comma none X ks a h = h
cut_comma (more xs s) X ks a h = cut_sign 44 [] (32 ∷ X) ks refl refl refl refl (scans_space X ks (apart_blank X a) h)

quoted_some : (s : List ℕ) → 0 < length (quoted s)
quoted_some s = omega (arith, ap length (quoted_is s))

marks_some : (k : Marks) → 0 < length (marks_text k)
marks_some One = omega arith
marks_some Two = omega arith
marks_some Three = omega arith

pattern_some : (x : List ℕ) (k : Marks) (t : List ℕ) → 0 < length (x ++ (marks_text k ++ t))
pattern_some x k t = omega (arith, length-append x (marks_text k ++ t), length-append (marks_text k) t, marks_some k)

slot_some : (d : Bool) (ds : List ℕ) → 0 < length (slot_marks d ++ ds)
slot_some true ds = omega arith
slot_some false ds = omega arith

slot_utf8 : (d : Bool) (ds : List ℕ) → IsUtf8 ds → IsUtf8 (slot_marks d ++ ds)
slot_utf8 true ds u = utf8_more 35 (35 ∷ ds) (omega arith) (utf8_more 35 ds (omega arith) u)
slot_utf8 false ds u = utf8_more 35 ds (omega arith) u

part_text : (f xs c t rest : List ℕ) → (f ++ (codes "[[" ++ (xs ++ (c ++ (t ++ codes "]]"))))) ++ rest ≡ f ++ (91 ∷ 91 ∷ (xs ++ (c ++ (t ++ (93 ∷ 93 ∷ rest)))))
part_text f xs c t rest = simp append_assoc

part_reads : (f xs c t ks : List Token) → (f ++ (token.open_square ∷ token.open_square ∷ (xs ++ (c ++ (t ++ token.close_square ∷ token.close_square ∷ []))))) ++ ks ≡ f ++ (token.open_square ∷ token.open_square ∷ (xs ++ (c ++ (t ++ (token.close_square ∷ token.close_square ∷ ks)))))
part_reads f xs c t ks = simp append_assoc

link_text : (s ls o t rest : List ℕ) → (s ++ ls) ++ (o ++ (t ++ rest)) ≡ (s ++ (ls ++ (o ++ t))) ++ rest
link_text s ls o t rest = simp append_assoc

-- where a chain goes on, its operands bind tighter than a `;`
abbrev ChainGoesOn : ℕ → Links → Type 0
ChainGoesOn q nothing = Unit {0}
ChainGoesOn q (behind ls o r) = (is_chain q ≡ true) ⊎ (q ≡ 30)

at_thirty : (ls : Links) → ChainGoesOn 30 ls
at_thirty nothing = tt
at_thirty (behind ls o r) = inr refl

links_chain : (q : ℕ) (ls : Links) (o : Infix) → GoesOnFrom q ls o → ChainGoesOn q ls
links_chain q nothing o g = tt
links_chain q (behind ls p r) o g = inl g.0

thirty_is_chain : (q : ℕ) → (is_chain q ≡ true) ⊎ (q ≡ 30) → is_chain q ≡ true
thirty_is_chain q (inl g) = g
thirty_is_chain q (inr e) = subst (λ n. is_chain n ≡ true) (sym e) refl

links_rank : (q : ℕ) (s : Shown) (ls : Links) → q ≤ 30 → rank (end_of s) < 30 → WellLinks q s ls → ChainGoesOn q ls → rank (end_behind (end_of s) ls) < 30
unfolding Well
links_rank q s nothing m r w g = r
links_rank q s (behind ls o t) m r w g = omega (arith, ends_low t w.1, chain_strict (level t) q (thirty_is_chain q g) w.3)

mutual
  unfolding Well reads prefix_sign AfterElems

  pub cut : (s : Shown) → Well s → (rest : List ℕ) (ks : List Token) → Allowed (end_of s) rest → Scans rest ks → Scans (text_of s ++ rest) (reads (written s) ++ ks)
  cut (number f) w rest ks a h = cut_number f.num f.den (f.den == 1) w.range.num w.range.den rest ks a.closes h
  cut (name s) w rest ks a h = scans_token s rest kind.Name ks (word_some s w) w.utf8 (name_found s rest w h.utf8 a.closes) h
  cut (string s) w rest ks a h = scans_token (quoted s) rest kind.Text ks (quoted_some s) (quoted_utf8 s w) (string_cut s rest (quoted_utf8 s w) h.utf8) h
  cut (pattern x k t) w rest ks a h = scans_token (x ++ (marks_text k ++ t)) rest kind.Pattern ks (pattern_some x k t) (pattern_utf8 x k t w.0 w.1) (pattern_found x k t rest w.0 w.1 h.utf8 a.closes (λ e. subst (λ y. avoids rest (held (cond (bytes_eq y (codes ".")) stop plain)) ≡ true) e a.apart)) h
  cut (slot d n) w rest ks a h = let r = writes_number n w in scans_token (slot_marks d ++ decimal n) rest kind.Slot ks (slot_some d (decimal n)) (slot_utf8 d (decimal n) (digits_ascii (decimal n) r.digits)) (slot_cut d (decimal n) rest n r w h.utf8 a.closes) h
  cut (parens s) w rest ks a h =
      recut _ _ _ _ (ap (λ l. 40 ∷ l) (sym (append_assoc (text_of s) (codes ")") rest))) (ap (λ l. token.open_round ∷ l) (sym (append_assoc (reads (written s)) (token.close_round ∷ []) ks)))
      (cut_sign 40 [] (text_of s ++ (41 ∷ rest)) _ refl (no_comment_open (text_of s ++ (41 ∷ rest)) (avoids_less (text_of s ++ (41 ∷ rest)) (codes "*") apart refl (begins_apart s w (41 ∷ rest)))) refl (avoids_none (text_of s ++ (41 ∷ rest)))
      (cut s w (41 ∷ rest) (token.close_round ∷ ks) (allowed_by (end_of s) 41 rest refl) (cut_sign 41 [] rest ks refl refl refl (avoids_none rest) h)))
  cut (braces xs) w rest ks a h =
      recut _ _ _ _ (ap (λ l. 123 ∷ l) (sym (append_assoc (elems_text xs) (codes "}") rest))) (ap (λ l. token.open_brace ∷ l) (sym (append_assoc (read_elems (written_elems xs)) (token.close_brace ∷ []) ks)))
      (cut_sign 123 [] (elems_text xs ++ (125 ∷ rest)) _ refl refl refl (avoids_none (elems_text xs ++ (125 ∷ rest)))
      (cut_elems xs w (125 ∷ rest) (token.close_brace ∷ ks) (after_bracket xs 125 rest refl) (cut_sign 125 [] rest ks refl refl refl (avoids_none rest) h)))
  cut (call f xs) w rest ks a h =
      recut _ _ _ _ (sym (append_assoc (text_of f) (codes "[" ++ (elems_text xs ++ codes "]")) rest ∙ ap (λ l. text_of f ++ (91 ∷ l)) (append_assoc (elems_text xs) (codes "]") rest)))
      (sym (append_assoc (reads (written f)) (token.open_square ∷ (read_elems (written_elems xs) ++ token.close_square ∷ [])) ks ∙ ap (λ l. reads (written f) ++ (token.open_square ∷ l)) (append_assoc (read_elems (written_elems xs)) (token.close_square ∷ []) ks)))
      (cut f w.0 (91 ∷ (elems_text xs ++ (93 ∷ rest))) (token.open_square ∷ (read_elems (written_elems xs) ++ (token.close_square ∷ ks))) (allowed_by (end_of f) 91 (elems_text xs ++ (93 ∷ rest)) refl)
      (cut_sign 91 [] (elems_text xs ++ (93 ∷ rest)) _ refl refl refl (avoids_none (elems_text xs ++ (93 ∷ rest)))
      (cut_elems xs w.2 (93 ∷ rest) (token.close_square ∷ ks) (after_bracket xs 93 rest refl) (cut_sign 93 [] rest ks refl refl refl (avoids_none rest) h))))
  cut (part f xs s) w rest ks a h =
      let tail : List ℕ = text_of s ++ (93 ∷ 93 ∷ rest) in
      let more_tail : List ℕ = elems_text xs ++ (comma_after xs ++ tail) in
      recut _ _ _ _ (sym (part_text (text_of f) (elems_text xs) (comma_after xs) (text_of s) rest))
      (sym (part_reads (reads (written f)) (read_elems (written_elems xs)) (tree.comma_after (written_elems xs)) (reads (written s)) ks))
      (cut f w.0 (91 ∷ 91 ∷ more_tail) _ (allowed_by (end_of f) 91 (91 ∷ more_tail) refl)
      (cut_sign 91 [] (91 ∷ more_tail) _ refl refl refl refl
      (cut_sign 91 [] more_tail _ refl refl refl (avoids_none more_tail)
      (cut_elems xs w.2 (comma_after xs ++ tail) _ (behind_comma xs tail)
      (cut_comma xs tail _ (begins_apart s w.3 (93 ∷ 93 ∷ rest))
      (cut s w.3 (93 ∷ 93 ∷ rest) (token.close_square ∷ token.close_square ∷ ks) (allowed_by (end_of s) 93 (93 ∷ rest) refl)
      (cut_sign 93 [] (93 ∷ rest) _ refl refl refl refl (cut_sign 93 [] rest ks refl refl refl (avoids_none rest) h))))))))
  cut (before Negate s) w rest ks a h =
      cut_sign 45 [] (text_of s ++ rest) _ refl refl refl (avoids_less (text_of s ++ rest) (further (45 ∷ []) signs) (45 ∷ apart) refl (begins (45 ∷ apart) 10 behind_dash s w.0 w.1 rest)) (cut s w.0 rest ks a h)
  cut (before Not s) w rest ks a h =
      cut_sign 33 [] (text_of s ++ rest) _ refl refl refl (avoids_less (text_of s ++ rest) (further (33 ∷ []) signs) (33 ∷ apart) refl (begins (33 ∷ apart) 16 behind_exclamation s w.0 w.1 rest)) (cut s w.0 rest ks a h)
  cut (after s o) w rest ks a h =
      recut _ _ _ _ (sym (append_assoc (text_of s) (postfix_text o) rest)) (sym (append_assoc (reads (written s)) (token.sign (postfix_sign (as_postfix o)) ∷ []) ks))
      (cut s w.0 (postfix_text o ++ rest) (token.sign (postfix_sign (as_postfix o)) ∷ ks) (postfix_allowed o s rest w.2 (omega (arith, ends_low s w.0, w.1))) (cut_postfix o rest ks a h))
  cut (chain s ls) w rest ks a h = cut_links (links_level ls) s ls (low_links ls) (omega (arith, ends_low s w.0, w.1, low_links ls)) (cut s w.0) w.2 rest ks a h
  cut (ended s ls) w rest ks a h =
      recut _ _ _ _ (append_assoc (text_of s) (links_text ls) (59 ∷ rest) ∙ sym (append_assoc (text_of s) (links_text ls ++ codes ";") rest ∙ ap (λ l. text_of s ++ l) (append_assoc (links_text ls) (codes ";") rest)))
      (sym (append_assoc (reads (linked (written s) ls)) (token.sign sign.Semicolon ∷ []) ks))
      (cut_links 30 s ls (omega arith) (omega (arith, ends_low s w.0, w.1)) (cut s w.0) w.2 (59 ∷ rest) (token.sign sign.Semicolon ∷ ks) (semi_allowed (end_behind (end_of s) ls) rest (links_rank 30 s ls (omega arith) (omega (arith, ends_low s w.0, w.1)) w.2 (at_thirty ls)))
      (cut_sign 59 [] rest ks refl refl refl a.apart h))

  cut_elems : (xs : Elems) → WellElems xs → (rest : List ℕ) (ks : List Token) → AfterElems xs rest → Scans rest ks → Scans (elems_text xs ++ rest) (read_elems (written_elems xs) ++ ks)
  cut_elems none w rest ks a h = h
  cut_elems (more xs s) w rest ks a h =
      recut _ _ _ _ (sym (append_assoc (elems_text xs) (comma_after xs ++ text_of s) rest ∙ ap (λ l. elems_text xs ++ l) (append_assoc (comma_after xs) (text_of s) rest)))
      (sym (append_assoc (read_elems (written_elems xs)) (tree.comma_after (written_elems xs) ++ reads (written s)) ks ∙ ap (λ l. read_elems (written_elems xs) ++ l) (append_assoc (tree.comma_after (written_elems xs)) (reads (written s)) ks)))
      (cut_elems xs w.0 (comma_after xs ++ (text_of s ++ rest)) _ (behind_comma xs (text_of s ++ rest)) (cut_comma xs (text_of s ++ rest) _ (begins_apart s w.1 rest) (cut s w.1 rest ks (a (end_of s)) h)))

  cut_links : (q : ℕ) (s : Shown) (ls : Links) → q ≤ 30 → rank (end_of s) < 30 → ((rest : List ℕ) (ks : List Token) → Allowed (end_of s) rest → Scans rest ks → Scans (text_of s ++ rest) (reads (written s) ++ ks)) → WellLinks q s ls
      → (rest : List ℕ) (ks : List Token) → Allowed (end_behind (end_of s) ls) rest → Scans rest ks → Scans ((text_of s ++ links_text ls) ++ rest) (reads (linked (written s) ls) ++ ks)
  cut_links q s nothing m r f w rest ks a h = subst (λ t. Scans (t ++ rest) (reads (written s) ++ ks)) (sym (append-nil (text_of s))) (f rest ks a h)
  cut_links q s (behind ls o t) m r f w rest ks a h =
      recut _ _ _ _ (link_text (text_of s) (links_text ls) (infix_text o) (text_of t) rest)
      (sym (append_assoc (reads (linked (written s) ls)) (sign_tokens (infix_sign (as_infix o)) ++ reads (written t)) ks ∙ ap (λ l. reads (linked (written s) ls) ++ l) (append_assoc (sign_tokens (infix_sign (as_infix o))) (reads (written t)) ks)))
      (cut_links q s ls m r f w.0 (infix_text o ++ (text_of t ++ rest)) _ (infix_allowed (end_behind (end_of s) ls) o (text_of t ++ rest) (begins_apart t w.1 rest) (links_rank q s ls m r w.0 (links_chain q ls o w.5)))
      (cut_infix o (text_of t ++ rest) _ (begins_apart t w.1 rest) (cut t w.1 rest ks a h)))
