-- What the words of a printed text stand for.
use Rattle.std.proofs.Common.{ℕ, ℤ, suc, ◌+◌, ◌^◌, ◌/◌, ◌%◌, ◌<◌, ◌≤◌, ◌≡◌, Bool, true, false, not, ◌&&◌, ◌==◌, cond, List, [], ◌∷◌, ◌++◌, length, take, drop, refl, sym, ap, ◌∙◌, arith, codes, subst, append_assoc, ltb}
use Rattle.std.specs.Prelude.{pos, negsuc, neg_ℤ, decimal, unsigned_abs, encode_utf8_all}
use Rattle.std.specs.List.{prefix_len, before_first, after_first, position_or_len}
use Rattle.std.specs.Str.{IsUtf8, bytes_eq, chars}
use Rattle.std.specs.Char.{encode_utf8}
use Rattle.std.proofs.lemmas.List.{length-append}
use Rattle.std.proofs.lemmas.Bool.{cond_both, cond-true, cond-false, and_parts, eqb-true, ne_eqb, true≢false, ltb-true}
use Rattle.std.proofs.lemmas.Str.{chars-encodes, encodes-chars}
use Rattle.wl_exact.specs.Fraction.{Fraction, IsNumber}
use Rattle.wl_ports.specs.Name.{begins_name, continues_name, all_continue_name, spells_name}
use Rattle.wl_expr.specs.Tree as full
use Rattle.wl_form.specs.declared.operator.Marks.{Marks}
use Rattle.wl_form.specs.declared.operator.Marks.TheVariants.{One, Two, Three}
use Rattle.wl_form.specs.Operators.{marks_text}
use Rattle.wl_form.specs.Shown.{escaped, all_escaped, quoted, slot_marks}
use Rattle.wl_form.specs.Texts.{spelled_number}
use Rattle.wl_scan.specs.Forms.{is_mark}
use Rattle.wl_scan.specs.Literals.{literal_value}
use Rattle.wl_syntax.specs.Atoms.{named, whole_number, index, slot_tree, blank, blanks, bound, defaulted, pattern_tree, unquoted, string_of}
use Rattle.wl_syntax.specs.Lower.{lower}
use Rattle.wl_syntax.specs.Tree as tree
use Rattle.wl_syntax.specs.Table as table
use Rattle.wl_syntax.specs.declared.operator.Infix.TheVariants as read_infix
use Rattle.wl_syntax.proofs.Marks.{Lacks, blanks_none, blanks_one, blanks_two, slot_one, slot_two}
use Rattle.wl_reading_back.specs.Written.{signed, number_tree, digits_of}
use Rattle.wl_reading_back.proofs.Cut.{drop_front, take_front}
use Rattle.wl_reading_back.proofs.Classes.{avoids_less, odd, IsWord, word_some, word_avoids, first_is_not, name_not_odd, continues_not_mark, digit_avoids}
use Rattle.wl_reading_back.proofs.Words.{MaybeWord, writes_number, literal_is, AllDigit, quoted_scalars}

-- strings

unquoted_unit : (c : ℕ) (X : List ℕ) → unquoted false (escaped c ++ X) ≡ c ∷ unquoted false X
unquoted_unit c X =
    cond_both (c == 34) _ _ P (λ e. ap (λ (d : ℕ). d ∷ unquoted false X) (sym (eqb-true c 34 e)))
    (λ q. cond_both (c == 92) _ _ P (λ e. ap (λ (d : ℕ). d ∷ unquoted false X) (sym (eqb-true c 92 e)))
    (λ k. cond_both (c == 10) _ _ P (λ e. ap (λ (d : ℕ). d ∷ unquoted false X) (sym (eqb-true c 10 e)))
    (λ _. cond_both (c == 9) _ _ P (λ e. ap (λ (d : ℕ). d ∷ unquoted false X) (sym (eqb-true c 9 e)))
    (λ _. cond_both (c == 13) _ _ P (λ e. ap (λ (d : ℕ). d ∷ unquoted false X) (sym (eqb-true c 13 e)))
    (λ _. cond-false (c == 92) _ _ k ∙ cond-false (c == 34) _ _ q)))))
  where
    P : List ℕ → Type 0
    P e = unquoted false (e ++ X) ≡ c ∷ unquoted false X

unquoted_all : (cs : List ℕ) → unquoted false (all_escaped cs ++ (34 ∷ [])) ≡ cs
unquoted_all [] = refl
unquoted_all (c ∷ cs) = ap (unquoted false) (append_assoc (escaped c) (all_escaped cs) (34 ∷ [])) ∙ unquoted_unit c (all_escaped cs ++ (34 ∷ [])) ∙ ap (λ l. c ∷ l) (unquoted_all cs)

pub string_back : (s : List ℕ) → IsUtf8 s → string_of (quoted s) ≡ s
string_back s u =
    ap (λ l. encode_utf8_all (unquoted false l)) (chars-encodes (34 ∷ (all_escaped (chars s) ++ (34 ∷ []))) (quoted_scalars s u))
    ∙ ap encode_utf8_all (unquoted_all (chars s)) ∙ encodes-chars s u

-- numbers

pub value_back : (n : ℕ) → n < 2 ^ 127 → literal_value (decimal n) ≡ n
value_back n l = literal_is n (decimal n) (writes_number n l)

pub digits_back : (n : ℕ) → n < 2 ^ 127 → lower (digits_of n) ≡ whole_number (pos n)
digits_back n l = ap (λ (v : ℕ). whole_number (pos v)) (value_back n l)

signed_back : (z : ℤ) → unsigned_abs z < 2 ^ 127 → lower (signed z) ≡ whole_number z
signed_back (pos n) l = digits_back n l
signed_back (negsuc n) l = ap (λ (v : ℕ). whole_number (neg_ℤ (pos v))) (value_back (suc n) l)

number_by : (z : ℤ) (q : ℕ) (b : Bool) → unsigned_abs z < 2 ^ 127 → q < 2 ^ 127 → (q == 1) ≡ b
    → lower (cond b (signed z) (tree.between (signed z) read_infix.Divide (digits_of q))) ≡ cond b (full.num (record { num = z; den = q })) (named (codes "Times") (whole_number z ∷ named (codes "Power") (whole_number (pos q) ∷ whole_number (negsuc 0) ∷ []) ∷ []))
unfolding table.infix_level
number_by z q true l m e = signed_back z l ∙ ap (λ (d : ℕ). full.num (record { num = z; den = d })) (sym (eqb-true q 1 e))
number_by z q false l m e = ap (λ v. named (codes "Times") (v ∷ named (codes "Power") (lower (digits_of q) ∷ whole_number (negsuc 0) ∷ []) ∷ [])) (signed_back z l)
    ∙ ap (λ v. named (codes "Times") (whole_number z ∷ named (codes "Power") (v ∷ whole_number (negsuc 0) ∷ []) ∷ [])) (digits_back q m)

pub number_back : (f : Fraction) → IsNumber f → lower (number_tree f) ≡ spelled_number f
number_back f h = number_by f.num f.den (f.den == 1) h.range.num h.range.den refl

-- slots

no_hash_first : (ds : List ℕ) → AllDigit ds → Lacks 35 ds
no_hash_first [] h rest e = absurd (cc)
no_hash_first (b ∷ bs) h rest e = absurd (apart_hash b (first_is_not b 35 bs (digit_avoids b bs (35 ∷ []) refl h.0)) (head_is b bs rest e))
  where
    head_is : (b : ℕ) (bs rest : List ℕ) → b ∷ bs ≡ 35 ∷ rest → b ≡ 35
    head_is b bs rest e = cc

    apart_hash : (b : ℕ) → (b == 35) ≡ false → b ≡ 35 → ⊥
    apart_hash b f e = true≢false (sym (subst (λ (x : ℕ). (x == 35) ≡ true) (sym e) refl) ∙ f)

index_back : (n : ℕ) → n < 2 ^ 127 → index (decimal n) ≡ whole_number (pos n)
index_back n l = cond-false (length (decimal n) == 0) _ _ (ne_eqb (length (decimal n)) 0 (λ e. omega (arith, e, (writes_number n l).some))) ∙ digits_back n l

unfoldable pub slot_name : Bool → List ℕ
slot_name false = codes "Slot"
slot_name true = codes "SlotSequence"

pub slot_back : (d : Bool) (n : ℕ) → n < 2 ^ 127 → slot_tree (slot_marks d ++ decimal n) ≡ named (slot_name d) (whole_number (pos n) ∷ [])
unfolding slot_name
slot_back false n l = slot_one (35 ∷ decimal n) (decimal n) refl (no_hash_first (decimal n) (writes_number n l).digits) ∙ ap (λ v. named (codes "Slot") (v ∷ [])) (index_back n l)
slot_back true n l = slot_two (35 ∷ 35 ∷ decimal n) (35 ∷ decimal n) (decimal n) refl refl ∙ ap (λ v. named (codes "SlotSequence") (v ∷ [])) (index_back n l)

-- patterns

AllUnmarked : List ℕ → Type 0
AllUnmarked [] = Unit {0}
AllUnmarked (b ∷ bs) = ((b == 95) ≡ false) × AllUnmarked bs

unmarked_run : (e r : List ℕ) → AllUnmarked e → prefix_len (λ b. not (is_mark b)) (e ++ r) ≡ length e + prefix_len (λ b. not (is_mark b)) r
unfolding AllUnmarked
unmarked_run [] r h = omega arith
unmarked_run (b ∷ e) r h = cond-true (not (b == 95)) (1 + prefix_len (λ b. not (is_mark b)) (e ++ r)) 0 (ap not h.0) ∙ omega (arith, unmarked_run e r h.1)

far : (b : ℕ) → 128 ≤ b → (b == 95) ≡ false
far b l = ne_eqb b 95 (λ e. omega (arith, e, l))

unmarked_char : (c : ℕ) → (c < 128 → (c == 95) ≡ false) → AllUnmarked (encode_utf8 c)
unfolding AllUnmarked encode_utf8
unmarked_char c h =
    cond_both (ltb c 128) _ _ AllUnmarked (λ e. (h (ltb-true c 128 e), tt))
    (λ _. cond_both (ltb c 2048) _ _ AllUnmarked (λ _. (far (192 + c / 64) (omega arith), (far (128 + c % 64) (omega arith), tt)))
    (λ _. cond_both (ltb c 65536) _ _ AllUnmarked (λ _. (far (224 + c / 4096) (omega arith), (far (128 + c / 64 % 64) (omega arith), (far (128 + c % 64) (omega arith), tt))))
    (λ _. (far (240 + c / 262144) (omega arith), (far (128 + c / 4096 % 64) (omega arith), (far (128 + c / 64 % 64) (omega arith), (far (128 + c % 64) (omega arith), tt)))))))

unmarked_append : (x y : List ℕ) → AllUnmarked x → AllUnmarked y → AllUnmarked (x ++ y)
unfolding AllUnmarked
unmarked_append [] y h k = k
unmarked_append (b ∷ x) y h k = (h.0, unmarked_append x y h.1 k)

unmarked_more : (cs : List ℕ) → all_continue_name cs ≡ true → AllUnmarked (encode_utf8_all cs)
unfolding AllUnmarked
unmarked_more [] h = tt
unmarked_more (c ∷ cs) h = let p = and_parts (continues_name c) (all_continue_name cs) h in unmarked_append (encode_utf8 c) (encode_utf8_all cs) (unmarked_char c (continues_not_mark c p.0)) (unmarked_more cs p.1)

begins_not_mark : (c : ℕ) → begins_name c ≡ true → c < 128 → (c == 95) ≡ false
begins_not_mark c n l = first_is_not c 95 [] (avoids_less (c ∷ []) (95 ∷ []) odd refl (name_not_odd c n l))

unmarked_name : (cs : List ℕ) → spells_name cs ≡ true → AllUnmarked (encode_utf8_all cs)
unmarked_name [] h = absurd (cc)
unmarked_name (c ∷ cs) h = let p = and_parts (begins_name c) (all_continue_name cs) h in unmarked_append (encode_utf8 c) (encode_utf8_all cs) (unmarked_char c (begins_not_mark c p.0)) (unmarked_more cs p.1)

unmarked_word : (x : List ℕ) → MaybeWord x → AllUnmarked x
unfolding AllUnmarked
unmarked_word [] h = tt
unmarked_word (c ∷ cs) h = subst AllUnmarked (encodes-chars (c ∷ cs) h.utf8) (unmarked_name (chars (c ∷ cs)) h.name)

mark_place : (x y : List ℕ) → MaybeWord x → position_or_len is_mark (x ++ (95 ∷ y)) ≡ length x
mark_place x y h = unmarked_run x (95 ∷ y) (unmarked_word x h) ∙ omega arith

before_mark : (x y : List ℕ) → MaybeWord x → before_first is_mark (x ++ (95 ∷ y)) ≡ x
before_mark x y h = ap (λ (n : ℕ). take n (x ++ (95 ∷ y))) (mark_place x y h) ∙ take_front x (95 ∷ y)

one_past : (x y : List ℕ) → drop (length x + 1) (x ++ (95 ∷ y)) ≡ y
one_past x y =
    ap (λ (n : ℕ). drop n (x ++ (95 ∷ y))) (omega (arith, length-append x (95 ∷ [])))
    ∙ ap (drop (length (x ++ (95 ∷ [])))) (sym (append_assoc x (95 ∷ []) y)) ∙ drop_front (x ++ (95 ∷ [])) y

after_mark : (x y : List ℕ) → MaybeWord x → after_first is_mark (x ++ (95 ∷ y)) ≡ y
after_mark x y h = ap (λ (n : ℕ). drop (n + 1) (x ++ (95 ∷ y))) (mark_place x y h) ∙ one_past x y

pattern_split : (x y : List ℕ) → MaybeWord x → pattern_tree (x ++ (95 ∷ y)) ≡ defaulted y (bound x (blanks y))
pattern_split x y h = ap (λ a. defaulted a (bound (before_first is_mark (x ++ (95 ∷ y))) (blanks a))) (after_mark x y h) ∙ ap (λ b. defaulted y (bound b (blanks y))) (before_mark x y h)

-- what stands behind the marks

lacks_mark : (h : List ℕ) → MaybeWord h → Lacks 95 h
lacks_mark [] w rest e = absurd (cc)
lacks_mark (c ∷ cs) w rest e = absurd (apart_mark c (first_is_not c 95 (cs ++ []) (avoids_less ((c ∷ cs) ++ []) (95 ∷ []) odd refl (word_avoids (c ∷ cs) [] w))) (head_is c cs rest e))
  where
    head_is : (b : ℕ) (bs rest : List ℕ) → b ∷ bs ≡ 95 ∷ rest → b ≡ 95
    head_is b bs rest e = cc

    apart_mark : (b : ℕ) → (b == 95) ≡ false → b ≡ 95 → ⊥
    apart_mark b f e = true≢false (sym (subst (λ (x : ℕ). (x == 95) ≡ true) (sym e) refl) ∙ f)

unfoldable pub blank_name : Marks → List ℕ
blank_name One = codes "Blank"
blank_name Two = codes "BlankSequence"
blank_name Three = codes "BlankNullSequence"

-- the rest behind the first mark
abbrev behind_mark : Marks → List ℕ → List ℕ
behind_mark One h = h
behind_mark Two h = 95 ∷ h
behind_mark Three h = 95 ∷ 95 ∷ h

first_mark : (k : Marks) (h : List ℕ) → marks_text k ++ h ≡ 95 ∷ behind_mark k h
first_mark One h = refl
first_mark Two h = refl
first_mark Three h = refl

blanks_back : (k : Marks) (h : List ℕ) → Lacks 95 h → blanks (behind_mark k h) ≡ blank (blank_name k) h
unfolding blank_name
blanks_back One h l = blanks_none h l
blanks_back Two h l = blanks_one (95 ∷ h) h refl l
blanks_back Three h l = blanks_two (95 ∷ 95 ∷ h) (95 ∷ h) h refl refl

-- a word is no full stop
no_stop_word : (h : List ℕ) → IsWord h → bytes_eq h (codes ".") ≡ false
no_stop_word [] w = refl
no_stop_word (c ∷ cs) w = ap (λ (t : Bool). t && bytes_eq cs []) (first_is_not c 46 (cs ++ []) (avoids_less ((c ∷ cs) ++ []) (46 ∷ []) odd refl (word_avoids (c ∷ cs) [] w)))

no_default : (k : Marks) (h : List ℕ) (p : full.Tree) → bytes_eq h (codes ".") ≡ false → defaulted (behind_mark k h) p ≡ p
no_default One h p e = cond-false (bytes_eq h (codes ".")) _ _ e
no_default Two h p e = refl
no_default Three h p e = refl

word_blank : (kind h : List ℕ) → IsWord h → blank kind h ≡ named kind (full.symbol h ∷ [])
word_blank kind h w = cond-false (length h == 0) _ _ (ne_eqb (length h) 0 (λ e. omega (arith, e, word_some h w))) ∙ cond-false (bytes_eq h (codes ".")) _ _ (no_stop_word h w)

pattern_by : (x : List ℕ) (k : Marks) (h : List ℕ) → MaybeWord x → Lacks 95 h → pattern_tree (x ++ (marks_text k ++ h)) ≡ defaulted (behind_mark k h) (bound x (blank (blank_name k) h))
pattern_by x k h m l = ap (λ r. pattern_tree (x ++ r)) (first_mark k h) ∙ pattern_split x (behind_mark k h) m ∙ ap (λ p. defaulted (behind_mark k h) (bound x p)) (blanks_back k h l)

pub pattern_plain : (x : List ℕ) (k : Marks) → MaybeWord x → pattern_tree (x ++ (marks_text k ++ [])) ≡ bound x (named (blank_name k) [])
pattern_plain x k m = pattern_by x k [] m (lacks_mark [] tt) ∙ no_default k [] (bound x (named (blank_name k) [])) refl

lacks_word : (h : List ℕ) → IsWord h → Lacks 95 h
lacks_word [] w = lacks_mark [] tt
lacks_word (c ∷ cs) w = lacks_mark (c ∷ cs) w

pub pattern_head : (x : List ℕ) (k : Marks) (h : List ℕ) → MaybeWord x → IsWord h → pattern_tree (x ++ (marks_text k ++ h)) ≡ bound x (named (blank_name k) (full.symbol h ∷ []))
pattern_head x k h m w = pattern_by x k h m (lacks_word h w) ∙ no_default k h (bound x (blank (blank_name k) h)) (no_stop_word h w) ∙ ap (bound x) (word_blank (blank_name k) h w)

pub pattern_default : (x : List ℕ) → MaybeWord x → pattern_tree (x ++ (marks_text One ++ codes ".")) ≡ named (codes "Optional") (bound x (named (codes "Blank") []) ∷ [])
unfolding blank_name
pattern_default x m = pattern_by x One (codes ".") m (λ rest e. absurd (cc))
