-- The parts of a pattern: a name or nothing, the marks, and what follows them.
use Rattle.std.proofs.Common.{inl, inr, ◌≡◌, ◌≢◌, ◌==◌, ℕ, zero, suc, ◌+◌, ◌-◌, ◌≤◌, ◌<◌, true, false, ◌&&◌, ltb, List, [], ◌∷◌, ◌++◌, length, take, drop, replicate, codes, nat_eq, get_or, ap, sym, subst, refl, ◌∙◌, arith}
use Rattle.std.specs.List.{starts_with, position_or_len, before_first, after_first, prefix_len}
use Rattle.std.specs.Str.{IsUtf8}
use Rattle.std.proofs.Math.Seq.{take-append_seam, take-append-add, drop-append-add, take-add, get_or-append_seam}
use Rattle.std.proofs.lemmas.List.{length-append, length-take, length-replicate, get_or_append_left}
use Rattle.std.proofs.lemmas.List.Sums.{position_or_len_is, prefix_len-le-length}
use Rattle.std.proofs.lemmas.Bool.{cases_Bool, cond_both, cond-true, cond-false, and_parts, eqb-true, eqb-false, ne_eqb, ltb-true, true≢false, false≢true}
use Rattle.wl_scan.specs.Lengths.{name_length, marks_length, is_lone_dot, tail_length, blanks_length, pattern_length}
use Rattle.wl_scan.specs.Forms.{IsWord, is_mark, head_of, IsPattern}
use Rattle.wl_scan.proofs.Boundaries.{past_prefix, marks_within}
use Rattle.wl_scan.proofs.Steps.{name_reaches}
use Rattle.wl_scan.proofs.Words.{IsUnmarked, word_taken, word_unmarked}

-- what follows the marks: a word, a `.` or nothing, and no mark
record IsTail (text : List ℕ) : Type 0 where
  head : 0 < length text → text ≢ codes "." → IsWord text
  unmarked : (rest : List ℕ) → text ≢ 95 ∷ rest

dot_taken : (text : List ℕ) → is_lone_dot text ≡ true → take 1 text ≡ codes "."
dot_taken [] dot = absurd (false≢true dot)
dot_taken (b ∷ []) dot = ap (λ (c : ℕ). c ∷ []) (eqb-true b 46 dot)
dot_taken (b ∷ c ∷ cs) dot = ap (λ (d : ℕ). d ∷ []) (eqb-true b 46 (and_parts (b == 46) _ dot).0)

unmarked_first : (text rest : List ℕ) → IsUnmarked text → text ≢ 95 ∷ rest
unmarked_first text rest unmarked is = absurd (true≢false (subst (λ (l : List ℕ). is_mark (get_or l 0 0) ≡ false) is (unmarked 0 (omega (arith, ap length is)))))

tail_taken : (n : ℕ) (text : List ℕ) → IsUtf8 text → IsTail (take (tail_length n text) text)
tail_taken n text utf8 =
    let P : ℕ → Type 0 = λ k. IsTail (take k text) in
    cond_both (ltb 0 (name_length text)) (name_length text) _ P
    (λ some. record {
      head = λ _ _. word_taken text utf8 (ltb-true 0 (name_length text) some);
      unmarked = λ rest is. unmarked_first (take (name_length text) text) rest (word_unmarked text utf8) is;
    })
    (λ _. cond_both ((n == 1) && is_lone_dot text) 1 0 P
    (λ dot.
    let is = dot_taken text (and_parts (n == 1) (is_lone_dot text) dot).1 in
    subst IsTail (sym is) (record { head = λ _ other. absurd (other refl); unmarked = λ rest e. omega (arith, ap (λ (l : List ℕ). get_or l 0 0) e) }))
    (λ _. record { head = λ some _. absurd (omega (arith, some)); unmarked = λ rest e. omega (arith, ap length e) }))

-- the head behind further marks

no_mark_first : (s t : List ℕ) → ((rest : List ℕ) → s ≢ 95 ∷ rest) → starts_with nat_eq s (95 ∷ t) ≡ false
no_mark_first [] t none = refl
no_mark_first (b ∷ s) t none = rw (ne_eqb 95 b (λ e. none s (ap (λ (c : ℕ). c ∷ s) (sym e)))) refl

head_alone : (tail : List ℕ) → ((rest : List ℕ) → tail ≢ 95 ∷ rest) → head_of tail ≡ tail
head_alone tail none = rw (no_mark_first tail (95 ∷ []) none, no_mark_first tail [] none) refl

head_second : (tail : List ℕ) → ((rest : List ℕ) → tail ≢ 95 ∷ rest) → head_of (95 ∷ tail) ≡ tail
head_second tail none = rw (no_mark_first tail [] none) refl

head_third : (tail : List ℕ) → head_of (95 ∷ 95 ∷ tail) ≡ tail
head_third tail = refl

-- a pattern by its parts

mark_place : (word rest : List ℕ) → IsUnmarked word → position_or_len is_mark (word ++ 95 ∷ rest) ≡ length word
mark_place word rest unmarked =
    let text = word ++ 95 ∷ rest in
    position_or_len_is is_mark text (length word) 0 (omega (arith, length-append word (95 ∷ rest)))
    (λ k within. ap is_mark (get_or_append_left word (95 ∷ rest) 0 k within) ∙ unmarked k within)
    (λ _. ap is_mark (get_or-append_seam word 95 rest 0))

made : (word rest tail : List ℕ) → (0 < length word → IsWord word) → IsUnmarked word → head_of rest ≡ tail → IsTail tail → IsPattern (word ++ 95 ∷ rest)
made word rest tail name unmarked head is_tail =
    let text = word ++ 95 ∷ rest in
    let place = mark_place word rest unmarked in
    let before : before_first is_mark text ≡ word = ap (λ (n : ℕ). take n text) place ∙ take-append_seam word (95 ∷ rest) in
    let after : after_first is_mark text ≡ rest = ap (λ (n : ℕ). drop (n + 1) text) place ∙ drop-append-add word (95 ∷ rest) 1 in
    let behind : head_of (after_first is_mark text) ≡ tail = ap head_of after ∙ head in
    record {
      mark = omega (arith, place, length-append word (95 ∷ rest));
      name = subst (λ (l : List ℕ). 0 < length l → IsWord l) (sym before) name;
      head = subst (λ (l : List ℕ). 0 < length l → l ≢ codes "." → IsWord l) (sym behind) is_tail.head;
    }

-- one to three marks

marks_first : (m : ℕ) (text : List ℕ) → m ≤ prefix_len is_mark text → text ≡ replicate {A = ℕ} m 95 ++ drop m text
marks_first zero text within = refl
marks_first (suc m) [] within = absurd (omega (arith, within))
marks_first (suc m) (b ∷ bs) within =
    elim (cases_Bool (is_mark b)) [
      | inl mark ↦
          let rest = marks_first m bs (omega (arith, within, cond-true (is_mark b) (1 + prefix_len is_mark bs) 0 mark)) in
          ap (λ (c : ℕ). c ∷ bs) (eqb-true b 95 mark) ∙ ap (λ (l : List ℕ). 95 ∷ l) rest
      | inr other ↦ absurd (omega (arith, within, cond-false (is_mark b) (1 + prefix_len is_mark bs) 0 other))
    ]

some_mark : (m : ℕ) → 0 < m → replicate {A = ℕ} m 95 ≡ 95 ∷ replicate {A = ℕ} (m - 1) 95
some_mark zero some = absurd (omega (arith, some))
some_mark (suc m) some = let before : m ≡ suc m - 1 = omega arith in ap (λ (k : ℕ). 95 ∷ replicate {A = ℕ} k 95) before

head_behind : (m : ℕ) (tail : List ℕ) → 0 < m → m ≤ 3 → ((rest : List ℕ) → tail ≢ 95 ∷ rest) → head_of (replicate {A = ℕ} (m - 1) 95 ++ tail) ≡ tail
head_behind zero tail some few none = absurd (omega (arith, some))
head_behind (suc zero) tail some few none = head_alone tail none
head_behind (suc (suc zero)) tail some few none = head_second tail none
head_behind (suc (suc (suc zero))) tail some few none = head_third tail
head_behind (suc (suc (suc (suc m)))) tail some few none = absurd (omega (arith, few))

is_mark-ascii : (b : ℕ) → is_mark b ≡ true → b < 128
is_mark-ascii b mark = omega (arith, eqb-true b 95 mark)

marks_taken : (m t : ℕ) (text : List ℕ) → 0 < m → m ≤ prefix_len is_mark text → take (m + t) text ≡ 95 ∷ (replicate {A = ℕ} (m - 1) 95 ++ take t (drop m text))
marks_taken m t text some within =
    let rest = drop m text in
    ap (take (m + t)) (marks_first m text within) ∙ ap (λ (k : ℕ). take (k + t) (replicate {A = ℕ} m 95 ++ rest)) (sym (length-replicate m 95))
    ∙ take-append-add (replicate {A = ℕ} m 95) rest t ∙ ap (λ (l : List ℕ). l ++ take t rest) (some_mark m some)

-- the pattern that a text begins with
pattern_parts : (text : List ℕ) (m t : ℕ) → IsUtf8 text → 0 < m → m ≡ marks_length (drop (name_length text) text) → t ≡ tail_length m (drop m (drop (name_length text) text))
    → IsPattern (take (name_length text + (m + t)) text)
pattern_parts text m t utf8 some marks tail =
    let k = name_length text in
    let word = take k text in
    let rest = drop k text in
    let few : m ≤ 3 = omega (arith, marks, prefix_len-le-length is_mark (take 3 rest), length-take 3 rest) in
    let within : m ≤ prefix_len is_mark rest = omega (arith, marks, marks_within rest) in
    let behind = past_prefix is_mark is_mark-ascii m rest (name_reaches text utf8).utf8 within in
    let is_tail : IsTail (take t (drop m rest)) = subst (λ (n : ℕ). IsTail (take n (drop m rest))) (sym tail) (tail_taken m (drop m rest) behind) in
    let whole : take (k + (m + t)) text ≡ word ++ 95 ∷ (replicate {A = ℕ} (m - 1) 95 ++ take t (drop m rest)) =
    take-add k (m + t) text ∙ ap (λ (l : List ℕ). word ++ l) (marks_taken m t rest some within) in
    subst IsPattern (sym whole)
    (made word (replicate {A = ℕ} (m - 1) 95 ++ take t (drop m rest)) (take t (drop m rest)) (λ any. word_taken text utf8 (omega (arith, any, length-take k text))) (word_unmarked text utf8)
    (head_behind m (take t (drop m rest)) some few is_tail.unmarked) is_tail)

pub pattern_taken : (text : List ℕ) (n : ℕ) → IsUtf8 text → 0 < n → n ≡ pattern_length text → IsPattern (take n text)
pattern_taken text n utf8 some is =
    let k = name_length text in
    let rest = drop k text in
    let b = blanks_length rest in
    let m = marks_length rest in
    let t = tail_length m (drop m rest) in
    elim (cases_Bool (b == 0)) [
      | inl none ↦ absurd (omega (arith, some, is, cond-true (b == 0) 0 (k + b) none))
      | inr any ↦
          elim (cases_Bool (m == 0)) [
            | inl none ↦ absurd (eqb-false b 0 any (cond-true (m == 0) 0 (m + t) none))
            | inr marks ↦
                let not_none : m ≡ 0 → ⊥ = eqb-false m 0 marks in
                let whole : n ≡ k + (m + t) = is ∙ cond-false (b == 0) 0 (k + b) any ∙ ap (λ (x : ℕ). k + x) (cond-false (m == 0) 0 (m + t) marks) in
                subst (λ (x : ℕ). IsPattern (take x text)) (sym whole) (pattern_parts text m t utf8 (omega (arith, not_none)) refl refl)
          ]
    ]
