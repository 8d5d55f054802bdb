-- What the signs that an atom begins with say of it.
use Rattle.std.proofs.Common.{◌==◌, Bool, drop, ℕ, suc, ◌≡◌, ◌≢◌, true, false, nat_eq, List, [], ◌∷◌, length, refl, sym, ap, ◌∙◌, subst, arith}
use Rattle.std.specs.Prelude.{pos, neg_ℤ, codes, if◌then◌else◌}
use Rattle.std.specs.List.{starts_with, before_first, after_first}
use Rattle.std.specs.Str.{bytes_eq}
use Rattle.std.proofs.lemmas.Bool.{ne_eqb}
use Rattle.wl_syntax.specs.Atoms.{named, whole_number, index, slot_tree, output_tree, blank, blanks, bound, defaulted, pattern_tree}
use Rattle.wl_expr.specs.Tree as full
use Rattle.wl_expr.specs.Tree.{IsWithinLimits}
use Rattle.wl_syntax.proofs.Limits.{first_fits, second_fits}
use Rattle.wl_scan.specs.Forms.{head_of, is_mark, IsSlot, IsOut}
use Rattle.wl_scan.specs.Lengths.{slot_marks, percents_length}
use Rattle.wl_scan.specs.Literals.{literal_value, HasValue}

-- the text doesn't begin with the sign
abbrev pub Lacks : ℕ → List ℕ → Type 0
Lacks c s = (rest : List ℕ) → s ≢ c ∷ rest

starts_none : (c : ℕ) (s t : List ℕ) → Lacks c s → starts_with nat_eq s (c ∷ t) ≡ false
starts_none c [] t n = refl
starts_none c (b ∷ s) t n = rw (ne_eqb c b (λ e. n s (ap (λ x. x ∷ s) (sym e)))) refl

pub blanks_none : (s : List ℕ) → Lacks 95 s → blanks s ≡ blank (codes "Blank") s
blanks_none s n = rw (starts_none 95 s (95 ∷ []) n, starts_none 95 s [] n) refl

pub blanks_one : (s t : List ℕ) → s ≡ 95 ∷ t → Lacks 95 t → blanks s ≡ blank (codes "BlankSequence") t
blanks_one s t e n = rw (e, starts_none 95 t [] n) refl

pub blanks_two : (s t u : List ℕ) → s ≡ 95 ∷ t → t ≡ 95 ∷ u → blanks s ≡ blank (codes "BlankNullSequence") u
blanks_two s t u e f = rw (e, f) refl

pub slot_one : (s t : List ℕ) → s ≡ 35 ∷ t → Lacks 35 t → slot_tree s ≡ named (codes "Slot") (index t ∷ [])
slot_one s t e n = rw (e, starts_none 35 t [] n) refl

pub slot_two : (s t u : List ℕ) → s ≡ 35 ∷ t → t ≡ 35 ∷ u → slot_tree s ≡ named (codes "SlotSequence") (index u ∷ [])
slot_two s t u e f = rw (e, f) refl

pub output_alone : (s t : List ℕ) → s ≡ 37 ∷ t → length t ≡ 0 → output_tree s ≡ named (codes "Out") []
output_alone s t e n = rw (e, n) refl

two_or_more : (n : ℕ) → nat_eq (suc (suc n)) 1 ≡ false
two_or_more n = ne_eqb (suc (suc n)) 1 (λ e. omega arith)

output_two : (u : List ℕ) → output_tree (37 ∷ 37 ∷ u) ≡ named (codes "Out") (whole_number (neg_ℤ (pos (length (37 ∷ 37 ∷ u)))) ∷ [])
output_two u = rw (two_or_more (length u)) refl

pub output_back : (s t u : List ℕ) → s ≡ 37 ∷ t → t ≡ 37 ∷ u → output_tree s ≡ named (codes "Out") (whole_number (neg_ℤ (pos (length s))) ∷ [])
output_back s t u e f = subst (λ w. output_tree w ≡ named (codes "Out") (whole_number (neg_ℤ (pos (length w))) ∷ [])) (sym (e ∙ ap (λ x. 37 ∷ x) f)) (output_two u)

pub output_line : (s t : List ℕ) → s ≡ 37 ∷ t → length t ≢ 0 → Lacks 37 t → output_tree s ≡ named (codes "Out") (whole_number (pos (literal_value t)) ∷ [])
output_line s [] e n l = absurd (n refl)
output_line s (b ∷ u) e n l = rw (e, two_or_more (length u), starts_none 37 (b ∷ u) [] l) refl

pub pattern_optional : (s name rest : List ℕ) → name ≡ before_first is_mark s → rest ≡ after_first is_mark s → bytes_eq rest (codes ".") ≡ true → pattern_tree s ≡ named (codes "Optional") (bound name (blanks rest) ∷ [])
pattern_optional s name rest e f g = rw (← e, ← f, g) refl

-- what the forms of atoms say of their parts

pub slot_begins : (s : List ℕ) → IsSlot s → Lacks 35 s → ⊥
slot_begins [] h n = let m = h.marks in omega arith
slot_begins (b ∷ []) h n = let m = h.marks in let e : slot_marks (b ∷ []) ≡ 0 = rw (ne_eqb b 35 (λ e. n [] (ap (λ x. x ∷ []) e))) refl in omega arith
slot_begins (b ∷ c ∷ cs) h n = let m = h.marks in let e : slot_marks (b ∷ c ∷ cs) ≡ 0 = rw (ne_eqb b 35 (λ e. n (c ∷ cs) (ap (λ x. x ∷ c ∷ cs) e))) refl in omega arith

pub slot_digits : (s t : List ℕ) → s ≡ 35 ∷ t → Lacks 35 t → IsSlot s → HasValue t
slot_digits s [] e n h = (rw e at h.numeral).value
slot_digits s (c ∷ cs) e n h = (rw (e, ne_eqb c 35 (λ e. n cs (ap (λ x. x ∷ cs) e))) at h.numeral).value

pub slots_digits : (s t u : List ℕ) → s ≡ 35 ∷ t → t ≡ 35 ∷ u → IsSlot s → HasValue u
slots_digits s t u e f h = (rw (e, f) at h.numeral).value

pub output_begins : (s : List ℕ) → IsOut s → Lacks 37 s → ⊥
output_begins [] h n = let m = h.marks in omega arith
output_begins (b ∷ s) h n = let m = h.marks in let e : percents_length (b ∷ s) ≡ 0 = rw (ne_eqb b 37 (λ e. n s (ap (λ x. x ∷ s) e))) refl in omega arith

pub output_digits : (s t : List ℕ) → s ≡ 37 ∷ t → Lacks 37 t → IsOut s → HasValue t
output_digits s [] e n h = subst HasValue (ap (drop 1) e) (h.numeral (ap percents_length e)).value
output_digits s (c ∷ cs) e n h =
    let one : percents_length (37 ∷ c ∷ cs) ≡ 1 = rw (ne_eqb c 37 (λ e. n cs (ap (λ x. x ∷ cs) e))) refl in
    subst HasValue (ap (drop 1) e) (h.numeral (ap percents_length e ∙ one)).value

pub pattern_is : (s name rest : List ℕ) → name ≡ before_first is_mark s → rest ≡ after_first is_mark s → pattern_tree s ≡ defaulted rest (bound name (blanks rest))
pattern_is s name rest e f = rw (← e, ← f) refl

pub bound_fits : (rest : List ℕ) (p : full.Tree) → IsWithinLimits (defaulted rest p) → IsWithinLimits p
bound_fits rest p = go (bytes_eq rest (codes "."))
  where
    go : (b : Bool) → IsWithinLimits (if b then named (codes "Optional") (p ∷ []) else p) → IsWithinLimits p
    go true w = first_fits (full.symbol (codes "Optional")) p full.none w
    go false w = w

pub blanks_fit : (name : List ℕ) (p : full.Tree) → IsWithinLimits (bound name p) → IsWithinLimits p
blanks_fit name p = go (length name == 0)
  where
    go : (b : Bool) → IsWithinLimits (if b then p else named (codes "Pattern") (full.symbol name ∷ p ∷ [])) → IsWithinLimits p
    go true w = w
    go false w = second_fits (full.symbol (codes "Pattern")) (full.symbol name) p w

pub head_none : (s : List ℕ) → Lacks 95 s → head_of s ≡ s
head_none s n = rw (starts_none 95 s (95 ∷ []) n, starts_none 95 s [] n) refl

pub head_one : (s t : List ℕ) → s ≡ 95 ∷ t → Lacks 95 t → head_of s ≡ t
head_one s t e n = rw (e, starts_none 95 t [] n) refl
