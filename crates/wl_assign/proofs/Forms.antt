-- What a node is by its special form.
use Rattle.std.proofs.Common.{ℕ, ◌<◌, ◌≤◌, ◌≡◌, ◌≢◌, ◌⊎◌, inl, inr, Bool, true, false, List, [], ◌∷◌, map, length, get_or, refl, sym, ap, ◌∙◌, arith}
use Rattle.std.proofs.lemmas.List.{length-map}
use Rattle.std.specs.Prelude.{bytes_eq, codes, if◌then◌else◌}
use Rattle.wl_expr.specs.Special as special
use Rattle.wl_expr.specs.Special.{Special, special_node, special_named, choose, of_none_or_one, of_one, of_two, of_one_or_two, of_symbol}
use Rattle.wl_expr.specs.Stamped.{Stamped, plain, plains, from_list}
use Rattle.wl_expr.specs.Tree.{Tree, Trees, num, text, symbol, node}
use Rattle.wl_expr.specs.Words.{name_of}
use Rattle.wl_expr.proofs.Parts.{to_list_plains}
use Rattle.wl_assign.specs.declared.special.Special as code
use Rattle.wl_assign.specs.declared.special.Special.TheVariants as variants
use Rattle.wl_assign.specs.Kinds.{special_of}
use Rattle.wl_assign.specs.Core.{core, is_held, is_around, holds}
use Rattle.wl_assign.specs.Tags.{tag, node_tag, first_name}

pub core_of_form : (e : Tree) (h t : Stamped) (ts us : List Stamped) (k : Special) → ts ≡ t ∷ us → node (plain h) (plains (from_list ts)) ≡ e → k ≡ special_node (plain h) (map plain ts)
    → core e ≡ (if is_around k then core (plain t) else e)
core_of_form e h t ts us k s n f = rw (sym n) (rw s (rw (to_list_plains us) (rw (f ∙ ap (λ x. special_node (plain h) (map plain x)) s) refl)))

pub held_of_form : (e : Tree) (h t : Stamped) (ts us : List Stamped) (k : Special) → ts ≡ t ∷ us → node (plain h) (plains (from_list ts)) ≡ e → k ≡ special_node (plain h) (map plain ts)
    → is_held e ≡ holds k (is_held (plain t))
held_of_form e h t ts us k s n f = rw (sym n) (rw s (rw (to_list_plains us) (rw (f ∙ ap (λ x. special_node (plain h) (map plain x)) s) refl)))

pub tag_of_form : (e : Tree) (h : Stamped) (ts : List Stamped) (k : Special) → node (plain h) (plains (from_list ts)) ≡ e → k ≡ special_node (plain h) (map plain ts)
    → tag e ≡ node_tag k (plain h) (plains (from_list ts))
tag_of_form e h ts k n f = ap tag (sym n) ∙ ap (λ es. node_tag (special_node (plain h) es) (plain h) (plains (from_list ts))) (to_list_plains ts) ∙ ap (λ x. node_tag x (plain h) (plains (from_list ts))) (sym f)

pub hold_tag : (h : Tree) (ts : List Stamped) (d : Stamped) → 0 < length ts → node_tag special.hold_pattern h (plains (from_list ts)) ≡ tag (plain (get_or ts 0 d))
hold_tag h [] d l = absurd (omega (arith, l))
hold_tag h (t ∷ ts) d l = refl

pub condition_tag : (h : Tree) (ts : List Stamped) (d : Stamped) → 0 < length ts → node_tag special.condition h (plains (from_list ts)) ≡ tag (plain (get_or ts 0 d))
condition_tag h [] d l = absurd (omega (arith, l))
condition_tag h (t ∷ ts) d l = refl

pub test_tag : (h : Tree) (ts : List Stamped) (d : Stamped) → 0 < length ts → node_tag special.pattern_test h (plains (from_list ts)) ≡ tag (plain (get_or ts 0 d))
test_tag h [] d l = absurd (omega (arith, l))
test_tag h (t ∷ ts) d l = refl

pub named_tag : (h : Tree) (ts : List Stamped) (d : Stamped) → 1 < length ts → node_tag special.named h (plains (from_list ts)) ≡ tag (plain (get_or ts 1 d))
named_tag h [] d l = absurd (omega (arith, l))
named_tag h (s ∷ []) d l = absurd (omega (arith, l))
named_tag h (s ∷ t ∷ ts) d l = refl

-- forms with nothing around, and forms whose tag is their head
pub not_around : (k : code.Special) → k ≢ variants.Condition → k ≢ variants.HoldPattern → is_around (special_of k) ≡ false
not_around variants.Condition c h = absurd (c refl)
not_around variants.HoldPattern c h = absurd (h refl)
not_around _ c h = refl

pub not_held : (k : code.Special) (b : Bool) → k ≢ variants.Condition → k ≢ variants.HoldPattern → holds (special_of k) b ≡ false
not_held variants.Condition b c h = absurd (c refl)
not_held variants.HoldPattern b c h = absurd (h refl)
not_held _ b c h = refl

pub inside_tag : (k : code.Special) (h : Tree) (ts : List Stamped) (d : Stamped) → (k ≡ variants.HoldPattern) ⊎ ((k ≡ variants.Condition) ⊎ (k ≡ variants.PatternTest)) → 0 < length ts
    → node_tag (special_of k) h (plains (from_list ts)) ≡ tag (plain (get_or ts 0 d))
inside_tag k h ts d (inl e) l = rw e (hold_tag h ts d l)
inside_tag k h ts d (inr (inl e)) l = rw e (condition_tag h ts d l)
inside_tag k h ts d (inr (inr e)) l = rw e (test_tag h ts d l)

pub blank_tag : (k : code.Special) (h : Tree) (ts : Trees) → (k ≡ variants.Blank) ⊎ ((k ≡ variants.BlankSequence) ⊎ (k ≡ variants.BlankNullSequence)) → node_tag (special_of k) h ts ≡ first_name ts
blank_tag k h ts (inl e) = rw e refl
blank_tag k h ts (inr (inl e)) = rw e refl
blank_tag k h ts (inr (inr e)) = rw e refl

-- every other form
pub head_tag : (k : code.Special) (h : Tree) (ts : Trees) → k ≢ variants.Blank → k ≢ variants.BlankSequence → k ≢ variants.BlankNullSequence → k ≢ variants.Named → k ≢ variants.PatternTest
    → k ≢ variants.Condition → k ≢ variants.HoldPattern → node_tag (special_of k) h ts ≡ name_of h
head_tag variants.Blank h ts a b c d e f g = absurd (a refl)
head_tag variants.BlankSequence h ts a b c d e f g = absurd (b refl)
head_tag variants.BlankNullSequence h ts a b c d e f g = absurd (c refl)
head_tag variants.Named h ts a b c d e f g = absurd (d refl)
head_tag variants.PatternTest h ts a b c d e f g = absurd (e refl)
head_tag variants.Condition h ts a b c d e f g = absurd (f refl)
head_tag variants.HoldPattern h ts a b c d e f g = absurd (g refl)
head_tag _ h ts a b c d e f g = refl

-- how many elements a form has at least
abbrev needs : Special → ℕ
needs special.hold_pattern = 1
needs special.condition = 2
needs special.pattern_test = 2
needs special.named = 2
needs _ = 0

record HasEnough (k : Special) (ts : List Tree) : Type 0 where
  all : needs k ≤ length ts

needs_choose : (b : Bool) {k l : Special} {ts : List Tree} → HasEnough k ts → HasEnough l ts → HasEnough (choose b k l) ts
needs_choose true p q = p
needs_choose false p q = q

none_or_one_needs : (k : Special) (ts : List Tree) → needs k ≡ 0 → HasEnough (of_none_or_one k ts) ts
none_or_one_needs k [] e = record { all = rw e (omega arith) }
none_or_one_needs k (t ∷ []) e = record { all = rw e (omega arith) }
none_or_one_needs k (t ∷ u ∷ ts) e = record { all = omega arith }

one_needs : (k : Special) (ts : List Tree) → needs k ≤ 1 → HasEnough (of_one k ts) ts
one_needs k [] l = record { all = omega arith }
one_needs k (t ∷ []) l = record { all = l }
one_needs k (t ∷ u ∷ ts) l = record { all = omega arith }

two_needs : (k : Special) (ts : List Tree) → needs k ≤ 2 → HasEnough (of_two k ts) ts
two_needs k [] l = record { all = omega arith }
two_needs k (t ∷ []) l = record { all = omega arith }
two_needs k (t ∷ u ∷ []) l = record { all = l }
two_needs k (t ∷ u ∷ v ∷ ts) l = record { all = omega arith }

one_or_two_needs : (k : Special) (ts : List Tree) → needs k ≡ 0 → HasEnough (of_one_or_two k ts) ts
one_or_two_needs k [] e = record { all = omega arith }
one_or_two_needs k (t ∷ []) e = record { all = rw e (omega arith) }
one_or_two_needs k (t ∷ u ∷ []) e = record { all = rw e (omega arith) }
one_or_two_needs k (t ∷ u ∷ v ∷ ts) e = record { all = omega arith }

symbol_needs : (k : Special) (ts : List Tree) → needs k ≤ 2 → HasEnough (of_symbol k ts) ts
symbol_needs k [] l = record { all = omega arith }
symbol_needs k (symbol x ∷ []) l = record { all = omega arith }
symbol_needs k (num n ∷ ts) l = record { all = omega arith }
symbol_needs k (text s ∷ ts) l = record { all = omega arith }
symbol_needs k (node h us ∷ ts) l = record { all = omega arith }
symbol_needs k (symbol x ∷ u ∷ []) l = record { all = l }
symbol_needs k (symbol x ∷ u ∷ v ∷ ts) l = record { all = omega arith }

named_needs : (s : List ℕ) (ts : List Tree) → HasEnough (special_named s ts) ts
named_needs s ts =
    needs_choose (bytes_eq s (codes "Blank")) (none_or_one_needs special.blank ts refl) (
    needs_choose (bytes_eq s (codes "BlankSequence")) (none_or_one_needs special.blank_sequence ts refl) (
    needs_choose (bytes_eq s (codes "BlankNullSequence")) (none_or_one_needs special.blank_null_sequence ts refl) (
    needs_choose (bytes_eq s (codes "Pattern")) (symbol_needs special.named ts (omega arith)) (
    needs_choose (bytes_eq s (codes "PatternTest")) (two_needs special.pattern_test ts (omega arith)) (
    needs_choose (bytes_eq s (codes "Condition")) (two_needs special.condition ts (omega arith)) (
    needs_choose (bytes_eq s (codes "HoldPattern")) (one_needs special.hold_pattern ts (omega arith)) (
    needs_choose (bytes_eq s (codes "Optional")) (one_or_two_needs special.optional ts refl) (
    needs_choose (bytes_eq s (codes "Alternatives")) (record { all = omega arith }) (
    needs_choose (bytes_eq s (codes "Repeated")) (one_needs special.repeated ts (omega arith)) (
    needs_choose (bytes_eq s (codes "RepeatedNull")) (one_needs special.repeated_null ts (omega arith)) (
    needs_choose (bytes_eq s (codes "Verbatim")) (one_needs special.verbatim ts (omega arith)) (
    needs_choose (bytes_eq s (codes "Except")) (one_or_two_needs special.except ts refl) (record { all = omega arith })))))))))))))

node_needs : (h : Tree) (ts : List Tree) → HasEnough (special_node h ts) ts
node_needs (symbol s) ts = named_needs s ts
node_needs (num n) ts = record { all = omega arith }
node_needs (text s) ts = record { all = omega arith }
node_needs (node h us) ts = record { all = omega arith }

pub inside_some : (k : code.Special) (h : Tree) (ts : List Stamped) → special_of k ≡ special_node h (map plain ts)
    → (k ≡ variants.HoldPattern) ⊎ ((k ≡ variants.Condition) ⊎ (k ≡ variants.PatternTest)) → 0 < length ts
inside_some k h ts f (inl e) = let n = (node_needs h (map plain ts)).all in let m : needs (special_node h (map plain ts)) ≡ 1 = ap needs (sym f) ∙ ap (λ x. needs (special_of x)) e in let l = length-map ts plain in omega arith
inside_some k h ts f (inr (inl e)) = let n = (node_needs h (map plain ts)).all in let m : needs (special_node h (map plain ts)) ≡ 2 = ap needs (sym f) ∙ ap (λ x. needs (special_of x)) e in let l = length-map ts plain in omega arith
inside_some k h ts f (inr (inr e)) = let n = (node_needs h (map plain ts)).all in let m : needs (special_node h (map plain ts)) ≡ 2 = ap needs (sym f) ∙ ap (λ x. needs (special_of x)) e in let l = length-map ts plain in omega arith

pub named_two : (h : Tree) (ts : List Stamped) → special.named ≡ special_node h (map plain ts) → 1 < length ts
named_two h ts f = let n = (node_needs h (map plain ts)).all in let m : needs (special_node h (map plain ts)) ≡ 2 = ap needs (sym f) in let l = length-map ts plain in omega arith
