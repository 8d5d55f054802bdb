-- Splicing by what an element has inside, and where there is nothing to splice.
use Rattle.std.proofs.Common.{◌≡◌, ℕ, ◌<◌, ◌+◌, Bool, true, false, ◌||◌, List, [], ◌∷◌, ◌++◌, length, get_or, drop, append_assoc, refl, sym, ap, ◌∙◌}
use Rattle.std.specs.Prelude.{Option, Some, None, codes}
use Rattle.std.specs.List.{list_any}
use Rattle.wl_expr.specs.Same.{same}
use Rattle.wl_expr.specs.Tree.{Tree, Trees, num, text, symbol, node, none, more, to_list}
use Rattle.wl_expr.specs.Words.{Name, is_form}
use Rattle.wl_expr.specs.Stamped.{Stamped, plain}
use Rattle.wl_shape.specs.Answers.{trees}
use Rattle.wl_shape.proofs.Splits.{next_of}
use Rattle.wl_shape.specs.Elements.{has_head, inner}
use Rattle.wl_rules.specs.Attributes.{AttributeSet}
use Rattle.wl_shape.specs.Shape.{spliced, spliced_all, spliced_list, flattened, without_sequences}

-- elements as a list
pub spliced_all-to_list : (h : Tree) (ts : Trees) → spliced_all h ts ≡ spliced_list h (to_list ts)
spliced_all-to_list h none = refl
spliced_all-to_list h (more t ts) = ap (λ us. spliced h t ++ us) (spliced_all-to_list h ts)

pub spliced_inside : (h t : Tree) (ts : List Tree) → Some ts ≡ inner h t → spliced h t ≡ spliced_list h ts
spliced_inside h (num n) ts p = cc
spliced_inside h (text s) ts p = cc
spliced_inside h (symbol x) ts p = cc
spliced_inside h (node k us) ts p = go (same h k) p
  where
    go : (b : Bool) → Some ts ≡ elim b [ true ↦ Some (to_list us) | false ↦ None ] → elim b [ true ↦ spliced_all h us | false ↦ node k us ∷ [] ] ≡ spliced_list h ts
    go true q = let e : to_list us ≡ ts = cc in spliced_all-to_list h us ∙ ap (spliced_list h) e
    go false q = cc

pub spliced_alone : (h t : Tree) → None ≡ inner h t → spliced h t ≡ t ∷ []
spliced_alone h (num n) p = refl
spliced_alone h (text s) p = refl
spliced_alone h (symbol x) p = refl
spliced_alone h (node k us) p = go (same h k) p
  where
    go : (b : Bool) → ◌≡◌ {A = Option (List Tree)} None (elim b [ true ↦ Some (to_list us) | false ↦ None ]) → elim b [ true ↦ spliced_all h us | false ↦ node k us ∷ [] ] ≡ node k us ∷ []
    go true q = cc
    go false q = refl

without_head : (h t : Tree) → has_head h t ≡ false → spliced h t ≡ t ∷ []
without_head h (num n) p = refl
without_head h (text s) p = refl
without_head h (symbol x) p = refl
without_head h (node k us) p = ap (λ b. elim b [ true ↦ spliced_all h us | false ↦ node k us ∷ [] ]) p

or_left : (a b : Bool) → (a || b) ≡ false → a ≡ false
or_left true b p = cc
or_left false b p = refl

or_right : (a b : Bool) → (a || b) ≡ false → b ≡ false
or_right true b p = cc
or_right false b p = p

-- where no element has this head, all stay
pub spliced_list-none : (h : Tree) (ts : List Tree) → list_any (has_head h) ts ≡ false → spliced_list h ts ≡ ts
spliced_list-none h [] p = refl
spliced_list-none h (t ∷ ts) p =
    ap (λ us. us ++ spliced_list h ts) (without_head h t (or_left (has_head h t) (list_any (has_head h) ts) p))
    ∙ ap (λ us. t ∷ us) (spliced_list-none h ts (or_right (has_head h t) (list_any (has_head h) ts) p))

-- a form of a name has the symbol of this name as head
is_form-has_head : (x : Name) (t : Tree) → is_form x t ≡ has_head (symbol x) t
is_form-has_head x (num n) = refl
is_form-has_head x (text s) = refl
is_form-has_head x (symbol y) = refl
is_form-has_head x (node (num n) ts) = refl
is_form-has_head x (node (text s) ts) = refl
is_form-has_head x (node (symbol y) ts) = refl
is_form-has_head x (node (node k us) ts) = refl

pub any_form-any_has_head : (x : Name) (ts : List Tree) → list_any (is_form x) ts ≡ list_any (has_head (symbol x)) ts
any_form-any_has_head x [] = refl
any_form-any_has_head x (t ∷ ts) = let p = is_form-has_head x t in let q = any_form-any_has_head x ts in cc

pub no_form_stays : (x : Name) (ts : List Tree) → list_any (is_form x) ts ≡ false → spliced_list (symbol x) ts ≡ ts
no_form_stays x ts p = spliced_list-none (symbol x) ts (sym (any_form-any_has_head x ts) ∙ p)

-- ---- in terms of the attributes

pub not_flat : (a : AttributeSet) (h : Tree) (es : List Tree) → a.flat ≡ false → flattened a h es ≡ es
not_flat a h es p = ap (λ b. elim b [ true ↦ spliced_list h es | false ↦ es ]) p

pub nothing_flat : (a : AttributeSet) (h : Tree) (es : List Tree) → list_any (has_head h) es ≡ false → flattened a h es ≡ es
nothing_flat a h es p = go a.flat
  where
    go : (b : Bool) → elim b [ true ↦ spliced_list h es | false ↦ es ] ≡ es
    go true = spliced_list-none h es p
    go false = refl

pub kept_sequences : (a : AttributeSet) (es : List Tree) → (a.sequence_hold || a.hold_all_complete) ≡ true → without_sequences a es ≡ es
kept_sequences a es p = ap (λ b. elim b [ true ↦ es | false ↦ spliced_list (symbol (codes "Sequence")) es ]) p

pub no_sequences : (a : AttributeSet) (es : List Tree) → list_any (is_form (codes "Sequence")) es ≡ false → without_sequences a es ≡ es
no_sequences a es p = go (a.sequence_hold || a.hold_all_complete)
  where
    go : (b : Bool) → elim b [ true ↦ es | false ↦ spliced_list (symbol (codes "Sequence")) es ] ≡ es
    go true = refl
    go false = no_form_stays (codes "Sequence") es p

-- ---- in a loop

-- a step: what was added for one element, before what is added for those behind it
pub next_spliced : (h : Tree) (es : List Stamped) (i : ℕ) (e : Stamped) (start before after : List Tree) → i < length es → e ≡ get_or es i e → start ≡ before ++ spliced_list h (trees (drop i es)) → after ≡ before ++ spliced h (plain e) → start ≡ after ++ spliced_list h (trees (drop (i + 1) es))
next_spliced h es i e start before after l p v a =
    v ∙ ap (λ (us : List Stamped). before ++ spliced_list h (trees us)) (next_of es i e l p) ∙ sym (append_assoc before (spliced h (plain e)) (spliced_list h (trees (drop (i + 1) es))))
    ∙ ap (λ us. us ++ spliced_list h (trees (drop (i + 1) es))) (sym a)
