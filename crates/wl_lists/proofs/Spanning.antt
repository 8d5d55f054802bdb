-- The values of an iterator, one after the other.
use Rattle.std.proofs.Common.{◌≡◌, ◌<◌, ◌-◌, ℕ, zero, suc, List, [], ◌∷◌, ◌++◌, ◌+◌, Option, Some, None, refl, ap, ◌∙◌, sym, append_assoc, arith}
use Rattle.std.proofs.lemmas.List.{append-nil, map-append}
use Rattle.wl_exact.specs.Fraction.{Fraction}
use Rattle.wl_exact.specs.Span.{Span, Following, next, ended, overflowed, first, following}
use Rattle.wl_expr.specs.Stamped.{Stamped, plain}
use Rattle.wl_expr.specs.Tree.{Tree, num}
use Rattle.wl_expr.specs.Spans.{span_of}
use Rattle.wl_lists.specs.Answers as answers
use Rattle.wl_lists.specs.Answers.{trees}
use Rattle.wl_lists.specs.Ranges.{range_over, range_row, ranged, too_many, values, with_value}
use Rattle.wl_lists.specs.RangesInside.{put_before}

put_value : (ts : List Tree) (v : Fraction) (o : Option (List Tree)) → put_before ts (with_value v o) ≡ put_before (ts ++ num v ∷ []) o
put_value ts v None = refl
put_value ts v (Some us) = ap Some (sym (append_assoc ts (num v ∷ []) us))

one_value : (n : ℕ) (s : Span) (v : Fraction) → 0 < n → values n s (next v) ≡ with_value v (values (n - 1) s (following s v))
one_value zero s v l = absurd (omega arith)
one_value (suc n) s v l = let e : n ≡ suc n - 1 = omega arith in ap (λ m. with_value v (values m s (following s v))) e

next_value : (before after : List Stamped) (n : ℕ) (s : Span) (v : Fraction) (e : Stamped) → 0 < n → after ≡ before ++ e ∷ [] → plain e ≡ num v
    → put_before (trees before) (values n s (next v)) ≡ put_before (trees after) (values (n - 1) s (following s v))
next_value before after n s v e l a m =
    ap (put_before (trees before)) (one_value n s v l) ∙ put_value (trees before) v (values (n - 1) s (following s v))
    ∙ ap (λ (ts : List Tree). put_before ts (values (n - 1) s (following s v))) (ap (λ t. trees before ++ t ∷ []) (sym m) ∙ sym (ap trees a ∙ map-append plain before (e ∷ [])))

pub value_made : (before after : List Stamped) (most made : ℕ) (s : Span) (v : Fraction) (f g : Following) (e : Stamped) (o : Option (List Tree)) → made < most → after ≡ before ++ e ∷ [] → plain e ≡ num v
    → f ≡ next v → g ≡ following s v → put_before (trees before) (values (most - made) s f) ≡ o → put_before (trees after) (values (most - (made + 1)) s g) ≡ o
value_made before after most made s v f g e o l a m w h p =
    let k : most - (made + 1) ≡ most - made - 1 = omega arith in
    ap (put_before (trees after)) (ap (λ n. values n s g) k ∙ ap (values (most - made - 1) s) h) ∙ sym (next_value before after (most - made) s v e (omega (arith, l)) a m)
    ∙ ap (λ x. put_before (trees before) (values (most - made) s x)) (sym w) ∙ p

pub put_nothing : (o : Option (List Tree)) → put_before [] o ≡ o
put_nothing None = refl
put_nothing (Some us) = refl

ended_values : (n : ℕ) (s : Span) → values n s ended ≡ Some []
ended_values zero s = refl
ended_values (suc n) s = refl

pub ended_whole : (ts : List Tree) (n : ℕ) (s : Span) (f : Following) (o : Option (List Tree)) → f ≡ ended → put_before ts (values n s f) ≡ o → Some ts ≡ o
ended_whole ts n s f o e p =
    ap Some (sym (append-nil ts)) ∙ ap (put_before ts) (sym (ended_values n s)) ∙ ap (λ g. put_before ts (values n s g)) (sym e) ∙ p

pub all_made : (ts : List Tree) (n : ℕ) (s : Span) (f : Following) (o : Option (List Tree)) → n ≡ 0 → put_before ts (values n s f) ≡ o → Some ts ≡ o
all_made ts n s f o e p = ap Some (sym (append-nil ts)) ∙ ap (λ m. put_before ts (values m s f)) (sym e) ∙ p

pub overflowed_values : (n : ℕ) (s : Span) → 0 < n → values n s overflowed ≡ None
overflowed_values zero s l = absurd (omega arith)
overflowed_values (suc n) s l = refl

pub overflow_ranged : (es : List Tree) (s : Span) → span_of es ≡ Some s → values too_many s (first s) ≡ None → range_row es ≡ answers.overflowed
overflow_ranged es s p q = ap range_over p ∙ ap ranged q
