-- Names among names.
use Rattle.std.proofs.Common.{◌≡◌, ℕ, Bool, true, false, ◌||◌, ◌&&◌, not, List, [], ◌∷◌, ◌++◌, map, refl, sym, ap, ◌∙◌, subst, ◌⊎◌, inl, inr}
use Rattle.std.proofs.lemmas.Slice.Eq.{bytes_eq-Decides}
use Rattle.std.specs.Prelude.{bytes_eq}
use Rattle.wl_expr.specs.Same.{is_name_among}
use Rattle.wl_expr.specs.Words.{Name}
use Rattle.wl_shape.specs.Fill.{except_names}

pub or_left : (a b : Bool) → a ≡ true → (a || b) ≡ true
or_left true b h = refl
or_left false b h = cc

pub or_right : (a b : Bool) → b ≡ true → (a || b) ≡ true
or_right true b h = refl
or_right false b h = h

pub or_either : (a b : Bool) → (a || b) ≡ true → (a ≡ true) ⊎ (b ≡ true)
or_either true b h = inl refl
or_either false b h = inr h

pub or_false : (a : Bool) → (a || false) ≡ a
or_false true = refl
or_false false = refl

pub or_assoc : (a b c : Bool) → ((a || b) || c) ≡ (a || (b || c))
or_assoc true b c = refl
or_assoc false b c = refl

pub and_both : (a b : Bool) → (a && b) ≡ true → (a ≡ true) × (b ≡ true)
and_both true b h = (refl, h)
and_both false b h = cc

pub itself : (x : Name) → bytes_eq x x ≡ true
itself x = (bytes_eq-Decides x x).1 refl

pub one_name : (x y : Name) → bytes_eq x y ≡ true → x ≡ y
one_name x y h = (bytes_eq-Decides x y).0 h

pub among-append : (x : Name) (xs ys : List Name) → is_name_among x (xs ++ ys) ≡ (is_name_among x xs || is_name_among x ys)
among-append x [] ys = refl
among-append x (z ∷ xs) ys = ap (λ b. bytes_eq x z || b) (among-append x xs ys) ∙ sym (or_assoc (bytes_eq x z) (is_name_among x xs) (is_name_among x ys))

pub among_left : (x : Name) (xs ys : List Name) → is_name_among x xs ≡ true → is_name_among x (xs ++ ys) ≡ true
among_left x xs ys h = among-append x xs ys ∙ or_left (is_name_among x xs) (is_name_among x ys) h

pub among_right : (x : Name) (xs ys : List Name) → is_name_among x ys ≡ true → is_name_among x (xs ++ ys) ≡ true
among_right x xs ys h = among-append x xs ys ∙ or_right (is_name_among x xs) (is_name_among x ys) h

pub among_either : (x : Name) (xs ys : List Name) → is_name_among x (xs ++ ys) ≡ true → (is_name_among x xs ≡ true) ⊎ (is_name_among x ys ≡ true)
among_either x xs ys h = or_either (is_name_among x xs) (is_name_among x ys) (sym (among-append x xs ys) ∙ h)

pub among_one : (x y : Name) → is_name_among x (y ∷ []) ≡ true → x ≡ y
among_one x y h = one_name x y (sym (or_false (bytes_eq x y)) ∙ h)

pub among_itself : (x : Name) (xs : List Name) → is_name_among x (x ∷ xs) ≡ true
among_itself x xs = or_left (bytes_eq x x) (is_name_among x xs) (itself x)

and_false : (b : Bool) → (b && false) ≡ false
and_false true = refl
and_false false = refl

-- the names that stand among some, and not among others
except_more : (x y : Name) (xs ys : List Name) (a b : Bool) → is_name_among y xs ≡ a → bytes_eq x y ≡ b → is_name_among x (except_names xs ys) ≡ (is_name_among x ys && not (is_name_among x xs)) →
    is_name_among x (elim a [ true ↦ except_names xs ys | false ↦ y ∷ except_names xs ys ]) ≡ ((bytes_eq x y || is_name_among x ys) && not (is_name_among x xs))
except_more x y xs ys true true p q r =
    let e : not (is_name_among x xs) ≡ false = ap not (ap (λ z. is_name_among z xs) (one_name x y q) ∙ p) in
    r ∙ ap (λ c. is_name_among x ys && c) e ∙ and_false (is_name_among x ys) ∙ sym (and_false (bytes_eq x y || is_name_among x ys)) ∙ ap (λ c. (bytes_eq x y || is_name_among x ys) && c) (sym e)
except_more x y xs ys true false p q r = r ∙ ap (λ c. (c || is_name_among x ys) && not (is_name_among x xs)) (sym q)
except_more x y xs ys false true p q r =
    let e : not (is_name_among x xs) ≡ true = ap not (ap (λ z. is_name_among z xs) (one_name x y q) ∙ p) in
    ap (λ c. c || is_name_among x (except_names xs ys)) q ∙ sym (ap (λ c. (bytes_eq x y || is_name_among x ys) && c) e ∙ ap (λ c. (c || is_name_among x ys) && true) q)
except_more x y xs ys false false p q r = ap (λ c. c || is_name_among x (except_names xs ys)) q ∙ r ∙ ap (λ c. (c || is_name_among x ys) && not (is_name_among x xs)) (sym q)

pub among-except : (x : Name) (xs ys : List Name) → is_name_among x (except_names xs ys) ≡ (is_name_among x ys && not (is_name_among x xs))
among-except x xs [] = refl
among-except x xs (y ∷ ys) = except_more x y xs ys (is_name_among y xs) (bytes_eq x y) refl refl (among-except x xs ys)
