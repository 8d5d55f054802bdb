-- The first of each name.
use Rattle.std.proofs.Common.{◌≡◌, Bool, true, false, ◌||◌, List, [], ◌∷◌, ◌++◌, length, refl, sym, ap, ◌∙◌, subst}
use Rattle.std.proofs.lemmas.List.{append_assoc, append-nil}
use Rattle.std.proofs.lemmas.Slice.Eq.{bytes_eq-Decides}
use Rattle.std.specs.Prelude.{bytes_eq, Some, slice_get}
use Rattle.wl_expr.specs.Same.{is_name_among, first_names}
use Rattle.wl_expr.specs.Words.{Name}

pub first_names-append : (met xs ys : List Name) → first_names met (xs ++ ys) ≡ first_names (first_names met xs) ys
first_names-append met [] ys = refl
first_names-append met (x ∷ xs) ys = go (is_name_among x met) (first_names-append met xs ys) (first_names-append (met ++ x ∷ []) xs ys)
  where
    go : (b : Bool) → first_names met (xs ++ ys) ≡ first_names (first_names met xs) ys → first_names (met ++ x ∷ []) (xs ++ ys) ≡ first_names (first_names (met ++ x ∷ []) xs) ys
        → elim b [ true ↦ first_names met (xs ++ ys) | false ↦ first_names (met ++ x ∷ []) (xs ++ ys) ]
        ≡ first_names (elim b [ true ↦ first_names met xs | false ↦ first_names (met ++ x ∷ []) xs ]) ys
    go true e f = e
    go false e f = f

-- what is met already stays in front
pub met_first : (met xs : List Name) → (ys : List Name) × (first_names met xs ≡ met ++ ys)
met_first met [] = ([], sym (append-nil met))
met_first met (x ∷ xs) = go (is_name_among x met) (met_first met xs) (met_first (met ++ x ∷ []) xs)
  where
    go : (b : Bool) → (ys : List Name) × (first_names met xs ≡ met ++ ys) → (ys : List Name) × (first_names (met ++ x ∷ []) xs ≡ (met ++ x ∷ []) ++ ys) → (ys : List Name) × (elim b [ true ↦ first_names met xs | false ↦ first_names (met ++ x ∷ []) xs ] ≡ met ++ ys)
    go true m n = m
    go false m n = (x ∷ n.0, n.1 ∙ append_assoc met (x ∷ []) n.0)

pub get_behind : (met ys : List Name) (x : Name) → slice_get (met ++ x ∷ ys) (length met) ≡ Some x
get_behind [] ys x = refl
get_behind (m ∷ met) ys x = get_behind met ys x

-- a name is among the first of each where it is among all
pub is_name_among-append : (x : Name) (xs ys : List Name) → is_name_among x (xs ++ ys) ≡ (is_name_among x xs || is_name_among x ys)
is_name_among-append x [] ys = refl
is_name_among-append x (y ∷ xs) ys = go (bytes_eq x y) (is_name_among-append x xs ys)
  where
    go : (b : Bool) → is_name_among x (xs ++ ys) ≡ (is_name_among x xs || is_name_among x ys) → (b || is_name_among x (xs ++ ys)) ≡ ((b || is_name_among x xs) || is_name_among x ys)
    go true e = refl
    go false e = e

pub is_name_among-first_names : (x : Name) (met xs : List Name) → is_name_among x (first_names met xs) ≡ (is_name_among x met || is_name_among x xs)
is_name_among-first_names x met [] = or_false (is_name_among x met)
  where
    or_false : (b : Bool) → b ≡ (b || false)
    or_false true = refl
    or_false false = refl
is_name_among-first_names x met (y ∷ xs) = go (is_name_among y met) refl (is_name_among-first_names x met xs) (is_name_among-first_names x (met ++ y ∷ []) xs)
  where
    absorbed : (b : Bool) → bytes_eq x y ≡ b → is_name_among y met ≡ true → (is_name_among x met || is_name_among x xs) ≡ (is_name_among x met || (b || is_name_among x xs))
    absorbed true e m = subst (λ n. (is_name_among n met || is_name_among x xs) ≡ (is_name_among n met || true)) (sym ((bytes_eq-Decides x y).0 e)) (rw m refl)
    absorbed false e m = refl

    moved : (a b c : Bool) → ((a || (b || false)) || c) ≡ (a || (b || c))
    moved true b c = refl
    moved false true c = refl
    moved false false c = refl

    go : (b : Bool) → is_name_among y met ≡ b → is_name_among x (first_names met xs) ≡ (is_name_among x met || is_name_among x xs)
        → is_name_among x (first_names (met ++ y ∷ []) xs) ≡ (is_name_among x (met ++ y ∷ []) || is_name_among x xs)
        → is_name_among x (elim b [ true ↦ first_names met xs | false ↦ first_names (met ++ y ∷ []) xs ]) ≡ (is_name_among x met || (bytes_eq x y || is_name_among x xs))
    go true m e f = e ∙ absorbed (bytes_eq x y) refl m
    go false m e f =
        f ∙ ap (λ b. b || is_name_among x xs) (is_name_among-append x met (y ∷ []))
        ∙ moved (is_name_among x met) (bytes_eq x y) (is_name_among x xs)
