-- Names as sets, and small things.
use Rattle.std.proofs.Common.{◌≡◌, ℕ, zero, suc, ◌<◌, List, [], ◌∷◌, ◌++◌, ◌⊎◌, inl, inr, length, map, get_or, Some, refl, subst, arith, Contains}
use Rattle.std.proofs.lemmas.List.Elements.{Contains-append_left, Contains-append_right, Contains-append_cases}
use Rattle.wl_expr.specs.Words.{Name}
use Rattle.wl_rules.specs.Entries.{Definitions}
use Rattle.wl_state.specs.Honest.{Same, AgreeOn}
use Rattle.wl_semantics.specs.State.{State}
use Rattle.wl_semantics.specs.Local.{Agree}

pub either : {A B C : Type 0} → A ⊎ B → (A → C) → (B → C) → C
either (inl a) f g = f a
either (inr b) f g = g b

pub some_inj : {A : Type 0} {a b : A} → Some a ≡ Some b → a ≡ b
some_inj e = cc

pub same_refl : (xs : List Name) → Same xs xs
same_refl xs = record { to = λ x h. h; from = λ x h. h }

pub same_trans : {xs ys zs : List Name} → Same xs ys → Same ys zs → Same xs zs
same_trans p q = record { to = λ x h. q.to x (p.to x h); from = λ x h. p.from x (q.from x h) }

pub same_sym : {xs ys : List Name} → Same xs ys → Same ys xs
same_sym p = record { to = p.from; from = p.to }

pub same_append : (a b c d : List Name) → Same a b → Same c d → Same (a ++ c) (b ++ d)
same_append a b c d p q = record {
  to = λ x h. either (Contains-append_cases a c x h) (λ y. Contains-append_left b d x (p.to x y)) (λ y. Contains-append_right b d x (q.to x y));
  from = λ x h. either (Contains-append_cases b d x h) (λ y. Contains-append_left a c x (p.from x y)) (λ y. Contains-append_right a c x (q.from x y));
}

-- one more that was there is none
pub same_again : (xs : List Name) (x : Name) → Contains xs x → Same xs (xs ++ x ∷ [])
same_again xs x h = record {
  to = λ y i. Contains-append_left xs (x ∷ []) y i;
  from = λ y i. either (Contains-append_cases xs (x ∷ []) y i) (λ j. j) (λ j. subst (Contains xs) (alone x y j) h);
}
  where
    alone : (x y : Name) → Contains (x ∷ []) y → x ≡ y
    alone x y (zero, l, e) = e
    alone x y (suc k, l, e) = absurd (omega (arith, l))

pub contains_mapped : {A : Type 0} (f : A → Name) (rs : List A) (i : ℕ) (d : A) → i < length rs → Contains (map f rs) (f (get_or rs i d))
contains_mapped f [] i d l = absurd (omega (arith, l))
contains_mapped f (r ∷ rs) zero d l = (0, omega arith, refl)
contains_mapped f (r ∷ rs) (suc i) d l = let h = contains_mapped f rs i d (omega (arith, l)) in (suc h.0, omega (arith, h.1), h.2)

-- ---- agreement

pub agree_within : (f g : Definitions) (xs ys : List Name) → ((x : Name) → Contains xs x → Contains ys x) → AgreeOn f g ys → AgreeOn f g xs
agree_within f g xs ys w h x i = h x (w x i)

pub agreed : (s t : State) (xs : List Name) → AgreeOn s.world.definitions t.world.definitions xs → Agree s t xs
agreed s t [] h = tt
agreed s t (x ∷ xs) h = (h x (0, omega arith, refl), agreed s t xs (λ y i. h y (suc i.0, omega (arith, i.1), i.2)))

pub agrees : (s t : State) (xs : List Name) → Agree s t xs → AgreeOn s.world.definitions t.world.definitions xs
agrees s t [] h x i = absurd (omega (arith, i.1))
agrees s t (y ∷ xs) h x (zero, l, e) = subst (λ z. s.world.definitions z ≡ t.world.definitions z) e h.0
agrees s t (y ∷ xs) h x (suc i, l, e) = agrees s t xs h.1 x (i, omega (arith, l), e)
