-- The flags of the heads in a pattern, looked at one after the other.
use Rattle.std.proofs.Common.{◌≡◌, ℕ, zero, suc, ◌+◌, ◌≤◌, Bool, true, false, bytes_eq, List, [], ◌∷◌, ◌++◌, length, map, take, drop, Some, None, slice_get, Ok, refl, sym, ap, ap₂, ◌∙◌, subst, arith, add-one, ◌⊎◌, inl, inr, Contains}
use Rattle.std.proofs.lemmas.Cmp.{nat_list_eq_equiv}
use Rattle.std.proofs.lemmas.List.{map-append}
use Rattle.std.specs.Cmp.Lexicographic.{same_text}
use Rattle.wl_expr.specs.Words.{Name}
use Rattle.wl_match.specs.declared.flags.Flags.{Flags}
use Rattle.wl_rules.specs.Attributes.{AttributeSet}
use Rattle.wl_rules.specs.Entries.{Definitions}
use Rattle.wl_rules.specs.Stored.{definitions}
use Rattle.wl_semantics.specs.Match.{flags, flags_in, flags_of}
use Rattle.wl_semantics.specs.Prog.{Prog, entry_of}
use Rattle.wl_state.specs.Played.{Plays, Leads}
use Rattle.wl_state.specs.declared.evaluator.Evaluator.{Evaluator}
use Rattle.wl_state.proofs.Playing.{plays_bind, plays_done}

-- the flags of a symbol
abbrev pub flags_by : Definitions → Name → Flags
flags_by f x = flags (f x).attributes

-- what is known after these heads, behind what was known before
abbrev pub met_after : Definitions → List (Name × Flags) → List Name → List (Name × Flags)
met_after f met [] = met
met_after f met (x ∷ xs) = met_after f ((x, flags_by f x) ∷ met) xs

-- what is known gives this symbol its flags
abbrev Gives : Definitions → List (Name × Flags) → Name → Type 0
Gives f met x = flags_in met x ≡ flags_by f x

gives_more : (f : Definitions) (met : List (Name × Flags)) (x y : Name) → (x ≡ y) ⊎ Gives f met x → Gives f ((y, flags_by f y) ∷ met) x
gives_more f met x y h = cases (bytes_eq x y) refl h
  where
    other : (b : Bool) → bytes_eq x y ≡ b → b ≡ false → (x ≡ y) ⊎ Gives f met x → flags_in met x ≡ flags_by f x
    other b e q (inl s) = absurd (let w : true ≡ false = sym (subst (λ z. bytes_eq x z ≡ true) s (nat_list_eq_equiv.refl x)) ∙ e ∙ q in cc)
    other b e q (inr g) = g

    cases : (b : Bool) → bytes_eq x y ≡ b → (x ≡ y) ⊎ Gives f met x → (elim b [ true ↦ flags_by f y | false ↦ flags_in met x ]) ≡ flags_by f x
    cases true e g = ap (flags_by f) (sym (same_text x y (sym e)))
    cases false e g = other false e refl g

gives_after : (f : Definitions) (met : List (Name × Flags)) (xs : List Name) (x : Name) → Contains xs x ⊎ Gives f met x → Gives f (met_after f met xs) x
gives_after f met [] x (inl c) = absurd (omega (arith, c.1))
gives_after f met [] x (inr g) = g
gives_after f met (y ∷ ys) x (inl (zero, l, e)) = gives_after f ((y, flags_by f y) ∷ met) ys x (inr (gives_more f met x y (inl (sym e))))
gives_after f met (y ∷ ys) x (inl (suc i, l, e)) = gives_after f ((y, flags_by f y) ∷ met) ys x (inl (i, omega (arith, l), e))
gives_after f met (y ∷ ys) x (inr g) = gives_after f ((y, flags_by f y) ∷ met) ys x (inr (gives_more f met x y (inr g)))

map_alike : (f g : Name → Flags) (xs : List Name) → ((x : Name) → Contains xs x → f x ≡ g x) → map f xs ≡ map g xs
map_alike f g [] h = refl
map_alike f g (x ∷ xs) h = ap₂ (λ (y : Flags) ys. y ∷ ys) (h x (0, omega arith, refl)) (map_alike f g xs (λ y c. h y (suc c.0, omega (arith, c.1), c.2)))

pub flags_known : (f : Definitions) (xs : List Name) → map (flags_by f) xs ≡ map (flags_in (met_after f [] xs)) xs
flags_known f xs = map_alike (flags_by f) (flags_in (met_after f [] xs)) xs (λ x c. sym (gives_after f [] xs x (inl c)))

-- ---- one head after the other

drop_at : (xs : List Name) (i : ℕ) (x : Name) → slice_get xs i ≡ Some x → drop i xs ≡ x ∷ drop (suc i) xs
drop_at [] i x h = absurd (let q : None ≡ Some x = h in cc)
drop_at (y ∷ ys) zero x h = ap (λ z. z ∷ ys) (let q : Some y ≡ Some x = h in cc)
drop_at (y ∷ ys) (suc i) x h = drop_at ys i x h

pub take_at : (xs : List Name) (i : ℕ) (x : Name) → slice_get xs i ≡ Some x → take (suc i) xs ≡ take i xs ++ x ∷ []
take_at [] i x h = absurd (let q : None ≡ Some x = h in cc)
take_at (y ∷ ys) zero x h = ap (λ z. z ∷ []) (let q : Some y ≡ Some x = h in cc)
take_at (y ∷ ys) (suc i) x h = ap (λ zs. y ∷ zs) (take_at ys i x h)

met_more : (f : Definitions) (met : List (Name × Flags)) (xs : List Name) (x : Name) → met_after f met (xs ++ x ∷ []) ≡ (x, flags_by f x) ∷ met_after f met xs
met_more f met [] x = refl
met_more f met (y ∷ ys) x = met_more f ((y, flags_by f y) ∷ met) ys x

-- what is left after the first heads
abbrev pub flags_from : Definitions → ℕ → List Name → Prog (Name → Flags)
flags_from f i xs = flags_of (met_after f [] (take i xs)) (drop i xs)

pub flags_step : (f : Definitions) (xs : List Name) (i : ℕ) (x : Name) (k k1 : Evaluator) → slice_get xs i ≡ Some x → f ≡ definitions k.store → Plays (entry_of x) k (Ok (definitions k.store x)) k1 false → Leads (flags_from f i xs) k (flags_from f (i + 1) xs) k1
unfolding flags_of
flags_step f xs i x k k1 g e h r k2 o m =
    let met = met_after f [] (take i xs) in
    let next : flags_from f (i + 1) xs ≡ flags_of ((x, flags (definitions k.store x).attributes) ∷ met) (drop (suc i) xs) =
    ap (λ z. flags_from f z xs) (add-one i)
    ∙ ap (λ z. flags_of z (drop (suc i) xs)) (ap (met_after f []) (take_at xs i x g) ∙ met_more f [] (take i xs) x ∙ ap (λ (z : Definitions). (x, flags_by z x) ∷ met) e) in
    subst (λ z. Plays (flags_of met z) k r k2 o) (sym (drop_at xs i x g)) (plays_bind (entry_of x) _ h (subst (λ z. Plays z k1 r k2 o) next m))

pub flags_more : (f : Definitions) (xs : List Name) (i : ℕ) (x : Name) (fs gs : List Flags) (v : Flags) → slice_get xs i ≡ Some x → gs ≡ fs ++ v ∷ [] → fs ≡ map (flags_by f) (take i xs) → v ≡ flags_by f x → gs ≡ map (flags_by f) (take (i + 1) xs)
flags_more f xs i x fs gs v g p q e =
    p ∙ ap₂ (λ a b. a ++ b ∷ []) q e ∙ sym (map-append (flags_by f) (take i xs) (x ∷ [])) ∙ sym (ap (map (flags_by f)) (ap (λ n. take n xs) (add-one i) ∙ take_at xs i x g))

pub flags_are : (a s : AttributeSet) (p q r : Bool) → a ≡ s → p ≡ a.flat → q ≡ a.orderless → r ≡ a.one_identity → record { flat = p; orderless = q; one_identity = r } ≡ flags s
flags_are a s p q r e x y z = (λ i. record { flat = x i; orderless = y i; one_identity = z i }) ∙ ap flags e

pub all_taken : (xs : List Name) (i : ℕ) → length xs ≤ i → take i xs ≡ xs
all_taken [] zero h = refl
all_taken [] (suc i) h = refl
all_taken (x ∷ xs) zero h = absurd (omega (arith, h))
all_taken (x ∷ xs) (suc i) h = ap (λ ys. x ∷ ys) (all_taken xs i (omega (arith, h)))

none_left : (xs : List Name) (i : ℕ) → length xs ≤ i → drop i xs ≡ []
none_left [] zero h = refl
none_left [] (suc i) h = refl
none_left (x ∷ xs) zero h = absurd (omega (arith, h))
none_left (x ∷ xs) (suc i) h = none_left xs i (omega (arith, h))

pub flags_end : (f : Definitions) (xs : List Name) (i : ℕ) (k : Evaluator) → length xs ≤ i → Plays (flags_from f i xs) k (Ok (flags_in (met_after f [] xs))) k false
unfolding flags_of
flags_end f xs i k l =
    let e : flags_from f i xs ≡ flags_of (met_after f [] xs) [] = ap₂ (λ a b. flags_of (met_after f [] a) b) (all_taken xs i l) (none_left xs i l) in
    subst (λ p. Plays p k (Ok (flags_in (met_after f [] xs))) k false) (sym e) plays_done
