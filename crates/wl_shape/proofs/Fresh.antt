-- The name that a captured parameter gets: it depends on which names are taken alone, and `$` is appended once for each try.
use Rattle.std.proofs.Common.{◌≡◌, ℕ, zero, suc, ◌≤◌, ◌<◌, ◌+◌, max, Bool, true, false, ◌||◌, List, [], ◌∷◌, ◌++◌, length, ◌⊎◌, inl, inr, add-one, length-append, le_trans, refl, sym, ap, ◌∙◌, subst, arith}
use Rattle.std.specs.Prelude.{codes, bytes_eq}
use Rattle.wl_expr.specs.Same.{is_name_among}
use Rattle.wl_expr.specs.Tree.{symbol, IsWithinLimits}
use Rattle.wl_expr.specs.Words.{Name}
use Rattle.wl_shape.specs.Fill.{fresh, longest, marked, new_name}
use Rattle.wl_shape.proofs.Members.{among_itself, among_right, one_name, or_either}
use Rattle.wl_shape.proofs.Standings.{either}

pub length-marked : (x : Name) → length (marked x) ≡ length x + 1
length-marked x = length-append x (codes "$")

pub no_longer : (x : Name) (xs : List Name) → is_name_among x xs ≡ true → length x ≤ longest xs
no_longer x [] m = cc
no_longer x (y ∷ ys) m = either (or_either (bytes_eq x y) (is_name_among x ys) m)
    (λ e. let l = ap length (one_name x y e) in omega (arith, l))
    (λ n. let l = no_longer x ys n in omega (arith, l))

not_taken : (x : Name) (taken : List Name) (b : Bool) → is_name_among x taken ≡ b → longest taken < length x → b ≡ false
not_taken x taken false e l = refl
not_taken x taken true e l = let s = no_longer x taken e in absurd (omega (arith, s, l))

stays : (n : ℕ) (taken : List Name) (x : Name) → is_name_among x taken ≡ false → fresh n taken x ≡ x
stays zero taken x e = refl
stays (suc n) taken x e = ap (λ b. elim b [ true ↦ fresh n taken (marked x) | false ↦ x ]) e

more_tries : (n m : ℕ) (taken : List Name) (x : Name) (b : Bool) → fresh n taken (marked x) ≡ fresh m taken (marked x) → ◌≡◌ {A = Name} (elim b [ true ↦ fresh n taken (marked x) | false ↦ x ]) (elim b [ true ↦ fresh m taken (marked x) | false ↦ x ])
more_tries n m taken x true e = e
more_tries n m taken x false e = refl

-- how often it is tried makes no difference, where it is often enough
enough : (n m : ℕ) (taken : List Name) (x : Name) → longest taken < n + length x → longest taken < m + length x → fresh n taken x ≡ fresh m taken x
enough zero m taken x l k = sym (stays m taken x (not_taken x taken (is_name_among x taken) refl (omega arith)))
enough (suc n) zero taken x l k = stays (suc n) taken x (not_taken x taken (is_name_among x taken) refl (omega arith))
enough (suc n) (suc m) taken x l k =
    let e = length-marked x in
    more_tries n m taken x (is_name_among x taken) (enough n m taken (marked x) (omega (arith, e, l)) (omega (arith, e, k)))

pub one_more_try : (taken : List Name) (x : Name) → is_name_among x taken ≡ true → fresh (longest taken + 1) taken x ≡ fresh (longest taken + 1) taken (marked x)
one_more_try taken x h =
    let e = length-marked x in
    ap (λ n. fresh n taken x) (add-one (longest taken)) ∙ ap (λ b. elim b [ true ↦ fresh (longest taken) taken (marked x) | false ↦ x ]) h
    ∙ enough (longest taken) (longest taken + 1) taken (marked x) (omega (arith, e)) (omega (arith, e))

pub last_try : (taken : List Name) (x : Name) → is_name_among x taken ≡ false → fresh (longest taken + 1) taken x ≡ x
last_try taken x h = stays (longest taken + 1) taken x h

longer_by : (n : ℕ) (taken : List Name) (x : Name) (b : Bool) → length x ≤ length (fresh n taken (marked x)) → length x ≤ length {A = ℕ} (elim b [ true ↦ fresh n taken (marked x) | false ↦ x ])
longer_by n taken x true l = l
longer_by n taken x false l = omega arith

pub no_shorter : (n : ℕ) (taken : List Name) (x : Name) → length x ≤ length (fresh n taken x)
no_shorter zero taken x = omega arith
no_shorter (suc n) taken x = let e = length-marked x in let l = no_shorter n taken (marked x) in longer_by n taken x (is_name_among x taken) (omega (arith, e, l))

pub shorter_fits : (x y : Name) → length x ≤ length y → IsWithinLimits (symbol y) → IsWithinLimits (symbol x)
shorter_fits x y l w = record { light = omega (arith, l, w.light); shallow = omega arith }

-- ---- by which names are taken

longest-among : (xs ys : List Name) → ((z : Name) → is_name_among z xs ≡ true → is_name_among z ys ≡ true) → longest xs ≤ longest ys
longest-among [] ys h = omega arith
longest-among (x ∷ xs) ys h =
    let a = no_longer x ys (h x (among_itself x xs)) in
    let b = longest-among xs ys (λ z m. h z (among_right z (x ∷ []) xs m)) in
    omega (arith, a, b)

longest-same : (xs ys : List Name) → ((z : Name) → is_name_among z xs ≡ is_name_among z ys) → longest xs ≡ longest ys
longest-same xs ys h =
    let a = longest-among xs ys (λ z m. sym (h z) ∙ m) in
    let b = longest-among ys xs (λ z m. h z ∙ m) in
    omega (arith, a, b)

fresh-same : (n : ℕ) (xs ys : List Name) (x : Name) → ((z : Name) → is_name_among z xs ≡ is_name_among z ys) → fresh n xs x ≡ fresh n ys x
fresh-same zero xs ys x h = refl
fresh-same (suc n) xs ys x h = λ i. elim (h x i) [ true ↦ fresh-same n xs ys (marked x) h i | false ↦ x ]

pub new_name-same : (xs ys : List Name) (x : Name) → ((z : Name) → is_name_among z xs ≡ is_name_among z ys) → new_name xs x ≡ new_name ys x
new_name-same xs ys x h = ap (λ n. fresh (n + 1) xs (marked x)) (longest-same xs ys h) ∙ fresh-same (longest ys + 1) xs ys (marked x) h
