-- What stands for names inside a scope: what arrives, and the new names of parameters.
use Rattle.std.proofs.Common.{◌≡◌, ℕ, ◌<◌, ◌≤◌, ◌+◌, Bool, true, false, ◌||◌, ◌&&◌, not, List, [], ◌∷◌, ◌++◌, ◌⊎◌, inl, inr, append_assoc, length, get_or, drop, zero, suc, refl, sym, ap, ◌∙◌, subst, arith}
use Rattle.std.proofs.lemmas.List.{drop_all}
use Rattle.std.specs.List.{list_any}
use Rattle.std.specs.Prelude.{Option, Some, None, option_map, is_some, bytes_eq}
use Rattle.wl_expr.specs.Same.{same, same_decides, is_name_among}
use Rattle.wl_expr.specs.Stamped.{Stamped, plain}
use Rattle.wl_expr.specs.Tree.{Tree, num, text, symbol, node, IsWithinLimits}
use Rattle.wl_expr.specs.Words.{Name}
use Rattle.wl_shape.specs.Answers.{trees}
use Rattle.wl_shape.specs.Entering.{IsTooLong, OneTooLong, put_new_name, put_values}
use Rattle.wl_shape.specs.Fill.{Values, arriving, filled_symbol, inside_of, names, new_name, or_else, reached, renamings, value_names, without_names}
use Rattle.wl_shape.specs.Held.{put_value}
use Rattle.wl_shape.specs.Names.{has_name, has_tree, HasMore, names_in}
use Rattle.wl_shape.specs.Standing.{AgreeOn}
use Rattle.wl_shape.proofs.Fresh.{new_name-same}
use Rattle.wl_shape.proofs.Meetings.{has_name-among, none_is}
use Rattle.wl_shape.proofs.Members.{among-append, among_either, among_itself, among_left, among_right, and_both, one_name, or_assoc, or_either, or_false}
use Rattle.wl_shape.proofs.Splits.{next_of}
use Rattle.wl_shape.proofs.Standings.{either}

pub same_truth : (a b : Bool) → (a ≡ true → b ≡ true) → (b ≡ true → a ≡ true) → a ≡ b
same_truth true b f g = sym (f refl)
same_truth false true f g = g refl
same_truth false false f g = refl

-- ---- what arrives

pub arriving-append : (xs ys : List Name) (vs : Values) → arriving (xs ++ ys) vs ≡ arriving xs vs ++ arriving ys vs
arriving-append [] ys vs = refl
arriving-append (x ∷ xs) ys vs = ap (λ zs. value_names (vs x) ++ zs) (arriving-append xs ys vs) ∙ sym (append_assoc (value_names (vs x)) (arriving xs vs) (arriving ys vs))

-- the name that a name arrives with
record Arrives (y : Name) (xs : List Name) (vs : Values) : Type 0 where
  by : Name
  reached : is_name_among by xs ≡ true
  inside : is_name_among y (value_names (vs by)) ≡ true

arrives_with : (y : Name) (xs : List Name) (vs : Values) → is_name_among y (arriving xs vs) ≡ true → Arrives y xs vs
arrives_with y [] vs m = cc
arrives_with y (x ∷ xs) vs m = either (among_either y (value_names (vs x)) (arriving xs vs) m)
    (λ a. record { by = x; reached = among_itself x xs; inside = a })
    (λ a. let r = arrives_with y xs vs a in record { by = r.by; reached = among_right r.by (x ∷ []) xs r.reached; inside = r.inside })

arrives : (y x : Name) (xs : List Name) (vs : Values) → is_name_among x xs ≡ true → is_name_among y (value_names (vs x)) ≡ true → is_name_among y (arriving xs vs) ≡ true
arrives y x [] vs m n = cc
arrives y x (z ∷ xs) vs m n = either (or_either (bytes_eq x z) (is_name_among x xs) m)
    (λ a. among_left y (value_names (vs z)) (arriving xs vs) (ap (λ w. is_name_among y (value_names (vs w))) (sym (one_name x z a)) ∙ n))
    (λ a. among_right y (value_names (vs z)) (arriving xs vs) (arrives y x xs vs a n))

-- the names that are met are those that filling reaches in the body, that have a value and that no parameter shadows
abbrev pub AreMet : List Name → List Name → Values → Tree → Type 0
AreMet ms xs vs u = (x : Name) → is_name_among x ms ≡ ((is_some (vs x) && not (is_name_among x xs)) && is_name_among x (reached u))

valued : (y : Name) (o : Option Tree) → is_name_among y (value_names o) ≡ true → is_some o ≡ true
valued y None m = cc
valued y (Some t) m = refl

without_other : (xs : List Name) (vs : Values) (x : Name) → is_name_among x xs ≡ false → without_names xs vs x ≡ vs x
without_other xs vs x h = ap (λ b. elim b [ true ↦ None | false ↦ vs x ]) h

not_shadowed : (xs : List Name) (vs : Values) (x y : Name) (b : Bool) → is_name_among x xs ≡ b → is_name_among y (value_names (without_names xs vs x)) ≡ true → b ≡ false
not_shadowed xs vs x y false e m = refl
not_shadowed xs vs x y true e m = let n : is_name_among y (value_names None) ≡ true = ap (λ b. is_name_among y (value_names (elim b [ true ↦ None | false ↦ vs x ]))) (sym e) ∙ m in cc

not_true : (b : Bool) → not b ≡ true → b ≡ false
not_true true e = cc
not_true false e = refl

pub arriving-met : (ms xs : List Name) (vs : Values) (u : Tree) → AreMet ms xs vs u → (y : Name) → is_name_among y (arriving ms vs) ≡ is_name_among y (arriving (reached u) (without_names xs vs))
arriving-met ms xs vs u met y = same_truth (is_name_among y (arriving ms vs)) (is_name_among y (arriving (reached u) (without_names xs vs)))
    (λ a.
    let r = arrives_with y ms vs a in
    let b = and_both (is_some (vs r.by) && not (is_name_among r.by xs)) (is_name_among r.by (reached u)) (sym (met r.by) ∙ r.reached) in
    let s = and_both (is_some (vs r.by)) (not (is_name_among r.by xs)) b.0 in
    arrives y r.by (reached u) (without_names xs vs) b.1 (ap (λ o. is_name_among y (value_names o)) (without_other xs vs r.by (not_true (is_name_among r.by xs) s.1)) ∙ r.inside))
    (λ a.
    let r = arrives_with y (reached u) (without_names xs vs) a in
    let n : is_name_among r.by xs ≡ false = not_shadowed xs vs r.by y (is_name_among r.by xs) refl r.inside in
    let i : is_name_among y (value_names (vs r.by)) ≡ true = ap (λ o. is_name_among y (value_names o)) (sym (without_other xs vs r.by n)) ∙ r.inside in
    let v = valued y (vs r.by) i in
    arrives y r.by ms vs (met r.by ∙ ap (λ b. (b && not (is_name_among r.by xs)) && is_name_among r.by (reached u)) v ∙ ap (λ b. not b && is_name_among r.by (reached u)) n ∙ r.reached) i)

-- ---- new names

pub renamings-same : (arrived others ns xs : List Name) → ((y : Name) → is_name_among y arrived ≡ is_name_among y others) → (x : Name) → renamings arrived (arrived ++ ns) xs x ≡ renamings others (others ++ ns) xs x
renamings-same arrived others ns xs h x =
    let taken : (z : Name) → is_name_among z (arrived ++ ns) ≡ is_name_among z (others ++ ns) = λ z. among-append z arrived ns ∙ ap (λ b. b || is_name_among z ns) (h z) ∙ sym (among-append z others ns) in
    λ i. elim (is_name_among x xs && h x i) [ true ↦ Some (symbol (new_name-same (arrived ++ ns) (others ++ ns) x taken i)) | false ↦ None ]

pub or_none : (o : Option Tree) → or_else o None ≡ o
or_none None = refl
or_none (Some t) = refl

-- what stands inside, put together of new names and of what is met
pub inside_met : (ms xs : List Name) (vs rs : Values) (u : Tree) (ks ns : List Stamped) (inner : Values) → AreMet ms xs vs u → ((x : Name) → has_name ks x ≡ is_name_among x ms) → ((x : Name) → has_name ns x ≡ is_name_among x xs)
    → ((x : Name) → rs x ≡ (inside_of xs vs u).renamed x) → ((x : Name) → inner x ≡ put_values ks vs (put_values ns rs (λ x. None)) x) → AgreeOn (reached u) inner (inside_of xs vs u).inner
inside_met ms xs vs rs u ks ns inner met k n r i x h =
    let new = (inside_of xs vs u).renamed in
    i x
    ∙ ap (λ b. or_else (elim b [ true ↦ vs x | false ↦ None ]) (or_else (elim (has_name ns x) [ true ↦ rs x | false ↦ None ]) None)) (k x ∙ met x ∙ ap (λ b. (is_some (vs x) && not (is_name_among x xs)) && b) h)
    ∙ ap (λ b. or_else (elim ((is_some (vs x) && not (is_name_among x xs)) && true) [ true ↦ vs x | false ↦ None ]) (or_else (elim b [ true ↦ rs x | false ↦ None ]) None)) (n x)
    ∙ ap (λ o. or_else (elim ((is_some (vs x) && not (is_name_among x xs)) && true) [ true ↦ vs x | false ↦ None ]) (or_else (elim (is_name_among x xs) [ true ↦ o | false ↦ None ]) None)) (r x)
    ∙ go (is_name_among x xs) (vs x) (new x) (λ e. ap (λ b. elim (b && is_name_among x (arriving (reached u) (without_names xs vs))) [ true ↦ Some (symbol (new_name (arriving (reached u) (without_names xs vs) ++ names u) x)) | false ↦ None ]) e)
  where
    go : (b : Bool) (o p : Option Tree) → (b ≡ false → p ≡ None)
        → or_else (elim ((is_some o && not b) && true) [ true ↦ o | false ↦ None ]) (or_else (elim b [ true ↦ p | false ↦ None ]) None) ≡ or_else p (elim b [ true ↦ None | false ↦ o ])
    go true None None f = refl
    go true None (Some t) f = refl
    go true (Some o) None f = refl
    go true (Some o) (Some t) f = refl
    go false None p f = sym (ap (λ q. or_else q None) (f refl))
    go false (Some o) p f = sym (ap (λ q. or_else q (Some o)) (f refl))

-- ---- loops

names_in-cons : (t : Tree) (ts : List Tree) → names_in (t ∷ ts) ≡ names_in (t ∷ []) ++ names_in ts
names_in-cons (num n) ts = refl
names_in-cons (text s) ts = refl
names_in-cons (symbol x) ts = refl
names_in-cons (node h us) ts = refl

pub next_arriving : (vs : Values) (es : List Stamped) (i : ℕ) (e : Stamped) (ks ls : List Stamped) → i < length es → e ≡ get_or es i e
    → ((x : Name) → has_name ls x ≡ (has_name ks x || is_name_among x (arriving (names_in (plain e ∷ [])) vs)))
    → (x : Name) → (has_name ks x || is_name_among x (arriving (names_in (trees (drop i es))) vs)) ≡ (has_name ls x || is_name_among x (arriving (names_in (trees (drop (i + 1) es))) vs))
next_arriving vs es i e ks ls l p m x =
    let rest = names_in (trees (drop (i + 1) es)) in
    ap (λ us. has_name ks x || is_name_among x (arriving (names_in (trees us)) vs)) (next_of es i e l p)
    ∙ ap (λ ys. has_name ks x || is_name_among x (arriving ys vs)) (names_in-cons (plain e) (trees (drop (i + 1) es)))
    ∙ ap (λ ys. has_name ks x || is_name_among x ys) (arriving-append (names_in (plain e ∷ [])) rest vs)
    ∙ ap (λ b. has_name ks x || b) (among-append x (arriving (names_in (plain e ∷ [])) vs) (arriving rest vs))
    ∙ sym (or_assoc (has_name ks x) (is_name_among x (arriving (names_in (plain e ∷ [])) vs)) (is_name_among x (arriving rest vs)))
    ∙ ap (λ b. b || is_name_among x (arriving rest vs)) (sym (m x))

pub last_arriving : (vs : Values) (es : List Stamped) (i : ℕ) (ks : List Stamped) (x : Name) → length es ≤ i → (has_name ks x || is_name_among x (arriving (names_in (trees (drop i es))) vs)) ≡ has_name ks x
last_arriving vs es i ks x l = ap (λ us. has_name ks x || is_name_among x (arriving (names_in (trees us)) vs)) (drop_all i es l) ∙ or_false (has_name ks x)

pub arriving_one : (f : Tree → Option Tree) (t v : Tree) (y x : Name) → symbol y ≡ t → Some v ≡ f t → is_name_among x (names v) ≡ is_name_among x (arriving (names_in (t ∷ [])) (λ z. f (symbol z)))
arriving_one f t v y x e p =
    let q : f (symbol y) ≡ Some v = ap f e ∙ sym p in
    sym (ap (λ u. is_name_among x (arriving (names_in (u ∷ [])) (λ z. f (symbol z)))) (sym e) ∙ among-append x (value_names (f (symbol y))) [] ∙ or_false (is_name_among x (value_names (f (symbol y)))) ∙ ap (λ o. is_name_among x (value_names o)) q)

pub arriving_none : (f : Tree → Option Tree) (t : Tree) (y : Name) → symbol y ≡ t → ◌≡◌ {A = Option Tree} None (f t) → arriving (names_in (t ∷ [])) (λ z. f (symbol z)) ≡ []
arriving_none f t y e p =
    let q : f (symbol y) ≡ None = ap f e ∙ sym p in
    ap (λ u. arriving (names_in (u ∷ [])) (λ z. f (symbol z))) (sym e) ∙ ap (λ o. value_names o ++ []) q

-- one value is put, or there is none
pub next_put : (f : Tree → Option Tree) (es : List Stamped) (i : ℕ) (e : Stamped) (v : Tree) (ws us : Values) → i < length es → e ≡ get_or es i e → Some v ≡ f (plain e) → ((x : Name) → us x ≡ put_value ws (plain e) v x)
    → (x : Name) → put_values (drop i es) (λ y. f (symbol y)) ws x ≡ put_values (drop (i + 1) es) (λ y. f (symbol y)) us x
next_put f es i e v ws us l p q m x =
    ap (λ ks. put_values ks (λ y. f (symbol y)) ws x) (next_of es i e l p)
    ∙ go (same (symbol x) (plain e)) (has_name (drop (i + 1) es) x) (λ h. ap f ((same_decides (symbol x) (plain e)).0 h) ∙ sym q)
    ∙ ap (λ o. or_else (elim (has_name (drop (i + 1) es) x) [ true ↦ f (symbol x) | false ↦ None ]) o) (sym (m x))
  where
    go : (a r : Bool) → (a ≡ true → f (symbol x) ≡ Some v) → or_else (elim (a || r) [ true ↦ f (symbol x) | false ↦ None ]) (ws x) ≡ or_else (elim r [ true ↦ f (symbol x) | false ↦ None ]) (elim a [ true ↦ Some v | false ↦ ws x ])
    go true true h = let q = h refl in ap (λ o. or_else o (ws x)) q ∙ sym (ap (λ o. or_else o (Some v)) q)
    go true false h = ap (λ o. or_else o (ws x)) (h refl)
    go false r h = refl

pub next_unput : (f : Tree → Option Tree) (es : List Stamped) (i : ℕ) (e : Stamped) (ws : Values) → i < length es → e ≡ get_or es i e → ◌≡◌ {A = Option Tree} None (f (plain e))
    → (x : Name) → put_values (drop i es) (λ y. f (symbol y)) ws x ≡ put_values (drop (i + 1) es) (λ y. f (symbol y)) ws x
next_unput f es i e ws l p q x =
    ap (λ ks. put_values ks (λ y. f (symbol y)) ws x) (next_of es i e l p)
    ∙ go (same (symbol x) (plain e)) (has_name (drop (i + 1) es) x) (λ h. ap f ((same_decides (symbol x) (plain e)).0 h) ∙ sym q)
  where
    go : (a r : Bool) → (a ≡ true → f (symbol x) ≡ None) → or_else (elim (a || r) [ true ↦ f (symbol x) | false ↦ None ]) (ws x) ≡ or_else (elim r [ true ↦ f (symbol x) | false ↦ None ]) (ws x)
    go true true h = refl
    go true false h = ap (λ o. or_else o (ws x)) (h refl)
    go false r h = refl

pub last_put : (vs : Values) (es : List Stamped) (i : ℕ) (ws : Values) (x : Name) → length es ≤ i → put_values (drop i es) vs ws x ≡ ws x
last_put vs es i ws x l = ap (λ ks. put_values ks vs ws x) (drop_all i es l)

-- new names for some of the parameters, behind those that have theirs
abbrev pub renamings_on : Values → List Name → List Name → List Name → Values
renamings_on vs arrived taken xs x = elim (is_name_among x xs && is_name_among x arrived) [ true ↦ Some (symbol (new_name taken x)) | false ↦ vs x ]

rename_symbol : (t : Tree) (ts : List Tree) (arrived taken own : List Name) (vs : Values) → ((z : Name) → is_name_among z own ≡ is_name_among z taken) → ((y : Name) → t ≡ symbol y → is_name_among y arrived ≡ true)
    → (x : Name) → renamings_on vs arrived taken (names_in (t ∷ ts)) x ≡ renamings_on (put_new_name own t vs) arrived taken (names_in ts) x
rename_symbol (num n) ts arrived taken own vs h m x = refl
rename_symbol (text s) ts arrived taken own vs h m x = refl
rename_symbol (node g us) ts arrived taken own vs h m x = refl
rename_symbol (symbol y) ts arrived taken own vs h m x =
    go (bytes_eq x y) (is_name_among x (names_in ts)) (is_name_among x arrived)
    (λ e. ap (λ z. is_name_among z arrived) (one_name x y e) ∙ m y refl) (λ e. ap (new_name taken) (one_name x y e) ∙ sym (new_name-same own taken y h))
  where
    go : (a r b : Bool) → (a ≡ true → b ≡ true) → (a ≡ true → new_name taken x ≡ new_name own y)
        → ◌≡◌ {A = Option Tree} (elim ((a || r) && b) [ true ↦ Some (symbol (new_name taken x)) | false ↦ vs x ])
        (elim (r && b) [ true ↦ Some (symbol (new_name taken x)) | false ↦ elim a [ true ↦ Some (symbol (new_name own y)) | false ↦ vs x ] ])
    go true true true f g = refl
    go true true false f g = let n : false ≡ true = f refl in cc
    go true false true f g = ap (λ z. Some (symbol z)) (g refl)
    go true false false f g = let n : false ≡ true = f refl in cc
    go false r b f g = refl

pass_symbol : (t : Tree) (ts : List Tree) (arrived taken : List Name) (vs : Values) → ((y : Name) → t ≡ symbol y → is_name_among y arrived ≡ false)
    → (x : Name) → renamings_on vs arrived taken (names_in (t ∷ ts)) x ≡ renamings_on vs arrived taken (names_in ts) x
pass_symbol (num n) ts arrived taken vs m x = refl
pass_symbol (text s) ts arrived taken vs m x = refl
pass_symbol (node g us) ts arrived taken vs m x = refl
pass_symbol (symbol y) ts arrived taken vs m x = go (bytes_eq x y) (is_name_among x (names_in ts)) (is_name_among x arrived) (λ e. ap (λ z. is_name_among z arrived) (one_name x y e) ∙ m y refl)
  where
    go : (a r b : Bool) → (a ≡ true → b ≡ false) → ◌≡◌ {A = Option Tree} (elim ((a || r) && b) [ true ↦ Some (symbol (new_name taken x)) | false ↦ vs x ]) (elim (r && b) [ true ↦ Some (symbol (new_name taken x)) | false ↦ vs x ])
    go true true b f = refl
    go true false true f = let n : true ≡ false = f refl in cc
    go true false false f = refl
    go false r b f = refl

arrived_by : (ks : List Stamped) (t : Tree) (b : Bool) → has_tree ks t ≡ b → (y : Name) → t ≡ symbol y → is_name_among y (names_in (trees ks)) ≡ b
arrived_by ks t b h y e = sym (has_name-among ks y) ∙ ap (has_tree ks) (sym e) ∙ h

pub next_renamed : (es : List Stamped) (i : ℕ) (e : Stamped) (ks : List Stamped) (taken own : List Name) (vs ws : Values) → i < length es → e ≡ get_or es i e → has_tree ks (plain e) ≡ true
    → ((z : Name) → is_name_among z own ≡ is_name_among z taken) → ((x : Name) → ws x ≡ put_new_name own (plain e) vs x)
    → (x : Name) → renamings_on vs (names_in (trees ks)) taken (names_in (trees (drop i es))) x ≡ renamings_on ws (names_in (trees ks)) taken (names_in (trees (drop (i + 1) es))) x
next_renamed es i e ks taken own vs ws l p h t m x =
    let arrived = names_in (trees ks) in
    let rest = trees (drop (i + 1) es) in
    ap (λ us. renamings_on vs arrived taken (names_in (trees us)) x) (next_of es i e l p)
    ∙ rename_symbol (plain e) rest arrived taken own vs t (arrived_by ks (plain e) true h) x
    ∙ ap (λ o. elim (is_name_among x (names_in rest) && is_name_among x arrived) [ true ↦ Some (symbol (new_name taken x)) | false ↦ o ]) (sym (m x))

pub next_unrenamed : (es : List Stamped) (i : ℕ) (e : Stamped) (ks : List Stamped) (taken : List Name) (vs : Values) → i < length es → e ≡ get_or es i e → has_tree ks (plain e) ≡ false
    → (x : Name) → renamings_on vs (names_in (trees ks)) taken (names_in (trees (drop i es))) x ≡ renamings_on vs (names_in (trees ks)) taken (names_in (trees (drop (i + 1) es))) x
next_unrenamed es i e ks taken vs l p h x =
    ap (λ us. renamings_on vs (names_in (trees ks)) taken (names_in (trees us)) x) (next_of es i e l p) ∙ pass_symbol (plain e) (trees (drop (i + 1) es)) (names_in (trees ks)) taken vs (arrived_by ks (plain e) false h) x

pub last_renamed : (es : List Stamped) (i : ℕ) (arrived taken : List Name) (vs : Values) (x : Name) → length es ≤ i → renamings_on vs arrived taken (names_in (trees (drop i es))) x ≡ vs x
last_renamed es i arrived taken vs x l = ap (λ us. renamings_on vs arrived taken (names_in (trees us)) x) (drop_all i es l)

-- where none arrives
pub none_renamed : (ks es : List Stamped) (x : Name) → list_any (λ e. has_tree ks (plain e)) es ≡ false → (is_name_among x (names_in (trees es)) && is_name_among x (names_in (trees ks))) ≡ false
none_renamed ks es x n = (λ i. sym (has_name-among es x) i && sym (has_name-among ks x) i) ∙ go (has_name es x) (has_name ks x) (none_is ks es x n)
  where
    go : (a b : Bool) → (a ≡ true → b ≡ false) → (a && b) ≡ false
    go true b f = f refl
    go false b f = refl

pub symbol_there : (es : List Stamped) (i : ℕ) (e : Stamped) (y : Name) → i < length es → e ≡ get_or es i e → plain e ≡ symbol y → has_name es y ≡ true
symbol_there [] i e y l p q = absurd (omega (arith, l))
symbol_there (f ∷ es) zero e y l p q = ap (λ b. b || has_name es y) ((same_decides (symbol y) (plain f)).1 (sym q ∙ ap plain p))
symbol_there (f ∷ es) (suc i) e y l p q = ap (λ b. same (symbol y) (plain f) || b) (symbol_there es i e y (omega (arith, l)) p q) ∙ or_true (same (symbol y) (plain f))
  where
    or_true : (b : Bool) → (b || true) ≡ true
    or_true true = refl
    or_true false = refl

too_long_by : (t : Tree) (es ks : List Stamped) (taken own : List Name) → ((z : Name) → is_name_among z own ≡ is_name_among z taken) → ((y : Name) → t ≡ symbol y → has_name es y ≡ true) → ((y : Name) → t ≡ symbol y → is_name_among y (names_in (trees ks)) ≡ true)
    → IsTooLong own t → OneTooLong (names_in (trees es)) (renamings (names_in (trees ks)) taken (names_in (trees es)))
too_long_by (num n) es ks taken own h m a w = absurd w
too_long_by (text s) es ks taken own h m a w = absurd w
too_long_by (node g us) es ks taken own h m a w = absurd w
too_long_by (symbol y) es ks taken own h m a w =
    let xs = names_in (trees es) in
    let i : is_name_among y xs ≡ true = sym (has_name-among es y) ∙ m y refl in
    let e : renamings (names_in (trees ks)) taken xs y ≡ Some (symbol (new_name own y)) =
    ap (λ b. elim (b && is_name_among y (names_in (trees ks))) [ true ↦ Some (symbol (new_name taken y)) | false ↦ None ]) i
    ∙ ap (λ b. elim b [ true ↦ Some (symbol (new_name taken y)) | false ↦ None ]) (a y refl) ∙ ap (λ z. Some (symbol z)) (sym (new_name-same own taken y h)) in
    record { name = y; among = i; large = λ f. w (subst IsWithinLimits (ap (filled_symbol y) e) f) }

pub too_long : (es : List Stamped) (i : ℕ) (e : Stamped) (ks : List Stamped) (taken own : List Name) → i < length es → e ≡ get_or es i e → has_tree ks (plain e) ≡ true → ((z : Name) → is_name_among z own ≡ is_name_among z taken)
    → IsTooLong own (plain e) → OneTooLong (names_in (trees es)) (renamings (names_in (trees ks)) taken (names_in (trees es)))
too_long es i e ks taken own l p h t w = too_long_by (plain e) es ks taken own t (λ y q. symbol_there es i e y l p q) (arrived_by ks (plain e) true h) w

pub taken_is : (ks es ts us : List Stamped) (ns : List Name) → es ≡ ks → ((x : Name) → has_name ts x ≡ has_name es x) → HasMore ts us ns → (z : Name) → is_name_among z (names_in (trees us)) ≡ is_name_among z (names_in (trees ks) ++ ns)
taken_is ks es ts us ns e h m z =
    sym (has_name-among us z) ∙ m z ∙ ap (λ b. b || is_name_among z ns) (h z ∙ ap (λ vs. has_name vs z) e ∙ has_name-among ks z) ∙ sym (among-append z (names_in (trees ks)) ns)
