-- How local names are read, and bodies with their names in other places.
use Rattle.std.proofs.Common.{◌≡◌, ℕ, zero, suc, ◌+◌, ◌<◌, ◌≤◌, Bool, true, false, ◌&&◌, ◌||◌, List, [], ◌∷◌, ◌++◌, length, map, drop, take, get_or, Option, Some, None, is_some, option_map, Result, Ok, Err, IfOk, refl, sym, ap, ap₂, ◌∙◌, subst, arith, bytes_eq, true≢false}
use Rattle.std.proofs.lemmas.Slice.Eq.{bytes_eq-Decides}
use Rattle.std.proofs.lemmas.List.{map-append, length-map}
use Rattle.std.proofs.lemmas.List.Elements.{All-nil, All-cons, All-head, All-push, All-tail, All-weaker}
use Rattle.std.specs.List.{All, filter_map, list_all, cons_option}
use Rattle.std.specs.Prelude.{codes}
use Rattle.wl_expr.specs.Same.{is_name_among}
use Rattle.wl_expr.specs.Stamped.{Stamped, plain, plains, from_list}
use Rattle.wl_expr.specs.Tree.{Tree, num, text, symbol, node}
use Rattle.wl_expr.specs.Words.{Name, is_the, elements}
use Rattle.wl_shape.specs.Elements.{is_name}
use Rattle.wl_shape.specs.Fill.{filled_symbol, fill, numbered, given, rename, replace}
use Rattle.wl_shape.specs.Names.{names_in}
use Rattle.wl_shape.specs.Scopes as scopes
use Rattle.wl_shape.specs.Scopes.{Needs, local_of, locals_of, with_local}
use Rattle.wl_rules.specs.Stored.{Stored}
use Rattle.wl_state.specs.Honest.{HonestIn, HonestOption}
use Rattle.wl_state.specs.LocalNames.{IsLocal, AreLocals, IsSymbol, AreSymbols, local_in, locals_in, name_in}
use Rattle.wl_state.specs.Played.{trees}
use Rattle.wl_semantics.specs.Scoping.{names_of, values_of}
use Rattle.wl_state.specs.declared.locals.Local.{Local}
use Rattle.wl_state.proofs.Bindings.{drop_item, all_dropped}
use Rattle.wl_state.proofs.Values.{built_honest, list_of_plains, passed_honest}
use Rattle.wl_expr.proofs.Passing.{all_from}
use Rattle.wl_expr.specs.Passed.{IsFrom}
use Rattle.wl_expr.specs.Stamped as stamped
use Rattle.wl_expr.specs.declared.fault.ExprFault.{ExprFault}

-- ---- the list of local names

-- behind those that are read already
abbrev pub behind : List scopes.Local → Option (List scopes.Local) → Option (List scopes.Local)
behind ls o = option_map (λ ms. ls ++ ms) o

pub locals_listed : (k : Needs) (h t : Tree) (xs : List Stamped) → node h (plains (from_list xs)) ≡ t → is_the (codes "List") h ≡ true → scopes.locals k t ≡ locals_of k (trees xs)
locals_listed k h t xs e l =
    sym (ap (scopes.locals k) e)
    ∙ ap (λ (b : Bool). elim b as (λ _. Option (List scopes.Local)) [ true ↦ locals_of k (elements (node h (plains (from_list xs)))) | false ↦ None ]) l
    ∙ ap (locals_of k) (list_of_plains xs)

behind_none : (ls : List scopes.Local) (o : Option scopes.Local) (p : Option (List scopes.Local)) → None ≡ o → None ≡ behind ls (with_local o p)
behind_none ls None p e = refl
behind_none ls (Some l) p e = absurd (let q : None ≡ Some l = e in cc)

behind_more : (ls : List scopes.Local) (l : scopes.Local) (o : Option scopes.Local) (p : Option (List scopes.Local)) → Some l ≡ o → behind ls (with_local o p) ≡ behind (ls ++ l ∷ []) p
behind_more ls l None p e = absurd (let q : Some l ≡ None = e in cc)
behind_more ls l (Some m) None e = refl
behind_more ls l (Some m) (Some ms) e =
    let q : l ≡ m = (let z : Some l ≡ Some m = e in cc) in
    ap Some (ap (λ z. ls ++ z ∷ ms) (sym q) ∙ pushed ls)
  where
    pushed : (ks : List scopes.Local) → (ks ++ l ∷ ms) ≡ ((ks ++ l ∷ []) ++ ms)
    pushed [] = refl
    pushed (k ∷ ks) = ap (λ z. k ∷ z) (pushed ks)

module _ (k : Needs) (xs : List Stamped) (i : ℕ) (x : Stamped) (h : i < length xs) (e : x ≡ get_or xs i x) where
  pub not_a_local : (ls : List scopes.Local) (o : Option Local) → o ≡ None → option_map local_in o ≡ local_of k (plain x) → None ≡ behind ls (locals_of k (trees (drop i xs)))
  not_a_local ls o n q =
      behind_none ls (local_of k (plain x)) (locals_of k (trees (drop (i + 1) xs))) (ap (option_map local_in) (sym n) ∙ q) ∙ sym (ap (λ zs. behind ls (locals_of k (trees zs))) (drop_item xs i x h e))

  pub a_local_more : (ls : List Local) (o : Option Local) (l : Local) (ms : List Local) → o ≡ Some l → option_map local_in o ≡ local_of k (plain x) → ms ≡ ls ++ l ∷ []
      → behind (locals_in ls) (locals_of k (trees (drop i xs))) ≡ behind (locals_in ms) (locals_of k (trees (drop (i + 1) xs)))
  a_local_more ls o l ms n q p =
      ap (λ zs. behind (locals_in ls) (locals_of k (trees zs))) (drop_item xs i x h e)
      ∙ behind_more (locals_in ls) (local_in l) (local_of k (plain x)) (locals_of k (trees (drop (i + 1) xs))) (ap (option_map local_in) (sym n) ∙ q)
      ∙ ap (λ zs. behind zs (locals_of k (trees (drop (i + 1) xs)))) (sym (map-append local_in ls (l ∷ [])) ∙ ap locals_in (sym p))

append_none : (ls : List scopes.Local) → (ls ++ []) ≡ ls
append_none [] = refl
append_none (l ∷ ls) = ap (λ z. l ∷ z) (append_none ls)

pub all_locals : (k : Needs) (xs : List Stamped) (i : ℕ) (ls : List Local) → length xs ≤ i → Some (locals_in ls) ≡ behind (locals_in ls) (locals_of k (trees (drop i xs)))
all_locals k xs i ls h = ap Some (sym (append_none (locals_in ls))) ∙ sym (ap (λ zs. behind (locals_in ls) (locals_of k (trees zs))) (all_dropped xs i h))

-- ---- the place at which a loop over local names stands

pub locals_at : (ls : List Local) (i : ℕ) (l : Local) → i < length ls → l ≡ get_or ls i l → locals_in (drop i ls) ≡ local_in l ∷ locals_in (drop (i + 1) ls)
locals_at ls i l h e = ap locals_in (drop_item ls i l h e)

pub no_locals : (ls : List Local) (i : ℕ) → length ls ≤ i → locals_in (drop i ls) ≡ []
no_locals ls i h = ap locals_in (all_dropped ls i h)

pub locals_push : (ls : List Local) (l : Local) (ms : List Local) → ms ≡ ls ++ l ∷ [] → locals_in ms ≡ locals_in ls ++ local_in l ∷ []
locals_push ls l ms e = ap locals_in e ∙ map-append local_in ls (l ∷ [])

-- ---- names and values of local names

abbrev pub names_at : List Local → List Stamped
names_at ls = map (λ l. l.name) ls

abbrev pub values_at : List Local → List Stamped
values_at ls = filter_map (λ l. l.value) ls

values_one : (o : Option Stamped) (vs ns : List Stamped) → length vs ≤ length ns → length (cons_option o vs) ≤ suc (length ns)
values_one None vs ns h = omega (arith, h)
values_one (Some v) vs ns h = omega (arith, h)

pub values_fewer : (ls : List Local) → length (values_at ls) ≤ length (names_at ls)
values_fewer [] = omega arith
values_fewer (l ∷ ls) = values_one l.value (values_at ls) (names_at ls) (values_fewer ls)

names_in_first : (t : Tree) (ts : List Tree) → t ≡ symbol (name_in t) → names_in (t ∷ ts) ≡ name_in t ∷ names_in ts
names_in_first (num n) ts e = absurd (let q : num n ≡ symbol [] = e in cc)
names_in_first (text s) ts e = absurd (let q : text s ≡ symbol [] = e in cc)
names_in_first (symbol x) ts e = refl
names_in_first (node f us) ts e = absurd (let q : node f us ≡ symbol [] = e in cc)

-- the first names, as many as there are values
pub names_taken : (n : ℕ) (ls : List Local) → AreSymbols ls → names_in (trees (take n (names_at ls))) ≡ take n (names_of (locals_in ls))
names_taken zero ls h = refl
names_taken (suc n) [] h = refl
names_taken (suc n) (l ∷ ls) h =
    names_in_first (plain l.name) (trees (take n (names_at ls))) (All-head (λ (z : Local). IsSymbol z.name) l ls h)
    ∙ ap (λ z. name_in (plain l.name) ∷ z) (names_taken n ls (All-tail (λ (z : Local). IsSymbol z.name) l ls h))

pub symbols_names : (ls : List Local) → AreSymbols ls → names_in (trees (names_at ls)) ≡ names_of (locals_in ls)
symbols_names [] h = refl
symbols_names (l ∷ ls) h =
    names_in_first (plain l.name) (trees (names_at ls)) (All-head (λ (z : Local). IsSymbol z.name) l ls h)
    ∙ ap (λ z. name_in (plain l.name) ∷ z) (symbols_names ls (All-tail (λ (z : Local). IsSymbol z.name) l ls h))

pub symbols_are : (n : ℕ) (ls : List Local) → AreSymbols ls → list_all is_name (trees (take n (names_at ls))) ≡ true
symbols_are zero ls h = refl
symbols_are (suc n) [] h = refl
symbols_are (suc n) (l ∷ ls) h =
    ap (λ z. is_name z && list_all is_name (trees (take n (names_at ls)))) (All-head (λ (z : Local). IsSymbol z.name) l ls h) ∙ symbols_are n ls (All-tail (λ (z : Local). IsSymbol z.name) l ls h)

pub all_symbols : (ls : List Local) → AreSymbols ls → list_all is_name (trees (names_at ls)) ≡ true
all_symbols [] h = refl
all_symbols (l ∷ ls) h =
    ap (λ z. is_name z && list_all is_name (trees (names_at ls))) (All-head (λ (z : Local). IsSymbol z.name) l ls h) ∙ all_symbols ls (All-tail (λ (z : Local). IsSymbol z.name) l ls h)

value_more : (o : Option Stamped) (vs : List Stamped) → trees (cons_option o vs) ≡ cons_option (option_map plain o) (trees vs)
value_more None vs = refl
value_more (Some v) vs = refl

pub values_are : (ls : List Local) → trees (values_at ls) ≡ values_of (locals_in ls)
values_are [] = refl
values_are (l ∷ ls) = value_more l.value (values_at ls) ∙ ap (cons_option (option_map plain l.value)) (values_are ls)

given_taken : (xs : List Name) (ts : List Tree) (x : Name) → given (take (length ts) xs) ts x ≡ given xs ts x
given_taken [] [] x = refl
given_taken [] (t ∷ ts) x = refl
given_taken (y ∷ ys) [] x = refl
given_taken (y ∷ ys) (t ∷ ts) x = ap (λ (o : Option Tree). elim (bytes_eq x y) [ true ↦ Some t | false ↦ o ]) (given_taken ys ts x)

pub replace_taken : (b : Tree) (xs : List Name) (ts : List Tree) → replace b (take (length ts) xs) ts ≡ replace b xs ts
replace_taken b xs ts = λ i. fill (λ x. given_taken xs ts x i) b

-- the names, as many as there are values, and the values
pub replaced_is : (b : Tree) (ls : List Local) (us vs : List Stamped) → AreSymbols ls → us ≡ take (length (values_at ls)) (names_at ls) → vs ≡ values_at ls
    → replace b (names_in (trees us)) (trees vs) ≡ replace b (names_of (locals_in ls)) (values_of (locals_in ls))
replaced_is b ls us vs h p q =
    ap₂ (λ (xs ys : List Stamped). replace b (names_in (trees xs)) (trees ys)) p q
    ∙ ap (λ (xs : List Name). replace b xs (trees (values_at ls))) (names_taken (length (values_at ls)) ls h)
    ∙ ap (λ (m : ℕ). replace b (take m (names_of (locals_in ls))) (trees (values_at ls))) (sym (length-map (values_at ls) plain))
    ∙ replace_taken b (names_of (locals_in ls)) (trees (values_at ls))
    ∙ ap (λ (ts : List Tree). replace b (names_of (locals_in ls)) ts) (values_are ls)

-- ---- a numbered name

pub numbered_is : (t : Tree) (n : ℕ) → t ≡ symbol (name_in t) → rename t (names_in (t ∷ [])) n ≡ symbol (numbered n (name_in t))
numbered_is (num m) n e = absurd (let q : num m ≡ symbol [] = e in cc)
numbered_is (text s) n e = absurd (let q : text s ≡ symbol [] = e in cc)
numbered_is (symbol x) n e = ap (λ (b : Bool). filled_symbol x (elim b [ true ↦ Some (symbol (numbered n x)) | false ↦ None ])) (same_name x)
  where
    same_name : (y : Name) → is_name_among y (y ∷ []) ≡ true
    same_name y = ap (λ (b : Bool). b || is_name_among y []) ((bytes_eq-Decides y y).1 refl)
numbered_is (node f us) n e = absurd (let q : node f us ≡ symbol [] = e in cc)

-- ---- what stays honest

pub named_symbol : (t : Tree) → is_name t ≡ true → t ≡ symbol (name_in t)
named_symbol (num n) h = absurd (true≢false (sym h))
named_symbol (text s) h = absurd (true≢false (sym h))
named_symbol (symbol x) h = refl
named_symbol (node f us) h = absurd (true≢false (sym h))

pub are_symbols : (a : Stored) (ls : List Local) → AreLocals a ls → AreSymbols ls
are_symbols a ls h = All-weaker (IsLocal a) (λ (l : Local). IsSymbol l.name) (λ l w. w.symbol) ls h

pub honest_names : (a : Stored) (ls : List Local) → AreLocals a ls → All (HonestIn a) (names_at ls)
honest_names a [] h = All-nil (HonestIn a)
honest_names a (l ∷ ls) h = All-cons (HonestIn a) l.name (names_at ls) (All-head (IsLocal a) l ls h).name (honest_names a ls (All-tail (IsLocal a) l ls h))

value_honest : (a : Stored) (o : Option Stamped) (vs : List Stamped) → HonestOption a o → All (HonestIn a) vs → All (HonestIn a) (cons_option o vs)
value_honest a None vs w r = r
value_honest a (Some v) vs w r = All-cons (HonestIn a) v vs w r

pub honest_values : (a : Stored) (ls : List Local) → AreLocals a ls → All (HonestIn a) (values_at ls)
honest_values a [] h = All-nil (HonestIn a)
honest_values a (l ∷ ls) h = value_honest a l.value (values_at ls) (All-head (IsLocal a) l ls h).value (honest_values a ls (All-tail (IsLocal a) l ls h))

-- nothing is there
pub none_of : {X : Type 0} (o : Option X) → false ≡ is_some o → None ≡ o
none_of None e = refl
none_of (Some x) e = absurd (true≢false (sym e))

-- what is filled hands on the stamps of the body and of the values
pub renamed_honest : (a : Stored) (b : Stamped) (r : Result Stamped ExprFault) → ((ms : List Stamped) → IsFrom ms b → IfOk r (IsFrom ms)) → HonestIn a b → IfOk r (HonestIn a)
renamed_honest a b (Ok e) f h = passed_honest a b e f h
renamed_honest a b (Err d) f h = tt

pub replaced_honest : (a : Stored) (b : Stamped) (vs : List Stamped) (r : Result Stamped ExprFault) → ((ms : List Stamped) → IsFrom ms b → All (IsFrom ms) vs → IfOk r (IsFrom ms)) → HonestIn a b → All (HonestIn a) vs → IfOk r (HonestIn a)
replaced_honest a b vs (Ok e) f h w = passed_honest a (stamped.node None b (from_list vs)) e (λ ms g. f ms g.0 (all_from ms vs g.1)) (built_honest a b vs h w)
replaced_honest a b vs (Err d) f h w = tt

-- a symbol and its value, copied out of honest elements
pub local_honest : (a : Stored) (es : List Stamped) (n v x y : Stamped) → es ≡ n ∷ v ∷ [] → All (HonestIn a) es → x ≡ n → y ≡ v → is_name (plain n) ≡ true → IsLocal a (record { name = x; value = Some y })
local_honest a es n v x y q w e f s =
    let g = subst (All (HonestIn a)) q w in
    let r : IsSymbol x = subst IsSymbol (sym e) (named_symbol (plain n) s) in
    let u : HonestIn a x = subst (HonestIn a) (sym e) (All-head (HonestIn a) n (v ∷ []) g) in
    let z : HonestIn a y = subst (HonestIn a) (sym f) (All-head (HonestIn a) v [] (All-tail (HonestIn a) n (v ∷ []) g)) in
    record { symbol = r; name = u; value = z }

pub locals_honest_push : (a : Stored) (ls : List Local) (l : Local) (ms : List Local) → ms ≡ ls ++ l ∷ [] → AreLocals a ls → IsLocal a l → AreLocals a ms
locals_honest_push a ls l ms e h w = subst (AreLocals a) (sym e) (All-push (IsLocal a) ls l h w)
