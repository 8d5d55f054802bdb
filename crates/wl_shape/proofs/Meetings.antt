-- The names that filling reaches, as the code meets them.
use Rattle.std.proofs.Common.{◌≡◌, Bool, true, false, ◌||◌, ◌&&◌, not, List, [], ◌∷◌, ◌++◌, map, get_or, drop, length, ℕ, ◌<◌, ◌≤◌, ◌+◌, refl, sym, ap, ◌∙◌, subst, arith}
use Rattle.std.proofs.lemmas.List.{drop_all}
use Rattle.std.specs.List.{list_any}
use Rattle.std.specs.Prelude.{Option, Some, None, option_map, bytes_eq}
use Rattle.wl_expr.proofs.Items.{two_items}
use Rattle.wl_expr.specs.Same.{same, same_decides, is_name_among}
use Rattle.wl_expr.specs.Stamped as stamped
use Rattle.wl_expr.specs.Stamped.{Stamped, plain, plains, from_list}
use Rattle.wl_expr.specs.Tree.{Tree, Trees, num, text, symbol, node, none, more, depth, depths}
use Rattle.wl_expr.specs.Words.{Name}
use Rattle.wl_shape.specs.Answers.{trees}
use Rattle.wl_shape.specs.Fill.{except_names, names, reached, reached_all, reached_first, reached_formal, reached_formals, reached_scope}
use Rattle.wl_shape.specs.Locals.{symbols_in, two_of}
use Rattle.wl_shape.specs.Names.{has_name, has_tree, HasMet, HasOneMore, names_in}
use Rattle.wl_shape.specs.Scopes.{parameters}
use Rattle.wl_shape.proofs.Members.{among-append, among-except, itself, one_name, or_assoc, or_false}
use Rattle.wl_shape.proofs.Splits.{next_of}

and_false : (a : Bool) → (a && false) ≡ false
and_false true = refl
and_false false = refl

and_or : (t a b : Bool) → ((t && a) || (t && b)) ≡ (t && (a || b))
and_or true a b = refl
and_or false a b = refl

-- ---- names in symbols

pub names_in-symbols : (xs : List Name) → names_in (map symbol xs) ≡ xs
names_in-symbols [] = refl
names_in-symbols (x ∷ xs) = ap (λ ys. x ∷ ys) (names_in-symbols xs)

pub known_parameters : (us : List Tree) (p : Option (List Name)) → Some us ≡ symbols_in p → p ≡ Some (names_in us)
known_parameters us None e = cc
known_parameters us (Some xs) e = let q : us ≡ map symbol xs = cc in ap Some (sym (ap names_in q ∙ names_in-symbols xs))

pub no_parameters : (p : Option (List Name)) → ◌≡◌ {A = Option (List Tree)} None (symbols_in p) → p ≡ None
no_parameters None e = refl
no_parameters (Some xs) e = cc

pub has_name-among : (ks : List Stamped) (x : Name) → has_name ks x ≡ is_name_among x (names_in (trees ks))
has_name-among [] x = refl
has_name-among (stamped.num n ∷ ks) x = has_name-among ks x
has_name-among (stamped.text s ∷ ks) x = has_name-among ks x
has_name-among (stamped.symbol p y ∷ ks) x = ap (λ b. bytes_eq x y || b) (has_name-among ks x)
has_name-among (stamped.node p h ts ∷ ks) x = has_name-among ks x

-- ---- one name

met_symbol : (ts ks ls : List Stamped) (x y : Name) (b : Bool) → has_name ts y ≡ true → bytes_eq x y ≡ b → has_name ls x ≡ (has_name ks x || b) → has_name ls x ≡ (has_name ks x || (has_name ts x && (bytes_eq x y || false)))
met_symbol ts ks ls x y true h e m =
    let t : has_name ts x ≡ true = ap (has_name ts) (one_name x y e) ∙ h in
    m ∙ ap (λ b. has_name ks x || b) (sym (ap (λ b. b && (bytes_eq x y || false)) t ∙ ap (λ b. b || false) e))
met_symbol ts ks ls x y false h e m = m ∙ ap (λ b. has_name ks x || b) (sym (ap (λ b. has_name ts x && (b || false)) e ∙ and_false (has_name ts x)))

no_symbol : (ts ks ls : List Stamped) (x : Name) → has_name ls x ≡ (has_name ks x || false) → has_name ls x ≡ (has_name ks x || (has_name ts x && false))
no_symbol ts ks ls x m = m ∙ ap (λ b. has_name ks x || b) (sym (and_false (has_name ts x)))

pub symbol_met : (ts ks ls : List Stamped) (t : Tree) → has_tree ts t ≡ true → HasOneMore ks ls t → HasMet ts ks ls (names_in (t ∷ []))
symbol_met ts ks ls (num n) h m x = no_symbol ts ks ls x (m (symbol x))
symbol_met ts ks ls (text s) h m x = no_symbol ts ks ls x (m (symbol x))
symbol_met ts ks ls (symbol y) h m x = met_symbol ts ks ls x y (bytes_eq x y) h refl (m (symbol x))
symbol_met ts ks ls (node g us) h m x = no_symbol ts ks ls x (m (symbol x))

passed_over : (ts ks : List Stamped) (x y : Name) (b : Bool) → has_name ts y ≡ false → bytes_eq x y ≡ b → has_name ks x ≡ (has_name ks x || (has_name ts x && (bytes_eq x y || false)))
passed_over ts ks x y true h e =
    let t : has_name ts x ≡ false = ap (has_name ts) (one_name x y e) ∙ h in
    sym (ap (λ b. has_name ks x || (b && (bytes_eq x y || false))) t ∙ or_false (has_name ks x))
passed_over ts ks x y false h e = sym (ap (λ b. has_name ks x || (has_name ts x && (b || false))) e ∙ ap (λ b. has_name ks x || b) (and_false (has_name ts x)) ∙ or_false (has_name ks x))

none_passed_over : (ts ks : List Stamped) (x : Name) → has_name ks x ≡ (has_name ks x || (has_name ts x && false))
none_passed_over ts ks x = sym (ap (λ b. has_name ks x || b) (and_false (has_name ts x)) ∙ or_false (has_name ks x))

pub symbol_passed_over : (ts ks : List Stamped) (t : Tree) → has_tree ts t ≡ false → HasMet ts ks ks (names_in (t ∷ []))
symbol_passed_over ts ks (num n) h x = none_passed_over ts ks x
symbol_passed_over ts ks (text s) h x = none_passed_over ts ks x
symbol_passed_over ts ks (symbol y) h x = passed_over ts ks x y (bytes_eq x y) h refl
symbol_passed_over ts ks (node g us) h x = none_passed_over ts ks x

-- ---- one after another

pub met_none : (ts ks : List Stamped) → HasMet ts ks ks []
met_none ts ks x = none_passed_over ts ks x

met_by : (k t a b : Bool) → ((k || (t && a)) || (t && b)) ≡ (k || (t && (a || b)))
met_by k t a b = or_assoc k (t && a) (t && b) ∙ ap (λ c. k || c) (and_or t a b)

pub met_then : (ts ks ls ms : List Stamped) (xs ys : List Name) → HasMet ts ks ls xs → HasMet ts ls ms ys → HasMet ts ks ms (xs ++ ys)
met_then ts ks ls ms xs ys p q x =
    q x ∙ ap (λ b. b || (has_name ts x && is_name_among x ys)) (p x) ∙ met_by (has_name ks x) (has_name ts x) (is_name_among x xs) (is_name_among x ys)
    ∙ ap (λ b. has_name ks x || (has_name ts x && b)) (sym (among-append x xs ys))

-- a loop over elements, of which f tells what is reached
pub next_met : (f : List Stamped → List Name) (g : Tree → List Name) → ((e : Stamped) (es : List Stamped) → f (e ∷ es) ≡ g (plain e) ++ f es)
    → (es : List Stamped) (i : ℕ) (e : Stamped) (ts ks ls : List Stamped) → i < length es → e ≡ get_or es i e → HasMet ts ks ls (g (plain e))
    → (x : Name) → (has_name ks x || (has_name ts x && is_name_among x (f (drop i es)))) ≡ (has_name ls x || (has_name ts x && is_name_among x (f (drop (i + 1) es))))
next_met f g split es i e ts ks ls l p m x =
    let rest = f (drop (i + 1) es) in
    ap (λ us. has_name ks x || (has_name ts x && is_name_among x us)) (ap f (next_of es i e l p) ∙ split e (drop (i + 1) es))
    ∙ ap (λ b. has_name ks x || (has_name ts x && b)) (among-append x (g (plain e)) rest)
    ∙ sym (met_by (has_name ks x) (has_name ts x) (is_name_among x (g (plain e))) (is_name_among x rest))
    ∙ ap (λ b. b || (has_name ts x && is_name_among x rest)) (sym (m x))

pub last_met : (f : List Stamped → List Name) → f [] ≡ [] → (es : List Stamped) (i : ℕ) (ts ks : List Stamped) (x : Name) → length es ≤ i → (has_name ks x || (has_name ts x && is_name_among x (f (drop i es)))) ≡ has_name ks x
last_met f z es i ts ks x l = ap (λ us. has_name ks x || (has_name ts x && is_name_among x us)) (ap f (drop_all i es l) ∙ z) ∙ sym (none_passed_over ts ks x)

-- ---- targets without those that are shadowed

none_of : (ts es : List Stamped) (e : Stamped) (x : Name) (a b : Bool) → has_tree ts (plain e) ≡ a → same (symbol x) (plain e) ≡ b → (a || list_any (λ e. has_tree ts (plain e)) es) ≡ false → (b || has_name es x) ≡ true
    → (list_any (λ e. has_tree ts (plain e)) es ≡ false → has_name es x ≡ true → has_name ts x ≡ false) → has_name ts x ≡ false
none_of ts es e x true b p q n h r = cc
none_of ts es e x false true p q n h r = ap (has_tree ts) ((same_decides (symbol x) (plain e)).0 q) ∙ p
none_of ts es e x false false p q n h r = r n h

pub none_is : (ts es : List Stamped) (x : Name) → list_any (λ e. has_tree ts (plain e)) es ≡ false → has_name es x ≡ true → has_name ts x ≡ false
none_is ts [] x n h = cc
none_is ts (e ∷ es) x n h = none_of ts es e x (has_tree ts (plain e)) (same (symbol x) (plain e)) refl refl n h (none_is ts es x)

-- where no target is shadowed
pub all_stay : (ts es : List Stamped) (x : Name) → list_any (λ e. has_tree ts (plain e)) es ≡ false → has_name ts x ≡ (has_name ts x && not (has_name es x))
all_stay ts es x n = go (has_name es x) (has_name ts x) (none_is ts es x n)
  where
    go : (b a : Bool) → (b ≡ true → a ≡ false) → a ≡ (a && not b)
    go true true h = h refl
    go true false h = refl
    go false true h = refl
    go false false h = refl

shadowed_by : (ts ns : List Stamped) (e : Stamped) (x : Name) (a : Bool) → ((x : Name) → has_name ts x ≡ has_name ns x) → has_tree ts (plain e) ≡ a → same (symbol x) (plain e) ≡ true → has_name ns x ≡ a
shadowed_by ts ns e x a h p q = sym (h x) ∙ ap (has_tree ts) ((same_decides (symbol x) (plain e)).0 q) ∙ p

-- a target that is shadowed is left out
pub next_shadowed : (es : List Stamped) (i : ℕ) (e : Stamped) (ts ns ks : List Stamped) → i < length es → e ≡ get_or es i e → ((x : Name) → has_name ts x ≡ has_name ns x) → has_tree ts (plain e) ≡ true
    → (x : Name) → (has_name ks x || (has_name (drop i es) x && not (has_name ns x))) ≡ (has_name ks x || (has_name (drop (i + 1) es) x && not (has_name ns x)))
next_shadowed es i e ts ns ks l p s h x =
    ap (λ us. has_name ks x || (has_name us x && not (has_name ns x))) (next_of es i e l p)
    ∙ ap (λ b. has_name ks x || b) (go (same (symbol x) (plain e)) (has_name (drop (i + 1) es) x) (has_name ns x) (shadowed_by ts ns e x true s h))
  where
    go : (a r n : Bool) → (a ≡ true → n ≡ true) → ((a || r) && not n) ≡ (r && not n)
    go true true n f = refl
    go true false true f = refl
    go true false false f = sym (f refl)
    go false r n f = refl

-- another is kept
pub next_unshadowed : (es : List Stamped) (i : ℕ) (e : Stamped) (ts ns ks ls : List Stamped) → i < length es → e ≡ get_or es i e → ((x : Name) → has_name ts x ≡ has_name ns x) → has_tree ts (plain e) ≡ false → HasOneMore ks ls (plain e)
    → (x : Name) → (has_name ks x || (has_name (drop i es) x && not (has_name ns x))) ≡ (has_name ls x || (has_name (drop (i + 1) es) x && not (has_name ns x)))
next_unshadowed es i e ts ns ks ls l p s h m x =
    ap (λ us. has_name ks x || (has_name us x && not (has_name ns x))) (next_of es i e l p)
    ∙ go (has_name ks x) (same (symbol x) (plain e)) (has_name (drop (i + 1) es) x) (has_name ns x) (shadowed_by ts ns e x false s h)
    ∙ ap (λ b. b || (has_name (drop (i + 1) es) x && not (has_name ns x))) (sym (m (symbol x)))
  where
    go : (k a r n : Bool) → (a ≡ true → n ≡ false) → (k || ((a || r) && not n)) ≡ ((k || a) || (r && not n))
    go true a r n f = refl
    go false true r true f = sym (f refl)
    go false true r false f = refl
    go false false r n f = refl

pub last_shadowed : (es : List Stamped) (i : ℕ) (ns ks : List Stamped) (x : Name) → length es ≤ i → (has_name ks x || (has_name (drop i es) x && not (has_name ns x))) ≡ has_name ks x
last_shadowed es i ns ks x l = ap (λ us. has_name ks x || (has_name us x && not (has_name ns x))) (drop_all i es l) ∙ or_false (has_name ks x)

-- ---- by the form of a tree

pub reached_in_scope : (h : Tree) (ts : Trees) (us : List Tree) → Some us ≡ symbols_in (parameters h ts) → reached h ++ reached_scope (names_in us) ts ≡ reached (node h ts)
reached_in_scope h ts us e = sym (ap (λ o. reached h ++ elim o [ None ↦ reached_all ts | Some xs ↦ reached_scope xs ts ]) (known_parameters us (parameters h ts) e))

pub reached_in_node : (h : Tree) (ts : Trees) → ◌≡◌ {A = Option (List Tree)} None (symbols_in (parameters h ts)) → reached h ++ reached_all ts ≡ reached (node h ts)
reached_in_node h ts e = sym (ap (λ o. reached h ++ elim o [ None ↦ reached_all ts | Some xs ↦ reached_scope xs ts ]) (no_parameters (parameters h ts) e))

pub no_scope : (h : Tree) → parameters h none ≡ None
no_scope (num n) = refl
no_scope (text s) = refl
no_scope (symbol x) = refl
no_scope (node g us) = refl

pub no_scope_of_one : (h t : Tree) → parameters h (more t none) ≡ None
no_scope_of_one (num n) t = refl
no_scope_of_one (text s) t = refl
no_scope_of_one (symbol x) t = refl
no_scope_of_one (node g us) t = refl

pub no_scope_of_more : (h t u v : Tree) (ts : Trees) → parameters h (more t (more u (more v ts))) ≡ None
no_scope_of_more (num n) t u v ts = refl
no_scope_of_more (text s) t u v ts = refl
no_scope_of_more (symbol x) t u v ts = refl
no_scope_of_more (node g us) t u v ts = refl

pub refuted : {X : Type 0} (us : List Tree) (p : Option (List Name)) → p ≡ None → Some us ≡ symbols_in p → X
refuted us p n e = let q : Some us ≡ symbols_in None = e ∙ ap symbols_in n in cc

-- a scope has two elements
pub scope_of_two : (h : Tree) (es : List Stamped) (us : List Tree) → Some us ≡ symbols_in (parameters h (plains (from_list es))) → length es ≡ 2
scope_of_two h [] us e = refuted us (parameters h none) (no_scope h) e
scope_of_two h (a ∷ []) us e = refuted us (parameters h (more (plain a) none)) (no_scope_of_one h (plain a)) e
scope_of_two h (a ∷ b ∷ []) us e = refl
scope_of_two h (a ∷ b ∷ d ∷ es) us e = refuted us (parameters h (plains (from_list (a ∷ b ∷ d ∷ es)))) (no_scope_of_more h (plain a) (plain b) (plain d) (plains (from_list es))) e

-- of its two elements
pub both_of : (es : List Stamped) (a b : Stamped) → length es ≡ 2 → a ≡ get_or es 0 a → b ≡ get_or es 1 b → plains (from_list es) ≡ more (plain a) (more (plain b) none)
both_of es a b l p q = ap (λ us. plains (from_list us)) (two_items es a b l p q)

except_met : (ts os ns ks ls : List Stamped) (xs : List Name) → ((x : Name) → has_name os x ≡ (has_name ts x && not (has_name ns x))) → HasMet os ks ls xs → HasMet ts ks ls (except_names (names_in (trees ns)) xs)
except_met ts os ns ks ls xs o m x =
    m x ∙ ap (λ b. has_name ks x || b) (ap (λ b. b && is_name_among x xs) (o x) ∙ go (has_name ts x) (has_name ns x) (is_name_among x xs)
    ∙ ap (λ b. has_name ts x && (is_name_among x xs && not b)) (has_name-among ns x) ∙ ap (λ b. has_name ts x && b) (sym (among-except x (names_in (trees ns)) xs)))
  where
    go : (t n a : Bool) → ((t && not n) && a) ≡ (t && (a && not n))
    go true true true = refl
    go true true false = refl
    go true false true = refl
    go true false false = refl
    go false n a = refl

pub scope_met : (ts os ns ks ls ms es : List Stamped) (a b : Stamped) → length es ≡ 2 → a ≡ get_or es 0 a → b ≡ get_or es 1 b → ((x : Name) → has_name os x ≡ (has_name ts x && not (has_name ns x)))
    → HasMet ts ks ls (reached_first (plain a)) → HasMet os ls ms (reached (plain b)) → HasMet ts ks ms (reached_scope (names_in (trees ns)) (plains (from_list es)))
scope_met ts os ns ks ls ms es a b l p q o f m =
    subst (λ us. HasMet ts ks ms (reached_scope (names_in (trees ns)) us)) (sym (both_of es a b l p q))
    (met_then ts ks ls ms (reached_first (plain a)) (except_names (names_in (trees ns)) (reached (plain b))) f (except_met ts os ns ls ms (reached (plain b)) o m))

abbrev second_of : Option (Tree × Tree) → Tree → Tree
second_of None d = d
second_of (Some p) d = p.1

pub reached_in_formal : (h : Tree) (ts : Trees) (t u : Tree) → Some (t, u) ≡ two_of ts → reached h ++ reached u ≡ reached_formal (node h ts)
reached_in_formal h none t u e = cc
reached_in_formal h (more v none) t u e = cc
reached_in_formal h (more v (more w none)) t u e = ap (λ o. reached h ++ reached (second_of o u)) e
reached_in_formal h (more v (more w (more y ts))) t u e = cc

pub none_in_formal : (h : Tree) (ts : Trees) → ◌≡◌ {A = Option (Tree × Tree)} None (two_of ts) → reached_formal (node h ts) ≡ []
none_in_formal h none e = refl
none_in_formal h (more v none) e = refl
none_in_formal h (more v (more w none)) e = cc
none_in_formal h (more v (more w (more y ts))) e = refl

-- ---- depths

pub second_falls : (ts : Trees) (t u : Tree) → Some (t, u) ≡ two_of ts → depth u ≤ depths ts
second_falls none t u e = cc
second_falls (more v none) t u e = cc
second_falls (more v (more w none)) t u e = let p : depth u ≡ depth w = ap (λ o. depth (second_of o u)) e in omega (arith, p)
second_falls (more v (more w (more y ts))) t u e = cc
