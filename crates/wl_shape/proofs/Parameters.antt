-- The parameters of a scope, by the symbols that stand for them.
use Rattle.std.proofs.Common.{◌≡◌, ℕ, ◌<◌, ◌≤◌, ◌+◌, Bool, true, false, List, [], ◌∷◌, ◌++◌, length, get_or, drop, append_assoc, refl, sym, ap, ◌∙◌}
use Rattle.std.proofs.lemmas.List.{append-nil, drop_all}
use Rattle.std.specs.Prelude.{Option, Some, None, option_map, codes}
use Rattle.std.specs.List.{list_all}
use Rattle.wl_expr.proofs.Items.{two_items}
use Rattle.wl_expr.specs.Stamped.{Stamped, plain, plains, from_list}
use Rattle.wl_expr.specs.Tree.{Tree, Trees, num, text, symbol, node, none, more}
use Rattle.wl_expr.specs.Words.{Name, is_list, elements, names_of, with_first, is_the}
use Rattle.wl_shape.specs.Answers.{trees}
use Rattle.wl_shape.specs.Elements.{is_name, list_elements}
use Rattle.wl_shape.specs.Locals.{symbols_in, local_name, with_name, local_names, behind, two_of}
use Rattle.wl_shape.specs.Scopes.{Needs, values, names, Local, local_of, parameters, parameters_by, with_local, locals_of, locals, names_in, function_names}
use Rattle.wl_shape.proofs.Splits.{next_of}

-- ---- names

with_one : (x : Name) (o : Option (List Name)) → symbols_in (with_first (Some x) o) ≡ with_name (Some (symbol x)) (symbols_in o)
with_one x None = refl
with_one x (Some xs) = refl

pub all_names : (ts : List Tree) → list_all is_name ts ≡ true → Some ts ≡ symbols_in (names_of ts)
all_names [] p = refl
all_names (symbol x ∷ ts) p = sym (with_one x (names_of ts) ∙ ap (with_name (Some (symbol x))) (sym (all_names ts p)))
all_names (num n ∷ ts) p = cc
all_names (text s ∷ ts) p = cc
all_names (node h us ∷ ts) p = cc

pub not_all_names : (ts : List Tree) → list_all is_name ts ≡ false → None ≡ symbols_in (names_of ts)
not_all_names [] p = cc
not_all_names (symbol x ∷ ts) p = sym (with_one x (names_of ts) ∙ ap (with_name (Some (symbol x))) (sym (not_all_names ts p)))
not_all_names (num n ∷ ts) p = refl
not_all_names (text s ∷ ts) p = refl
not_all_names (node h us ∷ ts) p = refl

-- ---- a function's

pub one_name : (t : Tree) → is_name t ≡ true → Some (t ∷ []) ≡ symbols_in (function_names t)
one_name (symbol x) p = refl
one_name (num n) p = cc
one_name (text s) p = cc
one_name (node h ts) p = cc

function_names_by : (t : Tree) → is_name t ≡ false → function_names t ≡ elim (is_list t) [ true ↦ names_of (elements t) | false ↦ None ]
function_names_by (symbol x) p = cc
function_names_by (num n) p = refl
function_names_by (text s) p = refl
function_names_by (node h ts) p = refl

in_list : {A : Type 0} (f : List Tree → Option A) (t : Tree) (ts : List Tree) → Some ts ≡ list_elements t → elim (is_list t) [ true ↦ f (elements t) | false ↦ None ] ≡ f ts
in_list f t ts p = go (is_list t) p
  where
    go : (b : Bool) → Some ts ≡ elim b [ true ↦ Some (elements t) | false ↦ None ] → elim b [ true ↦ f (elements t) | false ↦ None ] ≡ f ts
    go true q = let e : elements t ≡ ts = cc in ap f e
    go false q = cc

no_list : {A : Type 0} (f : List Tree → Option A) (t : Tree) → ◌≡◌ {A = Option (List Tree)} None (list_elements t) → ◌≡◌ {A = Option A} (elim (is_list t) [ true ↦ f (elements t) | false ↦ None ]) None
no_list {A = A} f t p = go (is_list t) p
  where
    go : (b : Bool) → ◌≡◌ {A = Option (List Tree)} None (elim b [ true ↦ Some (elements t) | false ↦ None ]) → ◌≡◌ {A = Option A} (elim b [ true ↦ f (elements t) | false ↦ None ]) None
    go true q = cc
    go false q = refl

pub listed_names : (t : Tree) (ts : List Tree) → is_name t ≡ false → Some ts ≡ list_elements t → list_all is_name ts ≡ true → Some ts ≡ symbols_in (function_names t)
listed_names t ts p l a = all_names ts a ∙ ap symbols_in (sym (function_names_by t p ∙ in_list names_of t ts l))

pub listed_others : (t : Tree) (ts : List Tree) → is_name t ≡ false → Some ts ≡ list_elements t → list_all is_name ts ≡ false → None ≡ symbols_in (function_names t)
listed_others t ts p l a = not_all_names ts a ∙ ap symbols_in (sym (function_names_by t p ∙ in_list names_of t ts l))

pub unlisted : (t : Tree) → is_name t ≡ false → ◌≡◌ {A = Option (List Tree)} None (list_elements t) → None ≡ symbols_in (function_names t)
unlisted t p l = ap symbols_in (sym (function_names_by t p ∙ no_list names_of t l))

-- ---- those of Module and With

local_names-symbols : (k : Needs) (ts : List Tree) → local_names k ts ≡ symbols_in (names_in (locals_of k ts))
local_names-symbols k [] = refl
local_names-symbols k (t ∷ ts) = go (local_of k t) (locals_of k ts) (local_names-symbols k ts)
  where
    go : (o : Option Local) (p : Option (List Local)) → local_names k ts ≡ symbols_in (names_in p) → with_name (option_map (λ l. symbol l.name) o) (local_names k ts) ≡ symbols_in (names_in (with_local o p))
    go None p e = refl
    go (Some l) None e = ap (with_name (Some (symbol l.name))) e
    go (Some l) (Some ls) e = ap (with_name (Some (symbol l.name))) e

pub listed_locals : (k : Needs) (t : Tree) (ts : List Tree) → Some ts ≡ list_elements t → symbols_in (names_in (locals k t)) ≡ local_names k ts
listed_locals k t ts p = ap (λ o. symbols_in (names_in o)) (in_list (locals_of k) t ts p) ∙ sym (local_names-symbols k ts)

pub unlisted_locals : (k : Needs) (t : Tree) → ◌≡◌ {A = Option (List Tree)} None (list_elements t) → None ≡ symbols_in (names_in (locals k t))
unlisted_locals k t p = ap (λ o. symbols_in (names_in o)) (sym (no_list (locals_of k) t p))

one_behind : (ts : List Tree) (t : Tree) (o : Option (List Tree)) → behind ts (with_name (Some t) o) ≡ behind (ts ++ t ∷ []) o
one_behind ts t None = refl
one_behind ts t (Some us) = ap Some (sym (append_assoc ts (t ∷ []) us))

pub next_local : (k : Needs) (es before after : List Stamped) (i : ℕ) (e n : Stamped) (start : Option (List Tree)) → i < length es → e ≡ get_or es i e → start ≡ behind (trees before) (local_names k (trees (drop i es)))
    → trees after ≡ trees before ++ plain n ∷ [] → Some (plain n) ≡ local_name k (plain e) → start ≡ behind (trees after) (local_names k (trees (drop (i + 1) es)))
next_local k es before after i e n start l p v a m =
    let rest = local_names k (trees (drop (i + 1) es)) in
    v ∙ ap (λ (us : List Stamped). behind (trees before) (local_names k (trees us))) (next_of es i e l p) ∙ ap (λ o. behind (trees before) (with_name o rest)) (sym m)
    ∙ one_behind (trees before) (plain n) rest ∙ ap (λ us. behind us rest) (sym a)

pub no_local : (k : Needs) (es before : List Stamped) (i : ℕ) (e : Stamped) (start : Option (List Tree)) → i < length es → e ≡ get_or es i e → start ≡ behind (trees before) (local_names k (trees (drop i es)))
    → ◌≡◌ {A = Option Tree} None (local_name k (plain e)) → None ≡ start
no_local k es before i e start l p v m =
    let rest = local_names k (trees (drop (i + 1) es)) in
    sym (v ∙ ap (λ (us : List Stamped). behind (trees before) (local_names k (trees us))) (next_of es i e l p) ∙ ap (λ o. behind (trees before) (with_name o rest)) (sym m))

pub all_local : (k : Needs) (es ns : List Stamped) (i : ℕ) (start : Option (List Tree)) → length es ≤ i → start ≡ behind (trees ns) (local_names k (trees (drop i es))) → Some (trees ns) ≡ start
all_local k es ns i start l v = sym (v ∙ ap (λ (us : List Stamped). behind (trees ns) (local_names k (trees us))) (drop_all i es l) ∙ ap Some (append-nil (trees ns)))

-- ---- of two elements

pub in_two : (ts : List Stamped) (t u : Stamped) → ts ≡ t ∷ u ∷ [] → Some (plain t, plain u) ≡ two_of (plains (from_list ts))
in_two ts t u p = sym (ap (λ us. two_of (plains (from_list us))) p)

pub these_two : (ts : List Stamped) (t u : Stamped) → length ts ≡ 2 → t ≡ get_or ts 0 t → u ≡ get_or ts 1 u → Some (plain t, plain u) ≡ two_of (plains (from_list ts))
these_two ts t u l p q = in_two ts t u (two_items ts t u l p q)

pub not_two : (ts : List Stamped) → (length ts ≡ 2 → ⊥) → ◌≡◌ {A = Option (Tree × Tree)} None (two_of (plains (from_list ts)))
not_two [] n = refl
not_two (t ∷ []) n = refl
not_two (t ∷ u ∷ []) n = absurd (n refl)
not_two (t ∷ u ∷ v ∷ ts) n = refl

abbrev first_of : Option (Tree × Tree) → Tree → Tree
first_of None d = d
first_of (Some p) d = p.0

pub of_two : (x : Name) (ts : Trees) (t u : Tree) → Some (t, u) ≡ two_of ts → parameters (symbol x) ts ≡ parameters_by x t
of_two x none t u p = cc
of_two x (more v none) t u p = cc
of_two x (more v (more w none)) t u p = ap (λ o. parameters_by x (first_of o t)) (sym p)
of_two x (more v (more w (more y ts))) t u p = cc

pub not_of_two : (x : Name) (ts : Trees) → ◌≡◌ {A = Option (Tree × Tree)} None (two_of ts) → parameters (symbol x) ts ≡ None
not_of_two x none p = refl
not_of_two x (more v none) p = refl
not_of_two x (more v (more w none)) p = cc
not_of_two x (more v (more w (more y ts))) p = refl

set_of_name : (k : Needs) (h v w : Tree) → is_the (codes "Set") h ≡ true → is_name v ≡ true → Some v ≡ local_name k (node h (more v (more w none)))
set_of_name values h (symbol x) w p q = sym (ap (λ b. option_map (λ (l : Local). symbol l.name) (elim b [ true ↦ Some (record { name = x; value = Some w }) | false ↦ None ])) p)
set_of_name names h (symbol x) w p q = sym (ap (λ b. option_map (λ (l : Local). symbol l.name) (elim b [ true ↦ Some (record { name = x; value = Some w }) | false ↦ None ])) p)
set_of_name k h (num n) w p q = cc
set_of_name k h (text s) w p q = cc
set_of_name k h (node g us) w p q = cc

pub local_two : (k : Needs) (h : Tree) (ts : Trees) (t u : Tree) → Some (t, u) ≡ two_of ts → is_the (codes "Set") h ≡ true → is_name t ≡ true → Some t ≡ local_name k (node h ts)
local_two k h none t u p q r = cc
local_two k h (more v none) t u p q r = cc
local_two k h (more v (more w none)) t u p q r = let e : v ≡ t = ap (λ o. first_of o t) (sym p) in sym (ap Some e) ∙ set_of_name k h v w q (ap is_name e ∙ r)
local_two k h (more v (more w (more y ts))) t u p q r = cc

-- what isn't `x = v`
pub no_two : (k : Needs) (h : Tree) (ts : Trees) → ◌≡◌ {A = Option (Tree × Tree)} None (two_of ts) → None ≡ local_name k (node h ts)
no_two values h none p = refl
no_two values h (more (num n) none) p = refl
no_two values h (more (text s) none) p = refl
no_two values h (more (symbol x) none) p = refl
no_two values h (more (node g us) none) p = refl
no_two values h (more v (more w none)) p = cc
no_two values h (more (num n) (more w (more y ts))) p = refl
no_two values h (more (text s) (more w (more y ts))) p = refl
no_two values h (more (symbol x) (more w (more y ts))) p = refl
no_two values h (more (node g us) (more w (more y ts))) p = refl
no_two names h none p = refl
no_two names h (more (num n) none) p = refl
no_two names h (more (text s) none) p = refl
no_two names h (more (symbol x) none) p = refl
no_two names h (more (node g us) none) p = refl
no_two names h (more v (more w none)) p = cc
no_two names h (more (num n) (more w (more y ts))) p = refl
no_two names h (more (text s) (more w (more y ts))) p = refl
no_two names h (more (symbol x) (more w (more y ts))) p = refl
no_two names h (more (node g us) (more w (more y ts))) p = refl
