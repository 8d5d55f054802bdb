-- A parameter's new name stands among the parameters of what a scope is filled to.
use Rattle.std.proofs.Common.{◌≡◌, Bool, true, false, List, [], ◌∷◌, map, ◌⊎◌, inl, inr, refl, sym, ap, ◌∙◌, subst, arith}
use Rattle.std.specs.Prelude.{Option, Some, None, codes, bytes_eq}
use Rattle.wl_expr.specs.Tree.{Tree, Trees, num, text, symbol, node, none, more, to_list, weights, depths, weight, depth}
use Rattle.wl_expr.specs.Same.{is_name_among}
use Rattle.wl_expr.specs.Words.{Name, is_list, is_the, elements, names_of, with_first}
use Rattle.wl_shape.specs.Scopes.{Local, Needs, values, names, function_names, local_of, locals, locals_of, names_in, parameters, parameters_by, with_local}
use Rattle.wl_shape.specs.Standing.{IsNotLarger}
use Rattle.wl_shape.specs.Fill.{Values, filled_symbol, fill, fill_first, fill_formal, fill_formals, parameter}
use Rattle.wl_shape.proofs.Members.{among_one, one_name, or_either}
use Rattle.wl_shape.proofs.Standings.{AreNotLarger, args_stand, either, first_stands, head_stands, others_stand}

-- the name of a parameter `x` or `x = v`
abbrev formal_name : Tree → Option Name
formal_name (symbol x) = Some x
formal_name (node h (more (symbol x) (more v none))) = Some x
formal_name t = None

itself_stands : (t : Tree) → IsNotLarger t t
itself_stands t = record { light = omega arith; shallow = omega arith }

formal_stands : (t : Tree) (vs rs : Values) (x : Name) → formal_name t ≡ Some x → IsNotLarger (filled_symbol x (rs x)) (fill_formal vs rs t)
formal_stands (num n) vs rs x e = cc
formal_stands (text s) vs rs x e = cc
formal_stands (symbol y) vs rs x e = let p : y ≡ x = cc in subst (λ z. IsNotLarger (filled_symbol z (rs z)) (filled_symbol y (rs y))) p (itself_stands (filled_symbol y (rs y)))
formal_stands (node h none) vs rs x e = cc
formal_stands (node h (more (num n) us)) vs rs x e = cc
formal_stands (node h (more (text s) us)) vs rs x e = cc
formal_stands (node h (more (node g ts) us)) vs rs x e = cc
formal_stands (node h (more (symbol y) none)) vs rs x e = cc
formal_stands (node h (more (symbol y) (more v none))) vs rs x e =
    let p : y ≡ x = cc in
    let t = filled_symbol y (rs y) in
    subst (λ z. IsNotLarger (filled_symbol z (rs z)) (node (fill vs h) (more t (more (fill vs v) none)))) p
    (args_stand t (fill vs h) (more t (more (fill vs v) none)) (first_stands t t (more (fill vs v) none) (itself_stands t)))
formal_stands (node h (more (symbol y) (more v (more w ts)))) vs rs x e = cc

-- ---- `{x, y}`

with_names : (t : Tree) (ts : Trees) (vs rs : Values) (xs : List Name) (x y : Name) (o : Option (List Name)) → formal_name t ≡ Some y → with_first (Some y) o ≡ Some xs → is_name_among x xs ≡ true
    → ((ys : List Name) → o ≡ Some ys → is_name_among x ys ≡ true → AreNotLarger (filled_symbol x (rs x)) (fill_formals vs rs ts)) → AreNotLarger (filled_symbol x (rs x)) (fill_formals vs rs (more t ts))
with_names t ts vs rs xs x y None f e m r = cc
with_names t ts vs rs xs x y (Some ys) f e m r =
    let p : y ∷ ys ≡ xs = cc in
    either (or_either (bytes_eq x y) (is_name_among x ys) (ap (is_name_among x) p ∙ m))
    (λ b. first_stands (filled_symbol x (rs x)) (fill_formal vs rs t) (fill_formals vs rs ts) (formal_stands t vs rs x (f ∙ ap Some (sym (one_name x y b)))))
    (λ b. others_stand (filled_symbol x (rs x)) (fill_formal vs rs t) (fill_formals vs rs ts) (r ys refl b))

names_stand : (ts : Trees) (vs rs : Values) (xs : List Name) (x : Name) → names_of (to_list ts) ≡ Some xs → is_name_among x xs ≡ true → AreNotLarger (filled_symbol x (rs x)) (fill_formals vs rs ts)
names_stand none vs rs xs x e m = let p : [] ≡ xs = cc in let q = ap (is_name_among x) p ∙ m in cc
names_stand (more (num n) ts) vs rs xs x e m = cc
names_stand (more (text s) ts) vs rs xs x e m = cc
names_stand (more (node h us) ts) vs rs xs x e m = cc
names_stand (more (symbol y) ts) vs rs xs x e m = with_names (symbol y) ts vs rs xs x y (names_of (to_list ts)) refl e m (λ ys. names_stand ts vs rs ys x)

-- ---- `{x, y = v}`

set_formal : (b : Bool) (h v : Tree) (x : Name) (l : Local) → elim b [ true ↦ Some (record { name = x; value = Some v }) | false ↦ None ] ≡ Some l → formal_name (node h (more (symbol x) (more v none))) ≡ Some l.name
set_formal true h v x l e = let p : record { name = x; value = Some v } ≡ l = cc in ap (λ (k : Local). Some k.name) p
set_formal false h v x l e = cc

local_formal : (k : Needs) (t : Tree) (l : Local) → local_of k t ≡ Some l → formal_name t ≡ Some l.name
local_formal values (num n) l e = cc
local_formal values (text s) l e = cc
local_formal values (symbol x) l e = cc
local_formal values (node h none) l e = cc
local_formal values (node h (more (num n) us)) l e = cc
local_formal values (node h (more (text s) us)) l e = cc
local_formal values (node h (more (node g ts) us)) l e = cc
local_formal values (node h (more (symbol x) none)) l e = cc
local_formal values (node h (more (symbol x) (more v none))) l e = set_formal (is_the (codes "Set") h) h v x l e
local_formal values (node h (more (symbol x) (more v (more w ts)))) l e = cc
local_formal names (num n) l e = cc
local_formal names (text s) l e = cc
local_formal names (symbol x) l e = let p : record { name = x; value = None } ≡ l = cc in ap (λ (k : Local). Some k.name) p
local_formal names (node h none) l e = cc
local_formal names (node h (more (num n) us)) l e = cc
local_formal names (node h (more (text s) us)) l e = cc
local_formal names (node h (more (node g ts) us)) l e = cc
local_formal names (node h (more (symbol x) none)) l e = cc
local_formal names (node h (more (symbol x) (more v none))) l e = set_formal (is_the (codes "Set") h) h v x l e
local_formal names (node h (more (symbol x) (more v (more w ts)))) l e = cc

with_locals : (k : Needs) (t : Tree) (ts : Trees) (vs rs : Values) (xs : List Name) (x : Name) (o : Option Local) (p : Option (List Local)) → local_of k t ≡ o → names_in (with_local o p) ≡ Some xs → is_name_among x xs ≡ true
    → ((ys : List Name) → names_in p ≡ Some ys → is_name_among x ys ≡ true → AreNotLarger (filled_symbol x (rs x)) (fill_formals vs rs ts)) → AreNotLarger (filled_symbol x (rs x)) (fill_formals vs rs (more t ts))
with_locals k t ts vs rs xs x None p q e m r = cc
with_locals k t ts vs rs xs x (Some l) None q e m r = cc
with_locals k t ts vs rs xs x (Some l) (Some ls) q e m r = with_names t ts vs rs xs x l.name (Some (map (λ l. l.name) ls)) (local_formal k t l q) e m r

locals_stand : (k : Needs) (ts : Trees) (vs rs : Values) (xs : List Name) (x : Name) → names_in (locals_of k (to_list ts)) ≡ Some xs → is_name_among x xs ≡ true → AreNotLarger (filled_symbol x (rs x)) (fill_formals vs rs ts)
locals_stand k none vs rs xs x e m = let p : [] ≡ xs = cc in let q = ap (is_name_among x) p ∙ m in cc
locals_stand k (more t ts) vs rs xs x e m = with_locals k t ts vs rs xs x (local_of k t) (locals_of k (to_list ts)) refl e m (λ ys. locals_stand k ts vs rs ys x)

-- ---- the parameters of a scope

function_names_stand : (t : Tree) (vs rs : Values) (xs : List Name) (x : Name) → function_names t ≡ Some xs → is_name_among x xs ≡ true → IsNotLarger (filled_symbol x (rs x)) (fill_first vs rs t)
function_names_stand (num n) vs rs xs x e m = cc
function_names_stand (text s) vs rs xs x e m = cc
function_names_stand (symbol y) vs rs xs x e m =
    let p : y ∷ [] ≡ xs = cc in
    let q = among_one x y (ap (is_name_among x) p ∙ m) in
    subst (λ z. IsNotLarger (filled_symbol z (rs z)) (filled_symbol y (rs y))) (sym q) (itself_stands (filled_symbol y (rs y)))
function_names_stand (node h ts) vs rs xs x e m = go (is_list (node h ts)) e
  where
    go : (b : Bool) → elim b [ true ↦ names_of (to_list ts) | false ↦ None ] ≡ Some xs → IsNotLarger (filled_symbol x (rs x)) (node (fill vs h) (fill_formals vs rs ts))
    go true p = args_stand (filled_symbol x (rs x)) (fill vs h) (fill_formals vs rs ts) (names_stand ts vs rs xs x p m)
    go false p = cc

local_names_stand : (k : Needs) (t : Tree) (vs rs : Values) (xs : List Name) (x : Name) → names_in (locals k t) ≡ Some xs → is_name_among x xs ≡ true → IsNotLarger (filled_symbol x (rs x)) (fill_first vs rs t)
local_names_stand k (num n) vs rs xs x e m = cc
local_names_stand k (text s) vs rs xs x e m = cc
local_names_stand k (symbol y) vs rs xs x e m = cc
local_names_stand k (node h ts) vs rs xs x e m = go (is_list (node h ts)) e
  where
    go : (b : Bool) → names_in (elim b [ true ↦ locals_of k (to_list ts) | false ↦ None ]) ≡ Some xs → IsNotLarger (filled_symbol x (rs x)) (node (fill vs h) (fill_formals vs rs ts))
    go true p = args_stand (filled_symbol x (rs x)) (fill vs h) (fill_formals vs rs ts) (locals_stand k ts vs rs xs x p m)
    go false p = cc

parameters_stand : (t : Tree) (vs rs : Values) (xs : List Name) (x : Name) (f m w : Bool) → is_name_among x xs ≡ true
    → (elim f [ true ↦ function_names t | false ↦ elim m [ true ↦ names_in (locals names t) | false ↦ elim w [ true ↦ names_in (locals values t) | false ↦ None ] ] ]) ≡ Some xs
    → IsNotLarger (filled_symbol x (rs x)) (fill_first vs rs t)
parameters_stand t vs rs xs x true m w a e = function_names_stand t vs rs xs x e a
parameters_stand t vs rs xs x false true w a e = local_names_stand names t vs rs xs x e a
parameters_stand t vs rs xs x false false true a e = local_names_stand values t vs rs xs x e a
parameters_stand t vs rs xs x false false false a e = cc

pub parameter_stands : (h t u : Tree) (vs rs : Values) (xs : List Name) (x : Name) → parameters h (more t (more u none)) ≡ Some xs → is_name_among x xs ≡ true → IsNotLarger (filled_symbol x (rs x)) (fill_first vs rs t)
parameter_stands (symbol y) t u vs rs xs x e m = parameters_stand t vs rs xs x (bytes_eq y (codes "Function")) (bytes_eq y (codes "Module")) (bytes_eq y (codes "With")) m e
parameter_stands (num n) t u vs rs xs x e m = cc
parameter_stands (text s) t u vs rs xs x e m = cc
parameter_stands (node h ts) t u vs rs xs x e m = cc
