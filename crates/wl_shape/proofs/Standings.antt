-- What stands for a name that filling reaches is a part of what it gives; and such a name stands in the tree.
use Rattle.std.proofs.Common.{◌≡◌, ◌≤◌, ℕ, Bool, true, false, ◌&&◌, not, List, [], ◌∷◌, ◌++◌, ◌⊎◌, inl, inr, ⊎_elim, refl, sym, ap, ◌∙◌, subst, arith, le_trans}
use Rattle.std.specs.Prelude.{Option, Some, None}
use Rattle.wl_expr.specs.Tree.{Tree, Trees, num, text, symbol, node, none, more, weight, weights, depth, depths, IsWithinLimits}
use Rattle.wl_expr.specs.Same.{is_name_among}
use Rattle.wl_expr.specs.Words.{Name}
use Rattle.wl_shape.specs.Scopes.{parameters}
use Rattle.wl_shape.specs.Standing.{IsNotLarger}
use Rattle.wl_shape.specs.Fill.{Values, arriving, except_names, filled_symbol, fill, fill_all, fill_first, fill_formal, fill_formals, fill_scope, Inside, inside, inside_of, names, names_all, new_name, or_else, parameter, reached, reached_all, reached_first, reached_formal, reached_formals, reached_scope, renamings, without_names}
use Rattle.wl_shape.proofs.Members.{among_either, among_itself, among_left, among_one, among_right, among-except, and_both}

-- t is neither heavier nor deeper than these trees
pub record AreNotLarger (t : Tree) (us : Trees) : Type 0 where
  pub light : weight t ≤ weights us
  pub shallow : depth t ≤ depths us

pub within_limits : (t u : Tree) → IsNotLarger t u → IsWithinLimits u → IsWithinLimits t
within_limits t u n w = record { light = le_trans n.light w.light; shallow = le_trans n.shallow w.shallow }

not_false : (b : Bool) → not b ≡ true → b ≡ false
not_false true h = cc
not_false false h = refl

-- a name that isn't among the parameters stands inside for what it stood for outside
pub inner_of_other : (xs : List Name) (vs : Values) (u : Tree) (x : Name) → is_name_among x xs ≡ false → (inside_of xs vs u).inner x ≡ vs x
inner_of_other xs vs u x h =
    let arrived = arriving (reached u) (without_names xs vs) in
    let r : (inside_of xs vs u).renamed x ≡ None = ap (λ b. elim (b && is_name_among x arrived) [ true ↦ Some (symbol (new_name (arrived ++ names u) x)) | false ↦ None ]) h in
    ap (λ o. or_else o (without_names xs vs x)) r ∙ ap (λ b. elim b [ true ↦ None | false ↦ vs x ]) h

node-stands : (o : Option (List Name)) (vs : Values) (h : Tree) (ts : Trees) (x : Name) (v : Tree)
    → (is_name_among x (reached h) ≡ true → IsNotLarger v (fill vs h)) → (is_name_among x (reached_all ts) ≡ true → AreNotLarger v (fill_all vs ts))
    → ((xs : List Name) → is_name_among x (reached_scope xs ts) ≡ true → AreNotLarger v (fill_scope vs (inside xs vs ts) ts))
    → is_name_among x (reached h ++ elim o [ None ↦ reached_all ts | Some xs ↦ reached_scope xs ts ]) ≡ true
    → IsNotLarger v (elim o [ None ↦ node (fill vs h) (fill_all vs ts) | Some xs ↦ node (fill vs h) (fill_scope vs (inside xs vs ts) ts) ])
node-stands None vs h ts x v p q r m = go (among_either x (reached h) (reached_all ts) m)
  where
    go : (is_name_among x (reached h) ≡ true) ⊎ (is_name_among x (reached_all ts) ≡ true) → IsNotLarger v (node (fill vs h) (fill_all vs ts))
    go (inl a) = let n = p a in record { light = omega (arith, n.light); shallow = omega (arith, n.shallow) }
    go (inr a) = let n = q a in record { light = omega (arith, n.light); shallow = omega (arith, n.shallow) }
node-stands (Some xs) vs h ts x v p q r m = go (among_either x (reached h) (reached_scope xs ts) m)
  where
    go : (is_name_among x (reached h) ≡ true) ⊎ (is_name_among x (reached_scope xs ts) ≡ true) → IsNotLarger v (node (fill vs h) (fill_scope vs (inside xs vs ts) ts))
    go (inl a) = let n = p a in record { light = omega (arith, n.light); shallow = omega (arith, n.shallow) }
    go (inr a) = let n = r xs a in record { light = omega (arith, n.light); shallow = omega (arith, n.shallow) }

-- the first of two, or the second
pub head_stands : (v t : Tree) (us : Trees) → IsNotLarger v t → IsNotLarger v (node t us)
head_stands v t us n = record { light = omega (arith, n.light); shallow = omega (arith, n.shallow) }

pub args_stand : (v t : Tree) (us : Trees) → AreNotLarger v us → IsNotLarger v (node t us)
args_stand v t us n = record { light = omega (arith, n.light); shallow = omega (arith, n.shallow) }

pub first_stands : (v t : Tree) (us : Trees) → IsNotLarger v t → AreNotLarger v (more t us)
first_stands v t us n = record { light = omega (arith, n.light); shallow = omega (arith, n.shallow) }

pub others_stand : (v t : Tree) (us : Trees) → AreNotLarger v us → AreNotLarger v (more t us)
others_stand v t us n = record { light = omega (arith, n.light); shallow = omega (arith, n.shallow) }

pub either : {P Q R : Type 0} → P ⊎ Q → (P → R) → (Q → R) → R
either (inl p) f g = f p
either (inr q) f g = g q

mutual
  pub value_stands : (t : Tree) (vs : Values) (x : Name) (v : Tree) → vs x ≡ Some v → is_name_among x (reached t) ≡ true → IsNotLarger v (fill vs t)
  value_stands (num n) vs x v e m = cc
  value_stands (text s) vs x v e m = cc
  value_stands (symbol y) vs x v e m =
      let w : filled_symbol y (vs y) ≡ v = ap (λ z. filled_symbol y (vs z)) (sym (among_one x y m)) ∙ ap (filled_symbol y) e in
      subst (IsNotLarger v) (sym w) (record { light = omega arith; shallow = omega arith })
  value_stands (node h ts) vs x v e m = node-stands (parameters h ts) vs h ts x v (value_stands h vs x v e) (value_stands_among ts vs x v e) (λ xs. value_stands_in_scope ts xs vs x v e) m

  value_stands_among : (ts : Trees) (vs : Values) (x : Name) (v : Tree) → vs x ≡ Some v → is_name_among x (reached_all ts) ≡ true → AreNotLarger v (fill_all vs ts)
  value_stands_among none vs x v e m = cc
  value_stands_among (more t ts) vs x v e m = either (among_either x (reached t) (reached_all ts) m)
      (λ a. first_stands v (fill vs t) (fill_all vs ts) (value_stands t vs x v e a)) (λ a. others_stand v (fill vs t) (fill_all vs ts) (value_stands_among ts vs x v e a))

  value_stands_in_scope : (ts : Trees) (xs : List Name) (vs : Values) (x : Name) (v : Tree) → vs x ≡ Some v → is_name_among x (reached_scope xs ts) ≡ true → AreNotLarger v (fill_scope vs (inside xs vs ts) ts)
  value_stands_in_scope none xs vs x v e m = cc
  value_stands_in_scope (more t none) xs vs x v e m = cc
  value_stands_in_scope (more t (more u none)) xs vs x v e m =
      let i = inside_of xs vs u in
      either (among_either x (reached_first t) (except_names xs (reached u)) m)
      (λ a. first_stands v (fill_first vs i.renamed t) (more (fill i.inner u) none) (value_stands_in_first t vs i.renamed x v e a))
      (λ a. let b = and_both (is_name_among x (reached u)) (not (is_name_among x xs)) (sym (among-except x xs (reached u)) ∙ a) in
      others_stand v (fill_first vs i.renamed t) (more (fill i.inner u) none)
      (first_stands v (fill i.inner u) none (value_stands u i.inner x v (inner_of_other xs vs u x (not_false (is_name_among x xs) b.1) ∙ e) b.0)))
  value_stands_in_scope (more t (more u (more w ts))) xs vs x v e m = cc

  value_stands_in_first : (t : Tree) (vs rs : Values) (x : Name) (v : Tree) → vs x ≡ Some v → is_name_among x (reached_first t) ≡ true → IsNotLarger v (fill_first vs rs t)
  value_stands_in_first (num n) vs rs x v e m = cc
  value_stands_in_first (text s) vs rs x v e m = cc
  value_stands_in_first (symbol y) vs rs x v e m = cc
  value_stands_in_first (node h ts) vs rs x v e m = either (among_either x (reached h) (reached_formals ts) m)
      (λ a. head_stands v (fill vs h) (fill_formals vs rs ts) (value_stands h vs x v e a)) (λ a. args_stand v (fill vs h) (fill_formals vs rs ts) (value_stands_in_formals ts vs rs x v e a))

  value_stands_in_formals : (ts : Trees) (vs rs : Values) (x : Name) (v : Tree) → vs x ≡ Some v → is_name_among x (reached_formals ts) ≡ true → AreNotLarger v (fill_formals vs rs ts)
  value_stands_in_formals none vs rs x v e m = cc
  value_stands_in_formals (more t ts) vs rs x v e m = either (among_either x (reached_formal t) (reached_formals ts) m)
      (λ a. first_stands v (fill_formal vs rs t) (fill_formals vs rs ts) (value_stands_in_formal t vs rs x v e a)) (λ a. others_stand v (fill_formal vs rs t) (fill_formals vs rs ts) (value_stands_in_formals ts vs rs x v e a))

  value_stands_in_formal : (t : Tree) (vs rs : Values) (x : Name) (v : Tree) → vs x ≡ Some v → is_name_among x (reached_formal t) ≡ true → IsNotLarger v (fill_formal vs rs t)
  value_stands_in_formal (num n) vs rs x v e m = cc
  value_stands_in_formal (text s) vs rs x v e m = cc
  value_stands_in_formal (symbol y) vs rs x v e m = cc
  value_stands_in_formal (node h none) vs rs x v e m = cc
  value_stands_in_formal (node h (more y none)) vs rs x v e m = cc
  value_stands_in_formal (node h (more y (more w none))) vs rs x v e m = either (among_either x (reached h) (reached w) m)
      (λ a. head_stands v (fill vs h) (more (parameter rs y) (more (fill vs w) none)) (value_stands h vs x v e a))
      (λ a. args_stand v (fill vs h) (more (parameter rs y) (more (fill vs w) none)) (others_stand v (parameter rs y) (more (fill vs w) none) (first_stands v (fill vs w) none (value_stands w vs x v e a))))
  value_stands_in_formal (node h (more y (more w (more z ts)))) vs rs x v e m = cc

-- ---- reached names stand in the tree

node-names : (o : Option (List Name)) (h : Tree) (ts : Trees) (x : Name) → (is_name_among x (reached h) ≡ true → is_name_among x (names h) ≡ true) → (is_name_among x (reached_all ts) ≡ true → is_name_among x (names_all ts) ≡ true)
    → ((xs : List Name) → is_name_among x (reached_scope xs ts) ≡ true → is_name_among x (names_all ts) ≡ true)
    → is_name_among x (reached h ++ elim o [ None ↦ reached_all ts | Some xs ↦ reached_scope xs ts ]) ≡ true → is_name_among x (names h ++ names_all ts) ≡ true
node-names None h ts x p q r m = either (among_either x (reached h) (reached_all ts) m) (λ a. among_left x (names h) (names_all ts) (p a)) (λ a. among_right x (names h) (names_all ts) (q a))
node-names (Some xs) h ts x p q r m = either (among_either x (reached h) (reached_scope xs ts) m) (λ a. among_left x (names h) (names_all ts) (p a)) (λ a. among_right x (names h) (names_all ts) (r xs a))

mutual
  pub reached_stands : (t : Tree) (x : Name) → is_name_among x (reached t) ≡ true → is_name_among x (names t) ≡ true
  reached_stands (num n) x m = m
  reached_stands (text s) x m = m
  reached_stands (symbol y) x m = m
  reached_stands (node h ts) x m = node-names (parameters h ts) h ts x (reached_stands h x) (reached_all_stand ts x) (λ xs. reached_scope_stands ts xs x) m

  reached_all_stand : (ts : Trees) (x : Name) → is_name_among x (reached_all ts) ≡ true → is_name_among x (names_all ts) ≡ true
  reached_all_stand none x m = m
  reached_all_stand (more t ts) x m = either (among_either x (reached t) (reached_all ts) m)
      (λ a. among_left x (names t) (names_all ts) (reached_stands t x a)) (λ a. among_right x (names t) (names_all ts) (reached_all_stand ts x a))

  reached_scope_stands : (ts : Trees) (xs : List Name) (x : Name) → is_name_among x (reached_scope xs ts) ≡ true → is_name_among x (names_all ts) ≡ true
  reached_scope_stands none xs x m = m
  reached_scope_stands (more t none) xs x m = cc
  reached_scope_stands (more t (more u none)) xs x m = either (among_either x (reached_first t) (except_names xs (reached u)) m)
      (λ a. among_left x (names t) (names u ++ []) (reached_first_stands t x a))
      (λ a. among_right x (names t) (names u ++ []) (among_left x (names u) [] (reached_stands u x (and_both (is_name_among x (reached u)) (not (is_name_among x xs)) (sym (among-except x xs (reached u)) ∙ a)).0)))
  reached_scope_stands (more t (more u (more w ts))) xs x m = cc

  reached_first_stands : (t : Tree) (x : Name) → is_name_among x (reached_first t) ≡ true → is_name_among x (names t) ≡ true
  reached_first_stands (num n) x m = m
  reached_first_stands (text s) x m = m
  reached_first_stands (symbol y) x m = cc
  reached_first_stands (node h ts) x m = either (among_either x (reached h) (reached_formals ts) m)
      (λ a. among_left x (names h) (names_all ts) (reached_stands h x a)) (λ a. among_right x (names h) (names_all ts) (reached_formals_stand ts x a))

  reached_formals_stand : (ts : Trees) (x : Name) → is_name_among x (reached_formals ts) ≡ true → is_name_among x (names_all ts) ≡ true
  reached_formals_stand none x m = m
  reached_formals_stand (more t ts) x m = either (among_either x (reached_formal t) (reached_formals ts) m)
      (λ a. among_left x (names t) (names_all ts) (reached_formal_stands t x a)) (λ a. among_right x (names t) (names_all ts) (reached_formals_stand ts x a))

  reached_formal_stands : (t : Tree) (x : Name) → is_name_among x (reached_formal t) ≡ true → is_name_among x (names t) ≡ true
  reached_formal_stands (num n) x m = m
  reached_formal_stands (text s) x m = m
  reached_formal_stands (symbol y) x m = cc
  reached_formal_stands (node h none) x m = cc
  reached_formal_stands (node h (more y none)) x m = cc
  reached_formal_stands (node h (more y (more w none))) x m = either (among_either x (reached h) (reached w) m)
      (λ a. among_left x (names h) (names y ++ (names w ++ [])) (reached_stands h x a))
      (λ a. among_right x (names h) (names y ++ (names w ++ [])) (among_right x (names y) (names w ++ []) (among_left x (names w) [] (reached_stands w x a))))
  reached_formal_stands (node h (more y (more w (more z ts)))) x m = cc
