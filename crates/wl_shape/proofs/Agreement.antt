-- What filling gives depends on what stands for the names alone that it reaches, and where nothing stands for them it gives the tree itself.
use Rattle.std.proofs.Common.{◌≡◌, Bool, true, false, ◌&&◌, not, List, [], ◌∷◌, ◌++◌, refl, sym, ap, ◌∙◌}
use Rattle.std.specs.Prelude.{Option, Some, None}
use Rattle.wl_expr.specs.Tree.{Tree, Trees, num, text, symbol, node, none, more}
use Rattle.wl_expr.specs.Same.{is_name_among}
use Rattle.wl_expr.specs.Words.{Name}
use Rattle.wl_shape.specs.Scopes.{parameters}
use Rattle.wl_shape.specs.Standing.{AgreeOn}
use Rattle.wl_shape.specs.Fill.{Values, arriving, except_names, filled_symbol, fill, fill_all, fill_first, fill_formal, fill_formals, fill_scope, Inside, inside, inside_of, names, new_name, or_else, parameter, reached, reached_all, reached_first, reached_formal, reached_formals, reached_scope, renamings, value_names, without_names}
use Rattle.wl_shape.proofs.Members.{among_itself, among_left, among_right, among-except}

pub on_left : (xs ys : List Name) (vs ws : Values) → AgreeOn (xs ++ ys) vs ws → AgreeOn xs vs ws
on_left xs ys vs ws a x h = a x (among_left x xs ys h)

pub on_right : (xs ys : List Name) (vs ws : Values) → AgreeOn (xs ++ ys) vs ws → AgreeOn ys vs ws
on_right xs ys vs ws a x h = a x (among_right x xs ys h)

pub without_agrees : (xs ys : List Name) (vs ws : Values) → AgreeOn (except_names xs ys) vs ws → AgreeOn ys (without_names xs vs) (without_names xs ws)
without_agrees xs ys vs ws a x h = go (is_name_among x xs) refl
  where
    go : (b : Bool) → is_name_among x xs ≡ b → ◌≡◌ {A = Option Tree} (elim b [ true ↦ None | false ↦ vs x ]) (elim b [ true ↦ None | false ↦ ws x ])
    go true p = refl
    go false p = a x (among-except x xs ys ∙ ap (λ c. c && not (is_name_among x xs)) h ∙ ap not p)

pub arriving-same : (ys : List Name) (vs ws : Values) → AgreeOn ys vs ws → arriving ys vs ≡ arriving ys ws
arriving-same [] vs ws a = refl
arriving-same (y ∷ ys) vs ws a = λ i. value_names (a y (among_itself y ys) i) ++ arriving-same ys vs ws (on_right (y ∷ []) ys vs ws a) i

-- the new names of a scope's parameters
renamed-same : (xs : List Name) (vs ws : Values) (u : Tree) → AgreeOn (except_names xs (reached u)) vs ws → (inside_of xs vs u).renamed ≡ (inside_of xs ws u).renamed
renamed-same xs vs ws u a = ap (λ arrived. renamings arrived (arrived ++ names u) xs) (arriving-same (reached u) (without_names xs vs) (without_names xs ws) (without_agrees xs (reached u) vs ws a))

inner-agrees : (xs : List Name) (vs ws : Values) (u : Tree) → AgreeOn (except_names xs (reached u)) vs ws → AgreeOn (reached u) (inside_of xs vs u).inner (inside_of xs ws u).inner
inner-agrees xs vs ws u a x h = λ i. or_else (renamed-same xs vs ws u a i x) (without_agrees xs (reached u) vs ws a x h i)

parameter-same : (t : Tree) (rs qs : Values) → rs ≡ qs → parameter rs t ≡ parameter qs t
parameter-same t rs qs e = ap (λ ps. parameter ps t) e

node-same : (o : Option (List Name)) (vs ws : Values) (h : Tree) (ts : Trees) → (AgreeOn (reached h) vs ws → fill vs h ≡ fill ws h) → (AgreeOn (reached_all ts) vs ws → fill_all vs ts ≡ fill_all ws ts)
    → ((xs : List Name) → AgreeOn (reached_scope xs ts) vs ws → fill_scope vs (inside xs vs ts) ts ≡ fill_scope ws (inside xs ws ts) ts)
    → AgreeOn (reached h ++ elim o [ None ↦ reached_all ts | Some xs ↦ reached_scope xs ts ]) vs ws
    → ◌≡◌ {A = Tree} (elim o [ None ↦ node (fill vs h) (fill_all vs ts) | Some xs ↦ node (fill vs h) (fill_scope vs (inside xs vs ts) ts) ])
    (elim o [ None ↦ node (fill ws h) (fill_all ws ts) | Some xs ↦ node (fill ws h) (fill_scope ws (inside xs ws ts) ts) ])
node-same None vs ws h ts p q r a = λ i. node (p (on_left (reached h) (reached_all ts) vs ws a) i) (q (on_right (reached h) (reached_all ts) vs ws a) i)
node-same (Some xs) vs ws h ts p q r a = λ i. node (p (on_left (reached h) (reached_scope xs ts) vs ws a) i) (r xs (on_right (reached h) (reached_scope xs ts) vs ws a) i)

mutual
  pub fill-same : (t : Tree) (vs ws : Values) → AgreeOn (reached t) vs ws → fill vs t ≡ fill ws t
  fill-same (num n) vs ws a = refl
  fill-same (text s) vs ws a = refl
  fill-same (symbol x) vs ws a = ap (filled_symbol x) (a x (among_itself x []))
  fill-same (node h ts) vs ws a = node-same (parameters h ts) vs ws h ts (fill-same h vs ws) (fills-same ts vs ws) (λ xs. scope-same ts xs vs ws) a

  pub fills-same : (ts : Trees) (vs ws : Values) → AgreeOn (reached_all ts) vs ws → fill_all vs ts ≡ fill_all ws ts
  fills-same none vs ws a = refl
  fills-same (more t ts) vs ws a = λ i. more (fill-same t vs ws (on_left (reached t) (reached_all ts) vs ws a) i) (fills-same ts vs ws (on_right (reached t) (reached_all ts) vs ws a) i)

  scope-same : (ts : Trees) (xs : List Name) (vs ws : Values) → AgreeOn (reached_scope xs ts) vs ws → fill_scope vs (inside xs vs ts) ts ≡ fill_scope ws (inside xs ws ts) ts
  scope-same none xs vs ws a = refl
  scope-same (more t none) xs vs ws a = refl
  scope-same (more t (more u none)) xs vs ws a =
      let b = on_right (reached_first t) (except_names xs (reached u)) vs ws a in
      λ i. more (first-same t vs ws (inside_of xs vs u).renamed (inside_of xs ws u).renamed (on_left (reached_first t) (except_names xs (reached u)) vs ws a) (renamed-same xs vs ws u b) i)
      (more (fill-same u (inside_of xs vs u).inner (inside_of xs ws u).inner (inner-agrees xs vs ws u b) i) none)
  scope-same (more t (more u (more v ts))) xs vs ws a = refl

  first-same : (t : Tree) (vs ws rs qs : Values) → AgreeOn (reached_first t) vs ws → rs ≡ qs → fill_first vs rs t ≡ fill_first ws qs t
  first-same (num n) vs ws rs qs a e = refl
  first-same (text s) vs ws rs qs a e = refl
  first-same (symbol x) vs ws rs qs a e = λ i. filled_symbol x (e i x)
  first-same (node h ts) vs ws rs qs a e =
      λ i. node (fill-same h vs ws (on_left (reached h) (reached_formals ts) vs ws a) i) (formals-same ts vs ws rs qs (on_right (reached h) (reached_formals ts) vs ws a) e i)

  formals-same : (ts : Trees) (vs ws rs qs : Values) → AgreeOn (reached_formals ts) vs ws → rs ≡ qs → fill_formals vs rs ts ≡ fill_formals ws qs ts
  formals-same none vs ws rs qs a e = refl
  formals-same (more t ts) vs ws rs qs a e =
      λ i. more (formal-same t vs ws rs qs (on_left (reached_formal t) (reached_formals ts) vs ws a) e i) (formals-same ts vs ws rs qs (on_right (reached_formal t) (reached_formals ts) vs ws a) e i)

  formal-same : (t : Tree) (vs ws rs qs : Values) → AgreeOn (reached_formal t) vs ws → rs ≡ qs → fill_formal vs rs t ≡ fill_formal ws qs t
  formal-same (num n) vs ws rs qs a e = refl
  formal-same (text s) vs ws rs qs a e = refl
  formal-same (symbol x) vs ws rs qs a e = λ i. filled_symbol x (e i x)
  formal-same (node h none) vs ws rs qs a e = refl
  formal-same (node h (more x none)) vs ws rs qs a e = refl
  formal-same (node h (more x (more v none))) vs ws rs qs a e =
      λ i. node (fill-same h vs ws (on_left (reached h) (reached v) vs ws a) i) (more (parameter-same x rs qs e i) (more (fill-same v vs ws (on_right (reached h) (reached v) vs ws a) i) none))
  formal-same (node h (more x (more v (more w ts)))) vs ws rs qs a e = refl

-- ---- where nothing stands for any name

abbrev nothing : Values
nothing x = None

without-nothing : (xs : List Name) → without_names xs nothing ≡ nothing
without-nothing xs = λ i x. go (is_name_among x xs) i
  where
    go : (b : Bool) → ◌≡◌ {A = Option Tree} (elim b [ true ↦ None | false ↦ None ]) None
    go true = refl
    go false = refl

arriving-nothing : (ys : List Name) → arriving ys nothing ≡ []
arriving-nothing [] = refl
arriving-nothing (y ∷ ys) = arriving-nothing ys

-- no parameter is captured by names that don't arrive
unrenamed : (taken xs : List Name) → renamings [] taken xs ≡ nothing
unrenamed taken xs = λ i x. go x (is_name_among x xs) i
  where
    go : (x : Name) (b : Bool) → ◌≡◌ {A = Option Tree} (elim (b && false) [ true ↦ Some (symbol (new_name taken x)) | false ↦ None ]) None
    go x true = refl
    go x false = refl

abbrev outside : Inside
outside = record { renamed = nothing; inner = nothing }

inside-nothing : (xs : List Name) (u : Tree) → inside_of xs nothing u ≡ outside
inside-nothing xs u =
    let o = without-nothing xs in
    let a : arriving (reached u) (without_names xs nothing) ≡ [] = ap (arriving (reached u)) o ∙ arriving-nothing (reached u) in
    let r : (inside_of xs nothing u).renamed ≡ nothing = ap (λ arrived. renamings arrived (arrived ++ names u) xs) a ∙ unrenamed (names u) xs in
    λ i. record { renamed = r i; inner = λ x. or_else (r i x) (o i x) }

node-nothing : (o : Option (List Name)) (h : Tree) (ts : Trees) → fill nothing h ≡ h → fill_all nothing ts ≡ ts → ((xs : List Name) → fill_scope nothing (inside xs nothing ts) ts ≡ ts) →
    (elim o [ None ↦ node (fill nothing h) (fill_all nothing ts) | Some xs ↦ node (fill nothing h) (fill_scope nothing (inside xs nothing ts) ts) ]) ≡ node h ts
node-nothing None h ts p q r = λ i. node (p i) (q i)
node-nothing (Some xs) h ts p q r = λ i. node (p i) (r xs i)

parameter-nothing : (t : Tree) → parameter nothing t ≡ t
parameter-nothing (num n) = refl
parameter-nothing (text s) = refl
parameter-nothing (symbol x) = refl
parameter-nothing (node h ts) = refl

mutual
  pub fill-nothing : (t : Tree) → fill nothing t ≡ t
  fill-nothing (num n) = refl
  fill-nothing (text s) = refl
  fill-nothing (symbol x) = refl
  fill-nothing (node h ts) = node-nothing (parameters h ts) h ts (fill-nothing h) (fills-nothing ts) (λ xs. scope-nothing ts xs)

  fills-nothing : (ts : Trees) → fill_all nothing ts ≡ ts
  fills-nothing none = refl
  fills-nothing (more t ts) = λ i. more (fill-nothing t i) (fills-nothing ts i)

  scope-nothing : (ts : Trees) (xs : List Name) → fill_scope nothing (inside xs nothing ts) ts ≡ ts
  scope-nothing none xs = refl
  scope-nothing (more t none) xs = refl
  scope-nothing (more t (more u none)) xs =
      ap (λ (s : Inside). more (fill_first nothing s.renamed t) (more (fill s.inner u) none)) (inside-nothing xs u) ∙ (λ i. more (first-nothing t i) (more (fill-nothing u i) none))
  scope-nothing (more t (more u (more v ts))) xs = refl

  first-nothing : (t : Tree) → fill_first nothing nothing t ≡ t
  first-nothing (num n) = refl
  first-nothing (text s) = refl
  first-nothing (symbol x) = refl
  first-nothing (node h ts) = λ i. node (fill-nothing h i) (formals-nothing ts i)

  formals-nothing : (ts : Trees) → fill_formals nothing nothing ts ≡ ts
  formals-nothing none = refl
  formals-nothing (more t ts) = λ i. more (formal-nothing t i) (formals-nothing ts i)

  formal-nothing : (t : Tree) → fill_formal nothing nothing t ≡ t
  formal-nothing (num n) = refl
  formal-nothing (text s) = refl
  formal-nothing (symbol x) = refl
  formal-nothing (node h none) = refl
  formal-nothing (node h (more x none)) = refl
  formal-nothing (node h (more x (more v none))) = λ i. node (fill-nothing h i) (more (parameter-nothing x i) (more (fill-nothing v i) none))
  formal-nothing (node h (more x (more v (more w ts)))) = refl
