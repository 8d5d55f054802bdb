-- Filling with leaves makes no tree deeper: so a guard's renamed body is no deeper, nor is one whose names are replaced by numbers and texts.
use Rattle.std.proofs.Common.{◌+◌, ◌≤◌, max, Bool, true, false, ◌&&◌, List, arith}
use Rattle.std.specs.Prelude.{Option, Some, None}
use Rattle.wl_expr.specs.Tree.{Tree, Trees, num, text, symbol, node, none, more, depth, depths}
use Rattle.wl_expr.specs.Same.{is_name_among}
use Rattle.wl_expr.specs.Words.{Name}
use Rattle.wl_shape.specs.Sizes.{AreLeaves}
use Rattle.wl_shape.specs.Scopes.{parameters}
use Rattle.wl_shape.specs.Fill.{Values, arriving, filled_symbol, fill, fill_all, fill_first, fill_formal, fill_formals, fill_scope, Inside, inside, inside_of, names, new_name, or_else, parameter, reached, renamings, without_names}

without-leaves : (xs : List Name) (vs : Values) → AreLeaves vs → AreLeaves (without_names xs vs)
without-leaves xs vs l x = go (is_name_among x xs)
  where
    go : (b : Bool) → depth (filled_symbol x (elim b [ true ↦ None | false ↦ vs x ])) ≤ 1
    go true = omega arith
    go false = l x

renamed-leaves : (arrived taken xs : List Name) → AreLeaves (renamings arrived taken xs)
renamed-leaves arrived taken xs x = go (is_name_among x xs && is_name_among x arrived)
  where
    go : (b : Bool) → depth (filled_symbol x (elim b [ true ↦ Some (symbol (new_name taken x)) | false ↦ None ])) ≤ 1
    go true = omega arith
    go false = omega arith

either-leaf : (x : Name) (o p : Option Tree) → depth (filled_symbol x o) ≤ 1 → depth (filled_symbol x p) ≤ 1 → depth (filled_symbol x (or_else o p)) ≤ 1
either-leaf x None p l m = m
either-leaf x (Some t) p l m = l

-- of both maps of a scope
record Leaves (i : Inside) : Type 0 where
  renamed : AreLeaves i.renamed
  inner : AreLeaves i.inner

inside-leaves : (xs : List Name) (vs : Values) (ts : Trees) → AreLeaves vs → Leaves (inside xs vs ts)
inside-leaves xs vs none l = record { renamed = λ x. omega arith; inner = l }
inside-leaves xs vs (more first none) l = record { renamed = λ x. omega arith; inner = l }
inside-leaves xs vs (more first (more body (more t ts))) l = record { renamed = λ x. omega arith; inner = l }
inside-leaves xs vs (more first (more body none)) l =
    let arrived = arriving (reached body) (without_names xs vs) in
    let r : AreLeaves (inside_of xs vs body).renamed = renamed-leaves arrived _ xs in
    record { renamed = r; inner = λ x. either-leaf x ((inside_of xs vs body).renamed x) (without_names xs vs x) (r x) (without-leaves xs vs l x) }

parameter-depth : (t : Tree) (rs : Values) → AreLeaves rs → depth (parameter rs t) ≤ depth t
parameter-depth (num n) rs r = omega arith
parameter-depth (text s) rs r = omega arith
parameter-depth (symbol x) rs r = r x
parameter-depth (node h ts) rs r = omega arith

node-depth : (o : Option (List Name)) (vs : Values) (h : Tree) (ts : Trees) → depth (fill vs h) ≤ depth h → depths (fill_all vs ts) ≤ depths ts → ((xs : List Name) → depths (fill_scope vs (inside xs vs ts) ts) ≤ depths ts) →
    depth (elim o [ None ↦ node (fill vs h) (fill_all vs ts) | Some xs ↦ node (fill vs h) (fill_scope vs (inside xs vs ts) ts) ]) ≤ 1 + max (depth h) (depths ts)
node-depth None vs h ts a b c = omega (arith, a, b)
node-depth (Some xs) vs h ts a b c = let d = c xs in omega (arith, a, d)

mutual
  pub fill-depth : (t : Tree) (vs : Values) → AreLeaves vs → depth (fill vs t) ≤ depth t
  fill-depth (num n) vs l = omega arith
  fill-depth (text s) vs l = omega arith
  fill-depth (symbol x) vs l = l x
  fill-depth (node h ts) vs l = node-depth (parameters h ts) vs h ts (fill-depth h vs l) (fills-depth ts vs l) (λ xs. scope-depth ts vs (inside xs vs ts) l (inside-leaves xs vs ts l))

  fills-depth : (ts : Trees) (vs : Values) → AreLeaves vs → depths (fill_all vs ts) ≤ depths ts
  fills-depth none vs l = omega arith
  fills-depth (more t ts) vs l = omega (arith, fill-depth t vs l, fills-depth ts vs l)

  scope-depth : (ts : Trees) (vs : Values) (i : Inside) → AreLeaves vs → Leaves i → depths (fill_scope vs i ts) ≤ depths ts
  scope-depth none vs i l m = omega arith
  scope-depth (more t none) vs i l m = omega arith
  scope-depth (more t (more u none)) vs i l m = omega (arith, first-depth t vs i.renamed l m.renamed, fill-depth u i.inner m.inner)
  scope-depth (more t (more u (more v ts))) vs i l m = omega arith

  first-depth : (t : Tree) (vs rs : Values) → AreLeaves vs → AreLeaves rs → depth (fill_first vs rs t) ≤ depth t
  first-depth (num n) vs rs l r = omega arith
  first-depth (text s) vs rs l r = omega arith
  first-depth (symbol x) vs rs l r = r x
  first-depth (node h ts) vs rs l r = omega (arith, fill-depth h vs l, formals-depth ts vs rs l r)

  formals-depth : (ts : Trees) (vs rs : Values) → AreLeaves vs → AreLeaves rs → depths (fill_formals vs rs ts) ≤ depths ts
  formals-depth none vs rs l r = omega arith
  formals-depth (more t ts) vs rs l r = omega (arith, formal-depth t vs rs l r, formals-depth ts vs rs l r)

  formal-depth : (t : Tree) (vs rs : Values) → AreLeaves vs → AreLeaves rs → depth (fill_formal vs rs t) ≤ depth t
  formal-depth (num n) vs rs l r = omega arith
  formal-depth (text s) vs rs l r = omega arith
  formal-depth (symbol x) vs rs l r = r x
  formal-depth (node h none) vs rs l r = omega arith
  formal-depth (node h (more x none)) vs rs l r = omega arith
  formal-depth (node h (more x (more v none))) vs rs l r = omega (arith, fill-depth h vs l, parameter-depth x rs r, fill-depth v vs l)
  formal-depth (node h (more x (more v (more w ts)))) vs rs l r = omega arith
