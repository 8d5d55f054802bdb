-- How guards play, and that from one guard to the next a step is taken or the tree is less deep.
use Rattle.std.proofs.Common.{◌≡◌, ℕ, zero, suc, ◌+◌, ◌*◌, ◌-◌, ◌<◌, ◌≤◌, max, Bool, true, false, bytes_eq, List, [], ◌∷◌, Option, Some, None, option_map, unwrap_or, IfSome, Result, Ok, Err, refl, sym, ap, ap₂, ◌∙◌, subst, arith, true≢false, ◌&&◌}
use Rattle.std.proofs.lemmas.Slice.Eq.{bytes_eq-Decides}
use Rattle.std.specs.Cmp.Lexicographic.{same_text}
use Rattle.std.proofs.lemmas.List.Elements.{All-nil, All-cons, All-head, All-tail}
use Rattle.std.specs.List.{All, cons_option}
use Rattle.std.specs.Prelude.{codes}
use Rattle.wl_expr.specs.Same.{is_name_among}
use Rattle.wl_expr.specs.Stamped.{Stamped, plain}
use Rattle.wl_expr.specs.Tree.{Tree, Trees, num, text, symbol, node, none, more, depth, depths, from_list, to_list}
use Rattle.wl_expr.specs.Words.{Name, elements, is_form, is_true}
use Rattle.wl_shape.specs.Fill.{filled_symbol, given, numbered, numbered_names, rename, replace}
use Rattle.wl_shape.specs.Scopes as scopes
use Rattle.wl_shape.specs.Scopes.{Needs, names, values, locals}
use Rattle.wl_shape.specs.Sizes.{AreLeaves}
use Rattle.wl_shape.proofs.FillDepth.{fill-depth}
use Rattle.wl_semantics.specs.State.{World, State, End, Value, Thrown, Aborted, BudgetEnded, Broke, Continued}
use Rattle.wl_semantics.specs.Prog.{Prog, done, ◌>>=◌, value_of, end_of, now, valued, sized, asking, draw, number}
use Rattle.wl_semantics.specs.Eval.{Eval, Turns, interp, one_eval, turn_on, eval_on, final, opened}
use Rattle.wl_state.specs.LocalNames.{IsShallow, AreShallow, locals_in, scope_parts, with_body_of}
use Rattle.wl_semantics.specs.Match.{Scope, of_module, of_with, of_block, no_scope, with_locals, scope_named, is_scope, guard_within, guard_by, scope, is_condition, is_guarded, condition_result}
use Rattle.wl_state.specs.Operands.{two_trees}
use Rattle.wl_state.specs.Played.{Plays, Played, Seen, built, found_tree, honest_tree, state}
use Rattle.wl_semantics.specs.Scoping as scoping
use Rattle.wl_semantics.specs.Scoping.{names_of, values_of}
use Rattle.wl_state.specs.Guards.{module_guard, with_guard, block_guard}
use Rattle.wl_state.specs.declared.evaluator.Evaluator.{Evaluator}
use Rattle.wl_state.specs.declared.ends.Stop.{Stop}
use Rattle.wl_state.specs.declared.locals.Local.{Local}
use Rattle.wl_semantics.proofs.Equations.{guard-end, guard-round}
use Rattle.wl_semantics.proofs.Keeps.{Eval-adds}
use Rattle.wl_semantics.proofs.Level.{Eval-is, Turns-is}
use Rattle.wl_state.proofs.Playing.{plays_bind, plays_done}
use Rattle.wl_state.proofs.Rows.{played_bind, played_stop}

-- ---- a value without a step is a number or a text

turn_steps : (o : Bool) (c : ℕ) (t v : Tree) (w : World) (n d : ℕ) → (final (turn_on o Eval (Turns (suc c)) c t (record { world = w; steps = n; depth = d }))).result ≡ Value v
    → 1 ≤ (turn_on o Eval (Turns (suc c)) c t (record { world = w; steps = n; depth = d })).did.steps
turn_steps true c t v w n d h = absurd (let q : Aborted ≡ Value v = h in cc)
turn_steps false c t v w zero d h = absurd (let q : BudgetEnded ≡ Value v = h in cc)
turn_steps false c t v w (suc n) d h = omega arith

eval_on_steps : (o : Bool) (t v : Tree) (s : State) → (eval_on o (Turns 1) t s).result ≡ Value v → 1 ≤ (eval_on o (Turns 1) t s).did.steps
eval_on_steps true t v s h = absurd (let q : Aborted ≡ Value v = h in cc)
eval_on_steps false t v s h =
    subst (λ r. (final r).result ≡ Value v → 1 ≤ r.did.steps) (sym (Turns-is 1 t (opened s))) (turn_steps _ 1 t v s.world s.steps (s.depth + 1)) h

one_eval_shallow : (t v : Tree) (s : State) → (one_eval (Turns 1) t s).result ≡ Value v → (one_eval (Turns 1) t s).did.steps ≡ 0 → depth v ≤ 1
one_eval_shallow (num n) v s h z = let q : num n ≡ v = (let y : Value (num n) ≡ Value v = h in cc) in subst (λ u. depth u ≤ 1) q (omega arith)
one_eval_shallow (text x) v s h z = let q : text x ≡ v = (let y : Value (text x) ≡ Value v = h in cc) in subst (λ u. depth u ≤ 1) q (omega arith)
one_eval_shallow (symbol x) v s h z = absurd (let w = eval_on_steps _ (symbol x) v s h in omega (arith, w, z))
one_eval_shallow (node f ts) v s h z = absurd (let w = eval_on_steps _ (node f ts) v s h in omega (arith, w, z))

eval_shallow : (t v : Tree) (s : State) → (Eval t s).result ≡ Value v → (Eval t s).did.steps ≡ 0 → depth v ≤ 1
eval_shallow t v s = subst (λ r. r.result ≡ Value v → r.did.steps ≡ 0 → depth v ≤ 1) (sym (Eval-is t s)) (one_eval_shallow t v s)

now_value : (e : End) (s : State) (v : Tree) → (interp Eval (now (valued e)) s).result ≡ Ok v → e ≡ Value v
unfolding now interp
now_value (Value u) s v h = let q : u ≡ v = (let y : Ok u ≡ Ok v = h in cc) in ap Value q
now_value (Thrown u t) s v h = absurd (let y : Err (Thrown u t) ≡ Ok v = h in cc)
now_value Aborted s v h = absurd (let y : Err Aborted ≡ Ok v = h in cc)
now_value BudgetEnded s v h = absurd (let y : Err BudgetEnded ≡ Ok v = h in cc)
now_value Broke s v h = absurd (let y : Err Broke ≡ Ok v = h in cc)
now_value Continued s v h = absurd (let y : Err Continued ≡ Ok v = h in cc)

now_state : (e : End) (s : State) → (interp Eval (now (valued e)) s).state ≡ s
unfolding now interp
now_state (Value u) s = refl
now_state (Thrown u t) s = refl
now_state Aborted s = refl
now_state BudgetEnded s = refl
now_state Broke s = refl
now_state Continued s = refl

pub value_shallow : (t v : Tree) (k k1 : Evaluator) → Plays (value_of t) k (Ok v) k1 false → k1.steps ≡ k.steps → depth v ≤ 1
unfolding end_of ◌>>=◌ interp
value_shallow t v k k1 h e =
    let r = Eval t (state k) in
    let left : r.state.steps ≡ k1.steps = ap (λ (s : State). s.steps) (sym (now_state r.result r.state) ∙ h.leaves) in
    let adds = Eval-adds t (state k) in
    eval_shallow t v (state k) (now_value r.result r.state v h.ends) (omega (arith, left, adds, e))

-- ---- filling that makes nothing deeper

numbered_leaf : (c : Bool) (n : ℕ) (x : Name) → depth (filled_symbol x (elim c [ true ↦ Some (symbol (numbered n x)) | false ↦ None ])) ≤ 1
numbered_leaf true n x = omega arith
numbered_leaf false n x = omega arith

pub renamed_shallow : (b : Tree) (xs : List Name) (n : ℕ) → depth (rename b xs n) ≤ depth b
renamed_shallow b xs n = fill-depth b (numbered_names xs n) (λ x. numbered_leaf (is_name_among x xs) n x)

given_first : (c : Bool) (x : Name) (t : Tree) (o : Option Tree) → depth t ≤ 1 → depth (filled_symbol x o) ≤ 1 → depth (filled_symbol x (elim c [ true ↦ Some t | false ↦ o ])) ≤ 1
given_first true x t o h r = h
given_first false x t o h r = r

given_leaf : (xs : List Name) (ts : List Tree) → All (λ t. depth t ≤ 1) ts → AreLeaves (given xs ts)
given_leaf [] ts h x = omega arith
given_leaf (y ∷ ys) [] h x = omega arith
given_leaf (y ∷ ys) (t ∷ ts) h x = given_first (bytes_eq x y) x t (given ys ts x) (All-head (λ t. depth t ≤ 1) t ts h) (given_leaf ys ts (All-tail (λ t. depth t ≤ 1) t ts h) x)

value_shallow_first : (o : Option Stamped) (ts : List Tree) → IfSome o (λ v. depth (plain v) ≤ 1) → All (λ t. depth t ≤ 1) ts → All (λ t. depth t ≤ 1) (cons_option (option_map plain o) ts)
value_shallow_first None ts w r = r
value_shallow_first (Some v) ts w r = All-cons (λ t. depth t ≤ 1) (plain v) ts w r

shallow_values : (ls : List Local) → AreShallow ls → All (λ t. depth t ≤ 1) (values_of (locals_in ls))
shallow_values [] h = All-nil (λ t. depth t ≤ 1)
shallow_values (l ∷ ls) h = value_shallow_first l.value (values_of (locals_in ls)) (All-head IsShallow l ls h) (shallow_values ls (All-tail IsShallow l ls h))

pub replaced_shallow : (b : Tree) (ls : List Local) → AreShallow ls → depth (replace b (names_of (locals_in ls)) (values_of (locals_in ls))) ≤ depth b
replaced_shallow b ls h = fill-depth b (given (names_of (locals_in ls)) (values_of (locals_in ls))) (given_leaf (names_of (locals_in ls)) (values_of (locals_in ls)) (shallow_values ls h))

listed : (ts : Trees) → from_list (to_list ts) ≡ ts
listed none = refl
listed (more t ts) = ap (λ z. more t z) (listed ts)

list_listed : (es : List Tree) → to_list (from_list es) ≡ es
list_listed [] = refl
list_listed (e ∷ es) = ap (λ z. e ∷ z) (list_listed es)

-- ---- depths

pub parts_depth : (k : Needs) (es : List Tree) (ls : List scopes.Local) (b : Tree) → scope_parts k es ≡ Some (ls, b) → depth b ≤ depths (from_list es)
parts_depth k [] ls b h = absurd (let q : None ≡ Some (ls, b) = h in cc)
parts_depth k (v ∷ []) ls b h = absurd (let q : None ≡ Some (ls, b) = h in cc)
parts_depth k (v ∷ u ∷ []) ls b h = at (locals k v) h
  where
    at : (o : Option (List scopes.Local)) → with_body_of o u ≡ Some (ls, b) → depth b ≤ max (depth v) (max (depth u) 0)
    at None h = absurd (let q : None ≡ Some (ls, b) = h in cc)
    at (Some ms) h = let e : u ≡ b = ap (λ o. unwrap_or (option_map (λ (p : List scopes.Local × Tree). p.1) o) u) h in subst (λ z. depth z ≤ max (depth v) (max (depth u) 0)) e (omega arith)
parts_depth k (v ∷ u ∷ t ∷ es) ls b h = absurd (let q : None ≡ Some (ls, b) = h in cc)

pub elements_depth : (g : Tree) → depths (from_list (elements g)) < depth g
elements_depth (num n) = omega arith
elements_depth (text s) = omega arith
elements_depth (symbol x) = omega arith
elements_depth (node h ts) = let e = ap depths (listed ts) in omega (arith, e)

-- ---- guards

pub guard_condition : (n : ℕ) (g : Tree) → 0 < n → is_condition g ≡ true → guard_within n g ≡ condition_result (elements g)
guard_condition zero g l c = absurd (omega (arith, l))
guard_condition (suc n) g l c = guard-end n g c

pub guard_none : (n : ℕ) (g : Tree) → 0 < n → is_condition g ≡ false → is_guarded g ≡ false → guard_within n g ≡ done (Some g)
unfolding guard_within
guard_none zero g l c h = absurd (omega (arith, l))
guard_none (suc n) g l c h = rw (guard_within, c, h)

guard_by_scope : (n : ℕ) (g : Tree) → 0 < n → is_condition g ≡ false → is_guarded g ≡ true → guard_within n g ≡ guard_by (λ u. guard_within (n - 1) u) (scope g) g
guard_by_scope zero g l c h = absurd (omega (arith, l))
guard_by_scope (suc n) g l c h = guard-round n g c h ∙ (λ i. guard_by (λ u. guard_within (less i) u) (scope g) g)
  where
    less : n ≡ suc n - 1
    less = omega arith

other_name : (x y : Name) → bytes_eq y x ≡ false → bytes_eq x y ≡ false
other_name x y h = cases (bytes_eq x y) refl
  where
    cases : (b : Bool) → bytes_eq x y ≡ b → b ≡ false
    cases false e = refl
    cases true e = absurd (true≢false (sym ((bytes_eq-Decides y x).1 (sym (same_text x y (sym e)))) ∙ h))

abbrev scope_by : Bool → Bool → Bool → Tree → Tree → Scope
scope_by m w k v b = elim m [
  | true ↦ with_locals of_module (locals names v) b
  | false ↦ elim w [ true ↦ with_locals of_with (locals values v) b | false ↦ elim k [ true ↦ with_locals of_block (locals names v) b | false ↦ no_scope ] ]
]

abbrev scoped : ℕ → Tree → Scope → Prog (Option Tree)
scoped n g s = guard_by (λ u. guard_within n u) s g

module_by : (n : ℕ) (g b : Tree) (o : Option (List scopes.Local)) → scoped n g (with_locals of_module o b) ≡ module_guard n g (with_body_of o b)
module_by n g b None = refl
module_by n g b (Some ls) = refl

with_by : (n : ℕ) (g b : Tree) (o : Option (List scopes.Local)) → scoped n g (with_locals of_with o b) ≡ with_guard n g (with_body_of o b)
with_by n g b None = refl
with_by n g b (Some ls) = refl

block_by : (n : ℕ) (g b : Tree) (o : Option (List scopes.Local)) → scoped n g (with_locals of_block o b) ≡ block_guard n g (with_body_of o b)
block_by n g b None = refl
block_by n g b (Some ls) = refl

on_module : (n : ℕ) (g : Tree) (ts : Trees) → scoped n g (scope (node (symbol (codes "Module")) ts)) ≡ module_guard n g (scope_parts names (to_list ts))
on_module n g none = refl
on_module n g (more v none) = refl
on_module n g (more v (more b none)) = module_by n g b (locals names v)
on_module n g (more v (more b (more t ts))) = refl

on_with : (n : ℕ) (g : Tree) (ts : Trees) → scoped n g (scope (node (symbol (codes "With")) ts)) ≡ with_guard n g (scope_parts values (to_list ts))
on_with n g none = refl
on_with n g (more v none) = refl
on_with n g (more v (more b none)) = with_by n g b (locals values v)
on_with n g (more v (more b (more t ts))) = refl

-- a form of this name
is_node_of : (x : Name) (g : Tree) → is_form x g ≡ true → g ≡ node (symbol x) (from_list (elements g))
is_node_of x (num n) h = absurd (true≢false (sym h))
is_node_of x (text s) h = absurd (true≢false (sym h))
is_node_of x (symbol y) h = absurd (true≢false (sym h))
is_node_of x (node (num n) ts) h = absurd (true≢false (sym h))
is_node_of x (node (text s) ts) h = absurd (true≢false (sym h))
is_node_of x (node (symbol y) ts) h = ap₂ (λ z us. node (symbol z) us) (sym (same_text x y (sym h))) (sym (listed ts))
is_node_of x (node (node f us) ts) h = absurd (true≢false (sym h))

on_block : (n : ℕ) (g : Tree) (x : Name) (v b : Tree) → is_scope (scope_named x v b) ≡ true → bytes_eq x (codes "Module") ≡ false → bytes_eq x (codes "With") ≡ false → scoped n g (scope_named x v b) ≡ block_guard n g (with_body_of (locals names v) b)
on_block n g x v b h m w = cases (bytes_eq x (codes "Block")) refl
  where
    cases : (k : Bool) → bytes_eq x (codes "Block") ≡ k → scoped n g (scope_named x v b) ≡ block_guard n g (with_body_of (locals names v) b)
    cases true e = (λ i. scoped n g (scope_by (m i) (w i) (e i) v b)) ∙ block_by n g b (locals names v)
    cases false e = absurd (true≢false (sym h ∙ (λ i. is_scope (scope_by (m i) (w i) (e i) v b))))

and_left : (a b : Bool) → (a && b) ≡ true → a ≡ true
and_left true b h = refl
and_left false b h = h

block_on : (n : ℕ) (g u : Tree) → is_guarded u ≡ true → is_form (codes "Module") u ≡ false → is_form (codes "With") u ≡ false → scoped n g (scope u) ≡ block_guard n g (scope_parts names (elements u))
block_on n g (num m) h a b = absurd (true≢false (sym h))
block_on n g (text s) h a b = absurd (true≢false (sym h))
block_on n g (symbol x) h a b = absurd (true≢false (sym h))
block_on n g (node (num m) ts) h a b = absurd (true≢false (sym h))
block_on n g (node (text s) ts) h a b = absurd (true≢false (sym h))
block_on n g (node (node f us) ts) h a b = absurd (true≢false (sym h))
block_on n g (node (symbol x) none) h a b = absurd (true≢false (sym h))
block_on n g (node (symbol x) (more v none)) h a b = absurd (true≢false (sym h))
block_on n g (node (symbol x) (more v (more u none))) h a b = on_block n g x v u (and_left _ _ h) (other_name x (codes "Module") a) (other_name x (codes "With") b)
block_on n g (node (symbol x) (more v (more u (more t ts)))) h a b = absurd (true≢false (sym h))

module _ (n : ℕ) (g : Tree) (l : 0 < n) (c : is_condition g ≡ false) (w : is_guarded g ≡ true) where
  pub guard_module : is_form (codes "Module") g ≡ true → guard_within n g ≡ module_guard (n - 1) g (scope_parts names (elements g))
  guard_module h =
      guard_by_scope n g l c w ∙ ap (λ z. scoped (n - 1) g (scope z)) (is_node_of (codes "Module") g h)
      ∙ on_module (n - 1) g (from_list (elements g)) ∙ ap (λ z. module_guard (n - 1) g (scope_parts names z)) (list_listed (elements g))

  pub guard_with : is_form (codes "With") g ≡ true → guard_within n g ≡ with_guard (n - 1) g (scope_parts values (elements g))
  guard_with h =
      guard_by_scope n g l c w ∙ ap (λ z. scoped (n - 1) g (scope z)) (is_node_of (codes "With") g h)
      ∙ on_with (n - 1) g (from_list (elements g)) ∙ ap (λ z. with_guard (n - 1) g (scope_parts values z)) (list_listed (elements g))

  pub guard_block : is_form (codes "Module") g ≡ false → is_form (codes "With") g ≡ false → guard_within n g ≡ block_guard (n - 1) g (scope_parts names (elements g))
  guard_block a b = guard_by_scope n g l c w ∙ block_on (n - 1) g g w a b

-- ---- a condition

abbrev pub condition_by : Tree → Tree → Prog (Option Tree)
condition_by r v = elim (is_true v) [ true ↦ done (Some r) | false ↦ done None ]

abbrev pub condition_on : Option (Tree × Tree) → Prog (Option Tree)
condition_on None = done None
condition_on (Some p) = value_of p.1 >>= condition_by p.0

pub condition_is : (es : List Tree) → condition_result es ≡ condition_on (two_trees es)
condition_is [] = refl
condition_is (r ∷ []) = refl
condition_is (r ∷ t ∷ []) = refl
condition_is (r ∷ t ∷ u ∷ es) = refl

pub condition_gives : (r v : Tree) (k : Evaluator) (b : Bool) → is_true v ≡ b → Plays (condition_by r v) k (Ok (elim b [ true ↦ Some r | false ↦ None ])) k false
condition_gives r v k b e = subst (λ (c : Bool). Plays (elim c [ true ↦ done (Some r) | false ↦ done None ]) k (Ok (elim b [ true ↦ Some r | false ↦ None ])) k false) (sym e) (by b)
  where
    by : (c : Bool) → Plays (elim c [ true ↦ done (Some r) | false ↦ done None ]) k (Ok (elim c [ true ↦ Some r | false ↦ None ])) k false
    by true = plays_done
    by false = plays_done

-- ---- parts of a guard, one after the other

module _ (ls vs : List scopes.Local) (b : Tree) (k k1 : Evaluator) (h : Plays (scoping.initials [] ls) k (Ok vs) k1 false) where
  -- of a Module
  module _ (n : ℕ) (k2 : Evaluator) (d : Plays (asking draw) k1 (Ok (number n)) k2 false) where
    pub module_sized : (e : Stop) (k3 : Evaluator) → Played (built (rename b (names_of vs) n)) (sized (rename b (names_of vs) n)) k2 (Err e) k3 → (m : ℕ) (g : Tree) → Played found_tree (module_guard m g (Some (ls, b))) k (Err e) k3
    module_sized e k3 s m g =
        played_stop honest_tree found_tree (scoping.module_body true ls b) _ k e k3
        (played_bind honest_tree (scoping.initials [] ls) _ k k1 vs (Err e) k3 h
        (played_bind honest_tree (asking draw) _ k1 k2 (number n) (Err e) k3 d (played_stop (built (rename b (names_of vs) n)) honest_tree (sized (rename b (names_of vs) n)) _ k2 e k3 s)))

    pub module_guarded : (k3 k4 k5 : Evaluator) (m : ℕ) (g : Tree) (r : Result (Option Stamped) Stop) → Plays (sized (rename b (names_of vs) n)) k2 (Ok tt) k3 false → Plays (scoping.set_locals n vs) k3 (Ok tt) k4 false
        → Played found_tree (guard_within m (rename b (names_of vs) n)) k4 r k5 → Played found_tree (module_guard m g (Some (ls, b))) k r k5
    module_guarded k3 k4 k5 m g r s l w =
        let opened = plays_bind (scoping.initials [] ls) _ h (plays_bind (asking draw) _ d (plays_bind (sized (rename b (names_of vs) n)) _ s (plays_bind (scoping.set_locals n vs) _ l plays_done))) in
        played_bind found_tree (scoping.module_body true ls b) _ k k4 (rename b (names_of vs) n) r k5 opened w

  -- of a With
  abbrev filled : Tree
  filled = replace b (names_of vs) (values_of vs)

  pub with_sized : (e : Stop) (k2 : Evaluator) → Played (built filled) (sized filled) k1 (Err e) k2 → (m : ℕ) (g : Tree) → Played found_tree (with_guard m g (Some (ls, b))) k (Err e) k2
  with_sized e k2 s m g =
      played_bind found_tree (scoping.with_body ls b) _ k k1 filled (Err e) k2 (plays_bind (scoping.initials [] ls) _ h plays_done) (played_stop (built filled) found_tree (sized filled) _ k1 e k2 s)

  pub with_guarded : (k2 k3 : Evaluator) (m : ℕ) (g : Tree) (r : Result (Option Stamped) Stop) → Plays (sized filled) k1 (Ok tt) k2 false → Played found_tree (guard_within m filled) k2 r k3 → Played found_tree (with_guard m g (Some (ls, b))) k r k3
  with_guarded k2 k3 m g r s w =
      played_bind found_tree (scoping.with_body ls b) _ k k1 filled r k3 (plays_bind (scoping.initials [] ls) _ h plays_done) (played_bind found_tree (sized filled) _ k1 k2 tt r k3 s w)

-- where the initial values stop
pub module_stops : {X : Type 0} (seen : Seen X (List scopes.Local)) (ls : List scopes.Local) (b g : Tree) (m : ℕ) (k : Evaluator) (e : Stop) (k1 : Evaluator) → Played seen (scoping.initials [] ls) k (Err e) k1 → Played found_tree (module_guard m g (Some (ls, b))) k (Err e) k1
module_stops seen ls b g m k e k1 h = played_stop honest_tree found_tree (scoping.module_body true ls b) _ k e k1 (played_stop seen honest_tree (scoping.initials [] ls) _ k e k1 h)

pub with_stops : {X : Type 0} (seen : Seen X (List scopes.Local)) (ls : List scopes.Local) (b g : Tree) (m : ℕ) (k : Evaluator) (e : Stop) (k1 : Evaluator) → Played seen (scoping.initials [] ls) k (Err e) k1 → Played found_tree (with_guard m g (Some (ls, b))) k (Err e) k1
with_stops seen ls b g m k e k1 h = played_stop honest_tree found_tree (scoping.with_body ls b) _ k e k1 (played_stop seen honest_tree (scoping.initials [] ls) _ k e k1 h)

-- ---- from one guard to the next a step is taken, or the tree is less deep

pub with_falls : (s s1 di de : ℕ) → s1 ≤ s → di ≤ 1000 → (s1 ≡ s → di < de) → 8000 * s1 + 3002 + 3 * di < 8000 * s + 3001 + 3 * de
with_falls s s1 di de a b f = at (s - s1) refl
  where
    at : (x : ℕ) → s - s1 ≡ x → 8000 * s1 + 3002 + 3 * di < 8000 * s + 3001 + 3 * de
    at zero e = let q = f (omega (arith, e, a)) in omega (arith, e, a, q)
    at (suc x) e = omega (arith, e, a, b)

pub with_below : (s s1 di de n : ℕ) → s1 ≤ s → di ≤ 1000 → (s1 ≡ s → di < de) → 1001 * s + de ≤ n → 1001 * s1 + di < n
with_below s s1 di de n a b f l = at (s - s1) refl
  where
    at : (x : ℕ) → s - s1 ≡ x → 1001 * s1 + di < n
    at zero e = let q = f (omega (arith, e, a)) in omega (arith, e, a, q, l)
    at (suc x) e = omega (arith, e, a, b, l)

-- the body of a scope is less deep than the scope
pub body_depth : (k : Needs) (g : Tree) (ls : List scopes.Local) (b : Tree) → scope_parts k (elements g) ≡ Some (ls, b) → depth b < depth g
body_depth k g ls b h = let a = parts_depth k (elements g) ls b h in let d = elements_depth g in omega (arith, a, d)
