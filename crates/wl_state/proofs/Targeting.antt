-- How definitions play once the left side is prepared: by the target of its core, by its tags, and what is taken away.
use Rattle.std.proofs.Common.{◌≡◌, ℕ, ◌+◌, ◌≤◌, Bool, true, false, ◌&&◌, ◌||◌, List, [], ◌∷◌, ◌++◌, length, drop, zero, suc, add-one, filter_map, Option, Some, None, Result, Ok, IfOk, refl, sym, ap, ◌∙◌, subst, arith, true≢false}
use Rattle.std.proofs.lemmas.List.{length-append, length-map}
use Rattle.std.proofs.lemmas.Option.{slice_get_past}
use Rattle.std.proofs.lemmas.Slice.Eq.{bytes_eq-Decides}
use Rattle.std.specs.Prelude.{bytes_eq, slice_get}
use Rattle.wl_assign.specs.Tags.{tag, tags}
use Rattle.wl_expr.specs.Same.{same, is_name_among, first_names}
use Rattle.wl_expr.specs.Stamped.{Stamped, plain, plains, from_list}
use Rattle.wl_expr.specs.Tree.{Tree, Trees, num, text, symbol, node}
use Rattle.wl_expr.specs.Words.{Name, is_the, failed_symbol}
use Rattle.wl_rules.specs.declared.rule.RuleKind.TheVariants.{Up}
use Rattle.wl_semantics.specs.Prog.{Prog, done, ◌>>=◌}
use Rattle.wl_semantics.specs.Definitions as definitions
use Rattle.wl_semantics.specs.Definitions.{LeftSide, define_tags, defined}
use Rattle.wl_semantics.specs.LeftSides.{limit_allows}
use Rattle.wl_state.specs.Played.{Plays, Leads, trees}
use Rattle.wl_state.specs.declared.evaluator.Evaluator.{Evaluator}
use Rattle.wl_state.proofs.Playing.{plays_bind, plays_done}
use Rattle.wl_state.proofs.Rows.{leads_bind}
use Rattle.wl_state.proofs.Values.{list_of_plains}

-- what plays by what was found, plays by what it is
pub plays_at : {T R X E : Type 0} (f : T → Prog R) (g : X → R) (k k1 : Evaluator) (t u : T) (r : Result X E) → t ≡ u → IfOk r (λ b. Plays (f t) k (Ok (g b)) k1 false) → IfOk r (λ b. Plays (f u) k (Ok (g b)) k1 false)
plays_at f g k k1 t u r e h = subst (λ z. IfOk r (λ b. Plays (f z) k (Ok (g b)) k1 false)) e h

same_named : (x y : Name) → bytes_eq x y ≡ bytes_eq y x
same_named x y = go (bytes_eq x y) (bytes_eq y x) refl refl
  where
    go : (b c : Bool) → bytes_eq x y ≡ b → bytes_eq y x ≡ c → b ≡ c
    go true true e f = refl
    go false false e f = refl
    go true false e f = absurd (true≢false (sym ((bytes_eq-Decides y x).1 (sym ((bytes_eq-Decides x y).0 e))) ∙ f))
    go false true e f = absurd (true≢false (sym ((bytes_eq-Decides x y).1 (sym ((bytes_eq-Decides y x).0 f))) ∙ e))

-- the symbol itself
pub is_the_same : (x : Name) (t : Tree) → is_the x t ≡ same t (symbol x)
is_the_same x (num n) = refl
is_the_same x (text s) = refl
is_the_same x (symbol y) = same_named x y
is_the_same x (node h ts) = refl

pub the_symbol : (x : Name) (t : Tree) → same t (symbol x) ≡ true → t ≡ symbol x
the_symbol x (num n) e = absurd (true≢false (sym e))
the_symbol x (text s) e = absurd (true≢false (sym e))
the_symbol x (symbol y) e = ap symbol ((bytes_eq-Decides y x).0 e)
the_symbol x (node h ts) e = absurd (true≢false (sym e))

both_true : (a b c : Bool) → (a && b && c) ≡ true → (b ≡ true) × (c ≡ true)
both_true true true true e = (refl, refl)
both_true true true false e = absurd (true≢false (sym e))
both_true true false c e = absurd (true≢false (sym e))
both_true false b c e = absurd (true≢false (sym e))

-- where a limit may be set, the body is a value that it may have
pub body_allowed : (i : Bool) (l : Tree) (x : Name) (v b : Tree) → ((y : Name) → l ≡ symbol y → b ≡ v) → definitions.sets_limit i l x v ≡ true → limit_allows x b ≡ true
body_allowed i l x v b f e =
    let w = both_true i (same l (symbol x)) (limit_allows x v) e in
    ap (limit_allows x) (f x (the_symbol x l w.0)) ∙ w.1

-- ---- a rule for each tag

pub tags_at : (l : LeftSide) (b v : Tree) (refused : Bool) (x : Name) (xs : List Name) → define_tags l b v refused (x ∷ xs) ≡ (defined Up x l b v false >>= λ r. define_tags l b v (refused || r) xs)
unfolding define_tags
tags_at l b v refused x xs = refl

pub tags_over : (l : LeftSide) (b v : Tree) (refused : Bool) → define_tags l b v refused [] ≡ done refused
unfolding define_tags
tags_over l b v refused = refl

slice_next : {X : Type 0} (xs : List X) (i : ℕ) (x : X) → slice_get xs i ≡ Some x → drop i xs ≡ x ∷ drop (suc i) xs
slice_next [] i x e = absurd (let w : None ≡ Some x = e in cc)
slice_next (y ∷ ys) zero x e = let w : Some y ≡ Some x = e in let q : y ≡ x = cc in ap (λ z. z ∷ ys) q
slice_next (y ∷ ys) (suc i) x e = slice_next ys i x e

slice_more : {X : Type 0} (xs : List X) (i : ℕ) (x : X) → slice_get xs i ≡ Some x → drop i xs ≡ x ∷ drop (i + 1) xs
slice_more xs i x e = rw add-one (slice_next xs i x e)

slice_none : {X : Type 0} (xs : List X) (i : ℕ) → slice_get xs i ≡ None → drop i xs ≡ []
slice_none [] zero e = refl
slice_none [] (suc i) e = refl
slice_none (y ∷ ys) zero e = absurd (let w : Some y ≡ None = e in cc)
slice_none (y ∷ ys) (suc i) e = slice_none ys i e

module _ (l : LeftSide) (b v : Tree) (xs : List Name) (i : ℕ) (refused : Bool) {w : Prog Bool} {k k1 : Evaluator} (h : Leads w k (define_tags l b v refused (drop i xs)) k1) where
  pub tags_ended : slice_get xs i ≡ None → Plays w k (Ok refused) k1 false
  tags_ended e = h _ _ _ (subst (λ p. Plays p k1 (Ok refused) k1 false) (sym (ap (define_tags l b v refused) (slice_none xs i e) ∙ tags_over l b v refused)) plays_done)

  pub tags_next : (x : Name) (r : Bool) (k2 : Evaluator) → slice_get xs i ≡ Some x → Plays (defined Up x l b v false) k1 (Ok r) k2 false → Leads w k (define_tags l b v (refused || r) (drop (i + 1) xs)) k2
  tags_next x r k2 e m q k3 o d =
      h q k3 o (subst (λ p. Plays p k1 q k3 o) (sym (ap (define_tags l b v refused) (slice_more xs i x e) ∙ tags_at l b v refused x (drop (i + 1) xs)))
      (leads_bind (defined Up x l b v false) (λ z. define_tags l b v (refused || z) (drop (i + 1) xs)) m q k3 o d))

-- ---- what fails after a refusal

pub fails_after : (p : Prog Bool) (b : Bool) (k k1 : Evaluator) → Plays p k (Ok b) k1 false → Plays (definitions.failed_after p) k (Ok (Some failed_symbol)) k1 false
fails_after p b k k1 h = plays_bind p _ h plays_done

-- ---- no more tags than elements

length_first : (met xs : List Name) → length (first_names met xs) ≤ length met + length xs
length_first met [] = omega arith
length_first met (x ∷ xs) = go (is_name_among x met) (length_first met xs) (length_first (met ++ x ∷ []) xs)
  where
    go : (b : Bool) → length (first_names met xs) ≤ length met + length xs → length (first_names (met ++ x ∷ []) xs) ≤ length (met ++ x ∷ []) + length xs
        → length {A = Name} (elim b as (λ _. List Name) [ true ↦ first_names met xs | false ↦ first_names (met ++ x ∷ []) xs ]) ≤ length met + length (x ∷ xs)
    go true p q = omega (arith, p)
    go false p q = let a = length-append met (x ∷ []) in omega (arith, q, a)

length_some : {A B : Type 0} (f : A → Option B) (xs : List A) → length (filter_map f xs) ≤ length xs
length_some f [] = omega arith
length_some {A} {B} f (x ∷ xs) = go (f x) refl (length_some f xs)
  where
    go : (o : Option B) → f x ≡ o → length (filter_map f xs) ≤ length xs → length (filter_map f (x ∷ xs)) ≤ length (x ∷ xs)
    go None e p = rw e (omega (arith, p))
    go (Some y) e p = rw e (omega (arith, p))

pub tags_past : (h c : Tree) (ts : List Stamped) (i : ℕ) → node h (plains (from_list ts)) ≡ c → length ts ≤ i → slice_get (tags c) i ≡ None
tags_past h c ts i e l =
    let a = length_first [] (filter_map tag (trees ts)) in
    let b = length_some tag (trees ts) in
    let n = length-map ts plain in
    let t : tags c ≡ first_names [] (filter_map tag (trees ts)) = ap tags (sym e) ∙ ap (λ us. first_names [] (filter_map tag us)) (list_of_plains ts) in
    ap (λ xs. slice_get xs i) t ∙ slice_get_past (first_names [] (filter_map tag (trees ts))) i (omega arith)

pub no_tags : (c : Tree) → ((h : Tree) (ts : Trees) → c ≡ node h ts → ⊥) → tags c ≡ []
no_tags (num n) f = refl
no_tags (text s) f = refl
no_tags (symbol x) f = refl
no_tags (node h ts) f = absurd (f h ts refl)
