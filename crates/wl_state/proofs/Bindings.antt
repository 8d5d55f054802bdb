-- Programs of a search: from binding to binding, and test after test.
use Rattle.std.proofs.Common.{◌≡◌, ℕ, zero, suc, ◌+◌, ◌<◌, ◌≤◌, Bool, true, false, List, [], ◌∷◌, length, get_or, drop, Option, Some, None, is_some, slice_get, refl, sym, ap, ◌∙◌, arith}
use Rattle.wl_expr.specs.Tree.{Tree}
use Rattle.wl_match.specs.Pattern.{Ask}
use Rattle.wl_match.specs.Search.{Trail, bound, noted, Leaf, Fail, Found}
use Rattle.wl_match.specs.Shown.{tests_in}
use Rattle.wl_semantics.specs.State.{BudgetEnded}
use Rattle.wl_semantics.specs.Prog.{Prog, done, stop, look, eval, step, act, ◌>>=◌, tick, or_else}
use Rattle.wl_semantics.specs.Match.{walk, holding, matches_within, tests_hold, test_holds, runs}
use Rattle.wl_state.specs.Searching.{next_found, passes_within, tests_within}

pub bind_assoc : {A B C : Type 0} (p : Prog A) (f : A → Prog B) (g : B → Prog C) → ((p >>= f) >>= g) ≡ (p >>= λ a. f a >>= g)
unfolding ◌>>=◌
bind_assoc (done a) f g = refl
bind_assoc (stop e) f g = refl
bind_assoc (look n k) f g = λ i. look n (λ e. bind_assoc (k e) f g i)
bind_assoc (eval h t k) f g = λ i. eval h t (λ e b. bind_assoc (k e b) f g i)
bind_assoc (step k) f g = λ i. step (λ b. bind_assoc (k b) f g i)
bind_assoc (act w k) f g = λ i. act w (λ a. bind_assoc (k a) f g i)

-- ---- behind a step

ticked_by : {A B : Type 0} (p : Prog A) (f : A → Prog B) (q : Prog B) → (p >>= f) ≡ q → (b : Bool)
    → ((elim b [ true ↦ done tt | false ↦ stop BudgetEnded ] >>= λ (u : Unit {0}). p) >>= f) ≡ (elim b [ true ↦ done tt | false ↦ stop BudgetEnded ] >>= λ (u : Unit {0}). q)
unfolding ◌>>=◌
ticked_by p f q e true = e
ticked_by p f q e false = refl

ticked : {A B : Type 0} (p : Prog A) (f : A → Prog B) (q : Prog B) → (p >>= f) ≡ q → ((tick >>= λ _. p) >>= f) ≡ (tick >>= λ _. q)
unfolding ◌>>=◌ tick
ticked p f q e = λ i. step (λ b. ticked_by p f q e b i)

-- ---- the leaves, one after the other

pub next_none : (ls : List Leaf) → ls ≡ [] → next_found ls ≡ done None
unfolding next_found
next_none ls e = ap next_found e

pub next_fail : (ls more : List Leaf) → ls ≡ Fail ∷ more → next_found ls ≡ (tick >>= λ _. next_found more)
unfolding next_found
next_fail ls more e = ap next_found e

pub next_is : (ls more : List Leaf) (e : Trail) → ls ≡ Found e ∷ more → next_found ls ≡ (tick >>= λ _. done (Some (e, more)))
unfolding next_found
next_is ls more e q = ap next_found q

-- ---- a walk

-- what follows the next binding of a walk
abbrev pub after_binding : {A : Type 0} → (Trail → Prog (Option A)) → Option (Trail × List Leaf) → Prog (Option A)
after_binding f None = done None
after_binding f (Some p) = f p.0 >>= λ a. or_else a (walk f p.1)

pub walk_is : {A : Type 0} (f : Trail → Prog (Option A)) (ls : List Leaf) → walk f ls ≡ (next_found ls >>= after_binding f)
unfolding walk next_found ◌>>=◌
walk_is f [] = refl
walk_is f (Fail ∷ ls) = sym (ticked (next_found ls) (after_binding f) (walk f ls) (sym (walk_is f ls)))
walk_is f (Found e ∷ ls) = sym (ticked (done (Some (e, ls))) (after_binding f) (f e >>= λ a. or_else a (walk f ls)) refl)

-- ---- a match without a body

-- what follows the tests of a binding
abbrev pub or_more : Prog Bool → Bool → Prog Bool
or_more p true = done true
or_more p false = p

-- what follows the next binding of a match
abbrev pub after_tests : ℕ → Option (Trail × List Leaf) → Prog Bool
after_tests n None = done false
after_tests n (Some p) = tests_within n p.0 >>= λ b. or_more (passes_within n p.1) b

holding_by : (n : ℕ) (e : Trail) (ls : List Leaf) (b : Bool)
    → (((elim b [ true ↦ done (Some e) | false ↦ done None ]) >>= λ a. or_else a (walk (holding (λ p t. matches_within n p t)) ls)) >>= λ r. done (is_some r)) ≡ or_more (passes_within n ls) b
unfolding ◌>>=◌ or_else passes_within
holding_by n e ls true = refl
holding_by n e ls false = refl

tested_by : (n : ℕ) (o : Option (Trail × List Leaf)) → (after_binding (holding (λ p t. matches_within n p t)) o >>= λ r. done (is_some r)) ≡ after_tests n o
unfolding ◌>>=◌
tested_by n None = refl
tested_by n (Some p) =
    let f : Trail → Prog (Option Trail) = holding (λ q t. matches_within n q t) in
    let t : Prog Bool = tests_within n p.0 in
    let h : Bool → Prog (Option Trail) = λ b. elim b [ true ↦ done (Some p.0) | false ↦ done None ] in
    let w : Option Trail → Prog (Option Trail) = λ a. or_else a (walk f p.1) in
    let g : Option Trail → Prog Bool = λ r. done (is_some r) in
    ap (λ z. z >>= g) (bind_assoc t h w) ∙ bind_assoc t (λ b. h b >>= w) g ∙ (λ i. t >>= λ b. holding_by n p.0 p.1 b i)

pub passes_is : (n : ℕ) (ls : List Leaf) → passes_within n ls ≡ (next_found ls >>= after_tests n)
unfolding passes_within
passes_is n ls =
    let f : Trail → Prog (Option Trail) = holding (λ q t. matches_within n q t) in
    let g : Option Trail → Prog Bool = λ r. done (is_some r) in
    ap (λ z. z >>= g) (walk_is f ls) ∙ bind_assoc (next_found ls) (after_binding f) g ∙ (λ i. next_found ls >>= λ o. tested_by n o i)

-- ---- the tests of a binding

-- what follows a test
abbrev pub if_so : Prog Bool → Bool → Prog Bool
if_so p true = p
if_so p false = done false

-- tests one after the other, up to the first that doesn't hold
abbrev pub all_tests : (Ask → List Tree → Prog Bool) → List (Ask × List Tree) → Prog Bool
all_tests h [] = done true
all_tests h (x ∷ xs) = h x.0 x.1 >>= λ b. if_so (all_tests h xs) b

-- a test of this binding
abbrev pub test_within : ℕ → Trail → Ask → List Tree → Prog Bool
test_within n d a r = test_holds (λ p t. matches_within n p t) (runs d) a r

tests_are : (n : ℕ) (d e : Trail) → tests_hold (λ p t. matches_within n p t) (runs d) e ≡ all_tests (test_within n d) (tests_in e)
unfolding tests_hold
tests_are n d [] = refl
tests_are n d (bound x r ∷ e) = tests_are n d e
tests_are n d (noted a r ∷ e) = λ i. test_within n d a r >>= λ b. if_so (tests_are n d e i) b

pub tests_is : (n : ℕ) (d : Trail) → tests_within n d ≡ all_tests (test_within n d) (tests_in d)
tests_is n d = tests_are n d d

pub drop_item : {A : Type 0} (xs : List A) (i : ℕ) (x : A) → i < length xs → x ≡ get_or xs i x → drop i xs ≡ x ∷ drop (i + 1) xs
drop_item [] i x h e = absurd (omega (arith, h))
drop_item (y ∷ ys) zero x h e = ap (λ z. z ∷ ys) (sym e)
drop_item (y ∷ ys) (suc i) x h e = drop_item ys i x (omega (arith, h)) e ∙ ap (λ n. x ∷ drop n (y ∷ ys)) (let q : suc (i + 1) ≡ suc i + 1 = omega arith in q)

pub all_dropped : {A : Type 0} (xs : List A) (i : ℕ) → length xs ≤ i → drop i xs ≡ []
all_dropped [] zero h = refl
all_dropped [] (suc i) h = refl
all_dropped (x ∷ xs) zero h = absurd (omega (arith, h))
all_dropped (x ∷ xs) (suc i) h = all_dropped xs i (omega (arith, h))

pub drop_at : {A : Type 0} (xs : List A) (i : ℕ) (x : A) → slice_get xs i ≡ Some x → drop i xs ≡ x ∷ drop (i + 1) xs
drop_at [] i x h = absurd (let q : None ≡ Some x = h in cc)
drop_at (y ∷ ys) zero x h = ap (λ z. z ∷ ys) (let q : Some y ≡ Some x = h in cc)
drop_at (y ∷ ys) (suc i) x h = drop_at ys i x h ∙ ap (λ n. x ∷ drop n (y ∷ ys)) (let q : suc (i + 1) ≡ suc i + 1 = omega arith in q)

pub drop_past : {A : Type 0} (xs : List A) (i : ℕ) → slice_get xs i ≡ None → drop i xs ≡ []
drop_past [] zero h = refl
drop_past [] (suc i) h = refl
drop_past (y ∷ ys) zero h = absurd (let q : Some y ≡ None = h in cc)
drop_past (y ∷ ys) (suc i) h = drop_past ys i h

pub test_at : (n : ℕ) (d : Trail) (k : ℕ) (x : Ask × List Tree) → slice_get (tests_in d) k ≡ Some x →
    all_tests (test_within n d) (drop k (tests_in d)) ≡ (test_within n d x.0 x.1 >>= λ b. if_so (all_tests (test_within n d) (drop (k + 1) (tests_in d))) b)
test_at n d k x h = ap (all_tests (test_within n d)) (drop_at (tests_in d) k x h)

pub tests_over : (n : ℕ) (d : Trail) (k : ℕ) → slice_get (tests_in d) k ≡ None → all_tests (test_within n d) (drop k (tests_in d)) ≡ done true
tests_over n d k h = ap (all_tests (test_within n d)) (drop_past (tests_in d) k h)
