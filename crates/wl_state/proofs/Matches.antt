-- How matches and trials play, part after part.
use Rattle.std.proofs.Common.{◌≡◌, ◌≢◌, ◌↔◌, ◌^◌, ℕ, zero, suc, ◌+◌, ◌<◌, ◌≤◌, Bool, true, false, not, ◌&&◌, List, [], ◌∷◌, length, map, drop, get_or, Option, Some, None, slice_get, Result, Ok, Err, IfOk, refl, sym, ap, ◌∙◌, subst, subst₂, arith}
use Rattle.std.proofs.lemmas.List.Elements.{All-cons}
use Rattle.std.proofs.lemmas.Result.{err_from_is_err_and}
use Rattle.std.specs.List.{All}
use Rattle.std.specs.Result.{IsErrAnd}
use denote.Bor.{Bor}
use Rattle.wl_expr.specs.Passed.{IsFrom}
use Rattle.wl_expr.specs.Stamped as stamped
use Rattle.wl_expr.specs.Stamped.{Stamped, plain, plains, from_list}
use Rattle.wl_expr.specs.Tree as tree
use Rattle.wl_expr.specs.Tree.{Tree, IsWithinLimits}
use Rattle.wl_expr.specs.Words.{applied, fits, is_true}
use Rattle.wl_expr.specs.declared.fault.ExprFault.{ExprFault}
use Rattle.wl_expr.specs.declared.fault.ExprFault.TheVariants as fault
use Rattle.wl_expr.proofs.Passing.{all_from}
use Rattle.wl_expr.proofs.Small.{fits_decides}
use Rattle.wl_match.specs.declared.flags.Flags.{Flags}
use Rattle.wl_match.specs.declared.lent.Run.{Run}
use Rattle.wl_match.specs.declared.machine.Machine.{Machine}
use Rattle.wl_match.specs.declared.part.Part.{Part}
use Rattle.wl_match.specs.declared.view.View.{View}
use Rattle.wl_match.specs.declared.view.Test.{Test}
use Rattle.wl_match.specs.declared.view.Test.TheVariants as test
use Rattle.wl_match.specs.Heads.{heads}
use Rattle.wl_match.specs.Left.{left, binding}
use Rattle.wl_match.specs.Parts.{kept}
use Rattle.wl_match.specs.Pattern.{Ask, Pat, applies, holds, refuses, pattern}
use Rattle.wl_match.specs.Runs.{shown}
use Rattle.wl_match.specs.Search.{Trail}
use Rattle.wl_match.specs.Shown.{Asks, AreFrom, IsTest, pattern_in, subject_in, tests_in}
use Rattle.wl_match.specs.Trials.{Trials}
use Rattle.wl_rules.specs.StampedRules.{plain_rule}
use Rattle.wl_rules.specs.Stored.{Stored}
use Rattle.wl_rules.specs.declared.rule.Rule.{Rule}
use Rattle.wl_shape.specs.Answers.{IsFilled}
use Rattle.wl_shape.specs.Fill.{fill_binding}
use Rattle.wl_semantics.specs.Prog.{Prog, done, ◌>>=◌, or_else, sized, value_of_built}
use Rattle.wl_state.specs.Honest.{HonestIn}
use Rattle.wl_semantics.specs.Match.{walk, runs, each_applies, test_holds, matches_within, filling, guard, is_guarded, flags_of, rule_result, trial}
use Rattle.wl_state.specs.Played.{Plays, Played, Seen, Leads, Honest, AllHonest, Makes, trees, itself, found_tree}
use Rattle.wl_state.specs.Searching.{next_found, found_by, true_of_built, tests_within, passes_within, refuses_within, HonestView}
use Rattle.wl_state.specs.declared.evaluator.Evaluator.{Evaluator}
use Rattle.wl_state.specs.declared.ends.Stop.{Stop}
use Rattle.wl_state.proofs.Bindings.{bind_assoc, walk_is, after_binding, passes_is, after_tests, or_more, if_so, all_tests, test_within, test_at, tests_is, tests_over, drop_at, drop_item, all_dropped}
use Rattle.wl_state.proofs.Playing.{plays_bind, plays_done, plays_done_is}
use Rattle.wl_state.proofs.Rounds.{node_makes}
use Rattle.wl_state.proofs.Rows.{played_exit, played_bind, leads_played}
use Rattle.wl_state.proofs.Values.{passed_honest, built_honest}

-- ---- exits, and parts that play to a result

pub exit : {X Y A B : Type 0} (seen : Seen X A) (seen' : Seen Y B) (p : Prog A) (f : A → Prog B) (k k1 : Evaluator) (r : Result Y Stop) (e : Stop) → IsErrAnd r (λ d. d ≡ e) → Played seen p k (Err e) k1 → Played seen' (p >>= f) k r k1
exit seen seen' p f k k1 r e h m = let q = err_from_is_err_and r h in played_exit seen seen' p f k k1 r q.0 e q.1 q.2 m

pub leads_out : {X Y A B : Type 0} (seen : Seen X A) (seen' : Seen Y B) (w v : Prog B) (p : Prog A) (f : A → Prog B) (k0 k k1 : Evaluator) (r : Result Y Stop) (e : Stop) →
    Leads w k0 v k → v ≡ (p >>= f) → IsErrAnd r (λ d. d ≡ e) → Played seen p k (Err e) k1 → Played seen' w k0 r k1
leads_out seen seen' w v p f k0 k k1 r e l q h m = leads_played seen' w v k0 k r k1 l (subst (λ z. Played seen' z k r k1) (sym q) (exit seen seen' p f k k1 r e h m))

pub leads_in : {A B : Type 0} (w v : Prog B) (p : Prog A) (f : A → Prog B) (k0 k k1 : Evaluator) (a : A) → Leads w k0 v k → v ≡ (p >>= f) → Plays p k (Ok a) k1 false → Leads w k0 (f a) k1
leads_in w v p f k0 k k1 a l q h r k2 o m = l r k2 o (subst (λ z. Plays z k r k2 o) (sym q) (plays_bind p f h m))

-- ---- the first result

pub found_some : (w p q : Prog (Option Tree)) (k0 k k1 : Evaluator) (o : Option Stamped) (x : Stamped) → Leads w k0 (p >>= λ a. or_else a q) k → Played found_tree p k (Ok o) k1 → o ≡ Some x → Played found_tree w k0 (Ok (Some x)) k1
unfolding or_else
found_some w p q k0 k k1 o x l h e =
    let m : Played found_tree p k (Ok (Some x)) k1 = subst (λ z. Played found_tree p k (Ok z) k1) e h in
    (leads_in w (p >>= λ a. or_else a q) p (λ a. or_else a q) k0 k k1 (Some (plain x)) l refl m.0 _ _ _ plays_done, m.1)

pub no_some : (o : Option Stamped) → ((x : Stamped) → o ≡ Some x → ⊥) → o ≡ None
no_some None h = refl
no_some (Some x) h = absurd (h x refl)

pub found_none : (w p q : Prog (Option Tree)) (k0 k k1 : Evaluator) (o : Option Stamped) → Leads w k0 (p >>= λ a. or_else a q) k → Played found_tree p k (Ok o) k1 → ((x : Stamped) → o ≡ Some x → ⊥) → Leads w k0 q k1
unfolding or_else
found_none w p q k0 k k1 o l h n =
    let m : Played found_tree p k (Ok None) k1 = subst (λ z. Played found_tree p k (Ok z) k1) (no_some o n) h in
    leads_in w (p >>= λ a. or_else a q) p (λ a. or_else a q) k0 k k1 None l refl m.0

-- ---- a search

module _ (ss : List Part) (t : Tree) (m m1 : Machine) (k0 k k1 : Evaluator) (b : Bool) (h : Plays (next_found (left ss t m)) k (Ok (found_by ss t m1 b)) k1 false) where
  -- the binding that was found, and then the leaves behind it
  pub walk_found : (f : Trail → Prog (Option Tree)) (w : Prog (Option Tree)) → b ≡ true → Leads w k0 (walk f (left ss t m)) k → Leads w k0 (f (binding ss t m1) >>= λ a. or_else a (walk f (left ss t m1))) k1
  walk_found f w e l =
      leads_in w (walk f (left ss t m)) (next_found (left ss t m)) (after_binding f) k0 k k1 (found_by ss t m1 true) l (walk_is f (left ss t m))
      (subst (λ z. Plays (next_found (left ss t m)) k (Ok (found_by ss t m1 z)) k1 false) e h)

  pub walk_over : (f : Trail → Prog (Option Tree)) (w : Prog (Option Tree)) → b ≡ false → Leads w k0 (walk f (left ss t m)) k → Plays w k0 (Ok None) k1 false
  walk_over f w e l =
      leads_in w (walk f (left ss t m)) (next_found (left ss t m)) (after_binding f) k0 k k1 (found_by ss t m1 false) l (walk_is f (left ss t m))
      (subst (λ z. Plays (next_found (left ss t m)) k (Ok (found_by ss t m1 z)) k1 false) e h) _ _ _ plays_done

  pub match_found : (n : ℕ) (w : Prog Bool) → b ≡ true → Leads w k0 (passes_within n (left ss t m)) k → Leads w k0 (tests_within n (binding ss t m1) >>= or_more (passes_within n (left ss t m1))) k1
  match_found n w e l =
      leads_in w (passes_within n (left ss t m)) (next_found (left ss t m)) (after_tests n) k0 k k1 (found_by ss t m1 true) l (passes_is n (left ss t m))
      (subst (λ z. Plays (next_found (left ss t m)) k (Ok (found_by ss t m1 z)) k1 false) e h)

  pub match_over : (n : ℕ) (w : Prog Bool) → b ≡ false → Leads w k0 (passes_within n (left ss t m)) k → Plays w k0 (Ok false) k1 false
  match_over n w e l =
      leads_in w (passes_within n (left ss t m)) (next_found (left ss t m)) (after_tests n) k0 k k1 (found_by ss t m1 false) l (passes_is n (left ss t m))
      (subst (λ z. Plays (next_found (left ss t m)) k (Ok (found_by ss t m1 z)) k1 false) e h) _ _ _ plays_done

-- ---- what follows a test

module _ (w p q : Prog Bool) (k0 k k1 : Evaluator) (b : Bool) (h : Plays p k (Ok b) k1 false) where
  at_test : (f : Bool → Prog Bool) (c : Bool) → b ≡ c → Leads w k0 (p >>= f) k → Leads w k0 (f c) k1
  at_test f c e l = leads_in w (p >>= f) p f k0 k k1 c l refl (subst (λ z. Plays p k (Ok z) k1 false) e h)

  pub held : b ≡ true → Leads w k0 (p >>= or_more q) k → Plays w k0 (Ok true) k1 false
  held e l = at_test (or_more q) true e l _ _ _ plays_done

  pub not_held : b ≡ false → Leads w k0 (p >>= or_more q) k → Leads w k0 q k1
  not_held e l = at_test (or_more q) false e l

  pub next_so : b ≡ true → Leads w k0 (p >>= if_so q) k → Leads w k0 q k1
  next_so e l = at_test (if_so q) true e l

  pub not_so : b ≡ false → Leads w k0 (p >>= if_so q) k → Plays w k0 (Ok false) k1 false
  not_so e l = at_test (if_so q) false e l _ _ _ plays_done

-- ---- `p?t`

applied_by : (q : Prog Bool) (b : Bool) → (done b >>= if_so q) ≡ elim b [ true ↦ q | false ↦ done false ]
unfolding ◌>>=◌
applied_by q true = refl
applied_by q false = refl

each_is : (f x : Tree) (xs : List Tree) → each_applies f (x ∷ xs) ≡ (true_of_built (applied f (x ∷ [])) >>= if_so (each_applies f xs))
unfolding each_applies
each_is f x xs =
    let v = value_of_built (applied f (x ∷ [])) in
    sym (bind_assoc v (λ u. done (is_true u)) (if_so (each_applies f xs)) ∙ (λ i. v >>= λ u. applied_by (each_applies f xs) (is_true u) i))

pub each_at : (f : Tree) (xs : List Stamped) (i : ℕ) (x : Stamped) → i < length xs → x ≡ get_or xs i x →
    each_applies f (trees (drop i xs)) ≡ (true_of_built (applied f (plain x ∷ [])) >>= if_so (each_applies f (trees (drop (i + 1) xs))))
each_at f xs i x h e = ap (λ z. each_applies f (trees z)) (drop_item xs i x h e) ∙ each_is f (plain x) (trees (drop (i + 1) xs))

-- the next element, and then those behind it
pub each_leads : (f : Tree) (xs : List Stamped) (i : ℕ) (x : Stamped) (w : Prog Bool) (k0 k : Evaluator) → i < length xs → x ≡ get_or xs i x → Leads w k0 (each_applies f (trees (drop i xs))) k
    → Leads w k0 (true_of_built (applied f (plain x ∷ [])) >>= if_so (each_applies f (trees (drop (i + 1) xs)))) k
each_leads f xs i x w k0 k h e l = subst (λ z. Leads w k0 z k) (each_at f xs i x h e) l

pub each_over : (f : Tree) (xs : List Stamped) (i : ℕ) (k : Evaluator) → length xs ≤ i → Plays (each_applies f (trees (drop i xs))) k (Ok true) k false
unfolding each_applies
each_over f xs i k h = subst (λ z. Plays (each_applies f (trees z)) k (Ok true) k false) (sym (all_dropped xs i h)) plays_done

-- the function of one expression, as it was made
pub one_makes : (f x : Stamped) (xs : List Stamped) (made : Result Stamped ExprFault) → xs ≡ x ∷ [] → IfOk made (λ e. e ≡ stamped.node None f (from_list xs)) → ((made ≡ Err fault.Large) ↔ ¬ IsWithinLimits (tree.node (plain f) (plains (from_list xs))))
    → Makes (applied (plain f) (plain x ∷ [])) made
one_makes f x xs made e o l = subst (λ z. Makes (applied (plain f) (trees z)) made) e (node_makes f xs made o l)

-- what was filled
pub filled_makes : (t : Tree) (made : Result Stamped ExprFault) → IsFilled t made → Makes t made
filled_makes t (Ok e) h = h.is.0
filled_makes t (Err fault.Memory) h = tt
filled_makes t (Err fault.Large) h = cases (fits t) refl
  where
    cases : (b : Bool) → fits t ≡ b → fits t ≡ false
    cases true e = absurd (h.large refl ((fits_decides t).0 e))
    cases false e = e

-- ---- `Except[p]`

pub refuses_other : (n : ℕ) (p : Tree) (xs : List Stamped) (k : Evaluator) → length xs ≢ 1 → Plays (refuses_within n p (trees xs)) k (Ok false) k false
refuses_other n p [] k h = plays_done
refuses_other n p (x ∷ []) k h = absurd (h refl)
refuses_other n p (x ∷ y ∷ ys) k h = plays_done

pub refuses_one : (n : ℕ) (p : Tree) (xs : List Stamped) (x : Stamped) → length xs ≡ 1 → x ≡ get_or xs 0 x → refuses_within n p (trees xs) ≡ (matches_within n p (plain x) >>= λ b. done (not b))
refuses_one n p [] x h e = absurd (omega (arith, h))
refuses_one n p (y ∷ []) x h e = ap (λ z. matches_within n p (plain z) >>= λ b. done (not b)) (sym e)
refuses_one n p (y ∷ z ∷ zs) x h e = absurd (omega (arith, h))

-- ---- tests, by what they ask

pub asks_applies : (n : ℕ) (d : Trail) (t : Bor Stamped) (u : Run) (a : Ask) (xs : List Tree) (k k1 : Evaluator) (r : Result Bool Stop) → Asks (test.Applies t u) a xs
    → Played itself (each_applies (plain t.now) (shown u)) k r k1 → Played itself (test_within n d a xs) k r k1
unfolding test_holds
asks_applies n d t u (applies f) xs k k1 r h m = subst₂ (λ y z. Played itself (each_applies y z) k r k1) h.0 h.1 m
asks_applies n d t u (holds c) xs k k1 r h m = absurd h
asks_applies n d t u (refuses c) xs k k1 r h m = absurd h

pub asks_holds : (n : ℕ) (d : Trail) (t : Bor Stamped) (a : Ask) (xs : List Tree) (k k1 : Evaluator) (r : Result Bool Stop) → Asks (test.Holds t) a xs
    → Played itself (true_of_built (fill_binding (plain t.now) (runs d))) k r k1 → Played itself (test_within n d a xs) k r k1
unfolding test_holds
asks_holds n d t (applies f) xs k k1 r h m = absurd h
asks_holds n d t (holds c) xs k k1 r h m = subst (λ y. Played itself (true_of_built (fill_binding y (runs d))) k r k1) h m
asks_holds n d t (refuses c) xs k k1 r h m = absurd h

refuses_is : (n : ℕ) (d : Trail) (c : Tree) (xs : List Tree) → refuses_within n c xs ≡ test_within n d (refuses c) xs
unfolding test_holds
refuses_is n d c [] = refl
refuses_is n d c (x ∷ []) = refl
refuses_is n d c (x ∷ y ∷ ys) = refl

pub asks_refuses : (n : ℕ) (d : Trail) (t : Bor Stamped) (u : Run) (a : Ask) (xs : List Tree) (k k1 : Evaluator) (r : Result Bool Stop) → Asks (test.Refuses t u) a xs
    → Played itself (refuses_within n (plain t.now) (shown u)) k r k1 → Played itself (test_within n d a xs) k r k1
asks_refuses n d t u (applies f) xs k k1 r h m = absurd h
asks_refuses n d t u (holds c) xs k k1 r h m = absurd h
asks_refuses n d t u (refuses c) xs k k1 r h m =
    subst (λ p. Played itself p k r k1) (refuses_is n d c xs) (subst₂ (λ y z. Played itself (refuses_within n y z) k r k1) h.0 h.1 m)

-- the test that was found at a place
pub record TestAt (d : Trail) (k : ℕ) (x : Test) : Type 0 where
  pub it : Ask × List Tree
  pub at : slice_get (tests_in d) k ≡ Some it
  pub asks : Asks x it.0 it.1

some_test : (x : Test) (d : Trail) (k : ℕ) (o : Option (Ask × List Tree)) → slice_get (tests_in d) k ≡ o → IsTest (Some x) o → TestAt d k x
some_test x d k None e h = absurd h
some_test x d k (Some y) e h = record { it = y; at = e; asks = h }

pub test_found : (d : Trail) (k : ℕ) (x : Test) → IsTest (Some x) (slice_get (tests_in d) k) → TestAt d k x
test_found d k x h = some_test x d k (slice_get (tests_in d) k) refl h

pub tests_begin : (n : ℕ) (d : Trail) (k : Evaluator) → Leads (tests_within n d) k (all_tests (test_within n d) (tests_in d)) k
tests_begin n d k r k2 o h = subst (λ z. Plays z k r k2 o) (sym (tests_is n d)) h

pub tests_end : (n : ℕ) (d : Trail) (i : ℕ) (w : Prog Bool) (k0 k : Evaluator) → slice_get (tests_in d) i ≡ None → Leads w k0 (all_tests (test_within n d) (drop i (tests_in d))) k → Plays w k0 (Ok true) k false
tests_end n d i w k0 k h l = l _ _ _ (subst (λ z. Plays z k (Ok true) k false) (sym (tests_over n d i h)) plays_done)

pub no_test : (o : Option (Ask × List Tree)) → IsTest None o → o ≡ None
no_test None h = refl
no_test (Some y) h = absurd h

-- the next test, and then those behind it
pub tests_at : (n : ℕ) (d : Trail) (i : ℕ) (x : Test) (y : TestAt d i x) (w : Prog Bool) (k0 k : Evaluator) → Leads w k0 (all_tests (test_within n d) (drop i (tests_in d))) k
    → Leads w k0 (test_within n d y.it.0 y.it.1 >>= if_so (all_tests (test_within n d) (drop (i + 1) (tests_in d)))) k
tests_at n d i x y w k0 k l = subst (λ z. Leads w k0 z k) (test_at n d i y.it y.at) l

-- ---- a filling

abbrev pub guard_on : Bool → Tree → Prog (Option Tree)
guard_on true u = guard u
guard_on false u = done (Some u)

-- what follows the tests of a binding
abbrev pub fill_on : Tree → Trail → Bool → Prog (Option Tree)
fill_on b e false = done None
fill_on b e true = sized (fill_binding b (runs e)) >>= λ _. guard_on (is_guarded b && is_guarded (fill_binding b (runs e))) (fill_binding b (runs e))

guarded_by : (c : Bool) (u : Tree) → elim c [ true ↦ guard u | false ↦ done (Some u) ] ≡ guard_on c u
guarded_by true u = refl
guarded_by false u = refl

filled_by : (b : Tree) (e : Trail) (c : Bool) → elim c [
  | false ↦ done None
  | true ↦ sized (fill_binding b (runs e)) >>= λ _. elim (is_guarded b && is_guarded (fill_binding b (runs e))) [ true ↦ guard (fill_binding b (runs e)) | false ↦ done (Some (fill_binding b (runs e))) ]
] ≡ fill_on b e c
filled_by b e false = refl
filled_by b e true = λ i. sized (fill_binding b (runs e)) >>= λ _. guarded_by (is_guarded b && is_guarded (fill_binding b (runs e))) (fill_binding b (runs e)) i

pub filling_is : (b : Tree) (e : Trail) → filling b e ≡ (tests_within (2 ^ 64) e >>= fill_on b e)
filling_is b e = λ i. tests_within (2 ^ 64) e >>= λ c. filled_by b e c i

pub filling_leads : (b : Tree) (e : Trail) (k : Evaluator) → Leads (filling b e) k (tests_within (2 ^ 64) e >>= fill_on b e) k
filling_leads b e k r k2 o h = subst (λ z. Plays z k r k2 o) (sym (filling_is b e)) h

module _ (b : Tree) (e : Trail) (w : Prog (Option Tree)) (k0 k k1 : Evaluator) (c : Bool) (l : Leads w k0 (tests_within (2 ^ 64) e >>= fill_on b e) k) (h : Plays (tests_within (2 ^ 64) e) k (Ok c) k1 false) where
  pub not_filled : c ≡ false → Plays w k0 (Ok None) k1 false
  not_filled q = leads_in w _ (tests_within (2 ^ 64) e) (fill_on b e) k0 k k1 false l refl (subst (λ z. Plays (tests_within (2 ^ 64) e) k (Ok z) k1 false) q h) _ _ _ plays_done

  pub filled_leads : c ≡ true → Leads w k0 (fill_on b e true) k1
  filled_leads q = leads_in w _ (tests_within (2 ^ 64) e) (fill_on b e) k0 k k1 true l refl (subst (λ z. Plays (tests_within (2 ^ 64) e) k (Ok z) k1 false) q h)

-- the size of the filled body was tested
pub sized_leads : (b u : Tree) (e : Trail) (w : Prog (Option Tree)) (k0 k k1 : Evaluator) → u ≡ fill_binding b (runs e) → Leads w k0 (fill_on b e true) k → Plays (sized u) k (Ok tt) k1 false → Leads w k0 (guard_on (is_guarded b && is_guarded u) u) k1
sized_leads b u e w k0 k k1 q l h =
    let f : Tree → Prog (Option Tree) = λ z. sized z >>= λ _. guard_on (is_guarded b && is_guarded z) z in
    leads_in w (f u) (sized u) (λ _. guard_on (is_guarded b && is_guarded u) u) k0 k k1 tt (subst (λ z. Leads w k0 (f z) k) (sym q) l) refl h

pub unguarded : (c : Bool) (u : Tree) (x : Stamped) (w : Prog (Option Tree)) (k0 k : Evaluator) → c ≡ false → plain x ≡ u → Honest k x → Leads w k0 (guard_on c u) k → Played found_tree w k0 (Ok (Some x)) k
unguarded c u x w k0 k e q h l = (subst (λ z. Leads w k0 (guard_on z u) k) e l _ _ _ (plays_done_is (ap Some (sym q))), h)

pub guarded_leads : (c d : Bool) (u : Tree) (w : Prog (Option Tree)) (k0 k : Evaluator) → c ≡ true → d ≡ true → Leads w k0 (guard_on (c && d) u) k → Leads w k0 (guard u) k
guarded_leads c d u w k0 k p q l = subst₂ (λ y z. Leads w k0 (guard_on (y && z) u) k) p q l

pub both_not : (c d : Bool) → d ≡ false → (c && d) ≡ false
both_not true d e = e
both_not false d e = refl

-- ---- a match

pub matches_played : (n s : ℕ) (p t : Tree) (q : Pat) (f : List ℕ → Flags) (k k1 k2 : Evaluator) (r : Result Bool Stop) → s < n → Plays (flags_of [] (heads p)) k (Ok f) k1 false → q ≡ pattern f p
    → ((m : ℕ) → s ≤ m → Played itself (passes_within m (Trials q t)) k1 r k2) → Played itself (matches_within n p t) k r k2
unfolding matches_within passes_within
matches_played zero s p t q f k k1 k2 r l h e m = absurd (omega (arith, l))
matches_played (suc n) s p t q f k k1 k2 r l h e m = played_bind itself _ _ k k1 f r k2 h (subst (λ z. Played itself (passes_within n (Trials z t)) k1 r k2) e (m n (omega (arith, l))))

pub rule_played : (b p t : Tree) (q : Pat) (f : List ℕ → Flags) (k k1 k2 : Evaluator) (r : Result (Option Stamped) Stop) → Plays (flags_of [] (heads p)) k (Ok f) k1 false → q ≡ pattern f p
    → Played found_tree (walk (filling b) (Trials q t)) k1 r k2 → Played found_tree (rule_result (record { left = p; body = b }) t) k r k2
rule_played b p t q f k k1 k2 r h e m = played_bind found_tree _ _ k k1 f r k2 h (subst (λ z. Played found_tree (walk (filling b) (Trials z t)) k1 r k2) e m)

-- ---- a trial

pub trial_at : (rs : List Rule) (i : ℕ) (x : Rule) (t : Tree) → slice_get rs i ≡ Some x →
    trial (map plain_rule (drop i rs)) t ≡ (rule_result (plain_rule x) t >>= λ u. or_else u (trial (map plain_rule (drop (i + 1) rs)) t))
unfolding trial
trial_at rs i x t h = ap (λ z. trial (map plain_rule z) t) (drop_at rs i x h)

-- the next rule, and then those behind it
pub trial_leads : (rs : List Rule) (i : ℕ) (x : Rule) (t : Tree) (w : Prog (Option Tree)) (k0 k : Evaluator) → slice_get rs i ≡ Some x → Leads w k0 (trial (map plain_rule (drop i rs)) t) k
    → Leads w k0 (rule_result (plain_rule x) t >>= λ u. or_else u (trial (map plain_rule (drop (i + 1) rs)) t)) k
trial_leads rs i x t w k0 k h l = subst (λ z. Leads w k0 z k) (trial_at rs i x t h) l

pub trial_over : (rs : List Rule) (i : ℕ) (t : Tree) (k : Evaluator) → length rs ≤ i → Plays (trial (map plain_rule (drop i rs)) t) k (Ok None) k false
unfolding trial
trial_over rs i t k h = subst (λ z. Plays (trial (map plain_rule z) t) k (Ok None) k false) (sym (all_dropped rs i h)) plays_done

-- ---- what is honest

pub kept_honest : (a : Stored) (p : Stamped) (ks : List Stamped) → ((ms : List Stamped) → IsFrom ms p → All (IsFrom ms) ks) → HonestIn a p → All (HonestIn a) ks
kept_honest a p ks f h i d l = passed_honest a p (get_or ks i d) (λ ms m. f ms m i d l) h

-- what comes from pattern and subject of a view
pub view_honest : (k : Evaluator) (v : View) (e : Stamped) → ((ms : List Stamped) → AreFrom ms v → IsFrom ms e) → HonestView k v → Honest k e
view_honest k v e f h =
    passed_honest k.store (stamped.node None (subject_in v) (from_list (kept (pattern_in v)))) e (λ ms m. f ms (m.0, all_from ms (kept (pattern_in v)) m.1))
    (built_honest k.store (subject_in v) (kept (pattern_in v)) h.0 h.1)

pub all_view_honest : (k : Evaluator) (v : View) (es : List Stamped) → ((ms : List Stamped) → AreFrom ms v → All (IsFrom ms) es) → HonestView k v → AllHonest k es
all_view_honest k v es f h i d l = view_honest k v (get_or es i d) (λ ms m. f ms m i d l) h

-- and what comes from a body besides
pub filled_honest : (k : Evaluator) (v : View) (b e : Stamped) → ((ms : List Stamped) → IsFrom ms b → AreFrom ms v → IsFrom ms e) → HonestView k v → Honest k b → Honest k e
filled_honest k v b e f h g =
    passed_honest k.store (stamped.node None b (from_list (subject_in v ∷ kept (pattern_in v)))) e (λ ms m. f ms m.0 (m.1.0, all_from ms (kept (pattern_in v)) m.1.1))
    (built_honest k.store b (subject_in v ∷ kept (pattern_in v)) g (All-cons (Honest k) (subject_in v) (kept (pattern_in v)) h.0 h.1))

pub made_honest : (k : Evaluator) (v : View) (b : Stamped) (made : Result Stamped ExprFault) → ((ms : List Stamped) → IsFrom ms b → AreFrom ms v → IfOk made (IsFrom ms)) → HonestView k v → Honest k b → IfOk made (Honest k)
made_honest k v b (Ok e) f h g = filled_honest k v b e f h g
made_honest k v b (Err d) f h g = tt
