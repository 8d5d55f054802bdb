-- The steps of a walk at a node and at its elements.
use Rattle.std.proofs.Common.{◌≡◌, ◌≢◌, ◌<◌, ◌≤◌, ◌+◌, ◌-◌, ◌&&◌, ℕ, zero, suc, Bool, true, false, cond, not, ◌||◌, List, [], ◌∷◌, ◌++◌, length, map, take, drop, get_or, Option, Some, None, refl, ap, sym, subst, ◌∙◌, arith, append_assoc}
use Rattle.std.specs.Prelude.{nat_lt, Vec}
use Rattle.std.specs.Global.{Global}
use Rattle.std.specs.Option.{option_map}
use Rattle.std.proofs.lemmas.Bool.{lt-ltb, ltb-true}
use Rattle.std.proofs.lemmas.List.{take_all, drop_all, length-map, length-drop, map-append}
use Rattle.std.proofs.Math.Seq.{drop-cons}
use Rattle.std.proofs.Math.Bool.{and-true}
use Rattle.wl_expr.specs.Tree.{Tree, num, text, symbol, node, to_list, from_list, to_list_from_list}
use Rattle.wl_expr.specs.Same.{same, same_decides}
use Rattle.wl_expr.specs.Words.{head_of}
use Rattle.wl_expr.specs.Stamped.{Stamped, plain, plains, from_list as from}
use Rattle.wl_match.specs.declared.flags.Flags.{Flags}
use Rattle.wl_match.specs.declared.part.Part.{Part}
use Rattle.wl_match.specs.declared.part.Part.TheVariants as part
use Rattle.wl_match.specs.declared.taken.Place.{Place}
use Rattle.wl_match.specs.declared.taken.Taken.{Taken}
use Rattle.wl_match.specs.declared.taken.Taken.TheVariants as taken
use Rattle.wl_match.specs.declared.taken.Goal.TheVariants.{Match, Elements, Lengths, Pick, Bind}
use Rattle.wl_match.specs.declared.walk.Walk.{Walk}
use Rattle.wl_match.specs.declared.leaf.Step.{Step}
use Rattle.wl_match.specs.declared.leaf.Step.TheVariants.{Went, Failed}
use Rattle.wl_match.specs.Pattern.{Pat, Pats, exactly, blank, named, tested, hold, optional, alternatives, repeated, except, nodes, also, any_optional, stretchable}
use Rattle.wl_match.specs.Search.{Trail, Fail, Search, leaf, later, either, leaves, Cont, fail, guard, or_else, or_fail}
use Rattle.wl_match.specs.Trials.{Site, Took, absent, all_have, default_of, each_length, elements, name_of, pick, shaped, stretches, takes, trials}
use Rattle.wl_match.specs.Parts.{has_own_head, is_exactly, pat, pat_of, pats_of}
use Rattle.wl_match.specs.Runs.{child, element_at, elements_of, kept_at, part_at, picked, root_at, run_at, tree_at}
use Rattle.wl_match.specs.Means.{IsPart, children, conts, flags_at, from_child, goal_means, has_later, head_at, inside, lengths_on, name_at, picks_on, site_at, taking, tree_among}
use Rattle.wl_match.specs.Plays.{Goes, Keeps, Plays, Puts, Turns, expanding, goals_of, noding, now, opened, opening, rest, skipping, taken_before, taken_by, trail_of}
use Rattle.wl_match.proofs.Arms.{plays_as, plays_fail, plays_kept, plays_put, puts_two}
use Rattle.wl_match.proofs.Fitting.{stretched_head}
use Rattle.wl_match.proofs.LentLemmas.{same_turned}
use Rattle.wl_match.proofs.Subjects.{follow_append, trees_of}

-- ---- walks

-- another search is begun
pub plays_turned : (ss : List Part) (t : Tree) (s s' : Search) (old new : Walk) → Turns ss t s' old new → s ≡ later s' → Plays ss t s old Went new
plays_turned ss t s s' old new h e =
    let k : s ≡ later (now ss t new) = e ∙ ap later (sym h.now_is) in
    subst (λ z. Goes z (rest ss t old) (now ss t new) (rest ss t new)) (sym k) (record { same = ap (λ z. leaves (now ss t new) ++ z) (sym h.rest_is); falls = omega arith })

-- a choice was kept before
pub plays_turned_kept : (ss : List Part) (t : Tree) (s s' y : Search) (old mid new : Walk) → rest ss t mid ≡ leaves y ++ rest ss t old → Turns ss t s' mid new → s ≡ either s' y → Plays ss t s old Went new
plays_turned_kept ss t s s' y old mid new m h e =
    let x = now ss t new in
    let k : s ≡ either x y = e ∙ ap (λ z. either z y) (sym h.now_is) in
    let r : leaves y ++ rest ss t old ≡ rest ss t new = sym (h.rest_is ∙ m) in
    subst (λ z. Goes z (rest ss t old) x (rest ss t new)) (sym k) (record { same = append_assoc (leaves x) (leaves y) (rest ss t old) ∙ ap (λ z. leaves x ++ z) r; falls = omega arith })

-- from a walk with the same choices
pub plays_after : (ss : List Part) (t : Tree) (s : Search) (old mid new : Walk) (d : Step) → rest ss t mid ≡ rest ss t old → Plays ss t s mid d new → Plays ss t s old d new
plays_after ss t s old mid new Went r h = subst (λ z. Goes s z (now ss t new) (rest ss t new)) r h
plays_after ss t s old mid new Failed r h = ap (λ z. leaves s ++ z) (sym r) ∙ h

-- ---- a run for an element

pub turned : (ss : List Part) (t : Tree) (i next q : ℕ) (left r : Taken) (xs : List Tree) (old mid new : Walk) → Puts old mid (Elements i next left ∷ []) → run_at ss t r ≡ shaped (stretches (site_at ss i) (pat ss q)) (head_at (part_at ss i)) xs → Puts mid new (Match q r ∷ []) → Turns ss t (taken_before ss t old i next q xs (run_at ss t left)) old new
turned ss t i next q left r xs old mid new p e p' =
    let b = puts_two old mid new (Elements i next left) (Match q r) p p' in
    let k : Cont = λ d. conts ss t (goals_of old) d in
    record {
      now_is = (λ v. conts ss t (b.goals v) (b.trail ss t v)) ∙ ap (λ z. trials (pat ss q) z (λ d. elements (site_at ss i) (next + 1) (from_child ss i next) (run_at ss t left) k d) (trail_of ss t old)) e;
      rest_is = b.rest_is ss t;
    }

pub stretch_is : (ss : List Part) (t : Tree) (i q : ℕ) (b : Bool) (xs ys : List Tree) → b ≡ stretches (site_at ss i) (pat ss q) → b ≡ true → ys ≡ shaped true (kept_at ss t i) xs → ys ≡ shaped (stretches (site_at ss i) (pat ss q)) (head_at (part_at ss i)) xs
stretch_is ss t i q b xs ys e f h = h ∙ (λ v. shaped ((sym f ∙ e) v) (stretched_head t (part_at ss i) (λ g. stretchable g (pat ss q)) (sym e ∙ f) v) xs)

pub plain_is : (ss : List Part) (i q : ℕ) (b : Bool) (xs : List Tree) → b ≡ stretches (site_at ss i) (pat ss q) → b ≡ false → xs ≡ shaped (stretches (site_at ss i) (pat ss q)) (head_at (part_at ss i)) xs
plain_is ss i q b xs e f = ap (λ z. shaped z (head_at (part_at ss i)) xs) (sym f ∙ e)

nil_left : (c f : ℕ) → take {A = Tree} c (drop f []) ≡ []
nil_left zero zero = refl
nil_left zero (suc f) = refl
nil_left (suc c) zero = refl
nil_left (suc c) (suc f) = refl

drop_none : (xs : List Tree) → drop 0 xs ≡ xs
drop_none [] = refl
drop_none (x ∷ xs) = refl

whole_slice : (xs : List Tree) (n : ℕ) → length xs ≤ n → take n (drop 0 xs) ≡ xs
whole_slice xs n l = ap (take n) (drop_none xs) ∙ take_all n xs l

-- the runs that an element takes, by the first of a list of patterns
abbrev on_element : List Part → Tree → Walk → ℕ → ℕ → ℕ → Taken → ℕ → Search
on_element ss t old i j q left low = takes (flags_at (part_at ss i)).orderless (taken_by ss t old i j q) (run_at ss t left) low

pub length_picked : (ss : List Part) (t : Tree) (i j q low : ℕ) (left left' : Taken) (ch sk : List ℕ) (f : Flags) (old new : Walk) → from_child ss i j ≡ also (pat ss q) (from_child ss i (j + 1)) → f ≡ flags_at (part_at ss i) → f.orderless ≡ true → left' ≡ left → ch ≡ [] → sk ≡ [] → Puts old new (Pick i j left' low 0 ch sk ∷ []) → Turns ss t (on_element ss t old i j q left low) old new
length_picked ss t i j q low left left' ch sk f old new h e o a b c p =
    let k : Cont = λ d. conts ss t (goals_of old) d in
    let d = trail_of ss t old in
    record {
      now_is = (λ v. conts ss t (p.goals v) (p.trail ss t v))
          ∙ (λ v. picks_on (site_at ss i) (j + 1) (h v) (run_at ss t (a v)) low 0 (b v) (c v) k d)
          ∙ ap (pick (taken_by ss t old i j q) low [] []) (drop_none (run_at ss t left))
          ∙ ap (λ z. takes z (taken_by ss t old i j q) (run_at ss t left) low) (sym (sym (ap (λ z. z.orderless) e) ∙ o));
      rest_is = p.rest_is ss t;
    }

pub length_cut : (ss : List Part) (t : Tree) (i j q low n next : ℕ) (left a b : Taken) (f : Flags) (old new : Walk) → f ≡ flags_at (part_at ss i) → f.orderless ≡ false → n ≡ length (run_at ss t left) → next ≡ j + 1 → run_at ss t a ≡ take low (drop 0 (run_at ss t left)) → run_at ss t b ≡ take n (drop low (run_at ss t left)) → Turns ss t (taken_before ss t old i next q (run_at ss t a) (run_at ss t b)) old new → Turns ss t (on_element ss t old i j q left low) old new
length_cut ss t i j q low n next left a b f old new e o l x y z h =
    let r = run_at ss t left in
    let m : length (drop low r) ≤ n = omega (arith, length-drop low r) in
    subst (λ s. Turns ss t s old new)
    ((λ v. taken_before ss t old i (x v) q ((y ∙ ap (take low) (drop_none r)) v) ((z ∙ take_all n (drop low r) m) v))
    ∙ ap (λ z. takes z (taken_by ss t old i j q) r low) (sym (sym (ap (λ z. z.orderless) e) ∙ o)))
    h

-- ---- lengths

each_more : (f : ℕ → Search) (a : Option Search) (low n m longer : ℕ) → n ≢ 0 → m ≡ n - 1 → longer ≡ low + 1 → each_length f a low n ≡ Some (or_else (f low) (each_length f a longer m))
each_more f a low zero m longer z e g = absurd (z refl)
each_more f a low (suc n) m longer z e g = let k : n ≡ m = omega arith in λ v. Some (or_else (f low) (each_length f a (sym g v) (k v)))

rest_some : (f : ℕ → Search) (g : ℕ → Tree) (o : Option ℕ) (x : Option (List ℕ)) (k : Cont) (e : Trail) (low n m : ℕ) (b : Bool) → n ≢ 0 → m ≡ n - 1 → b ≡ has_later n o → b ≡ true → each_length f (absent (option_map g o) x k e) low m ≡ Some (or_fail (each_length f (absent (option_map g o) x k e) low m))
rest_some f g o x k e low n (suc m) b z h l t = refl
rest_some f g (Some d) None k e low n zero b z h l t = refl
rest_some f g (Some d) (Some y) k e low n zero b z h l t = refl
rest_some f g None x k e low n zero b z h l t = let w : 1 < n = ltb-true 1 n (sym l ∙ t) in absurd (omega arith)

rest_none : (f : ℕ → Search) (g : ℕ → Tree) (o : Option ℕ) (x : Option (List ℕ)) (k : Cont) (e : Trail) (low n m : ℕ) (b : Bool) → n ≢ 0 → m ≡ n - 1 → b ≡ has_later n o → b ≡ false → each_length f (absent (option_map g o) x k e) low m ≡ None
rest_none f g (Some d) x k e low n m b z h l t = cc
rest_none f g None x k e low n zero b z h l t = refl
rest_none f g None x k e low n (suc m) b z h l t = let w : 1 < n = omega arith in let y : nat_lt 1 n ≡ true = lt-ltb 1 n w in cc

-- the lengths of an element
lengths_are : (ss : List Part) (t : Tree) (i j q low n : ℕ) (left : Taken) (o : Option ℕ) (old : Walk) → from_child ss i j ≡ also (pat ss q) (from_child ss i (j + 1)) → ((u : Tree) → option_map (kept_at ss u) o ≡ default_of (site_at ss i) (j + 1) (pat ss q)) → expanding ss t old (Lengths i j left low n) ≡ or_fail (each_length (on_element ss t old i j q left) (absent (option_map (kept_at ss t) o) (name_of (pat ss q)) (λ d. elements (site_at ss i) (j + 1 + 1) (from_child ss i (j + 1)) (run_at ss t left) (λ c. conts ss t (goals_of old) c) d) (trail_of ss t old)) low n)
lengths_are ss t i j q low n left o old h e =
    let k : Cont = λ d. conts ss t (goals_of old) d in
    ap (λ z. lengths_on (site_at ss i) (j + 1) z (run_at ss t left) low n k (trail_of ss t old)) h
    ∙ ap (λ z. or_fail (each_length (on_element ss t old i j q left) (absent z (name_of (pat ss q)) (λ d. elements (site_at ss i) (j + 1 + 1) (from_child ss i (j + 1)) (run_at ss t left) k d) (trail_of ss t old)) low n)) (sym (e t))

pub lengths_last : (ss : List Part) (t : Tree) (i j q low n : ℕ) (left : Taken) (o : Option ℕ) (b : Bool) (old new : Walk) → from_child ss i j ≡ also (pat ss q) (from_child ss i (j + 1)) → ((u : Tree) → option_map (kept_at ss u) o ≡ default_of (site_at ss i) (j + 1) (pat ss q)) → n ≢ 0 → b ≡ has_later n o → b ≡ false → Turns ss t (on_element ss t old i j q left low) old new → Plays ss t (expanding ss t old (Lengths i j left low n)) old Went new
lengths_last ss t i j q low n left o b old new h e z l f p =
    let k : Cont = λ d. elements (site_at ss i) (j + 1 + 1) (from_child ss i (j + 1)) (run_at ss t left) (λ c. conts ss t (goals_of old) c) d in
    let a = absent (option_map (kept_at ss t) o) (name_of (pat ss q)) k (trail_of ss t old) in
    let g = on_element ss t old i j q left in
    plays_turned ss t (expanding ss t old (Lengths i j left low n)) (g low) old new p
    (lengths_are ss t i j q low n left o old h e
    ∙ ap or_fail (each_more g a low n (n - 1) (low + 1) z refl refl)
    ∙ ap (or_else (g low)) (rest_none g (kept_at ss t) o (name_of (pat ss q)) k (trail_of ss t old) (low + 1) n (n - 1) b z refl l f))

pub lengths_more : (ss : List Part) (t : Tree) (i j q low longer n m : ℕ) (left left' : Taken) (o : Option ℕ) (b : Bool) (old mid new : Walk) → from_child ss i j ≡ also (pat ss q) (from_child ss i (j + 1)) → ((u : Tree) → option_map (kept_at ss u) o ≡ default_of (site_at ss i) (j + 1) (pat ss q)) → n ≢ 0 → b ≡ has_later n o → b ≡ true → longer ≡ low + 1 → m ≡ n - 1 → left' ≡ left → Keeps old mid (Lengths i j left' longer m) → Turns ss t (on_element ss t mid i j q left low) mid new → Plays ss t (expanding ss t old (Lengths i j left low n)) old Went new
lengths_more ss t i j q low longer n m left left' o b old mid new h e z l f x y w p p' =
    let k : Cont = λ d. elements (site_at ss i) (j + 1 + 1) (from_child ss i (j + 1)) (run_at ss t left) (λ c. conts ss t (goals_of old) c) d in
    let a = absent (option_map (kept_at ss t) o) (name_of (pat ss q)) k (trail_of ss t old) in
    let g = on_element ss t old i j q left in
    let d : Trail = trail_of ss t old in
    plays_turned_kept ss t (expanding ss t old (Lengths i j left low n)) (on_element ss t mid i j q left low) (conts ss t (Lengths i j left' longer m ∷ goals_of old) d) old mid new (p.rest_is ss t) p'
    (lengths_are ss t i j q low n left o old h e
    ∙ ap or_fail (each_more g a low n m longer z y x)
    ∙ ap (or_else (g low)) (rest_some g (kept_at ss t) o (name_of (pat ss q)) k d longer n m b z y l f)
    ∙ ap (either (g low)) (sym (lengths_are ss t i j q longer m left o old h e))
    ∙ (λ v. either (takes (flags_at (part_at ss i)).orderless (taking (site_at ss i) (j + 1) (pat ss q) (from_child ss i (j + 1)) (λ c. conts ss t (sym p.goals v) c) (sym (p.trail ss t) v)) (run_at ss t left) low)
    (conts ss t (Lengths i j (sym w v) longer m ∷ goals_of old) d)))

-- ---- an absent element

pub absent_none : (ss : List Part) (t : Tree) (i j q : ℕ) (left : Taken) (old : Walk) → None ≡ default_of (site_at ss i) (j + 1) (pat ss q) → Plays ss t (skipping ss t old i j q left) old Failed old
absent_none ss t i j q left old e = plays_fail ss t (skipping ss t old i j q left) old (ap (λ o. or_fail (absent o (name_of (pat ss q)) (λ d. goal_means ss t (Elements i (j + 1) left) (λ f. conts ss t (goals_of old) f) d) (trail_of ss t old))) (sym e))

pub absent_unnamed : (ss : List Part) (t : Tree) (i j q next : ℕ) (u : Tree) (left left' : Taken) (old new : Walk) → Some u ≡ default_of (site_at ss i) (j + 1) (pat ss q) → None ≡ name_of (pat ss q) → next ≡ j + 1 → left' ≡ left → Puts old new (Elements i next left' ∷ []) → Plays ss t (skipping ss t old i j q left) old Went new
absent_unnamed ss t i j q next u left left' old new e f x y p =
    plays_put ss t (skipping ss t old i j q left) old new Went (Elements i next left' ∷ []) refl p
    ((λ v. or_fail (absent (sym e v) (sym f v) (λ d. goal_means ss t (Elements i (j + 1) left) (λ f. conts ss t (goals_of old) f) d) (trail_of ss t old)))
    ∙ (λ v. later (goal_means ss t (Elements i (sym x v) (sym y v)) (λ f. conts ss t (goals_of old) f) (trail_of ss t old))))

pub absent_named : (ss : List Part) (t : Tree) (i j q next n d : ℕ) (left left' : Taken) (place : Place) (old mid new : Walk) (step : Step) → Some (kept_at ss t d) ≡ default_of (site_at ss i) (j + 1) (pat ss q) → Some (name_at (part_at ss n)) ≡ name_of (pat ss q) → next ≡ j + 1 → left' ≡ left → place ≡ record { root = Some d; steps = [] } → Puts old mid (Elements i next left' ∷ []) → Plays ss t (expanding ss t mid (Bind n (taken.Tree place))) mid step new → Plays ss t (skipping ss t old i j q left) old step new
absent_named ss t i j q next n d left left' place old mid new step e f x y z p h =
    plays_after ss t (skipping ss t old i j q left) old mid new step (p.rest_is ss t)
    (plays_as ss t (skipping ss t old i j q left) (expanding ss t mid (Bind n (taken.Tree place))) mid new step
    ((λ v. or_fail (absent (sym e v) (sym f v) (λ d. goal_means ss t (Elements i (j + 1) left) (λ f. conts ss t (goals_of old) f) d) (trail_of ss t old)))
    ∙ (λ v. goal_means ss t (Bind n (taken.Tree (sym z v))) (λ d. goal_means ss t (Elements i (sym x v) (sym y v)) (λ f. conts ss t (goals_of old) f) d) (trail_of ss t old))
    ∙ (λ v. goal_means ss t (Bind n (taken.Tree place)) (λ d. conts ss t (sym p.goals v) d) (sym (p.trail ss t) v)))
    h)

-- ---- picks

picks_are : (ss : List Part) (t : Tree) (i j q more at : ℕ) (left : Taken) (ch sk : List ℕ) (old : Walk) → from_child ss i j ≡ also (pat ss q) (from_child ss i (j + 1)) → expanding ss t old (Pick i j left more at ch sk) ≡ pick (taken_by ss t old i j q) more (map (tree_among (run_at ss t left)) ch) (map (tree_among (run_at ss t left)) sk) (drop at (run_at ss t left))
picks_are ss t i j q more at left ch sk old h = ap (λ z. picks_on (site_at ss i) (j + 1) z (run_at ss t left) more at ch sk (λ d. conts ss t (goals_of old) d) (trail_of ss t old)) h

pub picks_end : (ss : List Part) (t : Tree) (i j q more at next : ℕ) (left a b : Taken) (ch sk : List ℕ) (old new : Walk) → from_child ss i j ≡ also (pat ss q) (from_child ss i (j + 1)) → more ≡ 0 → next ≡ j + 1 → run_at ss t a ≡ map (tree_among (run_at ss t left)) ch → run_at ss t b ≡ map (tree_among (run_at ss t left)) sk ++ drop at (run_at ss t left) → Turns ss t (taken_before ss t old i next q (run_at ss t a) (run_at ss t b)) old new → Plays ss t (expanding ss t old (Pick i j left more at ch sk)) old Went new
picks_end ss t i j q more at next left a b ch sk old new h z x e f p =
    let r = run_at ss t left in
    plays_turned ss t (expanding ss t old (Pick i j left more at ch sk)) (taken_before ss t old i next q (run_at ss t a) (run_at ss t b)) old new p
    (picks_are ss t i j q more at left ch sk old h
    ∙ ap (λ m. pick (taken_by ss t old i j q) m (map (tree_among r) ch) (map (tree_among r) sk) (drop at r)) z
    ∙ (λ v. later (taken_before ss t old i (sym x v) q (sym e v) (sym f v))))

no_more : (f : Took) (m : ℕ) (c s l : List Tree) → m ≢ 0 → l ≡ [] → pick f m c s l ≡ fail
no_more f zero c s l z e = absurd (z refl)
no_more f (suc m) c s l z e = ap (pick f (suc m) c s) e

pub picks_fail : (ss : List Part) (t : Tree) (i j q more at n : ℕ) (left : Taken) (ch sk : List ℕ) (old : Walk) → from_child ss i j ≡ also (pat ss q) (from_child ss i (j + 1)) → more ≢ 0 → n ≡ length (run_at ss t left) → n ≤ at → Plays ss t (expanding ss t old (Pick i j left more at ch sk)) old Failed old
picks_fail ss t i j q more at n left ch sk old h z l g =
    let r = run_at ss t left in
    plays_fail ss t (expanding ss t old (Pick i j left more at ch sk)) old
    (picks_are ss t i j q more at left ch sk old h ∙ no_more (taken_by ss t old i j q) more (map (tree_among r) ch) (map (tree_among r) sk) (drop at r) z (drop_all at r (omega arith)))

one_more : (f : Took) (m n : ℕ) (c s l l' : List Tree) (x : Tree) → m ≢ 0 → n ≡ m - 1 → l ≡ x ∷ l' → pick f m c s l ≡ or_else (pick f n (c ++ x ∷ []) s l') (cond (nat_lt n (length l')) (Some (pick f m c (s ++ x ∷ []) l')) None)
one_more f zero n c s l l' x z e g = absurd (z refl)
one_more f (suc m) n c s l l' x z e g =
    let k : m ≡ n = omega arith in
    ap (pick f (suc m) c s) g ∙ (λ v. or_else (pick f (k v) (c ++ x ∷ []) s l') (cond (nat_lt (k v) (length l')) (Some (pick f (suc m) c (s ++ x ∷ []) l')) None))

picks_split : (ss : List Part) (t : Tree) (i j q more m at n : ℕ) (left : Taken) (ch sk : List ℕ) (old : Walk) → from_child ss i j ≡ also (pat ss q) (from_child ss i (j + 1)) → more ≢ 0 → m ≡ more - 1 → n ≡ length (run_at ss t left) → at < n → expanding ss t old (Pick i j left more at ch sk) ≡ or_else (expanding ss t old (Pick i j left m (at + 1) (ch ++ at ∷ []) sk)) (cond (nat_lt m (length (drop (at + 1) (run_at ss t left)))) (Some (expanding ss t old (Pick i j left more (at + 1) ch (sk ++ at ∷ [])))) None)
picks_split ss t i j q more m at n left ch sk old h z e l g =
    let r = run_at ss t left in
    let f : Took = taken_by ss t old i j q in
    let d : drop at r ≡ tree_among r at ∷ drop (at + 1) r = drop-cons r at (symbol []) (omega arith) ∙ ap (λ k. tree_among r at ∷ drop k r) (let k : suc at ≡ at + 1 = omega arith in k) in
    picks_are ss t i j q more at left ch sk old h
    ∙ one_more f more m (map (tree_among r) ch) (map (tree_among r) sk) (drop at r) (drop (at + 1) r) (tree_among r at) z e d
    ∙ (λ v. or_else (pick f m (sym (map-append (tree_among r) ch (at ∷ [])) v) (map (tree_among r) sk) (drop (at + 1) r)) (cond (nat_lt m (length (drop (at + 1) r))) (Some (pick f more (map (tree_among r) ch) (sym (map-append (tree_among r) sk (at ∷ [])) v) (drop (at + 1) r))) None))
    ∙ (λ v. or_else (sym (picks_are ss t i j q m (at + 1) left (ch ++ at ∷ []) sk old h) v) (cond (nat_lt m (length (drop (at + 1) r))) (Some (sym (picks_are ss t i j q more (at + 1) left ch (sk ++ at ∷ []) old h) v)) None))

pub picks_last : (ss : List Part) (t : Tree) (i j q more m at n place : ℕ) (left left' : Taken) (ch ch' sk sk' : List ℕ) (old new : Walk) → from_child ss i j ≡ also (pat ss q) (from_child ss i (j + 1)) → more ≢ 0 → m ≡ more - 1 → n ≡ length (run_at ss t left) → at < n → n - at ≤ more → place ≡ at → left' ≡ left → ch' ≡ ch ++ place ∷ [] → sk' ≡ sk → Puts old new (Pick i j left' m (at + 1) ch' sk' ∷ []) → Plays ss t (expanding ss t old (Pick i j left more at ch sk)) old Went new
picks_last ss t i j q more m at n place left left' ch ch' sk sk' old new h z e l g c x a b d p =
    let r = run_at ss t left in
    let no : nat_lt m (length (drop (at + 1) r)) ≡ false = not_below m (length (drop (at + 1) r)) (omega (arith, length-drop (at + 1) r)) in
    plays_put ss t (expanding ss t old (Pick i j left more at ch sk)) old new Went (Pick i j left' m (at + 1) ch' sk' ∷ []) refl p
    (picks_split ss t i j q more m at n left ch sk old h z e l g
    ∙ ap (λ w. or_else (expanding ss t old (Pick i j left m (at + 1) (ch ++ at ∷ []) sk)) (cond w (Some (expanding ss t old (Pick i j left more (at + 1) ch (sk ++ at ∷ [])))) None)) no
    ∙ (λ v. later (expanding ss t old (Pick i j (sym a v) m (at + 1) (sym (b ∙ ap (λ y. ch ++ y ∷ []) x) v) (sym d v)))))
  where
    not_below : (a b : ℕ) → b ≤ a → nat_lt a b ≡ false
    not_below a b h = elim (nat_lt a b) as (λ v. nat_lt a b ≡ v → nat_lt a b ≡ false) [ true ↦ λ e. let w : a < b = ltb-true a b e in absurd (omega arith) | false ↦ λ e. e ] refl

pub picks_more : (ss : List Part) (t : Tree) (i j q more m at n place place' : ℕ) (left left' left'' : Taken) (ch ch' ch'' sk sk' sk'' : List ℕ) (old mid new : Walk) → from_child ss i j ≡ also (pat ss q) (from_child ss i (j + 1)) → more ≢ 0 → m ≡ more - 1 → n ≡ length (run_at ss t left) → at < n → more < n - at → place ≡ at → left' ≡ left → ch' ≡ ch ++ place ∷ [] → sk' ≡ sk → left'' ≡ left → ch'' ≡ ch → sk'' ≡ sk ++ place ∷ [] → Keeps old mid (Pick i j left'' more (at + 1) ch'' sk'') → Puts mid new (Pick i j left' m (at + 1) ch' sk' ∷ []) → Plays ss t (expanding ss t old (Pick i j left more at ch sk)) old Went new
picks_more ss t i j q more m at n place place' left left' left'' ch ch' ch'' sk sk' sk'' old mid new h z e l g c x a b d a' b' d' p p' =
    let r = run_at ss t left in
    let yes : nat_lt m (length (drop (at + 1) r)) ≡ true = lt-ltb m (length (drop (at + 1) r)) (omega (arith, length-drop (at + 1) r)) in
    plays_kept ss t (expanding ss t old (Pick i j left more at ch sk)) old mid new Went (Pick i j left'' more (at + 1) ch'' sk'') (Pick i j left' m (at + 1) ch' sk' ∷ []) refl p p'
    (picks_split ss t i j q more m at n left ch sk old h z e l g
    ∙ ap (λ w. or_else (expanding ss t old (Pick i j left m (at + 1) (ch ++ at ∷ []) sk)) (cond w (Some (expanding ss t old (Pick i j left more (at + 1) ch (sk ++ at ∷ [])))) None)) yes
    ∙ (λ v. either (expanding ss t old (Pick i j (sym a v) m (at + 1) (sym (b ∙ ap (λ y. ch ++ y ∷ []) x) v) (sym d v)))
    (expanding ss t old (Pick i j (sym a' v) more (at + 1) (sym b' v) (sym (d' ∙ ap (λ y. sk ++ y ∷ []) x) v)))))

-- ---- nodes

pub opens_node : (ss : List Part) (t : Tree) (i hp n : ℕ) (p p' b : Place) (h u : Tree) (xs : List Stamped) (old mid new : Walk) → node h (plains (from xs)) ≡ u → u ≡ tree_at ss t p → b ≡ record { root = p.root; steps = p.steps ++ 0 ∷ [] } → p' ≡ p → n ≡ length xs → Puts old mid (Elements i 0 (taken.Slice p' 0 n) ∷ []) → Puts mid new (Match hp (taken.Tree b) ∷ []) → Plays ss t (opening ss t old i hp (tree_at ss t p)) old Went new
opens_node ss t i hp n p p' b h u xs old mid new e f g a l q r =
    let k : Cont = λ d. conts ss t (goals_of old) d in
    let s = site_at ss i in
    let ps = from_child ss i 0 in
    let d = trail_of ss t old in
    let w : tree_at ss t p ≡ node h (plains (from xs)) = sym (e ∙ f) in
    let top : tree_at ss t b ≡ h = ap (tree_at ss t) g ∙ follow_append p.steps 0 (root_at ss t p.root) ∙ ap (child 0) w in
    let m : length (to_list (plains (from xs))) ≡ length xs = ap length (trees_of xs) ∙ length-map xs plain in
    let below : run_at ss t (taken.Slice p' 0 n) ≡ to_list (plains (from xs)) = (λ v. take n (drop 0 (elements_of (tree_at ss t (a v))))) ∙ ap (λ z. take n (drop 0 (elements_of z))) w ∙ whole_slice (to_list (plains (from xs))) n (omega arith) in
    plays_put ss t (opening ss t old i hp (tree_at ss t p)) old new Went (Match hp (taken.Tree b) ∷ Elements i 0 (taken.Slice p' 0 n) ∷ []) refl
    (puts_two old mid new (Elements i 0 (taken.Slice p' 0 n)) (Match hp (taken.Tree b)) q r)
    (ap (λ z. opened s (pat ss hp) ps z k d) w
    ∙ (λ v. later (trials (pat ss hp) (sym top v ∷ []) (λ c. elements s 1 ps (sym below v) k c) d)))

pub opens_wrapped : (ss : List Part) (t : Tree) (i hp o : ℕ) (p p' b : Place) (is is' : List ℕ) (run : Taken) (old mid new : Walk) (u : Tree) → run ≡ taken.Wrapped o p is → p' ≡ p → is' ≡ is → b ≡ record { root = Some o; steps = [] } → Puts old mid (Elements i 0 (taken.Picked p' is') ∷ []) → Puts mid new (Match hp (taken.Tree b) ∷ []) → run_at ss t run ≡ u ∷ [] → Plays ss t (opening ss t old i hp u) old Went new
opens_wrapped ss t i hp o p p' b is is' run old mid new u e f g a q r x =
    let k : Cont = λ d. conts ss t (goals_of old) d in
    let s = site_at ss i in
    let ps = from_child ss i 0 in
    let d = trail_of ss t old in
    let n = node (kept_at ss t o) (from_list (picked (tree_at ss t p) is)) in
    let both : n ∷ [] ≡ u ∷ [] = sym (ap (run_at ss t) e) ∙ x in
    let w : u ≡ n = cc in
    plays_put ss t (opening ss t old i hp u) old new Went (Match hp (taken.Tree b) ∷ Elements i 0 (taken.Picked p' is') ∷ []) refl
    (puts_two old mid new (Elements i 0 (taken.Picked p' is')) (Match hp (taken.Tree b)) q r)
    (ap (λ z. opened s (pat ss hp) ps z k d) w
    ∙ ap (λ z. later (trials (pat ss hp) (kept_at ss t o ∷ []) (λ c. elements s 1 ps z k c) d)) (to_list_from_list (picked (tree_at ss t p) is))
    ∙ (λ v. later (trials (pat ss hp) (tree_at ss t (sym a v) ∷ []) (λ c. elements s 1 ps (picked (tree_at ss t (sym f v)) (sym g v)) k c) d)))

child_element : (v : Tree) (k : ℕ) → child (suc k) v ≡ element_at v k
child_element (num n) k = refl
child_element (text s) k = refl
child_element (symbol s) k = refl
child_element (node h ts) k = refl

slice_first : (xs : List Tree) (n from : ℕ) (d u : Tree) → take n (drop from xs) ≡ u ∷ [] → get_or xs from d ≡ u
slice_first [] n from d u e = let k : [] ≡ u ∷ [] = sym (nil_left n from) ∙ e in cc
slice_first (x ∷ xs) zero zero d u e = cc
slice_first (x ∷ xs) (suc n) zero d u e = let k : x ≡ u = cc in k
slice_first (x ∷ xs) n (suc from) d u e = slice_first xs n from d u e

pub slice_child : (ss : List Part) (t : Tree) (p : Place) (n from k step : ℕ) (run : Taken) (u : Tree) → run ≡ taken.Slice p from n → k ≡ from + 1 → step ≡ k → run_at ss t run ≡ u ∷ [] → u ≡ child step (tree_at ss t p)
slice_child ss t p n from k step run u e f g h =
    let v = tree_at ss t p in
    sym (slice_first (elements_of v) n from v u (sym (ap (run_at ss t) e) ∙ h)) ∙ sym (child_element v from) ∙ ap (λ z. child z v) (let w : suc from ≡ step = omega arith in w)

pub picked_child : (ss : List Part) (t : Tree) (p : Place) (is : List ℕ) (k step d : ℕ) (run : Taken) (u : Tree) → run ≡ taken.Picked p is → k ≡ get_or is 0 d + 1 → step ≡ k → run_at ss t run ≡ u ∷ [] → u ≡ child step (tree_at ss t p)
picked_child ss t p is k step d run u e f g h = of is (sym (ap (run_at ss t) e) ∙ h) f
  where
    of : (is : List ℕ) → picked (tree_at ss t p) is ≡ u ∷ [] → k ≡ get_or is 0 d + 1 → u ≡ child step (tree_at ss t p)
    of [] x y = cc
    of (j ∷ js) x y = let w : element_at (tree_at ss t p) j ≡ u = cc in sym w ∙ sym (child_element (tree_at ss t p) j) ∙ ap (λ z. child z (tree_at ss t p)) (let w : suc j ≡ step = omega arith in w)

pub plays_opening : (ss : List Part) (t : Tree) (i hp : ℕ) (u v : Tree) (old new : Walk) (d : Step) → u ≡ v → Plays ss t (opening ss t old i hp v) old d new → Plays ss t (opening ss t old i hp u) old d new
plays_opening ss t i hp u v old new d e h = plays_as ss t (opening ss t old i hp u) (opening ss t old i hp v) old new d (ap (opening ss t old i hp) e) h

-- a node on one tree
abbrev noded : Bool → Search → Search → Search
noded c a b = elim c [ true ↦ later a | false ↦ b ]

node_trials : (f : Flags) (h : Tree) (hp : Pat) (ps : Pats) (u : Tree) (k : Cont) (e : Trail) (b : Bool) → (f.one_identity && any_optional ps && cond (same h (head_of u)) false true) ≡ b → trials (nodes f h hp ps) (u ∷ []) k e ≡ noded b (elements (record { head = h; flags = f }) 1 ps (u ∷ []) k e) (opened (record { head = h; flags = f }) hp ps u k e)
node_trials f h hp ps (num n) k e b q = ap (λ c. noded c (elements (record { head = h; flags = f }) 1 ps (num n ∷ []) k e) fail) q
node_trials f h hp ps (text s) k e b q = ap (λ c. noded c (elements (record { head = h; flags = f }) 1 ps (text s ∷ []) k e) fail) q
node_trials f h hp ps (symbol s) k e b q = ap (λ c. noded c (elements (record { head = h; flags = f }) 1 ps (symbol s ∷ []) k e) fail) q
node_trials f h hp ps (node g us) k e b q = ap (λ c. noded c (elements (record { head = h; flags = f }) 1 ps (node g us ∷ []) k e) (opened (record { head = h; flags = f }) hp ps (node g us) k e)) q

pub node_fails : (ss : List Part) (t : Tree) (i hp n : ℕ) (r : Taken) (old : Walk) → n ≡ length (run_at ss t r) → n ≢ 1 → Plays ss t (noding ss t old i hp r) old Failed old
node_fails ss t i hp n r old e z = plays_fail ss t (noding ss t old i hp r) old (of (run_at ss t r) (λ l. z (e ∙ l)))
  where
    of : (xs : List Tree) → length xs ≢ 1 → trials (nodes (flags_at (part_at ss i)) (head_at (part_at ss i)) (pat ss hp) (from_child ss i 0)) xs (λ d. conts ss t (goals_of old) d) (trail_of ss t old) ≡ leaf Fail
    of [] z = refl
    of (x ∷ []) z = absurd (z refl)
    of (x ∷ y ∷ xs) z = refl

no_drop : (xs : List ℕ) → drop 0 xs ≡ xs
no_drop [] = refl
no_drop (x ∷ xs) = refl

alone_is : (ss : List Part) (i : ℕ) (f : Flags) (h u : Tree) (xs : List ℕ) (ys : List Tree) (d b : Bool) → site_at ss i ≡ record { head = h; flags = f } → inside ss i ≡ xs → d ≡ all_have (Some h) ys → ys ≡ u ∷ [] → b ≡ (f.one_identity && any_optional (pats_of (pat ss) xs) && cond d false true) → ((flags_at (part_at ss i)).one_identity && any_optional (from_child ss i 0) && cond (same (head_at (part_at ss i)) (head_of u)) false true) ≡ b
alone_is ss i f h u xs ys d b s x e y q =
    let k : same (head_at (part_at ss i)) (head_of u) ≡ d = ap (λ z. same z.head (head_of u)) s ∙ sym (and-true (same h (head_of u))) ∙ sym (e ∙ ap (all_have (Some h)) y) in
    (λ v. (s v).flags.one_identity && any_optional (pats_of (pat ss) ((ap (drop 0) x ∙ no_drop xs) v)) && cond (k v) false true) ∙ sym q

pub the_one : (xs : List Tree) → length xs ≡ 1 → (u : Tree) × (xs ≡ u ∷ [])
the_one [] l = absurd (omega arith)
the_one (x ∷ []) l = (x, refl)
the_one (x ∷ y ∷ xs) l = absurd (omega arith)

pub node_alone : (ss : List Part) (t : Tree) (i hp n : ℕ) (f : Flags) (h : Tree) (xs : List ℕ) (ys : List Tree) (r r' : Taken) (d b : Bool) (old new : Walk) → site_at ss i ≡ record { head = h; flags = f } → inside ss i ≡ xs → d ≡ all_have (Some h) ys → ys ≡ run_at ss t r → b ≡ (f.one_identity && any_optional (pats_of (pat ss) xs) && cond d false true) → b ≡ true → n ≡ length (run_at ss t r) → n ≡ 1 → ((us : List Part) (v w : Tree) → run_at us v r ≡ w ∷ [] → run_at us v r' ≡ w ∷ []) → Puts old new (Elements i 0 r' ∷ []) → Plays ss t (noding ss t old i hp r) old Went new
node_alone ss t i hp n f h xs ys r r' d b old new s x e y q bt l m g p =
    let o = the_one (run_at ss t r) (sym l ∙ m) in
    let k : Cont = λ c. conts ss t (goals_of old) c in
    let tr = trail_of ss t old in
    let z = alone_is ss i f h o.0 xs ys d b s x e (y ∙ o.1) q ∙ bt in
    plays_put ss t (noding ss t old i hp r) old new Went (Elements i 0 r' ∷ []) refl p
    (ap (λ w. trials (nodes (flags_at (part_at ss i)) (head_at (part_at ss i)) (pat ss hp) (from_child ss i 0)) w k tr) o.1
    ∙ node_trials (flags_at (part_at ss i)) (head_at (part_at ss i)) (pat ss hp) (from_child ss i 0) o.0 k tr true z
    ∙ (λ v. later (elements (site_at ss i) 1 (from_child ss i 0) (sym (g ss t o.0 o.1) v) k tr)))

unlike_exactly : (h g v : Tree) → same h v ≡ true → same h g ≡ false → same g v ≡ false
unlike_exactly h g v e f =
    let w : h ≡ v = (same_decides h v).0 e in
    same_turned g v ∙ ap (λ z. same z g) (sym w) ∙ f

-- another head than the one that the head's pattern is
unlike_opened : (s : Site) (hp : Pat) (ps : Pats) (u : Tree) (k : Cont) (e : Trail) → is_exactly s.head hp ≡ true → same s.head (head_of u) ≡ false → leaves (opened s hp ps u k e) ≡ Fail ∷ []
unlike_opened s hp ps (num n) k e h d = refl
unlike_opened s hp ps (text x) k e h d = refl
unlike_opened s hp ps (symbol x) k e h d = refl
unlike_opened s (exactly v) ps (node g us) k e h d =
    ap (λ z. leaves (later (guard (z && true) (λ c. elements s 1 ps (to_list us) k c) e))) (unlike_exactly s.head g v h d)
unlike_opened s (blank c x) ps (node g us) k e h d = cc
unlike_opened s (named x q) ps (node g us) k e h d = cc
unlike_opened s (tested t q) ps (node g us) k e h d = cc
unlike_opened s (hold q) ps (node g us) k e h d = cc
unlike_opened s (optional x q) ps (node g us) k e h d = cc
unlike_opened s (alternatives qs) ps (node g us) k e h d = cc
unlike_opened s (repeated c q) ps (node g us) k e h d = cc
unlike_opened s (except c q) ps (node g us) k e h d = cc
unlike_opened s (nodes f x hp qs) ps (node g us) k e h d = cc

pub node_unlike : (ss : List Part) (t : Tree) (i hp n : ℕ) (f : Flags) (h : Tree) (xs : List ℕ) (ys : List Tree) (r : Taken) (d b : Bool) (old : Walk) → site_at ss i ≡ record { head = h; flags = f } → inside ss i ≡ xs → pat ss i ≡ nodes f h (pat ss hp) (pats_of (pat ss) xs) → has_own_head (pat ss i) ≡ true → d ≡ all_have (Some h) ys → ys ≡ run_at ss t r → b ≡ (f.one_identity && any_optional (pats_of (pat ss) xs) && cond d false true) → b ≡ false → n ≡ length (run_at ss t r) → n ≡ 1 → f.flat ≡ true → d ≡ false → Plays ss t (noding ss t old i hp r) old Failed old
node_unlike ss t i hp n f h xs ys r d b old s x w o e y q bf l m fl df =
    let u = the_one (run_at ss t r) (sym l ∙ m) in
    let k : Cont = λ c. conts ss t (goals_of old) c in
    let tr = trail_of ss t old in
    let z = alone_is ss i f h u.0 xs ys d b s x e (y ∙ u.1) q ∙ bf in
    let own : is_exactly h (pat ss hp) ≡ true = (λ v. not (sym fl v) || is_exactly h (pat ss hp)) ∙ sym (ap has_own_head w) ∙ o in
    let other : same h (head_of u.0) ≡ false = sym (and-true (same h (head_of u.0))) ∙ sym (e ∙ ap (all_have (Some h)) (y ∙ u.1)) ∙ df in
    ap (λ c. leaves c ++ rest ss t old)
    (ap (λ w. trials (nodes (flags_at (part_at ss i)) (head_at (part_at ss i)) (pat ss hp) (from_child ss i 0)) w k tr) u.1
    ∙ node_trials (flags_at (part_at ss i)) (head_at (part_at ss i)) (pat ss hp) (from_child ss i 0) u.0 k tr false z)
    ∙ ap (λ c. c ++ rest ss t old) (unlike_opened (site_at ss i) (pat ss hp) (from_child ss i 0) u.0 k tr (ap (λ v. is_exactly v.head (pat ss hp)) s ∙ own) (ap (λ v. same v.head (head_of u.0)) s ∙ other))

pub node_opens : (ss : List Part) (t : Tree) (i hp n : ℕ) (f : Flags) (h : Tree) (xs : List ℕ) (ys : List Tree) (r : Taken) (d b : Bool) (old new : Walk) (step : Step) → site_at ss i ≡ record { head = h; flags = f } → inside ss i ≡ xs → d ≡ all_have (Some h) ys → ys ≡ run_at ss t r → b ≡ (f.one_identity && any_optional (pats_of (pat ss) xs) && cond d false true) → b ≡ false → n ≡ length (run_at ss t r) → n ≡ 1 → ((u : Tree) → run_at ss t r ≡ u ∷ [] → Plays ss t (opening ss t old i hp u) old step new) → Plays ss t (noding ss t old i hp r) old step new
node_opens ss t i hp n f h xs ys r d b old new step s x e y q bf l m p =
    let o = the_one (run_at ss t r) (sym l ∙ m) in
    let k : Cont = λ c. conts ss t (goals_of old) c in
    let tr = trail_of ss t old in
    let z = alone_is ss i f h o.0 xs ys d b s x e (y ∙ o.1) q ∙ bf in
    plays_as ss t (noding ss t old i hp r) (opening ss t old i hp o.0) old new step
    (ap (λ w. trials (nodes (flags_at (part_at ss i)) (head_at (part_at ss i)) (pat ss hp) (from_child ss i 0)) w k tr) o.1
    ∙ node_trials (flags_at (part_at ss i)) (head_at (part_at ss i)) (pat ss hp) (from_child ss i 0) o.0 k tr false z)
    (p o.0 o.1)

pub node_part : (ss : List Part) (t : Tree) (i hp : ℕ) (r : Taken) (old new : Walk) (step : Step) (s : Part) (g : Flags) (h : Stamped) (qs : Vec ℕ Global) → IsPart ss i s → s ≡ part.Nodes g h hp qs → Plays ss t (noding ss t old i hp r) old step new → Plays ss t (expanding ss t old (Match i r)) old step new
node_part ss t i hp r old new step s g h qs e f p =
    let k : Cont = λ c. conts ss t (goals_of old) c in
    let tr = trail_of ss t old in
    plays_as ss t (expanding ss t old (Match i r)) (noding ss t old i hp r) old new step
    (ap (λ z. trials z (run_at ss t r) k tr) (e.is ∙ ap (pat_of (pat ss)) f)
    ∙ ap (λ z. trials (nodes g (plain h) (pat ss hp) (pats_of (pat ss) z)) (run_at ss t r) k tr) (sym (no_drop qs.items))
    ∙ ap (λ z. trials (nodes (flags_at z) (head_at z) (pat ss hp) (pats_of (pat ss) (drop 0 (children z)))) (run_at ss t r) k tr) (sym (e.part ∙ f)))
    p

pub below_is : (ss : List Part) (t : Tree) (p b : Place) (step : ℕ) → b ≡ record { root = p.root; steps = p.steps ++ step ∷ [] } → child step (tree_at ss t p) ≡ tree_at ss t b
below_is ss t p b step g = sym (ap (tree_at ss t) g ∙ follow_append p.steps step (root_at ss t p.root))

pub node_site : (ss : List Part) (i : ℕ) (s : Part) (g : Flags) (h : Stamped) (hp : ℕ) (qs : Vec ℕ Global) → IsPart ss i s → s ≡ part.Nodes g h hp qs → site_at ss i ≡ record { head = plain h; flags = g }
node_site ss i s g h hp qs e f = ap (λ z. record { head = head_at z; flags = flags_at z }) (e.part ∙ f)

pub node_inside : (ss : List Part) (i : ℕ) (s : Part) (g : Flags) (h : Stamped) (hp : ℕ) (qs : Vec ℕ Global) (xs : List ℕ) → IsPart ss i s → s ≡ part.Nodes g h hp qs → xs ≡ qs.items → inside ss i ≡ xs
node_inside ss i s g h hp qs xs e f x = ap children (e.part ∙ f) ∙ sym x
