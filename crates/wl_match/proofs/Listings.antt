-- The places of what is bound and of what is noted.
use Rattle.std.proofs.Common.{◌≡◌, ◌≢◌, ◌<◌, ◌≤◌, ◌+◌, ◌-◌, ℕ, zero, suc, Bool, true, false, cond, List, [], ◌∷◌, ◌++◌, length, get_or, map, take, drop, Some, None, Result, Ok, Err, MatchResult, refl, ap, sym, subst, ◌∙◌, arith}
use Rattle.std.specs.Prelude.{nat_lt, slice_get}
use Rattle.std.proofs.lemmas.Bool.{le-ltb, lt-ltb}
use Rattle.std.specs.Str.{bytes_eq}
use Rattle.std.proofs.lemmas.List.{append-nil, drop_all, get_or-map, get_or_default, length-map, take_more}
use Rattle.std.proofs.Math.Seq.{drop-cons}
use Rattle.wl_expr.specs.Tree.{Tree}
use Rattle.wl_match.specs.declared.part.Part.{Part}
use Rattle.wl_match.specs.declared.taken.Taken.{Taken}
use Rattle.wl_match.specs.declared.taken.Taken.TheVariants.{Nothing}
use Rattle.wl_match.specs.declared.taken.Mark.{Mark}
use Rattle.wl_match.specs.declared.taken.Mark.TheVariants.{Bound, Noted}
use Rattle.wl_match.specs.Search.{Entry, keep, run_of}
use Rattle.wl_match.specs.Means.{entries, entry_of, name_at}
use Rattle.wl_match.specs.Runs.{part_at, run_at}
use Rattle.wl_match.specs.Listed.{Rises, below, is_bound, is_noted, noted_in, places_of}

-- ---- places that rise

rises_up : (j k : ℕ) (is : List ℕ) → j ≤ k → Rises k is → Rises j is
rises_up j k [] l h = tt
rises_up j k (i ∷ is) l h = (let a = h.0 in omega arith, h.1)

rises_cond : (b : Bool) (n : ℕ) (is : List ℕ) → Rises (n + 1) is → Rises n (cond b (n ∷ is) is)
rises_cond true n is h = (omega arith, h)
rises_cond false n is h = rises_up n (n + 1) is (omega arith) h

pub rises : (f : Mark → Bool) (n : ℕ) (ms : List Mark) → Rises n (places_of f n ms)
rises f n [] = tt
rises f n (m ∷ ms) = rises_cond (f m) n (places_of f (n + 1) ms) (rises f (n + 1) ms)

rises_get : (k : ℕ) (is : List ℕ) (i d : ℕ) → Rises k is → i < length is → k ≤ get_or is i d
rises_get k [] i d h l = absurd (omega arith)
rises_get k (p ∷ ps) zero d h l = h.0
rises_get k (p ∷ ps) (suc i) d h l = let a = rises_get (p + 1) ps i d h.1 (omega arith) in let b = h.0 in omega arith

front_below : (k : ℕ) (is : List ℕ) (n d len : ℕ) → Rises k is → n < length is → get_or is n d < len → below len (take (suc n) is) ≡ take (suc n) is
front_below k [] n d len h l g = absurd (omega arith)
front_below k (p ∷ ps) zero d len h l g = ap (λ b. cond b (p ∷ []) []) (lt-ltb p len g)
front_below k (p ∷ ps) (suc n) d len h l g =
    let a : p < len = let b = rises_get (p + 1) ps n d h.1 (omega arith) in omega arith in
    ap (λ b. cond b (p ∷ below len (take (suc n) ps)) []) (lt-ltb p len a) ∙ ap (λ z. p ∷ z) (front_below (p + 1) ps n d len h.1 (omega arith) g)

below_push : (len : ℕ) (is : List ℕ) (i : ℕ) → len ≤ i → below len (is ++ i ∷ []) ≡ below len is
below_push len [] i l = ap (λ b. cond b (i ∷ []) []) (le-ltb i len l)
below_push len (j ∷ js) i l = ap (λ z. cond (nat_lt j len) (j ∷ z) []) (below_push len js i l)

-- one place less
pub fewer : (is : List ℕ) (n m len d : ℕ) → n ≢ 0 → m ≡ n - 1 → n ≤ length is → len ≤ get_or is m d → below len (take n is) ≡ below len is → below len (take m is) ≡ below len is
fewer is n m len d z e l g h =
    let k : n ≡ m + 1 = omega arith in
    sym (below_push len (take m is) (get_or is m d) g) ∙ ap (below len) (sym (take_more is m d (omega arith))) ∙ ap (λ c. below len (take c is)) (sym k) ∙ h

pub no_fewer : (is : List ℕ) (n m len d : ℕ) → n ≢ 0 → m ≡ n - 1 → n ≤ length is → get_or is m d < len → Rises 0 is → below len (take n is) ≡ below len is → take n is ≡ below len is
no_fewer is n m len d z e l g r h =
    let k : n ≡ suc m = omega arith in
    ap (λ c. take c is) k ∙ sym (front_below 0 is m d len r (omega arith) g) ∙ ap (λ c. below len (take c is)) (sym k) ∙ h

pub none_fewer : (is : List ℕ) (n len : ℕ) → n ≡ 0 → below len (take n is) ≡ below len is → take n is ≡ below len is
none_fewer is n len z h = ap (λ c. take c is) z ∙ (ap (λ c. below len (take c is)) (sym z) ∙ h)

-- ---- the places of the oldest marks

below_none : (k len : ℕ) (is : List ℕ) → Rises k is → len ≤ k → below len is ≡ []
below_none k len [] h l = refl
below_none k len (i ∷ is) h l = ap (λ b. cond b (i ∷ below len is) []) (le-ltb i len (let a = h.0 in omega arith))

below_cond : (b : Bool) (k len : ℕ) (is js : List ℕ) → k < len → js ≡ below len is → cond b (k ∷ js) js ≡ below len (cond b (k ∷ is) is)
below_cond true k len is js l e = ap (λ z. k ∷ z) e ∙ ap (λ b. cond b (k ∷ below len is) []) (sym (lt-ltb k len l))
below_cond false k len is js l e = e

places_taken : (f : Mark → Bool) (k n : ℕ) (ms : List Mark) → places_of f k (take n ms) ≡ below (k + n) (places_of f k ms)
places_taken f k zero [] = refl
places_taken f k (suc n) [] = refl
places_taken f k zero (m ∷ ms) = sym (below_none k (k + 0) (places_of f k (m ∷ ms)) (rises f k (m ∷ ms)) (omega arith))
places_taken f k (suc n) (m ∷ ms) =
    let e : k + 1 + n ≡ k + suc n = omega arith in
    below_cond (f m) k (k + suc n) (places_of f (k + 1) ms) (places_of f (k + 1) (take n ms)) (omega arith) (places_taken f (k + 1) n ms ∙ ap (λ z. below z (places_of f (k + 1) ms)) e)

pub places_cut : (f : Mark → Bool) (n : ℕ) (ms ns : List Mark) (is js : List ℕ) → is ≡ places_of f 0 ms → (Rises 0 is → js ≡ below n is) → ns ≡ take n ms → js ≡ places_of f 0 ns
places_cut f n ms ns is js e h g =
    h (subst (Rises 0) (sym e) (rises f 0 ms)) ∙ ap (below n) e
    ∙ ap (λ z. below z (places_of f 0 ms)) (let z : n ≡ 0 + n = omega arith in z)
    ∙ sym (places_taken f 0 n ms) ∙ ap (places_of f 0) (sym g)

-- ---- one mark more

push_cond : (b : Bool) (n : ℕ) (is js : List ℕ) → cond b (n ∷ (is ++ js)) (is ++ js) ≡ cond b (n ∷ is) is ++ js
push_cond true n is js = refl
push_cond false n is js = refl

places_push : (f : Mark → Bool) (n : ℕ) (ms : List Mark) (m : Mark) → places_of f n (ms ++ m ∷ []) ≡ places_of f n ms ++ cond (f m) ((n + length ms) ∷ []) []
places_push f n [] m = ap (λ z. cond (f m) (z ∷ []) []) (let z : n ≡ n + 0 = omega arith in z)
places_push f n (x ∷ ms) m =
    let e : n + 1 + length ms ≡ n + suc (length ms) = omega arith in
    ap (λ w. cond (f x) (n ∷ w) w) (places_push f (n + 1) ms m)
    ∙ push_cond (f x) n (places_of f (n + 1) ms) (cond (f m) ((n + 1 + length ms) ∷ []) [])
    ∙ ap (λ z. cond (f x) (n ∷ places_of f (n + 1) ms) (places_of f (n + 1) ms) ++ cond (f m) (z ∷ []) []) e

pub listed_more : (f : Mark → Bool) (ms ns : List Mark) (m : Mark) (is js : List ℕ) (at : ℕ) → is ≡ places_of f 0 ms → ns ≡ ms ++ m ∷ [] → f m ≡ true → at ≡ length ms → js ≡ is ++ at ∷ [] → js ≡ places_of f 0 ns
listed_more f ms ns m is js at e g h a k =
    k ∙ (λ v. e v ++ a v ∷ []) ∙ ap (λ b. places_of f 0 ms ++ cond b (length ms ∷ []) []) (sym h)
    ∙ ap (λ z. places_of f 0 ms ++ cond (f m) (z ∷ []) []) (let z : length ms ≡ 0 + length ms = omega arith in z)
    ∙ sym (places_push f 0 ms m) ∙ ap (places_of f 0) (sym g)

pub listed_same : (f : Mark → Bool) (ms ns : List Mark) (m : Mark) (is : List ℕ) → is ≡ places_of f 0 ms → ns ≡ ms ++ m ∷ [] → f m ≡ false → is ≡ places_of f 0 ns
listed_same f ms ns m is e g h =
    e ∙ sym (append-nil (places_of f 0 ms)) ∙ ap (λ b. places_of f 0 ms ++ cond b ((0 + length ms) ∷ []) []) (sym h) ∙ sym (places_push f 0 ms m) ∙ ap (places_of f 0) (sym g)

-- ---- what was put

pub put_here : {E : Type 0} (r : Result Unit E) (f : Mark → Bool) (ms ns : List Mark) (m : Mark) (is js : List ℕ) → is ≡ places_of f 0 ms → f m ≡ true → MatchResult r (λ _. (ns ≡ ms ++ m ∷ []) × (js ≡ is ++ length ms ∷ [])) (λ _. (ns ≡ ms) × (js ≡ is)) → js ≡ places_of f 0 ns
put_here (Ok u) f ms ns m is js e h p = listed_more f ms ns m is js (length ms) e p.0 h refl p.1
put_here (Err u) f ms ns m is js e h p = p.1 ∙ e ∙ ap (places_of f 0) (sym p.0)

pub put_elsewhere : {E : Type 0} (r : Result Unit E) (f : Mark → Bool) (ms ns : List Mark) (m : Mark) (is js ks : List ℕ) → is ≡ places_of f 0 ms → f m ≡ false → MatchResult r (λ _. (ns ≡ ms ++ m ∷ []) × (js ≡ ks ++ length ms ∷ [])) (λ _. (ns ≡ ms) × (js ≡ ks)) → is ≡ places_of f 0 ns
put_elsewhere (Ok u) f ms ns m is js ks e h p = listed_same f ms ns m is e p.0 h
put_elsewhere (Err u) f ms ns m is js ks e h p = e ∙ ap (places_of f 0) (sym p.0)

pub not_noted : (m : Mark) (b : Bool) → b ≡ is_noted m → b ≡ false → is_bound m ≡ true
not_noted (Bound i r) b e f = refl
not_noted (Noted i r) b e f = cc

pub not_bound : (m : Mark) (b : Bool) → b ≡ is_noted m → b ≡ true → is_bound m ≡ false
not_bound (Bound i r) b e f = cc
not_bound (Noted i r) b e f = refl

-- ---- tests by number

abbrev taken_by : Mark → ℕ × Taken
taken_by (Bound i r) = (i, r)
taken_by (Noted i r) = (i, r)

shift : (f : Mark → Bool) (n : ℕ) (ms : List Mark) → places_of f (n + 1) ms ≡ map (λ i. i + 1) (places_of f n ms)
shift f n [] = refl
shift f n (m ∷ ms) = ap (λ z. cond (f m) ((n + 1) ∷ z) z) (shift f (n + 1) ms) ∙ map_cond (f m) n (places_of f (n + 1) ms)
  where
    map_cond : (b : Bool) (n : ℕ) (is : List ℕ) → cond b ((n + 1) ∷ map (λ i. i + 1) is) (map (λ i. i + 1) is) ≡ map (λ i. i + 1) (cond b (n ∷ is) is)
    map_cond true n is = refl
    map_cond false n is = refl

later : (m : Mark) (ms : List Mark) (i : ℕ) (d : Mark) → get_or (m ∷ ms) (i + 1) d ≡ get_or ms i d
later m ms i d = ap (λ z. get_or (m ∷ ms) z d) (let z : i + 1 ≡ suc i = omega arith in z)

abbrev Got : (Mark → Bool) → List Mark → Mark → ℕ → Type 0
Got f ms m at = (at < length ms) × (f (get_or ms at m) ≡ true)

got_later : (f : Mark → Bool) (x : Mark) (ms : List Mark) (m : Mark) (is : List ℕ) (k d : ℕ) → ((j e : ℕ) → j < length is → Got f ms m (get_or is j e)) → k < length (map (λ i. i + 1) is) → Got f (x ∷ ms) m (get_or (map (λ i. i + 1) is) k d)
got_later f x ms m is k d h l =
    let n : k < length is = omega (arith, length-map is (λ i. i + 1)) in
    let g = h k 0 n in
    subst (Got f (x ∷ ms) m) (sym (get_or-map (λ i. i + 1) is k 0 d n)) (omega (arith, g.0), ap f (later x ms (get_or is k 0) m) ∙ g.1)

got_cond : (f : Mark → Bool) (b : Bool) (x : Mark) (ms : List Mark) (m : Mark) (is : List ℕ) (k d : ℕ) → f x ≡ b → ((j e : ℕ) → j < length is → Got f ms m (get_or is j e)) → k < length (cond b (0 ∷ map (λ i. i + 1) is) (map (λ i. i + 1) is)) → Got f (x ∷ ms) m (get_or (cond b (0 ∷ map (λ i. i + 1) is) (map (λ i. i + 1) is)) k d)
got_cond f true x ms m is zero d e h l = (omega arith, e)
got_cond f true x ms m is (suc k) d e h l = got_later f x ms m is k d h (omega arith)
got_cond f false x ms m is k d e h l = got_later f x ms m is k d h l

-- a place that was listed is that of a mark that passes
pub place_got : (f : Mark → Bool) (ms : List Mark) (k d : ℕ) (m : Mark) → k < length (places_of f 0 ms) → Got f ms m (get_or (places_of f 0 ms) k d)
place_got f [] k d m l = absurd (omega arith)
place_got f (x ∷ ms) k d m l =
    let is = places_of f 0 ms in
    let e : places_of f 0 (x ∷ ms) ≡ cond (f x) (0 ∷ map (λ i. i + 1) is) (map (λ i. i + 1) is) = ap (λ z. cond (f x) (0 ∷ z) z) (shift f 0 ms) in
    subst (λ z. Got f (x ∷ ms) m (get_or z k d)) (sym e) (got_cond f (f x) x ms m is k d refl (λ j c n. place_got f ms j c m n) (omega (arith, ap length e)))

noted_count : (n : ℕ) (ms : List Mark) → length (places_of is_noted n ms) ≡ length (noted_in ms)
noted_count n [] = refl
noted_count n (Bound i r ∷ ms) = noted_count (n + 1) ms
noted_count n (Noted i r ∷ ms) = ap suc (noted_count (n + 1) ms)

past : (xs : List (ℕ × Taken)) (k : ℕ) → length xs ≤ k → None ≡ slice_get xs k
past [] k l = refl
past (x ∷ xs) zero l = absurd (omega arith)
past (x ∷ xs) (suc k) l = past xs k (omega arith)

pub noted_past : (ms : List Mark) (is : List ℕ) (k : ℕ) → is ≡ places_of is_noted 0 ms → length is ≤ k → None ≡ slice_get (noted_in ms) k
noted_past ms is k e l = past (noted_in ms) k (omega (arith, ap length e, noted_count 0 ms))

noted_later : (x : Mark) (ms : List Mark) (is : List ℕ) (k d : ℕ) (m : Mark) → k < length is → get_or (x ∷ ms) (get_or (map (λ i. i + 1) is) k d) m ≡ get_or ms (get_or is k 0) m
noted_later x ms is k d m l = ap (λ z. get_or (x ∷ ms) z m) (get_or-map (λ i. i + 1) is k 0 d l) ∙ later x ms (get_or is k 0) m

-- the test with this number
noted_at : (ms : List Mark) (k d : ℕ) (m : Mark) → k < length (places_of is_noted 0 ms) → Some (taken_by (get_or ms (get_or (places_of is_noted 0 ms) k d) m)) ≡ slice_get (noted_in ms) k
noted_at [] k d m l = absurd (omega arith)
noted_at (Bound i r ∷ ms) k d m l =
    let n : k < length (places_of is_noted 0 ms) = omega (arith, noted_count 1 ms, noted_count 0 ms) in
    ap (λ z. Some (taken_by (get_or (Bound i r ∷ ms) (get_or z k d) m))) (shift is_noted 0 ms) ∙ ap (λ z. Some (taken_by z)) (noted_later (Bound i r) ms (places_of is_noted 0 ms) k d m n) ∙ noted_at ms k 0 m n
noted_at (Noted i r ∷ ms) zero d m l = refl
noted_at (Noted i r ∷ ms) (suc k) d m l =
    let n : k < length (places_of is_noted 0 ms) = omega (arith, noted_count 1 ms, noted_count 0 ms) in
    ap (λ z. Some (taken_by (get_or (Noted i r ∷ ms) (get_or z k d) m))) (shift is_noted 0 ms) ∙ ap (λ z. Some (taken_by z)) (noted_later (Noted i r) ms (places_of is_noted 0 ms) k d m n) ∙ noted_at ms k 0 m n

pub this_noted : (ms : List Mark) (is : List ℕ) (k d i : ℕ) (m : Mark) (r : Taken) → is ≡ places_of is_noted 0 ms → k < length is → m ≡ get_or ms (get_or is k d) m → m ≡ Noted i r → Some (i, r) ≡ slice_get (noted_in ms) k
this_noted ms is k d i m r e l g h =
    ap (λ z. Some (taken_by z)) (sym h ∙ g ∙ ap (λ z. get_or ms (get_or z k d) m) e) ∙ noted_at ms k d m (omega (arith, ap length e))

pub no_bound : (ms : List Mark) (is : List ℕ) (k d i : ℕ) (m : Mark) (r : Taken) → is ≡ places_of is_noted 0 ms → k < length is → m ≡ get_or ms (get_or is k d) m → m ≡ Bound i r → ⊥
no_bound ms is k d i m r e l g h =
    let p = (place_got is_noted ms k d m (omega (arith, ap length e))).1 in
    let q : is_noted (get_or ms (get_or (places_of is_noted 0 ms) k d) m) ≡ false = ap is_noted (sym (g ∙ ap (λ z. get_or ms (get_or z k d) m) e)) ∙ ap is_noted h in
    cc

pub place_within : (f : Mark → Bool) (ms : List Mark) (is : List ℕ) (k d : ℕ) → is ≡ places_of f 0 ms → k < length is → get_or is k d < length ms
place_within f ms is k d e l = omega (arith, (place_got f ms k d (Bound 0 Nothing) (omega (arith, ap length e))).0, ap (λ z. get_or z k d) e)

-- ---- names

-- what is bound and noted at these places
abbrev pub entries_at : List Part → Tree → List Mark → List ℕ → List Entry
entries_at ss t ms is = map (λ i. entry_of ss t (get_or ms i (Bound 0 Nothing))) is

entries_later : (ss : List Part) (t : Tree) (x : Mark) (ms : List Mark) (is : List ℕ) → entries_at ss t (x ∷ ms) (map (λ i. i + 1) is) ≡ entries_at ss t ms is
entries_later ss t x ms [] = refl
entries_later ss t x ms (i ∷ is) = λ v. entry_of ss t (later x ms i (Bound 0 Nothing) v) ∷ entries_later ss t x ms is v

-- names are bound at the places that are listed
pub bound_runs : (ss : List Part) (t : Tree) (x : List ℕ) (ms : List Mark) → run_of x (entries_at ss t ms (places_of is_bound 0 ms)) ≡ run_of x (entries ss t ms)
bound_runs ss t x [] = refl
bound_runs ss t x (Bound i r ∷ ms) =
    ap (λ z. run_of x (entry_of ss t (Bound i r) ∷ z)) (ap (entries_at ss t (Bound i r ∷ ms)) (shift is_bound 0 ms) ∙ entries_later ss t (Bound i r) ms (places_of is_bound 0 ms))
    ∙ ap (keep (bytes_eq x (name_at (part_at ss i))) (run_at ss t r)) (bound_runs ss t x ms)
bound_runs ss t x (Noted i r ∷ ms) =
    ap (run_of x) (ap (entries_at ss t (Noted i r ∷ ms)) (shift is_bound 0 ms) ∙ entries_later ss t (Noted i r) ms (places_of is_bound 0 ms)) ∙ bound_runs ss t x ms

pub seen_at : (ss : List Part) (t : Tree) (x : List ℕ) (ms : List Mark) (is : List ℕ) (k d : ℕ) (m : Mark) → is ≡ places_of is_bound 0 ms → k < length is → m ≡ get_or ms (get_or is k d) m → run_of x (entry_of ss t m ∷ entries_at ss t ms (drop (k + 1) is)) ≡ run_of x (entries_at ss t ms (drop k is))
seen_at ss t x ms is k d m e l g =
    ap (λ z. run_of x (entry_of ss t z ∷ entries_at ss t ms (drop (k + 1) is))) (g ∙ get_or_default ms (get_or is k d) m (Bound 0 Nothing) (place_within is_bound ms is k d e l))
    ∙ ap (λ z. run_of x (entry_of ss t (get_or ms (get_or is k d) (Bound 0 Nothing)) ∷ entries_at ss t ms (drop z is))) (let z : k + 1 ≡ suc k = omega arith in z)
    ∙ ap (λ z. run_of x (entries_at ss t ms z)) (sym (drop-cons is k d l))

pub none_at : (ss : List Part) (t : Tree) (x : List ℕ) (ms : List Mark) (is : List ℕ) (k : ℕ) → length is ≤ k → run_of x (entries_at ss t ms (drop k is)) ≡ run_of x (entries ss t ms) → None ≡ run_of x (entries ss t ms)
none_at ss t x ms is k l h = ap (λ z. run_of x (entries_at ss t ms z)) (sym (drop_all k is l)) ∙ h

pub begins_at : (ss : List Part) (t : Tree) (x : List ℕ) (ms : List Mark) (is : List ℕ) → is ≡ places_of is_bound 0 ms → run_of x (entries_at ss t ms (drop 0 is)) ≡ run_of x (entries ss t ms)
begins_at ss t x ms is e = ap (λ z. run_of x (entries_at ss t ms z)) (drop_none is ∙ e) ∙ bound_runs ss t x ms
  where
    drop_none : (is : List ℕ) → drop 0 is ≡ is
    drop_none [] = refl
    drop_none (i ∷ is) = refl
