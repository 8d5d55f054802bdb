-- The patterns of a list of parts, as parts are put behind it.
use Rattle.std.proofs.Common.{◌≡◌, ℕ, zero, suc, ◌+◌, ◌-◌, ◌<◌, ◌≤◌, List, [], ◌∷◌, ◌++◌, length, get_or, take, refl, sym, ap, subst, ◌∙◌, Bool, true, false, not, cond, ◌||◌, pos, inl, inr, add-one, append_assoc, length-append, arith}
use Rattle.std.proofs.lemmas.List.{append-nil, get_or_past}
use Rattle.std.proofs.lemmas.Bool.{cases_lt, cases_eq}
use Rattle.std.proofs.Math.ListN.{get_or-append}
use Rattle.std.proofs.Math.Seq.{get_or-append_seam}
use Rattle.std.proofs.lemmas.List.Elements.{All-nil, All-cons, All-head, All-tail, All-append}
use Rattle.std.specs.List.{All}
use Rattle.wl_expr.specs.Passed.{IsFrom}
use Rattle.wl_expr.specs.Stamped.{Stamped, plain, plains, from_list}
use Rattle.wl_match.specs.declared.flags.Flags.{Flags}
use Rattle.wl_match.specs.declared.part.Part.{Part}
use Rattle.wl_match.specs.Heads.{head_symbol, heads, heads_in, heads_above}
use Rattle.wl_exact.specs.Fraction.{of_int}
use Rattle.wl_expr.specs.Same.{same, same_decides}
use Rattle.wl_expr.specs.Stamped.{num as stamped_num}
use Rattle.wl_expr.specs.Tree.{Tree, Trees, num, text, symbol, node, none, more}
use Rattle.wl_expr.specs.Words.{is_node}
use Rattle.wl_match.specs.declared.part.Part.TheVariants.{Exactly}
use Rattle.wl_match.specs.declared.part.Part.TheVariants as part
use Rattle.std.specs.Prelude.{codes, string_bytes, option_map, Some, None}
use Rattle.std.specs.Str.{bytes_eq}
use Rattle.wl_match.specs.Pattern.{Count, one, some, any, Ask, Pat, Pats, exactly, named, tested, applies, holds, hold, optional, alternatives, repeated, except, nodes, end, also, read_blank, read_named, read_tested, read_one, read_optional, read_verbatim, read_except, read_special, read_node}
use Rattle.wl_match.specs.Placed.{flags_at, placed, placed_in}
use Rattle.wl_match.specs.Parts.{has_own_head, HaveOwnHeads, nothing, at, count_of, table, pat, pat_of, pats_of, inside, IsBehind, kept, kept_by, Builds, BuildsAll, Puts}
use Rattle.wl_match.proofs.HeadsLemmas.{count_more, length_heads}

pub table_put : (ps : List Pat) (ss : List Part) (s : Part) → table ps (ss ++ s ∷ []) ≡ table ps ss ++ pat_of (at (table ps ss)) s ∷ []
table_put ps [] s = refl
table_put ps (r ∷ ss) s = table_put (ps ++ pat_of (at ps) r ∷ []) ss s

pub length_table : (ps : List Pat) (ss : List Part) → length (table ps ss) ≡ length ps + length ss
length_table ps [] = omega arith
length_table ps (s ∷ ss) = omega (arith, length_table (ps ++ pat_of (at ps) s ∷ []) ss, length-append ps (pat_of (at ps) s ∷ []))

-- the parts before keep their patterns
pub pat_kept : (ss : List Part) (s : Part) (i : ℕ) → i < length ss → pat (ss ++ s ∷ []) i ≡ pat ss i
unfolding pat
pat_kept ss s i l =
    ap (λ ps. get_or ps i nothing) (table_put [] ss s)
    ∙ get_or-append (table [] ss) (pat_of (at (table [] ss)) s ∷ []) nothing i (omega (arith, length_table [] ss))

-- the last part is read by the patterns before it
pub pat_put : (ss : List Part) (s : Part) → pat (ss ++ s ∷ []) (length ss) ≡ pat_of (pat ss) s
unfolding pat
pat_put ss s =
    ap (λ ps. get_or ps (length ss) nothing) (table_put [] ss s)
    ∙ ap (λ n. get_or (table [] ss ++ pat_of (at (table [] ss)) s ∷ []) n nothing) (let e : length ss ≡ length (table [] ss) = omega (arith, length_table [] ss) in e)
    ∙ get_or-append_seam (table [] ss) (pat_of (at (table [] ss)) s) [] nothing

pub put_is : (ss : List Part) (s : Part) (i : ℕ) (new : List Part) → Puts s ss i new → pat new i ≡ pat_of (pat ss) s
put_is ss s i new p = (λ n. pat (p.is n) (p.at_end n)) ∙ pat_put ss s

pub no_pat : (ss : List Part) (i : ℕ) → length ss ≤ i → pat ss i ≡ nothing
unfolding pat
no_pat ss i h = get_or_past (table [] ss) i nothing (omega (arith, length_table [] ss))

-- ---- heads that match themselves alone

own_put : (old new : List Part) (s : Part) (i : ℕ) → Puts s old i new → has_own_head (pat_of (pat old) s) ≡ true → HaveOwnHeads old → HaveOwnHeads new
own_put old new s i p o h j = elim (cases_lt j (length old)) [
  | inl less ↦ ap has_own_head (ap (λ ss. pat ss j) p.is ∙ pat_kept old s j less) ∙ h j
  | inr past ↦ elim (cases_eq j (length old)) [
    | inl e ↦ ap has_own_head ((λ v. pat (p.is v) (e v)) ∙ pat_put old s) ∙ o
    | inr e ↦ ap has_own_head (no_pat new j (omega (arith, ap length p.is, length-append old (s ∷ [])))) ∙ refl
  ]
]

own_cond : (b : Bool) (p q : Pat) → has_own_head p ≡ true → has_own_head q ≡ true → has_own_head (cond b p q) ≡ true
own_cond true p q h k = h
own_cond false p q h k = k

own_blank : (c : Count) (ts : Trees) (p : Pat) → has_own_head p ≡ true → has_own_head (read_blank c ts p) ≡ true
own_blank c none p h = refl
own_blank c (more t none) p h = refl
own_blank c (more t (more u ts)) p h = h

own_named : (ts : Trees) (ps : Pats) (p : Pat) → has_own_head p ≡ true → has_own_head (read_named ts ps p) ≡ true
own_named (more (symbol x) (more t none)) (also a (also q end)) p h = refl
own_named none ps p h = h
own_named (more (num n) ts) ps p h = h
own_named (more (text n) ts) ps p h = h
own_named (more (node g us) ts) ps p h = h
own_named (more (symbol x) none) ps p h = h
own_named (more (symbol x) (more t (more u ts))) ps p h = h
own_named (more (symbol x) (more t none)) end p h = h
own_named (more (symbol x) (more t none)) (also a end) p h = h
own_named (more (symbol x) (more t none)) (also a (also q (also r ps))) p h = h

own_tested : (f : Tree → Ask) (ts : Trees) (ps : Pats) (p : Pat) → has_own_head p ≡ true → has_own_head (read_tested f ts ps p) ≡ true
own_tested f (more t (more c none)) (also q (also b end)) p h = refl
own_tested f none ps p h = h
own_tested f (more t none) ps p h = h
own_tested f (more t (more c (more d ts))) ps p h = h
own_tested f (more t (more c none)) end p h = h
own_tested f (more t (more c none)) (also q end) p h = h
own_tested f (more t (more c none)) (also q (also b (also r ps))) p h = h

own_one : (f : Pat → Pat) (ps : Pats) (p : Pat) → ((q : Pat) → has_own_head (f q) ≡ true) → has_own_head p ≡ true → has_own_head (read_one f ps p) ≡ true
own_one f (also q end) p o h = o q
own_one f end p o h = h
own_one f (also q (also r ps)) p o h = h

own_optional : (ts : Trees) (ps : Pats) (p : Pat) → has_own_head p ≡ true → has_own_head (read_optional ts ps p) ≡ true
own_optional (more t none) (also q end) p h = refl
own_optional (more t (more d none)) (also q (also b end)) p h = refl
own_optional none ps p h = h
own_optional (more t none) end p h = h
own_optional (more t none) (also q (also r ps)) p h = h
own_optional (more t (more d (more e ts))) ps p h = h
own_optional (more t (more d none)) end p h = h
own_optional (more t (more d none)) (also q end) p h = h
own_optional (more t (more d none)) (also q (also b (also r ps))) p h = h

own_verbatim : (ts : Trees) (p : Pat) → has_own_head p ≡ true → has_own_head (read_verbatim ts p) ≡ true
own_verbatim (more t none) p h = refl
own_verbatim none p h = h
own_verbatim (more t (more u ts)) p h = h

own_except : (ts : Trees) (ps : Pats) (p : Pat) → has_own_head p ≡ true → has_own_head (read_except ts ps p) ≡ true
own_except (more c none) (also a end) p h = refl
own_except (more c (more t none)) (also a (also q end)) p h = refl
own_except none ps p h = h
own_except (more c none) end p h = h
own_except (more c none) (also a (also r ps)) p h = h
own_except (more c (more t (more u ts))) ps p h = h
own_except (more c (more t none)) end p h = h
own_except (more c (more t none)) (also a end) p h = h
own_except (more c (more t none)) (also a (also q (also r ps))) p h = h

own_special : (s : List ℕ) (ts : Trees) (ps : Pats) (p : Pat) → has_own_head p ≡ true → has_own_head (read_special s ts ps p) ≡ true
own_special s ts ps p h =
    let p0 : Pat = cond (bytes_eq s (codes "Except")) (read_except ts ps p) p in
    let h0 : has_own_head p0 ≡ true = own_cond (bytes_eq s (codes "Except")) (read_except ts ps p) p (own_except ts ps p h) h in
    let p1 : Pat = cond (bytes_eq s (codes "Verbatim")) (read_verbatim ts p) p0 in
    let h1 : has_own_head p1 ≡ true = own_cond (bytes_eq s (codes "Verbatim")) (read_verbatim ts p) p0 (own_verbatim ts p h) h0 in
    let p2 : Pat = cond (bytes_eq s (codes "RepeatedNull")) (read_one (repeated any) ps p) p1 in
    let h2 : has_own_head p2 ≡ true = own_cond (bytes_eq s (codes "RepeatedNull")) (read_one (repeated any) ps p) p1 (own_one (repeated any) ps p (λ q. refl) h) h1 in
    let p3 : Pat = cond (bytes_eq s (codes "Repeated")) (read_one (repeated some) ps p) p2 in
    let h3 : has_own_head p3 ≡ true = own_cond (bytes_eq s (codes "Repeated")) (read_one (repeated some) ps p) p2 (own_one (repeated some) ps p (λ q. refl) h) h2 in
    let p4 : Pat = cond (bytes_eq s (codes "Alternatives")) (alternatives ps) p3 in
    let h4 : has_own_head p4 ≡ true = own_cond (bytes_eq s (codes "Alternatives")) (alternatives ps) p3 (refl) h3 in
    let p5 : Pat = cond (bytes_eq s (codes "Optional")) (read_optional ts ps p) p4 in
    let h5 : has_own_head p5 ≡ true = own_cond (bytes_eq s (codes "Optional")) (read_optional ts ps p) p4 (own_optional ts ps p h) h4 in
    let p6 : Pat = cond (bytes_eq s (codes "HoldPattern")) (read_one hold ps p) p5 in
    let h6 : has_own_head p6 ≡ true = own_cond (bytes_eq s (codes "HoldPattern")) (read_one hold ps p) p5 (own_one hold ps p (λ q. refl) h) h5 in
    let p7 : Pat = cond (bytes_eq s (codes "Condition")) (read_tested holds ts ps p) p6 in
    let h7 : has_own_head p7 ≡ true = own_cond (bytes_eq s (codes "Condition")) (read_tested holds ts ps p) p6 (own_tested holds ts ps p h) h6 in
    let p8 : Pat = cond (bytes_eq s (codes "PatternTest")) (read_tested applies ts ps p) p7 in
    let h8 : has_own_head p8 ≡ true = own_cond (bytes_eq s (codes "PatternTest")) (read_tested applies ts ps p) p7 (own_tested applies ts ps p h) h7 in
    let p9 : Pat = cond (bytes_eq s (codes "Pattern")) (read_named ts ps p) p8 in
    let h9 : has_own_head p9 ≡ true = own_cond (bytes_eq s (codes "Pattern")) (read_named ts ps p) p8 (own_named ts ps p h) h8 in
    let p10 : Pat = cond (bytes_eq s (codes "BlankNullSequence")) (read_blank any ts p) p9 in
    let h10 : has_own_head p10 ≡ true = own_cond (bytes_eq s (codes "BlankNullSequence")) (read_blank any ts p) p9 (own_blank any ts p h) h9 in
    let p11 : Pat = cond (bytes_eq s (codes "BlankSequence")) (read_blank some ts p) p10 in
    let h11 : has_own_head p11 ≡ true = own_cond (bytes_eq s (codes "BlankSequence")) (read_blank some ts p) p10 (own_blank some ts p h) h10 in
    own_cond (bytes_eq s (codes "Blank")) (read_blank one ts p) p11 (own_blank one ts p h) h11

or_true : (b c : Bool) → c ≡ true → (b || c) ≡ true
or_true true c e = refl
or_true false c e = e

own_placed : (fs : List Flags) (k : ℕ) (t : Tree) → has_own_head (placed fs k t) ≡ true
own_placed fs k (num n) = refl
own_placed fs k (text s) = refl
own_placed fs k (symbol s) = refl
own_placed fs k (node (num n) ts) = refl
own_placed fs k (node (text s) ts) = refl
own_placed fs k (node (node g us) ts) = refl
own_placed fs k (node (symbol s) ts) =
    let ps = placed_in fs (k + length (heads_above (symbol s))) ts in
    own_special s ts ps (nodes (flags_at fs k) (symbol s) (exactly (symbol s)) ps) (or_true (not (flags_at fs k).flat) (same (symbol s) (symbol s)) ((same_decides (symbol s) (symbol s)).1 refl))

pub own_defaults : (old : List Part) → old ≡ Exactly (stamped_num (of_int (pos 0))) ∷ Exactly (stamped_num (of_int (pos 1))) ∷ [] → HaveOwnHeads old
unfolding pat
own_defaults old e = subst HaveOwnHeads (sym e) of
  where
    of : HaveOwnHeads (Exactly (stamped_num (of_int (pos 0))) ∷ Exactly (stamped_num (of_int (pos 1))) ∷ [])
    of zero = refl
    of (suc zero) = refl
    of (suc (suc i)) = refl

pub put_length : (ss : List Part) (s : Part) (new : List Part) → new ≡ ss ++ s ∷ [] → length new ≡ length ss + 1
put_length ss s new e = ap length e ∙ length-append ss (s ∷ [])

pub kept_put : (ss : List Part) (s : Part) → kept (ss ++ s ∷ []) ≡ kept ss ++ kept_by s
unfolding kept
kept_put [] s = append-nil (kept_by s) ∙ refl
kept_put (r ∷ ss) s = ap (λ xs. kept_by r ++ xs) (kept_put ss s) ∙ sym (append_assoc (kept_by r) (kept ss) (kept_by s))

pub kept_nothing : (ms : List Stamped) → All (IsFrom ms) (kept [])
unfolding kept
kept_nothing ms = All-nil (IsFrom ms)

put_last : Pats → Pat → Pats
put_last end p = also p end
put_last (also q qs) p = also q (put_last qs p)

pats_put : (f : ℕ → Pat) (is : List ℕ) (i : ℕ) → pats_of f (is ++ i ∷ []) ≡ put_last (pats_of f is) (f i)
unfolding put_last
pats_put f [] i = refl
pats_put f (j ∷ is) i = ap (λ ps. also (f j) ps) (pats_put f is i)

placed_in_more : (fs : List Flags) (k : ℕ) (ts : List Stamped) (i : ℕ) (t : Stamped) → i < length ts → t ≡ get_or ts i t → placed_in fs k (plains (from_list (take (i + 1) ts))) ≡ put_last (placed_in fs k (plains (from_list (take i ts)))) (placed fs (k + length (heads_in (plains (from_list (take i ts))))) (plain t))
unfolding put_last
placed_in_more fs k [] i t l e = absurd (omega arith)
placed_in_more fs k (x ∷ ts) zero t l e =
    (λ n. also (placed fs (sym z n) (plain (sym e n))) end)
  where
    z : k + 0 ≡ k
    z = omega arith
placed_in_more fs k (x ∷ ts) (suc i) t l e =
    rw add-one (ap (λ ps. also (placed fs k (plain x)) ps) (rw add-one at (placed_in_more fs (k + length (heads (plain x))) ts i t (omega arith) e)
    ∙ ap (λ n. put_last (placed_in fs (k + length (heads (plain x))) (plains (from_list (take i ts)))) (placed fs n (plain t)))
    (let n : k + length (heads (plain x)) + length (heads_in (plains (from_list (take i ts)))) ≡ k + length (heads (plain x) ++ heads_in (plains (from_list (take i ts)))) = omega (arith, length-append (heads (plain x)) (heads_in (plains (from_list (take i ts))))) in n)))

pats_same : (f g : ℕ → Pat) (n : ℕ) (is : List ℕ) → All (λ i. i < n) is → ((j : ℕ) → j < n → f j ≡ g j) → pats_of f is ≡ pats_of g is
pats_same f g n [] h e = refl
pats_same f g n (i ∷ is) h e = λ m. also (e i (All-head (λ i. i < n) i is h) m) (pats_same f g n is (All-tail (λ i. i < n) i is h) e m)

pub all_up : (n m : ℕ) (is : List ℕ) → n ≤ m → All (λ i. i < n) is → All (λ i. i < m) is
all_up n m [] l h = All-nil (λ i. i < m)
all_up n m (i ∷ is) l h = let a : i < n = All-head (λ i. i < n) i is h in All-cons (λ i. i < m) i is (omega arith) (all_up n m is l (All-tail (λ i. i < n) i is h))

all_taken : (ms ts : List Stamped) (i : ℕ) (t : Stamped) → i < length ts → t ≡ get_or ts i t → All (IsFrom ms) (take (i + 1) ts) → All (IsFrom ms) (take i ts) × IsFrom ms t
all_taken ms [] i t l e h = absurd (omega arith)
all_taken ms (x ∷ ts) zero t l e h = (All-nil (IsFrom ms), subst (IsFrom ms) (sym e) (All-head (IsFrom ms) x [] h))
all_taken ms (x ∷ ts) (suc i) t l e h =
    let whole : All (IsFrom ms) (x ∷ take (suc i) ts) = rw add-one at h in
    let r = all_taken ms ts i t (omega arith) e (rw add-one (All-tail (IsFrom ms) x (take (suc i) ts) whole)) in
    (All-cons (IsFrom ms) x (take i ts) (All-head (IsFrom ms) x (take (suc i) ts) whole) r.0, r.1)

behind_put : (n : ℕ) (ss : List Part) (s : Part) → IsBehind n ss → All (λ i. i < n + length ss) (inside s) → IsBehind n (ss ++ s ∷ [])
behind_put n [] s h a = (all_up (n + 0) n (inside s) (omega arith) a, tt)
behind_put n (r ∷ ss) s h a = (h.0, behind_put (n + 1) ss s h.1 (all_up (n + suc (length ss)) (n + 1 + length ss) (inside s) (omega arith) a))

behind_with : (old new : List Part) (s : Part) (i : ℕ) → Puts s old i new → IsBehind 0 old → All (λ i. i < length old) (inside s) → IsBehind 0 new
behind_with old new s i p h a = subst (IsBehind 0) (sym p.is) (behind_put 0 old s h (all_up (length old) (0 + length old) (inside s) (omega arith) a))

with_more : (fs : List Flags) (k : ℕ) (ts : List Stamped) (i : ℕ) (t : Stamped) (old mid new : List Part) (is : List ℕ) (j n m : ℕ) → i < length ts → t ≡ get_or ts i t → BuildsAll fs k (take i ts) old is n mid → Builds fs n t mid j m new → BuildsAll fs k (take (i + 1) ts) old (is ++ j ∷ []) m new
with_more fs k ts i t old mid new is j n m l e a b = record {
  below = All-append (λ i. i < length new) is (j ∷ []) (all_up (length mid) (length new) is b.grows a.below) (All-cons (λ i. i < length new) j [] (let q = b.last in omega arith) (All-nil (λ i. i < length new)));
  grows = let g = a.grows in let h = b.grows in omega arith;
  keeps = λ v w. b.keeps v (let g = a.grows in omega arith) ∙ a.keeps v w;
  are =
      pats_put (pat new) is j
      ∙ (λ v. put_last (pats_same (pat new) (pat mid) (length mid) is a.below b.keeps v) (b.is v))
      ∙ (λ v. put_last (a.are v) (placed fs (a.next_is v) (plain t)))
      ∙ sym (placed_in_more fs k ts i t l e);
  next_is = let g = a.next_is in let h = b.next_is in omega (arith, count_more ts i t l e);
  passed = λ ms o p. let q = all_taken ms ts i t l e p in b.passed ms (a.passed ms o q.0) q.1;
  behind = λ h. b.behind (a.behind h);
  heads = λ h. b.heads (a.heads h);
}

-- one tree more
pub builds_more : (fs : List Flags) (k : ℕ) (ts : List Stamped) (i : ℕ) (t : Stamped) (old mid new : List Part) (is js : List ℕ) (j n m : ℕ) → i < length ts → t ≡ get_or ts i t → js ≡ is ++ j ∷ [] → BuildsAll fs k (take i ts) old is n mid → Builds fs n t mid j m new → BuildsAll fs k (take (i + 1) ts) old js m new
builds_more fs k ts i t old mid new is js j n m l e q a b = subst (λ ks. BuildsAll fs k (take (i + 1) ts) old ks m new) (sym q) (with_more fs k ts i t old mid new is j n m l e a b)

-- a part on its own
pub builds_leaf : (fs : List Flags) (k : ℕ) (t u : Stamped) (old new : List Part) (i : ℕ) → is_node (plain t) ≡ false → u ≡ t → Puts (Exactly u) old i new → Builds fs k t old i k new
builds_leaf fs k t u old new i n e p = record {
  last = let a = p.at_end in omega (arith, put_length old (Exactly u) new p.is);
  grows = omega (arith, put_length old (Exactly u) new p.is);
  keeps = λ j l. ap (λ ss. pat ss j) p.is ∙ pat_kept old (Exactly u) j l;
  is = put_is old (Exactly u) i new p ∙ ap (λ z. exactly (plain z)) e ∙ leaf_placed (plain t) n;
  next_is = let a = ap length (leaf_heads (plain t) n) in omega arith;
  passed = λ ms o f. subst (All (IsFrom ms)) (sym (ap kept p.is ∙ kept_put old (Exactly u))) (All-append (IsFrom ms) (kept old) (u ∷ []) o (All-cons (IsFrom ms) u [] (subst (IsFrom ms) (sym e) f) (All-nil (IsFrom ms))));
  behind = λ h. behind_with old new (Exactly u) i p h (All-nil (λ j. j < length old));
  heads = λ h. own_put old new (Exactly u) i p refl h;
}
  where
    leaf_placed : (t : Tree) → is_node t ≡ false → exactly t ≡ placed fs k t
    leaf_placed (num v) h = refl
    leaf_placed (text v) h = refl
    leaf_placed (symbol v) h = refl
    leaf_placed (node g us) h = cc

    leaf_heads : (t : Tree) → is_node t ≡ false → heads t ≡ []
    leaf_heads (num v) h = refl
    leaf_heads (text v) h = refl
    leaf_heads (symbol v) h = refl
    leaf_heads (node g us) h = cc

-- a node behind the parts of its head and its elements
pub builds_node : (fs : List Flags) (k : ℕ) (t h : Stamped) (ts : List Stamped) (own : Flags) (s : Part) (old mid next new : List Part) (is : List ℕ) (i j a n m : ℕ)
    → node (plain h) (plains (from_list ts)) ≡ plain t → ((ms : List Stamped) → IsFrom ms t → IsFrom ms h × All (IsFrom ms) ts)
    → own ≡ flags_at fs k → a ≡ k + length (head_symbol (plain h)) → Builds fs a h old i n mid → BuildsAll fs n ts mid is m next
    → ((f : ℕ → Pat) → pat_of f s ≡ read_node (λ _. own) (plain h) (plains (from_list ts)) (f i) (pats_of f is))
    → ((ms : List Stamped) → IsFrom ms h → All (IsFrom ms) ts → All (IsFrom ms) (kept_by s))
    → ((v : ℕ) → i < v → All (λ x. x < v) is → All (λ x. x < v) (inside s))
    → Puts s next j new → Builds fs k t old j m new
builds_node fs k t h ts own s old mid next new is i j a n m e from o w b c q r g p = record {
  last = let v = p.at_end in omega (arith, put_length next s new p.is);
  grows = let v = b.grows in let u = c.grows in omega (arith, put_length next s new p.is);
  keeps = λ v l. ap (λ ss. pat ss v) p.is ∙ pat_kept next s v (let x = b.grows in let y = c.grows in omega arith) ∙ c.keeps v (let x = b.grows in omega arith) ∙ b.keeps v l;
  is = put_is next s j new p ∙ reads;
  next_is = let x = c.next_is in omega (arith, n_is, length_heads (plain h) (plains (from_list ts)), ap (λ z. length (heads z)) e);
  passed = λ ms x f.
      let z = from ms f in
      subst (All (IsFrom ms)) (sym (ap kept p.is ∙ kept_put next s)) (All-append (IsFrom ms) (kept next) (kept_by s) (c.passed ms (b.passed ms x z.0) z.1) (r ms z.0 z.1));
  behind = λ h. behind_with next new s j p (c.behind (b.behind h)) (g (length next) (let x = b.last in let y = c.grows in omega arith) c.below);
  heads = λ h. own_put next new s j p (ap has_own_head reads ∙ own_placed fs k (plain t)) (c.heads (b.heads h));
}
  where
    n_is : n ≡ k + length (heads_above (plain h))
    n_is = let x = b.next_is in omega (arith, length-append (head_symbol (plain h)) (heads (plain h)))

    reads : pat_of (pat next) s ≡ placed fs k (plain t)
    reads =
        q (pat next)
        ∙ (λ v. read_node (λ _. o v) (plain h) (plains (from_list ts)) ((c.keeps i (let x = b.last in omega arith) ∙ b.is) v) (c.are v))
        ∙ (λ v. read_node (λ _. flags_at fs k) (plain h) (plains (from_list ts)) (placed fs (w v) (plain h)) (placed_in fs (n_is v) (plains (from_list ts))))
        ∙ ap (placed fs k) e

-- the last part is the pattern
pub root_is : (fs : List Flags) (k : ℕ) (t : Stamped) (old : List Part) (i n : ℕ) (new : List Part) → Builds fs k t old i n new → pat new (length new - 1) ≡ placed fs k (plain t)
root_is fs k t old i n new b = ap (pat new) (let q = b.last in let e : length new - 1 ≡ i = omega arith in e) ∙ b.is

pub kept_from_none : (ms : List Stamped) (ss : List Part) → ss ≡ [] → All (IsFrom ms) (kept ss)
kept_from_none ms ss e = subst (λ z. All (IsFrom ms) (kept z)) (sym e) (kept_nothing ms)

-- a part is read by the patterns at the places that it names alone
same_inside : (f g : ℕ → Pat) (n : ℕ) (s : Part) → All (λ i. i < n) (inside s) → ((j : ℕ) → j < n → f j ≡ g j) → pat_of f s ≡ pat_of g s
same_inside f g n (part.Exactly t) h e = refl
same_inside f g n (part.Blank c t) h e = refl
same_inside f g n (part.Named x q) h e = ap (named (string_bytes x)) (e q (All-head (λ i. i < n) q [] h))
same_inside f g n (part.Applies t q) h e = ap (tested (applies (plain t))) (e q (All-head (λ i. i < n) q [] h))
same_inside f g n (part.Holds t q) h e = ap (tested (holds (plain t))) (e q (All-head (λ i. i < n) q [] h))
same_inside f g n (part.Hold q) h e = ap hold (e q (All-head (λ i. i < n) q [] h))
same_inside f g n (part.Optional d q) h e = ap (optional (option_map plain d)) (e q (All-head (λ i. i < n) q [] h))
same_inside f g n (part.Alternatives qs) h e = ap alternatives (pats_same f g n qs.items h e)
same_inside f g n (part.Repeated c q) h e = ap (repeated (count_of c)) (e q (All-head (λ i. i < n) q [] h))
same_inside f g n (part.Except t None) h e = refl
same_inside f g n (part.Except t (Some q)) h e = ap (except (plain t)) (e q (All-head (λ i. i < n) q [] h))
same_inside f g n (part.Nodes v t q qs) h e =
    λ m. nodes v (plain t) (e q (All-head (λ i. i < n) q qs.items h) m) (pats_same f g n qs.items (All-tail (λ i. i < n) q qs.items h) e m)

table_keeps : (ps : List Pat) (ss : List Part) (i : ℕ) → i < length ps → at (table ps ss) i ≡ at ps i
table_keeps ps [] i l = refl
table_keeps ps (s ∷ ss) i l =
    table_keeps (ps ++ pat_of (at ps) s ∷ []) ss i (omega (arith, length-append ps (pat_of (at ps) s ∷ [])))
    ∙ get_or-append ps (pat_of (at ps) s ∷ []) nothing i l

table_is : (ps : List Pat) (ss : List Part) (i n : ℕ) (d : Part) → n ≡ length ps → IsBehind n ss → i < length ss → at (table ps ss) (n + i) ≡ pat_of (at (table ps ss)) (get_or ss i d)
table_is ps [] i n d e h l = absurd (omega arith)
table_is ps (s ∷ ss) zero n d e h l =
    let qs = ps ++ pat_of (at ps) s ∷ [] in
    ap (at (table qs ss)) (let k : n + 0 ≡ length ps = omega arith in k)
    ∙ table_keeps qs ss (length ps) (omega (arith, length-append ps (pat_of (at ps) s ∷ [])))
    ∙ get_or-append_seam ps (pat_of (at ps) s) [] nothing
    ∙ same_inside (at ps) (at (table qs ss)) n s h.0 (λ j w.
    let v : j < length ps = omega arith in
    sym (table_keeps qs ss j (omega (arith, length-append ps (pat_of (at ps) s ∷ []))) ∙ get_or-append ps (pat_of (at ps) s ∷ []) nothing j v))
table_is ps (s ∷ ss) (suc i) n d e h l =
    let qs = ps ++ pat_of (at ps) s ∷ [] in
    ap (at (table qs ss)) (let k : n + suc i ≡ n + 1 + i = omega arith in k)
    ∙ table_is qs ss i (n + 1) d (omega (arith, length-append ps (pat_of (at ps) s ∷ []))) h.1 (omega arith)

-- the parts that a part names stand before it, so that it is read by the patterns of all
pub pat_is : (ss : List Part) (i : ℕ) (d : Part) → IsBehind 0 ss → i < length ss → pat ss i ≡ pat_of (pat ss) (get_or ss i d)
unfolding pat
pat_is ss i d h l = ap (at (table [] ss)) (let k : i ≡ 0 + i = omega arith in k) ∙ table_is [] ss i 0 d refl h l
