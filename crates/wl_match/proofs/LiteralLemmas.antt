-- A left side without a pattern, whose heads have no flags, has one leaf.
use Rattle.std.proofs.Common.{◌≡◌, ◌≢◌, ℕ, suc, ◌+◌, ◌-◌, min, max, Bool, true, false, ◌&&◌, ◌||◌, not, cond, List, [], ◌∷◌, ◌++◌, length, Some, None, inl, inr, true≢false, refl, ap, sym, ◌∙◌, subst, arith, codes}
use Rattle.std.specs.Str.{bytes_eq}
use Rattle.std.proofs.Math.Dec.{eqb-suc-zero}
use Rattle.std.proofs.lemmas.Bool.Decides.{eqb_tells}
use Rattle.std.proofs.lemmas.List.Folds.{list_all-append}
use Rattle.wl_expr.specs.Tree.{Tree, Trees, num, text, symbol, node, none, more, to_list}
use Rattle.wl_expr.specs.Same.{same, all_same, same_lists, same_decides}
use Rattle.wl_expr.specs.Words.{Name}
use Rattle.wl_match.specs.declared.flags.Flags.{Flags}
use Rattle.wl_match.specs.Pattern.{Pat, Pats, exactly, blank, named, tested, hold, optional, alternatives, repeated, except, nodes, also, pattern, patterns, applies, holds, one, some, any, read_blank, read_named, read_tested, read_one, read_verbatim, read_optional, read_except, read_special, no_flags, need, most}
use Rattle.wl_match.specs.Heads.{head_symbol, heads, heads_in}
use Rattle.wl_match.specs.Search.{Trail, Leaf, Fail, Search, leaves, Cont, found, guard, or_fail}
use Rattle.wl_match.specs.Trials.{Site, trials, elements, each_length, needs, mosts}
use Rattle.wl_match.specs.Literals.{heads_form, plain_head, literal, literals, is_free, all_free, leaves_if, OneLeaf}
use Rattle.wl_match.proofs.LentLemmas.{all_same_lists}

-- ---- truth values

-- the first choice that holds, or what is left
abbrev first_choice : List (Bool × Pat) → Pat → Pat
first_choice [] p = p
first_choice (c ∷ cs) p = cond c.0 c.1 (first_choice cs p)

abbrev any_choice : List (Bool × Pat) → Bool
any_choice [] = false
any_choice (c ∷ cs) = cond c.0 true (any_choice cs)

no_choice : (cs : List (Bool × Pat)) (p : Pat) → any_choice cs ≡ false → first_choice cs p ≡ p
no_choice [] p e = refl
no_choice ((true, q) ∷ cs) p e = absurd (true≢false e)
no_choice ((false, q) ∷ cs) p e = no_choice cs p e

left_of : (a b : Bool) → (a && b) ≡ true → a ≡ true
left_of true b e = refl
left_of false b e = absurd (true≢false (sym e))

right_of : (a b : Bool) → (a && b) ≡ true → b ≡ true
right_of true b e = e
right_of false b e = absurd (true≢false (sym e))

no_form : (b : Bool) → not b ≡ true → b ≡ false
no_form true e = sym e
no_form false e = refl

abbrev flags_with : Bool → Bool → Bool → Flags
flags_with a b c = record { flat = a; orderless = b; one_identity = c }

no_flag : (a b c : Bool) → not (a || b || c) ≡ true → flags_with a b c ≡ no_flags
no_flag false false false e = refl
no_flag true b c e = absurd (true≢false (sym e))
no_flag false true c e = absurd (true≢false (sym e))
no_flag false false true e = absurd (true≢false (sym e))

free_is : (f : Flags) → is_free f ≡ true → f ≡ no_flags
free_is f e = no_flag f.flat f.orderless f.one_identity e

-- ---- what is read

not_special : (s : Name) (ts : Trees) (ps : Pats) (p : Pat) → heads_form s ≡ false → read_special s ts ps p ≡ p
not_special s ts ps p e =
    no_choice (
    (bytes_eq s (codes "Blank"), read_blank one ts p)
    ∷ (bytes_eq s (codes "BlankSequence"), read_blank some ts p)
    ∷ (bytes_eq s (codes "BlankNullSequence"), read_blank any ts p)
    ∷ (bytes_eq s (codes "Pattern"), read_named ts ps p)
    ∷ (bytes_eq s (codes "PatternTest"), read_tested applies ts ps p)
    ∷ (bytes_eq s (codes "Condition"), read_tested holds ts ps p)
    ∷ (bytes_eq s (codes "HoldPattern"), read_one hold ps p)
    ∷ (bytes_eq s (codes "Optional"), read_optional ts ps p)
    ∷ (bytes_eq s (codes "Alternatives"), alternatives ps)
    ∷ (bytes_eq s (codes "Repeated"), read_one (repeated some) ps p)
    ∷ (bytes_eq s (codes "RepeatedNull"), read_one (repeated any) ps p)
    ∷ (bytes_eq s (codes "Verbatim"), read_verbatim ts p)
    ∷ (bytes_eq s (codes "Except"), read_except ts ps p)
    ∷ []) p e

module _ (f : Name → Flags) where
  reads : (h : Tree) (ts : Trees) → plain_head h ≡ true → all_free f (head_symbol h) ≡ true → pattern f (node h ts) ≡ nodes no_flags h (pattern f h) (patterns f ts)
  reads (num n) ts e a = refl
  reads (text s) ts e a = refl
  reads (node g us) ts e a = refl
  reads (symbol s) ts e a = not_special s ts (patterns f ts) _ (no_form (heads_form s) e) ∙ ap (λ g. nodes g (symbol s) (exactly (symbol s)) (patterns f ts)) (free_is (f s) (left_of (is_free (f s)) true a))

-- ---- a list of patterns of which each takes one element

abbrev plain_pat : Pat → Bool
plain_pat (exactly t) = true
plain_pat (nodes f h hp ps) = true
plain_pat (blank c h) = false
plain_pat (named x q) = false
plain_pat (tested t q) = false
plain_pat (hold q) = false
plain_pat (optional d q) = false
plain_pat (alternatives qs) = false
plain_pat (repeated c q) = false
plain_pat (except c q) = false

abbrev site : Tree → Site
site h = record { head = h; flags = no_flags }

each_none : (g : ℕ → Search) (low n : ℕ) → n ≡ 0 → leaves (or_fail (each_length g None low n)) ≡ Fail ∷ []
each_none g low n e = subst (λ m. leaves (or_fail (each_length g None low m)) ≡ Fail ∷ []) (sym e) refl

each_one : (g : ℕ → Search) (low n : ℕ) → low ≡ 1 → n ≡ 1 → leaves (or_fail (each_length g None low n)) ≡ leaves (g 1)
each_one g low n e d = subst (λ m. leaves (or_fail (each_length g None low m)) ≡ leaves (g 1)) (sym d) (subst (λ l. leaves (or_fail (each_length g None l 1)) ≡ leaves (g 1)) (sym e) refl)

-- how many lengths of a run there are, where m patterns follow and n elements are left
abbrev how_many : ℕ → ℕ → ℕ
how_many m n = min 2 (n + 1 - m) - max 1 (n - m)

too_many : (m n : ℕ) → n ≢ m + 1 → how_many m n ≡ 0
too_many m n d = omega (arith, d)

just_one : (m n : ℕ) → n ≡ m + 1 → (how_many m n ≡ 1) × (max 1 (n - m) ≡ 1)
just_one m n d = (omega (arith, d), omega (arith, d))

module _ (h : Tree) (j : ℕ) (ps : Pats) (m : ℕ) (a : needs ps ≡ m) (b : mosts (site h) ps ≡ Some m) (k : Cont) (e : Trail) where
  none_fits : (p : Pat) (left : List Tree) → plain_pat p ≡ true → length left ≢ m + 1 → leaves (elements (site h) j (also p ps) left k e) ≡ Fail ∷ []
  none_fits (exactly t) left c d = rw a (rw b (each_none _ _ (how_many m (length left)) (too_many m (length left) d)))
  none_fits (nodes f g hp qs) left c d = rw a (rw b (each_none _ _ (how_many m (length left)) (too_many m (length left) d)))
  none_fits (blank _ _) left c d = absurd (true≢false (sym c))
  none_fits (named x q) left c d = absurd (true≢false (sym c))
  none_fits (tested t q) left c d = absurd (true≢false (sym c))
  none_fits (hold q) left c d = absurd (true≢false (sym c))
  none_fits (optional o q) left c d = absurd (true≢false (sym c))
  none_fits (alternatives qs) left c d = absurd (true≢false (sym c))
  none_fits (repeated _ q) left c d = absurd (true≢false (sym c))
  none_fits (except t q) left c d = absurd (true≢false (sym c))

  one_fits : (p : Pat) (x : Tree) (xs : List Tree) → plain_pat p ≡ true → length xs ≡ m
      → leaves (elements (site h) j (also p ps) (x ∷ xs) k e) ≡ leaves (trials p (x ∷ []) (λ d. elements (site h) (j + 1) ps xs k d) e)
  one_fits (exactly t) x xs c d = rw a (rw b (let z : suc (length xs) ≡ m + 1 = omega (arith, d) in each_one _ (max 1 (suc (length xs) - m)) (how_many m (suc (length xs))) (just_one m (suc (length xs)) z).1 (just_one m (suc (length xs)) z).0))
  one_fits (nodes f g hp qs) x xs c d = rw a (rw b (let z : suc (length xs) ≡ m + 1 = omega (arith, d) in each_one _ (max 1 (suc (length xs) - m)) (how_many m (suc (length xs))) (just_one m (suc (length xs)) z).1 (just_one m (suc (length xs)) z).0))
  one_fits (blank _ _) x xs c d = absurd (true≢false (sym c))
  one_fits (named _ q) x xs c d = absurd (true≢false (sym c))
  one_fits (tested t q) x xs c d = absurd (true≢false (sym c))
  one_fits (hold q) x xs c d = absurd (true≢false (sym c))
  one_fits (optional o q) x xs c d = absurd (true≢false (sym c))
  one_fits (alternatives qs) x xs c d = absurd (true≢false (sym c))
  one_fits (repeated _ q) x xs c d = absurd (true≢false (sym c))
  one_fits (except t q) x xs c d = absurd (true≢false (sym c))

-- ---- the leaves

guard_leaves : (b : Bool) (k : Cont) (e : Trail) → leaves (guard b k e) ≡ leaves_if b (leaves (k e))
guard_leaves true k e = refl
guard_leaves false k e = refl

both_if : (a b : Bool) (ls : List Leaf) → leaves_if a (leaves_if b ls) ≡ leaves_if (a && b) ls
both_if true b ls = refl
both_if false b ls = refl

as_long : (ts us : List Tree) → same_lists ts us ≡ true → length ts ≡ length us
as_long [] [] e = refl
as_long [] (u ∷ us) e = absurd (true≢false (sym e))
as_long (t ∷ ts) [] e = absurd (true≢false (sym e))
as_long (t ∷ ts) (u ∷ us) e = ap suc (as_long ts us (right_of (same t u) (same_lists ts us) e))

not_as_long : (b : Bool) (ls : List Leaf) → b ≢ true → Fail ∷ [] ≡ leaves_if b ls
not_as_long true ls h = absurd (h refl)
not_as_long false ls h = refl

-- two truth values that are true together
agree : (a b : Bool) → (a ≡ true → b ≡ true) → (b ≡ true → a ≡ true) → a ≡ b
agree true b f g = sym (f refl)
agree false true f g = g refl
agree false false f g = refl

same_one : (t u : Tree) → (same t u && true) ≡ same u t
same_one t u =
    agree (same t u && true) (same u t) (λ e. (same_decides u t).1 (sym ((same_decides t u).0 (left_of (same t u) true e)))) (λ e. rw ((same_decides t u).1 (sym ((same_decides u t).0 e))) refl)

module _ (f : Name → Flags) where
  free_parts : (h : Tree) (ts : Trees) → all_free f (heads (node h ts)) ≡ true → (all_free f (head_symbol h) ≡ true) × ((all_free f (heads h) ≡ true) × (all_free f (heads_in ts) ≡ true))
  free_parts h ts a =
      let g : Name → Bool = λ x. is_free (f x) in
      let b = sym (list_all-append g (head_symbol h) (heads h ++ heads_in ts)) ∙ a in
      let c = sym (list_all-append g (heads h) (heads_in ts)) ∙ right_of _ _ b in
      (left_of _ _ b, (left_of _ _ c, right_of _ _ c))

  free_more : (t : Tree) (ts : Trees) → all_free f (heads_in (more t ts)) ≡ true → (all_free f (heads t) ≡ true) × (all_free f (heads_in ts) ≡ true)
  free_more t ts a = let b = sym (list_all-append (λ x. is_free (f x)) (heads t) (heads_in ts)) ∙ a in (left_of _ _ b, right_of _ _ b)

  plain_read : (u : Tree) → literal u ≡ true → all_free f (heads u) ≡ true → plain_pat (pattern f u) ≡ true
  plain_read (num n) l a = refl
  plain_read (text s) l a = refl
  plain_read (symbol s) l a = refl
  plain_read (node h ts) l a = ap plain_pat (reads f h ts (left_of (plain_head h) _ l) (free_parts h ts a).0)

  plain_one : (p : Pat) → plain_pat p ≡ true → (need p ≡ 1) × (most p ≡ Some 1)
  plain_one (exactly t) e = (refl, refl)
  plain_one (nodes g h hp ps) e = (refl, refl)
  plain_one (blank _ _) e = absurd (true≢false (sym e))
  plain_one (named _ q) e = absurd (true≢false (sym e))
  plain_one (tested t q) e = absurd (true≢false (sym e))
  plain_one (hold q) e = absurd (true≢false (sym e))
  plain_one (optional o q) e = absurd (true≢false (sym e))
  plain_one (alternatives qs) e = absurd (true≢false (sym e))
  plain_one (repeated _ q) e = absurd (true≢false (sym e))
  plain_one (except t q) e = absurd (true≢false (sym e))

  -- each takes one element
  needs_read : (ts : Trees) → literals ts ≡ true → all_free f (heads_in ts) ≡ true → needs (patterns f ts) ≡ length (to_list ts)
  needs_read none l a = refl
  needs_read (more t ts) l a =
      let b = free_more t ts a in
      let p = plain_one (pattern f t) (plain_read t (left_of (literal t) _ l) b.0) in
      omega (arith, p.0, needs_read ts (right_of (literal t) _ l) b.1)

  mosts_read : (h : Tree) (ts : Trees) → literals ts ≡ true → all_free f (heads_in ts) ≡ true → mosts (site h) (patterns f ts) ≡ Some (length (to_list ts))
  mosts_read h none l a = refl
  mosts_read h (more t ts) l a =
      let b = free_more t ts a in
      let p = plain_one (pattern f t) (plain_read t (left_of (literal t) _ l) b.0) in
      let z : 1 + length (to_list ts) ≡ suc (length (to_list ts)) = omega arith in
      rw p.1 (rw (mosts_read h ts (right_of (literal t) _ l) b.1) (ap Some z))

  mutual
    one_leaf_on : (u t : Tree) (k : Cont) (e : Trail) → literal u ≡ true → all_free f (heads u) ≡ true → leaves (trials (pattern f u) (t ∷ []) k e) ≡ leaves_if (same u t) (leaves (k e))
    one_leaf_on (num n) t k e l a = guard_leaves (same t (num n) && true) k e ∙ ap (λ b. leaves_if b (leaves (k e))) (same_one t (num n))
    one_leaf_on (text s) t k e l a = guard_leaves (same t (text s) && true) k e ∙ ap (λ b. leaves_if b (leaves (k e))) (same_one t (text s))
    one_leaf_on (symbol s) t k e l a = guard_leaves (same t (symbol s) && true) k e ∙ ap (λ b. leaves_if b (leaves (k e))) (same_one t (symbol s))
    one_leaf_on (node h ts) (num n) k e l a = ap (λ p. leaves (trials p (num n ∷ []) k e)) (reads f h ts (left_of (plain_head h) _ l) (free_parts h ts a).0)
    one_leaf_on (node h ts) (text s) k e l a = ap (λ p. leaves (trials p (text s ∷ []) k e)) (reads f h ts (left_of (plain_head h) _ l) (free_parts h ts a).0)
    one_leaf_on (node h ts) (symbol s) k e l a = ap (λ p. leaves (trials p (symbol s ∷ []) k e)) (reads f h ts (left_of (plain_head h) _ l) (free_parts h ts a).0)
    one_leaf_on (node h ts) (node g us) k e l a =
        let b = free_parts h ts a in
        let m = right_of (plain_head h) _ l in
        ap (λ p. leaves (trials p (node g us ∷ []) k e)) (reads f h ts (left_of (plain_head h) _ l) b.0)
        ∙ one_leaf_on h g (λ d. elements (site h) 1 (patterns f ts) (to_list us) k d) e (left_of (literal h) _ m) b.1.0
        ∙ ap (leaves_if (same h g)) (elements_leaf h ts 1 (to_list us) k e (right_of (literal h) _ m) b.1.1 ∙ ap (λ c. leaves_if c (leaves (k e))) (sym (all_same_lists ts us)))
        ∙ both_if (same h g) (all_same ts us) (leaves (k e))

    elements_leaf : (h : Tree) (ts : Trees) (j : ℕ) (left : List Tree) (k : Cont) (e : Trail) → literals ts ≡ true → all_free f (heads_in ts) ≡ true
        → leaves (elements (site h) j (patterns f ts) left k e) ≡ leaves_if (same_lists (to_list ts) left) (leaves (k e))
    elements_leaf h none j [] k e l a = refl
    elements_leaf h none j (x ∷ xs) k e l a = rw (eqb-suc-zero (length xs)) refl
    elements_leaf h (more t ts) j [] k e l a =
        let b = free_more t ts a in
        let m = right_of (literal t) _ l in
        none_fits h j (patterns f ts) (length (to_list ts)) (needs_read ts m b.1) (mosts_read h ts m b.1) k e (pattern f t) [] (plain_read t (left_of (literal t) _ l) b.0) (λ z. omega (arith, z))
    elements_leaf h (more t ts) j (x ∷ xs) k e l a =
        let b = free_more t ts a in
        let m = right_of (literal t) _ l in
        let n = left_of (literal t) _ l in
        let p = plain_read t n b.0 in
        elim (eqb_tells (length xs) (length (to_list ts))) [
          | inl q ↦
              one_fits h j (patterns f ts) (length (to_list ts)) (needs_read ts m b.1) (mosts_read h ts m b.1) k e (pattern f t) x xs p q.1
              ∙ one_leaf_on t x (λ d. elements (site h) (j + 1) (patterns f ts) xs k d) e n b.0
              ∙ ap (leaves_if (same t x)) (elements_leaf h ts (j + 1) xs k e m b.1)
              ∙ both_if (same t x) (same_lists (to_list ts) xs) (leaves (k e))
          | inr q ↦
              none_fits h j (patterns f ts) (length (to_list ts)) (needs_read ts m b.1) (mosts_read h ts m b.1) k e (pattern f t) (x ∷ xs) p (λ z. q.1 (omega (arith, z)))
              ∙ not_as_long (same t x && same_lists (to_list ts) xs) (leaves (k e)) (λ z. q.1 (sym (as_long (to_list ts) xs (right_of (same t x) _ z))))
        ]

pub one_leaf : OneLeaf
one_leaf f u t l a = one_leaf_on f u t found [] l a
