-- Comparisons of numbers, one after the other.
use Rattle.std.proofs.Common.{◌≡◌, ◌≢◌, ◌<◌, Bool, true, false, ◌&&◌, List, [], ◌∷◌, length, Option, Some, None, refl, sym, ◌∙◌, ap, arith}
use Rattle.wl_exact.specs.Arithmetic.{fraction_cmp}
use Rattle.wl_exact.specs.Fraction.{Fraction}
use Rattle.wl_expr.specs.Applied.{Applied, unchanged, gives}
use Rattle.wl_expr.specs.Stamped.{Stamped, plain}
use Rattle.wl_expr.specs.Tree.{Tree, num, text, symbol, node}
use Rattle.wl_expr.specs.Words.{truth}
use Rattle.wl_algebra.specs.Answers.{number_of, trees}
use Rattle.wl_algebra.specs.Comparisons.{Relation, numbers, with_number, holds_of_all, compared, comparison_row, relation_of, and_then, chain, told_truth, inequality_row}

and_true : (b : Bool) → b ≡ (b && true)
and_true true = refl
and_true false = refl

and_assoc : (a b c : Bool) → (a && b && c) ≡ (a && (b && c))
and_assoc true b c = refl
and_assoc false b c = refl

-- what holds as far as one more
pub still_holds : (b c d : Bool) → b ≡ true → c ≡ d → c ≡ (b && d)
still_holds true c d t e = e
still_holds false c d t e = cc

pub holds_no_more : (b d : Bool) → b ≡ false → b ≡ (b && d)
holds_no_more true d f = cc
holds_no_more false d f = refl

-- ---- Less and its relatives

-- the number before, and whether all held as far as that
abbrev pub compared_on : Relation → Bool → Fraction → List Tree → Applied
compared_on r b n [] = gives (truth b)
compared_on r b n (t ∷ ts) = elim (number_of t) [ None ↦ unchanged | Some m ↦ compared_on r (b && r (fraction_cmp n m)) m ts ]

abbrev compared_with : Relation → Bool → Option (List Fraction) → Applied
compared_with r b None = unchanged
compared_with r b (Some ns) = gives (truth (b && holds_of_all r ns))

one_more : (r : Relation) (b : Bool) (n m : Fraction) (ns : Option (List Fraction)) → compared_with r (b && r (fraction_cmp n m)) (with_number (num m) ns) ≡ compared_with r b (with_number (num n) (with_number (num m) ns))
one_more r b n m None = refl
one_more r b n m (Some ns) = ap (λ c. gives (truth c)) (and_assoc b (r (fraction_cmp n m)) (holds_of_all r (m ∷ ns)))

compared_all : (r : Relation) (b : Bool) (n : Fraction) (ts : List Tree) → compared_on r b n ts ≡ compared_with r b (with_number (num n) (numbers ts))
compared_all r b n [] = ap (λ c. gives (truth c)) (and_true b)
compared_all r b n (num m ∷ ts) = compared_all r (b && r (fraction_cmp n m)) m ts ∙ one_more r b n m (numbers ts)
compared_all r b n (text s ∷ ts) = refl
compared_all r b n (symbol s ∷ ts) = refl
compared_all r b n (node h us ∷ ts) = refl

compared_by : (r : Relation) (ns : Option (List Fraction)) → compared_with r true ns ≡ compared r ns
compared_by r None = refl
compared_by r (Some ns) = refl

pub comparison_begins : (r : Relation) (t : Tree) (ts : List Tree) (n : Fraction) → Some n ≡ number_of t → comparison_row r (t ∷ ts) ≡ compared_on r true n ts
comparison_begins r (num m) ts n e =
    let same : n ≡ m = cc in
    ap (λ k. compared r (with_number (num k) (numbers ts))) (sym same) ∙ sym (compared_all r true n ts ∙ compared_by r (with_number (num n) (numbers ts)))
comparison_begins r (text s) ts n e = cc
comparison_begins r (symbol s) ts n e = cc
comparison_begins r (node h us) ts n e = cc

pub comparison_stays : (r : Relation) (t : Tree) (ts : List Tree) → None ≡ number_of t → comparison_row r (t ∷ ts) ≡ unchanged
comparison_stays r (num m) ts e = cc
comparison_stays r (text s) ts e = refl
comparison_stays r (symbol s) ts e = refl
comparison_stays r (node h us) ts e = refl

-- ---- Inequality

abbrev pub chain_on : Bool → Fraction → List Tree → Applied
chain_on b n [] = gives (truth b)
chain_on b n (r ∷ []) = unchanged
chain_on b n (r ∷ t ∷ ts) =
    elim (relation_of r) [
      | None ↦ unchanged
      | Some f ↦ elim (number_of t) [ None ↦ unchanged | Some m ↦ chain_on (b && f (fraction_cmp n m)) m ts ]
    ]

abbrev told_with : Bool → Option Bool → Applied
told_with b None = unchanged
told_with b (Some c) = gives (truth (b && c))

one_sign_more : (f : Relation) (b : Bool) (n m : Fraction) (c : Option Bool) → told_with (b && f (fraction_cmp n m)) c ≡ told_with b (and_then (Some f) n m c)
one_sign_more f b n m None = refl
one_sign_more f b n m (Some c) = ap (λ d. gives (truth d)) (and_assoc b (f (fraction_cmp n m)) c)

abbrev chained : Bool → Fraction → Fraction → List Tree → Option Relation → Applied
chained b n m ts None = unchanged
chained b n m ts (Some f) = chain_on (b && f (fraction_cmp n m)) m ts

no_number : (b : Bool) (f : Option Relation) → (elim f [ None ↦ unchanged | Some g ↦ unchanged ]) ≡ unchanged
no_number b None = refl
no_number b (Some g) = refl

by_sign : (b : Bool) (n m : Fraction) (ts : List Tree) (f : Option Relation) → ((c : Bool) → chain_on c m ts ≡ told_with c (chain m ts)) → chained b n m ts f ≡ told_with b (and_then f n m (chain m ts))
by_sign b n m ts None h = refl
by_sign b n m ts (Some f) h = h (b && f (fraction_cmp n m)) ∙ one_sign_more f b n m (chain m ts)

chain_all : (b : Bool) (n : Fraction) (ts : List Tree) → chain_on b n ts ≡ told_with b (chain n ts)
chain_all b n [] = ap (λ c. gives (truth c)) (and_true b)
chain_all b n (r ∷ []) = refl
chain_all b n (r ∷ num m ∷ ts) = by_sign b n m ts (relation_of r) (λ c. chain_all c m ts)
chain_all b n (r ∷ text s ∷ ts) = no_number b (relation_of r)
chain_all b n (r ∷ symbol s ∷ ts) = no_number b (relation_of r)
chain_all b n (r ∷ node h us ∷ ts) = no_number b (relation_of r)

told_by : (c : Option Bool) → told_with true c ≡ told_truth c
told_by None = refl
told_by (Some c) = refl

inequality_begins : (t r : Tree) (ts : List Tree) (n : Fraction) → Some n ≡ number_of t → inequality_row (t ∷ r ∷ ts) ≡ chain_on true n (r ∷ ts)
inequality_begins (num m) r ts n e =
    let same : n ≡ m = cc in
    ap (λ k. told_truth (chain k (r ∷ ts))) (sym same) ∙ sym (chain_all true n (r ∷ ts) ∙ told_by (chain n (r ∷ ts)))
inequality_begins (text s) r ts n e = cc
inequality_begins (symbol s) r ts n e = cc
inequality_begins (node h us) r ts n e = cc

pub chain_begins : (t : Tree) (us : List Stamped) (n : Fraction) → length us ≢ 0 → Some n ≡ number_of t → inequality_row (t ∷ trees us) ≡ chain_on true n (trees us)
chain_begins t [] n l e = absurd (l refl)
chain_begins t (u ∷ us) n l e = inequality_begins t (plain u) (trees us) n e

abbrev chain_by : Bool → Fraction → List Tree → Option Relation → Option Fraction → Applied
chain_by b n ts (Some f) (Some m) = chain_on (b && f (fraction_cmp n m)) m ts
chain_by b n ts _ _ = unchanged

at_sign : (b : Bool) (n : Fraction) (ts : List Tree) (f : Option Relation) (m : Option Fraction)
    → (elim f [ None ↦ unchanged | Some g ↦ elim m [ None ↦ unchanged | Some k ↦ chain_on (b && g (fraction_cmp n k)) k ts ] ]) ≡ chain_by b n ts f m
at_sign b n ts None m = refl
at_sign b n ts (Some g) None = refl
at_sign b n ts (Some g) (Some k) = refl

-- a sign and an operand
pub chain_step : (b c : Bool) (n m : Fraction) (r t : Tree) (ts : List Tree) (f : Relation) → Some f ≡ relation_of r → Some m ≡ number_of t → c ≡ (b && f (fraction_cmp n m))
    → chain_on b n (r ∷ t ∷ ts) ≡ chain_on c m ts
chain_step b c n m r t ts f p q e =
    at_sign b n ts (relation_of r) (number_of t) ∙ ap (λ g. chain_by b n ts g (number_of t)) (sym p) ∙ ap (λ k. chain_by b n ts (Some f) k) (sym q) ∙ ap (λ d. chain_on d m ts) (sym e)

-- no sign, or no operand
pub sign_stays : (b : Bool) (n : Fraction) (r t : Tree) (ts : List Tree) → None ≡ relation_of r → chain_on b n (r ∷ t ∷ ts) ≡ unchanged
sign_stays b n r t ts p = at_sign b n ts (relation_of r) (number_of t) ∙ ap (λ g. chain_by b n ts g (number_of t)) (sym p)

pub chain_ends : (b : Bool) (n : Fraction) (us : List Stamped) → length us < 2 → length us ≢ 0 → chain_on b n (trees us) ≡ unchanged
chain_ends b n [] l z = absurd (z refl)
chain_ends b n (u ∷ []) l z = refl
chain_ends b n (u ∷ v ∷ us) l z = absurd (omega arith)

pub inequality_stays : (t : Tree) (ts : List Tree) → None ≡ number_of t → inequality_row (t ∷ ts) ≡ unchanged
inequality_stays (num m) ts e = cc
inequality_stays (text s) ts e = refl
inequality_stays (symbol s) ts e = refl
inequality_stays (node h us) ts e = refl

pub inequality_alone : (t : Tree) → inequality_row (t ∷ []) ≡ unchanged
inequality_alone (num m) = refl
inequality_alone (text s) = refl
inequality_alone (symbol s) = refl
inequality_alone (node h us) = refl
