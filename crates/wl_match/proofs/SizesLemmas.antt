-- The sizes of the patterns of a list of parts, part by part.
use Rattle.std.proofs.Common.{◌≡◌, ℕ, zero, suc, ◌+◌, ◌<◌, List, [], ◌∷◌, ◌++◌, length, map, get_or, take, min, refl, sym, ap, subst, ◌∙◌, Option, Some, None, arith}
use Rattle.std.proofs.Math.ListN.{get_or-map}
use Rattle.std.proofs.lemmas.List.{map-append, take_more, length-map, length-take}
use Rattle.std.specs.List.{All}
use Rattle.wl_match.specs.declared.part.Part.{Part}
use Rattle.wl_match.specs.declared.part.Part.TheVariants as part
use Rattle.wl_match.specs.declared.size.Size.{Size}
use Rattle.wl_match.specs.Pattern.{Pat, alternatives, greater}
use Rattle.wl_match.specs.Parts.{nothing, at, table, pat_of, pats_of, inside, IsBehind}
use Rattle.wl_match.specs.Sizes.{size, either_size, joined, size_among, or_one, size_by, size_at, sizes_of, after}
use Rattle.wl_match.proofs.PartsLemmas.{table_put, length_table, all_up}

greater_assoc : (a b c : Option ℕ) → greater a (greater b c) ≡ greater (greater a b) c
greater_assoc None b c = refl
greater_assoc (Some m) None c = refl
greater_assoc (Some m) (Some n) None = refl
greater_assoc (Some m) (Some n) (Some k) = ap Some (omega arith)

either_assoc : (a b c : Size) → either_size a (either_size b c) ≡ either_size (either_size a b) c
either_assoc a b c =
    let e : min a.need (min b.need c.need) ≡ min (min a.need b.need) c.need = omega arith in
    λ v. record { need = e v; most = greater_assoc a.most b.most c.most v }

joined_after : (s : Size) (o : Option Size) (t : Size) → joined s (Some (after o t)) ≡ after (Some (joined s o)) t
joined_after s None t = refl
joined_after s (Some u) t = either_assoc s u t

among_put : (f : ℕ → Size) (is : List ℕ) (i : ℕ) → size_among f (is ++ i ∷ []) ≡ Some (after (size_among f is) (f i))
among_put f [] i = refl
among_put f (j ∷ is) i = ap (λ o. Some (joined (f j) o)) (among_put f is i) ∙ ap Some (joined_after (f j) (size_among f is) (f i))

size_members : (f : ℕ → Pat) (is : List ℕ) → size (alternatives (pats_of f is)) ≡ or_one (size_among (λ i. size (f i)) is)
size_members f [] = refl
size_members f (i ∷ []) = refl
size_members f (i ∷ j ∷ is) = ap (either_size (size (f i))) (size_members f (j ∷ is))

size_part : (f : ℕ → Pat) (s : Part) → size (pat_of f s) ≡ size_by (λ i. size (f i)) s
size_part f (part.Exactly t) = refl
size_part f (part.Blank c h) = refl
size_part f (part.Named x q) = refl
size_part f (part.Applies t q) = refl
size_part f (part.Holds c q) = refl
size_part f (part.Hold q) = refl
size_part f (part.Optional d q) = refl
size_part f (part.Alternatives qs) = size_members f qs.items
size_part f (part.Repeated c q) = refl
size_part f (part.Except t q) = refl
size_part f (part.Nodes g h hp qs) = refl

pub among_more : (f : ℕ → Size) (is : List ℕ) (n d : ℕ) → n < length is → size_among f (take (n + 1) is) ≡ Some (after (size_among f (take n is)) (f (get_or is n d)))
among_more f is n d l = ap (size_among f) (take_more is n d l) ∙ among_put f (take n is) (get_or is n d)

-- the sizes of the parts so far, one part more
table_more : (ss : List Part) (n : ℕ) (s : Part) → n < length ss → s ≡ get_or ss n s → table [] (take (n + 1) ss) ≡ table [] (take n ss) ++ pat_of (at (table [] (take n ss))) s ∷ []
table_more ss n s l e = ap (table []) (take_more ss n s l ∙ (λ v. take n ss ++ sym e v ∷ [])) ∙ table_put [] (take n ss) s

size_there : (ps : List Pat) → (λ (i : ℕ). size (at ps i)) ≡ size_at (map size ps)
size_there ps = λ v i. sym (get_or-map size ps i nothing) v

pub sizes_more : (ss : List Part) (n : ℕ) (s : Part) → n < length ss → s ≡ get_or ss n s → sizes_of (take (n + 1) ss) ≡ sizes_of (take n ss) ++ size_by (size_at (sizes_of (take n ss))) s ∷ []
sizes_more ss n s l e =
    let ps = table [] (take n ss) in
    ap (map size) (table_more ss n s l e)
    ∙ map-append size ps (pat_of (at ps) s ∷ [])
    ∙ (λ v. map size ps ++ (size_part (at ps) s ∙ (λ w. size_by (size_there ps w) s)) v ∷ [])

length_sizes : (ss : List Part) (n : ℕ) → n < length ss → length (sizes_of (take n ss)) ≡ n
length_sizes ss n l = omega (arith, length-map (table [] (take n ss)) size, length_table [] (take n ss), length-take n ss)

-- what a part names stands before it
pub behind_at : (n : ℕ) (ss : List Part) (i : ℕ) (s : Part) → i < length ss → s ≡ get_or ss i s → IsBehind n ss → All (λ j. j < n + i) (inside s)
behind_at n [] i s l e h = absurd (omega arith)
behind_at n (r ∷ ss) zero s l e h = all_up n (n + 0) (inside s) (omega arith) (subst (λ z. All (λ j. j < n) (inside z)) (sym e) h.0)
behind_at n (r ∷ ss) (suc i) s l e h = all_up (n + 1 + i) (n + suc i) (inside s) (omega arith) (behind_at (n + 1) ss i s (omega arith) e h.1)

pub behind_sizes : (ss : List Part) (n : ℕ) (s : Part) (m : ℕ) → m ≡ length (sizes_of (take n ss)) → n < length ss → s ≡ get_or ss n s → IsBehind 0 ss → All (λ j. j < m) (inside s)
behind_sizes ss n s m q l e h = all_up (0 + n) m (inside s) (omega (arith, length_sizes ss n l)) (behind_at 0 ss n s l e h)
