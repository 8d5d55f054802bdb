-- The plain trees of a list of elements, and their size against the whole.
use Rattle.std.proofs.Common.{◌≡◌, ℕ, ◌+◌, max, zero, suc, ◌≤◌, ◌<◌, List, [], ◌∷◌, ◌++◌, length, get_or, map, take, drop, refl, sym, ◌∙◌, ap, arith}
use Rattle.std.proofs.lemmas.List.{drop-map, take-map}
use Rattle.std.proofs.lemmas.List.Sums.{sum_by-cons}
use Rattle.std.specs.List.{sum_by}
use Rattle.wl_expr.specs.Tree as tree
use Rattle.wl_expr.specs.Tree.{Tree, Trees, node, to_list, weight, weights, depths}
use Rattle.wl_expr.specs.Stamped.{Stamped, num, text, symbol, node as stamped_node, from_list, plain, plains, depth, with_stamp, without_stamp}
use Rattle.wl_expr.specs.declared.stamp.Stamp.{Stamp}

-- an element is no deeper, and no heavier, than the elements together
pub depth_arg : (ts : List Stamped) (i : ℕ) (d : Stamped) → i < length ts → depth (get_or ts i d) ≤ depths (plains (from_list ts))
depth_arg [] i d h = absurd (omega arith)
depth_arg (t ∷ ts) zero d h = omega arith
depth_arg (t ∷ ts) (suc i) d h = omega (arith, depth_arg ts i d (omega arith))

pub weight_arg : (ts : List Stamped) (i : ℕ) (d : Stamped) → i < length ts → weight (plain (get_or ts i d)) ≤ weights (plains (from_list ts))
weight_arg [] i d h = absurd (omega arith)
weight_arg (t ∷ ts) zero d h = omega arith
weight_arg (t ∷ ts) (suc i) d h = omega (arith, weight_arg ts i d (omega arith))

-- the plain trees, one by one
pub plains_from_list : (ts : List Stamped) → plains (from_list ts) ≡ tree.from_list (map plain ts)
plains_from_list [] = refl
plains_from_list (t ∷ ts) = ap (λ us. tree.more (plain t) us) (plains_from_list ts)

pub to_list_plains : (ts : List Stamped) → to_list (plains (from_list ts)) ≡ map plain ts
to_list_plains [] = refl
to_list_plains (t ∷ ts) = ap (λ us. plain t ∷ us) (to_list_plains ts)

pub length_to_list_plains : (ts : List Stamped) → length (to_list (plains (from_list ts))) ≡ length ts
length_to_list_plains [] = refl
length_to_list_plains (t ∷ ts) = ap suc (length_to_list_plains ts)

-- a list behind another, and the front and the back of a list
pub to_list_plains-append : (ts us : List Stamped) → to_list (plains (from_list (ts ++ us))) ≡ to_list (plains (from_list ts)) ++ to_list (plains (from_list us))
to_list_plains-append [] us = refl
to_list_plains-append (t ∷ ts) us = ap (λ vs. plain t ∷ vs) (to_list_plains-append ts us)

pub to_list_plains-take : (n : ℕ) (ts : List Stamped) → to_list (plains (from_list (take n ts))) ≡ take n (map plain ts)
to_list_plains-take n ts = to_list_plains (take n ts) ∙ sym (take-map plain n ts)

pub to_list_plains-drop : (n : ℕ) (ts : List Stamped) → to_list (plains (from_list (drop n ts))) ≡ drop n (map plain ts)
to_list_plains-drop n ts = to_list_plains (drop n ts) ∙ sym (drop-map plain n ts)

-- the plain tree of an element
pub plain_arg : (ts : List Stamped) (i : ℕ) (d : Stamped) → plain (get_or ts i d) ≡ get_or (map plain ts) i (plain d)
plain_arg [] i d = refl
plain_arg (t ∷ ts) zero d = refl
plain_arg (t ∷ ts) (suc i) d = plain_arg ts i d

-- one more at the end
pub plains_push : (ts : List Stamped) (t : Stamped) → plains (from_list (ts ++ t ∷ [])) ≡ tree.push (plains (from_list ts)) (plain t)
plains_push [] t = refl
plains_push (u ∷ ts) t = ap (λ us. tree.more (plain u) us) (plains_push ts t)

-- the weight and the depth of a list of trees
pub weights_from_list : (ts : List Tree) → weights (tree.from_list ts) ≡ sum_by weight ts
weights_from_list [] = refl
weights_from_list (t ∷ ts) = ap (λ n. weight t + n) (weights_from_list ts) ∙ sym (sum_by-cons weight t ts)

pub weights_push : (ts : Trees) (t : Tree) → weights (tree.push ts t) ≡ weights ts + weight t
weights_push tree.none t = omega arith
weights_push (tree.more u ts) t = omega (arith, weights_push ts t)

pub depths_push : (ts : Trees) (t : Tree) → depths (tree.push ts t) ≡ max (depths ts) (tree.depth t)
depths_push tree.none t = omega arith
depths_push (tree.more u ts) t = omega (arith, depths_push ts t)

-- equal parts make equal trees
pub equal_parts : (h k : Tree) (ts us : List Stamped) → h ≡ k → map plain ts ≡ map plain us → node h (plains (from_list ts)) ≡ node k (plains (from_list us))
equal_parts h k ts us p q = cc (plains_from_list ts, plains_from_list us)

-- a stamp on top changes nothing of the plain tree
pub plain_with_stamp : (t : Stamped) (p : Stamp) → plain (with_stamp t p) ≡ plain t
plain_with_stamp (num n) p = refl
plain_with_stamp (text s) p = refl
plain_with_stamp (symbol q s) p = refl
plain_with_stamp (stamped_node q h ts) p = refl

pub plain_without_stamp : (t : Stamped) → plain (without_stamp t) ≡ plain t
plain_without_stamp (num n) = refl
plain_without_stamp (text s) = refl
plain_without_stamp (symbol q s) = refl
plain_without_stamp (stamped_node q h ts) = refl
