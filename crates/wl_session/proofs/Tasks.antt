-- What is evaluated of a cell.
use Rattle.std.proofs.Common.{◌≡◌, ◌≤◌, ◌<◌, ◌-◌, ◌⊎◌, ℕ, zero, suc, Bool, true, false, ◌&&◌, nat_lt, bytes_eq, List, [], ◌∷◌, None, length, map, take, refl, sym, ap, ◌∙◌, arith, codes}
use Rattle.std.proofs.lemmas.Bool.{and_parts}
use Rattle.std.proofs.lemmas.Bool.Decides.{nat_tests}
use Rattle.std.proofs.lemmas.Grind.{common_steps}
use Rattle.std.proofs.lemmas.List.{length-map, length-take-le}
use Rattle.std.proofs.lemmas.Slice.Eq.{bytes_eq-Decides}
use Rattle.wl_expr.proofs.Parts.{plains_from_list, to_list_plains}
use Rattle.wl_expr.specs.Stamped as stamped
use Rattle.wl_expr.specs.Stamped.{Stamped, from_list, plain, plains}
use Rattle.wl_expr.specs.Tree as tree
use Rattle.wl_expr.specs.Tree.{Tree, Trees, num, text, symbol, node, to_list, weights, depths, IsWithinLimits}
use Rattle.wl_expr.specs.Words.{form, is_the}
use Rattle.wl_session.specs.Line.{Task, ends_in_null, is_silent, of_elements, task, task_by, without_last}

pub task_of : (t h : Tree) (ts : List Stamped) (b : Bool) → node h (plains (from_list ts)) ≡ t → b ≡ is_silent h (map plain ts) → task t ≡ task_by b t (map plain ts)
task_of t h ts b is silent =
    ap task (sym is) ∙ ap (λ (us : List Tree). task_by (is_silent h us) (node h (plains (from_list ts))) us) (to_list_plains ts)
    ∙ ap (λ (c : Bool). task_by c (node h (plains (from_list ts))) (map plain ts)) (sym silent) ∙ ap (λ (u : Tree). task_by b u (map plain ts)) is

is_the_symbol : (x : List ℕ) (t : Tree) → is_the x t ≡ true → symbol x ≡ t
is_the_symbol x (num n) e = cc
is_the_symbol x (text s) e = cc
is_the_symbol x (symbol y) e = ap symbol ((bytes_eq-Decides x y).0 e)
is_the_symbol x (node h ts) e = cc

-- what a silent task has
pub silent_head : (h : Tree) (ts : List Tree) → is_silent h ts ≡ true → h ≡ symbol (codes "CompoundExpression")
silent_head h ts e = sym (is_the_symbol _ h (and_parts _ (ends_in_null ts) e).0)

pub silent_many : (h : Tree) (ts : List Stamped) → is_silent h (map plain ts) ≡ true → 1 < length ts
silent_many h ts e =
    let two = (and_parts (nat_lt 1 (length (map plain ts))) _ (and_parts (is_the (codes "CompoundExpression") h) (ends_in_null (map plain ts)) e).1).0 in
    let many : 1 < length (map plain ts) = grind (arith, nat_tests) in
    omega (arith, length-map ts plain)

of_many : (ts : List Tree) → 1 < length ts → of_elements ts ≡ form (codes "CompoundExpression") ts
of_many [] h = refl
of_many (t ∷ []) h = absurd (omega arith)
of_many (t ∷ u ∷ us) h = refl

map_take : (n : ℕ) (ts : List Stamped) → map plain (take n ts) ≡ take n (map plain ts)
map_take zero ts = refl
map_take (suc n) [] = refl
map_take (suc n) (t ∷ ts) = ap (λ (us : List Tree). plain t ∷ us) (map_take n ts)

pub front_node : (h : Stamped) (ts : List Stamped) → plain h ≡ symbol (codes "CompoundExpression") → 2 < length ts → plain (stamped.node None h (from_list (take (length ts - 1) ts))) ≡ without_last (map plain ts)
front_node h ts is many =
    let k = length ts - 1 in
    let same : length (map plain ts) - 1 ≡ k = ap (λ (n : ℕ). n - 1) (length-map ts plain) in
    let fewer : 1 < length (take k (map plain ts)) = omega (arith, length-take-le k (map plain ts) (omega (arith, length-map ts plain))) in
    ap (λ (f : Tree). node f (plains (from_list (take k ts)))) is ∙ ap (λ (us : Trees). node (symbol (codes "CompoundExpression")) us) (plains_from_list (take k ts) ∙ ap tree.from_list (map_take k ts))
    ∙ sym (of_many (take k (map plain ts)) fewer) ∙ ap (λ (n : ℕ). of_elements (take n (map plain ts))) (sym same)

front_light : (n : ℕ) (ts : List Stamped) → weights (plains (from_list (take n ts))) ≤ weights (plains (from_list ts))
front_light zero ts = omega arith
front_light (suc n) [] = omega arith
front_light (suc n) (t ∷ ts) = omega (arith, front_light n ts)

front_shallow : (n : ℕ) (ts : List Stamped) → depths (plains (from_list (take n ts))) ≤ depths (plains (from_list ts))
front_shallow zero ts = omega arith
front_shallow (suc n) [] = omega arith
front_shallow (suc n) (t ∷ ts) = omega (arith, front_shallow n ts)

-- fewer elements are within the limits too
pub front_fits : (h : Tree) (n : ℕ) (ts : List Stamped) → IsWithinLimits (node h (plains (from_list ts))) → IsWithinLimits (node h (plains (from_list (take n ts))))
front_fits h n ts fits = record { light = omega (arith, front_light n ts, fits.light); shallow = omega (arith, front_shallow n ts, fits.shallow) }
