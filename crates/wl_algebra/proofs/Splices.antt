-- Elements that are taken one after the other, lists among them spliced.
use Rattle.std.proofs.Common.{◌≡◌, List, [], ◌∷◌, ◌++◌, refl, sym, ◌∙◌, ap}
use Rattle.wl_exact.specs.Fraction.{Fraction}
use Rattle.wl_expr.specs.Stamped.{Stamped, plain, plains, from_list}
use Rattle.wl_expr.specs.Tree.{Tree, num, text, symbol, node}
use Rattle.wl_algebra.specs.Answers.{trees}
use Rattle.wl_algebra.specs.Extremes.{best_of, best_on}
use Rattle.wl_algebra.specs.Spliced.{spliced, spliced_in, spliced_lists}
use Rattle.wl_algebra.specs.Standings.{answer_of, with_tree, with_trees}
use Rattle.wl_algebra.specs.declared.extremes.Best.{Best}
use Rattle.wl_algebra.specs.declared.extremes.Best.TheVariants.{Nothing, Number, Other}

-- one list behind another
pub taken_on : (f : Fraction → Fraction → Fraction) (b : Best) (ts us : List Tree) → with_trees f b (ts ++ us) ≡ with_trees f (with_trees f b ts) us
taken_on f b [] us = refl
taken_on f b (t ∷ ts) us = taken_on f (with_tree f b t) ts us

other_stays : (f : Fraction → Fraction → Fraction) (ts : List Tree) → with_trees f Other ts ≡ Other
other_stays f [] = refl
other_stays f (t ∷ ts) = other_stays f ts

best_behind : (f : Fraction → Fraction → Fraction) (n : Fraction) (ts : List Tree) → answer_of (with_trees f (Number n) ts) ≡ best_on f n ts
best_behind f n [] = refl
best_behind f n (num m ∷ ts) = best_behind f (f n m) ts
best_behind f n (text s ∷ ts) = ap answer_of (other_stays f ts)
best_behind f n (symbol s ∷ ts) = ap answer_of (other_stays f ts)
best_behind f n (node h us ∷ ts) = ap answer_of (other_stays f ts)

best_of_all : (f : Fraction → Fraction → Fraction) (ts : List Tree) → answer_of (with_trees f Nothing ts) ≡ best_of f ts
best_of_all f [] = refl
best_of_all f (num m ∷ ts) = best_behind f m ts
best_of_all f (text s ∷ ts) = ap answer_of (other_stays f ts)
best_of_all f (symbol s ∷ ts) = ap answer_of (other_stays f ts)
best_of_all f (node h us ∷ ts) = ap answer_of (other_stays f ts)

spliced_elements : (ts : List Stamped) → spliced_in (plains (from_list ts)) ≡ spliced_lists (trees ts)
spliced_elements [] = refl
spliced_elements (t ∷ ts) = ap (λ us. spliced (plain t) ++ us) (spliced_elements ts)

pub best_answers : (f : Fraction → Fraction → Fraction) (ts : List Stamped) (b : Best) → b ≡ with_trees f Nothing (spliced_in (plains (from_list ts))) → best_of f (spliced_lists (trees ts)) ≡ answer_of b
best_answers f ts b e = sym (best_of_all f (spliced_lists (trees ts))) ∙ ap (λ us. answer_of (with_trees f Nothing us)) (sym (spliced_elements ts)) ∙ ap answer_of (sym e)
