-- What is collected, with one value more, and its weight.
use Rattle.std.proofs.Common.{◌≡◌, ℕ, ◌+◌, ◌≤◌, List, [], ◌∷◌, ◌++◌, refl, sym, ap, ◌∙◌, arith}
use Rattle.wl_expr.specs.Stamped.{Stamped, plain}
use Rattle.wl_expr.specs.Tree.{Tree, weight}
use Rattle.wl_control.specs.Collected.{total_weight, IsWeighed}
use Rattle.wl_control.specs.Places.{trees}

pub total_weight-push : (ts : List Tree) (t : Tree) → total_weight (ts ++ t ∷ []) ≡ total_weight ts + weight t
total_weight-push [] t = omega arith
total_weight-push (u ∷ ts) t = omega (arith, total_weight-push ts t)

pub trees-push : (es : List Stamped) (e : Stamped) → trees (es ++ e ∷ []) ≡ trees es ++ plain e ∷ []
trees-push [] e = refl
trees-push (x ∷ es) e = ap (λ ts. plain x ∷ ts) (trees-push es e)

pub trees_of_push : (es fs gs : List Stamped) (e f : Stamped) → es ≡ gs → f ≡ e → fs ≡ es ++ f ∷ [] → trees fs ≡ trees gs ++ plain e ∷ []
trees_of_push es fs gs e f p a q =
    ap trees (q ∙ ap (λ (xs : List Stamped). xs ++ f ∷ []) p ∙ ap (λ (x : Stamped). gs ++ x ∷ []) a) ∙ trees-push gs e

-- the weight that is kept, and that with one value more
pub weighed_sum : (w v : ℕ) (es gs : List Stamped) (e : Stamped) → IsWeighed w es → es ≡ gs → v ≡ weight (plain e) → w + v ≡ total_weight (trees gs ++ plain e ∷ [])
weighed_sum w v es gs e h p q =
    let u = total_weight-push (trees gs) (plain e) in
    let t = ap (λ (xs : List Stamped). total_weight (trees xs)) p in
    let s = h.sum in
    omega arith

pub weighed_more : (w v : ℕ) (es fs : List Stamped) (e f : Stamped) → IsWeighed w es → v ≡ weight (plain e) → w + v ≤ 4000000 → f ≡ e → fs ≡ es ++ f ∷ [] → IsWeighed (w + v) fs
weighed_more w v es fs e f h q l a p =
    record {
      sum = weighed_sum w v es es e h refl q ∙ sym (ap total_weight (trees_of_push es fs es e f refl a p));
      light = l;
    }
