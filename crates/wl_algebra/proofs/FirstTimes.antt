-- Expressions that are met for the first time.
use Rattle.std.proofs.Common.{◌≡◌, Bool, true, false, ◌||◌, ◌&&◌, not, List, [], ◌∷◌, ◌++◌, refl, sym, ◌∙◌, ap}
use Rattle.std.specs.List.{list_any}
use Rattle.std.specs.Prelude.{if◌then◌else◌}
use Rattle.indexmap.specs.IndexSet.{insert_key}
use Rattle.wl_expr.specs.Same.{is_among}
use Rattle.wl_expr.specs.Stamped.{Stamped, plain}
use Rattle.wl_expr.specs.Tree.{Tree}
use Rattle.wl_algebra.specs.Alike.{alike}
use Rattle.wl_algebra.specs.Answers.{trees}
use Rattle.wl_algebra.specs.Comparisons.{all_new}

among : (e : Stamped) (ks : List Stamped) → list_any (alike e) ks ≡ is_among (plain e) (trees ks)
among e [] = refl
among e (k ∷ ks) = ap (λ b. alike e k || b) (among e ks)

trees_push : (ks : List Stamped) (e : Stamped) → trees (ks ++ e ∷ []) ≡ trees ks ++ plain e ∷ []
trees_push [] e = refl
trees_push (k ∷ ks) e = ap (λ ts. plain k ∷ ts) (trees_push ks e)

not_true : (b : Bool) → true ≡ not b → b ≡ false
not_true true e = cc
not_true false e = refl

not_false : (b : Bool) → false ≡ not b → b ≡ true
not_false true e = refl
not_false false e = cc

pub met_already : (e : Stamped) (ks : List Stamped) (ts : List Tree) → false ≡ not (list_any (alike e) ks) → false ≡ all_new (trees ks) (plain e ∷ ts)
met_already e ks ts h =
    let t : is_among (plain e) (trees ks) ≡ true = sym (among e ks) ∙ not_false (list_any (alike e) ks) h in
    ap (λ b. not b && all_new (trees ks ++ plain e ∷ []) ts) (sym t)

pub met_newly : (e : Stamped) (ks ls : List Stamped) (ts : List Tree) → true ≡ not (list_any (alike e) ks) → ls ≡ insert_key alike ks e → all_new (trees ks) (plain e ∷ ts) ≡ all_new (trees ls) ts
met_newly e ks ls ts h p =
    let n : list_any (alike e) ks ≡ false = not_true (list_any (alike e) ks) h in
    let f : is_among (plain e) (trees ks) ≡ false = sym (among e ks) ∙ n in
    let q : ls ≡ ks ++ e ∷ [] = p ∙ ap (λ (b : Bool). if b then ks else ks ++ e ∷ []) n in
    ap (λ b. not b && all_new (trees ks ++ plain e ∷ []) ts) f ∙ ap (λ us. all_new us ts) (sym (ap trees q ∙ trees_push ks e))
