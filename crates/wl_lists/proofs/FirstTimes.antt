-- Expressions that are met for the first time.
use Rattle.std.proofs.Common.{◌≡◌, Bool, true, false, ◌||◌, not, List, [], ◌∷◌, ◌++◌, refl, sym, ◌∙◌, ap}
use Rattle.std.specs.List.{list_any}
use Rattle.std.specs.Prelude.{if◌then◌else◌}
use Rattle.indexmap.specs.IndexSet.{insert_key}
use Rattle.wl_expr.specs.Same.{first_of_each, is_among}
use Rattle.wl_expr.specs.Stamped.{Stamped, plain}
use Rattle.wl_expr.specs.Tree.{Tree}
use Rattle.wl_lists.specs.Alike.{alike}
use Rattle.wl_lists.specs.Answers.{trees}

among : (e : Stamped) (ks : List Stamped) → list_any (alike e) ks ≡ is_among (plain e) (trees ks)
among e [] = refl
among e (k ∷ ks) = ap (λ b. alike e k || b) (among e ks)

trees_push : (ks : List Stamped) (e : Stamped) → trees (ks ++ e ∷ []) ≡ trees ks ++ plain e ∷ []
trees_push [] e = refl
trees_push (k ∷ ks) e = ap (λ ts. plain k ∷ ts) (trees_push ks e)

not_true : (b : Bool) → true ≡ not b → b ≡ false
not_true true e = cc
not_true false e = refl

not_false : (b : Bool) → false ≡ not b → b ≡ true
not_false true e = refl
not_false false e = cc

pub met_already : (e : Stamped) (ks : List Stamped) (ts : List Tree) → false ≡ not (list_any (alike e) ks) → first_of_each (trees ks) (plain e ∷ ts) ≡ first_of_each (trees ks) ts
met_already e ks ts h =
    let t : is_among (plain e) (trees ks) ≡ true = sym (among e ks) ∙ not_false (list_any (alike e) ks) h in
    ap (λ (b : Bool). elim b [ true ↦ first_of_each (trees ks) ts | false ↦ first_of_each (trees ks ++ plain e ∷ []) ts ]) t

pub met_newly : (e : Stamped) (ks : List Stamped) (ts : List Tree) → true ≡ not (list_any (alike e) ks) → first_of_each (trees ks) (plain e ∷ ts) ≡ first_of_each (trees (ks ++ e ∷ [])) ts
met_newly e ks ts h =
    let f : is_among (plain e) (trees ks) ≡ false = sym (among e ks) ∙ not_true (list_any (alike e) ks) h in
    ap (λ (b : Bool). elim b [ true ↦ first_of_each (trees ks) ts | false ↦ first_of_each (trees ks ++ plain e ∷ []) ts ]) f ∙ ap (λ us. first_of_each us ts) (sym (trees_push ks e))

pub keys_stay : (e : Stamped) (ks : List Stamped) → false ≡ not (list_any (alike e) ks) → insert_key alike ks e ≡ ks
keys_stay e ks h = ap (λ (b : Bool). if b then ks else ks ++ e ∷ []) (not_false (list_any (alike e) ks) h)

pub keys_grow : (e : Stamped) (ks : List Stamped) → true ≡ not (list_any (alike e) ks) → insert_key alike ks e ≡ ks ++ e ∷ []
keys_grow e ks h = ap (λ (b : Bool). if b then ks else ks ++ e ∷ []) (not_true (list_any (alike e) ks) h)
