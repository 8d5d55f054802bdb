-- Stamps that are handed on, at the front and at the end of a list; and the trees of a list.
use Rattle.std.proofs.Common.{◌≡◌, List, [], ◌∷◌, ◌++◌, Option, Result, Some, refl, ap, ◌∙◌, subst, sym, arith}
use Rattle.std.proofs.lemmas.List.Elements.{All-cons, All-head, All-tail, All-push}
use Rattle.wl_expr.proofs.Parts.{plains_from_list}
use Rattle.wl_expr.specs.Passed.{IsFrom}
use Rattle.wl_expr.specs.Stamped.{Stamped, plain, plains, from_list}
use Rattle.wl_expr.specs.Tree as tree
use Rattle.wl_expr.specs.Tree.{Tree, to_list, to_list_from_list}
use Rattle.wl_expr.specs.Words.{head_of}
use Rattle.wl_expr.specs.declared.fault.ExprFault.{ExprFault}
use Rattle.wl_control.specs.Asks.{eval}
use Rattle.wl_control.specs.Families.{elements_of, over, select_from}
use Rattle.wl_control.specs.Places.{AllFrom, IsAnswer, junction_by, joined_by, trees}
use Rattle.wl_control.specs.declared.place.Connective.{Connective}
use Rattle.wl_control.specs.declared.place.Connective.TheVariants.{And, Or}
use Rattle.wl_control.specs.declared.place.Step.{Step}

-- the first of some elements and the rest
pub front_from : (ms : List Stamped) (xs ys : List Stamped) (x : Stamped) → xs ≡ x ∷ ys → AllFrom ms xs → IsFrom ms x × AllFrom ms ys
front_from ms xs ys x e h =
    let all : AllFrom ms (x ∷ ys) = subst (AllFrom ms) e h in
    (All-head (IsFrom ms) x ys all, All-tail (IsFrom ms) x ys all)

-- one more in front, and none
pub cons_from : (ms : List Stamped) (xs ys : List Stamped) (x : Stamped) → xs ≡ x ∷ ys → IsFrom ms x → AllFrom ms ys → AllFrom ms xs
cons_from ms xs ys x e here h = subst (AllFrom ms) (sym e) (All-cons (IsFrom ms) x ys here h)

pub none_from : (ms : List Stamped) (xs : List Stamped) → xs ≡ [] → AllFrom ms xs
none_from ms xs e = subst (AllFrom ms) (sym e) (λ k d l. absurd (omega arith))

-- one more at the end
pub push_from : (ms : List Stamped) (xs ys : List Stamped) (x : Stamped) → ys ≡ xs ++ x ∷ [] → AllFrom ms xs → IsFrom ms x → AllFrom ms ys
push_from ms xs ys x e h here = subst (AllFrom ms) (sym e) (All-push (IsFrom ms) xs x h here)

-- ---- the element that And and Or come to

element_of : (k : Connective) (left es : List Tree) (e : Tree) → junction_by k left (e ∷ es) ≡ eval e (λ v. joined_by k left es v)
element_of And left es e = refl
element_of Or left es e = refl

pub element_asked : (k : Connective) (left : List Tree) (xs ys : List Stamped) (x : Stamped) (r : Result Step ExprFault) → xs ≡ x ∷ ys
    → IsAnswer (eval (plain x) (λ v. joined_by k left (trees ys) v)) r → IsAnswer (junction_by k left (trees xs)) r
element_asked k left xs ys x r e h = subst (λ a. IsAnswer a r) (sym (ap (λ zs. junction_by k left (trees zs)) e ∙ element_of k left (trees ys) (plain x))) h

-- the trees of what a node has as elements
pub elements_shared : (h : Stamped) (ts qs : List Stamped) (t : Tree) → tree.node (plain h) (plains (from_list ts)) ≡ t → qs ≡ ts → Some (trees qs) ≡ elements_of t
elements_shared h ts qs t e q =
    let same : to_list (plains (from_list ts)) ≡ trees ts = ap to_list (plains_from_list ts) ∙ to_list_from_list (trees ts) in
    ap (λ xs. Some (trees xs)) q ∙ ap Some (sym same) ∙ ap elements_of e

-- the elements that are selected from
pub elements_selected : (h g : Stamped) (ts qs ns : List Stamped) (t u : Tree) → tree.node (plain h) (plains (from_list ts)) ≡ t → g ≡ h → ns ≡ [] → qs ≡ ts
    → select_from (plain g) u (trees ns) (trees qs) ≡ over (elements_of t) (select_from (head_of t) u [])
elements_selected h g ts qs ns t u e p n q =
    let elements : Some (trees qs) ≡ elements_of t = elements_shared h ts qs t e q in
    let head : plain g ≡ head_of t = ap plain p ∙ ap head_of e in
    ap (λ (xs : List Stamped). select_from (plain g) u (trees xs) (trees qs)) n
    ∙ ap (λ (o : Option (List Tree)). over o (select_from (plain g) u [])) elements
    ∙ ap (λ (y : Tree). over (elements_of t) (select_from y u [])) head
