-- Do and Table before their first question: the iterator that a list is, and the row.
use Rattle.std.proofs.Common.{◌≡◌, Bool, true, List, [], ◌∷◌, Option, Some, None, IfSome, refl, ap, sym, subst, ◌∙◌}
use Rattle.std.specs.Prelude.{codes, if◌then◌else◌}
use Rattle.wl_expr.proofs.Parts.{plains_from_list}
use Rattle.wl_expr.specs.Stamped.{Stamped, plain, plains, from_list}
use Rattle.wl_expr.specs.Tree as tree
use Rattle.wl_expr.specs.Tree.{Tree, to_list, to_list_from_list}
use Rattle.wl_expr.specs.Passed.{IsFrom}
use Rattle.wl_expr.specs.Words.{is_the}
use Rattle.wl_control.specs.Iterators.{Iterator, iterator, iterator_of, iterate, bounds, table_row}
use Rattle.wl_control.specs.Places.{AllFrom, iterated_row, span_asks, trees}
use Rattle.wl_control.specs.declared.place.Iteration.{Iteration}

pub list_iterator : (h : Stamped) (ts : List Stamped) (t : Tree) → tree.node (plain h) (plains (from_list ts)) ≡ t → is_the (codes "List") (plain h) ≡ true
    → iterator_of (trees ts) ≡ iterator t
list_iterator h ts t e l =
    let same : trees ts ≡ to_list (plains (from_list ts)) = sym (ap to_list (plains_from_list ts) ∙ to_list_from_list (trees ts)) in
    ap iterator_of same
    ∙ sym (ap (λ (b : Bool). if b then iterator_of (to_list (plains (from_list ts))) else None) l)
    ∙ ap iterator e

pub iterates : (o : Option (List Stamped)) (xs ys zs bs ks rs : List Stamped) (e d : Stamped) (n : Bool) → xs ≡ e ∷ ys → ys ≡ d ∷ zs
    → Some (record { named = n; bounds = trees rs }) ≡ iterator (plain d) → bs ≡ e ∷ zs → ks ≡ []
    → bounds (trees ks) (trees rs) (span_asks n (trees bs) o) ≡ iterated_row o (trees xs)
iterates o xs ys zs bs ks rs e d n p q i b k =
    ap (λ (ks : List Stamped). bounds (trees ks) (trees rs) (span_asks n (trees bs) o)) k
    ∙ ap (λ (bs : List Stamped). bounds [] (trees rs) (span_asks n (trees bs) o)) b
    ∙ ap (λ (w : Option Iterator). iterate w (λ named s. span_asks named (trees (e ∷ zs)) o s)) i
    ∙ sym (ap (λ (xs : List Stamped). iterated_row o (trees xs)) (p ∙ ap (λ (ys : List Stamped). e ∷ ys) q))

-- ---- stamps are passed on

pub iteration_from : (ms : List Stamped) (o : Option Iteration) (i : Iteration) (d : Stamped) → o ≡ Some i
    → IfSome o (λ i. (ms : List Stamped) → IsFrom ms d → AllFrom ms i.bounds.items) → IsFrom ms d → AllFrom ms i.bounds.items
iteration_from ms o i d e h f = subst (λ (o : Option Iteration). IfSome o (λ i. (ms : List Stamped) → IsFrom ms d → AllFrom ms i.bounds.items)) e h ms f

pub table_rows : (es : List Tree) → iterated_row (Some []) es ≡ table_row es
table_rows [] = refl
table_rows (e ∷ []) = refl
table_rows (e ∷ it ∷ its) = refl
