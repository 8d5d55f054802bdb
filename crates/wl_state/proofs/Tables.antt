-- Which row a name has: the tables of names differ.
use Rattle.std.proofs.Common.{◌≡◌, Bool, true, false, List, [], ◌∷◌, Option, Some, None, option_map, refl, sym, ap, ◌∙◌, true≢false}
use Rattle.std.proofs.lemmas.Slice.Eq.{bytes_eq-Decides}
use Rattle.std.specs.List.{list_all}
use Rattle.std.specs.Prelude.{if◌then◌else◌, ◌&&◌, is_none, bytes_eq}
use Rattle.wl_algebra.specs.Table as algebra
use Rattle.wl_control.specs.Table as control
use Rattle.wl_expr.specs.Applied.{Applied, unchanged, gives, noticed, told}
use Rattle.wl_expr.specs.Tree.{Tree}
use Rattle.wl_expr.specs.Words.{Name}
use Rattle.wl_lists.specs.Table as lists
use Rattle.wl_semantics.specs.Prog.{done}
use Rattle.wl_semantics.specs.Control.{control_row, iterated, iterator_name}
use Rattle.wl_semantics.specs.BuiltIn.{Row, row_in, definition_rows, entry_rows, match_rows, scope_rows, end_rows, message_rows, special_row, row_by, row}
use Rattle.wl_state.specs.Kinds.{begins_capital, row_of, defining_row_of, other_row_of}
use Rattle.wl_semantics.specs.PureRows.{applied_by, or_lists, pure_row}

-- ---- one table after the other

abbrev pub or_row : Option Row → Option Row → Option Row
or_row None o = o
or_row (Some f) o = Some f

or_row-assoc : (a b c : Option Row) → or_row a (or_row b c) ≡ or_row (or_row a b) c
or_row-assoc None b c = refl
or_row-assoc (Some f) b c = refl

row_in-else : (x : Name) (rs : List (Name × Row)) (o : Option Row) → row_in x rs o ≡ or_row (row_in x rs None) o
row_in-else x [] o = refl
row_in-else x (r ∷ rs) o = go (bytes_eq x r.0) (row_in-else x rs o)
  where
    go : (b : Bool) → row_in x rs o ≡ or_row (row_in x rs None) o → elim b [ true ↦ Some r.1 | false ↦ row_in x rs o ] ≡ or_row (elim b [ true ↦ Some r.1 | false ↦ row_in x rs None ]) o
    go true e = refl
    go false e = e

-- two tables, and what else there is
two_tables : (x : Name) (rs qs : List (Name × Row)) (o : Option Row) → row_in x rs (row_in x qs o) ≡ or_row (row_in x rs (row_in x qs None)) o
two_tables x rs qs o =
    row_in-else x rs (row_in x qs o) ∙ ap (or_row (row_in x rs None)) (row_in-else x qs o) ∙ or_row-assoc (row_in x rs None) (row_in x qs None) o
    ∙ ap (λ z. or_row z o) (sym (row_in-else x rs (row_in x qs None)))

pub row_of-is : (x : Name) → row_of x ≡ or_row (defining_row_of x) (other_row_of x)
row_of-is x = two_tables x definition_rows entry_rows (other_row_of x)

other_else : (x : Name) (o : Option Row) → row_in x match_rows (row_in x scope_rows (row_in x end_rows (row_in x message_rows o))) ≡ or_row (other_row_of x) o
other_else x o =
    two_tables x match_rows scope_rows (row_in x end_rows (row_in x message_rows o))
    ∙ ap (or_row (row_in x match_rows (row_in x scope_rows None))) (two_tables x end_rows message_rows o)
    ∙ or_row-assoc (row_in x match_rows (row_in x scope_rows None)) (row_in x end_rows (row_in x message_rows None)) o
    ∙ ap (λ z. or_row z o) (sym (two_tables x match_rows scope_rows (row_in x end_rows (row_in x message_rows None))))

special-is : (x : Name) → special_row x ≡ or_row (row_of x) (control_row x)
special-is x =
    two_tables x definition_rows entry_rows (row_in x match_rows (row_in x scope_rows (row_in x end_rows (row_in x message_rows (control_row x)))))
    ∙ ap (or_row (defining_row_of x)) (other_else x (control_row x)) ∙ or_row-assoc (defining_row_of x) (other_row_of x) (control_row x)
    ∙ ap (λ z. or_row z (control_row x)) (sym (row_of-is x))

-- what is mapped to nothing is nothing
pub none_mapped : {A B : Type 0} (f : A → B) (o : Option A) → option_map f o ≡ None → o ≡ None
none_mapped f None h = refl
none_mapped f (Some a) h = absurd (let w : Some (f a) ≡ None = h in cc)

-- ---- names

is_none_so : {A : Type 0} (o : Option A) → is_none o ≡ true → o ≡ None
is_none_so None h = refl
is_none_so (Some a) h = absurd (true≢false (sym h))

pub both_true : (a b : Bool) → (a && b) ≡ true → (a ≡ true) × (b ≡ true)
both_true true b h = (refl, h)
both_true false b h = absurd (true≢false (sym h))

-- what is tested of each name of a table is so of a name that it has
at_algebra : (t : Name → Bool) (rs : List (Name × algebra.Row)) (x : Name) (f : algebra.Row) → list_all (λ r. t r.0) rs ≡ true → Some f ≡ algebra.row_in x rs → t x ≡ true
at_algebra t [] x f h e = absurd (let w : Some f ≡ None = e in cc)
at_algebra t (r ∷ rs) x f h e = go (bytes_eq x r.0) refl e (both_true (t r.0) (list_all (λ q. t q.0) rs) h) (at_algebra t rs x f)
  where
    go : (b : Bool) → bytes_eq x r.0 ≡ b → Some f ≡ (if b then Some r.1 else algebra.row_in x rs) → (t r.0 ≡ true) × (list_all (λ q. t q.0) rs ≡ true)
        → (list_all (λ q. t q.0) rs ≡ true → Some f ≡ algebra.row_in x rs → t x ≡ true) → t x ≡ true
    go true q e h m = ap t ((bytes_eq-Decides x r.0).0 q) ∙ h.0
    go false q e h m = m h.1 e

at_lists : (t : Name → Bool) (rs : List (Name × lists.Row)) (x : Name) (f : lists.Row) → list_all (λ r. t r.0) rs ≡ true → Some f ≡ lists.row_in x rs → t x ≡ true
at_lists t [] x f h e = absurd (let w : Some f ≡ None = e in cc)
at_lists t (r ∷ rs) x f h e = go (bytes_eq x r.0) refl e (both_true (t r.0) (list_all (λ q. t q.0) rs) h) (at_lists t rs x f)
  where
    go : (b : Bool) → bytes_eq x r.0 ≡ b → Some f ≡ (if b then Some r.1 else lists.row_in x rs) → (t r.0 ≡ true) × (list_all (λ q. t q.0) rs ≡ true)
        → (list_all (λ q. t q.0) rs ≡ true → Some f ≡ lists.row_in x rs → t x ≡ true) → t x ≡ true
    go true q e h m = ap t ((bytes_eq-Decides x r.0).0 q) ∙ h.0
    go false q e h m = m h.1 e

-- a name of arithmetic has no other row, and one of lists none that evaluates
abbrev no_special : Name → Bool
no_special x = is_none (special_row x)

abbrev no_other : Name → Bool
no_other x = is_none (special_row x) && is_none (lists.row_of x)

algebra_names : list_all (λ r. no_other r.0) algebra.rows ≡ true
algebra_names = refl

lists_names : list_all (λ r. no_special r.0) lists.rows ≡ true
lists_names = refl

-- ---- rows

or_lists-none : (a : Applied) (x : Name) (es : List Tree) → lists.row_of x ≡ None → or_lists a x es ≡ a
or_lists-none unchanged x es h = ap (λ o. lists.by_row o es) h
or_lists-none (gives t) x es h = refl
or_lists-none (noticed n t) x es h = refl
or_lists-none (told n) x es h = refl

row_pure : (x : Name) (es : List Tree) → special_row x ≡ None → row x es ≡ pure_row x es
unfolding row
row_pure x es h = ap (λ o. row_by o x es) h

pub row_algebra : (x : Name) (es : List Tree) (f : algebra.Row) → Some f ≡ algebra.row_of x → row x es ≡ applied_by (f es)
row_algebra x es f e =
    let n = both_true (is_none (special_row x)) (is_none (lists.row_of x)) (at_algebra no_other algebra.rows x f algebra_names e) in
    row_pure x es (is_none_so (special_row x) n.0) ∙ ap (λ o. applied_by (or_lists (algebra.by_row o es) x es)) (sym e) ∙ ap applied_by (or_lists-none (f es) x es (is_none_so (lists.row_of x) n.1))

pub row_lists : (x : Name) (es : List Tree) (f : lists.Row) → algebra.row_of x ≡ None → Some f ≡ lists.row_of x → row x es ≡ applied_by (f es)
row_lists x es f a e =
    row_pure x es (is_none_so (special_row x) (at_lists no_special lists.rows x f lists_names e)) ∙ ap (λ o. applied_by (or_lists (algebra.by_row o es) x es)) a ∙ ap (λ o. applied_by (lists.by_row o es)) (sym e)

pub row_special : (x : Name) (es : List Tree) (f : Row) → Some f ≡ row_of x → row x es ≡ f es
unfolding row
row_special x es f e = ap (λ o. row_by o x es) (special-is x ∙ ap (λ o. or_row o (control_row x)) (sym e))

pub row_none : (x : Name) (es : List Tree) → algebra.row_of x ≡ None → lists.row_of x ≡ None → row_of x ≡ None → control.row_of x ≡ None → row x es ≡ done None
row_none x es a l o c =
    let n : control_row x ≡ None = ap (λ z. elim z [ None ↦ None | Some f ↦ Some (λ ts. iterated (iterator_name x ts) (f ts)) ]) c in
    row_pure x es (special-is x ∙ ap (λ z. or_row z (control_row x)) o ∙ n) ∙ ap (λ z. applied_by (or_lists (algebra.by_row z es) x es)) a ∙ ap (λ z. applied_by (lists.by_row z es)) l

-- ---- a name that begins otherwise

at_special : (t : Name → Bool) (rs : List (Name × Row)) (x : Name) (o : Option Row) → list_all (λ r. t r.0) rs ≡ true → t x ≡ false → row_in x rs o ≡ o
at_special t [] x o h n = refl
at_special t (r ∷ rs) x o h n = go (bytes_eq x r.0) refl (both_true (t r.0) (list_all (λ q. t q.0) rs) h) (at_special t rs x o)
  where
    go : (b : Bool) → bytes_eq x r.0 ≡ b → (t r.0 ≡ true) × (list_all (λ q. t q.0) rs ≡ true) → (list_all (λ q. t q.0) rs ≡ true → t x ≡ false → row_in x rs o ≡ o)
        → elim b [ true ↦ Some r.1 | false ↦ row_in x rs o ] ≡ o
    go true q h m = absurd (true≢false (sym (ap t ((bytes_eq-Decides x r.0).0 q) ∙ h.0) ∙ n))
    go false q h m = m h.1 n

at_control : (t : Name → Bool) (rs : List (Name × control.Row)) (x : Name) → list_all (λ r. t r.0) rs ≡ true → t x ≡ false → control.row_in x rs ≡ None
at_control t [] x h n = refl
at_control t (r ∷ rs) x h n = go (bytes_eq x r.0) refl (both_true (t r.0) (list_all (λ q. t q.0) rs) h) (at_control t rs x)
  where
    go : (b : Bool) → bytes_eq x r.0 ≡ b → (t r.0 ≡ true) × (list_all (λ q. t q.0) rs ≡ true) → (list_all (λ q. t q.0) rs ≡ true → t x ≡ false → control.row_in x rs ≡ None)
        → (if b then Some r.1 else control.row_in x rs) ≡ None
    go true q h m = absurd (true≢false (sym (ap t ((bytes_eq-Decides x r.0).0 q) ∙ h.0) ∙ n))
    go false q h m = m h.1 n

none_if : {A : Type 0} (o : Option A) → ((a : A) → Some a ≡ o → ⊥) → o ≡ None
none_if None h = refl
none_if (Some a) h = absurd (h a refl)

pub row_otherwise : (x : Name) (es : List Tree) → begins_capital x ≡ false → row x es ≡ done None
row_otherwise x es n =
    let b : Name → Bool = begins_capital in
    row_none x es
    (none_if (algebra.row_of x) (λ f e. true≢false (sym (at_algebra b algebra.rows x f refl e) ∙ n)))
    (none_if (lists.row_of x) (λ f e. true≢false (sym (at_lists b lists.rows x f refl e) ∙ n)))
    (at_special b definition_rows x _ refl n ∙ at_special b entry_rows x _ refl n ∙ at_special b match_rows x _ refl n ∙ at_special b scope_rows x _ refl n ∙ at_special b end_rows x _ refl n
    ∙ at_special b message_rows x None refl n)
    (at_control b control.rows x refl n)

-- ---- a row of loops and branches

pub row_control : (x : Name) (es : List Tree) (f : control.Row) → row_of x ≡ None → control.row_of x ≡ Some f → row x es ≡ iterated (iterator_name x es) (f es)
unfolding row
row_control x es f o e =
    ap (λ z. row_by z x es)
    (special-is x ∙ ap (λ z. or_row z (control_row x)) o ∙ ap (λ z. elim z as (λ _. Option Row) [ None ↦ None | Some g ↦ Some (λ ts. iterated (iterator_name x ts) (g ts)) ]) e)
