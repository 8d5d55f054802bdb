-- Terms that are collected by their rests.
use Rattle.std.proofs.Common.{◌≡◌, Bool, true, false, cond, List, [], ◌∷◌, Option, Some, None, Result, Ok, Err, refl, sym, ◌∙◌, ap}
use Rattle.std.proofs.lemmas.List.Elements.{All-nil, All-cons, All-head, All-tail}
use Rattle.std.specs.Map.{lookup}
use Rattle.std.specs.Prelude.{if◌then◌else◌}
use Rattle.indexmap.specs.IndexMap.{insert_entry}
use Rattle.wl_exact.specs.Arithmetic.{checked_sum}
use Rattle.wl_exact.specs.Fraction.{Fraction}
use Rattle.wl_exact.specs.declared.num.NumFault.{NumFault}
use Rattle.wl_expr.specs.Passed.{IsFrom}
use Rattle.wl_expr.specs.Stamped.{Stamped, plain}
use Rattle.wl_expr.specs.Tree.{Tree, num, text, symbol, node}
use Rattle.wl_algebra.specs.Alike.{alike}
use Rattle.wl_algebra.specs.Answers.{number_of}
use Rattle.wl_algebra.specs.Sums.{Term, Sum, added, collected, joined_term, term_of, with_element, with_term, with_terms}
use Rattle.wl_algebra.specs.SumsInside.{Entry, EntriesFrom, EntryIsFrom, entry_term, entry_terms, sum_with}

abbrev given : Fraction → Stamped → Term
given c k = record { coefficient = c; rest = plain k }

abbrev joined_by : List Entry → Stamped → Option Fraction → Option (List Term)
joined_by es k None = None
joined_by es k (Some d) = Some (entry_terms (insert_entry alike es k d))

abbrev by_entry : Bool → Entry → List Entry → Stamped → Option Fraction → Option (List Term)
by_entry b e es k None = None
by_entry b e es k (Some d) = Some (entry_terms (if b then (e.0, d) ∷ es else e ∷ insert_entry alike es k d))

entry_first : (e : Entry) (es : List Entry) (k : Stamped) (o : Option Fraction) → by_entry (alike k e.0) e es k o ≡ joined_by (e ∷ es) k o
entry_first e es k None = refl
entry_first e es k (Some d) = refl

summed : (e : Entry) (es : List Entry) (k : Stamped) (r : Result Fraction NumFault)
    → (elim r [ Ok d ↦ Some (record (entry_term e) { coefficient = d } ∷ entry_terms es) | Err f ↦ None ]) ≡ by_entry true e es k (elim r [ Ok d ↦ Some d | Err f ↦ None ])
summed e es k (Ok d) = refl
summed e es k (Err f) = refl

passed_by : (e : Entry) (es : List Entry) (k : Stamped) (o : Option Fraction) → with_term (entry_term e) (joined_by es k o) ≡ by_entry false e es k o
passed_by e es k None = refl
passed_by e es k (Some d) = refl

at_entry : (b : Bool) (c : Fraction) (e : Entry) (es : List Entry) (k : Stamped) → joined_term (given c k) (entry_terms es) ≡ joined_by es k (sum_with (lookup (alike k) es) c)
    → (elim b [ true ↦ added c (entry_term e) (entry_terms es) | false ↦ with_term (entry_term e) (joined_term (given c k) (entry_terms es)) ])
    ≡ by_entry b e es k (sum_with (cond b (Some e.1) (lookup (alike k) es)) c)
at_entry true c e es k h = summed e es k (checked_sum e.1 c)
at_entry false c e es k h = ap (with_term (entry_term e)) h ∙ passed_by e es k (sum_with (lookup (alike k) es) c)

joined_terms : (c : Fraction) (k : Stamped) (es : List Entry) → joined_term (given c k) (entry_terms es) ≡ joined_by es k (sum_with (lookup (alike k) es) c)
joined_terms c k [] = refl
joined_terms c k (e ∷ es) =
    at_entry (alike k e.0) c e es k (joined_terms c k es) ∙ entry_first e es k (sum_with (cond (alike k e.0) (Some e.1) (lookup (alike k) es)) c)

-- a term that joins, and one whose coefficient overflows
pub term_joins : (c d : Fraction) (k : Stamped) (es fs : List Entry) → Some d ≡ sum_with (lookup (alike k) es) c → fs ≡ insert_entry alike es k d → Some (entry_terms fs) ≡ joined_term (given c k) (entry_terms es)
term_joins c d k es fs p q = ap (λ gs. Some (entry_terms gs)) q ∙ ap (joined_by es k) p ∙ sym (joined_terms c k es)

pub term_overflows : (c : Fraction) (k : Stamped) (es : List Entry) → None ≡ sum_with (lookup (alike k) es) c → None ≡ joined_term (given c k) (entry_terms es)
term_overflows c k es p = ap (joined_by es k) p ∙ sym (joined_terms c k es)

-- stamps
entry_put : (ms : List Stamped) (b : Bool) (d : Fraction) (e : Entry) (es fs : List Entry) → EntryIsFrom ms e → EntriesFrom ms es → EntriesFrom ms fs → EntriesFrom ms (if b then (e.0, d) ∷ es else e ∷ fs)
entry_put ms true d e es fs h all more = All-cons (EntryIsFrom ms) (e.0, d) es h all
entry_put ms false d e es fs h all more = All-cons (EntryIsFrom ms) e fs h more

pub entries_put : (ms : List Stamped) (k : Stamped) (d : Fraction) (es : List Entry) → EntriesFrom ms es → IsFrom ms k → EntriesFrom ms (insert_entry alike es k d)
entries_put ms k d [] all h = All-cons (EntryIsFrom ms) (k, d) [] h (All-nil (EntryIsFrom ms))
entries_put ms k d (e ∷ es) all h =
    entry_put ms (alike k e.0) d e es (insert_entry alike es k d) (All-head (EntryIsFrom ms) e es all) (All-tail (EntryIsFrom ms) e es all) (entries_put ms k d es (All-tail (EntryIsFrom ms) e es all) h)

-- ---- elements

pub element_is_term : (s : Sum) (t : Tree) → None ≡ number_of t → with_element s t ≡ with_terms s (joined_term (term_of t) s.terms)
element_is_term s (num n) e = cc
element_is_term s (text b) e = refl
element_is_term s (symbol x) e = refl
element_is_term s (node h ts) e = refl

pub overflow_stays : (ts : List Tree) → collected None ts ≡ None
overflow_stays [] = refl
overflow_stays (t ∷ ts) = refl
