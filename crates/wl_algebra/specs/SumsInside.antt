-- How what the code collects of a sum stands for the definition's.
use Rattle.std.specs.Prelude.{List, map, Option, Some, None, Ok, Err}
use Rattle.std.specs.List.{All}
use Rattle.wl_exact.specs.Arithmetic.{checked_sum}
use Rattle.wl_exact.specs.Fraction.{Fraction}
use Rattle.wl_expr.specs.Passed.{IsFrom}
use Rattle.wl_expr.specs.Stamped.{Stamped, plain}
use Rattle.wl_algebra.specs.Sums.{Term, Sum}
use Rattle.wl_algebra.specs.declared.sums.Sum as code_sum
use Rattle.wl_algebra.specs.declared.sums.Term as code_term

abbrev pub Entry : Type 0
Entry = Stamped × Fraction

abbrev pub entry_term : Entry → Term
entry_term p = record { coefficient = p.1; rest = plain p.0 }

abbrev pub entry_terms : List Entry → List Term
entry_terms es = map entry_term es

abbrev pub plain_term : code_term.Term → Term
plain_term t = record { coefficient = t.coefficient; rest = plain t.rest }

abbrev pub plain_sum : code_sum.Sum → Sum
plain_sum s = record { total = s.total; terms = entry_terms s.terms.entries }

-- the coefficient that a rest has then, unless it overflowed
abbrev pub sum_with : Option Fraction → Fraction → Option Fraction
sum_with None c = Some c
sum_with (Some b) c = elim (checked_sum b c) [ Ok d ↦ Some d | Err f ↦ None ]

-- ---- stamps

abbrev pub EntryIsFrom : List Stamped → Entry → Type 0
EntryIsFrom ms p = IsFrom ms p.0

abbrev pub EntriesFrom : List Stamped → List Entry → Type 0
EntriesFrom ms es = All (EntryIsFrom ms) es
