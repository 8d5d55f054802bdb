-- Iterators: `{n}`, `{i, n}`, `{i, a, b}`, `{i, a, b, s}`, and the passes of Do and Table over them. The rules are those of the manual's pages on these.
use Rattle.std.specs.Prelude.{ℕ, zero, suc, Bool, true, false, List, [], ◌∷◌, ◌++◌, Option, Some, None, codes, if◌then◌else◌}
use Rattle.wl_exact.specs.Fraction.{Fraction}
use Rattle.wl_exact.specs.Span.{Span, one, with_step, Following, next, ended, overflowed, first, following}
use Rattle.wl_expr.specs.Tree.{Tree, num}
use Rattle.wl_expr.specs.Words.{Name, name_of, is_list, elements, list_of, null_symbol}
use Rattle.wl_control.specs.Asks.{Asks, gives, stays, overflows, eval, eval_catching, let_be, pass, endless, alone_or}
use Rattle.wl_control.specs.Collected.{collected}
use Rattle.wl_control.specs.Loops.{after_part}

-- whether it gives its values to a name, and its bounds
pub record Iterator : Type 0 where
  pub named : Bool
  pub bounds : List Tree

abbrev pub named_by : Option Name → List Tree → Option Iterator
named_by (Some i) (b ∷ []) = Some (record { named = true; bounds = b ∷ [] })
named_by (Some i) (a ∷ b ∷ []) = Some (record { named = true; bounds = a ∷ b ∷ [] })
named_by (Some i) (a ∷ b ∷ s ∷ []) = Some (record { named = true; bounds = a ∷ b ∷ s ∷ [] })
named_by i bs = None

abbrev pub iterator_of : List Tree → Option Iterator
iterator_of [] = None
iterator_of (n ∷ []) = Some (record { named = false; bounds = n ∷ [] })
iterator_of (i ∷ b ∷ bs) = named_by (name_of i) (b ∷ bs)

abbrev pub iterator : Tree → Option Iterator
iterator t = if is_list t then iterator_of (elements t) else None

-- ---- the values

abbrev pub number_of : Tree → Option Fraction
number_of (num n) = Some n
number_of t = None

abbrev pub span_by : Option Fraction → Option Fraction → Option Fraction → Option Span
span_by (Some a) (Some b) (Some s) = with_step a b s
span_by a b s = None

-- a and s are 1 where left out; the bounds are numbers, s not 0
abbrev pub span_of : List Tree → Option Span
span_of (b ∷ []) = span_by (Some one) (number_of b) (Some one)
span_of (a ∷ b ∷ []) = span_by (number_of a) (number_of b) (Some one)
span_of (a ∷ b ∷ s ∷ []) = span_by (number_of a) (number_of b) (number_of s)
span_of ts = None

abbrev pub within : Option Span → (Span → Asks) → Asks
within None k = stays
within (Some s) k = k s

-- the bounds are evaluated once at the start, in order, before it is looked whether they are numbers
abbrev pub bounds : List Tree → List Tree → (Span → Asks) → Asks
bounds known [] k = within (span_of known) k
bounds known (b ∷ bs) k = eval b (λ v. bounds (known ++ v ∷ []) bs k)

abbrev pub iterate : Option Iterator → (Bool → Span → Asks) → Asks
iterate None k = stays
iterate (Some it) k = bounds [] it.bounds (k it.named)

-- ---- the passes: a step, then the iterator's value, then the body

abbrev pub with_value : Bool → Fraction → Asks → Asks
with_value named v rest = if named then let_be (num v) (λ _. rest) else rest

-- from the body of Do Break and Continue are caught
unfoldable pub do_from : ℕ → Bool → Span → Tree → Following → Asks
do_from zero i s b w = stays
do_from (suc n) i s b ended = gives null_symbol
do_from (suc n) i s b overflowed = overflows
do_from (suc n) i s b (next v) = pass (λ _. with_value i v (eval_catching b (λ u. after_part u (do_from n i s b (following s v)))))

-- Table gives the list of the body's values
unfoldable pub table_from : ℕ → Bool → Span → Tree → List Tree → Following → Asks
table_from zero i s b found w = stays
table_from (suc n) i s b found ended = gives (list_of found)
table_from (suc n) i s b found overflowed = overflows
table_from (suc n) i s b found (next v) = pass (λ _. with_value i v (eval b (λ w. collected (found ++ w ∷ []) (λ more. table_from n i s b more (following s v)))))

-- `Do[b, it]`; `Do[b, it1, it2]` evaluates `Do[b, it2]` as the body of each pass of it1, and so for more iterators
abbrev pub do_row : List Tree → Asks
do_row (b ∷ it ∷ its) = iterate (iterator it) (λ i s. do_from endless i s (alone_or (codes "Do") (b ∷ its)) (first s))
do_row es = stays

-- `Table[b, it]`, and with more iterators likewise
abbrev pub table_row : List Tree → Asks
table_row (b ∷ it ∷ its) = iterate (iterator it) (λ i s. table_from endless i s (alone_or (codes "Table") (b ∷ its)) [] (first s))
table_row es = stays
