-- Between two passes no row asks more often than it has elements, and three times.
use Rattle.std.proofs.Common.{◌≡◌, ℕ, zero, suc, ◌+◌, ◌-◌, ◌≤◌, Bool, true, false, List, [], ◌∷◌, ◌++◌, length, nat_le, Option, Some, None, subst, arith, if◌then◌else◌, bytes_eq}
use Rattle.std.specs.Prelude.{⊤, codes}
use Rattle.wl_exact.specs.Fraction.{Fraction}
use Rattle.wl_exact.specs.Span.{Span, Following, next, ended, overflowed, first, following}
use Rattle.wl_expr.specs.Same.{same}
use Rattle.wl_expr.specs.Tree.{Tree}
use Rattle.wl_expr.specs.Words.{Name, is_the, is_true, is_false, is_list, elements, head_of, count_of, name_of}
use Rattle.wl_control.specs.Asks.{Asks, gives, stays, overflows, too_large, eval, eval_catching, matches, let_be, pass, by_truth, alone_or, endless, Caught, value, broke, continued}
use Rattle.wl_control.specs.Branches.{if_row, which_from, are_pairs, which_row, switch_from, switch_row, junction, compound_row}
use Rattle.wl_control.specs.Collected.{collected, total_weight}
use Rattle.wl_control.specs.Families.{elements_of, over, select_from, select_row, scan_from, scan_row, fold_from, fold_row, fold_list_from, fold_list_row, nest_from, times, nest_row, nest_list_from, nest_list_row, fixed_point_from, fixed_point_row}
use Rattle.wl_control.specs.Iterators.{Iterator, named_by, iterator_of, iterator, span_of, within, bounds, iterate, with_value, do_from, table_from, do_row, table_row}
use Rattle.wl_control.specs.Loops.{after_condition, after_part, part, loop_from, while_row, for_row}
use Rattle.wl_control.specs.Pacing.{IsPaced}
use Rattle.wl_control.specs.Stand.{Answer, start, came, matched, went, behind, after, IsAwaited}
use Rattle.wl_control.specs.Table.{Row, rows, row_in, row_of}

either : (m n : ℕ) (b : Bool) (a c : Asks) → IsPaced m n a → IsPaced m n c → IsPaced m n (if b then a else c)
either m n true a c h g = h
either m n false a c h g = g

truth : (m n : ℕ) (v : Tree) (a b c : Asks) → IsPaced m n a → IsPaced m n b → IsPaced m n c → IsPaced m n (by_truth v a b c)
truth m n v a b c p q r = either m n (is_true v) a (if is_false v then b else c) p (either m n (is_false v) b c q r)

-- ---- branches

if_paced : (m n : ℕ) (es : List Tree) → IsPaced m n (if_row es)
if_paced m n [] = tt
if_paced m n (c ∷ []) = tt
if_paced m n (c ∷ a ∷ []) = truth m n c _ _ _ tt tt tt
if_paced m n (c ∷ a ∷ b ∷ []) = truth m n c _ _ _ tt tt tt
if_paced m n (c ∷ a ∷ b ∷ d ∷ []) = truth m n c _ _ _ tt tt tt
if_paced m n (c ∷ a ∷ b ∷ d ∷ e ∷ es) = tt

which_paced : (m n : ℕ) (es : List Tree) → length es ≤ n → IsPaced m n (which_from es)
which_paced m n [] l = tt
which_paced m n (c ∷ []) l = tt
which_paced m n (c ∷ v ∷ es) l = (omega (arith, l), λ u. truth m (n - 1) u (gives v) (which_from es) stays tt (which_paced m (n - 1) es (omega (arith, l))) tt)

which_row_paced : (m n : ℕ) (es : List Tree) → length es ≤ n → IsPaced m n (which_row es)
which_row_paced m n [] l = tt
which_row_paced m n (c ∷ es) l = either m n (are_pairs (c ∷ es)) (which_from (c ∷ es)) stays (which_paced m n (c ∷ es) l) tt

switch_paced : (m n : ℕ) (e : Tree) (es : List Tree) → length es ≤ n → IsPaced m n (switch_from e es)
switch_paced m n e [] l = tt
switch_paced m n e (p ∷ []) l = tt
switch_paced m n e (p ∷ v ∷ es) l = (omega (arith, l), λ q. (omega (arith, l), λ b. either m (n - 1 - 1) b (gives v) (switch_from e es) tt (switch_paced m (n - 1 - 1) e es (omega (arith, l)))))

switch_row_paced : (m n : ℕ) (es : List Tree) → length es ≤ n → IsPaced m n (switch_row es)
switch_row_paced m n [] l = tt
switch_row_paced m n (e ∷ []) l = tt
switch_row_paced m n (e ∷ p ∷ es) l = either m n (are_pairs (p ∷ es)) (switch_from e (p ∷ es)) stays (switch_paced m n e (p ∷ es) (omega (arith, l))) tt

junction_paced : (m n : ℕ) (h end skip : Name) (left es : List Tree) → length es ≤ n → IsPaced m n (junction h end skip left es)
junction_paced m n h end skip left [] l = tt
junction_paced m n h end skip left (e ∷ es) l = (
  omega (arith, l),
  λ v. either m (n - 1) (is_the end v) (gives _) _ tt
      (either m (n - 1) (is_the skip v) (junction h end skip left es) (junction h end skip (left ++ v ∷ []) es) (junction_paced m (n - 1) h end skip left es (omega (arith, l))) (junction_paced m (n - 1) h end skip (left ++ v ∷ []) es (omega (arith, l)))),
)

compound_paced : (m n : ℕ) (es : List Tree) → length es ≤ n → IsPaced m n (compound_row es)
compound_paced m n [] l = tt
compound_paced m n (e ∷ []) l = tt
compound_paced m n (e ∷ f ∷ es) l = (omega (arith, l), λ v. compound_paced m (n - 1) (f ∷ es) (omega (arith, l)))

-- ---- loops

part_paced : (m n : ℕ) (o : Option Tree) (rest : Asks) → 1 ≤ n → IsPaced m n rest → IsPaced m (n - 1) rest → IsPaced m n (part o rest)
part_paced m n None rest l h g = h
part_paced m n (Some e) rest l h g = (l, after)
  where
    after : (u : Caught) → IsPaced m (n - 1) (after_part u rest)
    after (value v) = g
    after broke = tt
    after continued = g

module _ (m : ℕ) (l : 3 ≤ m) where
  step_paced : (k : ℕ) (i : Option Tree) (rest : Asks) → 1 ≤ k → ((j : ℕ) → IsPaced m j rest) → IsPaced m k (part i rest)
  step_paced k i rest g h = part_paced m k i rest g (h k) (h (k - 1))

  condition_paced : (b i : Option Tree) (rest : Asks) → ((j : ℕ) → IsPaced m j rest) → (u : Caught) → IsPaced m (m - 1) (after_condition u (part b (part i rest)) (part i rest))
  condition_paced b i rest h (value v) = either m (m - 1) (is_true v) _ (gives _) (part_paced m (m - 1) b (part i rest) (omega (arith, l)) (step_paced (m - 1) i rest (omega (arith, l)) h) (step_paced (m - 1 - 1) i rest (omega (arith, l)) h)) tt
  condition_paced b i rest h broke = tt
  condition_paced b i rest h continued = step_paced (m - 1) i rest (omega (arith, l)) h

  loop_paced : (j n : ℕ) (c : Tree) (b i : Option Tree) → IsPaced m n (loop_from j c b i)
  unfolding loop_from
  loop_paced zero n c b i = tt
  loop_paced (suc j) n c b i = (omega (arith, l), condition_paced b i (loop_from j c b i) (λ k. loop_paced j k c b i))

  while_paced : (n : ℕ) (es : List Tree) → IsPaced m n (while_row es)
  while_paced n [] = tt
  while_paced n (c ∷ []) = loop_paced endless n c None None
  while_paced n (c ∷ b ∷ []) = loop_paced endless n c (Some b) None
  while_paced n (c ∷ b ∷ d ∷ es) = tt

  for_paced : (n : ℕ) (es : List Tree) → 1 ≤ n → IsPaced m n (for_row es)
  for_paced n [] g = tt
  for_paced n (s ∷ []) g = tt
  for_paced n (s ∷ c ∷ []) g = tt
  for_paced n (s ∷ c ∷ i ∷ []) g = (g, λ v. loop_paced endless (n - 1) c None (Some i))
  for_paced n (s ∷ c ∷ i ∷ b ∷ []) g = (g, λ v. loop_paced endless (n - 1) c (Some b) (Some i))
  for_paced n (s ∷ c ∷ i ∷ b ∷ d ∷ es) g = tt

  -- ---- iterators

  value_paced : (named : Bool) (v : Fraction) (rest : Asks) → IsPaced m m rest → IsPaced m (m - 1) rest → IsPaced m m (with_value named v rest)
  value_paced true v rest h g = (omega (arith, l), g)
  value_paced false v rest h g = h

  body_paced : (n : ℕ) (b : Tree) (rest : Asks) → 1 ≤ n → IsPaced m (n - 1) rest → IsPaced m n (eval_catching b (λ u. after_part u rest))
  body_paced n b rest g h = (g, after)
    where
      after : (u : Caught) → IsPaced m (n - 1) (after_part u rest)
      after (value v) = h
      after broke = tt
      after continued = h

  do_paced : (j n : ℕ) (named : Bool) (s : Span) (b : Tree) (w : Following) → IsPaced m n (do_from j named s b w)
  unfolding do_from
  do_paced zero n named s b w = tt
  do_paced (suc j) n named s b ended = tt
  do_paced (suc j) n named s b overflowed = tt
  do_paced (suc j) n named s b (next v) =
      value_paced named v (eval_catching b (λ u. after_part u (do_from j named s b (following s v))))
      (body_paced m b (do_from j named s b (following s v)) (omega (arith, l)) (do_paced j (m - 1) named s b (following s v)))
      (body_paced (m - 1) b (do_from j named s b (following s v)) (omega (arith, l)) (do_paced j (m - 1 - 1) named s b (following s v)))

  collected_paced : (n : ℕ) (found : List Tree) (k : List Tree → Asks) → ((more : List Tree) → IsPaced m n (k more)) → IsPaced m n (collected found k)
  collected_paced n found k h = either m n (nat_le (total_weight found) 4000000) (k found) _ (h found) tt

  table_paced : (j n : ℕ) (named : Bool) (s : Span) (b : Tree) (found : List Tree) (w : Following) → IsPaced m n (table_from j named s b found w)
  unfolding table_from
  table_paced zero n named s b found w = tt
  table_paced (suc j) n named s b found ended = tt
  table_paced (suc j) n named s b found overflowed = tt
  table_paced (suc j) n named s b found (next v) =
      value_paced named v (eval b (λ w. collected (found ++ w ∷ []) (λ more. table_from j named s b more (following s v))))
      (omega (arith, l), λ w. collected_paced (m - 1) (found ++ w ∷ []) (λ more. table_from j named s b more (following s v)) (λ more. table_paced j (m - 1) named s b more (following s v)))
      (omega (arith, l), λ w. collected_paced (m - 1 - 1) (found ++ w ∷ []) (λ more. table_from j named s b more (following s v)) (λ more. table_paced j (m - 1 - 1) named s b more (following s v)))

  within_paced : (n : ℕ) (o : Option Span) (k : Span → Asks) → ((s : Span) → IsPaced m n (k s)) → IsPaced m n (within o k)
  within_paced n None k h = tt
  within_paced n (Some s) k h = h s

  bounds_paced : (n : ℕ) (known bs : List Tree) (k : Span → Asks) → length bs ≤ n → ((j : ℕ) (s : Span) → IsPaced m j (k s)) → IsPaced m n (bounds known bs k)
  bounds_paced n known [] k g h = within_paced n (span_of known) k (h n)
  bounds_paced n known (b ∷ bs) k g h = (omega (arith, g), λ v. bounds_paced (n - 1) (known ++ v ∷ []) bs k (omega (arith, g)) h)

  few : Option Iterator → Type 0
  few None = ⊤
  few (Some it) = length it.bounds ≤ 3

  iterate_paced : (n : ℕ) (o : Option Iterator) (k : Bool → Span → Asks) → 3 ≤ n → few o → ((j : ℕ) (named : Bool) (s : Span) → IsPaced m j (k named s)) → IsPaced m n (iterate o k)
  unfolding few
  iterate_paced n None k g f h = tt
  iterate_paced n (Some it) k g f h = bounds_paced n [] it.bounds (k it.named) (omega (arith, g, f)) (λ j s. h j it.named s)

  named_few : (o : Option Name) (bs : List Tree) → few (named_by o bs)
  unfolding few
  named_few None bs = tt
  named_few (Some i) [] = tt
  named_few (Some i) (a ∷ []) = omega arith
  named_few (Some i) (a ∷ b ∷ []) = omega arith
  named_few (Some i) (a ∷ b ∷ c ∷ []) = omega arith
  named_few (Some i) (a ∷ b ∷ c ∷ d ∷ bs) = tt

  of_few : (es : List Tree) → few (iterator_of es)
  unfolding few
  of_few [] = tt
  of_few (n ∷ []) = omega arith
  of_few (i ∷ b ∷ bs) = named_few (name_of i) (b ∷ bs)

  iterator_few : (t : Tree) → few (iterator t)
  unfolding few
  iterator_few t = cases (is_list t)
    where
      cases : (b : Bool) → few (if b then iterator_of (elements t) else None)
      cases true = of_few (elements t)
      cases false = tt

  do_row_paced : (n : ℕ) (es : List Tree) → 3 ≤ n → IsPaced m n (do_row es)
  do_row_paced n [] g = tt
  do_row_paced n (b ∷ []) g = tt
  do_row_paced n (b ∷ it ∷ its) g = iterate_paced n (iterator it) _ g (iterator_few it) (λ j i s. do_paced endless j i s (alone_or (codes "Do") (b ∷ its)) (first s))

  table_row_paced : (n : ℕ) (es : List Tree) → 3 ≤ n → IsPaced m n (table_row es)
  table_row_paced n [] g = tt
  table_row_paced n (b ∷ []) g = tt
  table_row_paced n (b ∷ it ∷ its) g = iterate_paced n (iterator it) _ g (iterator_few it) (λ j i s. table_paced endless j i s (alone_or (codes "Table") (b ∷ its)) [] (first s))

  -- ---- families

  over_paced : (n : ℕ) (o : Option (List Tree)) (k : List Tree → Asks) → ((ts : List Tree) → IsPaced m n (k ts)) → IsPaced m n (over o k)
  over_paced n None k h = tt
  over_paced n (Some ts) k h = h ts

  select_paced : (n : ℕ) (h t : Tree) (left es : List Tree) → IsPaced m n (select_from h t left es)
  select_paced n h t left [] = tt
  select_paced n h t left (x ∷ xs) = (omega (arith, l), λ v. either m (m - 1) (is_true v) (select_from h t (left ++ x ∷ []) xs) (select_from h t left xs) (select_paced (m - 1) h t (left ++ x ∷ []) xs) (select_paced (m - 1) h t left xs))

  select_row_paced : (n : ℕ) (es : List Tree) → IsPaced m n (select_row es)
  select_row_paced n [] = tt
  select_row_paced n (e ∷ []) = tt
  select_row_paced n (e ∷ t ∷ []) = over_paced n (elements_of e) (select_from (head_of e) t []) (select_paced n (head_of e) t [])
  select_row_paced n (e ∷ t ∷ d ∷ es) = tt

  scan_paced : (n : ℕ) (f : Tree) (es : List Tree) → IsPaced m n (scan_from f es)
  scan_paced n f [] = tt
  scan_paced n f (x ∷ xs) = (omega (arith, l), λ v. scan_paced (m - 1) f xs)

  scan_row_paced : (n : ℕ) (es : List Tree) → IsPaced m n (scan_row es)
  scan_row_paced n [] = tt
  scan_row_paced n (f ∷ []) = tt
  scan_row_paced n (f ∷ e ∷ []) = over_paced n (elements_of e) (scan_from f) (scan_paced n f)
  scan_row_paced n (f ∷ e ∷ d ∷ es) = tt

  fold_paced : (n : ℕ) (f v : Tree) (es : List Tree) → IsPaced m n (fold_from f v es)
  fold_paced n f v [] = tt
  fold_paced n f v (x ∷ xs) = (omega (arith, l), λ w. fold_paced (m - 1) f w xs)

  fold_row_paced : (n : ℕ) (es : List Tree) → IsPaced m n (fold_row es)
  fold_row_paced n [] = tt
  fold_row_paced n (f ∷ []) = tt
  fold_row_paced n (f ∷ x ∷ []) = tt
  fold_row_paced n (f ∷ x ∷ e ∷ []) = over_paced n (elements_of e) (fold_from f x) (fold_paced n f x)
  fold_row_paced n (f ∷ x ∷ e ∷ d ∷ es) = tt

  fold_list_paced : (n : ℕ) (f : Tree) (found : List Tree) (v : Tree) (es : List Tree) → IsPaced m n (fold_list_from f found v es)
  fold_list_paced n f found v [] = tt
  fold_list_paced n f found v (x ∷ xs) = (omega (arith, l), λ w. collected_paced (m - 1) (found ++ w ∷ []) (λ more. fold_list_from f more w xs) (λ more. fold_list_paced (m - 1) f more w xs))

  fold_list_row_paced : (n : ℕ) (es : List Tree) → IsPaced m n (fold_list_row es)
  fold_list_row_paced n [] = tt
  fold_list_row_paced n (f ∷ []) = tt
  fold_list_row_paced n (f ∷ x ∷ []) = tt
  fold_list_row_paced n (f ∷ x ∷ e ∷ []) = over_paced n (elements_of e) (fold_list_from f (x ∷ []) x) (fold_list_paced n f (x ∷ []) x)
  fold_list_row_paced n (f ∷ x ∷ e ∷ d ∷ es) = tt

  times_paced : (n : ℕ) (o : Option ℕ) (k : ℕ → Asks) → ((j : ℕ) → IsPaced m n (k j)) → IsPaced m n (times o k)
  times_paced n None k h = tt
  times_paced n (Some j) k h = h j

  nest_paced : (n : ℕ) (f v : Tree) (j : ℕ) → IsPaced m n (nest_from f v j)
  unfolding nest_from
  nest_paced n f v zero = tt
  nest_paced n f v (suc j) = (omega (arith, l), λ w. nest_paced (m - 1) f w j)

  nest_row_paced : (n : ℕ) (es : List Tree) → IsPaced m n (nest_row es)
  nest_row_paced n [] = tt
  nest_row_paced n (f ∷ []) = tt
  nest_row_paced n (f ∷ x ∷ []) = tt
  nest_row_paced n (f ∷ x ∷ j ∷ []) = times_paced n (count_of j) (nest_from f x) (nest_paced n f x)
  nest_row_paced n (f ∷ x ∷ j ∷ d ∷ es) = tt

  nest_list_paced : (n : ℕ) (f : Tree) (found : List Tree) (v : Tree) (j : ℕ) → IsPaced m n (nest_list_from f found v j)
  unfolding nest_list_from
  nest_list_paced n f found v zero = tt
  nest_list_paced n f found v (suc j) = (omega (arith, l), λ w. collected_paced (m - 1) (found ++ w ∷ []) (λ more. nest_list_from f more w j) (λ more. nest_list_paced (m - 1) f more w j))

  nest_list_row_paced : (n : ℕ) (es : List Tree) → IsPaced m n (nest_list_row es)
  nest_list_row_paced n [] = tt
  nest_list_row_paced n (f ∷ []) = tt
  nest_list_row_paced n (f ∷ x ∷ []) = tt
  nest_list_row_paced n (f ∷ x ∷ j ∷ []) = times_paced n (count_of j) (nest_list_from f (x ∷ []) x) (nest_list_paced n f (x ∷ []) x)
  nest_list_row_paced n (f ∷ x ∷ j ∷ d ∷ es) = tt

  fixed_paced : (j n : ℕ) (f v : Tree) → IsPaced m n (fixed_point_from j f v)
  unfolding fixed_point_from
  fixed_paced zero n f v = tt
  fixed_paced (suc j) n f v = (omega (arith, l), λ w. either m (m - 1) (same w v) (gives v) (fixed_point_from j f w) tt (fixed_paced j (m - 1) f w))

  fixed_row_paced : (n : ℕ) (es : List Tree) → IsPaced m n (fixed_point_row es)
  fixed_row_paced n [] = tt
  fixed_row_paced n (f ∷ []) = tt
  fixed_row_paced n (f ∷ x ∷ []) = fixed_paced endless n f x
  fixed_row_paced n (f ∷ x ∷ d ∷ es) = tt

-- ---- the table

abbrev IsPacedRow : Row → Type 0
IsPacedRow f = (es : List Tree) (m : ℕ) → length es + 3 ≤ m → IsPaced m m (f es)

abbrev ArePaced : List (Name × Row) → Type 0
ArePaced [] = ⊤
ArePaced (r ∷ rs) = IsPacedRow r.1 × ArePaced rs

in_table : (x : Name) (rs : List (Name × Row)) (f : Row) → ArePaced rs → row_in x rs ≡ Some f → IsPacedRow f
in_table x [] f h e = absurd (let z : None ≡ Some f = e in cc)
in_table x (r ∷ rs) f h e = cases (bytes_eq x r.0) e (in_table x rs f h.1)
  where
    cases : (b : Bool) → (if b then Some r.1 else row_in x rs) ≡ Some f → (row_in x rs ≡ Some f → IsPacedRow f) → IsPacedRow f
    cases true q g = let z : r.1 ≡ f = (let w : Some r.1 ≡ Some f = q in cc) in subst IsPacedRow z h.0
    cases false q g = g q

rows_paced : ArePaced rows
rows_paced = (
  λ es m l. if_paced m m es,
  (
    λ es m l. which_row_paced m m es (omega (arith, l)),
    (
      λ es m l. switch_row_paced m m es (omega (arith, l)),
      (
        λ es m l. junction_paced m m (codes "And") (codes "False") (codes "True") [] es (omega (arith, l)),
        (
          λ es m l. junction_paced m m (codes "Or") (codes "True") (codes "False") [] es (omega (arith, l)),
          (
            λ es m l. compound_paced m m es (omega (arith, l)),
            (
              λ es m l. while_paced m (omega (arith, l)) m es,
              (
                λ es m l. for_paced m (omega (arith, l)) m es (omega (arith, l)),
                (
                  λ es m l. do_row_paced m (omega (arith, l)) m es (omega (arith, l)),
                  (
                    λ es m l. table_row_paced m (omega (arith, l)) m es (omega (arith, l)),
                    (
                      λ es m l. select_row_paced m (omega (arith, l)) m es,
                      (
                        λ es m l. scan_row_paced m (omega (arith, l)) m es,
                        (
                          λ es m l. fold_row_paced m (omega (arith, l)) m es,
                          (
                            λ es m l. fold_list_row_paced m (omega (arith, l)) m es,
                            (
                              λ es m l. nest_row_paced m (omega (arith, l)) m es,
                              (λ es m l. nest_list_row_paced m (omega (arith, l)) m es, (λ es m l. fixed_row_paced m (omega (arith, l)) m es, tt)),
                            ),
                          ),
                        ),
                      ),
                    ),
                  ),
                ),
              ),
            ),
          ),
        ),
      ),
    ),
  ),
)

-- a row over es begins a pass or ends after length es + 3 questions at the latest, and so again after each pass
pub row_paced : (x : Name) (f : Row) (es : List Tree) → row_of x ≡ Some f → IsPaced (length es + 3) (length es + 3) (f es)
row_paced x f es e = in_table x rows f rows_paced e es (length es + 3) (omega arith)

-- ---- from question to question

-- b is what an answer to the question of a leads to
abbrev pub Falls : ℕ → ℕ → Asks → Asks → Type 0
Falls m n (pass k) b = IsPaced m m b
Falls m n a b = (1 ≤ n) × IsPaced m (n - 1) b

-- where a pass begins the count begins anew, and else it falls
pub paced_next : (m n : ℕ) (a : Asks) (w : Answer) → IsAwaited (behind a) w → IsPaced m n a → Falls m n a (after (behind a) w)
paced_next m n (eval t k) (came (value v)) h p = (p.0, p.1 v)
paced_next m n (eval t k) (came broke) h p = absurd h
paced_next m n (eval t k) (came continued) h p = absurd h
paced_next m n (eval t k) start h p = absurd h
paced_next m n (eval t k) (matched b) h p = absurd h
paced_next m n (eval t k) went h p = absurd h
paced_next m n (eval_catching t k) (came (value v)) h p = (p.0, p.1 (value v))
paced_next m n (eval_catching t k) (came broke) h p = (p.0, p.1 broke)
paced_next m n (eval_catching t k) (came continued) h p = (p.0, p.1 continued)
paced_next m n (eval_catching t k) start h p = absurd h
paced_next m n (eval_catching t k) (matched b) h p = absurd h
paced_next m n (eval_catching t k) went h p = absurd h
paced_next m n (matches t q k) (matched b) h p = (p.0, p.1 b)
paced_next m n (matches t q k) (came u) h p = absurd h
paced_next m n (matches t q k) start h p = absurd h
paced_next m n (matches t q k) went h p = absurd h
paced_next m n (let_be v k) went h p = p
paced_next m n (let_be v k) (came u) h p = absurd h
paced_next m n (let_be v k) start h p = absurd h
paced_next m n (let_be v k) (matched b) h p = absurd h
paced_next m n (pass k) went h p = p
paced_next m n (pass k) (came u) h p = absurd h
paced_next m n (pass k) start h p = absurd h
paced_next m n (pass k) (matched b) h p = absurd h
paced_next m n (gives t) w h p = absurd h
paced_next m n stays w h p = absurd h
paced_next m n overflows w h p = absurd h
paced_next m n too_large w h p = absurd h
