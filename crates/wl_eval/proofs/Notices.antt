-- What rows of arithmetic and lists give with a message is small.
use Rattle.std.proofs.Common.{ℕ, ℤ, pos, negsuc, zero, suc, Bool, true, false, List, [], ◌∷◌, Option, Some, None, Result, Ok, Err, refl, arith}
use Rattle.std.specs.List.{list_all}
use Rattle.std.specs.Prelude.{◌&&◌, nat_eq, unsigned_abs}
use Rattle.wl_exact.specs.Fraction.{Fraction, in_range}
use Rattle.wl_exact.specs.Gcd.{gcd as gcd_of}
use Rattle.wl_exact.specs.declared.num.NumFault.{NumFault}
use Rattle.wl_expr.specs.Applied.{Applied, gives, unchanged, noticed, indeterminate}
use Rattle.wl_expr.specs.Same.{same}
use Rattle.wl_expr.specs.Spans.{span_of}
use Rattle.wl_expr.specs.Tree.{Tree, num, text, symbol, node, to_list}
use Rattle.wl_expr.specs.Words.{natural, int_of, count_of, true_symbol, false_symbol}
use Rattle.wl_algebra.specs.Answers.{indeterminate_symbol, overflowed}
use Rattle.wl_algebra.specs.Comparisons as comparisons
use Rattle.wl_algebra.specs.Extremes as extremes
use Rattle.wl_algebra.specs.Factorials as factorials
use Rattle.wl_algebra.specs.Numbers as numbers
use Rattle.wl_algebra.specs.Powers as powers
use Rattle.wl_algebra.specs.Products as products
use Rattle.wl_algebra.specs.Questions as questions
use Rattle.wl_algebra.specs.Spliced.{spliced_lists}
use Rattle.wl_algebra.specs.Sums as sums
use Rattle.wl_algebra.specs.Kinds as algebra
use Rattle.wl_algebra.specs.declared.kind.Kind as algebra_kind
use Rattle.wl_algebra.specs.declared.kind.Kind.TheVariants as a
use Rattle.wl_lists.specs.Arrays as arrays
use Rattle.wl_lists.specs.Elements as rows
use Rattle.wl_lists.specs.Flattening as flattening
use Rattle.wl_lists.specs.Functions as functions
use Rattle.wl_lists.specs.Joining as joining
use Rattle.wl_lists.specs.Nodes.{node_of, by_node, of_node, of_node_and, given, list_elements, is_level_one}
use Rattle.wl_lists.specs.Partitions as partitions
use Rattle.wl_lists.specs.Parts as parts
use Rattle.wl_lists.specs.Ranges as ranges
use Rattle.wl_lists.specs.Segments as segments
use Rattle.wl_lists.specs.Strings as strings
use Rattle.wl_lists.specs.Kinds as lists
use Rattle.wl_lists.specs.declared.kind.Kind as lists_kind
use Rattle.wl_lists.specs.declared.kind.Kind.TheVariants as l
use Rattle.wl_state.proofs.Answering.{NoticeFits}

-- ---- choices

either : (b : Bool) (x y : Applied) → NoticeFits x → NoticeFits y → NoticeFits (elim b [ true ↦ x | false ↦ y ])
either true x y h m = h
either false x y h m = m

exact : (r : Result Fraction NumFault) → NoticeFits (numbers.exact r)
exact (Ok n) = tt
exact (Err e) = refl

-- ---- arithmetic

sum : (o : Option sums.Sum) → NoticeFits (sums.sum_result o)
sum None = refl
sum (Some s) = tt

plus : (es : List Tree) → NoticeFits (sums.plus_row es)
plus [] = tt
plus (t ∷ []) = tt
plus (t ∷ u ∷ us) = grind (arith, sum)

product : (o : Option Fraction) (es : List Tree) → NoticeFits (products.product_result o es)
product None es = refl
product (Some n) es = grind arith

times : (es : List Tree) → NoticeFits (products.times_row es)
times [] = tt
times (t ∷ []) = tt
times (t ∷ u ∷ us) = grind (arith, product)

node_power : (h : Tree) (ts : List Tree) (n : Tree) → NoticeFits (powers.node_power h ts n)
node_power h [] n = grind arith
node_power h (c ∷ []) n = grind arith
node_power h (c ∷ d ∷ []) n = grind arith
node_power h (c ∷ d ∷ e ∷ es) n = grind arith

integer_power : (b : Tree) (n : ℤ) → NoticeFits (powers.integer_power b n)
integer_power (num b) n = grind (arith, exact)
integer_power (text s) n = tt
integer_power (symbol x) n = tt
integer_power (node h ts) n = node_power h (to_list ts) _

other_power : (b : Tree) (o : Option ℤ) → NoticeFits (powers.other_power b o)
other_power b None = tt
other_power b (Some n) = integer_power b n

power : (es : List Tree) → NoticeFits (powers.power_row es)
power [] = tt
power (b ∷ []) = tt
power (b ∷ e ∷ []) =
    let p : Applied = powers.other_power b (int_of e) in
    let q : Applied = elim (powers.is_natural 1 b) [ true ↦ gives (natural 1) | false ↦ p ] in
    let r : Applied = elim (powers.is_natural 1 e) [ true ↦ gives b | false ↦ q ] in
    let s : Applied = elim (powers.is_natural 0 e) [ true ↦ gives (natural 1) | false ↦ r ] in
    either (powers.is_natural 0 b && powers.is_natural 0 e) (noticed (indeterminate (powers.power b e)) indeterminate_symbol) s refl
    (either (powers.is_natural 0 e) (gives (natural 1)) r tt
    (either (powers.is_natural 1 e) (gives b) q tt
    (either (powers.is_natural 1 b) (gives (natural 1)) p tt (other_power b (int_of e)))))
power (b ∷ e ∷ f ∷ es) = tt

by_number : (f : Fraction → Fraction) (o : Option Fraction) → NoticeFits (numbers.by_number f o)
by_number f None = tt
by_number f (Some n) = tt

by_integers : (f : ℤ → ℤ → Applied) → ((n m : ℤ) → NoticeFits (f n m)) → (o : Option (ℤ × ℤ)) → NoticeFits (numbers.by_integers f o)
by_integers f h None = tt
by_integers f h (Some p) = either (nat_eq (unsigned_abs p.1) 0) unchanged (f p.0 p.1) tt (h p.0 p.1)

gcd : (n : ℕ) (es : List Tree) → NoticeFits (numbers.gcd_on n es)
gcd n [] = tt
gcd n (t ∷ ts) = go (int_of t) (λ m. gcd m ts)
  where
    go : (o : Option ℤ) → ((m : ℕ) → NoticeFits (numbers.gcd_on m ts)) → NoticeFits (elim o [ None ↦ unchanged | Some m ↦ numbers.gcd_on (gcd_of n (unsigned_abs m)) ts ])
    go None r = tt
    go (Some m) r = r _

best_on : (f : Fraction → Fraction → Fraction) (n : Fraction) (es : List Tree) → NoticeFits (extremes.best_on f n es)
best_on f n [] = tt
best_on f n (num m ∷ ts) = best_on f (f n m) ts
best_on f n (text s ∷ ts) = tt
best_on f n (symbol x ∷ ts) = tt
best_on f n (node h us ∷ ts) = tt

best : (f : Fraction → Fraction → Fraction) (es : List Tree) → NoticeFits (extremes.best_of f es)
best f [] = tt
best f (num n ∷ ts) = best_on f n ts
best f (text s ∷ ts) = tt
best f (symbol x ∷ ts) = tt
best f (node h us ∷ ts) = tt

factorial_of : (o : Option ℤ) → NoticeFits (factorials.factorial_of o)
factorial_of None = tt
factorial_of (Some (pos n)) = either (in_range (pos (factorials.factorial n))) (gives (natural (factorials.factorial n))) overflowed tt refl
factorial_of (Some (negsuc n)) = tt

factorial : (es : List Tree) → NoticeFits (factorials.factorial_row es)
factorial [] = tt
factorial (n ∷ []) = factorial_of (int_of n)
factorial (n ∷ m ∷ es) = tt

question : (f : Tree → Bool) (es : List Tree) → NoticeFits (questions.question f es)
question f [] = tt
question f (t ∷ []) = tt
question f (t ∷ u ∷ es) = tt

unequal : (es : List Tree) → NoticeFits (comparisons.unequal_row es)
unequal [] = tt
unequal (t ∷ []) = tt
unequal (t ∷ u ∷ []) =
    let x : Applied = elim (comparisons.are_apart t u) [ true ↦ gives true_symbol | false ↦ unchanged ] in
    either (same t u) (gives false_symbol) x tt (either (comparisons.are_apart t u) (gives true_symbol) unchanged tt tt)
unequal (t ∷ u ∷ v ∷ es) = tt

compared : (r : comparisons.Relation) (o : Option (List Fraction)) → NoticeFits (comparisons.compared r o)
compared r None = tt
compared r (Some ns) = tt

told_truth : (o : Option Bool) → NoticeFits (comparisons.told_truth o)
told_truth None = tt
told_truth (Some b) = tt

inequality : (es : List Tree) → NoticeFits (comparisons.inequality_row es)
inequality [] = tt
inequality (num n ∷ []) = tt
inequality (num n ∷ r ∷ ts) = told_truth (comparisons.chain n (r ∷ ts))
inequality (text s ∷ ts) = tt
inequality (symbol x ∷ ts) = tt
inequality (node h us ∷ ts) = tt

negated : (es : List Tree) → NoticeFits (comparisons.not_row es)
negated [] = tt
negated (t ∷ []) = grind arith
negated (t ∷ u ∷ es) = tt

pub algebra_notices : (k : algebra_kind.Kind) (es : List Tree) → NoticeFits (algebra.row_by k es)
algebra_notices a.Plus es = plus es
algebra_notices a.Times es = times es
algebra_notices a.Power es = power es
algebra_notices (a.Measure m) es = by_number (algebra.measure_by m) (numbers.only_number es)
algebra_notices a.Mod es = by_integers numbers.modulo (λ n m. tt) (numbers.two_integers es)
algebra_notices a.Quotient es = by_integers numbers.quotient (λ n m. tt) (numbers.two_integers es)
algebra_notices a.Rational es = by_integers numbers.rational (λ n m. exact _) (numbers.two_integers es)
algebra_notices a.Gcd es = gcd 0 es
algebra_notices (a.Extreme e) es = best _ (spliced_lists es)
algebra_notices a.Factorial es = factorial es
algebra_notices (a.Question q) es = question (algebra.question_by q) es
algebra_notices a.Equal es = grind arith
algebra_notices a.Unequal es = unequal es
algebra_notices (a.Comparison r) es = compared (algebra.relation_by r) (comparisons.numbers es)
algebra_notices a.Inequality es = inequality es
algebra_notices a.SameQ es = tt
algebra_notices a.UnsameQ es = tt
algebra_notices a.Not es = negated es

-- ---- lists

by_node_fits : (f : Tree → List Tree → Applied) → ((h : Tree) (ts : List Tree) → NoticeFits (f h ts)) → (o : Option (Tree × List Tree)) → NoticeFits (by_node f o)
by_node_fits f h None = tt
by_node_fits f h (Some p) = h p.0 p.1

of_node_fits : (f : Tree → List Tree → Applied) → ((h : Tree) (ts : List Tree) → NoticeFits (f h ts)) → (es : List Tree) → NoticeFits (of_node f es)
of_node_fits f h [] = tt
of_node_fits f h (t ∷ []) = by_node_fits f h (node_of t)
of_node_fits f h (t ∷ u ∷ es) = tt

of_node_and_fits : (f : Tree → List Tree → Tree → Applied) → ((h : Tree) (ts : List Tree) (x : Tree) → NoticeFits (f h ts x)) → (es : List Tree) → NoticeFits (of_node_and f es)
of_node_and_fits f h [] = tt
of_node_and_fits f h (t ∷ []) = tt
of_node_and_fits f h (t ∷ x ∷ []) = by_node_fits (λ g ts. f g ts x) (λ g ts. h g ts x) (node_of t)
of_node_and_fits f h (t ∷ x ∷ u ∷ es) = tt

given_fits : (o : Option Tree) → NoticeFits (given o)
given_fits None = tt
given_fits (Some t) = tt

head : (es : List Tree) → NoticeFits (rows.head_row es)
head [] = tt
head (t ∷ []) = tt
head (t ∷ u ∷ es) = tt

length_of : (es : List Tree) → NoticeFits (rows.length_row es)
length_of [] = tt
length_of (t ∷ []) = tt
length_of (t ∷ u ∷ es) = tt

depth_of : (es : List Tree) → NoticeFits (rows.depth_row es)
depth_of [] = tt
depth_of (t ∷ []) = tt
depth_of (t ∷ u ∷ es) = tt

order : (es : List Tree) → NoticeFits (rows.order_row es)
order [] = tt
order (t ∷ []) = tt
order (t ∷ u ∷ []) = tt
order (t ∷ u ∷ v ∷ es) = tt

evaluated : (es : List Tree) → NoticeFits (functions.evaluate_row es)
evaluated [] = tt
evaluated (t ∷ []) = tt
evaluated (t ∷ u ∷ es) = tt

identity : (es : List Tree) → NoticeFits (functions.identity_row es)
identity [] = tt
identity (t ∷ []) = tt
identity (t ∷ u ∷ es) = tt

to_text : (es : List Tree) → NoticeFits (strings.to_string_row es)
to_text [] = tt
to_text (t ∷ []) = tt
to_text (t ∷ u ∷ es) = tt

boxed : (es : List Tree) → NoticeFits (strings.make_boxes_row es)
boxed [] = tt
boxed (t ∷ []) = tt
boxed (t ∷ u ∷ es) = tt

released : (es : List Tree) → NoticeFits (functions.release_hold_row es)
released [] = tt
released (t ∷ []) = tt
released (t ∷ u ∷ es) = tt

rest : (h : Tree) (ts : List Tree) → NoticeFits (rows.rest_of h ts)
rest h [] = tt
rest h (t ∷ ts) = tt

most : (h : Tree) (ts : List Tree) → NoticeFits (rows.most_of h ts)
most h [] = tt
most h (t ∷ ts) = tt

join : (es : List Tree) → NoticeFits (joining.join_row es)
join [] = tt
join (t ∷ ts) = by_node_fits _ (λ h us. either (list_all (joining.has_head h) (t ∷ ts)) _ unchanged tt tt) (node_of t)

union : (es : List Tree) → NoticeFits (joining.union_row es)
union [] = tt
union (t ∷ ts) = grind arith

taken : (h : Tree) (ts : List Tree) (o : Option _) → NoticeFits (segments.taken h ts o)
taken h ts None = tt
taken h ts (Some s) = tt

dropped : (h : Tree) (ts : List Tree) (o : Option _) → NoticeFits (segments.dropped h ts o)
dropped h ts None = tt
dropped h ts (Some s) = tt

part_answered : (t : Tree) (o : Option parts.Failure) → NoticeFits (parts.part_answer t o)
part_answered t None = tt
part_answered t (Some (parts.missing i e)) = tt
part_answered t (Some parts.no_index) = tt

part : (es : List Tree) → NoticeFits (parts.part_row es)
part [] = tt
part (num n ∷ es) = tt
part (text s ∷ es) = tt
part (symbol x ∷ es) = tt
part (node h ts ∷ []) = tt
part (node h ts ∷ i ∷ is) =
    let t = parts.part_of (i ∷ is) (node h ts) in
    let o = parts.failure (i ∷ is) (node h ts) in
    either (list_all parts.is_index (i ∷ is)) (parts.part_answer t o) unchanged (part_answered t o) tt

flattened : (o : Option ℕ) (t : Tree) → NoticeFits (flattening.flatten_by o t)
flattened o (num n) = tt
flattened o (text s) = tt
flattened o (symbol x) = tt
flattened o (node h ts) = tt

flattened_to : (o : Option ℕ) (t : Tree) → NoticeFits (flattening.flatten_to o t)
flattened_to None t = tt
flattened_to (Some n) t = flattened (Some n) t

flatten : (es : List Tree) → NoticeFits (flattening.flatten_row es)
flatten [] = tt
flatten (t ∷ []) = flattened None t
flatten (t ∷ n ∷ []) = flattened_to (count_of n) t
flatten (t ∷ n ∷ u ∷ es) = tt

ranged : (o : Option (List Tree)) → NoticeFits (ranges.ranged o)
ranged None = refl
ranged (Some ts) = tt

range_over : (o : Option _) → NoticeFits (ranges.range_over o)
range_over None = tt
range_over (Some s) = ranged _

total_of : (o : Option (List Tree)) → NoticeFits (functions.total_of o)
total_of None = tt
total_of (Some ts) = tt

total : (es : List Tree) → NoticeFits (functions.total_row es)
total [] = tt
total (t ∷ []) = total_of (list_elements t)
total (t ∷ u ∷ es) = tt

transposed : (ts : List Tree) → NoticeFits (partitions.transposed ts)
transposed [] = tt
transposed (r ∷ rs) = grind arith

transposed_of : (o : Option (List Tree)) → NoticeFits (partitions.transposed_of o)
transposed_of None = tt
transposed_of (Some rs) = transposed rs

transpose : (es : List Tree) → NoticeFits (partitions.transpose_row es)
transpose [] = tt
transpose (t ∷ []) = transposed_of (list_elements t)
transpose (t ∷ u ∷ es) = tt

partitioned : (h : Tree) (ts : List Tree) (o : Option ℕ) → NoticeFits (partitions.partition_by h ts o)
partitioned h ts None = tt
partitioned h ts (Some zero) = tt
partitioned h ts (Some (suc n)) = tt

each_headed : (f e : Tree) → NoticeFits (functions.each_with_head f e)
each_headed f e = by_node_fits _ (λ h ts. tt) (node_of e)

apply : (es : List Tree) → NoticeFits (functions.apply_row es)
apply [] = tt
apply (f ∷ []) = tt
apply (f ∷ e ∷ []) = by_node_fits _ (λ h ts. tt) (node_of e)
apply (f ∷ e ∷ m ∷ []) = either (is_level_one m) (functions.each_with_head f e) unchanged (each_headed f e) tt
apply (f ∷ e ∷ m ∷ u ∷ es) = tt

map_apply : (es : List Tree) → NoticeFits (functions.map_apply_row es)
map_apply [] = tt
map_apply (f ∷ []) = tt
map_apply (f ∷ e ∷ []) = each_headed f e
map_apply (f ∷ e ∷ u ∷ es) = tt

mapped : (f e : Tree) (o : Option (Tree × List Tree)) → NoticeFits (functions.mapped f e o)
mapped f e None = tt
mapped f e (Some p) = tt

mapping : (es : List Tree) → NoticeFits (functions.map_row es)
mapping [] = tt
mapping (f ∷ []) = tt
mapping (f ∷ e ∷ []) = mapped f e (node_of e)
mapping (f ∷ e ∷ u ∷ es) = tt

array_of : (f : Tree) (o : Option ℕ) → NoticeFits (arrays.array_of f o)
array_of f None = tt
array_of f (Some n) = tt

array : (es : List Tree) → NoticeFits (arrays.array_row es)
array [] = tt
array (f ∷ []) = tt
array (f ∷ n ∷ []) = array_of f (count_of n)
array (f ∷ n ∷ u ∷ es) = tt

text_length : (es : List Tree) → NoticeFits (strings.string_length_row es)
text_length [] = tt
text_length (num n ∷ es) = tt
text_length (text s ∷ []) = tt
text_length (text s ∷ u ∷ es) = tt
text_length (symbol x ∷ es) = tt
text_length (node h ts ∷ es) = tt

characters : (es : List Tree) → NoticeFits (strings.characters_row es)
characters [] = tt
characters (num n ∷ es) = tt
characters (text s ∷ []) = tt
characters (text s ∷ u ∷ es) = tt
characters (symbol x ∷ es) = tt
characters (node h ts ∷ es) = tt

pub lists_notices : (k : lists_kind.Kind) (es : List Tree) → NoticeFits (lists.row_by k es)
lists_notices l.Head es = head es
lists_notices l.Length es = length_of es
lists_notices l.Depth es = depth_of es
lists_notices l.Order es = order es
lists_notices l.OrderedQ es = of_node_fits _ (λ h ts. tt) es
lists_notices l.First es = of_node_fits _ (λ h ts. given_fits _) es
lists_notices l.Last es = of_node_fits _ (λ h ts. given_fits _) es
lists_notices l.Rest es = of_node_fits _ rest es
lists_notices l.Most es = of_node_fits _ most es
lists_notices l.Append es = of_node_and_fits _ (λ h ts x. tt) es
lists_notices l.Prepend es = of_node_and_fits _ (λ h ts x. tt) es
lists_notices l.Join es = join es
lists_notices l.Reverse es = of_node_fits _ (λ h ts. tt) es
lists_notices l.Sort es = of_node_fits _ (λ h ts. tt) es
lists_notices l.Union es = union es
lists_notices l.DeleteDuplicates es = of_node_fits _ (λ h ts. tt) es
lists_notices l.Part es = part es
lists_notices l.Take es = of_node_and_fits _ (λ h ts x. taken h ts _) es
lists_notices l.Drop es = of_node_and_fits _ (λ h ts x. dropped h ts _) es
lists_notices l.Flatten es = flatten es
lists_notices l.Range es = range_over (span_of es)
lists_notices l.Total es = total es
lists_notices l.Transpose es = transpose es
lists_notices l.Partition es = of_node_and_fits _ (λ h ts x. partitioned h ts (count_of x)) es
lists_notices l.Apply es = apply es
lists_notices l.MapApply es = map_apply es
lists_notices l.Map es = mapping es
lists_notices l.Array es = array es
lists_notices l.StringJoin es = grind arith
lists_notices l.StringLength es = text_length es
lists_notices l.Characters es = characters es
lists_notices l.ToString es = to_text es
lists_notices l.MakeBoxes es = boxed es
lists_notices l.Evaluate es = evaluated es
lists_notices l.ReleaseHold es = released es
lists_notices l.Identity es = identity es
