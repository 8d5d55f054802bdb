-- What is printed keeps the levels: each operand fits its operator. From this alone the syntax tree of a printed text is right.
use Rattle.std.proofs.Common.{ℕ, ℤ, Bool, true, false, ◌≡◌, ◌<◌, ◌≤◌, ◌⊎◌, inl, List, [], ◌∷◌, refl, sym, ◌∙◌, subst, arith, cond}
use Rattle.std.specs.Prelude.{nat_lt, nat_le, ◌==◌, ◌^◌, pos, negsuc}
use Rattle.std.specs.Str.{IsUtf8, bytes_eq}
use Rattle.std.proofs.lemmas.Bool.Decides.{nat_tests}
use Rattle.std.proofs.lemmas.Slice.Eq.{bytes_eq-Decides}
use Rattle.wl_exact.specs.Fraction.{IsNumber}
use Rattle.wl_form.specs.declared.operator.Infix.{Infix}
use Rattle.wl_form.specs.declared.operator.Infix.TheVariants.{Message, Semi}
use Rattle.wl_form.specs.declared.operator.Prefix.{Prefix}
use Rattle.wl_form.specs.declared.operator.Prefix.TheVariants.{Negate, Not}
use Rattle.wl_form.specs.declared.operator.Postfix.{Postfix}
use Rattle.wl_form.specs.declared.operator.Postfix.TheVariants.{Factorial, Repeated, RepeatedNull}
use Rattle.wl_form.specs.Operators.{infix_level, prefix_level, postfix_level, takes_equal}
use Rattle.wl_form.specs.Shown.{Shown, number, name, string, pattern, slot, parens, braces, call, part, before, after, chain, ended, Elems, none, more, Links, nothing, behind, level, links_level, is_below_zero, text_of}
use Rattle.wl_form.specs.Texts.{ends_in_stop}
use Rattle.wl_syntax.specs.declared.operator.Infix.TheVariants as read_infix
use Rattle.wl_syntax.specs.Chain.{is_chain}
use Rattle.wl_syntax.specs.Table as table
use Rattle.wl_syntax.specs.Table.{takes, leaves, leans_left, leans_right}
use Rattle.wl_syntax.specs.Tree as tree
use Rattle.wl_syntax.specs.Tree.{Tree, right_edge, left_edge, ends_last, Each, TakesLeft, TakesRight, Right, RightElems, Asks}
use Rattle.wl_reading_back.proofs.Classes.{IsWord}
use Rattle.wl_reading_back.proofs.Words.{MaybeWord, PatternEnd}
use Rattle.wl_reading_back.specs.Written.{as_infix, as_prefix, as_postfix, written, written_elems, linked, signed, digits_of}

abbrev pub IsNamed : Shown → Type 0
IsNamed s = (x : List ℕ) × (s ≡ name x)

-- what `::` asks: a name on each side
abbrev pub OnNames : Infix → Shown → Links → Shown → Type 0
OnNames Message s ls r = (ls ≡ nothing) × IsNamed s × IsNamed r
OnNames _ s ls r = Unit {0}

-- only chains go on, by operators of one head
abbrev pub GoesOnFrom : ℕ → Links → Infix → Type 0
GoesOnFrom q nothing o = Unit {0}
GoesOnFrom q (behind ls p s) o = (is_chain q ≡ true) × (bytes_eq (table.infix_name (as_infix p)) (table.infix_name (as_infix o)) ≡ true)

abbrev pub fits_right : ℕ → ℕ → Bool
fits_right q p = cond (takes_equal q) (nat_le p q) (nat_lt p q)

-- a repeated pattern doesn't end in a full stop
abbrev pub NoStop : Postfix → Shown → Type 0
NoStop Repeated s = ends_in_stop (text_of s) ≡ false
NoStop RepeatedNull s = ends_in_stop (text_of s) ≡ false
NoStop _ s = Unit {0}

unfoldable mutual
  pub Well : Shown → Type 0
  Well (number f) = IsNumber f
  Well (name s) = IsWord s
  Well (string s) = IsUtf8 s
  Well (pattern x k h) = MaybeWord x × PatternEnd k h
  Well (slot d n) = n < 2 ^ 127
  Well (parens s) = Well s
  Well (braces xs) = WellElems xs
  Well (call f xs) = Well f × (level f ≤ 3) × WellElems xs
  Well (part f xs s) = Well f × (level f < 3) × WellElems xs × Well s
  Well (before o s) = Well s × (level s < prefix_level o)
  Well (after s o) = Well s × (level s < postfix_level o) × NoStop o s
  Well (chain s ls) = Well s × (level s < links_level ls) × WellLinks (links_level ls) s ls
  Well (ended s ls) = Well s × (level s < 30) × WellLinks 30 s ls

  pub WellElems : Elems → Type 0
  WellElems none = Unit {0}
  WellElems (more xs s) = WellElems xs × Well s

  pub WellLinks : ℕ → Shown → Links → Type 0
  WellLinks q s nothing = Unit {0}
  WellLinks q s (behind ls o r) = WellLinks q s ls × Well r × (infix_level o ≡ q) × (fits_right q (level r) ≡ true) × OnNames o s ls r × GoesOnFrom q ls o

-- the levels of the two tables

pub same_infix_level : (o : Infix) → table.infix_level (as_infix o) ≡ infix_level o
unfolding table.infix_level
same_infix_level Message = refl
same_infix_level _ = refl

pub same_prefix_level : (o : Prefix) → table.prefix_level (as_prefix o) ≡ prefix_level o
unfolding table.prefix_level
same_prefix_level Negate = refl
same_prefix_level _ = refl

pub same_postfix_level : (o : Postfix) → table.postfix_level (as_postfix o) ≡ postfix_level o
unfolding table.postfix_level
same_postfix_level Factorial = refl
same_postfix_level _ = refl

-- levels on the edges

abbrev pub UpTo : ℕ → List ℕ → Type 0
UpTo q ns = Each (λ n. nat_le n q) ns

up_to_more : (p q n : ℕ) → nat_le n p ≡ true → p ≤ q → nat_le n q ≡ true
up_to_more p q n h l = grind (arith, nat_tests)

pub all_up_to : (p q : ℕ) (ns : List ℕ) → p ≤ q → UpTo p ns → UpTo q ns
all_up_to p q [] l h = tt
all_up_to p q (n ∷ ns) l h = (up_to_more p q n h.0 l, all_up_to p q ns l h.1)

takes_below : (p q n : ℕ) → nat_le n p ≡ true → p < q → takes q n ≡ true
unfolding takes
takes_below p q n h l = grind (arith, nat_tests)

pub each_takes : (p q : ℕ) (ns : List ℕ) → p < q → UpTo p ns → Each (takes q) ns
each_takes p q [] l h = tt
each_takes p q (n ∷ ns) l h = (takes_below p q n h.0 l, each_takes p q ns l h.1)

leaves_below : (p q n : ℕ) → nat_le n p ≡ true → p < q → leaves q n ≡ true
unfolding leaves
leaves_below p q n h l = grind (arith, nat_tests)

pub each_leaves : (p q : ℕ) (ns : List ℕ) → p < q → UpTo p ns → Each (leaves q) ns
each_leaves p q [] l h = tt
each_leaves p q (n ∷ ns) l h = (leaves_below p q n h.0 l, each_leaves p q ns l h.1)

-- an operator that goes on takes its own level on its left
takes_chain : (q : ℕ) → is_chain q ≡ true → takes q q ≡ true
unfolding takes leans_left leans_right
takes_chain q h = grind (arith, nat_tests)

-- a right operand that fits
leaves_fitting : (p q n : ℕ) → fits_right q p ≡ true → nat_le n p ≡ true → leaves q n ≡ true
unfolding leaves leans_right
leaves_fitting p q n f h = grind (arith, nat_tests)

each_leaves_fitting : (p q : ℕ) (ns : List ℕ) → fits_right q p ≡ true → UpTo p ns → Each (leaves q) ns
each_leaves_fitting p q [] f h = tt
each_leaves_fitting p q (n ∷ ns) f h = (leaves_fitting p q n f h.0, each_leaves_fitting p q ns f h.1)

pub fitting_le : (p q : ℕ) → fits_right q p ≡ true → p ≤ q
fitting_le p q f = grind (arith, nat_tests)

takes_three : (n p : ℕ) → nat_le n p ≡ true → p ≤ 3 → takes 3 n ≡ true
unfolding takes leans_left leans_right
takes_three n p h l = grind (arith, nat_tests)

each_takes_three : (p : ℕ) (ns : List ℕ) → p ≤ 3 → UpTo p ns → Each (takes 3) ns
each_takes_three p [] l h = tt
each_takes_three p (n ∷ ns) l h = (takes_three n p h.0 l, each_takes_three p ns l h.1)

-- numbers

abbrev signed_level : ℤ → ℕ
signed_level n = cond (is_below_zero n) 10 0

number_right_up : (n : ℤ) (d : ℕ) (b : Bool) → UpTo (cond b (signed_level n) 11) (right_edge (cond b (signed n) (tree.between (signed n) read_infix.Divide (digits_of d))))
unfolding right_edge table.infix_level table.prefix_level
number_right_up (pos n) d true = tt
number_right_up (negsuc n) d true = (refl, tt)
number_right_up n d false = (refl, tt)

number_left_up : (n : ℤ) (d : ℕ) (b : Bool) → UpTo (cond b (signed_level n) 11) (left_edge (cond b (signed n) (tree.between (signed n) read_infix.Divide (digits_of d))))
unfolding left_edge table.infix_level table.prefix_level
number_left_up (pos n) d true = tt
number_left_up (negsuc n) d true = tt
number_left_up (pos n) d false = (refl, tt)
number_left_up (negsuc n) d false = (refl, tt)

number_right : (n : ℤ) (d : ℕ) (b : Bool) → Right (cond b (signed n) (tree.between (signed n) read_infix.Divide (digits_of d)))
unfolding Right right_edge left_edge ends_last table.infix_level table.prefix_level takes leaves leans_left leans_right
number_right (pos n) d true = tt
number_right (negsuc n) d true = (tt, tt)
number_right (pos n) d false = (tt, tt, (tt, refl), tt, tt)
number_right (negsuc n) d false = ((tt, tt), tt, ((refl, tt), refl), tt, tt)

number_ends : (n : ℤ) (d : ℕ) (b : Bool) → ends_last (cond b (signed n) (tree.between (signed n) read_infix.Divide (digits_of d))) ≡ false
unfolding ends_last
number_ends (pos n) d true = refl
number_ends (negsuc n) d true = refl
number_ends n d false = refl

-- a level and an equal one
same_le : (p q : ℕ) → p ≡ q → nat_le p q ≡ true
same_le p q e = grind (arith, nat_tests)

-- the edges bind no looser than the whole

mutual
  unfolding Well right_edge

  pub right_up : (s : Shown) → Well s → UpTo (level s) (right_edge (written s))
  right_up (number f) w = number_right_up f.num f.den (f.den == 1)
  right_up (name s) w = tt
  right_up (string s) w = tt
  right_up (pattern x k h) w = tt
  right_up (slot d n) w = tt
  right_up (parens s) w = tt
  right_up (braces xs) w = tt
  right_up (call f xs) w = tt
  right_up (part f xs s) w = tt
  right_up (before o s) w = (same_le _ _ (same_prefix_level o), all_up_to (level s) (prefix_level o) (right_edge (written s)) (omega (arith, w.1)) (right_up s w.0))
  right_up (after s o) w = tt
  right_up (chain s ls) w = links_right_up (links_level ls) s ls (right_up s w.0) w.1 w.2
  right_up (ended s ls) w = tt

  links_right_up : (q : ℕ) (s : Shown) (ls : Links) → UpTo (level s) (right_edge (written s)) → level s < q → WellLinks q s ls → UpTo q (right_edge (linked (written s) ls))
  links_right_up q s nothing w l h = all_up_to (level s) q (right_edge (written s)) (omega (arith, l)) w
  links_right_up q s (behind ls o r) w l h = (same_le _ _ (same_infix_level o ∙ h.2), all_up_to (level r) q (right_edge (written r)) (fitting_le (level r) q h.3) (right_up r h.1))

mutual
  unfolding Well left_edge

  pub left_up : (s : Shown) → Well s → UpTo (level s) (left_edge (written s))
  left_up (number f) w = number_left_up f.num f.den (f.den == 1)
  left_up (name s) w = tt
  left_up (string s) w = tt
  left_up (pattern x k h) w = tt
  left_up (slot d n) w = tt
  left_up (parens s) w = tt
  left_up (braces xs) w = tt
  left_up (call f xs) w = (refl, all_up_to (level f) 3 (left_edge (written f)) w.1 (left_up f w.0))
  left_up (part f xs s) w = (refl, all_up_to (level f) 3 (left_edge (written f)) (omega (arith, w.1)) (left_up f w.0))
  left_up (before o s) w = tt
  left_up (after s o) w = (same_le _ _ (same_postfix_level o), all_up_to (level s) (postfix_level o) (left_edge (written s)) (omega (arith, w.1)) (left_up s w.0))
  left_up (chain s ls) w = links_left_up (links_level ls) s ls (left_up s w.0) w.1 w.2
  left_up (ended s ls) w = (refl, links_left_up 30 s ls (left_up s w.0) w.1 w.2)

  links_left_up : (q : ℕ) (s : Shown) (ls : Links) → UpTo (level s) (left_edge (written s)) → level s < q → WellLinks q s ls → UpTo q (left_edge (linked (written s) ls))
  links_left_up q s nothing w l h = all_up_to (level s) q (left_edge (written s)) (omega (arith, l)) w
  links_left_up q s (behind ls o r) w l h = (same_le _ _ (same_infix_level o ∙ h.2), links_left_up q s ls w l h.0)

-- a postfix `;` stands at the end of nothing that binds tighter
postfix_low : (o : Prefix) → prefix_level o < 30
postfix_low Negate = omega arith
postfix_low Not = omega arith

right_low : (p q : ℕ) → fits_right q p ≡ true → (q < 30) ⊎ (q ≡ 30) → p < 30
right_low p q f e = grind (arith, nat_tests)

mutual
  unfolding Well ends_last

  pub ends_open : (s : Shown) → Well s → level s < 30 → ends_last (written s) ≡ false
  ends_open (number f) w l = number_ends f.num f.den (f.den == 1)
  ends_open (name s) w l = refl
  ends_open (string s) w l = refl
  ends_open (pattern x k h) w l = refl
  ends_open (slot d n) w l = refl
  ends_open (parens s) w l = refl
  ends_open (braces xs) w l = refl
  ends_open (call f xs) w l = refl
  ends_open (part f xs s) w l = refl
  ends_open (before o s) w l = ends_open s w.0 (omega (arith, w.1, postfix_low o))
  ends_open (after s o) w l = refl
  ends_open (chain s ls) w l = links_open (links_level ls) s ls (ends_open s w.0 (omega (arith, w.1, l))) w.2 (inl l)
  ends_open (ended s ls) w l = absurd (omega (arith, l))

  links_open : (q : ℕ) (s : Shown) (ls : Links) → ends_last (written s) ≡ false → WellLinks q s ls → (q < 30) ⊎ (q ≡ 30) → ends_last (linked (written s) ls) ≡ false
  links_open q s nothing w h e = w
  links_open q s (behind ls o r) w h e = ends_open r h.1 (right_low (level r) q h.3 e)

-- operands of a chain bind tighter
pub chain_strict : (p q : ℕ) → is_chain q ≡ true → fits_right q p ≡ true → p < q
chain_strict p q g f = grind (arith, nat_tests)

below_thirty : (p q : ℕ) → is_chain q ≡ true → fits_right q p ≡ true → q ≤ 30 → p < 30
below_thirty p q g f m = omega (arith, chain_strict p q g f)

pub same_name : (n : List ℕ) → bytes_eq n n ≡ true
same_name n = (bytes_eq-Decides n n).1 refl

-- what single operators ask
asks : (o : Infix) (s : Shown) (ls : Links) (r : Shown) → OnNames o s ls r → Asks (as_infix o) (linked (written s) ls) (written r)
unfolding tree.is_name tree.is_name_or_text
asks Message s ls r (e, (x, f), (y, g)) = rw (e, f, g) (refl, refl)
asks _ s ls r h = tt

-- the left side of an operator of level q
links_left : (q : ℕ) (s : Shown) (ls : Links) (o : Infix) → UpTo (level s) (right_edge (written s)) → ends_last (written s) ≡ false → level s < q → q ≤ 30 → WellLinks q s ls → GoesOnFrom q ls o → TakesLeft q (linked (written s) ls)
unfolding Well right_edge ends_last
links_left q s nothing o u e l m h g = (each_takes (level s) q (right_edge (written s)) l u, e)
links_left q s (behind ls p r) o u e l m h g = (
  (subst (λ n. takes q n ≡ true) (sym (same_infix_level p ∙ h.2)) (takes_chain q g.0), each_takes (level r) q (right_edge (written r)) (chain_strict (level r) q g.0 h.3) (right_up r h.1)),
  ends_open r h.1 (below_thirty (level r) q g.0 h.3 m),
)

operand_left : (p : ℕ) (l : Tree) (q r : ℕ) → r ≡ q → p < q → UpTo p (right_edge l) → ends_last l ≡ false → TakesLeft r l
operand_left p l q r e h u f = rw e (each_takes p q (right_edge l) h u, f)

operand_right : (p : ℕ) (t : Tree) (q r : ℕ) → r ≡ q → fits_right q p ≡ true → UpTo p (left_edge t) → TakesRight r t
operand_right p t q r e f u = rw e (each_leaves_fitting p q (left_edge t) f u)

low_postfix : (o : Postfix) → postfix_level o < 30
low_postfix Factorial = omega arith
low_postfix _ = omega arith

low_infix : (o : Infix) → infix_level o ≤ 30
low_infix Message = omega arith
low_infix _ = omega arith

pub low_links : (ls : Links) → links_level ls ≤ 30
low_links nothing = omega arith
low_links (behind ls o s) = low_infix o

open_below : (s : Shown) → Well s → (q : ℕ) → level s < q → q ≤ 30 → ends_last (written s) ≡ false
open_below s w q l m = ends_open s w (omega (arith, l, m))

-- statements take a last `;`
ended_left : (s : Shown) (ls : Links) → UpTo (level s) (right_edge (written s)) → ends_last (written s) ≡ false → level s < 30 → WellLinks 30 s ls → TakesLeft 30 (linked (written s) ls)
unfolding Well
ended_left s nothing u e l w = links_left 30 s nothing Semi u e l (omega arith) w tt
ended_left s (behind ls o r) u e l w = links_left 30 s (behind ls o r) o u e l (omega arith) w (refl, same_name (table.infix_name (as_infix o)))

mutual
  unfolding Well Right

  pub right_tree : (s : Shown) → Well s → Right (written s)
  right_tree (number f) w = number_right f.num f.den (f.den == 1)
  right_tree (name s) w = tt
  right_tree (string s) w = tt
  right_tree (pattern x k h) w = tt
  right_tree (slot d n) w = tt
  right_tree (parens s) w = right_tree s w
  right_tree (braces xs) w = right_elems xs w
  right_tree (call f xs) w = (right_tree f w.0, (each_takes_three (level f) (right_edge (written f)) w.1 (right_up f w.0), ends_open f w.0 (omega (arith, w.1))), right_elems xs w.2)
  right_tree (part f xs s) w = (right_tree f w.0, (each_takes_three (level f) (right_edge (written f)) (omega (arith, w.1)) (right_up f w.0), ends_open f w.0 (omega (arith, w.1))), right_elems xs w.2, right_tree s w.3)
  right_tree (before o s) w = (right_tree s w.0, rw (same_prefix_level o) (each_leaves (level s) (prefix_level o) (left_edge (written s)) w.1 (left_up s w.0)))
  right_tree (after s o) w = (right_tree s w.0, operand_left (level s) (written s) (postfix_level o) (table.postfix_level (as_postfix o)) (same_postfix_level o) w.1 (right_up s w.0) (open_below s w.0 (postfix_level o) w.1 (omega (arith, low_postfix o))))
  right_tree (chain s ls) w = right_links (links_level ls) s ls (low_links ls) (right_tree s w.0) (right_up s w.0) (left_up s w.0) (open_below s w.0 (links_level ls) w.1 (low_links ls)) w.1 w.2
  right_tree (ended s ls) w = (
    right_links 30 s ls (omega arith) (right_tree s w.0) (right_up s w.0) (left_up s w.0) (open_below s w.0 30 w.1 (omega arith)) w.1 w.2,
    ended_left s ls (right_up s w.0) (open_below s w.0 30 w.1 (omega arith)) w.1 w.2,
  )

  right_elems : (xs : Elems) → WellElems xs → RightElems (written_elems xs)
  right_elems none w = tt
  right_elems (more xs s) w = (right_elems xs w.0, right_tree s w.1)

  right_links : (q : ℕ) (s : Shown) (ls : Links) → q ≤ 30 → Right (written s) → UpTo (level s) (right_edge (written s)) → UpTo (level s) (left_edge (written s)) → ends_last (written s) ≡ false → level s < q → WellLinks q s ls → Right (linked (written s) ls)
  right_links q s nothing m h u v e l w = h
  right_links q s (behind ls o r) m h u v e l w = (
    right_links q s ls m h u v e l w.0,
    right_tree r w.1,
    subst (λ n. TakesLeft n (linked (written s) ls)) (sym (same_infix_level o ∙ w.2)) (links_left q s ls o u e l m w.0 w.5),
    operand_right (level r) (written r) q (table.infix_level (as_infix o)) (same_infix_level o ∙ w.2) w.3 (left_up r w.1),
    asks o s ls r w.4,
  )
