-- The pieces and the levels of what is printed, and what the writer has written.
use Rattle.std.proofs.Common.{ℕ, Bool, true, false, not, cond, ◌≡◌, ◌<◌, ◌+◌, ◌==◌, List, [], ◌∷◌, ◌++◌, length, refl, sym, ap, ◌∙◌, append_assoc, append-nil, arith, codes}
use Rattle.std.specs.Prelude.{nat_lt, nat_le, ◌&&◌, if◌then◌else◌, Option, Some, None, unsigned_abs}
use Rattle.wl_ports.specs.Name.{is_name}
use Rattle.std.proofs.lemmas.Bool.{cond_both}
use Rattle.std.proofs.lemmas.Bool.Decides.{nat_tests}
use Rattle.wl_exact.specs.Fraction.{Fraction}
use Rattle.wl_expr.specs.Stamped.{Stamped, plain, plains, from_list}
use Rattle.wl_expr.specs.Tree as tree
use Rattle.wl_expr.specs.Tree.{Tree, Trees}
use Rattle.wl_form.specs.declared.operator.Infix.{Infix}
use Rattle.wl_form.specs.declared.operator.Infix.TheVariants.{Message, Semi}
use Rattle.wl_form.specs.declared.operator.Prefix.{Prefix}
use Rattle.wl_form.specs.declared.operator.Prefix.TheVariants.{Negate, Not}
use Rattle.wl_form.specs.declared.operator.Postfix.{Postfix}
use Rattle.wl_form.specs.declared.operator.Postfix.TheVariants.{Factorial}
use Rattle.wl_form.specs.declared.operator.Marks.{Marks}
use Rattle.wl_form.specs.declared.operator.Marks.TheVariants.{One, Two, Three}
use Rattle.wl_form.specs.declared.operator.Row.{Row}
use Rattle.wl_form.specs.declared.operator.Row.TheVariants as row
use Rattle.wl_form.specs.Boxes.{Piece, between, boxed, box_of, operand_pieces, pieces, elem_pieces, link_pieces}
use Rattle.wl_form.specs.Heads.{row_of}
use Rattle.wl_form.specs.Operators.{infix_level, infix_text, prefix_level, prefix_text, postfix_level, postfix_text, takes_equal}
use Rattle.wl_form.specs.Pages.{Page, writing, boxing, large, opened, put_text, taken}
use Rattle.wl_form.specs.Shown.{Shown, level, number, name, string, pattern, slot, parens, braces, call, part, before, after, chain, ended, Elems, none, more, is_negative, is_below_zero, Links, nothing, behind, operand, operand_or_equal, right_operand, links_level, comma_after}
use Rattle.wl_form.specs.Table.{Showing, showing, showings, joined, links_after, terms_after, added, taken_off, opposite, number_showing, product_by, Turn, opposed, dropped, stays, turn_of, first_number, by_row, elems, elems_after, part_of, or_else, blanks_of, blanks_by, named_blanks, default_by, default_named, default_of, default_of_pattern, pattern_of, optional_of, slot_of, message_of, colon, is_symbol, statements, ends_in_null}
use Rattle.wl_form.specs.Words.{message_shown}
use Rattle.wl_form.specs.Writing.{opening, closing, placed, further_pieces, term_pieces, terms_pieces, more_pieces, row_pieces, Closed, call_shown, pair_shown, before_shown, after_shown, sum_shown, part_shown}
use Rattle.wl_form.proofs.Pages.{taken_append}

-- what is printed stands in no parentheses

abbrev pub is_parens : Shown → Bool
is_parens (parens s) = true
is_parens _ = false

pub bare_pieces : (s : Shown) (ps : List Piece) → is_parens s ≡ false → operand_pieces s ps ≡ boxed (box_of ps) ∷ []
bare_pieces (parens s) ps h = absurd (cc)
bare_pieces (number f) ps h = refl
bare_pieces (name s) ps h = refl
bare_pieces (string s) ps h = refl
bare_pieces (pattern x k i) ps h = refl
bare_pieces (slot d n) ps h = refl
bare_pieces (braces xs) ps h = refl
bare_pieces (call f xs) ps h = refl
bare_pieces (part f xs s) ps h = refl
bare_pieces (before o s) ps h = refl
bare_pieces (after s o) ps h = refl
bare_pieces (chain s ls) ps h = refl
bare_pieces (ended s ls) ps h = refl

other_way : (l q : ℕ) → nat_le q l ≡ not (nat_lt l q)
other_way l q = grind (arith, nat_tests)

pub operand_placed : (q : ℕ) (s : Shown) → is_parens s ≡ false → operand_pieces (operand q s) (pieces (operand q s)) ≡ placed q s
operand_placed q s h = go (nat_lt (level s) q) (nat_le q (level s)) (other_way (level s) q)
  where
    go : (a b : Bool) → b ≡ not a → operand_pieces (if a then s else parens s) (pieces (if a then s else parens s)) ≡ opening b ++ (boxed (box_of (pieces s)) ∷ closing b)
    go true true e = absurd (cc)
    go true false e = bare_pieces s (pieces s) h
    go false true e = refl
    go false false e = absurd (cc)

abbrev pub Bare : Showing → Type 0
Bare x = is_parens x.whole ≡ false

abbrev pub AllBare : List Showing → Type 0
AllBare [] = Unit {0}
AllBare (y ∷ ys) = Bare y × AllBare ys

number_bare : (f : Fraction) → Bare (number_showing f)
number_bare f = cond_both (is_negative f) (taken_off (number f) (number (opposite f))) (added (number f)) (λ x. is_parens x.whole ≡ false) (λ _. refl) (λ _. refl)

product_bare : (T : Turn) (f : Fraction) (x y : Showing) (ys : List Showing) → Bare (product_by T f x y ys)
product_bare dropped f x y [] = refl
product_bare dropped f x y (z ∷ zs) = refl
product_bare opposed f x y ys = refl
product_bare stays f x y ys = refl

part_bare : (f : Shown) (xs : Elems) (y : Showing) (ys : List Showing) → is_parens (part_of f xs y ys) ≡ false
part_bare f xs y [] = refl
part_bare f xs y (z ∷ zs) = part_bare f (more xs y.whole) z zs

abbrev BareOption : Option Shown → Type 0
BareOption None = Unit {0}
BareOption (Some s) = is_parens s ≡ false

else_bare : (o : Option Shown) (s : Shown) → BareOption o → is_parens s ≡ false → is_parens (or_else o s) ≡ false
else_bare None s b h = h
else_bare (Some t) s b h = b

blanks_bare : (k : Marks) (x : List ℕ) (ts : Trees) → BareOption (blanks_of k x ts)
blanks_bare k x tree.none = refl
blanks_bare k x (tree.more (tree.symbol s) tree.none) = refl
blanks_bare k x (tree.more (tree.symbol s) (tree.more t ts)) = tt
blanks_bare k x (tree.more (tree.num f) ts) = tt
blanks_bare k x (tree.more (tree.text s) ts) = tt
blanks_bare k x (tree.more (tree.node h us) ts) = tt

blanks_by_bare : (r : Row) (x : List ℕ) (ts : Trees) → BareOption (blanks_by r x ts)
blanks_by_bare (row.Blanks k) x ts = blanks_bare k x ts
blanks_by_bare _ x ts = tt

named_bare : (x : List ℕ) (t : Tree) → BareOption (named_blanks x t)
named_bare x (tree.node h ts) = blanks_by_bare (row_of h) x ts
named_bare x (tree.num f) = tt
named_bare x (tree.text s) = tt
named_bare x (tree.symbol s) = tt

pattern_bare : (ts : Trees) (other : Shown) → is_parens other ≡ false → is_parens (pattern_of ts (showings ts) other) ≡ false
pattern_bare tree.none other h = h
pattern_bare (tree.more (tree.symbol x) tree.none) other h = h
pattern_bare (tree.more (tree.symbol x) (tree.more p tree.none)) other h = else_bare (named_blanks x p) (colon (name x) (showing p)) (named_bare x p) refl
pattern_bare (tree.more (tree.symbol x) (tree.more p (tree.more t ts))) other h = h
pattern_bare (tree.more (tree.num f) ts) other h = h
pattern_bare (tree.more (tree.text s) ts) other h = h
pattern_bare (tree.more (tree.node i is) ts) other h = h

default_by_bare : (r : Row) (x : List ℕ) → BareOption (default_by r x)
default_by_bare (row.Blanks One) x = refl
default_by_bare (row.Blanks Two) x = tt
default_by_bare (row.Blanks Three) x = tt
default_by_bare _ x = tt

default_named_bare : (x : List ℕ) (t : Tree) → BareOption (default_named x t)
default_named_bare x (tree.node h tree.none) = default_by_bare (row_of h) x
default_named_bare x (tree.node h (tree.more t ts)) = tt
default_named_bare x (tree.num f) = tt
default_named_bare x (tree.text s) = tt
default_named_bare x (tree.symbol s) = tt

default_pattern_bare : (r : Row) (ts : Trees) → BareOption (default_of_pattern r ts)
default_pattern_bare (row.Blanks One) tree.none = refl
default_pattern_bare (row.Blanks One) (tree.more t ts) = tt
default_pattern_bare (row.Blanks Two) ts = tt
default_pattern_bare (row.Blanks Three) ts = tt
default_pattern_bare row.Pattern tree.none = tt
default_pattern_bare row.Pattern (tree.more (tree.symbol x) tree.none) = tt
default_pattern_bare row.Pattern (tree.more (tree.symbol x) (tree.more p tree.none)) = default_named_bare x p
default_pattern_bare row.Pattern (tree.more (tree.symbol x) (tree.more p (tree.more t ts))) = tt
default_pattern_bare row.Pattern (tree.more (tree.num f) ts) = tt
default_pattern_bare row.Pattern (tree.more (tree.text s) ts) = tt
default_pattern_bare row.Pattern (tree.more (tree.node i is) ts) = tt
default_pattern_bare _ ts = tt

default_bare : (t : Tree) → BareOption (default_of t)
default_bare (tree.node h ts) = default_pattern_bare (row_of h) ts
default_bare (tree.num f) = tt
default_bare (tree.text s) = tt
default_bare (tree.symbol s) = tt

optional_bare : (ts : Trees) (other : Shown) → is_parens other ≡ false → is_parens (optional_of ts (showings ts) other) ≡ false
optional_bare tree.none other h = h
optional_bare (tree.more p tree.none) other h = else_bare (default_of p) other (default_bare p) h
optional_bare (tree.more p (tree.more d tree.none)) other h = cond_both (is_symbol p) other (colon (showing p).whole (showing d)) (λ s. is_parens s ≡ false) (λ _. h) (λ _. refl)
optional_bare (tree.more p (tree.more d (tree.more t ts))) other h = h

slot_bare : (d : Bool) (ts : Trees) (other : Shown) → is_parens other ≡ false → is_parens (slot_of d ts other) ≡ false
slot_bare d tree.none other h = h
slot_bare d (tree.more (tree.num f) tree.none) other h = cond_both (not (is_negative f) && (f.den == 1)) (slot d (unsigned_abs f.num)) other (λ s. is_parens s ≡ false) (λ _. refl) (λ _. h)
slot_bare d (tree.more (tree.num f) (tree.more t ts)) other h = h
slot_bare d (tree.more (tree.text s) ts) other h = h
slot_bare d (tree.more (tree.symbol s) ts) other h = h
slot_bare d (tree.more (tree.node i is) ts) other h = h

message_bare : (ts : Trees) (other : Shown) → is_parens other ≡ false → is_parens (message_of ts other) ≡ false
message_bare tree.none other h = h
message_bare (tree.more (tree.symbol s) tree.none) other h = h
message_bare (tree.more (tree.symbol s) (tree.more (tree.text t) tree.none)) other h = cond_both (is_name t) (message_shown s t) other (λ s. is_parens s ≡ false) (λ _. refl) (λ _. h)
message_bare (tree.more (tree.symbol s) (tree.more (tree.text t) (tree.more u us))) other h = h
message_bare (tree.more (tree.symbol s) (tree.more (tree.num f) us)) other h = h
message_bare (tree.more (tree.symbol s) (tree.more (tree.symbol t) us)) other h = h
message_bare (tree.more (tree.symbol s) (tree.more (tree.node i is) us)) other h = h
message_bare (tree.more (tree.num f) ts) other h = h
message_bare (tree.more (tree.text s) ts) other h = h
message_bare (tree.more (tree.node i is) ts) other h = h

statements_bare : (b : Bool) (x y : Showing) (ys : List Showing) → is_parens (statements b x y ys) ≡ false
statements_bare true x y ys = refl
statements_bare false x y ys = refl

row_bare : (r : Row) (ts : Trees) (other : Shown) → is_parens other ≡ false → Bare (by_row r ts (showings ts) other)
row_bare row.List ts other h = refl
row_bare row.Sum tree.none other h = h
row_bare row.Sum (tree.more t tree.none) other h = h
row_bare row.Sum (tree.more t (tree.more u us)) other h = refl
row_bare row.Product tree.none other h = h
row_bare row.Product (tree.more t tree.none) other h = h
row_bare row.Product (tree.more t (tree.more u us)) other h = product_bare (turn_of (tree.more t (tree.more u us))) (first_number (tree.more t (tree.more u us))) (showing t) (showing u) (showings us)
row_bare (row.Chain o) tree.none other h = h
row_bare (row.Chain o) (tree.more t tree.none) other h = h
row_bare (row.Chain o) (tree.more t (tree.more u us)) other h = refl
row_bare (row.Pair o) tree.none other h = h
row_bare (row.Pair o) (tree.more t tree.none) other h = h
row_bare (row.Pair o) (tree.more t (tree.more u tree.none)) other h = refl
row_bare (row.Pair o) (tree.more t (tree.more u (tree.more v vs))) other h = h
row_bare row.Not tree.none other h = h
row_bare row.Not (tree.more t tree.none) other h = refl
row_bare row.Not (tree.more t (tree.more u us)) other h = h
row_bare (row.Ends o) tree.none other h = h
row_bare (row.Ends o) (tree.more t tree.none) other h = refl
row_bare (row.Ends o) (tree.more t (tree.more u us)) other h = h
row_bare row.Statements tree.none other h = h
row_bare row.Statements (tree.more t tree.none) other h = h
row_bare row.Statements (tree.more t (tree.more u us)) other h = statements_bare (ends_in_null (tree.more t (tree.more u us))) (showing t) (showing u) (showings us)
row_bare row.Part tree.none other h = h
row_bare row.Part (tree.more t tree.none) other h = h
row_bare row.Part (tree.more t (tree.more u us)) other h = part_bare (operand 3 (showing t).whole) none (showing u) (showings us)
row_bare (row.Blanks k) ts other h = else_bare (blanks_of k [] ts) other (blanks_bare k [] ts) h
row_bare row.Pattern ts other h = pattern_bare ts other h
row_bare row.Optional ts other h = optional_bare ts other h
row_bare (row.Slot d) ts other h = slot_bare d ts other h
row_bare row.Message ts other h = message_bare ts other h
row_bare row.Call ts other h = h

pub showing_bare : (t : Tree) → Bare (showing t)
showing_bare (tree.num f) = number_bare f
showing_bare (tree.text s) = refl
showing_bare (tree.symbol s) = refl
showing_bare (tree.node h ts) = row_bare (row_of h) ts (call_shown (showing h) (showings ts)) refl

pub all_bare : (ts : Trees) → AllBare (showings ts)
all_bare tree.none = tt
all_bare (tree.more t ts) = (showing_bare t, all_bare ts)

-- the pieces of operands behind a first one, and the level of a chain

pub links_after_pieces : (ls : Links) (o : Infix) (ys : List Showing) → AllBare ys → link_pieces (links_after ls o ys) ≡ link_pieces ls ++ further_pieces o ys
links_after_pieces ls o [] h = sym (append-nil (link_pieces ls))
links_after_pieces ls o (y ∷ ys) h =
    links_after_pieces (behind ls o (operand (infix_level o) y.whole)) o ys h.1
    ∙ append_assoc (link_pieces ls) (between (infix_text o) ∷ operand_pieces (operand (infix_level o) y.whole) (pieces (operand (infix_level o) y.whole))) (further_pieces o ys)
    ∙ ap (λ l. link_pieces ls ++ (between (infix_text o) ∷ (l ++ further_pieces o ys))) (operand_placed (infix_level o) y.whole h.0)

pub joined_pieces : (o : Infix) (x : Showing) (ys : List Showing) → Bare x → AllBare ys → pieces (joined o x ys) ≡ placed (infix_level o) x.whole ++ further_pieces o ys
joined_pieces o x ys b h = ap (λ l. l ++ link_pieces (links_after nothing o ys)) (operand_placed (infix_level o) x.whole b) ∙ ap (λ l. placed (infix_level o) x.whole ++ l) (links_after_pieces nothing o ys h)

links_after_level : (ls : Links) (o : Infix) (ys : List Showing) → links_level ls ≡ infix_level o → links_level (links_after ls o ys) ≡ infix_level o
links_after_level ls o [] h = h
links_after_level ls o (y ∷ ys) h = links_after_level (behind ls o (operand (infix_level o) y.whole)) o ys refl

pub joined_level : (o : Infix) (x : Showing) (ts : List Stamped) → 0 < length ts → links_level (links_after nothing o (showings (plains (from_list ts)))) ≡ infix_level o
joined_level o x [] h = absurd (omega (arith, h))
joined_level o x (t ∷ ts) h = links_after_level (behind nothing o (operand (infix_level o) (showing (plain t)).whole)) o (showings (plains (from_list ts))) refl

-- the sign of a term is ` + ` or ` - `

abbrev IsSign : Showing → Type 0
IsSign x = infix_level x.sign ≡ 13

number_sign : (f : Fraction) → IsSign (number_showing f)
number_sign f = cond_both (is_negative f) (taken_off (number f) (number (opposite f))) (added (number f)) (λ x. infix_level x.sign ≡ 13) (λ _. refl) (λ _. refl)

product_sign : (T : Turn) (f : Fraction) (x y : Showing) (ys : List Showing) → IsSign (product_by T f x y ys)
product_sign dropped f x y [] = refl
product_sign dropped f x y (z ∷ zs) = refl
product_sign opposed f x y ys = refl
product_sign stays f x y ys = refl

row_sign : (r : Row) (ts : Trees) (xs : List Showing) (other : Shown) → IsSign (by_row r ts xs other)
row_sign row.Product ts (x ∷ y ∷ ys) other = product_sign (turn_of ts) (first_number ts) x y ys
row_sign row.Product ts [] other = refl
row_sign row.Product ts (x ∷ []) other = refl
row_sign row.Sum ts [] other = refl
row_sign row.Sum ts (x ∷ []) other = refl
row_sign row.Sum ts (x ∷ y ∷ ys) other = refl
row_sign (row.Chain o) ts [] other = refl
row_sign (row.Chain o) ts (x ∷ []) other = refl
row_sign (row.Chain o) ts (x ∷ y ∷ ys) other = refl
row_sign (row.Pair o) ts [] other = refl
row_sign (row.Pair o) ts (x ∷ []) other = refl
row_sign (row.Pair o) ts (x ∷ y ∷ []) other = refl
row_sign (row.Pair o) ts (x ∷ y ∷ z ∷ zs) other = refl
row_sign row.Not ts [] other = refl
row_sign row.Not ts (x ∷ []) other = refl
row_sign row.Not ts (x ∷ y ∷ ys) other = refl
row_sign (row.Ends o) ts [] other = refl
row_sign (row.Ends o) ts (x ∷ []) other = refl
row_sign (row.Ends o) ts (x ∷ y ∷ ys) other = refl
row_sign row.Statements ts [] other = refl
row_sign row.Statements ts (x ∷ []) other = refl
row_sign row.Statements ts (x ∷ y ∷ ys) other = refl
row_sign row.Part ts [] other = refl
row_sign row.Part ts (x ∷ []) other = refl
row_sign row.Part ts (x ∷ y ∷ ys) other = refl
row_sign row.List ts xs other = refl
row_sign (row.Blanks k) ts xs other = refl
row_sign row.Pattern ts xs other = refl
row_sign row.Optional ts xs other = refl
row_sign (row.Slot d) ts xs other = refl
row_sign row.Message ts xs other = refl
row_sign row.Call ts xs other = refl

pub showing_sign : (t : Tree) → IsSign (showing t)
showing_sign (tree.num f) = number_sign f
showing_sign (tree.text s) = refl
showing_sign (tree.symbol s) = refl
showing_sign (tree.node h ts) = row_sign (row_of h) ts (showings ts) _

-- the signs of a sum's terms have its level
abbrev AllSigns : List Showing → Type 0
AllSigns [] = Unit {0}
AllSigns (y ∷ ys) = (infix_level y.sign ≡ 13) × AllSigns ys

all_signs : (ts : Trees) → AllSigns (showings ts)
all_signs tree.none = tt
all_signs (tree.more t ts) = (showing_sign t, all_signs ts)

terms_level : (ls : Links) (ys : List Showing) → links_level ls ≡ 13 → AllSigns ys → links_level (terms_after ls ys) ≡ 13
terms_level ls [] h s = h
terms_level ls (y ∷ ys) h s = terms_level (behind ls y.sign y.term) ys s.0 s.1

-- steps on the page

pub two_steps : (a b c : Page) (x y z : List Piece) → b ≡ taken a x → c ≡ taken b y → z ≡ x ++ y → c ≡ taken a z
two_steps a b c x y z e f g = f ∙ ap (λ p. taken p y) e ∙ sym (taken_append a x y) ∙ ap (λ l. taken a l) (sym g)

pub three_steps : (a b c d : Page) (x y z w : List Piece) → b ≡ taken a x → c ≡ taken b y → d ≡ taken c z → w ≡ x ++ (y ++ z) → d ≡ taken a w
three_steps a b c d x y z w e f g h = two_steps a b d x (y ++ z) w e (two_steps b c d y z (y ++ z) f g refl) h

pub four_steps : (a b c d e : Page) (x y z u w : List Piece) → b ≡ taken a x → c ≡ taken b y → d ≡ taken c z → e ≡ taken d u → w ≡ x ++ (y ++ (z ++ u)) → e ≡ taken a w
four_steps a b c d e x y z u w p q r s h = two_steps a b e x (y ++ (z ++ u)) w p (three_steps b c d e y z u (y ++ (z ++ u)) q r s refl) h

-- What is printed between an opening and a closing: its level is the operator's, and its pieces stand in a row of their own.
pub parenthesised : (q n : ℕ) (s : Shown) (old b c e : Page) → n ≡ level s → b ≡ opened (taken old (opening (nat_le q n))) → c ≡ taken b (pieces s) → Closed (nat_le q n) c e → e ≡ taken old (placed q s)
parenthesised q n s old b c e l f g h =
    h (taken old (opening (nat_le q n))) (pieces s) (g ∙ ap (λ p. taken p (pieces s)) f)
    ∙ sym (taken_append old (opening (nat_le q n)) (boxed (box_of (pieces s)) ∷ closing (nat_le q n)))
    ∙ ap (λ (m : ℕ). taken old (opening (nat_le q m) ++ (boxed (box_of (pieces s)) ∷ closing (nat_le q m)))) l

-- what stands in no parentheses
pub placed_below : (q : ℕ) (s : Shown) → level s < q → placed q s ≡ boxed (box_of (pieces s)) ∷ []
placed_below q s h = ap (λ (b : Bool). opening b ++ (boxed (box_of (pieces s)) ∷ closing b)) (below q (level s) h)
  where
    below : (q n : ℕ) → n < q → nat_le q n ≡ false
    below q n h = grind (arith, nat_tests)

pub boxed_row : (old b c e : Page) (ps : List Piece) → b ≡ opened old → c ≡ taken b ps → Closed false c e → e ≡ taken old (boxed (box_of ps) ∷ [])
boxed_row old b c e ps f g h = h old ps (g ∙ ap (λ p. taken p ps) f)

pub row_placed : (q : ℕ) (s : Shown) (old b c e : Page) → level s < q → b ≡ opened old → c ≡ taken b (pieces s) → Closed false c e → e ≡ taken old (placed q s)
row_placed q s old b c e l f g h = boxed_row old b c e (pieces s) f g h ∙ ap (λ ps. taken old ps) (sym (placed_below q s l))

-- operands

pub or_equal : (q : ℕ) (s : Shown) → operand_or_equal q s ≡ operand (q + 1) s
or_equal q s = ap (λ (b : Bool). if b then s else parens s) (same (level s) q)
  where
    same : (l q : ℕ) → nat_le l q ≡ nat_lt l (q + 1)
    same l q = grind (arith, nat_tests)

pub right_operand_is : (q n : ℕ) (s : Shown) → n ≡ (if takes_equal q then q + 1 else q) → right_operand q s ≡ operand n s
right_operand_is q n s e = go (takes_equal q) n e
  where
    go : (b : Bool) (n : ℕ) → n ≡ (if b then q + 1 else q) → (if b then operand_or_equal q s else operand q s) ≡ operand n s
    go true n e = or_equal q s ∙ ap (λ (m : ℕ). operand m s) (sym e)
    go false n e = ap (λ (m : ℕ). operand m s) (sym e)

low_infix : (o : Infix) → infix_level o < 31
low_infix Message = omega arith
low_infix _ = omega arith

low_prefix : (o : Prefix) → prefix_level o < 31
low_prefix Negate = omega arith
low_prefix Not = omega arith

low_postfix : (o : Postfix) → postfix_level o < 31
low_postfix Factorial = omega arith
low_postfix _ = omega arith

low_links : (ls : Links) → links_level ls < 31
low_links nothing = omega arith
low_links (behind ls o s) = low_infix o

level_max : (s : Shown) → level s < 31
level_max (number f) = cond_both (f.den == 1) (cond (is_below_zero f.num) 10 0) 11 (λ (n : ℕ). n < 31) (λ _. cond_both (is_below_zero f.num) 10 0 (λ (n : ℕ). n < 31) (λ _. omega arith) (λ _. omega arith)) (λ _. omega arith)
level_max (before o s) = low_prefix o
level_max (after s o) = low_postfix o
level_max (chain s ls) = low_links ls
level_max (name s) = omega arith
level_max (string s) = omega arith
level_max (pattern x k h) = omega arith
level_max (slot d n) = omega arith
level_max (parens s) = omega arith
level_max (braces xs) = omega arith
level_max (call f xs) = omega arith
level_max (part f xs s) = omega arith
level_max (ended s ls) = omega arith

pub placed_whole : (s : Shown) → placed 31 s ≡ boxed (box_of (pieces s)) ∷ []
placed_whole s = placed_below 31 s (level_max s)

-- elements

elems_after_pieces : (xs : Elems) (y : Showing) (ys : List Showing) → elem_pieces (elems_after (more xs y.whole) ys) ≡ elem_pieces (more xs y.whole) ++ more_pieces ys
elems_after_pieces xs y [] = sym (append-nil (elem_pieces (more xs y.whole)))
elems_after_pieces xs y (z ∷ zs) =
    elems_after_pieces (more xs y.whole) z zs
    ∙ append_assoc (elem_pieces (more xs y.whole)) (between (codes ", ") ∷ boxed (box_of (pieces z.whole)) ∷ []) (more_pieces zs)
    ∙ ap (λ l. elem_pieces (more xs y.whole) ++ (between (codes ", ") ∷ (l ++ more_pieces zs))) (sym (placed_whole z.whole))

pub elems_row : (ys : List Showing) → elem_pieces (elems ys) ≡ row_pieces ys
elems_row [] = refl
elems_row (y ∷ ys) = elems_after_pieces none y ys ∙ ap (λ l. between [] ∷ (l ++ more_pieces ys)) (sym (placed_whole y.whole))

-- nothing more
put_nothing : (p : Page) → put_text p [] ≡ p
put_nothing (writing w) = ap writing (append-nil w)
put_nothing (boxing l ls) = ap (λ s. boxing record { parts = l.parts; text = s } ls) (append-nil l.text)
put_nothing large = refl

pub elements_written : (x : Showing) (ys : List Showing) (old b c : Page) → b ≡ taken old (placed 31 x.whole) → c ≡ taken b (more_pieces ys) → c ≡ taken old (row_pieces (x ∷ ys))
elements_written x ys old b c e f =
    two_steps old b c (placed 31 x.whole) (more_pieces ys) (placed 31 x.whole ++ more_pieces ys) e f refl
    ∙ ap (λ p. taken p (placed 31 x.whole ++ more_pieces ys)) (sym (put_nothing old))

-- indices

part_pieces : (f : Shown) (xs : Elems) (y : Showing) (ys : List Showing) → pieces (part_of f xs y ys) ≡ operand_pieces f (pieces f) ++ (between (codes "[[") ∷ (elem_pieces (elems_after (more xs y.whole) ys) ++ between (codes "]]") ∷ []))
part_pieces f xs y [] = ap (λ l. operand_pieces f (pieces f) ++ (between (codes "[[") ∷ l)) (sym (append_assoc (elem_pieces xs) (between (comma_after xs) ∷ boxed (box_of (pieces y.whole)) ∷ []) (between (codes "]]") ∷ [])))
part_pieces f xs y (z ∷ zs) = part_pieces f (more xs y.whole) z zs

part_level : (f : Shown) (xs : Elems) (y : Showing) (ys : List Showing) → level (part_of f xs y ys) ≡ 3
part_level f xs y [] = refl
part_level f xs y (z ∷ zs) = part_level f (more xs y.whole) z zs

-- sums

terms_after_pieces : (ls : Links) (ys : List Showing) → link_pieces (terms_after ls ys) ≡ link_pieces ls ++ terms_pieces ys
terms_after_pieces ls [] = sym (append-nil (link_pieces ls))
terms_after_pieces ls (y ∷ ys) = terms_after_pieces (behind ls y.sign y.term) ys ∙ append_assoc (link_pieces ls) (term_pieces y) (terms_pieces ys)

sum_pieces : (x : Showing) (ys : List Showing) → Bare x → pieces (sum_shown x ys) ≡ placed 13 x.whole ++ terms_pieces ys
sum_pieces x ys h = ap (λ l. l ++ link_pieces (terms_after nothing ys)) (operand_placed 13 x.whole h) ∙ ap (λ l. placed 13 x.whole ++ l) (terms_after_pieces nothing ys)

sum_level : (x : Showing) (ts : List Stamped) → 0 < length ts → 13 ≡ level (sum_shown x (showings (plains (from_list ts))))
sum_level x [] h = absurd (omega (arith, h))
sum_level x (t ∷ ts) h = sym (terms_level (behind nothing (showing (plain t)).sign (showing (plain t)).term) (showings (plains (from_list ts))) (showing_sign (plain t)) (all_signs (plains (from_list ts))))

-- what the writer has written, row by row

pub chain_written : (o : Infix) (n : ℕ) (t : Tree) (ts : List Stamped) (q : ℕ) (old b c d e : Page) → n ≡ infix_level o → 0 < length ts
    → b ≡ opened (taken old (opening (nat_le q n))) → c ≡ taken b (placed n (showing t).whole) → d ≡ taken c (further_pieces o (showings (plains (from_list ts)))) → Closed (nat_le q n) d e
    → e ≡ taken old (placed q (joined o (showing t) (showings (plains (from_list ts)))))
chain_written o n t ts q old b c d e m l f g h k =
    parenthesised q n (joined o (showing t) (showings (plains (from_list ts)))) old b d e (m ∙ sym (joined_level o (showing t) ts l)) f
    (two_steps b c d (placed n (showing t).whole) (further_pieces o (showings (plains (from_list ts)))) _ g h
    (joined_pieces o (showing t) (showings (plains (from_list ts))) (showing_bare t) (all_bare (plains (from_list ts))) ∙ ap (λ (i : ℕ). placed i (showing t).whole ++ further_pieces o (showings (plains (from_list ts)))) (sym m))) k

pub sum_written : (t : Tree) (ts : List Stamped) (q : ℕ) (old b c d e : Page) → 0 < length ts → b ≡ opened (taken old (opening (nat_le q 13))) → c ≡ taken b (placed 13 (showing t).whole) → d ≡ taken c (terms_pieces (showings (plains (from_list ts)))) → Closed (nat_le q 13) d e
    → e ≡ taken old (placed q (sum_shown (showing t) (showings (plains (from_list ts)))))
sum_written t ts q old b c d e l f g h k =
    parenthesised q 13 (sum_shown (showing t) (showings (plains (from_list ts)))) old b d e (sum_level (showing t) ts l) f
    (two_steps b c d (placed 13 (showing t).whole) (terms_pieces (showings (plains (from_list ts)))) _ g h (sum_pieces (showing t) (showings (plains (from_list ts))) (showing_bare t))) k

pub list_written : (ys : List Showing) (q : ℕ) (old b c d e f : Page) → 0 < q → b ≡ opened old → c ≡ put_text b (codes "{") → d ≡ taken c (row_pieces ys) → e ≡ put_text d (codes "}") → Closed false e f → f ≡ taken old (placed q (braces (elems ys)))
list_written ys q old b c d e f l g h i j k =
    row_placed q (braces (elems ys)) old b e f l g
    (three_steps b c d e (between (codes "{") ∷ []) (row_pieces ys) (between (codes "}") ∷ []) _ h i j (ap (λ r. between (codes "{") ∷ (r ++ between (codes "}") ∷ [])) (elems_row ys))) k

pub call_written : (t : Tree) (ys : List Showing) (q : ℕ) (old b c d e f g : Page) → b ≡ opened (taken old (opening (nat_le q 3))) → c ≡ taken b (placed 4 (showing t).whole) → d ≡ put_text c (codes "[") → e ≡ taken d (row_pieces ys) → f ≡ put_text e (codes "]") → Closed (nat_le q 3) f g
    → g ≡ taken old (placed q (call_shown (showing t) ys))
call_written t ys q old b c d e f g h i j k l m =
    parenthesised q 3 (call_shown (showing t) ys) old b f g refl h
    (four_steps b c d e f (placed 4 (showing t).whole) (between (codes "[") ∷ []) (row_pieces ys) (between (codes "]") ∷ []) _ i j k l
    (ap (λ s. operand_pieces s (pieces s) ++ (between (codes "[") ∷ (elem_pieces (elems ys) ++ between (codes "]") ∷ []))) (or_equal 3 (showing t).whole)
    ∙ ap (λ p. p ++ (between (codes "[") ∷ (elem_pieces (elems ys) ++ between (codes "]") ∷ []))) (operand_placed 4 (showing t).whole (showing_bare t))
    ∙ ap (λ r. placed 4 (showing t).whole ++ (between (codes "[") ∷ (r ++ between (codes "]") ∷ []))) (elems_row ys))) m

pub part_written : (t : Tree) (ts : List Stamped) (q : ℕ) (old b c d e f g : Page) → 0 < length ts → b ≡ opened (taken old (opening (nat_le q 3))) → c ≡ taken b (placed 3 (showing t).whole) → d ≡ put_text c (codes "[[") → e ≡ taken d (row_pieces (showings (plains (from_list ts)))) → f ≡ put_text e (codes "]]") → Closed (nat_le q 3) f g
    → g ≡ taken old (placed q (part_shown (showing t) (showings (plains (from_list ts)))))
part_written t [] q old b c d e f g n h i j k l m = absurd (omega (arith, n))
part_written t (u ∷ us) q old b c d e f g n h i j k l m =
    let ys = showings (plains (from_list us)) in
    let x = operand 3 (showing t).whole in
    parenthesised q 3 (part_of x none (showing (plain u)) ys) old b f g (sym (part_level x none (showing (plain u)) ys)) h
    (four_steps b c d e f (placed 3 (showing t).whole) (between (codes "[[") ∷ []) (row_pieces (showing (plain u) ∷ ys)) (between (codes "]]") ∷ []) _ i j k l
    (part_pieces x none (showing (plain u)) ys
    ∙ ap (λ p. p ++ (between (codes "[[") ∷ (elem_pieces (elems (showing (plain u) ∷ ys)) ++ between (codes "]]") ∷ []))) (operand_placed 3 (showing t).whole (showing_bare t))
    ∙ ap (λ r. placed 3 (showing t).whole ++ (between (codes "[[") ∷ (r ++ between (codes "]]") ∷ []))) (elems_row (showing (plain u) ∷ ys)))) m

pub pair_written : (o : Infix) (n m : ℕ) (t u : Tree) (q : ℕ) (old b c d e f : Page) → n ≡ infix_level o → m ≡ (if takes_equal (infix_level o) then infix_level o + 1 else infix_level o)
    → b ≡ opened (taken old (opening (nat_le q n))) → c ≡ taken b (placed n (showing t).whole) → d ≡ put_text c (infix_text o) → e ≡ taken d (placed m (showing u).whole) → Closed (nat_le q n) e f
    → f ≡ taken old (placed q (pair_shown o (showing t) (showing u)))
pair_written o n m t u q old b c d e f i j g h k l p =
    let x = operand (infix_level o) (showing t).whole in
    let y = right_operand (infix_level o) (showing u).whole in
    parenthesised q n (pair_shown o (showing t) (showing u)) old b e f i g
    (three_steps b c d e (placed n (showing t).whole) (between (infix_text o) ∷ []) (placed m (showing u).whole) _ h k l
    (ap (λ r. r ++ (between (infix_text o) ∷ operand_pieces y (pieces y))) (operand_placed (infix_level o) (showing t).whole (showing_bare t) ∙ ap (λ (r : ℕ). placed r (showing t).whole) (sym i))
    ∙ ap (λ r. placed n (showing t).whole ++ (between (infix_text o) ∷ r)) (ap (λ s. operand_pieces s (pieces s)) (right_operand_is (infix_level o) m (showing u).whole j) ∙ operand_placed m (showing u).whole (showing_bare u)))) p

pub before_written : (o : Prefix) (n : ℕ) (t : Tree) (q : ℕ) (old b c d e : Page) → n ≡ prefix_level o → b ≡ opened (taken old (opening (nat_le q n))) → c ≡ put_text b (prefix_text o) → d ≡ taken c (placed n (showing t).whole) → Closed (nat_le q n) d e
    → e ≡ taken old (placed q (before_shown o (showing t)))
before_written o n t q old b c d e m f g h k =
    parenthesised q n (before_shown o (showing t)) old b d e m f
    (two_steps b c d (between (prefix_text o) ∷ []) (placed n (showing t).whole) _ g h (ap (λ r. between (prefix_text o) ∷ r) (operand_placed (prefix_level o) (showing t).whole (showing_bare t) ∙ ap (λ (r : ℕ). placed r (showing t).whole) (sym m)))) k

pub after_written : (o : Postfix) (n : ℕ) (t : Tree) (q : ℕ) (old b c d e : Page) → n ≡ postfix_level o → b ≡ opened (taken old (opening (nat_le q n))) → c ≡ taken b (placed n (showing t).whole) → d ≡ put_text c (postfix_text o) → Closed (nat_le q n) d e
    → e ≡ taken old (placed q (after_shown o (showing t)))
after_written o n t q old b c d e m f g h k =
    parenthesised q n (after_shown o (showing t)) old b d e m f
    (two_steps b c d (placed n (showing t).whole) (between (postfix_text o) ∷ []) _ g h (ap (λ r. r ++ between (postfix_text o) ∷ []) (operand_placed (postfix_level o) (showing t).whole (showing_bare t) ∙ ap (λ (r : ℕ). placed r (showing t).whole) (sym m)))) k

-- statements that end in a `;`
pub ended_written : (t : Tree) (ts : List Stamped) (q : ℕ) (old b c d e f : Page) → b ≡ opened (taken old (opening (nat_le q 30))) → c ≡ taken b (placed 30 (showing t).whole) → d ≡ taken c (further_pieces Semi (showings (plains (from_list ts)))) → e ≡ put_text d (codes ";") → Closed (nat_le q 30) e f
    → f ≡ taken old (placed q (ended (operand 30 (showing t).whole) (links_after nothing Semi (showings (plains (from_list ts))))))
ended_written t ts q old b c d e f g h i j k =
    let ys = showings (plains (from_list ts)) in
    parenthesised q 30 (ended (operand 30 (showing t).whole) (links_after nothing Semi ys)) old b e f refl g
    (three_steps b c d e (placed 30 (showing t).whole) (further_pieces Semi ys) (between (codes ";") ∷ []) _ h i j
    (ap (λ r. r ++ (link_pieces (links_after nothing Semi ys) ++ between (codes ";") ∷ [])) (operand_placed 30 (showing t).whole (showing_bare t))
    ∙ ap (λ r. placed 30 (showing t).whole ++ (r ++ between (codes ";") ∷ [])) (links_after_pieces nothing Semi ys (all_bare (plains (from_list ts)))))) k

-- at the node
pub at_node : (q : ℕ) (s t : Shown) (old new : Page) → new ≡ taken old (placed q s) → t ≡ s → new ≡ taken old (placed q t)
at_node q s t old new e f = e ∙ ap (λ x. taken old (placed q x)) (sym f)

-- steps of the loops

pub further_next : (o : Infix) (n : ℕ) (s : List ℕ) (t : Stamped) (ts us : List Stamped) (p q r whole : Page) → ts ≡ t ∷ us → taken p (further_pieces o (showings (plains (from_list ts)))) ≡ whole
    → n ≡ infix_level o → s ≡ infix_text o → q ≡ put_text p s → r ≡ taken q (placed n (showing (plain t)).whole) → taken r (further_pieces o (showings (plains (from_list us)))) ≡ whole
further_next o n s t ts us p q r whole e w i j f g =
    let ys = showings (plains (from_list us)) in
    ap (λ x. taken x (further_pieces o ys)) (g ∙ ap (λ x. taken x (placed n (showing (plain t)).whole)) (f ∙ ap (λ x. put_text p x) j) ∙ ap (λ (m : ℕ). taken (put_text p (infix_text o)) (placed m (showing (plain t)).whole)) i)
    ∙ sym (taken_append (put_text p (infix_text o)) (placed (infix_level o) (showing (plain t)).whole) (further_pieces o ys))
    ∙ ap (λ x. taken p (further_pieces o (showings (plains (from_list x))))) (sym e) ∙ w

pub terms_next : (t : Stamped) (ts us : List Stamped) (p r whole : Page) → ts ≡ t ∷ us → taken p (terms_pieces (showings (plains (from_list ts)))) ≡ whole
    → r ≡ taken p (term_pieces (showing (plain t))) → taken r (terms_pieces (showings (plains (from_list us)))) ≡ whole
terms_next t ts us p r whole e w f =
    ap (λ x. taken x (terms_pieces (showings (plains (from_list us))))) f
    ∙ sym (taken_append p (term_pieces (showing (plain t))) (terms_pieces (showings (plains (from_list us)))))
    ∙ ap (λ x. taken p (terms_pieces (showings (plains (from_list x))))) (sym e) ∙ w

pub more_next : (t : Stamped) (ts us : List Stamped) (p q r whole : Page) → ts ≡ t ∷ us → taken p (more_pieces (showings (plains (from_list ts)))) ≡ whole
    → q ≡ put_text p (codes ", ") → r ≡ taken q (placed 31 (showing (plain t)).whole) → taken r (more_pieces (showings (plains (from_list us)))) ≡ whole
more_next t ts us p q r whole e w f g =
    ap (λ x. taken x (more_pieces (showings (plains (from_list us))))) (g ∙ ap (λ x. taken x (placed 31 (showing (plain t)).whole)) f)
    ∙ sym (taken_append (put_text p (codes ", ")) (placed 31 (showing (plain t)).whole) (more_pieces (showings (plains (from_list us)))))
    ∙ ap (λ x. taken p (more_pieces (showings (plains (from_list x))))) (sym e) ∙ w
