-- What is printed of a node, row by row.
use Rattle.std.proofs.Common.{ℕ, Bool, true, false, not, ◌≡◌, ◌≢◌, ◌<◌, ◌≤◌, ◌+◌, ◌==◌, List, [], ◌∷◌, ◌++◌, length, get_or, refl, sym, ap, ◌∙◌, arith, subst}
use Rattle.std.specs.Prelude.{unsigned_abs, ◌&&◌, if◌then◌else◌, Option, Some, None}
use Rattle.wl_ports.specs.Name.{is_name}
use Rattle.wl_expr.specs.Stamped.{Stamped, plain, plains, from_list}
use Rattle.wl_expr.specs.Tree as tree
use Rattle.wl_expr.specs.Tree.{Tree, Trees, depths}
use Rattle.wl_form.specs.declared.operator.Infix.{Infix}
use Rattle.wl_form.specs.declared.operator.Infix.TheVariants.{Colon, Semi}
use Rattle.wl_form.specs.declared.operator.Prefix.TheVariants.{Not}
use Rattle.wl_form.specs.declared.operator.Postfix.{Postfix}
use Rattle.wl_form.specs.declared.operator.Row.{Row}
use Rattle.wl_form.specs.declared.operator.Row.TheVariants as row
use Rattle.wl_form.specs.Heads.{row_of}
use Rattle.wl_form.specs.Shown.{Shown, name, slot, ended, nothing, operand, is_negative}
use Rattle.wl_form.specs.Table.{showing, showings, by_row, joined, links_after, all_but_last, statements, ends_in_null, is_symbol, or_else, colon}
use Rattle.wl_form.specs.Words.{word_of, message_shown}
use Rattle.wl_form.specs.Writing.{node_shown, call_shown, pair_shown, before_shown, after_shown, sum_shown, part_shown, statements_shown, product_showing, is_null, last_is_null, LastNull, operator_behind, pair_operator, IsManyRow}

abbrev shown_by : Row → Tree → Trees → Shown
shown_by r h ts = (by_row r ts (showings ts) (call_shown (showing h) (showings ts))).whole

by_its_row : (h : Tree) (ts : Trees) (r : Row) → row_of h ≡ r → node_shown h ts ≡ shown_by r h ts
by_its_row h ts r e = ap (λ x. shown_by x h ts) e

-- words

word_shown : (r : Row) (h : Tree) (ts : Trees) (w : Shown) → word_of r ts ≡ Some w → shown_by r h ts ≡ w
word_shown (row.Blanks k) h ts w e = ap (λ o. or_else o (call_shown (showing h) (showings ts))) e
word_shown row.Pattern h (tree.more (tree.symbol x) (tree.more p tree.none)) w e = ap (λ o. or_else o (colon (name x) (showing p))) e
word_shown row.Pattern h tree.none w e = absurd (cc)
word_shown row.Pattern h (tree.more (tree.symbol x) tree.none) w e = absurd (cc)
word_shown row.Pattern h (tree.more (tree.symbol x) (tree.more p (tree.more t ts))) w e = absurd (cc)
word_shown row.Pattern h (tree.more (tree.num f) ts) w e = absurd (cc)
word_shown row.Pattern h (tree.more (tree.text s) ts) w e = absurd (cc)
word_shown row.Pattern h (tree.more (tree.node i is) ts) w e = absurd (cc)
word_shown row.Optional h tree.none w e = absurd (cc)
word_shown row.Optional h (tree.more p tree.none) w e = ap (λ o. or_else o (call_shown (showing h) (showing p ∷ []))) e
word_shown row.Optional h (tree.more p (tree.more t ts)) w e = absurd (cc)
word_shown (row.Slot d) h (tree.more (tree.num f) tree.none) w e = go (not (is_negative f) && (f.den == 1)) e
  where
    go : (b : Bool) → (if b then Some (slot d (unsigned_abs f.num)) else None) ≡ Some w → (if b then slot d (unsigned_abs f.num) else call_shown (showing h) (showing (tree.num f) ∷ [])) ≡ w
    go true e = cc
    go false e = absurd (cc)
word_shown (row.Slot d) h tree.none w e = absurd (cc)
word_shown (row.Slot d) h (tree.more (tree.num f) (tree.more t ts)) w e = absurd (cc)
word_shown (row.Slot d) h (tree.more (tree.text s) ts) w e = absurd (cc)
word_shown (row.Slot d) h (tree.more (tree.symbol s) ts) w e = absurd (cc)
word_shown (row.Slot d) h (tree.more (tree.node i is) ts) w e = absurd (cc)
word_shown row.Message h (tree.more (tree.symbol s) (tree.more (tree.text t) tree.none)) w e = go (is_name t) e
  where
    go : (b : Bool) → (if b then Some (message_shown s t) else None) ≡ Some w → (if b then message_shown s t else call_shown (showing h) (showing (tree.symbol s) ∷ showing (tree.text t) ∷ [])) ≡ w
    go true e = cc
    go false e = absurd (cc)
word_shown row.Message h tree.none w e = absurd (cc)
word_shown row.Message h (tree.more (tree.symbol s) tree.none) w e = absurd (cc)
word_shown row.Message h (tree.more (tree.symbol s) (tree.more (tree.text t) (tree.more u us))) w e = absurd (cc)
word_shown row.Message h (tree.more (tree.symbol s) (tree.more (tree.num f) us)) w e = absurd (cc)
word_shown row.Message h (tree.more (tree.symbol s) (tree.more (tree.symbol t) us)) w e = absurd (cc)
word_shown row.Message h (tree.more (tree.symbol s) (tree.more (tree.node i is) us)) w e = absurd (cc)
word_shown row.Message h (tree.more (tree.num f) ts) w e = absurd (cc)
word_shown row.Message h (tree.more (tree.text s) ts) w e = absurd (cc)
word_shown row.Message h (tree.more (tree.node i is) ts) w e = absurd (cc)
word_shown _ h ts w e = absurd (cc)

pub node_word : (h : Tree) (ts : Trees) (r : Row) (w : Shown) → row_of h ≡ r → word_of r ts ≡ Some w → node_shown h ts ≡ w
node_word h ts r w e f = by_its_row h ts r e ∙ word_shown r h ts w f

-- an operator between two elements

pair_shown_by : (r : Row) (h t u : Tree) (o : Infix) → word_of r (tree.more t (tree.more u tree.none)) ≡ None → pair_operator r (tree.more t (tree.more u tree.none)) ≡ Some o → shown_by r h (tree.more t (tree.more u tree.none)) ≡ pair_shown o (showing t) (showing u)
pair_shown_by (row.Pair p) h t u o w e = ap (λ (o : Option Infix). pair_or p o) e
  where
    pair_or : Infix → Option Infix → Shown
    pair_or p (Some o) = pair_shown o (showing t) (showing u)
    pair_or p None = pair_shown p (showing t) (showing u)
pair_shown_by row.Pattern h (tree.symbol x) u o w e = ap (λ v. or_else v (colon (name x) (showing u))) w ∙ ap (λ p. option_pair p) e
  where
    option_pair : Option Infix → Shown
    option_pair (Some o) = pair_shown o (showing (tree.symbol x)) (showing u)
    option_pair None = pair_shown Colon (showing (tree.symbol x)) (showing u)
pair_shown_by row.Pattern h (tree.num f) u o w e = absurd (cc)
pair_shown_by row.Pattern h (tree.text s) u o w e = absurd (cc)
pair_shown_by row.Pattern h (tree.node i is) u o w e = absurd (cc)
pair_shown_by row.Optional h t u o w e = go (is_symbol t) e
  where
    option_pair : Option Infix → Shown
    option_pair (Some o) = pair_shown o (showing t) (showing u)
    option_pair None = pair_shown Colon (showing t) (showing u)

    go : (b : Bool) → (if b then None else Some Colon) ≡ Some o → (if b then call_shown (showing h) (showing t ∷ showing u ∷ []) else pair_shown Colon (showing t) (showing u)) ≡ pair_shown o (showing t) (showing u)
    go true e = absurd (cc)
    go false e = ap option_pair e
pair_shown_by _ h t u o w e = absurd (cc)

pub pair_has_two : (r : Row) (es : List Stamped) (o : Infix) → pair_operator r (plains (from_list es)) ≡ Some o → length es ≡ 2
pair_has_two r (t ∷ u ∷ []) o e = refl
pair_has_two r [] o e = absurd (cc)
pair_has_two r (t ∷ []) o e = absurd (cc)
pair_has_two r (t ∷ u ∷ v ∷ vs) o e = absurd (cc)

pub no_pair : (r : Row) (es : List Stamped) → length es ≢ 2 → None ≡ pair_operator r (plains (from_list es))
no_pair r [] n = refl
no_pair r (t ∷ []) n = refl
no_pair r (t ∷ u ∷ []) n = absurd (n refl)
no_pair r (t ∷ u ∷ v ∷ vs) n = refl

pub pair_at : (r : Row) (es : List Stamped) (t d : Stamped) (o : Option Infix) → length es ≡ 2 → t ≡ get_or es 0 d → o ≡ operator_behind r (plain t) → o ≡ pair_operator r (plains (from_list es))
pair_at r [] t d o l e f = absurd (omega (arith, l))
pair_at r (u ∷ []) t d o l e f = absurd (omega (arith, l))
pair_at r (u ∷ v ∷ []) t d o l e f = f ∙ ap (λ x. operator_behind r (plain x)) e
pair_at r (u ∷ v ∷ w ∷ ws) t d o l e f = absurd (omega (arith, l))

pub two_elements : (es : List Stamped) (t u : Stamped) → length es ≡ 2 → t ≡ get_or es 0 t → u ≡ get_or es 1 u → es ≡ t ∷ u ∷ []
two_elements [] t u l e f = absurd (omega (arith, l))
two_elements (a ∷ []) t u l e f = absurd (omega (arith, l))
two_elements (a ∷ b ∷ []) t u l e f = cc
two_elements (a ∷ b ∷ c ∷ cs) t u l e f = absurd (omega (arith, l))

pub node_pair : (h : Tree) (es : List Stamped) (r : Row) (o : Infix) (t u : Stamped) → row_of h ≡ r → word_of r (plains (from_list es)) ≡ None → pair_operator r (plains (from_list es)) ≡ Some o → es ≡ t ∷ u ∷ [] → node_shown h (plains (from_list es)) ≡ pair_shown o (showing (plain t)) (showing (plain u))
node_pair h es r o t u e w p f =
    by_its_row h (plains (from_list es)) r e ∙ ap (λ x. shown_by r h (plains (from_list x))) f
    ∙ pair_shown_by r h (plain t) (plain u) o (ap (λ x. word_of r (plains (from_list x))) (sym f) ∙ w) (ap (λ x. pair_operator r (plains (from_list x))) (sym f) ∙ p)

-- one element

pub single : (ts : List Stamped) (u d : Stamped) → length ts ≡ 1 → u ≡ get_or ts 0 d → ts ≡ u ∷ []
single [] u d h e = absurd (omega (arith, h))
single (t ∷ []) u d h e = ap (λ x. x ∷ []) (sym e)
single (t ∷ v ∷ vs) u d h e = absurd (omega (arith, h))

pub node_not : (h : Tree) (es : List Stamped) (t : Stamped) → es ≡ t ∷ [] → row_of h ≡ row.Not → node_shown h (plains (from_list es)) ≡ before_shown Not (showing (plain t))
node_not h es t f e = by_its_row h (plains (from_list es)) row.Not e ∙ ap (λ x. shown_by row.Not h (plains (from_list x))) f

pub node_ends : (h : Tree) (es : List Stamped) (o : Postfix) (t : Stamped) → es ≡ t ∷ [] → row_of h ≡ row.Ends o → node_shown h (plains (from_list es)) ≡ after_shown o (showing (plain t))
node_ends h es o t f e = by_its_row h (plains (from_list es)) (row.Ends o) e ∙ ap (λ x. shown_by (row.Ends o) h (plains (from_list x))) f

pub node_list : (h : Tree) (ts : Trees) → row_of h ≡ row.List → node_shown h ts ≡ shown_by row.List h ts
node_list h ts e = by_its_row h ts row.List e

-- calls

-- the number of elements isn't that of the row
abbrev pub Unshaped : Row → ℕ → Type 0
Unshaped row.List n = ⊥
Unshaped row.Sum n = n < 2
Unshaped row.Product n = n < 2
Unshaped (row.Chain o) n = n < 2
Unshaped row.Statements n = n < 2
Unshaped row.Part n = n < 2
Unshaped row.Not n = n ≢ 1
Unshaped (row.Ends o) n = n ≢ 1
Unshaped _ n = Unit {0}

abbrev AsCall : Row → Tree → List Stamped → Type 0
AsCall r h es = shown_by r h (plains (from_list es)) ≡ call_shown (showing h) (showings (plains (from_list es)))

pattern_call : (h : Tree) (ts : Trees) → word_of row.Pattern ts ≡ None → pair_operator row.Pattern ts ≡ None → shown_by row.Pattern h ts ≡ call_shown (showing h) (showings ts)
pattern_call h tree.none w p = refl
pattern_call h (tree.more (tree.symbol x) tree.none) w p = refl
pattern_call h (tree.more (tree.symbol x) (tree.more t tree.none)) w p = absurd (cc)
pattern_call h (tree.more (tree.symbol x) (tree.more t (tree.more u us))) w p = refl
pattern_call h (tree.more (tree.num f) ts) w p = refl
pattern_call h (tree.more (tree.text s) ts) w p = refl
pattern_call h (tree.more (tree.node i is) ts) w p = refl

optional_call : (h : Tree) (ts : Trees) → word_of row.Optional ts ≡ None → pair_operator row.Optional ts ≡ None → shown_by row.Optional h ts ≡ call_shown (showing h) (showings ts)
optional_call h tree.none w p = refl
optional_call h (tree.more t tree.none) w p = ap (λ o. or_else o (call_shown (showing h) (showing t ∷ []))) w
optional_call h (tree.more t (tree.more u (tree.more v vs))) w p = refl
optional_call h (tree.more t (tree.more u tree.none)) w p = go (is_symbol t) p
  where
    go : (b : Bool) → (if b then None else Some Colon) ≡ None → (if b then call_shown (showing h) (showing t ∷ showing u ∷ []) else pair_shown Colon (showing t) (showing u)) ≡ call_shown (showing h) (showing t ∷ showing u ∷ [])
    go true e = refl
    go false e = absurd (cc)

slot_call : (d : Bool) (h : Tree) (ts : Trees) → word_of (row.Slot d) ts ≡ None → shown_by (row.Slot d) h ts ≡ call_shown (showing h) (showings ts)
slot_call d h tree.none w = refl
slot_call d h (tree.more (tree.num f) (tree.more t ts)) w = refl
slot_call d h (tree.more (tree.text s) ts) w = refl
slot_call d h (tree.more (tree.symbol s) ts) w = refl
slot_call d h (tree.more (tree.node i is) ts) w = refl
slot_call d h (tree.more (tree.num f) tree.none) w = go (not (is_negative f) && (f.den == 1)) w
  where
    go : (b : Bool) → (if b then Some (slot d (unsigned_abs f.num)) else None) ≡ None → (if b then slot d (unsigned_abs f.num) else call_shown (showing h) (showing (tree.num f) ∷ [])) ≡ call_shown (showing h) (showing (tree.num f) ∷ [])
    go true e = absurd (cc)
    go false e = refl

message_call : (h : Tree) (ts : Trees) → word_of row.Message ts ≡ None → shown_by row.Message h ts ≡ call_shown (showing h) (showings ts)
message_call h tree.none w = refl
message_call h (tree.more (tree.symbol s) tree.none) w = refl
message_call h (tree.more (tree.symbol s) (tree.more (tree.text t) (tree.more u us))) w = refl
message_call h (tree.more (tree.symbol s) (tree.more (tree.num f) us)) w = refl
message_call h (tree.more (tree.symbol s) (tree.more (tree.symbol t) us)) w = refl
message_call h (tree.more (tree.symbol s) (tree.more (tree.node i is) us)) w = refl
message_call h (tree.more (tree.num f) ts) w = refl
message_call h (tree.more (tree.text s) ts) w = refl
message_call h (tree.more (tree.node i is) ts) w = refl
message_call h (tree.more (tree.symbol s) (tree.more (tree.text t) tree.none)) w = go (is_name t) w
  where
    go : (b : Bool) → (if b then Some (message_shown s t) else None) ≡ None → (if b then message_shown s t else call_shown (showing h) (showing (tree.symbol s) ∷ showing (tree.text t) ∷ [])) ≡ call_shown (showing h) (showing (tree.symbol s) ∷ showing (tree.text t) ∷ [])
    go true e = absurd (cc)
    go false e = refl

call_by : (r : Row) (h : Tree) (es : List Stamped) → word_of r (plains (from_list es)) ≡ None → pair_operator r (plains (from_list es)) ≡ None → Unshaped r (length es) → AsCall r h es
call_by row.List h es w p s = absurd s
call_by row.Sum h [] w p s = refl
call_by row.Sum h (t ∷ []) w p s = refl
call_by row.Sum h (t ∷ u ∷ us) w p s = absurd (omega (arith, s))
call_by row.Product h [] w p s = refl
call_by row.Product h (t ∷ []) w p s = refl
call_by row.Product h (t ∷ u ∷ us) w p s = absurd (omega (arith, s))
call_by (row.Chain o) h [] w p s = refl
call_by (row.Chain o) h (t ∷ []) w p s = refl
call_by (row.Chain o) h (t ∷ u ∷ us) w p s = absurd (omega (arith, s))
call_by row.Statements h [] w p s = refl
call_by row.Statements h (t ∷ []) w p s = refl
call_by row.Statements h (t ∷ u ∷ us) w p s = absurd (omega (arith, s))
call_by row.Part h [] w p s = refl
call_by row.Part h (t ∷ []) w p s = refl
call_by row.Part h (t ∷ u ∷ us) w p s = absurd (omega (arith, s))
call_by row.Not h [] w p s = refl
call_by row.Not h (t ∷ []) w p s = absurd (s refl)
call_by row.Not h (t ∷ u ∷ us) w p s = refl
call_by (row.Ends o) h [] w p s = refl
call_by (row.Ends o) h (t ∷ []) w p s = absurd (s refl)
call_by (row.Ends o) h (t ∷ u ∷ us) w p s = refl
call_by (row.Pair o) h [] w p s = refl
call_by (row.Pair o) h (t ∷ []) w p s = refl
call_by (row.Pair o) h (t ∷ u ∷ []) w p s = absurd (cc)
call_by (row.Pair o) h (t ∷ u ∷ v ∷ vs) w p s = refl
call_by (row.Blanks k) h es w p s = ap (λ o. or_else o (call_shown (showing h) (showings (plains (from_list es))))) w
call_by row.Pattern h es w p s = pattern_call h (plains (from_list es)) w p
call_by row.Optional h es w p s = optional_call h (plains (from_list es)) w p
call_by (row.Slot d) h es w p s = slot_call d h (plains (from_list es)) w
call_by row.Message h es w p s = message_call h (plains (from_list es)) w
call_by row.Call h es w p s = refl

pub node_call : (h : Tree) (es : List Stamped) (r : Row) → row_of h ≡ r → word_of r (plains (from_list es)) ≡ None → pair_operator r (plains (from_list es)) ≡ None → Unshaped r (length es) → node_shown h (plains (from_list es)) ≡ call_shown (showing h) (showings (plains (from_list es)))
node_call h es r e w p s = by_its_row h (plains (from_list es)) r e ∙ call_by r h es w p s

-- too short for a row of two elements or more
pub unshaped : (r : Row) (n : ℕ) → n < 2 → r ≢ row.List → r ≢ row.Not → ((o : Postfix) → r ≢ row.Ends o) → Unshaped r n
unshaped row.List n l a b c = absurd (a refl)
unshaped row.Not n l a b c = absurd (b refl)
unshaped (row.Ends o) n l a b c = absurd (c o refl)
unshaped row.Sum n l a b c = l
unshaped row.Product n l a b c = l
unshaped (row.Chain o) n l a b c = l
unshaped row.Statements n l a b c = l
unshaped row.Part n l a b c = l
unshaped (row.Pair o) n l a b c = tt
unshaped (row.Blanks k) n l a b c = tt
unshaped row.Pattern n l a b c = tt
unshaped row.Optional n l a b c = tt
unshaped (row.Slot d) n l a b c = tt
unshaped row.Message n l a b c = tt
unshaped row.Call n l a b c = tt

-- no row of two elements or more
pub unshaped_many : (r : Row) (n : ℕ) → 2 < n + 1 → r ≢ row.List → r ≢ row.Sum → r ≢ row.Product → ((o : Infix) → r ≢ row.Chain o) → r ≢ row.Statements → r ≢ row.Part → Unshaped r n
unshaped_many row.List n l a b c d e f = absurd (a refl)
unshaped_many row.Sum n l a b c d e f = absurd (b refl)
unshaped_many row.Product n l a b c d e f = absurd (c refl)
unshaped_many (row.Chain o) n l a b c d e f = absurd (d o refl)
unshaped_many row.Statements n l a b c d e f = absurd (e refl)
unshaped_many row.Part n l a b c d e f = absurd (f refl)
unshaped_many row.Not n l a b c d e f = λ g. omega (arith, g, l)
unshaped_many (row.Ends o) n l a b c d e f = λ g. omega (arith, g, l)
unshaped_many (row.Pair o) n l a b c d e f = tt
unshaped_many (row.Blanks k) n l a b c d e f = tt
unshaped_many row.Pattern n l a b c d e f = tt
unshaped_many row.Optional n l a b c d e f = tt
unshaped_many (row.Slot k) n l a b c d e f = tt
unshaped_many row.Message n l a b c d e f = tt
unshaped_many row.Call n l a b c d e f = tt

-- two elements or more

abbrev many_shown : Row → Tree → List Stamped → Shown
many_shown row.Sum t ts = sum_shown (showing t) (showings (plains (from_list ts)))
many_shown row.Product t ts = (product_showing t (plains (from_list ts))).whole
many_shown (row.Chain o) t ts = joined o (showing t) (showings (plains (from_list ts)))
many_shown row.Statements t ts = statements_shown t (plains (from_list ts))
many_shown row.Part t ts = part_shown (showing t) (showings (plains (from_list ts)))
many_shown _ t ts = (showing t).whole

abbrev IsForMany : Row → Type 0
IsForMany row.Sum = Unit {0}
IsForMany row.Product = Unit {0}
IsForMany (row.Chain o) = Unit {0}
IsForMany row.Statements = Unit {0}
IsForMany row.Part = Unit {0}
IsForMany _ = ⊥

many_by : (r : Row) (h : Tree) (t : Stamped) (ts : List Stamped) → IsForMany r → 0 < length ts → shown_by r h (plains (from_list (t ∷ ts))) ≡ many_shown r (plain t) ts
many_by r h t [] m l = absurd (omega (arith, l))
many_by row.Sum h t (u ∷ us) m l = refl
many_by row.Product h t (u ∷ us) m l = refl
many_by (row.Chain o) h t (u ∷ us) m l = refl
many_by row.Statements h t (u ∷ us) m l = refl
many_by row.Part h t (u ∷ us) m l = refl
many_by _ h t (u ∷ us) m l = absurd m

pub node_many : (h : Tree) (es : List Stamped) (r s : Row) (t : Stamped) (ts : List Stamped) → IsManyRow r h es t ts → r ≡ s → IsForMany s → node_shown h (plains (from_list es)) ≡ many_shown s (plain t) ts
node_many h es r s t ts i e m = by_its_row h (plains (from_list es)) s (i.row_is ∙ e) ∙ ap (λ x. shown_by s h (plains (from_list x))) i.elements ∙ many_by s h t ts m i.more

pub many_length : (h : Tree) (es : List Stamped) (r : Row) (t : Stamped) (ts : List Stamped) → IsManyRow r h es t ts → 2 < length es + 1
many_length h es r t ts i =
    let e : length es ≡ length (t ∷ ts) = ap length i.elements in
    let m : 0 < length ts = i.more in
    omega arith

-- statements

ends_next : (t u : Tree) (us : Trees) → ends_in_null (tree.more t (tree.more u us)) ≡ ends_in_null (tree.more u us)
ends_next (tree.num f) u us = refl
ends_next (tree.text s) u us = refl
ends_next (tree.symbol s) u us = refl
ends_next (tree.node h ts) u us = refl

ends_last : (t : Tree) → ends_in_null (tree.more t tree.none) ≡ is_null t
ends_last (tree.num f) = refl
ends_last (tree.text s) = refl
ends_last (tree.symbol s) = refl
ends_last (tree.node h ts) = refl

ends_is : (t : Tree) (u : Stamped) (us : List Stamped) → ends_in_null (tree.more t (plains (from_list (u ∷ us)))) ≡ last_is_null (u ∷ us)
ends_is t u [] = ends_next t (plain u) tree.none ∙ ends_last (plain u)
ends_is t u (v ∷ vs) = ends_next t (plain u) (plains (from_list (v ∷ vs))) ∙ ends_is (plain u) v vs

last_is : (ts : List Stamped) (t : Stamped) → last_is_null (ts ++ t ∷ []) ≡ is_null (plain t)
last_is [] t = refl
last_is (u ∷ []) t = refl
last_is (u ∷ v ∷ vs) t = last_is (v ∷ vs) t

but_last : (u : Stamped) (us others : List Stamped) (t : Stamped) → u ∷ us ≡ others ++ t ∷ [] → all_but_last (showing (plain u)) (showings (plains (from_list us))) ≡ showings (plains (from_list others))
but_last u [] [] t e = refl
but_last u [] (v ∷ vs) t e = absurd (not_nil vs t (cc))
  where
    not_nil : (vs : List Stamped) (t : Stamped) → [] ≡ vs ++ t ∷ [] → ⊥
    not_nil [] t e = cc
    not_nil (v ∷ vs) t e = cc
but_last u (v ∷ vs) [] t e = absurd (cc)
but_last u (v ∷ vs) (w ∷ ws) t e =
    let f : u ≡ w = cc in
    ap (λ x. showing (plain u) ∷ x) (but_last v vs ws t (cc)) ∙ ap (λ x. showing (plain x) ∷ showings (plains (from_list ws))) f

pub statements_null : (t : Tree) (ts others : List Stamped) → LastNull ts others → statements_shown t (plains (from_list ts)) ≡ ended (operand 30 (showing t).whole) (links_after nothing Semi (showings (plains (from_list others))))
statements_null t [] others l = absurd (not_nil others l.0 l.1.0)
  where
    not_nil : (vs : List Stamped) (t : Stamped) → [] ≡ vs ++ t ∷ [] → ⊥
    not_nil [] t e = cc
    not_nil (v ∷ vs) t e = cc
statements_null t (u ∷ us) others l =
    ap (λ b. statements b (showing t) (showing (plain u)) (showings (plains (from_list us)))) (ends_is t u us ∙ ap last_is_null l.1.0 ∙ last_is others l.0 ∙ l.1.1)
    ∙ ap (λ ys. ended (operand 30 (showing t).whole) (links_after nothing Semi ys)) (but_last u us others l.0 l.1.0)

pub statements_chain : (t : Tree) (ts : List Stamped) → 0 < length ts → last_is_null ts ≡ false → statements_shown t (plains (from_list ts)) ≡ joined Semi (showing t) (showings (plains (from_list ts)))
statements_chain t [] l h = absurd (omega (arith, l))
statements_chain t (u ∷ us) l h = ap (λ b. statements b (showing t) (showing (plain u)) (showings (plains (from_list us)))) (ends_is t u us ∙ h)

pub null_last : (ts others : List Stamped) (t : Stamped) → ts ≡ others ++ t ∷ [] → last_is_null ts ≡ is_null (plain t)
null_last ts others t e = ap last_is_null e ∙ last_is others t

pub depths_before : (others : List Stamped) (t : Stamped) → depths (plains (from_list others)) ≤ depths (plains (from_list (others ++ t ∷ [])))
depths_before [] t = omega arith
depths_before (u ∷ us) t = omega (arith, depths_before us t)

pub before_null_depths : (ts others : List Stamped) → LastNull ts others → depths (plains (from_list others)) ≤ depths (plains (from_list ts))
before_null_depths ts others l = subst (λ us. depths (plains (from_list others)) ≤ depths (plains (from_list us))) (sym l.1.0) (depths_before others l.0)

-- rows that have no operator between two elements
pub no_pair_not : (es : List Stamped) → None ≡ pair_operator row.Not (plains (from_list es))
no_pair_not [] = refl
no_pair_not (t ∷ []) = refl
no_pair_not (t ∷ u ∷ []) = refl
no_pair_not (t ∷ u ∷ v ∷ vs) = refl

pub no_pair_ends : (o : Postfix) (es : List Stamped) → None ≡ pair_operator (row.Ends o) (plains (from_list es))
no_pair_ends o [] = refl
no_pair_ends o (t ∷ []) = refl
no_pair_ends o (t ∷ u ∷ []) = refl
no_pair_ends o (t ∷ u ∷ v ∷ vs) = refl
