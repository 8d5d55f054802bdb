-- How a product is printed, and how as later term of a sum.
use Rattle.std.proofs.Common.{ℕ, Bool, true, false, ◌≡◌, ◌≢◌, ◌<◌, ◌==◌, List, [], ◌∷◌, ◌++◌, length, get_or, refl, sym, ap, ◌∙◌, arith, codes}
use Rattle.std.specs.Prelude.{ℤ, pos, negsuc, zero, suc, unsigned_abs, ◌&&◌, if◌then◌else◌}
use Rattle.std.proofs.lemmas.Bool.{cond-true, cond-false, ne_eqb}
use Rattle.wl_exact.specs.Fraction.{Fraction}
use Rattle.wl_expr.specs.Stamped.{Stamped, plain, plains, from_list}
use Rattle.wl_expr.specs.Tree as tree
use Rattle.wl_expr.specs.Tree.{Tree, Trees}
use Rattle.wl_form.specs.declared.leaves.Turn.{Turn as CodeTurn}
use Rattle.wl_form.specs.declared.leaves.Turn.TheVariants as code_turn
use Rattle.wl_form.specs.declared.operator.Infix.TheVariants.{Times}
use Rattle.wl_form.specs.declared.operator.Prefix.TheVariants.{Negate}
use Rattle.wl_form.specs.declared.operator.Row.TheVariants as row
use Rattle.wl_form.specs.declared.operator.Row.{Row}
use Rattle.wl_form.specs.Boxes.{between, boxed, box_of, pieces, operand_pieces}
use Rattle.wl_form.specs.Heads.{row_of}
use Rattle.wl_form.specs.Operators.{infix_text}
use Rattle.wl_form.specs.Pages.{Page, opened, put_text, taken}
use Rattle.wl_form.specs.Shown.{Shown, number, chain, nothing, operand, is_negative, is_below_zero, number_text}
use Rattle.wl_form.specs.Table.{Showing, showing, showings, added, taken_off, by_row, joined, links_after, product_by, Turn, opposed, dropped, stays, turn_of, first_number, opposite, number_showing, is_minus_one, is_number}
use Rattle.wl_form.specs.Writing.{Closed, placed, leaf, further_pieces, term_pieces, node_showing, node_shown, call_shown, before_shown, product_showing, HasTurn, IsProduct}
use Rattle.wl_form.proofs.Levels.{operand_placed, showing_bare, all_bare, placed_below, joined_level, links_after_pieces, boxed_row, two_steps}

-- a number that is -1

other_numerator : (z : ℤ) (q : ℕ) → z ≢ negsuc 0 → (is_below_zero z && ((unsigned_abs z == 1) && (q == 1))) ≡ false
other_numerator (pos n) q h = refl
other_numerator (negsuc zero) q h = absurd (h refl)
other_numerator (negsuc (suc m)) q h = ap (λ (b : Bool). b && (q == 1)) (ne_eqb (suc (suc m)) 1 (λ e. omega (arith, e)))

pub no_minus_one : (f : Fraction) → f.num ≢ negsuc 0 → false ≡ is_minus_one f
no_minus_one f h = sym (other_numerator f.num f.den h)

pub minus_one_when : (f : Fraction) → f.num ≡ negsuc 0 → (f.den == 1) ≡ is_minus_one f
minus_one_when f h = sym (ap (λ z. is_below_zero z && ((unsigned_abs z == 1) && (f.den == 1))) h)

-- the turn of a product

abbrev turn_by : Bool → Bool → Bool → Turn
turn_by m n b = if m then (if n then stays else dropped) else (if b then opposed else stays)

pub turn_when : (m n b : Bool) (x y z : Bool) → m ≡ x → n ≡ y → b ≡ z → turn_by m n b ≡ turn_by x y z
turn_when m n b x y z e f g = cc

same_turn : (r : CodeTurn) (f : Fraction) (t u : Tree) (us : Trees) → t ≡ u → HasTurn r (tree.num f) (tree.more t tree.none) → HasTurn r (tree.num f) (tree.more u us)
same_turn (code_turn.Opposed n) f t u us e h = (ap (λ v. turn_of (tree.more (tree.num f) (tree.more v us))) (sym e) ∙ h.0, h.1)
same_turn code_turn.Dropped f t u us e h = ap (λ v. turn_of (tree.more (tree.num f) (tree.more v us))) (sym e) ∙ h
same_turn code_turn.Stays f t u us e h = ap (λ v. turn_of (tree.more (tree.num f) (tree.more v us))) (sym e) ∙ h

pub number_turn : (r : CodeTurn) (f : Fraction) (u d : Stamped) (ts : List Stamped) → 0 < length ts → u ≡ get_or ts 0 d → HasTurn r (tree.num f) (tree.more (plain u) tree.none) → HasTurn r (tree.num f) (plains (from_list ts))
number_turn r f u d [] l e h = absurd (omega (arith, l))
number_turn r f u d (t ∷ ts) l e h = same_turn r f (plain u) (plain t) (plains (from_list ts)) (ap plain e) h

pub no_number_turn : (t : Tree) (ts : Trees) → is_number t ≡ false → turn_of (tree.more t ts) ≡ stays
no_number_turn (tree.num f) ts h = absurd (cc)
no_number_turn (tree.text s) ts h = refl
no_number_turn (tree.symbol s) ts h = refl
no_number_turn (tree.node i is) ts h = refl

-- what is printed of a product

product_at : (T : Turn) (t : Tree) (u : Stamped) (us : List Stamped) → turn_of (tree.more t (plains (from_list (u ∷ us)))) ≡ T → product_showing t (plains (from_list (u ∷ us))) ≡ product_by T (first_number (tree.more t (plains (from_list (u ∷ us))))) (showing t) (showing (plain u)) (showings (plains (from_list us)))
product_at T t u us e = ap (λ S. product_by S (first_number (tree.more t (plains (from_list (u ∷ us))))) (showing t) (showing (plain u)) (showings (plains (from_list us)))) e

abbrev factors_shown : Tree → List Stamped → Shown
factors_shown t ts = joined Times (showing t) (showings (plains (from_list ts)))

pub product_stays : (t : Tree) (ts : List Stamped) → 0 < length ts → turn_of (tree.more t (plains (from_list ts))) ≡ stays → product_showing t (plains (from_list ts)) ≡ added (factors_shown t ts)
product_stays t [] l e = absurd (omega (arith, l))
product_stays t (u ∷ us) l e = product_at stays t u us e

pub product_opposed : (t : Tree) (ts : List Stamped) → 0 < length ts → turn_of (tree.more t (plains (from_list ts))) ≡ opposed → (f : Fraction) → t ≡ tree.num f
    → product_showing t (plains (from_list ts)) ≡ taken_off (factors_shown t ts) (chain (number (opposite f)) (links_after nothing Times (showings (plains (from_list ts)))))
product_opposed t [] l e f g = absurd (omega (arith, l))
product_opposed t (u ∷ us) l e f g =
    product_at opposed t u us e
    ∙ ap (λ v. product_by opposed (first_number (tree.more v (plains (from_list (u ∷ us))))) (showing t) (showing (plain u)) (showings (plains (from_list us)))) g

pub product_dropped : (t : Tree) (ts : List Stamped) (u v : Stamped) (vs : List Stamped) → ts ≡ u ∷ v ∷ vs → turn_of (tree.more t (plains (from_list ts))) ≡ dropped → product_showing t (plains (from_list ts)) ≡ taken_off (factors_shown t ts) (factors_shown (plain u) (v ∷ vs))
product_dropped t ts u v vs f e =
    let g : turn_of (tree.more t (plains (from_list (u ∷ v ∷ vs)))) ≡ dropped = ap (λ l. turn_of (tree.more t (plains (from_list l)))) (sym f) ∙ e in
    ap (λ l. product_showing t (plains (from_list l))) f ∙ product_at dropped t u (v ∷ vs) g ∙ ap (λ l. taken_off (factors_shown t l) (factors_shown (plain u) (v ∷ vs))) (sym f)

pub product_negated : (t : Tree) (ts : List Stamped) (u : Stamped) → ts ≡ u ∷ [] → turn_of (tree.more t (plains (from_list ts))) ≡ dropped → product_showing t (plains (from_list ts)) ≡ taken_off (before_shown Negate (showing (plain u))) (operand 12 (showing (plain u)).whole)
product_negated t ts u f e =
    let g : turn_of (tree.more t (plains (from_list (u ∷ [])))) ≡ dropped = ap (λ l. turn_of (tree.more t (plains (from_list l)))) (sym f) ∙ e in
    ap (λ l. product_showing t (plains (from_list l))) f ∙ product_at dropped t u [] g

-- all but `-x` is printed as a chain
pub chain_stays : (t : Tree) (ts : List Stamped) → 0 < length ts → turn_of (tree.more t (plains (from_list ts))) ≡ stays → (product_showing t (plains (from_list ts))).whole ≡ factors_shown t ts
chain_stays t ts l e = ap (λ x. x.whole) (product_stays t ts l e)

pub chain_opposed : (t : Tree) (ts : List Stamped) → 0 < length ts → turn_of (tree.more t (plains (from_list ts))) ≡ opposed → (f : Fraction) → t ≡ tree.num f → (product_showing t (plains (from_list ts))).whole ≡ factors_shown t ts
chain_opposed t ts l e f g = ap (λ x. x.whole) (product_opposed t ts l e f g)

pub chain_dropped : (t : Tree) (ts : List Stamped) → 0 < length ts → length ts ≢ 1 → turn_of (tree.more t (plains (from_list ts))) ≡ dropped → (product_showing t (plains (from_list ts))).whole ≡ factors_shown t ts
chain_dropped t [] l n e = absurd (omega (arith, l))
chain_dropped t (u ∷ []) l n e = absurd (n refl)
chain_dropped t (u ∷ v ∷ vs) l n e = ap (λ x. x.whole) (product_dropped t (u ∷ v ∷ vs) u v vs refl e)

pub negated : (t : Tree) (ts : List Stamped) (u : Stamped) → ts ≡ u ∷ [] → turn_of (tree.more t (plains (from_list ts))) ≡ dropped → (product_showing t (plains (from_list ts))).whole ≡ before_shown Negate (showing (plain u))
negated t ts u f e = ap (λ x. x.whole) (product_negated t ts u f e)

-- later terms

pub term_at : (x y : Showing) (old new : Page) → x ≡ y → new ≡ taken old (term_pieces y) → new ≡ taken old (term_pieces x)
term_at x y old new e f = f ∙ ap (λ z. taken old (term_pieces z)) (sym e)

-- a term behind its sign
signed : (x : Showing) (old b c : Page) → b ≡ put_text old (infix_text x.sign) → c ≡ taken b (operand_pieces x.term (pieces x.term)) → c ≡ taken old (term_pieces x)
signed x old b c e f = two_steps old b c (between (infix_text x.sign) ∷ []) (operand_pieces x.term (pieces x.term)) _ e f refl

pub added_written : (t : Tree) (s : Shown) (old b c : Page) → showing t ≡ added s → (showing t).whole ≡ s → b ≡ put_text old (codes " + ") → c ≡ taken b (placed 13 s) → c ≡ taken old (term_pieces (showing t))
added_written t s old b c e w f g =
    term_at (showing t) (added s) old c e (signed (added s) old b c f (g ∙ ap (λ p. taken b p) (ap (λ r. placed 13 r) (sym w) ∙ sym (operand_placed 13 (showing t).whole (showing_bare t)) ∙ ap (λ r. operand_pieces (operand 13 r) (pieces (operand 13 r))) w)))

pub negative_written : (f : Fraction) (old b c : Page) → is_negative f ≡ true → b ≡ put_text old (codes " - ") → c ≡ taken b (leaf (number_text (opposite f))) → c ≡ taken old (term_pieces (number_showing f))
negative_written f old b c h e g = term_at (number_showing f) (taken_off (number f) (number (opposite f))) old c (cond-true (is_negative f) (taken_off (number f) (number (opposite f))) (added (number f)) h) (signed (taken_off (number f) (number (opposite f))) old b c e g)

pub number_added : (f : Fraction) → is_negative f ≡ false → number_showing f ≡ added (number f)
number_added f h = cond-false (is_negative f) (taken_off (number f) (number (opposite f))) (added (number f)) h

-- a product of two or more factors behind its sign
factors_placed : (t : Tree) (ts : List Stamped) → 0 < length ts → placed 13 (factors_shown t ts) ≡ boxed (box_of (pieces (factors_shown t ts))) ∷ []
factors_placed t ts l = placed_below 13 (factors_shown t ts) (omega (arith, joined_level Times (showing t) ts l))

pub stays_written : (t : Tree) (ts : List Stamped) (old b c : Page) → 0 < length ts → turn_of (tree.more t (plains (from_list ts))) ≡ stays → b ≡ put_text old (codes " + ") → c ≡ taken b (placed 13 (factors_shown t ts)) → c ≡ taken old (term_pieces (product_showing t (plains (from_list ts))))
stays_written t ts old b c l e f g =
    term_at (product_showing t (plains (from_list ts))) (added (factors_shown t ts)) old c (product_stays t ts l e)
    (signed (added (factors_shown t ts)) old b c f (g ∙ ap (λ p. taken b p) (sym (operand_placed 13 (factors_shown t ts) refl))))

pub dropped_written : (t : Tree) (ts : List Stamped) (u : Stamped) (us : List Stamped) (old b c : Page) → ts ≡ u ∷ us → 0 < length us → turn_of (tree.more t (plains (from_list ts))) ≡ dropped → b ≡ put_text old (codes " - ") → c ≡ taken b (placed 13 (factors_shown (plain u) us)) → c ≡ taken old (term_pieces (product_showing t (plains (from_list ts))))
dropped_written t ts u [] old b c k l e f g = absurd (omega (arith, l))
dropped_written t ts u (v ∷ vs) old b c k l e f g =
    let x = taken_off (factors_shown t ts) (factors_shown (plain u) (v ∷ vs)) in
    term_at (product_showing t (plains (from_list ts))) x old c (product_dropped t ts u v vs k e)
    (signed x old b c f (g ∙ ap (λ p. taken b p) (factors_placed (plain u) (v ∷ vs) l)))

pub negated_written : (t : Tree) (ts : List Stamped) (u : Stamped) (old b c : Page) → ts ≡ u ∷ [] → turn_of (tree.more t (plains (from_list ts))) ≡ dropped → b ≡ put_text old (codes " - ") → c ≡ taken b (placed 12 (showing (plain u)).whole) → c ≡ taken old (term_pieces (product_showing t (plains (from_list ts))))
negated_written t ts u old b c k e f g =
    let x = taken_off (before_shown Negate (showing (plain u))) (operand 12 (showing (plain u)).whole) in
    term_at (product_showing t (plains (from_list ts))) x old c (product_negated t ts u k e)
    (signed x old b c f (g ∙ ap (λ p. taken b p) (sym (operand_placed 12 (showing (plain u)).whole (showing_bare (plain u))))))

pub opposed_written : (t : Tree) (ts : List Stamped) (f : Fraction) (old b c d e g : Page) → 0 < length ts → turn_of (tree.more t (plains (from_list ts))) ≡ opposed → t ≡ tree.num f
    → b ≡ put_text old (codes " - ") → c ≡ opened b → d ≡ taken c (leaf (number_text (opposite f))) → e ≡ taken d (further_pieces Times (showings (plains (from_list ts)))) → Closed false e g
    → g ≡ taken old (term_pieces (product_showing t (plains (from_list ts))))
opposed_written t ts f old b c d e g l h i j k m n o =
    let ys = showings (plains (from_list ts)) in
    let s = chain (number (opposite f)) (links_after nothing Times ys) in
    let x = taken_off (factors_shown t ts) s in
    term_at (product_showing t (plains (from_list ts))) x old g (product_opposed t ts l h f i)
    (signed x old b g j (boxed_row b c e g (pieces s) k (two_steps c d e (leaf (number_text (opposite f))) (further_pieces Times ys) (pieces s) m n (ap (λ p. leaf (number_text (opposite f)) ++ p) (links_after_pieces nothing Times ys (all_bare (plains (from_list ts)))))) o))

-- nodes that are no products

no_product : (r : Row) (ts : Trees) (xs : List Showing) (other : Shown) → r ≢ row.Product → by_row r ts xs other ≡ added (by_row r ts xs other).whole
no_product row.Product ts xs other h = absurd (h refl)
no_product row.Sum ts [] other h = refl
no_product row.Sum ts (x ∷ []) other h = refl
no_product row.Sum ts (x ∷ y ∷ ys) other h = refl
no_product (row.Chain o) ts [] other h = refl
no_product (row.Chain o) ts (x ∷ []) other h = refl
no_product (row.Chain o) ts (x ∷ y ∷ ys) other h = refl
no_product (row.Pair o) ts [] other h = refl
no_product (row.Pair o) ts (x ∷ []) other h = refl
no_product (row.Pair o) ts (x ∷ y ∷ []) other h = refl
no_product (row.Pair o) ts (x ∷ y ∷ z ∷ zs) other h = refl
no_product row.Not ts [] other h = refl
no_product row.Not ts (x ∷ []) other h = refl
no_product row.Not ts (x ∷ y ∷ ys) other h = refl
no_product (row.Ends o) ts [] other h = refl
no_product (row.Ends o) ts (x ∷ []) other h = refl
no_product (row.Ends o) ts (x ∷ y ∷ ys) other h = refl
no_product row.Statements ts [] other h = refl
no_product row.Statements ts (x ∷ []) other h = refl
no_product row.Statements ts (x ∷ y ∷ ys) other h = refl
no_product row.Part ts [] other h = refl
no_product row.Part ts (x ∷ []) other h = refl
no_product row.Part ts (x ∷ y ∷ ys) other h = refl
no_product row.List ts xs other h = refl
no_product (row.Blanks k) ts xs other h = refl
no_product row.Pattern ts xs other h = refl
no_product row.Optional ts xs other h = refl
no_product (row.Slot d) ts xs other h = refl
no_product row.Message ts xs other h = refl
no_product row.Call ts xs other h = refl

pub node_added : (h : Tree) (ts : Trees) (r : Row) → row_of h ≡ r → r ≢ row.Product → node_showing h ts ≡ added (node_shown h ts)
node_added h ts r e n = no_product (row_of h) ts (showings ts) (call_shown (showing h) (showings ts)) (λ f. n (sym e ∙ f))

pub short_added : (h : Tree) (es : List Stamped) → row_of h ≡ row.Product → length es < 2 → node_showing h (plains (from_list es)) ≡ added (node_shown h (plains (from_list es)))
short_added h [] e l = ap (λ r. by_row r tree.none [] (call_shown (showing h) [])) e ∙ ap (λ r. added (by_row r tree.none [] (call_shown (showing h) [])).whole) (sym e)
short_added h (t ∷ []) e l = ap (λ r. by_row r (tree.more (plain t) tree.none) (showing (plain t) ∷ []) (call_shown (showing h) (showing (plain t) ∷ []))) e ∙ ap (λ r. added (by_row r (tree.more (plain t) tree.none) (showing (plain t) ∷ []) (call_shown (showing h) (showing (plain t) ∷ []))).whole) (sym e)
short_added h (t ∷ u ∷ us) e l = absurd (omega (arith, l))

pub is_product : (h : Tree) (es : List Stamped) (t : Stamped) (ts : List Stamped) → row_of h ≡ row.Product → es ≡ t ∷ ts → 0 < length ts → IsProduct h es t ts
is_product h es t [] e f l = absurd (omega (arith, l))
is_product h es t (u ∷ us) e f l = record {
  showing_is = ap (λ r. by_row r (plains (from_list es)) (showings (plains (from_list es))) (call_shown (showing h) (showings (plains (from_list es))))) e
      ∙ ap (λ x. by_row row.Product (plains (from_list x)) (showings (plains (from_list x))) (call_shown (showing h) (showings (plains (from_list x))))) f;
  elements = f;
  more = l;
}
