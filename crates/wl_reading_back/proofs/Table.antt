-- What is printed of an expression keeps the levels and stands for the expression, its fractions spelled out.
use Rattle.std.proofs.Common.{inl, inr, ℕ, ℤ, zero, suc, ◌^◌, ◌<◌, ◌≤◌, ◌≡◌, Bool, true, false, not, ◌&&◌, ◌==◌, cond, List, [], ◌∷◌, ◌++◌, length, refl, sym, ap, ◌∙◌, arith, codes, subst, append_assoc, append-nil}
use Rattle.std.specs.Prelude.{nat_lt, nat_le, pos, negsuc, neg_ℤ, unsigned_abs, Option, Some, None}
use Rattle.std.specs.Str.{bytes_eq}
use Rattle.std.proofs.lemmas.Bool.{cases_Bool, cond_both, cond-true, cond-false, not-true, and_parts, eqb-true, ne_eqb, ltb-true, leb-true}
use Rattle.std.proofs.lemmas.Bool.Decides.{nat_tests}
use Rattle.std.proofs.lemmas.Slice.Eq.{bytes_eq-Decides}
use Rattle.wl_exact.specs.Fraction.{Fraction, IsNumber}
use Rattle.wl_exact.specs.Gcd.{gcd}
use Rattle.wl_ports.specs.Name.{is_name}
use Rattle.wl_expr.specs.Tree as full
use Rattle.wl_expr.specs.Tree.{from_list, to_list, from_list_to_list}
use Rattle.wl_expr.specs.Proper.{IsProper, AreProper}
use Rattle.wl_form.specs.declared.operator.Infix.{Infix}
use Rattle.wl_form.specs.declared.operator.Infix.TheVariants.{Message, PatternTest, Map, Apply, Power, Times, Plus, Minus, Colon, Condition, Rule, RuleDelayed, ReplaceAll, ReplaceRepeated, AddTo, SubtractFrom, TimesBy, DivideBy, Set, SetDelayed, UpSet, UpSetDelayed, Semi}
use Rattle.wl_form.specs.declared.operator.Prefix.TheVariants.{Not}
use Rattle.wl_form.specs.declared.operator.Postfix.{Postfix}
use Rattle.wl_form.specs.declared.operator.Postfix.TheVariants.{Factorial, Repeated, RepeatedNull, Function}
use Rattle.wl_form.specs.declared.operator.Marks.{Marks}
use Rattle.wl_form.specs.declared.operator.Marks.TheVariants.{One}
use Rattle.wl_form.specs.declared.operator.Row.{Row}
use Rattle.wl_form.specs.declared.operator.Row.TheVariants as row
use Rattle.wl_form.specs.Operators.{infix_level, postfix_level, takes_equal}
use Rattle.wl_form.specs.Heads.{row_of}
use Rattle.wl_form.specs.Shown.{Shown, number, name, string, pattern, slot, parens, braces, call, part, before, after, chain, ended, Elems, none, more, Links, nothing, behind, level, links_level, is_negative, is_below_zero, operand, operand_or_equal, right_operand, text_of}
use Rattle.wl_form.specs.Table.{Showing, added, taken_off, opposite, number_showing, elems_after, elems, links_after, joined, terms_after, part_of, all_but_last, is_number, is_minus_one, ends_in_null, Turn, opposed, dropped, stays, turn_of, first_number, product, product_by, statements, blanks_of, blanks_by, or_else, colon, pattern_of, default_by, default_named, default_of_pattern, default_of, is_symbol, optional_of, slot_of, message_of, by_row, showing, showings}
use Rattle.wl_form.specs.Texts.{spelled, all_spelled, spelled_number, stops, ends_in_stop}
use Rattle.wl_syntax.specs.declared.chain.Form.{Form}
use Rattle.wl_syntax.specs.declared.chain.Form.TheVariants as form_is
use Rattle.wl_syntax.specs.declared.chain.Link.{Link}
use Rattle.wl_syntax.specs.declared.chain.Link.TheVariants.{Starts, GoesOn}
use Rattle.wl_syntax.specs.declared.operator.Infix.TheVariants as read_infix
use Rattle.wl_syntax.specs.Atoms.{named, whole_number, bound}
use Rattle.wl_syntax.specs.Chain as chains
use Rattle.wl_syntax.specs.Chain.{is_chain, link, form}
use Rattle.wl_syntax.specs.Lower.{whole, reach, items, elements, lower, operand_of, colon_of, negative, negated_at, is_product, minus_one, joined_reach, further, statements as lowered_statements}
use Rattle.wl_syntax.specs.Table as table
use Rattle.wl_syntax.specs.Tree as tree
use Rattle.wl_syntax.specs.Tree.{Tree}
use Rattle.wl_reading_back.specs.Written.{as_infix, as_postfix, written, written_elems, linked, signed, number_tree, digits_of}
use Rattle.wl_reading_back.proofs.Classes.{IsWord, word_some}
use Rattle.wl_reading_back.proofs.Words.{MaybeWord}
use Rattle.wl_reading_back.proofs.Well.{Well, WellElems, WellLinks, GoesOnFrom, OnNames, NoStop, fits_right, same_name}
use Rattle.wl_reading_back.proofs.Lowering.{Tame, tame, value_of, values_of, ChainOf, chain_of, chain_value, alone_form, starts}
use Rattle.wl_reading_back.proofs.Back.{digits_back, number_back, slot_back, slot_name, pattern_plain, pattern_head, pattern_default, blank_name}
use Rattle.wl_reading_back.proofs.Rowed.{row_name, is_pair, is_plain_chain, row_ok, is_call, Headed, headed}

-- operands

operand_well : (q : ℕ) (s : Shown) → Well s → Well (operand q s)
unfolding Well
operand_well q s w = cond_both (nat_lt (level s) q) s (parens s) Well (λ _. w) (λ _. w)

operand_level : (q : ℕ) (s : Shown) → 0 < q → level (operand q s) < q
operand_level q s l = cond_both (nat_lt (level s) q) s (parens s) (λ u. level u < q) (λ e. ltb-true (level s) q e) (λ _. l)

operand_value : (q : ℕ) (s : Shown) → lower (written (operand q s)) ≡ lower (written s)
operand_value q s = cond_both (nat_lt (level s) q) s (parens s) (λ u. lower (written u) ≡ lower (written s)) (λ _. refl) (λ _. refl)

equal_well : (q : ℕ) (s : Shown) → Well s → Well (operand_or_equal q s)
unfolding Well
equal_well q s w = cond_both (nat_le (level s) q) s (parens s) Well (λ _. w) (λ _. w)

equal_level : (q : ℕ) (s : Shown) → level (operand_or_equal q s) ≤ q
equal_level q s = cond_both (nat_le (level s) q) s (parens s) (λ u. level u ≤ q) (λ e. leb-true (level s) q e) (λ _. omega arith)

equal_value : (q : ℕ) (s : Shown) → lower (written (operand_or_equal q s)) ≡ lower (written s)
equal_value q s = cond_both (nat_le (level s) q) s (parens s) (λ u. lower (written u) ≡ lower (written s)) (λ _. refl) (λ _. refl)

fits_below : (p q : ℕ) → p < q → fits_right q p ≡ true
fits_below p q l = grind (arith, nat_tests)

fits_equal : (p q : ℕ) → takes_equal q ≡ true → p ≤ q → fits_right q p ≡ true
fits_equal p q t l = grind (arith, nat_tests)

right_well : (q : ℕ) (s : Shown) → Well s → Well (right_operand q s)
right_well q s w = cond_both (takes_equal q) (operand_or_equal q s) (operand q s) Well (λ _. equal_well q s w) (λ _. operand_well q s w)

right_fits : (q : ℕ) (s : Shown) → 0 < q → fits_right q (level (right_operand q s)) ≡ true
right_fits q s l = cond_both (takes_equal q) (operand_or_equal q s) (operand q s) (λ u. fits_right q (level u) ≡ true) (λ t. fits_equal (level (operand_or_equal q s)) q t (equal_level q s)) (λ _. fits_below (level (operand q s)) q (operand_level q s l))

right_value : (q : ℕ) (s : Shown) → lower (written (right_operand q s)) ≡ lower (written s)
right_value q s = cond_both (takes_equal q) (operand_or_equal q s) (operand q s) (λ u. lower (written u) ≡ lower (written s)) (λ _. equal_value q s) (λ _. operand_value q s)

-- operators

no_message : (o : Infix) (s : Shown) (ls : Links) (r : Shown) → not (infix_level o == 1) ≡ true → OnNames o s ls r
no_message Message s ls r h = absurd (cc)
no_message _ s ls r h = tt

some_level : (o : Infix) → 0 < infix_level o
some_level Message = omega arith
some_level _ = omega arith

plain_operand : (o : Infix) (f : Form) (n : Option ℕ) (es : List full.Tree) → not (infix_level o == 13) ≡ true → operand_of (as_infix o) f n es ≡ whole f es
plain_operand Minus f n es h = absurd (cc)
plain_operand _ f n es h = refl

pair_value : (o : Infix) (l r : Tree) → is_pair o ≡ true → lower (tree.between l (as_infix o) r) ≡ named (table.infix_name (as_infix o)) (lower l ∷ lower r ∷ [])
unfolding table.infix_level
pair_value PatternTest l r h = refl
pair_value Map l r h = refl
pair_value Apply l r h = refl
pair_value Power l r h = refl
pair_value Condition l r h = refl
pair_value Rule l r h = refl
pair_value RuleDelayed l r h = refl
pair_value ReplaceAll l r h = refl
pair_value ReplaceRepeated l r h = refl
pair_value AddTo l r h = refl
pair_value SubtractFrom l r h = refl
pair_value TimesBy l r h = refl
pair_value DivideBy l r h = refl
pair_value Set l r h = refl
pair_value SetDelayed l r h = refl
pair_value UpSet l r h = refl
pair_value UpSetDelayed l r h = refl
pair_value _ l r h = absurd (cc)

-- what a showing must be for its expression

abbrev IsSum : Infix → Type 0
IsSum Plus = Unit {0}
IsSum Minus = Unit {0}
IsSum _ = ⊥

abbrev NotNamed : Form → Type 0
NotNamed f = (l r : full.Tree) → colon_of f l r ≡ named (codes "Optional") (l ∷ r ∷ [])

pub record Good (t : full.Tree) (x : Showing) : Type 0 where
  pub well : Well x.whole
  pub value : lower (written x.whole) ≡ spelled t
  pub unnamed : is_symbol t ≡ false → NotNamed (form (written x.whole))
  pub unreached : is_number t ≡ false → level x.whole < 12 → reach (written x.whole) ≡ None
  pub is_sum : IsSum x.sign
  pub term_well : Well x.term
  pub term_level : level x.term < 13
  pub term_value : value_of x.sign x.term ≡ spelled t

unfoldable pub AllGood : full.Trees → Type 0
AllGood full.none = Unit {0}
AllGood (full.more t ts) = Good t (showing t) × AllGood ts

-- the expressions of elements
abbrev values : full.Trees → List full.Tree
values ts = to_list (all_spelled ts)

pub added_good : (t : full.Tree) (s : Shown) → Well s → lower (written s) ≡ spelled t → (is_symbol t ≡ false → NotNamed (form (written s))) → (is_number t ≡ false → level s < 12 → reach (written s) ≡ None) → Good t (added s)
added_good t s w v n r = record {
  well = w;
  value = v;
  unnamed = n;
  unreached = r;
  is_sum = tt;
  term_well = operand_well 13 s w;
  term_level = operand_level 13 s (omega arith);
  term_value = operand_value 13 s ∙ v;
}

-- the texts of nodes

abbrev is_row : Shown → Bool
is_row (number f) = false
is_row (name s) = false
is_row (string s) = false
is_row (chain s nothing) = false
is_row _ = true

alone_not_named : (o : Infix) → NotNamed (chains.alone (as_infix o))
alone_not_named Set l r = refl
alone_not_named SetDelayed l r = refl
alone_not_named _ l r = refl

links_not_named : (s : Shown) (ls : Links) (o : Infix) (r : Shown) → Well (chain s (behind ls o r)) → NotNamed (form (linked (written s) (behind ls o r)))
unfolding Well
links_not_named s ls o r w = elim (cases_Bool (is_chain (infix_level o))) [
  | inl c ↦ subst NotNamed (sym (chain_of (infix_level o) s ls o r (tame s w.0) w.1 c w.2).form_is) (λ a b. refl)
  | inr n ↦ subst NotNamed (sym (alone_form o (form (linked (written s) ls)) n)) (alone_not_named o)
]

postfix_not_named : (t : Tree) (o : Postfix) → NotNamed (form (tree.after t (as_postfix o)))
postfix_not_named t Factorial l r = refl
postfix_not_named t _ l r = refl

row_not_named : (s : Shown) → Well s → is_row s ≡ true → NotNamed (form (written s))
row_not_named (number f) w h = absurd (cc)
row_not_named (name s) w h = absurd (cc)
row_not_named (string s) w h = absurd (cc)
row_not_named (chain s nothing) w h = absurd (cc)
row_not_named (chain s (behind ls o r)) w h = links_not_named s ls o r w
row_not_named (after s o) w h = postfix_not_named (written s) o
row_not_named (pattern x k t) w h = λ l r. refl
row_not_named (slot d n) w h = λ l r. refl
row_not_named (parens s) w h = λ l r. refl
row_not_named (braces xs) w h = λ l r. refl
row_not_named (call f xs) w h = λ l r. refl
row_not_named (part f xs s) w h = λ l r. refl
row_not_named (before o s) w h = λ l r. refl
row_not_named (ended s ls) w h = λ l r. refl

tight_reach : (o : Infix) (l r : Tree) → infix_level o < 12 → reach (tree.between l (as_infix o) r) ≡ None
tight_reach Times l r h = absurd (omega (arith, h))
tight_reach _ l r h = refl

row_reach : (s : Shown) → is_row s ≡ true → level s < 12 → reach (written s) ≡ None
row_reach (number f) h l = absurd (cc)
row_reach (name s) h l = absurd (cc)
row_reach (string s) h l = absurd (cc)
row_reach (chain s nothing) h l = absurd (cc)
row_reach (chain s (behind ls o r)) h l = tight_reach o (linked (written s) ls) (written r) l
row_reach (after s o) h l = refl
row_reach (pattern x k t) h l = refl
row_reach (slot d n) h l = refl
row_reach (parens s) h l = refl
row_reach (braces xs) h l = refl
row_reach (call f xs) h l = refl
row_reach (part f xs s) h l = refl
row_reach (before o s) h l = refl
row_reach (ended s ls) h l = refl

pub node_good : (t : full.Tree) (s : Shown) → Well s → lower (written s) ≡ spelled t → is_row s ≡ true → Good t (added s)
node_good t s w v h = added_good t s w v (λ _. row_not_named s w h) (λ _. row_reach s h)

-- elements

elems_are : (e : Elems) (ts : full.Trees) → AllGood ts → elements (written_elems (elems_after e (showings ts))) ≡ elements (written_elems e) ++ values ts
unfolding AllGood
elems_are e full.none g = sym (append-nil (elements (written_elems e)))
elems_are e (full.more t ts) g =
    elems_are (more e (showing t).whole) ts g.1
    ∙ append_assoc (elements (written_elems e)) (lower (written (showing t).whole) ∷ []) (values ts)
    ∙ ap (λ v. elements (written_elems e) ++ (v ∷ values ts)) g.0.value

elems_well : (e : Elems) (ts : full.Trees) → WellElems e → AllGood ts → WellElems (elems_after e (showings ts))
unfolding AllGood Well
elems_well e full.none w g = w
elems_well e (full.more t ts) w g = elems_well (more e (showing t).whole) ts (w, g.0.well) g.1

all_elems_well : (ts : full.Trees) → AllGood ts → WellElems (elems (showings ts))
unfolding Well
all_elems_well ts g = elems_well none ts tt g

same_trees : (ts : full.Trees) → from_list (values ts) ≡ all_spelled ts
same_trees ts = from_list_to_list (all_spelled ts)

-- a call
pub call_good : (h : full.Tree) (ts : full.Trees) → Good h (showing h) → AllGood ts → Good (full.node h ts) (added (call (operand_or_equal 3 (showing h).whole) (elems (showings ts))))
unfolding Well
call_good h ts g gs = node_good (full.node h ts) (call (operand_or_equal 3 (showing h).whole) (elems (showings ts)))
    (equal_well 3 (showing h).whole g.well, equal_level 3 (showing h).whole, all_elems_well ts gs)
    (ap (λ es. full.node (lower (written (operand_or_equal 3 (showing h).whole))) (from_list es)) (elems_are none ts gs)
    ∙ ap (λ f. full.node f (from_list (values ts))) (equal_value 3 (showing h).whole ∙ g.value) ∙ ap (λ us. full.node (spelled h) us) (same_trees ts))
    refl

list_good : (ts : full.Trees) → AllGood ts → Good (full.node (full.symbol (codes "List")) ts) (added (braces (elems (showings ts))))
unfolding Well
list_good ts gs = node_good _ (braces (elems (showings ts))) (all_elems_well ts gs) (ap (λ es. named (codes "List") es) (elems_are none ts gs) ∙ ap (λ us. full.node (full.symbol (codes "List")) us) (same_trees ts)) refl

-- chains

-- the last operator
abbrev EndsWith : Links → Infix → Type 0
EndsWith nothing o = ⊥
EndsWith (behind ls p r) o = p ≡ o

ends_level : (ls : Links) (o : Infix) → EndsWith ls o → links_level ls ≡ infix_level o
ends_level nothing o e = absurd e
ends_level (behind ls p r) o e = ap infix_level e

ends_well : (s : Shown) (ls : Links) (o : Infix) → EndsWith ls o → Well s → level s < infix_level o → WellLinks (infix_level o) s ls → Well (chain s ls)
unfolding Well
ends_well s ls o e w l h = subst (λ q. Well s × (level s < q) × WellLinks q s ls) (sym (ends_level ls o e)) (w, l, h)

ends_chain : (s : Shown) (ls : Links) (o : Infix) → EndsWith ls o → Well s → level s < infix_level o → WellLinks (infix_level o) s ls → is_chain (infix_level o) ≡ true → ChainOf (linked (written s) ls) o (lower (written s) ∷ values_of ls)
unfolding Well
ends_chain s nothing o e w l h c = absurd e
ends_chain s (behind ls p r) o e w l h c =
    subst (λ x. ChainOf (linked (written s) (behind ls p r)) x (lower (written s) ∷ values_of (behind ls p r))) e
    (chain_of (infix_level p) s ls p r (tame s w) (omega (arith, l, ap infix_level e)) (subst (λ n. is_chain n ≡ true) (ap infix_level (sym e)) c) (subst (λ n. WellLinks n s (behind ls p r)) (ap infix_level (sym e)) h))

record LinksGood (s : Shown) (o : Infix) (ls : Links) (vs : List full.Tree) : Type 0 where
  well : WellLinks (infix_level o) s ls
  ends : EndsWith ls o
  values : values_of ls ≡ vs

one_link : (s : Shown) (ls : Links) (o : Infix) (x : Showing) (t : full.Tree) → is_plain_chain o ≡ true → Good t x → WellLinks (infix_level o) s ls → GoesOnFrom (infix_level o) ls o → WellLinks (infix_level o) s (behind ls o (operand (infix_level o) x.whole))
unfolding Well
one_link s ls o x t c g w f =
    let p = and_parts (is_chain (infix_level o)) (not (infix_level o == 13) && not (infix_level o == 1)) c in
    let q = and_parts (not (infix_level o == 13)) (not (infix_level o == 1)) p.1 in
    (w, operand_well (infix_level o) x.whole g.well, refl, fits_below (level (operand (infix_level o) x.whole)) (infix_level o) (operand_level (infix_level o) x.whole (some_level o)), no_message o s ls (operand (infix_level o) x.whole) q.1, f)

link_value : (o : Infix) (x : Showing) (t : full.Tree) → is_plain_chain o ≡ true → Good t x → value_of o (operand (infix_level o) x.whole) ≡ spelled t
link_value o x t c g =
    let p = and_parts (is_chain (infix_level o)) (not (infix_level o == 13) && not (infix_level o == 1)) c in
    let q = and_parts (not (infix_level o == 13)) (not (infix_level o == 1)) p.1 in
    let T = operand (infix_level o) x.whole in
    plain_operand o (form (written T)) (reach (written T)) (items (written T)) q.0 ∙ operand_value (infix_level o) x.whole ∙ g.value

again : (q : ℕ) (o : Infix) → is_chain q ≡ true → (is_chain q ≡ true) × (bytes_eq (table.infix_name (as_infix o)) (table.infix_name (as_infix o)) ≡ true)
again q o c = (c, same_name (table.infix_name (as_infix o)))

links_on : (s : Shown) (o : Infix) (ls : Links) (ts : full.Trees) (vs : List full.Tree) → is_plain_chain o ≡ true → AllGood ts → LinksGood s o ls vs → LinksGood s o (links_after ls o (showings ts)) (vs ++ values ts)
unfolding AllGood Well
links_on s o ls full.none vs c gs h = record { well = h.well; ends = h.ends; values = h.values ∙ sym (append-nil vs) }
links_on s o nothing (full.more t ts) vs c gs h = absurd h.ends
links_on s o (behind ls p r) (full.more t ts) vs c gs h =
    let T = operand (infix_level o) (showing t).whole in
    let chained : is_chain (infix_level o) ≡ true = (and_parts (is_chain (infix_level o)) (not (infix_level o == 13) && not (infix_level o == 1)) c).0 in
    let goes : GoesOnFrom (infix_level o) (behind ls p r) o = (chained, ap (λ n. bytes_eq n (table.infix_name (as_infix o))) (ap (λ x. table.infix_name (as_infix x)) h.ends) ∙ same_name (table.infix_name (as_infix o))) in
    let next : LinksGood s o (behind (behind ls p r) o T) (vs ++ (spelled t ∷ [])) = record {
      well = one_link s (behind ls p r) o (showing t) t c gs.0 h.well goes;
      ends = refl;
      values = ap (λ l. l ++ (value_of o T ∷ [])) h.values ∙ ap (λ v. vs ++ (v ∷ [])) (link_value o (showing t) t c gs.0);
    } in
    subst (λ l. LinksGood s o (links_after (behind (behind ls p r) o T) o (showings ts)) l) (append_assoc vs (spelled t ∷ []) (values ts)) (links_on s o (behind (behind ls p r) o T) ts (vs ++ (spelled t ∷ [])) c gs.1 next)

-- further operands of one operator
links_from : (s : Shown) (o : Infix) (t : full.Tree) (ts : full.Trees) → is_plain_chain o ≡ true → Good t (showing t) → AllGood ts → LinksGood s o (links_after nothing o (showing t ∷ showings ts)) (spelled t ∷ values ts)
unfolding Well
links_from s o t ts c g gs =
    links_on s o (behind nothing o (operand (infix_level o) (showing t).whole)) ts (spelled t ∷ []) c gs (record {
      well = one_link s nothing o (showing t) t c g tt tt;
      ends = refl;
      values = ap (λ v. v ∷ []) (link_value o (showing t) t c g);
    })

-- a chain with its first operand
pub record ChainGood (s : Shown) (ls : Links) (o : Infix) (vs : List full.Tree) : Type 0 where
  pub well : Well (chain s ls)
  pub chain : ChainOf (linked (written s) ls) o vs

chain_good : (s : Shown) (o : Infix) (ls : Links) (vs : List full.Tree) → Well s → level s < infix_level o → is_chain (infix_level o) ≡ true → LinksGood s o ls vs → ChainGood s ls o (lower (written s) ∷ vs)
chain_good s o ls vs w l c h = record {
  well = ends_well s ls o h.ends w l h.well;
  chain = subst (λ us. ChainOf (linked (written s) ls) o (lower (written s) ∷ us)) h.values (ends_chain s ls o h.ends w l h.well c);
}

plain_is_chain : (o : Infix) → is_plain_chain o ≡ true → is_chain (infix_level o) ≡ true
plain_is_chain o c = (and_parts (is_chain (infix_level o)) (not (infix_level o == 13) && not (infix_level o == 1)) c).0

joined_good : (o : Infix) (t u : full.Tree) (us : full.Trees) → is_plain_chain o ≡ true → Good t (showing t) → Good u (showing u) → AllGood us
    → ChainGood (operand (infix_level o) (showing t).whole) (links_after nothing o (showing u ∷ showings us)) o (spelled t ∷ spelled u ∷ values us)
joined_good o t u us c g h gs =
    let s = operand (infix_level o) (showing t).whole in
    subst (λ v. ChainGood s (links_after nothing o (showing u ∷ showings us)) o (v ∷ spelled u ∷ values us)) (operand_value (infix_level o) (showing t).whole ∙ g.value)
    (chain_good s o (links_after nothing o (showing u ∷ showings us)) (spelled u ∷ values us) (operand_well (infix_level o) (showing t).whole g.well) (operand_level (infix_level o) (showing t).whole (some_level o)) (plain_is_chain o c) (links_from s o u us c h gs))

-- a chain stands for the node of its head and its operands
chain_node : (s : Shown) (ls : Links) (o : Infix) (t : full.Tree) (ts : full.Trees) → ChainGood s ls o (spelled t ∷ values ts) → lower (written (chain s ls)) ≡ full.node (full.symbol (table.infix_name (as_infix o))) (full.more (spelled t) (all_spelled ts))
chain_node s ls o t ts h = chain_value (linked (written s) ls) o (spelled t ∷ values ts) h.chain ∙ ap (λ us. full.node (full.symbol (table.infix_name (as_infix o))) (full.more (spelled t) us)) (same_trees ts)

-- is a row: it has links
linked_row : (s : Shown) (ls : Links) (o : Infix) → EndsWith ls o → is_row (chain s ls) ≡ true
linked_row s nothing o e = absurd e
linked_row s (behind ls p r) o e = refl

row_joined : (o : Infix) (t u : full.Tree) (us : full.Trees) → is_plain_chain o ≡ true → Good t (showing t) → Good u (showing u) → AllGood us
    → Good (full.node (full.symbol (table.infix_name (as_infix o))) (full.more t (full.more u us))) (added (joined o (showing t) (showing u ∷ showings us)))
row_joined o t u us c g h gs =
    let s = operand (infix_level o) (showing t).whole in
    let ls = links_after nothing o (showing u ∷ showings us) in
    let j = joined_good o t u us c g h gs in
    node_good _ (chain s ls) j.well (chain_node s ls o t (full.more u us) j) (linked_row s ls o (links_from s o u us c h gs).ends)

-- pairs

row_pair : (o : Infix) (t u : full.Tree) → is_pair o ≡ true → Good t (showing t) → Good u (showing u)
    → Good (full.node (full.symbol (table.infix_name (as_infix o))) (full.more t (full.more u full.none))) (added (chain (operand (infix_level o) (showing t).whole) (behind nothing o (right_operand (infix_level o) (showing u).whole))))
unfolding Well
row_pair o t u c g h =
    let l = operand (infix_level o) (showing t).whole in
    let r = right_operand (infix_level o) (showing u).whole in
    let p = and_parts (not (is_chain (infix_level o))) (not (infix_level o == 1) && not (infix_level o == 21)) c in
    let q = and_parts (not (infix_level o == 1)) (not (infix_level o == 21)) p.1 in
    node_good _ (chain l (behind nothing o r)) (
      operand_well (infix_level o) (showing t).whole g.well,
      operand_level (infix_level o) (showing t).whole (some_level o),
      (tt, right_well (infix_level o) (showing u).whole h.well, refl, right_fits (infix_level o) (showing u).whole (some_level o), no_message o l nothing r q.0, tt),
    )
    (pair_value o (written l) (written r) c ∙ ap (λ v. named (table.infix_name (as_infix o)) (v ∷ lower (written r) ∷ [])) (operand_value (infix_level o) (showing t).whole ∙ g.value)
    ∙ ap (λ v. named (table.infix_name (as_infix o)) (spelled t ∷ v ∷ [])) (right_value (infix_level o) (showing u).whole ∙ h.value))
    refl

-- one operand

row_not : (t : full.Tree) → Good t (showing t) → Good (full.node (full.symbol (codes "Not")) (full.more t full.none)) (added (before Not (operand 16 (showing t).whole)))
unfolding Well
row_not t g = node_good _ (before Not (operand 16 (showing t).whole)) (operand_well 16 (showing t).whole g.well, operand_level 16 (showing t).whole (omega arith))
    (ap (λ v. named (codes "Not") (v ∷ [])) (operand_value 16 (showing t).whole ∙ g.value)) refl

some_postfix : (o : Postfix) → 0 < postfix_level o
some_postfix Factorial = omega arith
some_postfix _ = omega arith

postfix_value : (o : Postfix) (t : Tree) → lower (tree.after t (as_postfix o)) ≡ named (table.postfix_name (as_postfix o)) (lower t ∷ [])
postfix_value Factorial t = refl
postfix_value Repeated t = refl
postfix_value RepeatedNull t = refl
postfix_value Function t = refl

round_stop : (x : List ℕ) → ends_in_stop (x ++ (41 ∷ [])) ≡ false
round_stop [] = refl
round_stop (b ∷ []) = refl
round_stop (b ∷ c ∷ x) = round_stop (c ∷ x)

operand_stop : (q : ℕ) (s : Shown) → ends_in_stop (text_of s) ≡ false → ends_in_stop (text_of (operand q s)) ≡ false
operand_stop q s h = cond_both (nat_lt (level s) q) s (parens s) (λ u. ends_in_stop (text_of u) ≡ false) (λ _. h) (λ _. round_stop (40 ∷ text_of s))

no_stop : (o : Postfix) (t : full.Tree) → stops (row.Ends o) (full.more t full.none) ≡ false → NoStop o (operand (postfix_level o) (showing t).whole)
no_stop Factorial t h = tt
no_stop Function t h = tt
no_stop Repeated t h = operand_stop 19 (showing t).whole h
no_stop RepeatedNull t h = operand_stop 19 (showing t).whole h

row_ends : (o : Postfix) (t : full.Tree) → stops (row.Ends o) (full.more t full.none) ≡ false → Good t (showing t) → Good (full.node (full.symbol (table.postfix_name (as_postfix o))) (full.more t full.none)) (added (after (operand (postfix_level o) (showing t).whole) o))
unfolding Well
row_ends o t n g = node_good _ (after (operand (postfix_level o) (showing t).whole) o)
    (operand_well (postfix_level o) (showing t).whole g.well, operand_level (postfix_level o) (showing t).whole (some_postfix o), no_stop o t n)
    (postfix_value o (written (operand (postfix_level o) (showing t).whole)) ∙ ap (λ v. named (table.postfix_name (as_postfix o)) (v ∷ [])) (operand_value (postfix_level o) (showing t).whole ∙ g.value))
    refl

-- sums

sum_level : (o : Infix) → IsSum o → infix_level o ≡ 13
sum_level Plus h = refl
sum_level Minus h = refl
sum_level _ h = absurd h

sum_name : (o : Infix) → IsSum o → table.infix_name (as_infix o) ≡ codes "Plus"
sum_name Plus h = refl
sum_name Minus h = refl
sum_name _ h = absurd h

sum_names : (o : Infix) (s : Shown) (ls : Links) (r : Shown) → IsSum o → OnNames o s ls r
sum_names Plus s ls r h = tt
sum_names Minus s ls r h = tt
sum_names _ s ls r h = absurd h

record SumGood (s : Shown) (ls : Links) (vs : List full.Tree) : Type 0 where
  sign : Infix
  is_sum : IsSum sign
  well : WellLinks 13 s ls
  ends : EndsWith ls sign
  values : values_of ls ≡ vs

sum_link : (s : Shown) (ls : Links) (x : Showing) (t : full.Tree) → Good t x → WellLinks 13 s ls → GoesOnFrom 13 ls x.sign → WellLinks 13 s (behind ls x.sign x.term)
unfolding Well
sum_link s ls x t g w f = (w, g.term_well, sum_level x.sign g.is_sum, fits_below (level x.term) 13 g.term_level, sum_names x.sign s ls x.term g.is_sum, f)

sums_on : (s : Shown) (ls : Links) (ts : full.Trees) (vs : List full.Tree) → AllGood ts → SumGood s ls vs → SumGood s (terms_after ls (showings ts)) (vs ++ values ts)
unfolding AllGood Well
sums_on s ls full.none vs gs h = record { sign = h.sign; is_sum = h.is_sum; well = h.well; ends = h.ends; values = h.values ∙ sym (append-nil vs) }
sums_on s nothing (full.more t ts) vs gs h = absurd h.ends
sums_on s (behind ls p r) (full.more t ts) vs gs h =
    let x = showing t in
    let same : table.infix_name (as_infix p) ≡ table.infix_name (as_infix x.sign) = ap (λ o. table.infix_name (as_infix o)) h.ends ∙ sum_name h.sign h.is_sum ∙ sym (sum_name x.sign gs.0.is_sum) in
    let goes : GoesOnFrom 13 (behind ls p r) x.sign = (refl, ap (λ n. bytes_eq n (table.infix_name (as_infix x.sign))) same ∙ same_name (table.infix_name (as_infix x.sign))) in
    let next : SumGood s (behind (behind ls p r) x.sign x.term) (vs ++ (spelled t ∷ [])) = record {
      sign = x.sign;
      is_sum = gs.0.is_sum;
      well = sum_link s (behind ls p r) x t gs.0 h.well goes;
      ends = refl;
      values = ap (λ l. l ++ (value_of x.sign x.term ∷ [])) h.values ∙ ap (λ v. vs ++ (v ∷ [])) gs.0.term_value;
    } in
    subst (λ l. SumGood s (terms_after (behind (behind ls p r) x.sign x.term) (showings ts)) l) (append_assoc vs (spelled t ∷ []) (values ts)) (sums_on s (behind (behind ls p r) x.sign x.term) ts (vs ++ (spelled t ∷ [])) gs.1 next)

sums_from : (s : Shown) (t : full.Tree) (ts : full.Trees) → Good t (showing t) → AllGood ts → SumGood s (terms_after nothing (showing t ∷ showings ts)) (spelled t ∷ values ts)
unfolding Well
sums_from s t ts g gs = sums_on s (behind nothing (showing t).sign (showing t).term) ts (spelled t ∷ []) gs (record {
  sign = (showing t).sign;
  is_sum = g.is_sum;
  well = sum_link s nothing (showing t) t g tt tt;
  ends = refl;
  values = ap (λ v. v ∷ []) g.term_value;
})

row_sum : (t u : full.Tree) (us : full.Trees) → Good t (showing t) → Good u (showing u) → AllGood us
    → Good (full.node (full.symbol (codes "Plus")) (full.more t (full.more u us))) (added (chain (operand 13 (showing t).whole) (terms_after nothing (showing u ∷ showings us))))
row_sum t u us g h gs =
    let s = operand 13 (showing t).whole in
    let ls = terms_after nothing (showing u ∷ showings us) in
    let f = sums_from s u us h gs in
    let o = f.sign in
    let low : infix_level o ≡ 13 = sum_level o f.is_sum in
    let c : ChainGood s ls o (lower (written s) ∷ spelled u ∷ values us) = chain_good s o ls (spelled u ∷ values us) (operand_well 13 (showing t).whole g.well) (omega (arith, operand_level 13 (showing t).whole (omega arith), low)) (subst (λ n. is_chain n ≡ true) (sym low) refl)
    (record { well = subst (λ n. WellLinks n s ls) (sym low) f.well; ends = f.ends; values = f.values }) in
    let d : ChainGood s ls o (spelled t ∷ spelled u ∷ values us) = subst (λ v. ChainGood s ls o (v ∷ spelled u ∷ values us)) (operand_value 13 (showing t).whole ∙ g.value) c in
    node_good _ (chain s ls) d.well (chain_node s ls o t (full.more u us) d ∙ ap (λ n. full.node (full.symbol n) (full.more (spelled t) (all_spelled (full.more u us)))) (sum_name o f.is_sum)) (linked_row s ls o f.ends)

-- numbers and their opposites

level_number : (f : Fraction) → level (number f) < 12
level_number f = cond_both (f.den == 1) (cond (is_below_zero f.num) 10 0) 11 (λ (n : ℕ). n < 12) (λ _. cond_both (is_below_zero f.num) 10 0 (λ (n : ℕ). n < 12) (λ _. omega arith) (λ _. omega arith)) (λ _. omega arith)

opposite_size : (z : ℤ) → unsigned_abs (neg_ℤ z) ≡ unsigned_abs z
opposite_size (pos zero) = refl
opposite_size (pos (suc n)) = refl
opposite_size (negsuc n) = refl

opposite_number : (f : Fraction) → IsNumber f → IsNumber (opposite f)
opposite_number f h = record {
  reduced = ap (λ (n : ℕ). gcd n f.den) (opposite_size f.num) ∙ h.reduced;
  positive = h.positive;
  range = record { num = subst (λ (n : ℕ). n < 2 ^ 127) (sym (opposite_size f.num)) h.range.num; den = h.range.den };
}

-- what negation reaches in a number from 0 up: the number itself, or the numerator of a fraction
record Reached (t : Tree) (e : full.Tree) : Type 0 where
  steps : ℕ
  reached : reach t ≡ Some steps
  turned : negated_at steps (lower t) ≡ e

number_reached_by : (m q : ℕ) (b : Bool) → suc m < 2 ^ 127 → q < 2 ^ 127 → (q == 1) ≡ b
    → Reached (cond b (signed (pos (suc m))) (tree.between (signed (pos (suc m))) read_infix.Divide (digits_of q))) (cond b (full.num (record { num = negsuc m; den = q })) (named (codes "Times") (whole_number (negsuc m) ∷ named (codes "Power") (whole_number (pos q) ∷ whole_number (negsuc 0) ∷ []) ∷ [])))
unfolding table.infix_level
number_reached_by m q true l k e = record { steps = 0; reached = refl; turned = ap (λ x. negated_at 0 x) (digits_back (suc m) l) ∙ ap (λ (d : ℕ). full.num (record { num = negsuc m; den = d })) (sym (eqb-true q 1 e)) }
number_reached_by m q false l k e = record {
  steps = 1;
  reached = refl;
  turned = ap (λ x. negated_at 1 (named (codes "Times") (x ∷ named (codes "Power") (lower (digits_of q) ∷ whole_number (negsuc 0) ∷ []) ∷ []))) (digits_back (suc m) l)
      ∙ ap (λ x. named (codes "Times") (whole_number (negsuc m) ∷ named (codes "Power") (x ∷ whole_number (negsuc 0) ∷ []) ∷ [])) (digits_back q k);
}

number_reached_from : (z : ℤ) (q : ℕ) → is_below_zero z ≡ true → unsigned_abs z < 2 ^ 127 → q < 2 ^ 127 → Reached (number_tree (record { num = neg_ℤ z; den = q })) (spelled_number (record { num = z; den = q }))
number_reached_from (pos n) q h l k = absurd (cc)
number_reached_from (negsuc m) q h l k = number_reached_by m q (q == 1) l k refl

number_reached : (f : Fraction) → IsNumber f → is_negative f ≡ true → Reached (number_tree (opposite f)) (spelled_number f)
number_reached f w h = number_reached_from f.num f.den h w.range.num w.range.den

-- what is negated stands for its opposite
reached_value : (s : Shown) (e : full.Tree) → Reached (written s) e → value_of Minus s ≡ e
reached_value s e r = ap (λ n. negative (form (written s)) n (items (written s))) r.reached ∙ r.turned

number_unnamed : (z : ℤ) (q : ℕ) (b : Bool) → NotNamed (form (cond b (signed z) (tree.between (signed z) read_infix.Divide (digits_of q))))
unfolding table.infix_level
number_unnamed (pos n) q true l r = refl
number_unnamed (negsuc n) q true l r = refl
number_unnamed z q false l r = refl

pub number_good : (f : Fraction) → IsNumber f → Good (full.num f) (number_showing f)
unfolding Well
number_good f w = cond_both (is_negative f) (taken_off (number f) (number (opposite f))) (added (number f)) (Good (full.num f))
    (λ h. record {
      well = w;
      value = number_back f w;
      unnamed = λ _. number_unnamed f.num f.den (f.den == 1);
      unreached = λ e. absurd (cc);
      is_sum = tt;
      term_well = opposite_number f w;
      term_level = omega (arith, level_number (opposite f));
      term_value = reached_value (number (opposite f)) (spelled_number f) (number_reached f w h);
    })
    (λ _. added_good (full.num f) (number f) w (number_back f w) (λ _. number_unnamed f.num f.den (f.den == 1)) (λ e. absurd (cc)))

-- products

only_times : (o : Infix) → infix_level o ≡ 12 → o ≡ Times
only_times Times h = refl
only_times _ h = absurd (omega arith)

not_product : (f : Form) (q : ℕ) → Tame f q → q < 12 → is_product f ≡ false
not_product (form_is.Chain r) q (p, e, l, c) h = ap (λ x. is_product (form_is.Chain x)) e ∙ low_product p (omega (arith, l, h))
  where
    low_product : (p : Infix) → infix_level p < 12 → is_product (form_is.Chain (as_infix p)) ≡ false
    low_product Times h = absurd (omega arith)
    low_product _ h = refl
not_product form_is.Inequality q t h = absurd t
not_product form_is.Nested q t h = absurd t
not_product form_is.Other q t h = refl
not_product form_is.Name q t h = refl
not_product (form_is.Defines d) q t h = refl

operand_unreached : (q : ℕ) (t : full.Tree) → Good t (showing t) → is_number t ≡ false → q ≤ 12 → reach (written (operand q (showing t).whole)) ≡ None
operand_unreached q t g n l = cond_both (nat_lt (level (showing t).whole) q) (showing t).whole (parens (showing t).whole) (λ u. reach (written u) ≡ None) (λ e. g.unreached n (omega (arith, ltb-true (level (showing t).whole) q e, l))) (λ _. refl)

-- the negative of what is no number and no product
negated_operand : (q : ℕ) (t : full.Tree) → Good t (showing t) → is_number t ≡ false → 0 < q → q ≤ 12 → value_of Minus (operand q (showing t).whole) ≡ named (codes "Times") (minus_one ∷ spelled t ∷ [])
negated_operand q t g n some l =
    let s = operand q (showing t).whole in
    let low : level s < 12 = omega (arith, operand_level q (showing t).whole some, l) in
    ap (λ r. negative (form (written s)) r (items (written s))) (operand_unreached q t g n l)
    ∙ cond-false (is_product (form (written s))) _ _ (not_product (form (written s)) (level s) (tame s (operand_well q (showing t).whole g.well)) low)
    ∙ ap (λ v. named (codes "Times") (minus_one ∷ v ∷ [])) (operand_value q (showing t).whole ∙ g.value)

minus_one_by : (z : ℤ) (q : ℕ) → (is_below_zero z && ((unsigned_abs z == 1) && (q == 1))) ≡ true → spelled_number (record { num = z; den = q }) ≡ minus_one
minus_one_by (pos n) q h = absurd (cc)
minus_one_by (negsuc n) q h =
    let p = and_parts (suc n == 1) (q == 1) h in
    let e : suc n ≡ 1 = eqb-true (suc n) 1 p.0 in
    cond-true (q == 1) _ _ p.1 ∙ ap (λ (d : ℕ). full.num (record { num = negsuc n; den = d })) (eqb-true q 1 p.1) ∙ ap (λ (m : ℕ). full.num (record { num = negsuc m; den = 1 })) (omega (arith, e))

minus_one_is : (f : Fraction) → is_minus_one f ≡ true → spelled_number f ≡ minus_one
minus_one_is f h = minus_one_by f.num f.den h

stays_good : (t u : full.Tree) (us : full.Trees) → Good t (showing t) → Good u (showing u) → AllGood us → Good (full.node (full.symbol (codes "Times")) (full.more t (full.more u us))) (added (product (operand 12 (showing t).whole) (showing u ∷ showings us)))
stays_good t u us g h gs = row_joined Times t u us refl g h gs

none_reached : (o : Infix) (k : Link) → joined_reach (as_infix o) k None ≡ None
none_reached Times GoesOn = refl
none_reached Times _ = refl
none_reached _ k = refl

links_unreached : (l : Tree) (ls : Links) → reach l ≡ None → reach (linked l ls) ≡ None
links_unreached l nothing h = h
links_unreached l (behind ls o r) h = ap (joined_reach (as_infix o) (link (as_infix o) (form (linked l ls)))) (links_unreached l ls h) ∙ none_reached o (link (as_infix o) (form (linked l ls)))

-- a -1 that no number follows
dropped_good : (f : Fraction) (u : full.Tree) (us : full.Trees) → is_minus_one f ≡ true → is_number u ≡ false → Good (full.num f) (number_showing f) → Good u (showing u) → AllGood us
    → Good (full.node (full.symbol (codes "Times")) (full.more (full.num f) (full.more u us))) (product_by dropped f (number_showing f) (showing u) (showings us))
unfolding Well AllGood
dropped_good f u full.none m n g h gs = record {
  well = (operand_well 10 (showing u).whole h.well, operand_level 10 (showing u).whole (omega arith));
  value = negated_operand 10 u h n (omega arith) (omega arith) ∙ turned;
  unnamed = λ _ l r. refl;
  unreached = λ _ _. refl;
  is_sum = tt;
  term_well = operand_well 12 (showing u).whole h.well;
  term_level = omega (arith, operand_level 12 (showing u).whole (omega arith));
  term_value = negated_operand 12 u h n (omega arith) (omega arith) ∙ turned;
}
  where
    turned : named (codes "Times") (minus_one ∷ spelled u ∷ []) ≡ full.node (full.symbol (codes "Times")) (full.more (spelled_number f) (full.more (spelled u) full.none))
    turned = ap (λ v. named (codes "Times") (v ∷ spelled u ∷ [])) (sym (minus_one_is f m))
dropped_good f u (full.more v vs) m n g h gs =
    let w = stays_good (full.num f) u (full.more v vs) g h gs in
    let s = operand 12 (showing u).whole in
    let ls = links_after nothing Times (showing v ∷ showings vs) in
    let c : ChainGood s ls Times (spelled u ∷ spelled v ∷ values vs) = joined_good Times u v vs refl h gs.0 gs.1 in
    let t = linked (written s) ls in
    let r : reach t ≡ None = links_unreached (written s) ls (operand_unreached 12 u h n (omega arith)) in
    record {
      well = w.well;
      value = w.value;
      unnamed = w.unnamed;
      unreached = w.unreached;
      is_sum = tt;
      term_well = c.well;
      term_level = omega (arith, ends_level ls Times (links_from s Times v vs refl gs.0 gs.1).ends);
      term_value = ap (λ k. negative (form t) k (items t)) r ∙ ap (λ a. negative a None (items t)) c.chain.form_is ∙ ap (λ es. named (codes "Times") (minus_one ∷ es)) c.chain.items_are
          ∙ ap (λ a. named (codes "Times") (a ∷ spelled u ∷ spelled v ∷ values vs)) (sym (minus_one_is f m))
          ∙ ap (λ x. full.node (full.symbol (codes "Times")) (full.more (spelled_number f) (full.more (spelled u) (full.more (spelled v) x)))) (same_trees vs);
    }

-- a product leads to what its first operand leads to, one element further on
first_reached : (l : Tree) (r : Shown) (k : ℕ) → link read_infix.Times (form l) ≡ Starts → reach l ≡ Some k → reach (tree.between l read_infix.Times (written r)) ≡ Some (suc k)
first_reached l r k e h = ap (λ x. joined_reach read_infix.Times x (reach l)) e ∙ ap further h

next_reached : (l : Tree) (r : Shown) (k : ℕ) → form l ≡ form_is.Chain read_infix.Times → reach l ≡ Some k → reach (tree.between l read_infix.Times (written r)) ≡ Some k
unfolding table.infix_level
next_reached l r k e h = ap (λ x. joined_reach read_infix.Times (link read_infix.Times x) (reach l)) e ∙ h

reach_on : (s : Shown) (ls : Links) (o : Infix) (r : Shown) (k : ℕ) → Well s → level s < 12 → WellLinks 12 s (behind ls o r) → reach (written s) ≡ Some k → reach (linked (written s) (behind ls o r)) ≡ Some (suc k)
unfolding Well
reach_on s nothing o r k w l h e = rw (only_times o h.2) (first_reached (written s) r k (starts Times (form (written s)) (level s) refl l (tame s w)) e)
reach_on s (behind ls p u) o r k w l h e =
    let f : form (linked (written s) (behind ls p u)) ≡ form_is.Chain (as_infix p) = (chain_of 12 s ls p u (tame s w) l refl h.0).form_is in
    rw (only_times o h.2) (next_reached (linked (written s) (behind ls p u)) r (suc k) (f ∙ ap (λ x. form_is.Chain (as_infix x)) (only_times p h.0.2)) (reach_on s ls p u k w l h.0 e))

links_reached : (s : Shown) (ls : Links) (k : ℕ) → EndsWith ls Times → Well s → level s < 12 → WellLinks 12 s ls → reach (written s) ≡ Some k → reach (linked (written s) ls) ≡ Some (suc k)
unfolding Well
links_reached s nothing k n w l h e = absurd n
links_reached s (behind ls o r) k n w l h e = reach_on s ls o r k w l h e

-- a first number below 0
opposed_good : (f : Fraction) (u : full.Tree) (us : full.Trees) → IsNumber f → is_negative f ≡ true → Good (full.num f) (number_showing f) → Good u (showing u) → AllGood us
    → Good (full.node (full.symbol (codes "Times")) (full.more (full.num f) (full.more u us))) (product_by opposed f (number_showing f) (showing u) (showings us))
unfolding Well
opposed_good f u us i n g h gs =
    let w = stays_good (full.num f) u us g h gs in
    let s = number (opposite f) in
    let ls = links_after nothing Times (showing u ∷ showings us) in
    let links = links_from s Times u us refl h gs in
    let c : ChainGood s ls Times (lower (written s) ∷ spelled u ∷ values us) = chain_good s Times ls (spelled u ∷ values us) (opposite_number f i) (level_number (opposite f)) refl links in
    let t = linked (written s) ls in
    let k = number_reached f i n in
    let r : reach t ≡ Some (suc k.steps) = links_reached s ls k.steps links.ends (opposite_number f i) (level_number (opposite f)) links.well k.reached in
    record {
      well = w.well;
      value = w.value;
      unnamed = w.unnamed;
      unreached = w.unreached;
      is_sum = tt;
      term_well = c.well;
      term_level = omega (arith, ends_level ls Times links.ends);
      term_value = ap (λ x. negative (form t) x (items t)) r ∙ ap (λ a. negated_at (suc k.steps) (whole a (items t))) c.chain.form_is ∙ ap (λ es. negated_at (suc k.steps) (named (codes "Times") es)) c.chain.items_are
          ∙ ap (λ a. full.node (full.symbol (codes "Times")) (full.more a (full.more (spelled u) (from_list (values us))))) k.turned
          ∙ ap (λ x. full.node (full.symbol (codes "Times")) (full.more (spelled_number f) (full.more (spelled u) x))) (same_trees us);
    }

row_product : (t u : full.Tree) (us : full.Trees) → IsProper t → Good t (showing t) → Good u (showing u) → AllGood us
    → Good (full.node (full.symbol (codes "Times")) (full.more t (full.more u us))) (product_by (turn_of (full.more t (full.more u us))) (first_number (full.more t (full.more u us))) (showing t) (showing u) (showings us))
row_product (full.num f) u us i g h gs =
    let P : Turn → Type 0 = λ T. Good (full.node (full.symbol (codes "Times")) (full.more (full.num f) (full.more u us))) (product_by T f (number_showing f) (showing u) (showings us)) in
    cond_both (is_minus_one f) (cond (is_number u) stays dropped) (cond (is_negative f) opposed stays) P
    (λ m. cond_both (is_number u) stays dropped P (λ _. stays_good (full.num f) u us g h gs) (λ n. dropped_good f u us m n g h gs))
    (λ _. cond_both (is_negative f) opposed stays P (λ n. opposed_good f u us i n g h gs) (λ _. stays_good (full.num f) u us g h gs))
row_product (full.text s) u us i g h gs = stays_good (full.text s) u us g h gs
row_product (full.symbol s) u us i g h gs = stays_good (full.symbol s) u us g h gs
row_product (full.node k ts) u us i g h gs = stays_good (full.node k ts) u us g h gs

-- statements

but_last : full.Tree → full.Trees → full.Trees
but_last t full.none = full.none
but_last t (full.more u us) = full.more t (but_last u us)

showings_but_last : (t : full.Tree) (ts : full.Trees) → showings (but_last t ts) ≡ all_but_last (showing t) (showings ts)
unfolding but_last
showings_but_last t full.none = refl
showings_but_last t (full.more u us) = ap (λ l. showing t ∷ l) (showings_but_last u us)

good_but_last : (t : full.Tree) (ts : full.Trees) → Good t (showing t) → AllGood ts → AllGood (but_last t ts)
unfolding but_last AllGood
good_but_last t full.none g gs = tt
good_but_last t (full.more u us) g gs = (g, good_but_last u us gs.0 gs.1)

values_but_last : (t : full.Tree) (ts : full.Trees) → ends_in_null (full.more t ts) ≡ true → values (but_last t ts) ++ (full.symbol (codes "Null") ∷ []) ≡ spelled t ∷ values ts
unfolding but_last
values_but_last (full.symbol s) full.none h = ap (λ n. full.symbol n ∷ []) (sym ((bytes_eq-Decides s (codes "Null")).0 h))
values_but_last (full.num f) full.none h = absurd (cc)
values_but_last (full.text s) full.none h = absurd (cc)
values_but_last (full.node k ks) full.none h = absurd (cc)
values_but_last (full.symbol s) (full.more u us) h = ap (λ l. full.symbol s ∷ l) (values_but_last u us h)
values_but_last (full.num f) (full.more u us) h = ap (λ l. spelled_number f ∷ l) (values_but_last u us h)
values_but_last (full.text s) (full.more u us) h = ap (λ l. full.text s ∷ l) (values_but_last u us h)
values_but_last (full.node k ks) (full.more u us) h = ap (λ l. spelled (full.node k ks) ∷ l) (values_but_last u us h)

semi_alone : (t : Tree) → link read_infix.Semi (form t) ≡ Starts → lower (tree.last t) ≡ named (codes "CompoundExpression") (lower t ∷ full.symbol (codes "Null") ∷ [])
semi_alone t e = ap (λ k. named (codes "CompoundExpression") (lowered_statements k (items t) (lower t) ++ (full.symbol (codes "Null") ∷ []))) e

semi_chain : (t : Tree) (vs : List full.Tree) → ChainOf t Semi vs → lower (tree.last t) ≡ named (codes "CompoundExpression") (vs ++ (full.symbol (codes "Null") ∷ []))
unfolding table.infix_level
semi_chain t vs c = ap (λ f. named (codes "CompoundExpression") (lowered_statements (link read_infix.Semi f) (items t) (lower t) ++ (full.symbol (codes "Null") ∷ []))) c.form_is ∙ ap (λ es. named (codes "CompoundExpression") (es ++ (full.symbol (codes "Null") ∷ []))) c.items_are

ended_value : (t : full.Tree) (ts : full.Trees) → Good t (showing t) → AllGood ts → let s = operand 30 (showing t).whole in let ls = links_after nothing Semi (showings ts) in
    WellLinks 30 s ls × (lower (tree.last (linked (written s) ls)) ≡ named (codes "CompoundExpression") ((spelled t ∷ values ts) ++ (full.symbol (codes "Null") ∷ [])))
unfolding AllGood Well
ended_value t full.none g gs =
    let s = operand 30 (showing t).whole in
    let w = operand_well 30 (showing t).whole g.well in
    (tt, semi_alone (written s) (starts Semi (form (written s)) (level s) refl (operand_level 30 (showing t).whole (omega arith)) (tame s w)) ∙ ap (λ v. named (codes "CompoundExpression") (v ∷ full.symbol (codes "Null") ∷ [])) (operand_value 30 (showing t).whole ∙ g.value))
ended_value t (full.more u us) g gs =
    let s = operand 30 (showing t).whole in
    let ls = links_after nothing Semi (showing u ∷ showings us) in
    let c : ChainGood s ls Semi (spelled t ∷ spelled u ∷ values us) = joined_good Semi t u us refl g gs.0 gs.1 in
    ((links_from s Semi u us refl gs.0 gs.1).well, semi_chain (linked (written s) ls) (spelled t ∷ spelled u ∷ values us) c.chain)

ended_good : (t u : full.Tree) (us : full.Trees) → ends_in_null (full.more u us) ≡ true → Good t (showing t) → Good u (showing u) → AllGood us
    → Good (full.node (full.symbol (codes "CompoundExpression")) (full.more t (full.more u us))) (added (ended (operand 30 (showing t).whole) (links_after nothing Semi (all_but_last (showing u) (showings us)))))
unfolding Well
ended_good t u us e g h gs =
    let s = operand 30 (showing t).whole in
    let ts = but_last u us in
    let v = ended_value t ts g (good_but_last u us h gs) in
    subst (λ ys. Good (full.node (full.symbol (codes "CompoundExpression")) (full.more t (full.more u us))) (added (ended s (links_after nothing Semi ys)))) (showings_but_last u us)
    (node_good _ (ended s (links_after nothing Semi (showings ts))) (operand_well 30 (showing t).whole g.well, operand_level 30 (showing t).whole (omega arith), v.0)
    (v.1 ∙ ap (λ l. named (codes "CompoundExpression") (spelled t ∷ l)) (values_but_last u us e) ∙ ap (λ x. full.node (full.symbol (codes "CompoundExpression")) (full.more (spelled t) (full.more (spelled u) x))) (same_trees us))
    refl)

row_statements : (t u : full.Tree) (us : full.Trees) (b : Bool) → (b ≡ true → ends_in_null (full.more u us) ≡ true) → Good t (showing t) → Good u (showing u) → AllGood us
    → Good (full.node (full.symbol (codes "CompoundExpression")) (full.more t (full.more u us))) (added (statements b (showing t) (showing u) (showings us)))
row_statements t u us true e g h gs = ended_good t u us (e refl) g h gs
row_statements t u us false e g h gs = row_joined Semi t u us refl g h gs

null_later : (t u : full.Tree) (us : full.Trees) → ends_in_null (full.more t (full.more u us)) ≡ true → ends_in_null (full.more u us) ≡ true
null_later (full.symbol s) u us h = h
null_later (full.num f) u us h = h
null_later (full.text s) u us h = h
null_later (full.node k ks) u us h = h

-- parts

part_is : (f : Shown) (e : Elems) (vs : List full.Tree) (t : full.Tree) (ts : full.Trees) → Well f → level f < 3 → WellElems e → elements (written_elems e) ≡ vs → Good t (showing t) → AllGood ts
    → Well (part_of f e (showing t) (showings ts)) × (lower (written (part_of f e (showing t) (showings ts))) ≡ named (codes "Part") (lower (written f) ∷ (vs ++ (spelled t ∷ values ts)))) × (is_row (part_of f e (showing t) (showings ts)) ≡ true)
unfolding AllGood Well
part_is f e vs t full.none w l x v g gs = ((w, l, x, g.well), ap (λ es. named (codes "Part") (lower (written f) ∷ (es ++ (lower (written (showing t).whole) ∷ [])))) v ∙ ap (λ y. named (codes "Part") (lower (written f) ∷ (vs ++ (y ∷ [])))) g.value, refl)
part_is f e vs t (full.more u us) w l x v g gs =
    let (a, b, c) = part_is f (more e (showing t).whole) (vs ++ (spelled t ∷ [])) u us w l (x, g.well) (ap (λ es. es ++ (lower (written (showing t).whole) ∷ [])) v ∙ ap (λ y. vs ++ (y ∷ [])) g.value) gs.0 gs.1 in
    (a, b ∙ ap (λ es. named (codes "Part") (lower (written f) ∷ es)) (append_assoc vs (spelled t ∷ []) (spelled u ∷ values us)), c)

row_part : (t u : full.Tree) (us : full.Trees) → Good t (showing t) → Good u (showing u) → AllGood us
    → Good (full.node (full.symbol (codes "Part")) (full.more t (full.more u us))) (added (part_of (operand 3 (showing t).whole) none (showing u) (showings us)))
unfolding Well
row_part t u us g h gs =
    let f = operand 3 (showing t).whole in
    let (a, b, c) = part_is f none [] u us (operand_well 3 (showing t).whole g.well) (operand_level 3 (showing t).whole (omega arith)) tt refl h gs in
    node_good _ (part_of f none (showing u) (showings us)) a
    (b ∙ ap (λ v. named (codes "Part") (v ∷ spelled u ∷ values us)) (operand_value 3 (showing t).whole ∙ g.value) ∙ ap (λ x. full.node (full.symbol (codes "Part")) (full.more (spelled t) (full.more (spelled u) x))) (same_trees us)) c

-- blanks and patterns

maybe : (x : List ℕ) → IsWord x → MaybeWord x
maybe [] w = tt
maybe (c ∷ cs) w = w

word_of : (x : List ℕ) → Good (full.symbol x) (showing (full.symbol x)) → IsWord x
unfolding Well
word_of x g = g.well

bound_word : (x : List ℕ) (p : full.Tree) → IsWord x → bound x p ≡ named (codes "Pattern") (full.symbol x ∷ p ∷ [])
bound_word x p w = cond-false (length x == 0) _ _ (ne_eqb (length x) 0 (λ e. omega (arith, e, word_some x w)))

plain_well : (x : List ℕ) (k : Marks) → MaybeWord x → Well (pattern x k [])
unfolding Well
plain_well x k m = (m, inl tt)

head_well : (x : List ℕ) (k : Marks) (h : List ℕ) → MaybeWord x → IsWord h → Well (pattern x k h)
unfolding Well
head_well x k h m w = (m, inl (maybe h w))

default_well : (x : List ℕ) → MaybeWord x → Well (pattern x One (codes "."))
unfolding Well
default_well x m = (m, inr (refl, refl))

row_blanks : (k : Marks) (ts : full.Trees) (other : Shown) → AllGood ts → Good (full.node (full.symbol (blank_name k)) ts) (added other) → Good (full.node (full.symbol (blank_name k)) ts) (added (or_else (blanks_of k [] ts) other))
unfolding AllGood
row_blanks k full.none other gs h = node_good _ (pattern [] k []) (plain_well [] k tt) (pattern_plain [] k tt) refl
row_blanks k (full.more (full.symbol s) full.none) other gs h = node_good _ (pattern [] k s) (head_well [] k s tt (word_of s gs.0)) (pattern_head [] k s tt (word_of s gs.0)) refl
row_blanks k _ other gs h = h

pattern_node : List ℕ → full.Tree → full.Tree
pattern_node x p = full.node (full.symbol (codes "Pattern")) (full.more (full.symbol x) (full.more p full.none))

colon_good : (x : List ℕ) (p : full.Tree) → IsWord x → Good p (showing p) → Good (pattern_node x p) (added (colon (name x) (showing p)))
unfolding Well table.infix_level pattern_node
colon_good x p w g =
    let r = operand 21 (showing p).whole in
    node_good _ (chain (name x) (behind nothing Colon r)) (w, omega arith, (tt, operand_well 21 (showing p).whole g.well, refl, fits_below (level r) 21 (operand_level 21 (showing p).whole (omega arith)), tt, tt))
    (ap (λ v. named (codes "Pattern") (full.symbol x ∷ v ∷ [])) (operand_value 21 (showing p).whole ∙ g.value)) refl

-- blanks behind a name
blanks_named : (k : Marks) (x : List ℕ) (us : full.Trees) (other : Shown) → IsWord x → AllGood us → Good (pattern_node x (full.node (full.symbol (blank_name k)) us)) (added other) → Good (pattern_node x (full.node (full.symbol (blank_name k)) us)) (added (or_else (blanks_of k x us) other))
unfolding AllGood pattern_node
blanks_named k x full.none other w gs h = node_good _ (pattern x k []) (plain_well x k (maybe x w)) (pattern_plain x k (maybe x w) ∙ bound_word x (named (blank_name k) []) w) refl
blanks_named k x (full.more (full.symbol s) full.none) other w gs h = node_good _ (pattern x k s) (head_well x k s (maybe x w) (word_of s gs.0)) (pattern_head x k s (maybe x w) (word_of s gs.0) ∙ bound_word x (named (blank_name k) (full.symbol s ∷ [])) w) refl
blanks_named k x _ other w gs h = h

blanks_headed : (r : Row) (i : full.Tree) (x : List ℕ) (us : full.Trees) (other : Shown) → (is_call r ≡ false → Headed i r) → IsWord x → AllGood us → Good (pattern_node x (full.node i us)) (added other) → Good (pattern_node x (full.node i us)) (added (or_else (blanks_by r x us) other))
blanks_headed (row.Blanks k) i x us other f w gs h =
    let e : i ≡ full.symbol (blank_name k) = (f refl).head in
    subst (λ j. Good (pattern_node x (full.node j us)) (added (or_else (blanks_of k x us) other))) (sym e) (blanks_named k x us other w gs (subst (λ j. Good (pattern_node x (full.node j us)) (added other)) e h))
blanks_headed row.List i x us other f w gs h = h
blanks_headed row.Sum i x us other f w gs h = h
blanks_headed row.Product i x us other f w gs h = h
blanks_headed (row.Chain o) i x us other f w gs h = h
blanks_headed (row.Pair o) i x us other f w gs h = h
blanks_headed row.Not i x us other f w gs h = h
blanks_headed (row.Ends o) i x us other f w gs h = h
blanks_headed row.Statements i x us other f w gs h = h
blanks_headed row.Pattern i x us other f w gs h = h
blanks_headed row.Optional i x us other f w gs h = h
blanks_headed (row.Slot d) i x us other f w gs h = h
blanks_headed row.Message i x us other f w gs h = h
blanks_headed row.Part i x us other f w gs h = h
blanks_headed row.Call i x us other f w gs h = h

-- goodness of the parts of a node, kept from its own
unfoldable pub Deep : full.Tree → Type 0
Deep (full.node h ts) = Good h (showing h) × AllGood ts
Deep (full.num f) = Unit {0}
Deep (full.text s) = Unit {0}
Deep (full.symbol s) = Unit {0}

unfoldable pub AllDeep : full.Trees → Type 0
AllDeep full.none = Unit {0}
AllDeep (full.more t ts) = Deep t × AllDeep ts

row_pattern : (ts : full.Trees) (other : Shown) → AllGood ts → AllDeep ts → Good (full.node (full.symbol (codes "Pattern")) ts) (added other) → Good (full.node (full.symbol (codes "Pattern")) ts) (added (pattern_of ts (showings ts) other))
unfolding AllGood AllDeep Deep pattern_node
row_pattern (full.more (full.symbol x) (full.more (full.node i us) full.none)) other gs ds h = blanks_headed (row_of i) i x us (colon (name x) (showing (full.node i us))) (headed i) (word_of x gs.0) ds.1.0.1 (colon_good x (full.node i us) (word_of x gs.0) gs.1.0)
row_pattern (full.more (full.symbol x) (full.more (full.num f) full.none)) other gs ds h = colon_good x (full.num f) (word_of x gs.0) gs.1.0
row_pattern (full.more (full.symbol x) (full.more (full.text s) full.none)) other gs ds h = colon_good x (full.text s) (word_of x gs.0) gs.1.0
row_pattern (full.more (full.symbol x) (full.more (full.symbol s) full.none)) other gs ds h = colon_good x (full.symbol s) (word_of x gs.0) gs.1.0
row_pattern full.none other gs ds h = h
row_pattern (full.more (full.symbol x) full.none) other gs ds h = h
row_pattern (full.more (full.symbol x) (full.more t (full.more u us))) other gs ds h = h
row_pattern (full.more (full.num f) ts) other gs ds h = h
row_pattern (full.more (full.text s) ts) other gs ds h = h
row_pattern (full.more (full.node i us) ts) other gs ds h = h

-- defaults

optional_node : full.Tree → full.Tree
optional_node p = full.node (full.symbol (codes "Optional")) (full.more p full.none)

default_blank : (k : full.Tree) → k ≡ full.symbol (codes "Blank") → Good (optional_node (full.node k full.none)) (added (pattern [] One (codes ".")))
unfolding optional_node
default_blank k e = subst (λ j. Good (optional_node (full.node j full.none)) (added (pattern [] One (codes ".")))) (sym e) (node_good _ (pattern [] One (codes ".")) (default_well [] tt) (pattern_default [] tt) refl)

default_word : (x : List ℕ) (k : full.Tree) → IsWord x → k ≡ full.symbol (codes "Blank") → Good (optional_node (pattern_node x (full.node k full.none))) (added (pattern x One (codes ".")))
unfolding optional_node pattern_node
default_word x k w e = subst (λ j. Good (optional_node (pattern_node x (full.node j full.none))) (added (pattern x One (codes ".")))) (sym e)
    (node_good _ (pattern x One (codes ".")) (default_well x (maybe x w)) (pattern_default x (maybe x w) ∙ ap (λ p. named (codes "Optional") (p ∷ [])) (bound_word x (named (codes "Blank") []) w)) refl)

-- `x_` as element of an Optional, and `_`
default_inner : (r : Row) (j : full.Tree) (x : List ℕ) (other : Shown) → (is_call r ≡ false → Headed j r) → IsWord x → Good (optional_node (pattern_node x (full.node j full.none))) (added other) → Good (optional_node (pattern_node x (full.node j full.none))) (added (or_else (default_by r x) other))
unfolding blank_name
default_inner (row.Blanks One) j x other f w h = default_word x j w (f refl).head
default_inner _ j x other f w h = h

default_named_good : (p : full.Tree) (x : List ℕ) (other : Shown) → IsWord x → Good (optional_node (pattern_node x p)) (added other) → Good (optional_node (pattern_node x p)) (added (or_else (default_named x p) other))
default_named_good (full.node j full.none) x other w h = default_inner (row_of j) j x other (headed j) w h
default_named_good (full.node j (full.more u us)) x other w h = h
default_named_good (full.num f) x other w h = h
default_named_good (full.text s) x other w h = h
default_named_good (full.symbol s) x other w h = h

default_pattern : (ts : full.Trees) (other : Shown) → AllGood ts → Good (optional_node (full.node (full.symbol (codes "Pattern")) ts)) (added other) → Good (optional_node (full.node (full.symbol (codes "Pattern")) ts)) (added (or_else (default_of_pattern row.Pattern ts) other))
unfolding AllGood pattern_node
default_pattern (full.more (full.symbol x) (full.more p full.none)) other gs h = default_named_good p x other (word_of x gs.0) h
default_pattern _ other gs h = h

default_headed : (r : Row) (i : full.Tree) (ts : full.Trees) (other : Shown) → (is_call r ≡ false → Headed i r) → AllGood ts → Good (optional_node (full.node i ts)) (added other) → Good (optional_node (full.node i ts)) (added (or_else (default_of_pattern r ts) other))
unfolding blank_name
default_headed (row.Blanks One) i full.none other f gs h = default_blank i (f refl).head
default_headed row.Pattern i ts other f gs h =
    let e : i ≡ full.symbol (codes "Pattern") = (f refl).head in
    subst (λ j. Good (optional_node (full.node j ts)) (added (or_else (default_of_pattern row.Pattern ts) other))) (sym e) (default_pattern ts other gs (subst (λ j. Good (optional_node (full.node j ts)) (added other)) e h))
default_headed _ i ts other f gs h = h

default_good : (p : full.Tree) (other : Shown) → Deep p → Good (optional_node p) (added other) → Good (optional_node p) (added (or_else (default_of p) other))
unfolding Deep
default_good (full.node i ts) other d h = default_headed (row_of i) i ts other (headed i) d.1 h
default_good (full.num f) other d h = h
default_good (full.text s) other d h = h
default_good (full.symbol s) other d h = h

optional_pair : full.Tree → full.Tree → full.Tree
optional_pair p d = full.node (full.symbol (codes "Optional")) (full.more p (full.more d full.none))

-- `p:d`, p no name
default_colon : (p d : full.Tree) → is_symbol p ≡ false → Good p (showing p) → Good d (showing d) → Good (optional_pair p d) (added (colon (showing p).whole (showing d)))
unfolding Well table.infix_level optional_pair
default_colon p d n g h =
    let l = operand 21 (showing p).whole in
    let r = operand 21 (showing d).whole in
    node_good _ (chain l (behind nothing Colon r))
    (operand_well 21 (showing p).whole g.well, operand_level 21 (showing p).whole (omega arith), (tt, operand_well 21 (showing d).whole h.well, refl, fits_below (level r) 21 (operand_level 21 (showing d).whole (omega arith)), tt, tt))
    (colon_left (showing p).whole (g.unnamed n) (lower (written l)) (lower (written r))
    ∙ ap (λ v. named (codes "Optional") (v ∷ lower (written r) ∷ [])) (operand_value 21 (showing p).whole ∙ g.value) ∙ ap (λ v. named (codes "Optional") (spelled p ∷ v ∷ [])) (operand_value 21 (showing d).whole ∙ h.value))
    refl
  where
    colon_left : (s : Shown) → NotNamed (form (written s)) → (a b : full.Tree) → colon_of (form (written (operand 21 s))) a b ≡ named (codes "Optional") (a ∷ b ∷ [])
    colon_left s n a b = cond_both (nat_lt (level s) 21) s (parens s) (λ u. colon_of (form (written u)) a b ≡ named (codes "Optional") (a ∷ b ∷ [])) (λ _. n a b) (λ _. refl)

row_optional : (ts : full.Trees) (other : Shown) → AllGood ts → AllDeep ts → Good (full.node (full.symbol (codes "Optional")) ts) (added other) → Good (full.node (full.symbol (codes "Optional")) ts) (added (optional_of ts (showings ts) other))
unfolding AllGood AllDeep optional_node optional_pair
row_optional full.none other gs ds h = h
row_optional (full.more p full.none) other gs ds h = default_good p other ds.0 h
row_optional (full.more p (full.more d full.none)) other gs ds h = cond_both (is_symbol p) other (colon (showing p).whole (showing d)) (λ s. Good (optional_pair p d) (added s)) (λ _. h) (λ n. default_colon p d n gs.0 gs.1.0)
row_optional (full.more p (full.more d (full.more u us))) other gs ds h = h

-- slots and messages

slot_value_by : (d : Bool) (z : ℤ) (q : ℕ) → is_below_zero z ≡ false → (q == 1) ≡ true → unsigned_abs z < 2 ^ 127 → lower (written (slot d (unsigned_abs z))) ≡ named (slot_name d) (spelled_number (record { num = z; den = q }) ∷ [])
slot_value_by d (negsuc n) q h e l = absurd (cc)
slot_value_by d (pos n) q h e l = slot_back d n l ∙ ap (λ v. named (slot_name d) (v ∷ [])) (ap (λ (k : ℕ). full.num (record { num = pos n; den = k })) (sym (eqb-true q 1 e)) ∙ sym (cond-true (q == 1) _ _ e))

slot_node : Bool → full.Trees → full.Tree
slot_node d ts = full.node (full.symbol (slot_name d)) ts

row_slot : (d : Bool) (ts : full.Trees) (other : Shown) → AreProper ts → Good (slot_node d ts) (added other) → Good (slot_node d ts) (added (slot_of d ts other))
unfolding Well slot_node
row_slot d (full.more (full.num f) full.none) other i h =
    cond_both (not (is_negative f) && (f.den == 1)) (slot d (unsigned_abs f.num)) other (λ s. Good (slot_node d (full.more (full.num f) full.none)) (added s))
    (λ e. let p = and_parts (not (is_negative f)) (f.den == 1) e in
    node_good _ (slot d (unsigned_abs f.num)) i.0.range.num (slot_value_by d f.num f.den (not-true (is_negative f) p.0) p.1 i.0.range.num) refl)
    (λ _. h)
row_slot d _ other i h = h

message_node : full.Trees → full.Tree
message_node ts = full.node (full.symbol (codes "MessageName")) ts

row_message : (ts : full.Trees) (other : Shown) → AllGood ts → Good (message_node ts) (added other) → Good (message_node ts) (added (message_of ts other))
unfolding Well AllGood table.infix_level message_node
row_message (full.more (full.symbol s) (full.more (full.text t) full.none)) other gs h =
    cond_both (is_name t) (chain (name s) (behind nothing Message (name t))) other (λ x. Good (message_node (full.more (full.symbol s) (full.more (full.text t) full.none))) (added x))
    (λ n. node_good _ (chain (name s) (behind nothing Message (name t))) (word_of s gs.0, omega arith, (tt, record { utf8 = gs.1.0.well; name = n }, refl, refl, (refl, (s, refl), (t, refl)), tt)) refl refl)
    (λ _. h)
row_message _ other gs h = h

-- each row

named_good : (r : Row) (ts : full.Trees) (other : Shown) → row_ok r ≡ true → stops r ts ≡ false → AreProper ts → AllGood ts → AllDeep ts → Good (full.node (full.symbol (row_name r)) ts) (added other) → Good (full.node (full.symbol (row_name r)) ts) (by_row r ts (showings ts) other)
unfolding AllGood slot_node message_node
named_good row.List ts other o c i gs ds h = list_good ts gs
named_good row.Sum (full.more t (full.more u us)) other o c i gs ds h = row_sum t u us gs.0 gs.1.0 gs.1.1
named_good row.Product (full.more t (full.more u us)) other o c i gs ds h = row_product t u us i.0 gs.0 gs.1.0 gs.1.1
named_good (row.Chain p) (full.more t (full.more u us)) other o c i gs ds h = row_joined p t u us o gs.0 gs.1.0 gs.1.1
named_good (row.Pair p) (full.more t (full.more u full.none)) other o c i gs ds h = row_pair p t u o gs.0 gs.1.0
named_good row.Not (full.more t full.none) other o c i gs ds h = row_not t gs.0
named_good (row.Ends p) (full.more t full.none) other o c i gs ds h = row_ends p t c gs.0
named_good row.Statements (full.more t (full.more u us)) other o c i gs ds h = row_statements t u us (ends_in_null (full.more t (full.more u us))) (null_later t u us) gs.0 gs.1.0 gs.1.1
named_good (row.Blanks k) ts other o c i gs ds h = row_blanks k ts other gs h
named_good row.Pattern ts other o c i gs ds h = row_pattern ts other gs ds h
named_good row.Optional ts other o c i gs ds h = row_optional ts other gs ds h
named_good (row.Slot d) ts other o c i gs ds h = row_slot d ts other i h
named_good row.Message ts other o c i gs ds h = row_message ts other gs h
named_good row.Part (full.more t (full.more u us)) other o c i gs ds h = row_part t u us gs.0 gs.1.0 gs.1.1
named_good _ ts other o c i gs ds h = h

pub row_good : (r : Row) (i : full.Tree) (ts : full.Trees) (other : Shown) → (is_call r ≡ false → Headed i r) → stops r ts ≡ false → AreProper ts → AllGood ts → AllDeep ts → Good (full.node i ts) (added other) → Good (full.node i ts) (by_row r ts (showings ts) other)
row_good r i ts other f c p gs ds h = elim (cases_Bool (is_call r)) [
  | inl e ↦ call_row r e i ts other h
  | inr n ↦ let d = f n in subst (λ j. Good (full.node j ts) (by_row r ts (showings ts) other)) (sym d.head) (named_good r ts other d.ok c p gs ds (subst (λ j. Good (full.node j ts) (added other)) d.head h))
]
  where
    call_row : (r : Row) → is_call r ≡ true → (i : full.Tree) (ts : full.Trees) (other : Shown) → Good (full.node i ts) (added other) → Good (full.node i ts) (by_row r ts (showings ts) other)
    call_row row.Call e i ts other h = h
    call_row _ e i ts other h = absurd (cc)
