-- What the syntax tree of a printed text stands for.
use Rattle.std.proofs.Common.{inl, inr, ℕ, ℤ, ◌<◌, ◌≡◌, Bool, true, false, ◌&&◌, ◌||◌, ◌==◌, cond, List, [], ◌∷◌, ◌++◌, refl, sym, ap, ◌∙◌, arith, codes, subst}
use Rattle.std.specs.Prelude.{pos, negsuc}
use Rattle.std.specs.Str.{bytes_eq}
use Rattle.std.proofs.lemmas.Bool.{cases_Bool, cond-true, cond-false}
use Rattle.std.proofs.lemmas.Bool.Decides.{nat_tests}
use Rattle.std.proofs.lemmas.Slice.Eq.{bytes_eq-Decides}
use Rattle.wl_expr.specs.Tree as full
use Rattle.wl_expr.specs.Tree.{from_list}
use Rattle.wl_form.specs.declared.operator.Infix.{Infix}
use Rattle.wl_form.specs.declared.operator.Infix.TheVariants.{StringJoin, Times, Plus, Minus, Equal, Unequal, Less, LessEqual, Greater, GreaterEqual, SameQ, UnsameQ, And, Or, Alternatives, StringExpression, Set, SetDelayed, Semi}
use Rattle.wl_form.specs.declared.operator.Postfix.{Postfix}
use Rattle.wl_form.specs.declared.operator.Postfix.TheVariants.{Factorial, Repeated, RepeatedNull, Function}
use Rattle.wl_form.specs.Operators.{infix_level, postfix_level}
use Rattle.wl_form.specs.Shown.{Shown, number, name, string, pattern, slot, parens, braces, call, part, before, after, chain, ended, Links, nothing, behind, level, links_level}
use Rattle.wl_syntax.specs.declared.chain.Form.{Form}
use Rattle.wl_syntax.specs.declared.chain.Form.TheVariants as form_is
use Rattle.wl_syntax.specs.declared.chain.Link.TheVariants.{Alone, Starts, GoesOn}
use Rattle.wl_syntax.specs.declared.operator.Infix.TheVariants as read_infix
use Rattle.wl_syntax.specs.Atoms.{named}
use Rattle.wl_syntax.specs.Chain as chains
use Rattle.wl_syntax.specs.Chain.{is_chain, is_comparison, is_sameness, link_to_chain, link_of_chain, link, form}
use Rattle.wl_syntax.specs.Lower.{whole, reach, items, lower, operand_of, joined}
use Rattle.wl_syntax.specs.Table as table
use Rattle.wl_syntax.specs.Tree as tree
use Rattle.wl_syntax.specs.Tree.{Tree}
use Rattle.wl_reading_back.specs.Written.{as_infix, as_postfix, written, linked, signed, digits_of}
use Rattle.wl_reading_back.proofs.Well.{Well, WellLinks, same_infix_level}

-- the levels of the chains by their heads
key : List ℕ → ℕ
key s =
    cond (bytes_eq s (codes "StringJoin")) 8 (cond (bytes_eq s (codes "Times")) 12 (cond (bytes_eq s (codes "Plus")) 13
    (cond (bytes_eq s (codes "Equal") || (bytes_eq s (codes "Unequal") || (bytes_eq s (codes "Less") || (bytes_eq s (codes "LessEqual") || (bytes_eq s (codes "Greater") || bytes_eq s (codes "GreaterEqual")))))) 14
    (cond (bytes_eq s (codes "SameQ") || bytes_eq s (codes "UnsameQ")) 15 (cond (bytes_eq s (codes "And")) 17 (cond (bytes_eq s (codes "Or")) 18 (cond (bytes_eq s (codes "Alternatives")) 20 (cond (bytes_eq s (codes "StringExpression")) 22 30))))))))

key_is : (o : Infix) → is_chain (infix_level o) ≡ true → key (table.infix_name (as_infix o)) ≡ infix_level o
unfolding key
key_is StringJoin h = refl
key_is Times h = refl
key_is Plus h = refl
key_is Minus h = refl
key_is Equal h = refl
key_is Unequal h = refl
key_is Less h = refl
key_is LessEqual h = refl
key_is Greater h = refl
key_is GreaterEqual h = refl
key_is SameQ h = refl
key_is UnsameQ h = refl
key_is And h = refl
key_is Or h = refl
key_is Alternatives h = refl
key_is StringExpression h = refl
key_is Semi h = refl
key_is _ h = absurd (cc)

apart_levels : (p q : ℕ) → p < q → p ≡ q → ⊥
apart_levels p q l e = omega (arith, l, e)

-- heads of chains of different levels differ
heads_apart : (o p : Infix) → is_chain (infix_level o) ≡ true → is_chain (infix_level p) ≡ true → infix_level p < infix_level o → bytes_eq (table.infix_name (as_infix p)) (table.infix_name (as_infix o)) ≡ false
heads_apart o p h k l = elim (cases_Bool (bytes_eq (table.infix_name (as_infix p)) (table.infix_name (as_infix o)))) [
  | inl same ↦ absurd (apart_levels (infix_level p) (infix_level o) l (sym (key_is p k) ∙ ap key ((bytes_eq-Decides (table.infix_name (as_infix p)) (table.infix_name (as_infix o))).0 same) ∙ key_is o h))
  | inr other ↦ other
]

not_both : (n p q : ℕ) → p < q → (n == n) ≡ true → ((q == n) && (p == n)) ≡ false
not_both n p q l e = grind (arith, nat_tests)

-- What stands at the top of a text of this level: no chain, or a chain of this level.
abbrev pub Tame : Form → ℕ → Type 0
Tame (form_is.Chain r) q = (p : Infix) × (r ≡ as_infix p) × (infix_level p ≡ q) × (is_chain q ≡ true)
Tame form_is.Inequality q = ⊥
Tame form_is.Nested q = ⊥
Tame _ q = Unit {0}

chain_starts : (o p : Infix) → is_chain (infix_level o) ≡ true → is_chain (infix_level p) ≡ true → infix_level p < infix_level o → link_to_chain (as_infix o) (as_infix p) ≡ Starts
chain_starts o p h k l =
    cond-false (bytes_eq (table.infix_name (as_infix p)) (table.infix_name (as_infix o))) _ _ (heads_apart o p h k l)
    ∙ cond-false (is_comparison (table.infix_level (as_infix o)) && is_comparison (table.infix_level (as_infix p))) _ _ (rw (same_infix_level o, same_infix_level p) (not_both 14 (infix_level p) (infix_level o) l refl))
    ∙ cond-false (is_sameness (table.infix_level (as_infix o)) && is_sameness (table.infix_level (as_infix p))) _ _ (rw (same_infix_level o, same_infix_level p) (not_both 15 (infix_level p) (infix_level o) l refl))

tame_starts : (o : Infix) (f : Form) (q : ℕ) → is_chain (infix_level o) ≡ true → q < infix_level o → Tame f q → link_of_chain (as_infix o) f ≡ Starts
tame_starts o (form_is.Chain r) q h l (p, e, m, c) = rw e (chain_starts o p h (subst (λ n. is_chain n ≡ true) (sym m) c) (omega (arith, l, m)))
tame_starts o form_is.Inequality q h l t = absurd t
tame_starts o form_is.Nested q h l t = absurd t
tame_starts o form_is.Other q h l t = refl
tame_starts o form_is.Name q h l t = refl
tame_starts o (form_is.Defines d) q h l t = refl

at_chain : (o : Infix) (f : Form) → is_chain (infix_level o) ≡ true → link (as_infix o) f ≡ link_of_chain (as_infix o) f
at_chain o f h = cond-true (is_chain (table.infix_level (as_infix o))) _ _ (subst (λ n. is_chain n ≡ true) (sym (same_infix_level o)) h)

pub starts : (o : Infix) (f : Form) (q : ℕ) → is_chain (infix_level o) ≡ true → q < infix_level o → Tame f q → link (as_infix o) f ≡ Starts
starts o f q h l t = at_chain o f h ∙ tame_starts o f q h l t

pub goes_on : (o p : Infix) → is_chain (infix_level o) ≡ true → bytes_eq (table.infix_name (as_infix p)) (table.infix_name (as_infix o)) ≡ true → link (as_infix o) (form_is.Chain (as_infix p)) ≡ GoesOn
goes_on o p h e = at_chain o (form_is.Chain (as_infix p)) h ∙ cond-true (bytes_eq (table.infix_name (as_infix p)) (table.infix_name (as_infix o))) _ _ e

-- an operator that is no chain
pub alone_tame : (o : Infix) (q : ℕ) → Tame (chains.alone (as_infix o)) q
alone_tame Set q = tt
alone_tame SetDelayed q = tt
alone_tame _ q = tt

pub alone_form : (o : Infix) (f : Form) → is_chain (infix_level o) ≡ false → chains.linked (as_infix o) (link (as_infix o) f) ≡ chains.alone (as_infix o)
alone_form o f h = ap (chains.linked (as_infix o)) (cond-false (is_chain (table.infix_level (as_infix o))) (link_of_chain (as_infix o) f) Alone (subst (λ n. is_chain n ≡ false) (sym (same_infix_level o)) h))

-- the value of a right operand; behind a ` - ` it is the negative
abbrev pub value_of : Infix → Shown → full.Tree
value_of o r = operand_of (as_infix o) (form (written r)) (reach (written r)) (items (written r))

abbrev pub values_of : Links → List full.Tree
values_of nothing = []
values_of (behind ls o r) = values_of ls ++ (value_of o r ∷ [])

-- a chain of one level with its operands
pub record ChainOf (t : Tree) (o : Infix) (vs : List full.Tree) : Type 0 where
  pub form_is : form t ≡ form_is.Chain (as_infix o)
  pub items_are : items t ≡ vs

-- one more operand
first_link : (l : Tree) (o : Infix) (r : Tree) → link (as_infix o) (form l) ≡ Starts → ChainOf (tree.between l (as_infix o) r) o (lower l ∷ operand_of (as_infix o) (form r) (reach r) (items r) ∷ [])
first_link l o r e = record {
  form_is = ap (chains.linked (as_infix o)) e;
  items_are = ap (λ k. joined (as_infix o) k (form l) (form r) (items l) (lower l) (lower r) (operand_of (as_infix o) (form r) (reach r) (items r))) e;
}

next_link : (l : Tree) (p o : Infix) (r : Tree) (vs : List full.Tree) → is_chain (infix_level o) ≡ true → bytes_eq (table.infix_name (as_infix p)) (table.infix_name (as_infix o)) ≡ true → ChainOf l p vs
    → ChainOf (tree.between l (as_infix o) r) o (vs ++ (operand_of (as_infix o) (form r) (reach r) (items r) ∷ []))
next_link l p o r vs h e c =
    let k : link (as_infix o) (form l) ≡ GoesOn = ap (link (as_infix o)) c.form_is ∙ goes_on o p h e in
    record {
      form_is = ap (chains.linked (as_infix o)) k;
      items_are = ap (λ x. joined (as_infix o) x (form l) (form r) (items l) (lower l) (lower r) (operand_of (as_infix o) (form r) (reach r) (items r))) k ∙ ap (λ es. es ++ (operand_of (as_infix o) (form r) (reach r) (items r) ∷ [])) c.items_are;
    }

-- the operands of a chain, in order
pub chain_of : (q : ℕ) (s : Shown) (ls : Links) (o : Infix) (r : Shown) → Tame (form (written s)) (level s) → level s < q → is_chain q ≡ true → WellLinks q s (behind ls o r)
    → ChainOf (linked (written s) (behind ls o r)) o (lower (written s) ∷ values_of (behind ls o r))
unfolding Well
chain_of q s nothing o r t l c w =
    first_link (written s) o (written r) (starts o (form (written s)) (level s) (subst (λ n. is_chain n ≡ true) (sym w.2) c) (omega (arith, l, w.2)) t)
chain_of q s (behind ls p u) o r t l c w =
    next_link (linked (written s) (behind ls p u)) p o (written r) (lower (written s) ∷ values_of (behind ls p u)) (subst (λ n. is_chain n ≡ true) (sym w.2) c) w.5.1 (chain_of q s ls p u t l c w.0)

pub chain_value : (t : Tree) (o : Infix) (vs : List full.Tree) → ChainOf t o vs → lower t ≡ named (table.infix_name (as_infix o)) vs
chain_value t o vs c = ap (λ f. whole f (items t)) c.form_is ∙ ap (λ es. named (table.infix_name (as_infix o)) es) c.items_are

-- the form of each text

number_tame : (n : ℤ) (d : ℕ) (b : Bool) (q : ℕ) → Tame (form (cond b (signed n) (tree.between (signed n) read_infix.Divide (digits_of d)))) q
unfolding table.infix_level
number_tame (pos n) d true q = tt
number_tame (negsuc n) d true q = tt
number_tame n d false q = tt

links_tame : (s : Shown) (ls : Links) → Well s → level s < links_level ls → WellLinks (links_level ls) s ls → Tame (form (written s)) (level s) → Tame (form (linked (written s) ls)) (links_level ls)
unfolding Well
links_tame s nothing w l h t = absurd (omega (arith, l))
links_tame s (behind ls o r) w l h t = elim (cases_Bool (is_chain (infix_level o))) [
  | inl c ↦ subst (λ f. Tame f (infix_level o)) (sym (chain_of (infix_level o) s ls o r t l c h).form_is) (o, refl, refl, c)
  | inr n ↦ subst (λ f. Tame f (infix_level o)) (sym (alone_form o (form (linked (written s) ls)) n)) (alone_tame o (infix_level o))
]

postfix_tame : (t : Tree) (o : Postfix) (q : ℕ) → Tame (form (tree.after t (as_postfix o))) q
postfix_tame t Factorial q = tt
postfix_tame t Repeated q = tt
postfix_tame t RepeatedNull q = tt
postfix_tame t Function q = tt

pub tame : (s : Shown) → Well s → Tame (form (written s)) (level s)
unfolding Well
tame (number f) w = number_tame f.num f.den (f.den == 1) (level (number f))
tame (name s) w = tt
tame (string s) w = tt
tame (pattern x k h) w = tt
tame (slot d n) w = tt
tame (parens s) w = tt
tame (braces xs) w = tt
tame (call f xs) w = tt
tame (part f xs s) w = tt
tame (before o s) w = tt
tame (after s o) w = postfix_tame (written s) o (postfix_level o)
tame (chain s ls) w = links_tame s ls w.0 w.1 w.2 (tame s w.0)
tame (ended s ls) w = tt
