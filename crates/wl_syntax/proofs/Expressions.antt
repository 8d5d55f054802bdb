-- The expressions that the builder's calls make, as those of the trees that their items stand for.
use Rattle.std.proofs.Common.{◌≡◌, List, [], ◌∷◌, ◌++◌, refl, ap, ap₂, ◌∙◌}
use Rattle.std.specs.Prelude.{codes}
use Rattle.wl_expr.specs.Stamped.{Stamped, unstamped}
use Rattle.wl_expr.specs.Tree as full
use Rattle.wl_syntax.specs.declared.operator.Infix.{Infix}
use Rattle.wl_syntax.specs.declared.operator.Infix.TheVariants.{Semi}
use Rattle.wl_syntax.specs.declared.operator.Prefix.{Prefix}
use Rattle.wl_syntax.specs.declared.operator.Postfix.{Postfix}
use Rattle.wl_syntax.specs.declared.build.Group.{Group}
use Rattle.wl_syntax.specs.declared.chain.Link.{Link}
use Rattle.wl_syntax.specs.Atoms.{named}
use Rattle.wl_syntax.specs.Built.{IsGroup, unstamped_all}
use Rattle.wl_syntax.specs.Chain.{form, link}
use Rattle.wl_syntax.specs.Lower.{whole, items, lower, prefixed, statements, joined, operand_of, reach}
use Rattle.wl_syntax.specs.Table.{postfix_name}
use Rattle.wl_syntax.specs.Tree.{Tree, call, before, after, last, between, none}
use Rattle.wl_syntax.proofs.Building.{items_one}

-- the expression of a group, from what is made of its items
pub group_expr : (g : Group) (t : Tree) (ws : List Stamped) (e : Stamped) → IsGroup g t → ws ≡ g.items.items → ((es : List full.Tree) → ws ≡ unstamped_all es → e ≡ unstamped (whole g.form es)) → e ≡ unstamped (lower t)
group_expr g t ws e h p f = f (items t) (p ∙ h.has_items) ∙ ap (λ o. unstamped (whole o (items t))) h.has_form

pub before_expr : (o : Prefix) (g : Group) (t : Tree) (ws : List Stamped) (e : Stamped) → IsGroup g t → ws ≡ g.items.items → ((es : List full.Tree) → ws ≡ unstamped_all es → e ≡ unstamped (prefixed o g.form g.reach es)) → e ∷ [] ≡ unstamped_all (items (before o t))
before_expr o g t ws e h p f = items_one e (prefixed o (form t) (reach t) (items t)) (f (items t) (p ∙ h.has_items) ∙ ap₂ (λ a n. unstamped (prefixed o a n (items t))) h.has_form h.has_reach)

pub after_expr : (o : Postfix) (t : Tree) (v e : Stamped) → v ≡ unstamped (lower t) → ((es : List full.Tree) → v ∷ [] ≡ unstamped_all es → e ≡ unstamped (named (postfix_name o) es)) → e ∷ [] ≡ unstamped_all (items (after t o))
after_expr o t v e h f = items_one e (named (postfix_name o) (lower t ∷ [])) (f (lower t ∷ []) (items_one v (lower t) h))

pub last_expr : (g : Group) (k : Link) (t : Tree) (e : Stamped) → IsGroup g t → k ≡ link Semi g.form → ((es : List full.Tree) → g.items.items ≡ unstamped_all es → e ≡ unstamped (named (codes "CompoundExpression") (statements k es (whole g.form es) ++ full.symbol (codes "Null") ∷ []))) → e ∷ [] ≡ unstamped_all (items (last t))
last_expr g k t e h q f =
    items_one e (named (codes "CompoundExpression") (statements (link Semi (form t)) (items t) (lower t) ++ full.symbol (codes "Null") ∷ []))
    (f (items t) h.has_items ∙ ap₂ (λ m o. unstamped (named (codes "CompoundExpression") (statements m (items t) (whole o (items t)) ++ full.symbol (codes "Null") ∷ []))) (q ∙ ap (link Semi) h.has_form) h.has_form)

-- the items of a pair
pub joined_items : (o : Infix) (k : Link) (g h : Group) (l r : Tree) (vs ws us : List Stamped) → IsGroup g l → IsGroup h r → k ≡ link o g.form → vs ≡ g.items.items → ws ≡ h.items.items
    → ((es fs : List full.Tree) → vs ≡ unstamped_all es → ws ≡ unstamped_all fs → us ≡ unstamped_all (joined o k g.form h.form es (whole g.form es) (whole h.form fs) (operand_of o h.form h.reach fs)))
    → us ≡ unstamped_all (items (between l o r))
joined_items o k g h l r vs ws us x y q p s f =
    f (items l) (items r) (p ∙ x.has_items) (s ∙ y.has_items)
    ∙ ap₂ (λ m a. unstamped_all (joined o m a h.form (items l) (whole a (items l)) (whole h.form (items r)) (operand_of o h.form h.reach (items r)))) (q ∙ ap (link o) x.has_form) x.has_form
    ∙ ap₂ (λ b n. unstamped_all (joined o (link o (form l)) (form l) b (items l) (lower l) (whole b (items r)) (operand_of o b n (items r)))) y.has_form y.has_reach

pub call_expr : (t : Tree) (v e : Stamped) → v ≡ unstamped (lower t) → ((h : full.Tree) (es : List full.Tree) → v ≡ unstamped h → [] ≡ unstamped_all es → e ≡ unstamped (full.node h (full.from_list es))) → e ∷ [] ≡ unstamped_all (items (call t none))
call_expr t v e h f = items_one e (full.node (lower t) full.none) (f (lower t) [] h refl)
