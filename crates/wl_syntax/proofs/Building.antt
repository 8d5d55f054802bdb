-- Lists of expressions without stamps, and the expressions made of them.
use Rattle.std.proofs.Common.{ℕ, zero, suc, ◌+◌, ◌-◌, ◌<◌, ◌≡◌, List, [], ◌∷◌, ◌++◌, length, take, get_or, refl, sym, ap, ap₂, ◌∙◌, subst, arith}
use Rattle.std.specs.Prelude.{true, false, Option, None, codes}
use Rattle.std.proofs.lemmas.List.{map-append, take_more}
use Rattle.std.specs.List.{IsFirstAndRest}
use Rattle.wl_expr.specs.declared.look.Look.{Look}
use Rattle.wl_expr.specs.declared.look.Look.TheVariants as look
use Rattle.wl_expr.specs.declared.stamp.Stamp.{Stamp}
use Rattle.wl_expr.specs.Look.{looked}
use Rattle.wl_expr.specs.Stamped.{Stamped, Stampeds, node, symbol, from_list, plain, plains, unstamped, unstampeds, plain_unstamped, plains_unstampeds}
use Rattle.wl_expr.specs.Stamped as stamped
use Rattle.wl_expr.specs.Tree as full
use Rattle.wl_expr.specs.Tree.{IsWithinLimits}
use Rattle.wl_syntax.specs.declared.operator.Infix.{Infix}
use Rattle.wl_syntax.specs.declared.operator.Infix.TheVariants.{Message, Of, Divide, Colon, Into, Tag}
use Rattle.wl_syntax.specs.declared.chain.Form.{Form}
use Rattle.wl_syntax.specs.declared.chain.Form.TheVariants.{Name, Defines}
use Rattle.wl_syntax.specs.declared.chain.Tagged.{Tagged}
use Rattle.wl_syntax.specs.Atoms.{named}
use Rattle.wl_syntax.specs.Built.{unstamped_all, each, IsNest}
use Rattle.wl_syntax.specs.Lower.{whole, is_product, minus_one, negative, prefixed, joined, chained, args_of, negated_at, pair_of, colon_of, before_each, separated, nested_on, nested}
use Rattle.wl_syntax.specs.declared.operator.Prefix.{Prefix}
use Rattle.wl_syntax.specs.declared.operator.Prefix.TheVariants.{Negate}
use Rattle.wl_syntax.specs.declared.chain.Link.{Link}
use Rattle.wl_syntax.specs.declared.chain.Link.TheVariants.{Alone}
use Rattle.wl_syntax.specs.Table.{infix_name, prefix_name}

pub unstampeds_all : (es : List full.Tree) → from_list (unstamped_all es) ≡ unstampeds (full.from_list es)
unstampeds_all [] = refl
unstampeds_all (e ∷ es) = ap (λ us. stamped.more (unstamped e) us) (unstampeds_all es)

pub node_unstamped : (e h : Stamped) (vs : List Stamped) (g : full.Tree) (es : List full.Tree) → e ≡ node None h (from_list vs) → h ≡ unstamped g → vs ≡ unstamped_all es → e ≡ unstamped (full.node g (full.from_list es))
node_unstamped e h vs g es p q r = p ∙ ap₂ (λ a b. node None a (from_list b)) q r ∙ ap (λ us. node None (unstamped g) us) (unstampeds_all es)

-- and the tree that it stands for
pub node_plain : (h : Stamped) (vs : List Stamped) (g : full.Tree) (es : List full.Tree) → h ≡ unstamped g → vs ≡ unstamped_all es → IsWithinLimits (full.node g (full.from_list es)) → IsWithinLimits (full.node (plain h) (plains (from_list vs)))
node_plain h vs g es p q w =
    let a : plain h ≡ g = ap plain p ∙ plain_unstamped g in
    let b : plains (from_list vs) ≡ full.from_list es = ap (λ us. plains (from_list us)) q ∙ ap plains (unstampeds_all es) ∙ plains_unstampeds (full.from_list es) in
    subst IsWithinLimits (sym (ap₂ (λ x y. full.node x y) a b)) w

pub push_unstamped : (vs : List Stamped) (a : Stamped) (es : List full.Tree) (e : full.Tree) → vs ≡ unstamped_all es → a ≡ unstamped e → vs ++ a ∷ [] ≡ unstamped_all (es ++ e ∷ [])
push_unstamped vs a es e p q = ap₂ (λ x y. x ++ y ∷ []) p q ∙ sym (map-append unstamped es (e ∷ []))

pub items_one : (a : Stamped) (e : full.Tree) → a ≡ unstamped e → a ∷ [] ≡ unstamped_all (e ∷ [])
items_one a e p = ap (λ x. x ∷ []) p

pub items_two : (a b : Stamped) (e f : full.Tree) → a ≡ unstamped e → b ≡ unstamped f → a ∷ b ∷ [] ≡ unstamped_all (e ∷ f ∷ [])
items_two a b e f p q = ap₂ (λ x y. x ∷ y ∷ []) p q

pub items_more : (a : Stamped) (vs : List Stamped) (e : full.Tree) (es : List full.Tree) → a ≡ unstamped e → vs ≡ unstamped_all es → a ∷ vs ≡ unstamped_all (e ∷ es)
items_more a vs e es p q = ap₂ (λ x y. x ∷ y) p q

pub colon_other : (f : Form) → (f ≡ Name → ⊥) → (l r : full.Tree) → colon_of f l r ≡ named (codes "Optional") (l ∷ r ∷ [])
colon_other Name n l r = absurd (n refl)
colon_other _ n l r = refl

pub pair_other : (o : Infix) (f g : Form) (l r : full.Tree) → (o ≡ Message → ⊥) → (o ≡ Of → ⊥) → (o ≡ Into → ⊥) → (o ≡ Divide → ⊥) → (o ≡ Colon → ⊥) → (o ≡ Tag → ⊥) → pair_of o f g l r ≡ named (infix_name o) (l ∷ r ∷ [])
pair_other Message f g l r a b c d e h = absurd (a refl)
pair_other Of f g l r a b c d e h = absurd (b refl)
pair_other Into f g l r a b c d e h = absurd (c refl)
pair_other Divide f g l r a b c d e h = absurd (d refl)
pair_other Colon f g l r a b c d e h = absurd (e refl)
pair_other Tag f g l r a b c d e h = absurd (h refl)
pair_other _ f g l r a b c d e h = refl

pub tag_other : (f g : Form) (l r : full.Tree) → ((d : Tagged) → g ≡ Defines d → ⊥) → pair_of Tag f g l r ≡ named (infix_name Tag) (l ∷ r ∷ [])
tag_other f (Defines d) l r n = absurd (n d refl)
tag_other f _ l r n = refl

-- the elements of an expression without stamps
pub list_unstamped : (vs : List Stamped) (ts : full.Trees) → from_list vs ≡ unstampeds ts → vs ≡ unstamped_all (full.to_list ts)
list_unstamped [] full.none e = refl
list_unstamped (v ∷ vs) (full.more t ts) e = let p : v ≡ unstamped t = cc in let q : from_list vs ≡ unstampeds ts = cc in ap₂ (λ x y. x ∷ y) p (list_unstamped vs ts q)
list_unstamped [] (full.more t ts) e = absurd (cc)
list_unstamped (v ∷ vs) full.none e = absurd (cc)

pub args_unstamped : (p : Option Stamp) (h : Stamped) (vs : List Stamped) (r : full.Tree) → node p h (from_list vs) ≡ unstamped r → vs ≡ unstamped_all (args_of r)
args_unstamped p h vs (full.node g ts) e = let q : from_list vs ≡ unstampeds ts = cc in list_unstamped vs ts q
args_unstamped p h vs (full.num n) e = absurd (cc)
args_unstamped p h vs (full.text s) e = absurd (cc)
args_unstamped p h vs (full.symbol s) e = absurd (cc)

pub args_none : (k : Look) (p : Option Stamp) (r : full.Tree) → ((h : _) (ts : _) → k ≡ look.Node h ts → ⊥) → looked p k ≡ unstamped r → args_of r ≡ []
args_none (look.Node h ts) p r n e = absurd (n h ts refl)
args_none _ p (full.num x) n e = refl
args_none _ p (full.text s) n e = refl
args_none _ p (full.symbol s) n e = refl
args_none (look.Num x) p (full.node g ts) n e = absurd (cc)
args_none (look.Text x) p (full.node g ts) n e = absurd (cc)
args_none (look.Symbol x) p (full.node g ts) n e = absurd (cc)

-- a number deep in a node is negated
pub negated_node : (p : Option Stamp) (h : Stamped) (vs : List Stamped) (a : Stamped) (rest : List Stamped) (turned : Stamped) (r : Stamped) (n : ℕ) (t : full.Tree) → node p h (from_list vs) ≡ unstamped t → vs ≡ a ∷ rest → 0 < n
    → ((u : full.Tree) → a ≡ unstamped u → turned ≡ unstamped (negated_at (n - 1) u))
    → ((g : full.Tree) (es : List full.Tree) → h ≡ unstamped g → turned ∷ rest ≡ unstamped_all es → r ≡ unstamped (full.node g (full.from_list es)))
    → r ≡ unstamped (negated_at n t)
negated_node p h vs a rest turned r zero t e s l f g = absurd (omega arith)
negated_node p h vs a rest turned r (suc n) (full.node k (full.more u us)) e s l f g =
    let q : from_list (a ∷ rest) ≡ unstampeds (full.more u us) = subst (λ w. from_list w ≡ unstampeds (full.more u us)) s cc in
    let w : a ≡ unstamped u = cc in
    let z : from_list rest ≡ unstampeds us = cc in
    let hk : h ≡ unstamped k = cc in
    let fu = f u w in
    let m : suc n - 1 ≡ n = omega arith in
    let fu2 : turned ≡ unstamped (negated_at n u) = subst (λ i. turned ≡ unstamped (negated_at i u)) m fu in
    g k (negated_at n u ∷ full.to_list us) hk (ap₂ (λ x y. x ∷ y) fu2 (list_unstamped rest us z)) ∙ ap (λ ts. unstamped (full.node k (full.more (negated_at n u) ts))) (full.from_list_to_list us)
negated_node p h vs a rest turned r (suc n) (full.node k full.none) e s l f g =
    let q : from_list (a ∷ rest) ≡ unstampeds full.none = subst (λ w. from_list w ≡ unstampeds full.none) s cc in absurd (cc)
negated_node p h vs a rest turned r (suc n) (full.num x) e s l f g = absurd (cc)
negated_node p h vs a rest turned r (suc n) (full.text x) e s l f g = absurd (cc)
negated_node p h vs a rest turned r (suc n) (full.symbol x) e s l f g = absurd (cc)

-- a sign before each operand
each-push : (s : Stamped) (vs : List Stamped) (v : Stamped) → each s (vs ++ v ∷ []) ≡ each s vs ++ s ∷ v ∷ []
each-push s [] v = refl
each-push s (w ∷ vs) v = ap (λ us. s ∷ w ∷ us) (each-push s vs v)

pub each_more : (s : Stamped) (vs : List Stamped) (i : ℕ) (d a : Stamped) (one two three : List Stamped) → i < length vs → one ≡ a ∷ each s (take i vs) → two ≡ one ++ s ∷ [] → three ≡ two ++ get_or vs i d ∷ [] → three ≡ a ∷ each s (take (i + 1) vs)
each_more s vs i d a one two three l p q r =
    r ∙ ap (λ us. us ++ get_or vs i d ∷ []) (q ∙ ap (λ us. us ++ s ∷ []) p)
    ∙ ap (λ us. a ∷ us) (push_two (each s (take i vs)) s (get_or vs i d) ∙ sym (each-push s (take i vs) (get_or vs i d)) ∙ ap (each s) (sym (take_more vs i d l)))
  where
    push_two : (us : List Stamped) (s v : Stamped) → (us ++ s ∷ []) ++ v ∷ [] ≡ us ++ s ∷ v ∷ []
    push_two [] s v = refl
    push_two (u ∷ us) s v = ap (λ ws. u ∷ ws) (push_two us s v)

each_unstamped : (s : full.Tree) (es : List full.Tree) → each (unstamped s) (unstamped_all es) ≡ unstamped_all (before_each s es)
each_unstamped s [] = refl
each_unstamped s (e ∷ es) = ap (λ us. unstamped s ∷ unstamped e ∷ us) (each_unstamped s es)

pub separated_is : (s : full.Tree) (vs : List Stamped) (a : Stamped) (rest all : List Stamped) (es : List full.Tree) → all ≡ a ∷ each (unstamped s) rest → vs ≡ a ∷ rest → vs ≡ unstamped_all es → all ≡ unstamped_all (separated s es)
separated_is s vs a rest all [] p q r = let e : a ∷ rest ≡ [] = sym q ∙ r in absurd (cc)
separated_is s vs a rest all (e ∷ es) p q r =
    let i : a ∷ rest ≡ unstamped e ∷ unstamped_all es = sym q ∙ r in
    let j : a ≡ unstamped e = cc in
    let k : rest ≡ unstamped_all es = cc in
    p ∙ ap₂ (λ x y. x ∷ each (unstamped s) y) j k ∙ ap (λ us. unstamped e ∷ us) (each_unstamped s es)

-- pairs nested to the left
nested-push : (p : Infix) (e : full.Tree) (fs : List full.Tree) (f : full.Tree) → nested_on p e (fs ++ f ∷ []) ≡ named (infix_name p) (nested_on p e fs ∷ f ∷ [])
nested-push p e [] f = refl
nested-push p e (g ∷ fs) f = nested-push p (named (infix_name p) (e ∷ g ∷ [])) fs f

all_but : (us : List Stamped) (v : Stamped) (fs : List full.Tree) → us ++ v ∷ [] ≡ unstamped_all fs → (gs : List full.Tree) × (g : full.Tree) × (fs ≡ gs ++ g ∷ []) × (us ≡ unstamped_all gs) × (v ≡ unstamped g)
all_but [] v [] e = absurd (cc)
all_but [] v (f ∷ []) e = ([], f, refl, refl, cc)
all_but [] v (f ∷ g ∷ fs) e = absurd (cc)
all_but (u ∷ us) v [] e = absurd (cc)
all_but (u ∷ us) v (f ∷ fs) e =
    let i : us ++ v ∷ [] ≡ unstamped_all fs = cc in
    let j : u ≡ unstamped f = cc in
    let (gs, g, a, b, c) = all_but us v fs i in
    (f ∷ gs, g, ap (λ ws. f ∷ ws) a, ap₂ (λ x y. x ∷ y) j b, c)

pub nest_more : (p : Infix) (a : Stamped) (vs : List Stamped) (i : ℕ) (d r s : Stamped) → i < length vs → IsNest p a (take i vs) r
    → ((es : List full.Tree) → r ∷ get_or vs i d ∷ [] ≡ unstamped_all es → s ≡ unstamped (named (infix_name p) es)) → IsNest p a (take (i + 1) vs) s
nest_more p a vs i d r s l h f e fs x y =
    let (gs, g, j, k, m) = all_but (take i vs) (get_or vs i d) fs (sym (take_more vs i d l) ∙ y) in
    f (nested_on p e gs ∷ g ∷ []) (ap₂ (λ u v. u ∷ v ∷ []) (h e gs x k) m)
    ∙ ap unstamped (sym (ap (nested_on p e) j ∙ nested-push p e gs g))

pub nested_is : (p : Infix) (vs : List Stamped) (a : Stamped) (rest : List Stamped) (r : Stamped) (es : List full.Tree) → IsNest p a rest r → vs ≡ a ∷ rest → vs ≡ unstamped_all es → r ≡ unstamped (nested p es)
nested_is p vs a rest r [] h q e = let i : a ∷ rest ≡ [] = sym q ∙ e in absurd (cc)
nested_is p vs a rest r (f ∷ fs) h q e =
    let i : a ∷ rest ≡ unstamped f ∷ unstamped_all fs = sym q ∙ e in
    let j : a ≡ unstamped f = cc in
    let k : rest ≡ unstamped_all fs = cc in
    h f fs j k

pub separated_none : (s : full.Tree) (vs : List Stamped) (es : List full.Tree) → vs ≡ [] → vs ≡ unstamped_all es → [] ≡ unstamped_all (separated s es)
separated_none s vs [] p q = refl
separated_none s vs (e ∷ es) p q = let i : [] ≡ unstamped e ∷ unstamped_all es = sym p ∙ q in absurd (cc)

pub nested_none : (p : Infix) (vs : List Stamped) (r : Stamped) (es : List full.Tree) → vs ≡ [] → r ≡ stamped.text [] → vs ≡ unstamped_all es → r ≡ unstamped (nested p es)
nested_none p vs r [] i e q = e
nested_none p vs r (f ∷ fs) i e q = let j : [] ≡ unstamped f ∷ unstamped_all fs = sym i ∙ q in absurd (cc)

-- an expression that is no node, or a node that isn't led through, stays
pub nest_begin : (p : Infix) (a : Stamped) → IsNest p a [] a
nest_begin p a e [] x y = x
nest_begin p a e (f ∷ fs) x y = absurd (cc)

pub first_rest : (vs : List Stamped) (a : Stamped) (rest : List Stamped) → IsFirstAndRest vs a rest → vs ≡ a ∷ rest
first_rest vs a rest h = h.0

-- cases of the definitions that the code takes by tests
pub negative_product : (f : Form) (es : List full.Tree) → is_product f ≡ true → negative f None es ≡ named (codes "Times") (minus_one ∷ es)
negative_product f es e = rw e refl

pub negative_other : (f : Form) (es : List full.Tree) → is_product f ≡ false → negative f None es ≡ named (codes "Times") (minus_one ∷ whole f es ∷ [])
negative_other f es e = rw e refl

pub prefixed_other : (o : Prefix) (f : Form) (n : Option ℕ) (es : List full.Tree) → (o ≡ Negate → ⊥) → prefixed o f n es ≡ named (prefix_name o) (whole f es ∷ [])
prefixed_other Negate f n es m = absurd (m refl)
prefixed_other _ f n es m = refl

pub joined_other : (o : Infix) (k : Link) (f g : Form) (es : List full.Tree) (l r operand : full.Tree) → (k ≡ Alone → ⊥) → joined o k f g es l r operand ≡ chained o k es l operand
joined_other o Alone f g es l r operand n = absurd (n refl)
joined_other o _ f g es l r operand n = refl
