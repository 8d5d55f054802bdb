-- The parts of small trees are small, and their expressions within the limits.
use Rattle.std.proofs.Common.{Bool, true, false, ℕ, ◌+◌, ◌<◌, ◌≤◌, ◌≡◌, List, [], ◌∷◌, ◌++◌, map, length, take, drop, get_or, refl, sym, ap, ◌∙◌, subst, arith}
use Rattle.std.proofs.lemmas.List.{take-append-drop, take-map, map_more}
use Rattle.std.specs.Prelude.{codes, if◌then◌else◌}
use Rattle.wl_expr.specs.Stamped.{Stamped, unstamped}
use Rattle.wl_expr.specs.Tree as full
use Rattle.wl_expr.specs.Tree.{IsWithinLimits, from_list}
use Rattle.wl_syntax.specs.declared.operator.Infix.{Infix}
use Rattle.wl_syntax.specs.declared.operator.Infix.TheVariants.{Semi}
use Rattle.wl_syntax.specs.declared.operator.Prefix.{Prefix}
use Rattle.wl_syntax.specs.declared.operator.Postfix.{Postfix}
use Rattle.wl_syntax.specs.declared.operator.Postfix.TheVariants.{Increment, Decrement, Factorial, Repeated, RepeatedNull, Function, Unset}
use Rattle.wl_syntax.specs.declared.build.Group.{Group}
use Rattle.wl_syntax.specs.declared.build.Args.{Args}
use Rattle.wl_syntax.specs.declared.build.Item.{Item}
use Rattle.wl_syntax.specs.declared.build.Item.TheVariants as code
use Rattle.wl_syntax.specs.declared.chain.Link.{Link}
use Rattle.wl_syntax.specs.Atoms.{named, atom_tree}
use Rattle.wl_syntax.specs.Built.{Piece, tree, calling, listing, Pieces, pieces, lost, build, IsGroup, Is, Are, unstamped_all}
use Rattle.wl_syntax.specs.Chain.{form, link, continues}
use Rattle.wl_syntax.specs.Depth.{depth, last_depth, max_depth}
use Rattle.wl_syntax.specs.Fits.{FitsOfAll, FitSides, FitJoined}
use Rattle.wl_syntax.specs.Lower.{whole, items, elements, lower, prefixed, reach, statements}
use Rattle.wl_syntax.specs.Lowered.{Takes, with_element, whole_call}
use Rattle.wl_syntax.specs.declared.token.Node.{Node as CodeNode}
use Rattle.wl_syntax.specs.Polish.{node_of, Node, leaf_node, list_node, paren_node, element_node, call_node, part_node, before_node, after_node, last_node, between_node, polish}
use Rattle.wl_syntax.specs.Small.{costs, IsAtom, AtomsFit, IsSmall, IsSmallPiece, AreSmall, FitsItem, FitItems}
use Rattle.wl_syntax.specs.Table.{infix_sign, prefix_sign, postfix_sign, postfix_name}
use Rattle.wl_syntax.specs.Token.{Atom, number, name, pattern, slot, output, text, Token}
use Rattle.wl_syntax.specs.Token as token
use Rattle.wl_syntax.specs.Tree.{Tree, leaf, paren, brace, call, part, before, after, last, between, Elems, none, more, sign_tokens, comma_after, reads, read_elems, Right}
use Rattle.wl_syntax.proofs.Building.{items_one}
use Rattle.wl_syntax.proofs.Pieces.{built, built-append, built-polish}
use Rattle.wl_syntax.proofs.TreeDepths.{lowered, lower_height, operand_height}
use Rattle.wl_syntax.proofs.Weights.{costs-append, open_cost, brace_cost, call_cost, part_cost, sign_cost, behind_cost, last_cost, light, lower_weight, operand_light}

-- parts

pub in_paren : (t : Tree) → IsSmall (paren t) → IsSmall t
unfolding reads Right AtomsFit
in_paren t s = let l = s.light in let c = open_cost (reads t) in record { right = s.right; forms = s.forms; light = omega arith }

pub in_before : (o : Prefix) (t : Tree) → IsSmall (before o t) → IsSmall t
unfolding reads Right AtomsFit
in_before o t s = let l = s.light in let c = sign_cost (token.sign (prefix_sign o)) (reads t) in record { right = s.right.0; forms = s.forms; light = omega arith }

pub in_after : (o : Postfix) (t : Tree) → IsSmall (after t o) → IsSmall t
unfolding reads Right AtomsFit
in_after o t s = let l = s.light in let c = behind_cost (reads t) (token.sign (postfix_sign o)) in record { right = s.right.0; forms = s.forms; light = omega arith }

pub in_last : (t : Tree) → IsSmall (last t) → IsSmall t
unfolding reads Right AtomsFit
in_last t s = let l = s.light in let c = last_cost (reads t) in record { right = s.right.0; forms = s.forms; light = omega arith }

pub left_of : (l : Tree) (o : Infix) (r : Tree) → IsSmall (between l o r) → IsSmall l
unfolding reads Right AtomsFit
left_of l o r s = let m = s.light in let c = costs-append (reads l) (sign_tokens (infix_sign o) ++ reads r) in record { right = s.right.0; forms = s.forms.0; light = omega arith }

pub right_of : (l : Tree) (o : Infix) (r : Tree) → IsSmall (between l o r) → IsSmall r
unfolding reads Right AtomsFit
right_of l o r s =
    let m = s.light in let c = costs-append (reads l) (sign_tokens (infix_sign o) ++ reads r) in let d = costs-append (sign_tokens (infix_sign o)) (reads r) in
    record { right = s.right.1; forms = s.forms.1; light = omega arith }

pub head_of : (f : Tree) (xs : Elems) → IsSmall (call f xs) → IsSmall f
unfolding reads Right AtomsFit
head_of f xs s = let l = s.light in let c = call_cost (reads f) (read_elems xs) in record { right = s.right.0; forms = s.forms.0; light = omega arith }

elems_cost : (xs : Elems) (t : Tree) → costs (read_elems (more xs t)) ≡ costs (read_elems xs) + costs (comma_after xs) + costs (reads t)
unfolding reads
elems_cost xs t = let c = costs-append (read_elems xs) (comma_after xs ++ reads t) in let d = costs-append (comma_after xs) (reads t) in omega arith

pub element_of : (f : Tree) (xs : Elems) (t : Tree) → IsSmall (call f (more xs t)) → IsSmall t
unfolding reads Right AtomsFit
element_of f xs t s =
    let l = s.light in let c = call_cost (reads f) (read_elems (more xs t)) in let d = elems_cost xs t in
    record { right = s.right.2.1; forms = s.forms.1.1; light = omega arith }

before_element : (f : Tree) (xs : Elems) (t : Tree) → IsSmall (call f (more xs t)) → IsSmall (call f xs)
unfolding reads Right AtomsFit
before_element f xs t s =
    let l = s.light in let c = call_cost (reads f) (read_elems (more xs t)) in let e = call_cost (reads f) (read_elems xs) in let d = elems_cost xs t in
    record { right = (s.right.0, s.right.1, s.right.2.0); forms = (s.forms.0, s.forms.1.0); light = omega arith }

pub listed : (xs : Elems) (t : Tree) → IsSmall (brace (more xs t)) → IsSmall t
unfolding reads Right AtomsFit
listed xs t s =
    let l = s.light in let c = brace_cost (read_elems (more xs t)) in let d = elems_cost xs t in
    record { right = s.right.1; forms = s.forms.1; light = omega arith }

before_listed : (xs : Elems) (t : Tree) → IsSmall (brace (more xs t)) → IsSmall (brace xs)
unfolding reads Right AtomsFit
before_listed xs t s =
    let l = s.light in let c = brace_cost (read_elems (more xs t)) in let e = brace_cost (read_elems xs) in let d = elems_cost xs t in
    record { right = s.right.0; forms = s.forms.0; light = omega arith }

in_part : (f : Tree) (xs : Elems) (t : Tree) → IsSmall (part f xs t) → IsSmall (call f (more xs t))
unfolding reads Right AtomsFit
in_part f xs t s =
    let l = s.light in let c = part_cost (reads f) (read_elems xs) (comma_after xs) (reads t) in let e = call_cost (reads f) (read_elems (more xs t)) in let d = elems_cost xs t in
    record { right = (s.right.0, s.right.1, (s.right.2, s.right.3)); forms = (s.forms.0, (s.forms.1, s.forms.2)); light = omega arith }

-- the pieces before one more node

pub small_before : (ps : Pieces) (n : Node) → AreSmall (build ps n) → AreSmall ps
unfolding build
small_before lost n s = s
small_before (pieces ps) (leaf_node a) s = s.1
small_before (pieces ps) list_node s = s.1
small_before (pieces (tree t ∷ ps)) paren_node s = (in_paren t s.0, s.1)
small_before (pieces (tree x ∷ listing xs ∷ ps)) element_node s = (listed xs x s.0, (before_listed xs x s.0, s.1))
small_before (pieces (tree x ∷ calling f xs ∷ ps)) element_node s = (element_of f xs x s.0, (before_element f xs x s.0, s.1))
small_before (pieces (tree x ∷ tree f ∷ ps)) element_node s = (element_of f none x s.0, (head_of f (more none x) s.0, s.1))
small_before (pieces (listing xs ∷ ps)) call_node s = (s.0, s.1)
small_before (pieces (calling f xs ∷ ps)) call_node s = (s.0, s.1)
small_before (pieces (tree f ∷ ps)) call_node s = (head_of f none s.0, s.1)
small_before (pieces (calling f (more xs t) ∷ ps)) part_node s = (in_part f xs t s.0, s.1)
small_before (pieces (tree t ∷ ps)) (before_node o) s = (in_before o t s.0, s.1)
small_before (pieces (tree t ∷ ps)) (after_node o) s = (in_after o t s.0, s.1)
small_before (pieces (tree t ∷ ps)) last_node s = (in_last t s.0, s.1)
small_before (pieces (tree r ∷ tree l ∷ ps)) (between_node o) s = (right_of l o r s.0, (left_of l o r s.0, s.1))
small_before (pieces _) _ s = absurd s

small_built : (ns : List Node) (ps : Pieces) → AreSmall (built ps ns) → AreSmall ps
unfolding built
small_built [] ps s = s
small_built (n ∷ ns) ps s = small_before ps n (small_built ns (build ps n) s)

built_one : (ps : Pieces) (n : Node) → built ps (n ∷ []) ≡ build ps n
unfolding built
built_one ps n = refl

-- Each node of a tree is put on pieces that are small with it.
pub small_next : (ns : List CodeNode) (i : ℕ) (d : CodeNode) (t : Tree) → i < length ns → map node_of ns ≡ polish t → IsSmall t → AreSmall (build (built (pieces []) (take i (map node_of ns))) (node_of (get_or ns i d)))
small_next ns i d t l e s =
    let whole : AreSmall (built (pieces []) (map node_of ns)) = subst AreSmall (sym (built-polish t []) ∙ ap (built (pieces [])) (sym e)) (s, tt) in
    let parts : built (pieces []) (map node_of ns) ≡ built (built (pieces []) (take (i + 1) (map node_of ns))) (drop (i + 1) (map node_of ns)) = ap (built (pieces [])) (sym (take-append-drop (i + 1) (map node_of ns))) ∙ built-append (pieces []) (take (i + 1) (map node_of ns)) (drop (i + 1) (map node_of ns)) in
    let front : AreSmall (built (pieces []) (take (i + 1) (map node_of ns))) = small_built (drop (i + 1) (map node_of ns)) (built (pieces []) (take (i + 1) (map node_of ns))) (subst AreSmall parts whole) in
    let j : take (i + 1) (map node_of ns) ≡ take i (map node_of ns) ++ node_of (get_or ns i d) ∷ [] = take-map node_of (i + 1) ns ∙ map_more node_of ns i d l ∙ ap (λ m. m ++ node_of (get_or ns i d) ∷ []) (sym (take-map node_of i ns)) in
    subst AreSmall (ap (built (pieces [])) j ∙ built-append (pieces []) (take i (map node_of ns)) (node_of (get_or ns i d) ∷ []) ∙ built_one (built (pieces []) (take i (map node_of ns))) (node_of (get_or ns i d))) front

-- expressions

pub small_fits : (t : Tree) → IsSmall t → depth t ≤ 401 → IsWithinLimits (lower t)
small_fits t s d = let w = lower_weight t s.right in let l = s.light in let h = lower_height t in record { light = omega arith; shallow = omega arith }

pub group_fits : (g : Group) (t : Tree) (ws : List Stamped) → IsGroup g t → ws ≡ g.items.items → IsSmall t → FitsOfAll ws (whole g.form)
group_fits g t ws h p s =
    let d = h.shallow in
    (items t, p ∙ h.has_items, subst (λ o. IsWithinLimits (whole o (items t))) (sym h.has_form) (small_fits t s (omega arith)))

pub before_fits : (o : Prefix) (g : Group) (t : Tree) (ws : List Stamped) → IsGroup g t → ws ≡ g.items.items → IsSmall (before o t) → FitsOfAll ws (prefixed o g.form g.reach)
before_fits o g t ws h p s =
    let d = h.shallow in
    (items t, p ∙ h.has_items, subst (λ n. IsWithinLimits (prefixed o g.form n (items t))) (sym h.has_reach) (subst (λ f. IsWithinLimits (prefixed o f (reach t) (items t))) (sym h.has_form) (small_fits (before o t) s (omega arith))))

after_named : (o : Postfix) (t : Tree) → IsWithinLimits (lower (after t o)) → IsWithinLimits (named (postfix_name o) (lower t ∷ []))
after_named Increment t w = w
after_named Decrement t w = w
after_named Factorial t w = w
after_named Repeated t w = w
after_named RepeatedNull t w = w
after_named Function t w = w
after_named Unset t w = w

pub after_fits : (o : Postfix) (g : Group) (t : Tree) (v : Stamped) → IsGroup g t → v ≡ unstamped (lower t) → IsSmall (after t o) → FitsOfAll (v ∷ []) (named (postfix_name o))
after_fits o g t v h e s = let d = h.shallow in (lower t ∷ [], items_one v (lower t) e, after_named o t (small_fits (after t o) s (omega arith)))

last_within : (k : Link) (d : ℕ) → last_depth k d ≤ 1 + d
last_within k d = go (continues k)
  where
    go : (b : Bool) → (if b then d else (1 + d)) ≤ 1 + d
    go true = omega arith
    go false = omega arith

pub last_fits : (g : Group) (k : Link) (t : Tree) → IsGroup g t → k ≡ link Semi g.form → IsSmall (last t) → FitsOfAll g.items.items (λ es. named (codes "CompoundExpression") (statements k es (whole g.form es) ++ full.symbol (codes "Null") ∷ []))
last_fits g k t h q s =
    let d = h.shallow in let l = last_within (link Semi (form t)) (depth t) in (
      items t,
      h.has_items,
      subst (λ m. IsWithinLimits (named (codes "CompoundExpression") (statements m (items t) (whole g.form (items t)) ++ full.symbol (codes "Null") ∷ []))) (sym (q ∙ ap (link Semi) h.has_form))
          (subst (λ f. IsWithinLimits (named (codes "CompoundExpression") (statements (link Semi (form t)) (items t) (whole f (items t)) ++ full.symbol (codes "Null") ∷ []))) (sym h.has_form) (small_fits (last t) s (omega arith))),
    )

sides_fit : (o : Infix) (l r : Tree) → IsSmall (between l o r) → depth l ≤ max_depth → depth r ≤ max_depth → depth (between l o r) ≤ max_depth → FitSides o (link o (form l)) (form l) (form r) (reach r) (items l) (items r)
sides_fit o l r s a b c =
    let x = small_fits l (left_of l o r s) (omega arith) in
    let y = right_of l o r s in
    let yr = y.light in
    let w = operand_light o r y.right in
    let h = operand_height o (form r) (reach r) (items r) (depth r) (lowered r).low in
    let j = light (between l o r) s.right in let jl = j.light in let sl = s.light in
    let i = lowered (between l o r) in let il = i.low in
    record { left = x; right = small_fits r y (omega arith); operand = record { light = omega arith; shallow = omega arith }; items = record { light = omega arith; shallow = omega arith } }

pub join_fits : (o : Infix) (k : Link) (g h : Group) (l r : Tree) (ws : List Stamped) → IsGroup g l → IsGroup h r → k ≡ link o g.form → ws ≡ h.items.items → IsSmall (between l o r) → depth (between l o r) ≤ max_depth → FitJoined o k g.form g.items.items h.form h.reach ws
join_fits o k g h l r ws x y q p s c =
    let f : FitSides o (link o (form l)) (form l) (form r) (reach r) (items l) (items r) = sides_fit o l r s x.shallow y.shallow c in
    let f1 : FitSides o (link o (form l)) (form l) (form r) h.reach (items l) (items r) = subst (λ n. FitSides o (link o (form l)) (form l) (form r) n (items l) (items r)) (sym y.has_reach) f in
    let f2 : FitSides o (link o (form l)) (form l) h.form h.reach (items l) (items r) = subst (λ m. FitSides o (link o (form l)) (form l) m h.reach (items l) (items r)) (sym y.has_form) f1 in
    let f3 : FitSides o (link o g.form) g.form h.form h.reach (items l) (items r) = subst (λ m. FitSides o (link o m) m h.form h.reach (items l) (items r)) (sym x.has_form) f2 in
    (items l, items r, x.has_items, p ∙ y.has_items, subst (λ m. FitSides o m g.form h.form h.reach (items l) (items r)) (sym q) f3)

-- calls
pub call_fits : (a : Args) (p : Piece) → Is (code.Args a) p → IsSmall (whole_call p) → (h : full.Tree) × (es : List full.Tree) × (a.head ≡ unstamped h) × (a.elements.items ≡ unstamped_all es) × IsWithinLimits (full.node h (from_list es))
call_fits a (tree t) i s = absurd i
call_fits a (calling f xs) i s = let d = i.shallow in (lower f, elements xs, i.has_head, i.has_elements, small_fits (call f xs) s (omega arith))
call_fits a (listing xs) i s = let d = i.shallow in (full.symbol (codes "List"), elements xs, i.has_head, i.has_elements, small_fits (brace xs) s (omega arith))

pub part_fits : (a : Args) (f : Tree) (xs : Elems) (t : Tree) → Is (code.Args a) (calling f (more xs t)) → IsSmall (part f xs t) → (h : full.Tree) × (es : List full.Tree) × (a.head ≡ unstamped h) × (a.elements.items ≡ unstamped_all es) × IsWithinLimits (named (codes "Part") (h ∷ es))
part_fits a f xs t i s = let d = i.shallow in (lower f, elements (more xs t), i.has_head, i.has_elements, small_fits (part f xs t) s (omega arith))

pub call_group : (i : Item) (g : Group) (p : Piece) → i ≡ code.Whole g → Is i p → IsSmall (whole_call p) → (t : Tree) × IsGroup g t × IsSmall (call t none)
call_group i g (tree t) e h s = (t, subst (λ j. Is j (tree t)) e h, s)
call_group i g (calling f xs) e h s = absurd (subst (λ j. Is j (calling f xs)) e h)
call_group i g (listing xs) e h s = absurd (subst (λ j. Is j (listing xs)) e h)

pub begin_fits : (i j : Item) (g k : Group) (p : Piece) (x : Tree) → i ≡ code.Whole g → j ≡ code.Whole k → Is i p → Is j (tree x) → IsSmallPiece (with_element p x) → (f : Tree) × (y : Tree) × IsGroup g f × IsGroup k y × IsSmall f × IsSmall y
begin_fits i j g k (tree f) x e d a b s = (f, x, subst (λ n. Is n (tree f)) e a, subst (λ n. Is n (tree x)) d b, head_of f (more none x) s, element_of f none x s)
begin_fits i j g k (calling f xs) x e d a b s = absurd (subst (λ n. Is n (calling f xs)) e a)
begin_fits i j g k (listing xs) x e d a b s = absurd (subst (λ n. Is n (listing xs)) e a)

pub add_fits : (i j : Item) (c : Args) (k : Group) (p : Piece) (x : Tree) → i ≡ code.Args c → j ≡ code.Whole k → Is i p → Is j (tree x) → IsSmallPiece (with_element p x) → (y : Tree) × IsGroup k y × IsSmall y
add_fits i j c k (tree f) x e d a b s = absurd (subst (λ n. Is n (tree f)) e a)
add_fits i j c k (calling f xs) x e d a b s = (x, subst (λ n. Is n (tree x)) d b, element_of f xs x s)
add_fits i j c k (listing xs) x e d a b s = (x, subst (λ n. Is n (tree x)) d b, listed xs x s)

-- atoms
pub leaf_form : (a : Atom) → IsSmall (leaf a) → IsAtom a
unfolding AtomsFit
leaf_form a s = s.forms

pub leaf_fits : (a : Atom) → IsSmall (leaf a) → IsWithinLimits (atom_tree a)
leaf_fits (number n) s = small_fits (leaf (number n)) s (omega arith)
leaf_fits (name n) s = small_fits (leaf (name n)) s (omega arith)
leaf_fits (pattern n) s = small_fits (leaf (pattern n)) s (omega arith)
leaf_fits (slot n) s = small_fits (leaf (slot n)) s (omega arith)
leaf_fits (output n) s = small_fits (leaf (output n)) s (omega arith)
leaf_fits (text n) s = small_fits (leaf (text n)) s (omega arith)

-- what each node asks of the items that it takes

pub leaf_small : (ps : Pieces) (a : Atom) → AreSmall (build ps (leaf_node a)) → IsSmall (leaf a)
unfolding build
leaf_small (pieces ps) a s = s.0
leaf_small lost a s = absurd s

pub paren_small : (is js : List Item) (i : Item) → Takes is js i → (ps : Pieces) → Are is ps → AreSmall (build ps paren_node) → FitsItem i (λ t. paren t)
unfolding build
paren_small is js i w (pieces (tree t ∷ ps)) a s = (t, (w (tree t) ps a).0, s.0)
paren_small is js i w _ a s = absurd s

pub before_small : (o : Prefix) (is js : List Item) (i : Item) → Takes is js i → (ps : Pieces) → Are is ps → AreSmall (build ps (before_node o)) → FitsItem i (λ t. before o t)
unfolding build
before_small o is js i w (pieces (tree t ∷ ps)) a s = (t, (w (tree t) ps a).0, s.0)
before_small o is js i w _ a s = absurd s

pub after_small : (o : Postfix) (is js : List Item) (i : Item) → Takes is js i → (ps : Pieces) → Are is ps → AreSmall (build ps (after_node o)) → FitsItem i (λ t. after t o)
unfolding build
after_small o is js i w (pieces (tree t ∷ ps)) a s = (t, (w (tree t) ps a).0, s.0)
after_small o is js i w _ a s = absurd s

pub last_small : (is js : List Item) (i : Item) → Takes is js i → (ps : Pieces) → Are is ps → AreSmall (build ps last_node) → FitsItem i (λ t. last t)
unfolding build
last_small is js i w (pieces (tree t ∷ ps)) a s = (t, (w (tree t) ps a).0, s.0)
last_small is js i w _ a s = absurd s

pub call_small : (is js : List Item) (i : Item) → Takes is js i → (ps : Pieces) → Are is ps → AreSmall (build ps call_node) → (p : Piece) × Is i p × IsSmall (whole_call p)
unfolding build
call_small is js i w (pieces (tree t ∷ ps)) a s = (tree t, (w (tree t) ps a).0, s.0)
call_small is js i w (pieces (calling f xs ∷ ps)) a s = (calling f xs, (w (calling f xs) ps a).0, s.0)
call_small is js i w (pieces (listing xs ∷ ps)) a s = (listing xs, (w (listing xs) ps a).0, s.0)
call_small is js i w _ a s = absurd s

pub part_small : (is js : List Item) (i : Item) → Takes is js i → (ps : Pieces) → Are is ps → AreSmall (build ps part_node) → (f : Tree) × (xs : Elems) × (t : Tree) × Is i (calling f (more xs t)) × IsSmall (part f xs t)
unfolding build
part_small is js i w (pieces (calling f (more xs t) ∷ ps)) a s = (f, xs, t, (w (calling f (more xs t)) ps a).0, s.0)
part_small is js i w _ a s = absurd s

pub element_small : (is js ks : List Item) (i j : Item) → Takes is js i → Takes js ks j → (ps : Pieces) → Are is ps → AreSmall (build ps element_node) → (p : Piece) × (x : Tree) × Is j p × Is i (tree x) × IsSmallPiece (with_element p x)
unfolding build
element_small is js ks i j w v (pieces (tree x ∷ tree f ∷ ps)) a s = let h = w (tree x) (tree f ∷ ps) a in (tree f, x, (v (tree f) ps h.1).0, h.0, s.0)
element_small is js ks i j w v (pieces (tree x ∷ calling f xs ∷ ps)) a s = let h = w (tree x) (calling f xs ∷ ps) a in (calling f xs, x, (v (calling f xs) ps h.1).0, h.0, s.0)
element_small is js ks i j w v (pieces (tree x ∷ listing xs ∷ ps)) a s = let h = w (tree x) (listing xs ∷ ps) a in (listing xs, x, (v (listing xs) ps h.1).0, h.0, s.0)
element_small is js ks i j w v _ a s = absurd s

pub between_small : (o : Infix) (is js ks : List Item) (i j : Item) → Takes is js i → Takes js ks j → (ps : Pieces) → Are is ps → AreSmall (build ps (between_node o)) → FitItems j i (λ l r. between l o r)
unfolding build
between_small o is js ks i j w v (pieces (tree x ∷ tree f ∷ ps)) a s = let h = w (tree x) (tree f ∷ ps) a in (f, x, (v (tree f) ps h.1).0, h.0, s.0)
between_small o is js ks i j w v _ a s = absurd s
