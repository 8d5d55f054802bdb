-- The builder's items and the pieces that they stand for.
use Rattle.std.proofs.Common.{ℕ, ◌+◌, ◌<◌, ◌≤◌, ◌≡◌, List, [], ◌∷◌, ◌++◌, map, refl, sym, ap, ◌∙◌, subst, arith}
use Rattle.std.proofs.Common.{length, take, get_or}
use Rattle.std.proofs.Math.Seq.{take-length}
use Rattle.std.proofs.lemmas.List.{same_from_push, map_more, take-map, length-map}
use Rattle.wl_syntax.specs.declared.operator.Prefix.{Prefix}
use Rattle.wl_syntax.specs.declared.operator.Postfix.{Postfix}
use Rattle.wl_syntax.specs.Token.{Atom}
use Rattle.wl_syntax.specs.declared.build.Group.{Group}
use Rattle.wl_syntax.specs.declared.build.Args.{Args}
use Rattle.wl_syntax.specs.declared.build.Item.{Item}
use Rattle.wl_syntax.specs.declared.build.Item.TheVariants as code
use Rattle.wl_syntax.specs.Depth.{depth, max_depth}
use Rattle.wl_syntax.specs.declared.token.Node.{Node as CodeNode}
use Rattle.wl_syntax.specs.Polish.{node_of, Node, leaf_node, list_node, paren_node, element_node, call_node, part_node, before_node, after_node, last_node, between_node, polish, polish_elems}
use Rattle.wl_syntax.specs.Tree.{Tree, leaf, paren, brace, call, part, before, after, last, between, Elems, none, more}
use Rattle.wl_expr.specs.Stamped.{Stamped, unstamped}
use Rattle.wl_expr.specs.Tree as full
use Rattle.wl_syntax.specs.Lower.{whole, lower}
use Rattle.wl_syntax.specs.Built.{Piece, tree, calling, listing, Pieces, pieces, lost, build, IsGroup, Is, AreFrom, Are, unstamped_all}
use Rattle.wl_syntax.proofs.Expressions.{group_expr}
use Rattle.wl_syntax.specs.Lowered.{Wraps, Joins, AddsElement, EndsCall, EndsPart, Takes}

-- the pieces behind some nodes
unfoldable pub built : Pieces → List Node → Pieces
built p [] = p
built p (n ∷ ns) = built (build p n) ns

pub built-append : (p : Pieces) (ms ns : List Node) → built p (ms ++ ns) ≡ built (built p ms) ns
unfolding built
built-append p [] ns = refl
built-append p (m ∷ ms) ns = built-append (build p m) ms ns

abbrev pub called : Tree → Elems → Piece
called f none = tree f
called f (more xs t) = calling f (more xs t)

one_more : (f : Tree) (xs : Elems) (t : Tree) (s : List Piece) → build (pieces (tree t ∷ called f xs ∷ s)) element_node ≡ pieces (calling f (more xs t) ∷ s)
unfolding build
one_more f none t s = refl
one_more f (more xs u) t s = refl

call_ends : (f : Tree) (xs : Elems) (s : List Piece) → build (pieces (called f xs ∷ s)) call_node ≡ pieces (tree (call f xs) ∷ s)
unfolding build
call_ends f none s = refl
call_ends f (more xs u) s = refl

mutual
  unfolding built build polish

  -- The nodes of a tree make that tree.
  pub built-polish : (t : Tree) (s : List Piece) → built (pieces s) (polish t) ≡ pieces (tree t ∷ s)
  built-polish (leaf a) s = refl
  built-polish (paren t) s = built-append (pieces s) (polish t) (paren_node ∷ []) ∙ ap (λ p. built p (paren_node ∷ [])) (built-polish t s)
  built-polish (brace xs) s = built-append (pieces (listing none ∷ s)) (polish_elems xs) (call_node ∷ []) ∙ ap (λ p. built p (call_node ∷ [])) (built_list xs s)
  built-polish (call f xs) s =
      built-append (pieces s) (polish f) (polish_elems xs ++ call_node ∷ [])
      ∙ ap (λ p. built p (polish_elems xs ++ call_node ∷ [])) (built-polish f s)
      ∙ built-append (pieces (tree f ∷ s)) (polish_elems xs) (call_node ∷ [])
      ∙ ap (λ p. built p (call_node ∷ [])) (built_call xs f s)
      ∙ call_ends f xs s
  built-polish (part f xs t) s =
      built-append (pieces s) (polish f) (polish_elems xs ++ (polish t ++ element_node ∷ part_node ∷ []))
      ∙ ap (λ p. built p (polish_elems xs ++ (polish t ++ element_node ∷ part_node ∷ []))) (built-polish f s)
      ∙ built-append (pieces (tree f ∷ s)) (polish_elems xs) (polish t ++ element_node ∷ part_node ∷ [])
      ∙ ap (λ p. built p (polish t ++ element_node ∷ part_node ∷ [])) (built_call xs f s)
      ∙ built-append (pieces (called f xs ∷ s)) (polish t) (element_node ∷ part_node ∷ [])
      ∙ ap (λ p. built p (element_node ∷ part_node ∷ [])) (built-polish t (called f xs ∷ s))
      ∙ ap (λ p. build p part_node) (one_more f xs t s)
  built-polish (before o t) s = built-append (pieces s) (polish t) (before_node o ∷ []) ∙ ap (λ p. built p (before_node o ∷ [])) (built-polish t s)
  built-polish (after t o) s = built-append (pieces s) (polish t) (after_node o ∷ []) ∙ ap (λ p. built p (after_node o ∷ [])) (built-polish t s)
  built-polish (last t) s = built-append (pieces s) (polish t) (last_node ∷ []) ∙ ap (λ p. built p (last_node ∷ [])) (built-polish t s)
  built-polish (between l o r) s =
      built-append (pieces s) (polish l) (polish r ++ between_node o ∷ [])
      ∙ ap (λ p. built p (polish r ++ between_node o ∷ [])) (built-polish l s)
      ∙ built-append (pieces (tree l ∷ s)) (polish r) (between_node o ∷ [])
      ∙ ap (λ p. built p (between_node o ∷ [])) (built-polish r (tree l ∷ s))

  pub built_call : (xs : Elems) (f : Tree) (s : List Piece) → built (pieces (tree f ∷ s)) (polish_elems xs) ≡ pieces (called f xs ∷ s)
  built_call none f s = refl
  built_call (more xs t) f s =
      built-append (pieces (tree f ∷ s)) (polish_elems xs) (polish t ++ element_node ∷ [])
      ∙ ap (λ p. built p (polish t ++ element_node ∷ [])) (built_call xs f s)
      ∙ built-append (pieces (called f xs ∷ s)) (polish t) (element_node ∷ [])
      ∙ ap (λ p. built p (element_node ∷ [])) (built-polish t (called f xs ∷ s))
      ∙ one_more f xs t s

  pub built_list : (xs : Elems) (s : List Piece) → built (pieces (listing none ∷ s)) (polish_elems xs) ≡ pieces (listing xs ∷ s)
  built_list none s = refl
  built_list (more xs t) s =
      built-append (pieces (listing none ∷ s)) (polish_elems xs) (polish t ++ element_node ∷ [])
      ∙ ap (λ p. built p (polish t ++ element_node ∷ [])) (built_list xs s)
      ∙ built-append (pieces (listing xs ∷ s)) (polish t) (element_node ∷ [])
      ∙ ap (λ p. built p (element_node ∷ [])) (built-polish t (listing xs ∷ s))

-- an item is put on
pub put_on : (js new : List Item) (k : Item) (p : Piece) (ps : List Piece) → AreFrom js ps → Is k p → new ≡ js ++ k ∷ [] → AreFrom new (p ∷ ps)
put_on js new k p ps a i e = (js, k, e, i, a)

-- and taken off
no_item : (js : List Item) (i : Item) → [] ≡ js ++ i ∷ [] → ⊥
no_item [] i e = cc
no_item (j ∷ js) i e = cc

pub take_off : (is js : List Item) (i : Item) → is ≡ js ++ i ∷ [] → Takes is js i
take_off is js i e p ps a =
    let g = same_from_push js a.0 i a.1 (sym e ∙ a.2) in
    (subst (λ k. Is k p) (sym g.1) a.3, subst (λ ks. AreFrom ks ps) (sym g.0) a.4)

pub take_none : (is js : List Item) (i : Item) → is ≡ [] → Takes is js i
take_none is js i e p ps a = absurd (no_item a.0 a.1 (sym e ∙ a.2))

-- a step that wraps the last tree
pub wraps_step : (n : Node) (f : Tree → Tree) (is js new : List Item) (i k : Item) → Takes is js i → Wraps i k f → new ≡ js ++ k ∷ []
    → ((t : Tree) (s : List Piece) → build (pieces (tree t ∷ s)) n ≡ pieces (tree (f t) ∷ s)) → build (pieces []) n ≡ lost → ((g : Tree) (xs : Elems) (s : List Piece) → build (pieces (calling g xs ∷ s)) n ≡ lost) → ((xs : Elems) (s : List Piece) → build (pieces (listing xs ∷ s)) n ≡ lost)
    → (ps : Pieces) → Are is ps → Are new (build ps n)
unfolding build
wraps_step n f is js new i k t w e b1 b2 b3 b4 lost a = tt
wraps_step n f is js new i k t w e b1 b2 b3 b4 (pieces []) a = rw b2 tt
wraps_step n f is js new i k t w e b1 b2 b3 b4 (pieces (tree x ∷ s)) a =
    let h = t (tree x) s a in subst (Are new) (sym (b1 x s)) (put_on js new k (tree (f x)) s h.1 (w x h.0) e)
wraps_step n f is js new i k t w e b1 b2 b3 b4 (pieces (calling g xs ∷ s)) a = rw (b3 g xs s) tt
wraps_step n f is js new i k t w e b1 b2 b3 b4 (pieces (listing xs ∷ s)) a = rw (b4 xs s) tt

pub call_step : (is js new : List Item) (i k : Item) → Takes is js i → EndsCall i k → new ≡ js ++ k ∷ [] → (ps : Pieces) → Are is ps → Are new (build ps call_node)
unfolding build
call_step is js new i k t w e lost a = tt
call_step is js new i k t w e (pieces []) a = tt
call_step is js new i k t w e (pieces (tree x ∷ s)) a = let h = t (tree x) s a in put_on js new k (tree (call x none)) s h.1 (w (tree x) h.0) e
call_step is js new i k t w e (pieces (calling g xs ∷ s)) a = let h = t (calling g xs) s a in put_on js new k (tree (call g xs)) s h.1 (w (calling g xs) h.0) e
call_step is js new i k t w e (pieces (listing xs ∷ s)) a = let h = t (listing xs) s a in put_on js new k (tree (brace xs)) s h.1 (w (listing xs) h.0) e

pub part_step : (is js new : List Item) (i k : Item) → Takes is js i → EndsPart i k → new ≡ js ++ k ∷ [] → (ps : Pieces) → Are is ps → Are new (build ps part_node)
unfolding build
part_step is js new i k t w e lost a = tt
part_step is js new i k t w e (pieces []) a = tt
part_step is js new i k t w e (pieces (tree x ∷ s)) a = tt
part_step is js new i k t w e (pieces (calling g none ∷ s)) a = tt
part_step is js new i k t w e (pieces (calling g (more xs x) ∷ s)) a = let h = t (calling g (more xs x)) s a in put_on js new k (tree (part g xs x)) s h.1 (w g xs x h.0) e
part_step is js new i k t w e (pieces (listing xs ∷ s)) a = tt

pub element_step : (is js ks new : List Item) (i j k : Item) → Takes is js i → Takes js ks j → AddsElement j i k → new ≡ ks ++ k ∷ [] → (ps : Pieces) → Are is ps → Are new (build ps element_node)
unfolding build
element_step is js ks new i j k t u w e lost a = tt
element_step is js ks new i j k t u w e (pieces []) a = tt
element_step is js ks new i j k t u w e (pieces (calling g xs ∷ s)) a = tt
element_step is js ks new i j k t u w e (pieces (listing xs ∷ s)) a = tt
element_step is js ks new i j k t u w e (pieces (tree x ∷ [])) a = tt
element_step is js ks new i j k t u w e (pieces (tree x ∷ tree f ∷ s)) a = let h = t (tree x) (tree f ∷ s) a in let g = u (tree f) s h.1 in put_on ks new k (calling f (more none x)) s g.1 (w (tree f) x g.0 h.0) e
element_step is js ks new i j k t u w e (pieces (tree x ∷ calling f xs ∷ s)) a = let h = t (tree x) (calling f xs ∷ s) a in let g = u (calling f xs) s h.1 in put_on ks new k (calling f (more xs x)) s g.1 (w (calling f xs) x g.0 h.0) e
element_step is js ks new i j k t u w e (pieces (tree x ∷ listing xs ∷ s)) a = let h = t (tree x) (listing xs ∷ s) a in let g = u (listing xs) s h.1 in put_on ks new k (listing (more xs x)) s g.1 (w (listing xs) x g.0 h.0) e

pub between_step : (o : _) (is js ks new : List Item) (i j k : Item) → Takes is js i → Takes js ks j → Joins j i k (λ l r. between l o r) → new ≡ ks ++ k ∷ [] → (ps : Pieces) → Are is ps → Are new (build ps (between_node o))
unfolding build
between_step o is js ks new i j k t u w e lost a = tt
between_step o is js ks new i j k t u w e (pieces []) a = tt
between_step o is js ks new i j k t u w e (pieces (calling g xs ∷ s)) a = tt
between_step o is js ks new i j k t u w e (pieces (listing xs ∷ s)) a = tt
between_step o is js ks new i j k t u w e (pieces (tree x ∷ [])) a = tt
between_step o is js ks new i j k t u w e (pieces (tree x ∷ tree f ∷ s)) a = let h = t (tree x) (tree f ∷ s) a in let g = u (tree f) s h.1 in put_on ks new k (tree (between f o x)) s g.1 (w f x g.0 h.0) e
between_step o is js ks new i j k t u w e (pieces (tree x ∷ calling f xs ∷ s)) a = tt
between_step o is js ks new i j k t u w e (pieces (tree x ∷ listing xs ∷ s)) a = tt

pub leaf_step : (a : Atom) (is new : List Item) (k : Item) → Is k (tree (leaf a)) → new ≡ is ++ k ∷ [] → (ps : Pieces) → Are is ps → Are new (build ps (leaf_node a))
unfolding build
leaf_step a is new k h e lost w = tt
leaf_step a is new k h e (pieces s) w = put_on is new k (tree (leaf a)) s w h e

pub list_step : (is new : List Item) (k : Item) → Is k (listing none) → new ≡ is ++ k ∷ [] → (ps : Pieces) → Are is ps → Are new (build ps list_node)
unfolding build
list_step is new k h e lost w = tt
list_step is new k h e (pieces s) w = put_on is new k (listing none) s w h e

pub paren_step : (is js new : List Item) (i k : Item) → Takes is js i → Wraps i k (λ t. paren t) → new ≡ js ++ k ∷ [] → (ps : Pieces) → Are is ps → Are new (build ps paren_node)
unfolding build
paren_step is js new i k t w e = wraps_step paren_node (λ t. paren t) is js new i k t w e (λ t s. refl) refl (λ g xs s. refl) (λ xs s. refl)

pub before_step : (o : Prefix) (is js new : List Item) (i k : Item) → Takes is js i → Wraps i k (λ t. before o t) → new ≡ js ++ k ∷ [] → (ps : Pieces) → Are is ps → Are new (build ps (before_node o))
unfolding build
before_step o is js new i k t w e = wraps_step (before_node o) (λ t. before o t) is js new i k t w e (λ t s. refl) refl (λ g xs s. refl) (λ xs s. refl)

pub after_step : (o : Postfix) (is js new : List Item) (i k : Item) → Takes is js i → Wraps i k (λ t. after t o) → new ≡ js ++ k ∷ [] → (ps : Pieces) → Are is ps → Are new (build ps (after_node o))
unfolding build
after_step o is js new i k t w e = wraps_step (after_node o) (λ t. after t o) is js new i k t w e (λ t s. refl) refl (λ g xs s. refl) (λ xs s. refl)

pub last_step : (is js new : List Item) (i k : Item) → Takes is js i → Wraps i k (λ t. last t) → new ≡ js ++ k ∷ [] → (ps : Pieces) → Are is ps → Are new (build ps last_node)
unfolding build
last_step is js new i k t w e = wraps_step last_node (λ t. last t) is js new i k t w e (λ t s. refl) refl (λ g xs s. refl) (λ xs s. refl)

-- the loop over the nodes
pub built_begin : (ns : List CodeNode) (is : List Item) → is ≡ [] → Are is (built (pieces []) (take 0 (map node_of ns)))
unfolding built
built_begin ns is e = e

pub built_next : (ns : List CodeNode) (i : ℕ) (d : CodeNode) (is js : List Item) → Are is (built (pieces []) (take i (map node_of ns))) → i < length ns → ((ps : Pieces) → Are is ps → Are js (build ps (node_of (get_or ns i d)))) → Are js (built (pieces []) (take (i + 1) (map node_of ns)))
unfolding built
built_next ns i d is js a l f =
    let e : take (i + 1) (map node_of ns) ≡ take i (map node_of ns) ++ node_of (get_or ns i d) ∷ [] = take-map node_of (i + 1) ns ∙ map_more node_of ns i d l ∙ ap (λ m. m ++ node_of (get_or ns i d) ∷ []) (sym (take-map node_of i ns)) in
    subst (Are js) (sym (ap (built (pieces [])) e ∙ built-append (pieces []) (take i (map node_of ns)) (node_of (get_or ns i d) ∷ []))) (f (built (pieces []) (take i (map node_of ns))) a)

-- and its end
pub built_tree : (ns : List CodeNode) (i : ℕ) (is js : List Item) (k : Item) → Are is (built (pieces []) (take i (map node_of ns))) → i ≤ length ns → length ns ≤ i → Takes is js k → (t : Tree) → map node_of ns ≡ polish t → Is k (tree t)
built_tree ns i is js k a g l w t e =
    let j : i ≡ length (map node_of ns) = rw (length-map ns node_of) (omega arith) in
    let b : take i (map node_of ns) ≡ polish t = ap (λ n. take n (map node_of ns)) j ∙ take-length (map node_of ns) ∙ e in
    (w (tree t) [] (subst (Are is) (ap (built (pieces [])) b ∙ built-polish t []) a)).0

-- what the last item says of the tree
pub whole_lowers : (k : Item) (g : Group) (t : Tree) (ws : List Stamped) (e : Stamped) → k ≡ code.Whole g → Is k (tree t) → ws ≡ g.items.items → ((es : List full.Tree) → ws ≡ unstamped_all es → e ≡ unstamped (whole g.form es)) → (depth t ≤ max_depth) × (e ≡ unstamped (lower t))
whole_lowers k g t ws e i h d f = let w : IsGroup g t = subst (λ j. Is j (tree t)) i h in (w.shallow, group_expr g t ws e w d f)

pub deep_deep : (k : Item) (t : Tree) → k ≡ code.Deep → Is k (tree t) → max_depth < depth t
deep_deep k t e h = subst (λ j. Is j (tree t)) e h

pub args_deep : (k : Item) (a : Args) (t : Tree) → k ≡ code.Args a → Is k (tree t) → max_depth < depth t
args_deep k a t e h = absurd (subst (λ j. Is j (tree t)) e h)
