-- What the calls of the builder make of the pieces that their items stand for.
use Rattle.std.proofs.Common.{ℕ, ◌+◌, ◌<◌, ◌≤◌, ◌≡◌, Bool, true, false, List, [], ◌∷◌, ◌++◌, min, max, refl, sym, ap, ap₂, ◌∙◌, subst, arith}
use Rattle.std.specs.Prelude.{None, codes, if◌then◌else◌}
use Rattle.wl_expr.specs.Stamped.{Stamped, unstamped}
use Rattle.wl_expr.specs.Tree as full
use Rattle.wl_syntax.specs.declared.operator.Infix.{Infix}
use Rattle.wl_syntax.specs.declared.operator.Infix.TheVariants.{Semi}
use Rattle.wl_syntax.specs.declared.build.Group.{Group}
use Rattle.wl_syntax.specs.declared.build.Args.{Args}
use Rattle.wl_syntax.specs.declared.build.Item.{Item}
use Rattle.wl_syntax.specs.declared.build.Item.TheVariants as code
use Rattle.wl_syntax.specs.declared.chain.Form.{Form}
use Rattle.wl_syntax.specs.declared.chain.Form.TheVariants.{Other}
use Rattle.wl_syntax.specs.declared.chain.Link.{Link}
use Rattle.wl_syntax.specs.Atoms.{named}
use Rattle.wl_syntax.specs.Chain.{form, link, linked, is_sameness, continues, nests}
use Rattle.wl_syntax.specs.Depth.{depth, depths, pairs, joined_depth, last_depth, max_depth}
use Rattle.wl_syntax.specs.Table.{infix_level}
use Rattle.wl_syntax.specs.Tree.{Tree, brace, call, part, last, between, none, more}
use Rattle.wl_syntax.specs.Built.{Piece, tree, calling, listing, IsGroup, IsCall, Is, IsNear, unstamped_all}
use Rattle.wl_syntax.specs.Lower.{items, elements, lower, reach, joined_reach}
use Rattle.wl_syntax.specs.Lowered.{IsOne, Wraps, Joins, with_element, AddsElement, EndsCall, EndsPart, JoinsGroups, Begins, AddsTo, joined_pairs}
use Rattle.wl_syntax.proofs.Building.{push_unstamped}
use Rattle.wl_syntax.proofs.Depths.{grows_left, grows_right, depth_pairs, reach_near}

capped : (p d : ℕ) → p ≡ d → d ≤ max_depth → d ≡ min p (max_depth + 1)
capped p d e l = omega arith

pub is_one : (k : Item) (f : Form) (v : Stamped) (n : ℕ) (u : Tree) → IsOne k f v n → f ≡ form u → reach u ≡ None → v ∷ [] ≡ unstamped_all (items u) → n ≡ depth u → pairs u ≡ depth u → depth u ≤ max_depth → Is k (tree u)
is_one (code.Whole g) f v n u h e r i d p l = record {
  has_form = h.has_form ∙ e;
  has_reach = h.has_reach ∙ sym r;
  has_items = h.has_items ∙ i;
  has_depth = h.has_depth ∙ d;
  has_pairs = h.has_pairs ∙ d ∙ capped (pairs u) (depth u) p l;
  shallow = l;
}
is_one (code.Args a) f v n u h e r i d p l = absurd h
is_one code.Deep f v n u h e r i d p l = absurd h

-- a tree that is too deep makes one that is
pub deep_wraps : (i : Item) (f : Tree → Tree) → ((g : Group) → i ≡ code.Whole g → ⊥) → ((t : Tree) → depth t ≤ depth (f t)) → Wraps i code.Deep f
deep_wraps (code.Whole g) f n m t h = absurd (n g refl)
deep_wraps (code.Args a) f n m t h = absurd h
deep_wraps code.Deep f n m t h = let l = m t in omega arith

-- and one at the limit makes one past it
pub limit_wraps : (i : Item) (g : Group) (f : Tree → Tree) → i ≡ code.Whole g → max_depth ≤ g.depth → ((t : Tree) → 1 + depth t ≤ depth (f t)) → Wraps i code.Deep f
limit_wraps i g f e l m t h =
    let w : IsGroup g t = subst (λ j. Is j (tree t)) e h in let d = w.has_depth in let r = m t in omega arith

pub one_wraps : (i k : Item) (g : Group) (f : Tree → Tree) (o : Form) (u : Stamped) (n : ℕ) → i ≡ code.Whole g → IsOne k o u n → (n ≡ g.depth + 1) × (g.depth < max_depth) → ((t : Tree) → IsGroup g t → u ∷ [] ≡ unstamped_all (items (f t)))
    → ((t : Tree) → o ≡ form (f t)) → ((t : Tree) → reach (f t) ≡ None) → ((t : Tree) → depth (f t) ≡ 1 + depth t) → ((t : Tree) → pairs (f t) ≡ depth (f t)) → Wraps i k f
one_wraps i k g f o u n e h d m a r b c t w =
    let v : IsGroup g t = subst (λ j. Is j (tree t)) e w in
    let x = v.has_depth in let y = b t in
    is_one k o u n (f t) h (a t) (r t) (m t v) (omega arith) (c t) (omega arith)

-- parentheses, prefix and postfix operators
pub depth_more : (t : Tree) → depth t ≤ 1 + depth t
depth_more t = omega arith

pub still_deep : (t : Tree) → 1 + depth t ≤ 1 + depth t
still_deep t = omega arith

-- a last `;`
last_deeper : (k : Link) (d : ℕ) → d ≤ last_depth k d
last_deeper k d = go (continues k)
  where
    go : (b : Bool) → d ≤ (if b then d else (1 + d))
    go true = omega arith
    go false = omega arith

pub last_wraps : (i : Item) → ((g : Group) → i ≡ code.Whole g → ⊥) → Wraps i code.Deep (λ t. last t)
last_wraps i n = deep_wraps i (λ t. last t) n (λ t. last_deeper (link Semi (form t)) (depth t))

pub last_limit : (i : Item) (g : Group) (k : Link) → i ≡ code.Whole g → k ≡ link Semi g.form → max_depth < last_depth k g.depth → Wraps i code.Deep (λ t. last t)
last_limit i g k e q l t h =
    let w : IsGroup g t = subst (λ j. Is j (tree t)) e h in
    subst (λ n. max_depth < n) (ap₂ last_depth (q ∙ ap (link Semi) w.has_form) w.has_depth) l

pub last_one : (i j : Item) (g : Group) (k : Link) (u : Stamped) (n : ℕ) → i ≡ code.Whole g → IsOne j Other u n → k ≡ link Semi g.form → n ≡ last_depth k g.depth → (g.depth ≤ max_depth → n ≤ max_depth) → ((t : Tree) → IsGroup g t → u ∷ [] ≡ unstamped_all (items (last t))) → Wraps i j (λ t. last t)
last_one i j g k u n e h q d l m t w =
    let v : IsGroup g t = subst (λ j. Is j (tree t)) e w in
    let x : n ≡ last_depth (link Semi (form t)) (depth t) = d ∙ ap₂ last_depth (q ∙ ap (link Semi) v.has_form) v.has_depth in
    let y = v.has_depth in let z = v.shallow in is_one j Other u n (last t) h refl refl (m t v) x refl (subst (λ m. m ≤ max_depth) x (l (omega arith)))

-- an operator between two trees
pub left_deep : (i j : Item) (o : Infix) → ((g : Group) → i ≡ code.Whole g → ⊥) → Joins i j code.Deep (λ l r. between l o r)
left_deep (code.Whole g) j o n l r h w = absurd (n g refl)
left_deep (code.Args a) j o n l r h w = absurd h
left_deep code.Deep j o n l r h w = let g = grows_left (link o (form l)) (depth l) (pairs l) (depth r) (depth_pairs l) in omega arith

pub right_deep : (i j : Item) (o : Infix) → ((g : Group) → j ≡ code.Whole g → ⊥) → Joins i j code.Deep (λ l r. between l o r)
right_deep i (code.Whole g) o n l r h w = absurd (n g refl)
right_deep i (code.Args a) o n l r h w = absurd w
right_deep i code.Deep o n l r h w = let g = grows_right (link o (form l)) (depth l) (pairs l) (depth r) in omega arith

-- groups of both sides, in place of their items
pub groups_join : (i j k : Item) (g h : Group) (o : Infix) → i ≡ code.Whole g → j ≡ code.Whole h → JoinsGroups g h k o → Joins i j k (λ l r. between l o r)
groups_join i j k g h o e f w l r x y = w l r (subst (λ m. Is m (tree l)) e x) (subst (λ m. Is m (tree r)) f y)

-- the depth that the code computes, from pairs that are capped
capped_depth : (k : Link) (l p r : ℕ) → (max_depth < joined_depth k l (min p (max_depth + 1)) r → max_depth < joined_depth k l p r) × (joined_depth k l (min p (max_depth + 1)) r ≤ max_depth → joined_depth k l (min p (max_depth + 1)) r ≡ joined_depth k l p r)
capped_depth k l p r = go (continues k) (nests k)
  where
    go : (a b : Bool) → (max_depth < (if a then max l (1 + r) else (if b then (1 + max (min p (max_depth + 1)) r) else (1 + max l r))) → max_depth < (if a then max l (1 + r) else (if b then (1 + max p r) else (1 + max l r)))) × ((if a then max l (1 + r) else (if b then (1 + max (min p (max_depth + 1)) r) else (1 + max l r))) ≤ max_depth → (if a then max l (1 + r) else (if b then (1 + max (min p (max_depth + 1)) r) else (1 + max l r))) ≡ (if a then max l (1 + r) else (if b then (1 + max p r) else (1 + max l r))))
    go true b = (λ x. x, λ x. refl)
    go false true = (λ x. omega arith, λ x. omega arith)
    go false false = (λ x. x, λ x. refl)

same_depth : (k : Link) (a b p q c d : ℕ) → a ≡ b → p ≡ q → c ≡ d → joined_depth k a p c ≡ joined_depth k b q d
same_depth k a b p q c d e f g = ap₂ (λ x y. joined_depth k x p y) e g ∙ ap (λ x. joined_depth k b x d) f

pub join_shallow : (g h : Group) (k : Link) (o : Infix) (n : ℕ) (l r : Tree) → IsGroup g l → IsGroup h r → k ≡ link o g.form → n ≡ joined_depth k g.depth g.pairs h.depth → (g.depth ≤ max_depth → n ≤ max_depth) → depth (between l o r) ≤ max_depth
join_shallow g h k o n l r x y q d m =
    let e : k ≡ link o (form l) = q ∙ ap (link o) x.has_form in
    let s = x.shallow in let i = x.has_depth in
    let a : n ≡ joined_depth k (depth l) (min (pairs l) (max_depth + 1)) (depth r) = d ∙ same_depth k g.depth (depth l) g.pairs (min (pairs l) (max_depth + 1)) h.depth (depth r) x.has_depth x.has_pairs y.has_depth in
    let b : n ≤ max_depth = m (omega arith) in
    let c = (capped_depth k (depth l) (pairs l) (depth r)).1 (subst (λ j. j ≤ max_depth) a b) in
    subst (λ j. joined_depth j (depth l) (pairs l) (depth r) ≤ max_depth) e (subst (λ j. j ≤ max_depth) (a ∙ c) b)

pub join_limit : (g h : Group) (k : Link) (o : Infix) → k ≡ link o g.form → max_depth < joined_depth k g.depth g.pairs h.depth → JoinsGroups g h code.Deep o
join_limit g h k o q z l r x y =
    let e : k ≡ link o (form l) = q ∙ ap (link o) x.has_form in
    let a = subst (λ n. max_depth < n) (same_depth k g.depth (depth l) g.pairs (min (pairs l) (max_depth + 1)) h.depth (depth r) x.has_depth x.has_pairs y.has_depth) z in
    subst (λ m. max_depth < joined_depth m (depth l) (pairs l) (depth r)) e ((capped_depth k (depth l) (pairs l) (depth r)).0 a)

capped_pairs : (same : Bool) (p r d c : ℕ) → d ≡ c → d ≤ max_depth → joined_pairs same (min p (max_depth + 1)) r d ≡ min (if same then (1 + max p r) else c) (max_depth + 1)
capped_pairs true p r d c e l = omega arith
capped_pairs false p r d c e l = omega arith

pub join_groups : (g h n : Group) (k : Link) (o : Infix) → k ≡ link o g.form → n.form ≡ linked o k → n.depth ≡ joined_depth k g.depth g.pairs h.depth → (g.depth ≤ max_depth → n.depth ≤ max_depth) → n.pairs ≡ joined_pairs (is_sameness (infix_level o)) g.pairs h.depth n.depth → (IsNear g.reach → n.reach ≡ joined_reach o k g.reach)
    → ((l r : Tree) → IsGroup g l → IsGroup h r → n.items.items ≡ unstamped_all (items (between l o r))) → JoinsGroups g h (code.Whole n) o
join_groups g h n k o q f d w p m i l r x y =
    let xd = x.has_depth in let xs = x.shallow in let z : n.depth ≤ max_depth = w (omega arith) in
    let e : k ≡ link o (form l) = q ∙ ap (link o) x.has_form in
    let a : n.depth ≡ joined_depth k (depth l) (min (pairs l) (max_depth + 1)) (depth r) = d ∙ same_depth k g.depth (depth l) g.pairs (min (pairs l) (max_depth + 1)) h.depth (depth r) x.has_depth x.has_pairs y.has_depth in
    let b : n.depth ≡ joined_depth k (depth l) (pairs l) (depth r) = a ∙ (capped_depth k (depth l) (pairs l) (depth r)).1 (subst (λ m. m ≤ max_depth) a z) in
    let c : n.depth ≡ depth (between l o r) = b ∙ ap (λ m. joined_depth m (depth l) (pairs l) (depth r)) e in
    record {
      has_form = f ∙ ap (linked o) e;
      has_reach = m (reach_near g.reach l x.has_reach x.shallow) ∙ ap₂ (joined_reach o) e x.has_reach;
      has_items = i l r x y;
      has_depth = c;
      has_pairs = p ∙ ap₂ (λ u v. joined_pairs (is_sameness (infix_level o)) u v n.depth) x.has_pairs y.has_depth ∙ capped_pairs (is_sameness (infix_level o)) (pairs l) (depth r) n.depth (depth (between l o r)) c z;
      shallow = subst (λ m. m ≤ max_depth) c z;
    }

-- elements and calls
deep_piece : (p : Piece) (x : Tree) → Is code.Deep p → Is code.Deep (with_element p x)
deep_piece (tree f) x h = omega arith
deep_piece (calling f xs) x h = omega arith
deep_piece (listing xs) x h = omega arith

deep_element : (p : Piece) (x : Tree) → max_depth < depth x → Is code.Deep (with_element p x)
deep_element (tree f) x h = omega arith
deep_element (calling f xs) x h = omega arith
deep_element (listing xs) x h = omega arith

pub top_deep : (i j : Item) → ((g : Group) → j ≡ code.Whole g → ⊥) → AddsElement i j code.Deep
top_deep i (code.Whole g) n p x h w = absurd (n g refl)
top_deep i (code.Args a) n p x h w = absurd w
top_deep i code.Deep n p x h w = deep_element p x w

pub begins_element : (i j k : Item) (g h : Group) → i ≡ code.Whole g → j ≡ code.Whole h → Begins g h k → AddsElement i j k
begins_element i j k g h e f w (tree t) x u v = w t x (subst (λ m. Is m (tree t)) e u) (subst (λ m. Is m (tree x)) f v)
begins_element i j k g h e f w (calling t xs) x u v = let y : Is (code.Whole g) (calling t xs) = subst (λ m. Is m (calling t xs)) e u in absurd y
begins_element i j k g h e f w (listing xs) x u v = let y : Is (code.Whole g) (listing xs) = subst (λ m. Is m (listing xs)) e u in absurd y

pub adds_element : (i j k : Item) (a : Args) (h : Group) → i ≡ code.Args a → j ≡ code.Whole h → AddsTo a h k → AddsElement i j k
adds_element i j k a h e f w p x u v = w p x (subst (λ m. Is m p) e u) (subst (λ m. Is m (tree x)) f v)

pub below_deep : (i j : Item) → i ≡ code.Deep → AddsElement i j code.Deep
below_deep i j e p x h w = deep_piece p x (subst (λ k. Is k p) e h)

pub begins : (g h : Group) (a : Args) (v : Stamped) → a.depth ≡ max g.depth h.depth → ((t : Tree) → IsGroup g t → a.head ≡ unstamped (lower t)) → a.elements.items ≡ v ∷ [] → ((x : Tree) → IsGroup h x → v ≡ unstamped (lower x)) → Begins g h (code.Args a)
begins g h a v d e f i t x y z =
    let p = y.has_depth in let q = z.has_depth in let r = y.shallow in let s = z.shallow in
    record { has_head = e t y; has_elements = f ∙ ap (λ w. w ∷ []) (i x z); has_depth = omega arith; shallow = omega arith }

pub adds : (b a : Args) (h : Group) (v : Stamped) → a.depth ≡ max b.depth h.depth → a.head ≡ b.head → a.elements.items ≡ b.elements.items ++ v ∷ [] → ((x : Tree) → IsGroup h x → v ≡ unstamped (lower x)) → AddsTo b h (code.Args a)
adds b a h v d e f i (tree t) x y z = absurd y
adds b a h v d e f i (calling t xs) x y z =
    let p = y.has_depth in let q = z.has_depth in let r = y.shallow in let s = z.shallow in
    record { has_head = e ∙ y.has_head; has_elements = f ∙ push_unstamped b.elements.items v (elements xs) (lower x) y.has_elements (i x z); has_depth = omega arith; shallow = omega arith }
adds b a h v d e f i (listing xs) x y z =
    let p = y.has_depth in let q = z.has_depth in let r = y.shallow in let s = z.shallow in
    record { has_head = e ∙ y.has_head; has_elements = f ∙ push_unstamped b.elements.items v (elements xs) (lower x) y.has_elements (i x z); has_depth = omega arith; shallow = omega arith }

pub call_deep : (i : Item) → i ≡ code.Deep → EndsCall i code.Deep
call_deep i e (tree f) h = let w : max_depth < depth f = subst (λ k. Is k (tree f)) e h in omega arith
call_deep i e (calling f xs) h = let w : max_depth < max (depth f) (depths xs) = subst (λ k. Is k (calling f xs)) e h in omega arith
call_deep i e (listing xs) h = let w : max_depth < depths xs = subst (λ k. Is k (listing xs)) e h in omega arith

pub call_limit : (i : Item) (g : Group) → i ≡ code.Whole g → max_depth ≤ g.depth → EndsCall i code.Deep
call_limit i g e l (tree f) h = let w : IsGroup g f = subst (λ k. Is k (tree f)) e h in let d = w.has_depth in omega arith
call_limit i g e l (calling f xs) h = let w : Is (code.Whole g) (calling f xs) = subst (λ k. Is k (calling f xs)) e h in absurd w
call_limit i g e l (listing xs) h = let w : Is (code.Whole g) (listing xs) = subst (λ k. Is k (listing xs)) e h in absurd w

pub call_one : (i k : Item) (g : Group) (u : Stamped) (n : ℕ) → i ≡ code.Whole g → IsOne k Other u n → (n ≡ g.depth + 1) × (g.depth < max_depth) → ((f : Tree) → IsGroup g f → u ∷ [] ≡ unstamped_all (items (call f none))) → EndsCall i k
call_one i k g u n e o l m (tree f) h = let w : IsGroup g f = subst (λ k. Is k (tree f)) e h in let d = w.has_depth in is_one k Other u n (call f none) o refl refl (m f w) (omega arith) refl (omega arith)
call_one i k g u n e o l m (calling f xs) h = let w : Is (code.Whole g) (calling f xs) = subst (λ k. Is k (calling f xs)) e h in absurd w
call_one i k g u n e o l m (listing xs) h = let w : Is (code.Whole g) (listing xs) = subst (λ k. Is k (listing xs)) e h in absurd w

pub args_limit : (i : Item) (a : Args) → i ≡ code.Args a → max_depth ≤ a.depth → EndsCall i code.Deep
args_limit i a e l (tree f) h = let w : Is (code.Args a) (tree f) = subst (λ k. Is k (tree f)) e h in absurd w
args_limit i a e l (calling f xs) h = let w : IsCall a (lower f) (elements xs) (max (depth f) (depths xs)) = subst (λ k. Is k (calling f xs)) e h in let d = w.has_depth in omega arith
args_limit i a e l (listing xs) h = let w : IsCall a (full.symbol (codes "List")) (elements xs) (depths xs) = subst (λ k. Is k (listing xs)) e h in let d = w.has_depth in omega arith

-- what a node of the head and the elements is
abbrev pub EndsAs : Args → Stamped → Type 0
EndsAs a u = (h : full.Tree) (es : List full.Tree) → a.head ≡ unstamped h → a.elements.items ≡ unstamped_all es → u ≡ unstamped (full.node h (full.from_list es))

pub args_one : (i k : Item) (a : Args) (u : Stamped) (n : ℕ) → i ≡ code.Args a → IsOne k Other u n → (n ≡ a.depth + 1) × (a.depth < max_depth) → EndsAs a u → EndsCall i k
args_one i k a u n e o l m (tree f) h = let w : Is (code.Args a) (tree f) = subst (λ k. Is k (tree f)) e h in absurd w
args_one i k a u n e o l m (calling f xs) h =
    let w : IsCall a (lower f) (elements xs) (max (depth f) (depths xs)) = subst (λ k. Is k (calling f xs)) e h in let d = w.has_depth in
    is_one k Other u n (call f xs) o refl refl (ap (λ v. v ∷ []) (m (lower f) (elements xs) w.has_head w.has_elements)) (omega arith) refl (omega arith)
args_one i k a u n e o l m (listing xs) h =
    let w : IsCall a (full.symbol (codes "List")) (elements xs) (depths xs) = subst (λ k. Is k (listing xs)) e h in let d = w.has_depth in
    is_one k Other u n (brace xs) o refl refl (ap (λ v. v ∷ []) (m (full.symbol (codes "List")) (elements xs) w.has_head w.has_elements)) (omega arith) refl (omega arith)

pub part_deep : (i : Item) → ((a : Args) → i ≡ code.Args a → ⊥) → EndsPart i code.Deep
part_deep (code.Args a) n f xs t h = absurd (n a refl)
part_deep (code.Whole g) n f xs t h = absurd h
part_deep code.Deep n f xs t h = omega arith

pub part_limit : (i : Item) (a : Args) → i ≡ code.Args a → max_depth ≤ a.depth → EndsPart i code.Deep
part_limit i a e l f xs t h = let w : IsCall a (lower f) (elements (more xs t)) (max (depth f) (depths (more xs t))) = subst (λ k. Is k (calling f (more xs t))) e h in let d = w.has_depth in omega arith

pub part_one : (i k : Item) (a : Args) (u : Stamped) (n : ℕ) → i ≡ code.Args a → IsOne k Other u n → (n ≡ a.depth + 1) × (a.depth < max_depth)
    → ((h : full.Tree) (es : List full.Tree) → a.head ≡ unstamped h → a.elements.items ≡ unstamped_all es → u ≡ unstamped (named (codes "Part") (h ∷ es))) → EndsPart i k
part_one i k a u n e o l m f xs t h =
    let w : IsCall a (lower f) (elements (more xs t)) (max (depth f) (depths (more xs t))) = subst (λ k. Is k (calling f (more xs t))) e h in let d = w.has_depth in
    is_one k Other u n (part f xs t) o refl refl (ap (λ v. v ∷ []) (m (lower f) (elements (more xs t)) w.has_head w.has_elements)) (omega arith) refl (omega arith)
