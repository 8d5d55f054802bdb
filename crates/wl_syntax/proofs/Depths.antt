-- Depths of pairs and of their sides, and how far the number lies that negation turns.
use Rattle.std.proofs.Common.{ℕ, ◌+◌, ◌<◌, ◌≤◌, ◌≡◌, Bool, true, false, max, sym, subst, arith}
use Rattle.std.specs.Prelude.{Option, Some, None, if◌then◌else◌}
use Rattle.std.specs.Str.{bytes_eq}
use Rattle.wl_syntax.specs.declared.operator.Infix.{Infix}
use Rattle.wl_syntax.specs.declared.operator.Infix.TheVariants.{Divide, Times, Beside, Semi}
use Rattle.wl_syntax.specs.declared.chain.Form.{Form}
use Rattle.wl_syntax.specs.declared.chain.Form.TheVariants.{Other, Name, Chain, Inequality, Nested, Defines}
use Rattle.wl_syntax.specs.declared.chain.Link.{Link}
use Rattle.wl_syntax.specs.declared.chain.Link.TheVariants.{Starts, GoesOn}
use Rattle.wl_syntax.specs.Built.{IsNear}
use Rattle.wl_syntax.specs.Chain.{is_sameness, form, link, continues, nests}
use Rattle.wl_syntax.specs.Depth.{depth, pairs, joined_depth, last_depth, max_depth}
use Rattle.wl_syntax.specs.Lower.{reach, reach_in, joined_reach, further}
use Rattle.wl_syntax.specs.Table.{infix_level, infix_name}
use Rattle.wl_syntax.specs.Token.{number, name, pattern, slot, output, text}
use Rattle.wl_syntax.specs.Tree.{Tree, leaf, paren, brace, call, part, before, after, last, between}

pub grows_left : (k : Link) (l p r : ℕ) → l ≤ p → l ≤ joined_depth k l p r
grows_left k l p r h = go (continues k) (nests k)
  where
    go : (a b : Bool) → l ≤ (if a then max l (1 + r) else (if b then (1 + max p r) else (1 + max l r)))
    go true b = omega arith
    go false true = omega arith
    go false false = omega arith

pub grows_right : (k : Link) (l p r : ℕ) → r ≤ joined_depth k l p r
grows_right k l p r = go (continues k) (nests k)
  where
    go : (a b : Bool) → r ≤ (if a then max l (1 + r) else (if b then (1 + max p r) else (1 + max l r)))
    go true b = omega arith
    go false true = omega arith
    go false false = omega arith

-- nested pairs are no less deep than a chain
pairs_cover : (k : Link) (same : Bool) (l p r : ℕ) → l ≤ p → joined_depth k l p r ≤ (if same then (1 + max p r) else joined_depth k l p r)
pairs_cover k same l p r h = go same (continues k) (nests k)
  where
    go : (s a b : Bool) → (if a then max l (1 + r) else (if b then (1 + max p r) else (1 + max l r))) ≤ (if s then (1 + max p r) else (if a then max l (1 + r) else (if b then (1 + max p r) else (1 + max l r))))
    go true true b = omega arith
    go true false true = omega arith
    go true false false = omega arith
    go false true b = omega arith
    go false false true = omega arith
    go false false false = omega arith

pub depth_pairs : (t : Tree) → depth t ≤ pairs t
depth_pairs (between l o r) = pairs_cover (link o (form l)) (is_sameness (infix_level o)) (depth l) (pairs l) (depth r) (depth_pairs l)
depth_pairs (leaf a) = omega arith
depth_pairs (paren t) = omega arith
depth_pairs (brace xs) = omega arith
depth_pairs (call f xs) = omega arith
depth_pairs (part f xs t) = omega arith
depth_pairs (before o t) = omega arith
depth_pairs (after t o) = omega arith
depth_pairs (last t) = last_same (link Semi (form t)) (depth t)
  where
    last_same : (k : Link) (d : ℕ) → last_depth k d ≤ last_depth k d
    last_same k d = let n = last_depth k d in omega arith

-- A number is reached by fewer steps than the tree is deep.
abbrev Reached : Option ℕ → ℕ → Type 0
Reached None d = Unit {0}
Reached (Some n) d = n < d

reached_further : (n : Option ℕ) (d e : ℕ) → Reached n d → d < e → Reached (further n) e
reached_further None d e h l = tt
reached_further (Some n) d e h l = omega arith

reached_more : (n : Option ℕ) (d e : ℕ) → Reached n d → d ≤ e → Reached n e
reached_more None d e h l = tt
reached_more (Some n) d e h l = omega arith

-- a product that begins or goes on
product : (b : Bool) (n : Option ℕ) (l p r : ℕ) → Reached n l → Reached (reach_in (if b then GoesOn else Starts) n) (joined_depth (if b then GoesOn else Starts) l p r)
product true n l p r h = reached_more n l (max l (1 + r)) h (omega arith)
product false n l p r h = reached_further n l (1 + max l r) h (omega arith)

times : (f : Form) (n : Option ℕ) (l p r : ℕ) → Reached n l → Reached (reach_in (link Times f) n) (joined_depth (link Times f) l p r)
unfolding infix_level
times (Chain q) n l p r h = product (bytes_eq (infix_name q) (infix_name Times)) n l p r h
times Other n l p r h = product false n l p r h
times Name n l p r h = product false n l p r h
times Inequality n l p r h = product false n l p r h
times Nested n l p r h = product false n l p r h
times (Defines d) n l p r h = product false n l p r h

beside : (f : Form) (n : Option ℕ) (l p r : ℕ) → Reached n l → Reached (reach_in (link Beside f) n) (joined_depth (link Beside f) l p r)
unfolding infix_level
beside (Chain q) n l p r h = product (bytes_eq (infix_name q) (infix_name Beside)) n l p r h
beside Other n l p r h = product false n l p r h
beside Name n l p r h = product false n l p r h
beside Inequality n l p r h = product false n l p r h
beside Nested n l p r h = product false n l p r h
beside (Defines d) n l p r h = product false n l p r h

pair : (o : Infix) (f : Form) (n : Option ℕ) (l p r : ℕ) → Reached n l → Reached (joined_reach o (link o f) n) (joined_depth (link o f) l p r)
unfolding infix_level
pair Divide f n l p r h = reached_further n l (1 + max l r) h (omega arith)
pair Times f n l p r h = times f n l p r h
pair Beside f n l p r h = beside f n l p r h
pair _ f n l p r h = tt

reached : (t : Tree) → Reached (reach t) (depth t)
reached (leaf (number s)) = omega arith
reached (leaf (name s)) = tt
reached (leaf (pattern s)) = tt
reached (leaf (slot s)) = tt
reached (leaf (output s)) = tt
reached (leaf (text s)) = tt
reached (between l o r) = pair o (form l) (reach l) (depth l) (pairs l) (depth r) (reached l)
reached _ = tt

within : (n : Option ℕ) (d : ℕ) → Reached n d → d ≤ max_depth → IsNear n
within None d h l = tt
within (Some n) d h l = omega arith

pub reach_near : (n : Option ℕ) (t : Tree) → n ≡ reach t → depth t ≤ max_depth → IsNear n
reach_near n t e l = subst IsNear (sym e) (within (reach t) (depth t) (reached t) l)
