-- The expression of a right tree weighs no more than its tokens cost.
use Rattle.std.proofs.Common.{ℕ, ◌+◌, ◌≤◌, ◌≡◌, Bool, true, false, List, [], ◌∷◌, ◌++◌, length, refl, sym, ap, ◌∙◌, arith}
use Rattle.std.specs.Prelude.{Option, Some, None, codes, if◌then◌else◌}
use Rattle.wl_expr.specs.Tree as full
use Rattle.wl_expr.specs.Tree.{weight, weights, from_list, to_list}
use Rattle.wl_syntax.specs.declared.operator.Infix.{Infix}
use Rattle.wl_syntax.specs.declared.operator.Infix.TheVariants.{Message, PatternTest, Of, Map, Apply, MapApply, StringJoin, Power, Divide, Times, Beside, Plus, Minus, Equal, Unequal, Less, LessEqual, Greater, GreaterEqual, SameQ, UnsameQ, And, Or, Alternatives, Colon, StringExpression, Condition, Rule, RuleDelayed, ReplaceAll, ReplaceRepeated, AddTo, SubtractFrom, TimesBy, DivideBy, Into, Set, SetDelayed, UpSet, UpSetDelayed, Tag, Semi}
use Rattle.wl_syntax.specs.declared.operator.Prefix.{Prefix}
use Rattle.wl_syntax.specs.declared.operator.Prefix.TheVariants.{PreIncrement, PreDecrement, Negate, Not}
use Rattle.wl_syntax.specs.declared.operator.Postfix.{Postfix}
use Rattle.wl_syntax.specs.declared.operator.Postfix.TheVariants.{Increment, Decrement, Factorial, Repeated, RepeatedNull, Function, Unset}
use Rattle.wl_syntax.specs.declared.operator.Sign.TheVariants as sign
use Rattle.wl_syntax.specs.declared.chain.Form.{Form}
use Rattle.wl_syntax.specs.declared.chain.Form.TheVariants.{Other, Name, Chain, Inequality, Nested, Defines}
use Rattle.wl_syntax.specs.declared.chain.Tagged.{Tagged}
use Rattle.wl_syntax.specs.declared.chain.Tagged.TheVariants.{TagSet, TagSetDelayed, TagUnset}
use Rattle.wl_syntax.specs.declared.chain.Link.{Link}
use Rattle.wl_syntax.specs.declared.chain.Link.TheVariants.{Alone, Starts, GoesOn, Mixes, MixesOn, Nests, NestsOn}
use Rattle.wl_syntax.specs.Atoms.{named}
use Rattle.wl_syntax.specs.Chain.{is_comparison, form, link, linked, alone}
use Rattle.wl_syntax.specs.Lower.{whole, items, elements, lower, reach, negative, minus_one, is_product, prefixed, operand_of, as_text, args_of, tag_of, colon_of, pair_of, before_each, nested_on, joined, statements}
use Rattle.wl_syntax.specs.Small.{sign_bytes, cost, costs}
use Rattle.wl_syntax.specs.Table.{infix_level, infix_name, prefix_level, postfix_level, postfix_name, infix_sign, prefix_sign, postfix_sign, leaves, leans_right}
use Rattle.wl_syntax.specs.Token.{Atom, number, name, pattern, slot, output, text, Token}
use Rattle.wl_syntax.specs.Token as token
use Rattle.wl_syntax.specs.Tree.{Tree, leaf, paren, brace, call, part, before, after, last, between, Elems, none, more, sign_tokens, comma_after, reads, read_elems, left_edge, ends_last, TakesLeft, TakesRight, Right, RightElems}
use Rattle.wl_syntax.proofs.Limits.{negated-weight}
use Rattle.wl_syntax.proofs.Links.{LinkFits, link_fits}

abbrev pub weight_all : List full.Tree → ℕ
weight_all es = weights (from_list es)

weight_all-append : (es fs : List full.Tree) → weight_all (es ++ fs) ≡ weight_all es + weight_all fs
weight_all-append [] fs = omega arith
weight_all-append (e ∷ es) fs = let h = weight_all-append es fs in omega arith

-- what the head of an operator weighs, and what a chain has paid for those of its operators
abbrev fee : Infix → ℕ
fee o = 1 + length (infix_name o)

abbrev fees : List full.Tree → ℕ → ℕ
fees [] n = 0
fees (e ∷ es) n = n + fees es n

fees-append : (es : List full.Tree) (e : full.Tree) (n : ℕ) → fees (es ++ e ∷ []) n ≡ fees es n + n
fees-append [] e n = omega arith
fees-append (f ∷ es) e n = let h = fees-append es e n in omega arith

-- comparisons pay the head of an inequality
abbrev extra : Infix → ℕ
extra o = if is_comparison (infix_level o) then 11 else 0

abbrev pub due : Form → List full.Tree → ℕ
due (Chain o) [] = 0
due (Chain o) (e ∷ es) = fees es (fee o) + extra o
due Inequality es = 11
due _ es = 0

-- a chain has two operands or more, anything else an expression
abbrev pub Counted : Form → List full.Tree → Type 0
Counted (Chain o) (a ∷ b ∷ es) = Unit {0}
Counted (Chain o) _ = ⊥
Counted _ (a ∷ es) = Unit {0}
Counted _ [] = ⊥

pub record Light (f : Form) (es : List full.Tree) (spare n : ℕ) : Type 0 where
  pub counted : Counted f es
  pub light : weight_all es + due f es + spare ≤ n

whole_weight : (f : Form) (es : List full.Tree) → Counted f es → weight (whole f es) ≤ weight_all es + due f es
whole_weight (Chain o) [] h = absurd h
whole_weight (Chain o) (a ∷ []) h = absurd h
whole_weight (Chain o) (a ∷ b ∷ es) h = omega arith
whole_weight Inequality [] h = absurd h
whole_weight Inequality (a ∷ es) h = omega arith
whole_weight Other [] h = absurd h
whole_weight Other (a ∷ es) h = omega arith
whole_weight Name [] h = absurd h
whole_weight Name (a ∷ es) h = omega arith
whole_weight Nested [] h = absurd h
whole_weight Nested (a ∷ es) h = omega arith
whole_weight (Defines d) [] h = absurd h
whole_weight (Defines d) (a ∷ es) h = omega arith

-- a negative weighs at most `Times` and -1 more
negative_weight : (f : Form) (n : Option ℕ) (es : List full.Tree) → Counted f es → weight (negative f n es) ≤ 7 + (weight_all es + due f es)
negative_weight f (Some n) es h = let w = whole_weight f es h in let e = negated-weight n (whole f es) in omega arith
negative_weight f None es h = go (is_product f)
  where
    go : (b : Bool) → weight (if b then named (codes "Times") (minus_one ∷ es) else named (codes "Times") (minus_one ∷ whole f es ∷ [])) ≤ 7 + (weight_all es + due f es)
    go true = omega arith
    go false = let w = whole_weight f es h in omega arith

abbrev minus_fee : Infix → ℕ
minus_fee Minus = 7
minus_fee _ = 0

operand_weight : (o : Infix) (g : Form) (n : Option ℕ) (gs : List full.Tree) → Counted g gs → weight (operand_of o g n gs) ≤ minus_fee o + (weight_all gs + due g gs)
operand_weight Minus g n gs h = negative_weight g n gs h
operand_weight _ g n gs h = let w = whole_weight g gs h in omega arith

-- an operator's token, and what its right side has to spare, pay for its head
paid : (o : Infix) → fee o + extra o + minus_fee o ≤ 9 + costs (sign_tokens (infix_sign o))
unfolding infix_level infix_sign costs cost sign_bytes
paid Message = omega arith
paid PatternTest = omega arith
paid Of = omega arith
paid Map = omega arith
paid Apply = omega arith
paid MapApply = omega arith
paid StringJoin = omega arith
paid Power = omega arith
paid Divide = omega arith
paid Times = omega arith
paid Beside = omega arith
paid Plus = omega arith
paid Minus = omega arith
paid Equal = omega arith
paid Unequal = omega arith
paid Less = omega arith
paid LessEqual = omega arith
paid Greater = omega arith
paid GreaterEqual = omega arith
paid SameQ = omega arith
paid UnsameQ = omega arith
paid And = omega arith
paid Or = omega arith
paid Alternatives = omega arith
paid Colon = omega arith
paid StringExpression = omega arith
paid Condition = omega arith
paid Rule = omega arith
paid RuleDelayed = omega arith
paid ReplaceAll = omega arith
paid ReplaceRepeated = omega arith
paid AddTo = omega arith
paid SubtractFrom = omega arith
paid TimesBy = omega arith
paid DivideBy = omega arith
paid Into = omega arith
paid Set = omega arith
paid SetDelayed = omega arith
paid UpSet = omega arith
paid UpSetDelayed = omega arith
paid Tag = omega arith
paid Semi = omega arith

as_text-weight : (t : full.Tree) → weight (as_text t) ≡ weight t
as_text-weight (full.num f) = refl
as_text-weight (full.text s) = refl
as_text-weight (full.symbol s) = refl
as_text-weight (full.node h ts) = refl

args_weight : (t : full.Tree) → weight_all (args_of t) ≤ weight t
args_weight (full.num f) = omega arith
args_weight (full.text s) = omega arith
args_weight (full.symbol s) = omega arith
args_weight (full.node h ts) = let e = ap weights (full.from_list_to_list ts) in omega arith

tag_weight : (d : Tagged) (l r : full.Tree) → weight (tag_of d l r) ≤ 14 + (weight l + weight r)
tag_weight TagSet l r = let w = args_weight r in omega arith
tag_weight TagSetDelayed l r = let w = args_weight r in omega arith
tag_weight TagUnset l r = let w = args_weight r in omega arith

colon_weight : (f : Form) (l r : full.Tree) → weight (colon_of f l r) ≤ 9 + (weight l + weight r)
colon_weight Name l r = omega arith
colon_weight _ l r = omega arith

pair_weight : (o : Infix) (f g : Form) (l r : full.Tree) → weight (pair_of o f g l r) ≤ weight l + weight r + 9 + costs (sign_tokens (infix_sign o))
unfolding infix_level infix_sign costs cost sign_bytes
pair_weight Message f g l r = let e = as_text-weight r in omega arith
pair_weight Of f g l r = omega arith
pair_weight Into f g l r = omega arith
pair_weight Divide f g l r = omega arith
pair_weight Colon f g l r = let w = colon_weight f l r in omega arith
pair_weight Tag f (Defines d) l r = let w = tag_weight d l r in omega arith
pair_weight Tag f Other l r = omega arith
pair_weight Tag f Name l r = omega arith
pair_weight Tag f (Chain o) l r = omega arith
pair_weight Tag f Inequality l r = omega arith
pair_weight Tag f Nested l r = omega arith
pair_weight _ f g l r = omega arith

before_each-weight : (s : full.Tree) (es : List full.Tree) → weight_all (before_each s es) ≡ weight_all es + fees es (weight s)
before_each-weight s [] = refl
before_each-weight s (e ∷ es) = let h = before_each-weight s es in omega arith

nested_on-weight : (p : Infix) (e : full.Tree) (fs : List full.Tree) → weight (nested_on p e fs) ≡ weight e + weight_all fs + fees fs (fee p)
nested_on-weight p e [] = omega arith
nested_on-weight p e (f ∷ fs) = let h = nested_on-weight p (named (infix_name p) (e ∷ f ∷ [])) fs in omega arith

alone_free : (o : Infix) (e : full.Tree) → due (alone o) (e ∷ []) ≡ 0
alone_free Set e = refl
alone_free SetDelayed e = refl
alone_free _ e = refl

alone_counted : (o : Infix) (e : full.Tree) → Counted (alone o) (e ∷ [])
alone_counted Set e = tt
alone_counted SetDelayed e = tt
alone_counted _ e = tt

pushed_counted : (o : Infix) (a b : full.Tree) (es : List full.Tree) (e : full.Tree) → Counted (Chain o) ((a ∷ b ∷ es) ++ e ∷ [])
pushed_counted o a b es e = tt

-- the items of a pair, whose sides have paid for theirs
joined_light : (o : Infix) (k : Link) (f g : Form) (n : Option ℕ) (es gs : List full.Tree) → LinkFits k o f → Counted f es → Counted g gs
    → Light (linked o k) (joined o k f g es (whole f es) (whole g gs) (operand_of o g n gs)) 0 (weight_all es + due f es + (weight_all gs + due g gs) + 9 + costs (sign_tokens (infix_sign o)))
joined_light o Alone f g n es gs q a b =
    let l = whole_weight f es a in let r = whole_weight g gs b in
    let w = pair_weight o f g (whole f es) (whole g gs) in
    let z = alone_free o (pair_of o f g (whole f es) (whole g gs)) in
    record { counted = alone_counted o (pair_of o f g (whole f es) (whole g gs)); light = omega arith }
joined_light o Starts f g n es gs q a b =
    let l = whole_weight f es a in let r = operand_weight o g n gs b in let p = paid o in
    record { counted = tt; light = omega arith }
joined_light o GoesOn (Chain p) g n [] gs q a b = absurd a
joined_light o GoesOn (Chain p) g n (x ∷ []) gs q a b = absurd a
joined_light o GoesOn (Chain p) g n (x ∷ y ∷ es) gs q a b =
    let r = operand_weight o g n gs b in let m = paid o in
    let w = weight_all-append es (operand_of o g n gs ∷ []) in
    let c = fees-append es (operand_of o g n gs) (fee o) in
    let e : fee p ≡ fee o = ap (λ s. 1 + length s) q in
    let d : fees es (fee p) ≡ fees es (fee o) = ap (fees es) e in
    record { counted = tt; light = omega arith }
joined_light o (Mixes p) (Chain h) g n [] gs q a b = absurd a
joined_light o (Mixes p) (Chain h) g n (x ∷ es) gs q a b =
    let r = operand_weight o g n gs b in let m = paid o in
    let w = weight_all-append (before_each (full.symbol (infix_name p)) es) (full.symbol (infix_name o) ∷ operand_of o g n gs ∷ []) in
    let c = before_each-weight (full.symbol (infix_name p)) es in
    let i : extra h ≡ 11 = rw q.1 refl in
    let e : fee p ≡ fee h = ap fee q.0 in
    let d : fees es (fee p) ≡ fees es (fee h) = ap (fees es) e in
    record { counted = tt; light = omega arith }
joined_light o MixesOn Inequality g n [] gs q a b = absurd a
joined_light o MixesOn Inequality g n (x ∷ es) gs q a b =
    let r = operand_weight o g n gs b in let m = paid o in
    let w = weight_all-append es (full.symbol (infix_name o) ∷ operand_of o g n gs ∷ []) in
    record { counted = tt; light = omega arith }
joined_light o (Nests p) (Chain h) g n [] gs q a b = absurd a
joined_light o (Nests p) (Chain h) g n (x ∷ es) gs q a b =
    let r = operand_weight o g n gs b in let m = paid o in
    let w = nested_on-weight p x es in
    let e : fee p ≡ fee h = ap fee q.0 in
    let d : fees es (fee p) ≡ fees es (fee h) = ap (fees es) e in
    record { counted = tt; light = omega arith }
joined_light o NestsOn f g n es gs q a b =
    let l = whole_weight f es a in let r = operand_weight o g n gs b in let m = paid o in
    record { counted = tt; light = omega arith }
joined_light o GoesOn Other g n es gs q a b = absurd q
joined_light o GoesOn Name g n es gs q a b = absurd q
joined_light o GoesOn Inequality g n es gs q a b = absurd q
joined_light o GoesOn Nested g n es gs q a b = absurd q
joined_light o GoesOn (Defines d) g n es gs q a b = absurd q
joined_light o (Mixes p) Other g n es gs q a b = absurd q
joined_light o (Mixes p) Name g n es gs q a b = absurd q
joined_light o (Mixes p) Inequality g n es gs q a b = absurd q
joined_light o (Mixes p) Nested g n es gs q a b = absurd q
joined_light o (Mixes p) (Defines d) g n es gs q a b = absurd q
joined_light o MixesOn Other g n es gs q a b = absurd q
joined_light o MixesOn Name g n es gs q a b = absurd q
joined_light o MixesOn (Chain p) g n es gs q a b = absurd q
joined_light o MixesOn Nested g n es gs q a b = absurd q
joined_light o MixesOn (Defines d) g n es gs q a b = absurd q
joined_light o (Nests p) Other g n es gs q a b = absurd q
joined_light o (Nests p) Name g n es gs q a b = absurd q
joined_light o (Nests p) Inequality g n es gs q a b = absurd q
joined_light o (Nests p) Nested g n es gs q a b = absurd q
joined_light o (Nests p) (Defines d) g n es gs q a b = absurd q

-- and those of a last `;`
last_weight : (k : Link) (f : Form) (es : List full.Tree) → LinkFits k Semi f → Counted f es → weight (named (codes "CompoundExpression") (statements k es (whole f es) ++ full.symbol (codes "Null") ∷ [])) ≤ weight_all es + due f es + 24
last_weight GoesOn (Chain p) [] q a = absurd a
last_weight GoesOn (Chain p) (x ∷ []) q a = absurd a
last_weight GoesOn (Chain p) (x ∷ y ∷ es) q a =
    let w = weight_all-append es (full.symbol (codes "Null") ∷ []) in
    let e : fee p ≡ 19 = ap (λ s. 1 + length s) q in omega arith
last_weight GoesOn Other es q a = absurd q
last_weight GoesOn Name es q a = absurd q
last_weight GoesOn Inequality es q a = absurd q
last_weight GoesOn Nested es q a = absurd q
last_weight GoesOn (Defines d) es q a = absurd q
last_weight Alone f es q a = let w = whole_weight f es a in omega arith
last_weight Starts f es q a = let w = whole_weight f es a in omega arith
last_weight (Mixes p) f es q a = let w = whole_weight f es a in omega arith
last_weight MixesOn f es q a = let w = whole_weight f es a in omega arith
last_weight (Nests p) f es q a = let w = whole_weight f es a in omega arith
last_weight NestsOn f es q a = let w = whole_weight f es a in omega arith

-- What a tree has to spare for an operator beside it. A last `;` has spent it.
abbrev spare : Tree → ℕ
spare (last t) = 0
spare _ = 9

left_spare : (q : ℕ) (t : Tree) → TakesLeft q t → spare t ≡ 9
unfolding ends_last
left_spare q (last t) h = absurd (true_false h.1)
  where
    true_false : true ≡ false → ⊥
    true_false e = cc
left_spare q (leaf a) h = refl
left_spare q (paren t) h = refl
left_spare q (brace xs) h = refl
left_spare q (call f xs) h = refl
left_spare q (part f xs t) h = refl
left_spare q (before o t) h = refl
left_spare q (after t o) h = refl
left_spare q (between l o r) h = refl

right_spare : (p : ℕ) (t : Tree) → leaves p 30 ≡ false → TakesRight p t → spare t ≡ 9
unfolding left_edge
right_spare p (last t) e h = absurd (false_true (sym e ∙ h.0))
  where
    false_true : false ≡ true → ⊥
    false_true e = cc
right_spare p (leaf a) e h = refl
right_spare p (paren t) e h = refl
right_spare p (brace xs) e h = refl
right_spare p (call f xs) e h = refl
right_spare p (part f xs t) e h = refl
right_spare p (before o t) e h = refl
right_spare p (after t o) e h = refl
right_spare p (between l o r) e h = refl

infix_closed : (o : Infix) → leaves (infix_level o) 30 ≡ false
unfolding infix_level leaves leans_right
infix_closed Message = refl
infix_closed PatternTest = refl
infix_closed Of = refl
infix_closed Map = refl
infix_closed Apply = refl
infix_closed MapApply = refl
infix_closed StringJoin = refl
infix_closed Power = refl
infix_closed Divide = refl
infix_closed Times = refl
infix_closed Beside = refl
infix_closed Plus = refl
infix_closed Minus = refl
infix_closed Equal = refl
infix_closed Unequal = refl
infix_closed Less = refl
infix_closed LessEqual = refl
infix_closed Greater = refl
infix_closed GreaterEqual = refl
infix_closed SameQ = refl
infix_closed UnsameQ = refl
infix_closed And = refl
infix_closed Or = refl
infix_closed Alternatives = refl
infix_closed Colon = refl
infix_closed StringExpression = refl
infix_closed Condition = refl
infix_closed Rule = refl
infix_closed RuleDelayed = refl
infix_closed ReplaceAll = refl
infix_closed ReplaceRepeated = refl
infix_closed AddTo = refl
infix_closed SubtractFrom = refl
infix_closed TimesBy = refl
infix_closed DivideBy = refl
infix_closed Into = refl
infix_closed Set = refl
infix_closed SetDelayed = refl
infix_closed UpSet = refl
infix_closed UpSetDelayed = refl
infix_closed Tag = refl
infix_closed Semi = refl

prefix_closed : (o : Prefix) → leaves (prefix_level o) 30 ≡ false
unfolding prefix_level leaves leans_right
prefix_closed PreIncrement = refl
prefix_closed PreDecrement = refl
prefix_closed Negate = refl
prefix_closed Not = refl

pub costs-append : (ks ls : List Token) → costs (ks ++ ls) ≡ costs ks + costs ls
unfolding costs
costs-append [] ls = omega arith
costs-append (k ∷ ks) ls = let h = costs-append ks ls in omega arith

leaf_light : (a : Atom) → Light (form (leaf a)) (items (leaf a)) 9 (costs (token.atom a ∷ []))
unfolding costs cost
leaf_light (number s) = record { counted = tt; light = omega arith }
leaf_light (name s) = record { counted = tt; light = omega arith }
leaf_light (pattern s) = record { counted = tt; light = omega arith }
leaf_light (slot s) = record { counted = tt; light = omega arith }
leaf_light (output s) = record { counted = tt; light = omega arith }
leaf_light (text s) = record { counted = tt; light = omega arith }

prefix_weight : (o : Prefix) (f : Form) (n : Option ℕ) (es : List full.Tree) → Counted f es → weight (prefixed o f n es) ≤ cost (token.sign (prefix_sign o)) + (weight_all es + due f es)
unfolding cost sign_bytes prefix_sign
prefix_weight Negate f n es h = let w = negative_weight f n es h in omega arith
prefix_weight PreIncrement f n es h = let w = whole_weight f es h in omega arith
prefix_weight PreDecrement f n es h = let w = whole_weight f es h in omega arith
prefix_weight Not f n es h = let w = whole_weight f es h in omega arith

postfix_fee : (o : Postfix) → 1 + length (postfix_name o) ≤ cost (token.sign (postfix_sign o))
unfolding cost sign_bytes postfix_sign
postfix_fee Increment = omega arith
postfix_fee Decrement = omega arith
postfix_fee Factorial = omega arith
postfix_fee Repeated = omega arith
postfix_fee RepeatedNull = omega arith
postfix_fee Function = omega arith
postfix_fee Unset = omega arith

after_light : (t : Tree) (o : Postfix) (e : full.Tree) (n : ℕ) → weight e + 9 ≤ n → Light (form (after t o)) (e ∷ []) 9 n
after_light t Increment e n h = record { counted = tt; light = omega arith }
after_light t Decrement e n h = record { counted = tt; light = omega arith }
after_light t Factorial e n h = record { counted = tt; light = omega arith }
after_light t Repeated e n h = record { counted = tt; light = omega arith }
after_light t RepeatedNull e n h = record { counted = tt; light = omega arith }
after_light t Function e n h = record { counted = tt; light = omega arith }
after_light t Unset e n h = record { counted = tt; light = omega arith }

pub open_cost : (ks : List Token) → costs (token.open_round ∷ (ks ++ token.close_round ∷ [])) ≡ 30 + costs ks
unfolding costs cost
open_cost ks = let h = costs-append ks (token.close_round ∷ []) in omega arith

pub brace_cost : (ks : List Token) → costs (token.open_brace ∷ (ks ++ token.close_brace ∷ [])) ≡ 30 + costs ks
unfolding costs cost
brace_cost ks = let h = costs-append ks (token.close_brace ∷ []) in omega arith

pub call_cost : (fs ks : List Token) → costs (fs ++ token.open_square ∷ (ks ++ token.close_square ∷ [])) ≡ 30 + (costs fs + costs ks)
unfolding costs cost
call_cost fs ks =
    let h = costs-append ks (token.close_square ∷ []) in
    let g = costs-append fs (token.open_square ∷ (ks ++ token.close_square ∷ [])) in omega arith

pub part_cost : (fs ks cs ts : List Token) → 60 + (costs fs + costs ks + costs cs + costs ts) ≤ costs (fs ++ token.open_square ∷ token.open_square ∷ (ks ++ (cs ++ (ts ++ token.close_square ∷ token.close_square ∷ []))))
unfolding costs cost
part_cost fs ks cs ts =
    let a = costs-append ts (token.close_square ∷ token.close_square ∷ []) in
    let b = costs-append cs (ts ++ token.close_square ∷ token.close_square ∷ []) in
    let d = costs-append ks (cs ++ (ts ++ token.close_square ∷ token.close_square ∷ [])) in
    let e = costs-append fs (token.open_square ∷ token.open_square ∷ (ks ++ (cs ++ (ts ++ token.close_square ∷ token.close_square ∷ [])))) in omega arith

pub sign_cost : (k : Token) (ks : List Token) → costs (k ∷ ks) ≡ cost k + costs ks
unfolding costs
sign_cost k ks = refl

pub behind_cost : (ks : List Token) (k : Token) → costs (ks ++ k ∷ []) ≡ costs ks + cost k
unfolding costs
behind_cost ks k = let h = costs-append ks (k ∷ []) in omega arith

pub last_cost : (ks : List Token) → costs (ks ++ token.sign sign.Semicolon ∷ []) ≡ costs ks + 15
unfolding cost sign_bytes
last_cost ks = behind_cost ks (token.sign sign.Semicolon)

mutual
  unfolding reads Right

  pub light : (t : Tree) → Right t → Light (form t) (items t) (spare t) (costs (reads t))
  light (leaf a) h = leaf_light a
  light (paren t) h = let l = light t h in let m = l.light in let w = whole_weight (form t) (items t) l.counted in let c = open_cost (reads t) in record { counted = tt; light = omega arith }
  light (brace xs) h = let w = light_elems xs h in let c = brace_cost (read_elems xs) in record { counted = tt; light = omega arith }
  light (call f xs) h =
      let l = light f h.0 in let m = l.light in let w = whole_weight (form f) (items f) l.counted in let s = left_spare 3 f h.1 in
      let v = light_elems xs h.2 in let c = call_cost (reads f) (read_elems xs) in record { counted = tt; light = omega arith }
  light (part f xs t) h =
      let l = light f h.0 in let m = l.light in let w = whole_weight (form f) (items f) l.counted in let s = left_spare 3 f h.1 in
      let v = light_elems xs h.2 in let r = light t h.3 in let n = r.light in let x = whole_weight (form t) (items t) r.counted in
      let y = weight_all-append (elements xs) (whole (form t) (items t) ∷ []) in
      let c = part_cost (reads f) (read_elems xs) (comma_after xs) (reads t) in record { counted = tt; light = omega arith }
  light (before o t) h =
      let l = light t h.0 in let m = l.light in let w = prefix_weight o (form t) (reach t) (items t) l.counted in
      let s = right_spare (prefix_level o) t (prefix_closed o) h.1 in let c = sign_cost (token.sign (prefix_sign o)) (reads t) in record { counted = tt; light = omega arith }
  light (after t o) h =
      let l = light t h.0 in let m = l.light in let w = whole_weight (form t) (items t) l.counted in let s = left_spare (postfix_level o) t h.1 in
      let p = postfix_fee o in let c = behind_cost (reads t) (token.sign (postfix_sign o)) in
      after_light t o (named (postfix_name o) (whole (form t) (items t) ∷ [])) (costs (reads t ++ token.sign (postfix_sign o) ∷ [])) (omega arith)
  light (last t) h =
      let l = light t h.0 in let m = l.light in let w = last_weight (link Semi (form t)) (form t) (items t) (link_fits Semi (form t)) l.counted in
      let s = left_spare 30 t h.1 in let c = last_cost (reads t) in record { counted = tt; light = omega arith }
  light (between l o r) h =
      let x = light l h.0 in let a = x.light in let y = light r h.1 in let b = y.light in
      let s = left_spare (infix_level o) l h.2 in let u = right_spare (infix_level o) r (infix_closed o) h.3 in
      let j = joined_light o (link o (form l)) (form l) (form r) (reach r) (items l) (items r) (link_fits o (form l)) x.counted y.counted in
      let w = j.light in
      let c = costs-append (reads l) (sign_tokens (infix_sign o) ++ reads r) in let d = costs-append (sign_tokens (infix_sign o)) (reads r) in
      record { counted = j.counted; light = omega arith }

  pub light_elems : (xs : Elems) → RightElems xs → weight_all (elements xs) ≤ costs (read_elems xs)
  light_elems none h = omega arith
  light_elems (more xs t) h =
      let v = light_elems xs h.0 in let l = light t h.1 in let m = l.light in let w = whole_weight (form t) (items t) l.counted in
      let y = weight_all-append (elements xs) (whole (form t) (items t) ∷ []) in
      let c = costs-append (read_elems xs) (comma_after xs ++ reads t) in let d = costs-append (comma_after xs) (reads t) in omega arith

pub lower_weight : (t : Tree) → Right t → weight (lower t) ≤ costs (reads t)
lower_weight t h = let l = light t h in let m = l.light in let w = whole_weight (form t) (items t) l.counted in omega arith

pub operand_light : (o : Infix) (t : Tree) → Right t → weight (operand_of o (form t) (reach t) (items t)) ≤ 7 + costs (reads t)
operand_light o t h = let l = light t h in let m = l.light in let w = operand_weight o (form t) (reach t) (items t) l.counted in let f = small_fee o in omega arith
  where
    small_fee : (o : Infix) → minus_fee o ≤ 7
    small_fee Minus = omega arith
    small_fee _ = omega arith
