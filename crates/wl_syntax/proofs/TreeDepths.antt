-- The expression of a tree is at most twice as deep, and 2 more.
use Rattle.std.proofs.Common.{nat_eq, ◌==◌, drop, ℕ, ◌+◌, ◌*◌, ◌≤◌, ◌≡◌, Bool, true, false, ◌||◌, List, [], ◌∷◌, ◌++◌, length, max, refl, sym, ap, ◌∙◌, subst, arith}
use Rattle.std.specs.Prelude.{Option, Some, None, codes, if◌then◌else◌}
use Rattle.std.specs.List.{before_first, after_first, starts_with}
use Rattle.std.specs.Str.{bytes_eq}
use Rattle.wl_expr.specs.Tree as full
use Rattle.wl_expr.specs.Tree.{from_list, to_list}
use Rattle.wl_syntax.specs.declared.operator.Infix.{Infix}
use Rattle.wl_syntax.specs.declared.operator.Infix.TheVariants.{Message, PatternTest, Of, Map, Apply, MapApply, StringJoin, Power, Divide, Times, Beside, Plus, Minus, Equal, Unequal, Less, LessEqual, Greater, GreaterEqual, SameQ, UnsameQ, And, Or, Alternatives, Colon, StringExpression, Condition, Rule, RuleDelayed, ReplaceAll, ReplaceRepeated, AddTo, SubtractFrom, TimesBy, DivideBy, Into, Set, SetDelayed, UpSet, UpSetDelayed, Tag, Semi}
use Rattle.wl_syntax.specs.declared.operator.Prefix.{Prefix}
use Rattle.wl_syntax.specs.declared.operator.Prefix.TheVariants.{Negate}
use Rattle.wl_syntax.specs.declared.operator.Postfix.{Postfix}
use Rattle.wl_syntax.specs.declared.operator.Postfix.TheVariants.{Increment, Decrement, Factorial, Repeated, RepeatedNull, Function, Unset}
use Rattle.wl_syntax.specs.declared.chain.Form.{Form}
use Rattle.wl_syntax.specs.declared.chain.Form.TheVariants.{Other, Name, Chain, Inequality, Nested, Defines}
use Rattle.wl_syntax.specs.declared.chain.Link.{Link}
use Rattle.wl_syntax.specs.declared.chain.Link.TheVariants.{Alone, Starts, GoesOn, Mixes, MixesOn, Nests, NestsOn}
use Rattle.wl_syntax.specs.Atoms.{named, atom_tree, index, slot_tree, output_tree, blank, blanks, bound, defaulted}
use Rattle.wl_scan.specs.Forms.{is_mark}
use Rattle.wl_syntax.specs.Chain.{is_sameness, form, link, linked, alone}
use Rattle.wl_syntax.specs.Depth.{depth, depths, pairs, joined_depth, last_depth}
use Rattle.wl_syntax.specs.Lower.{whole, items, elements, lower, reach, negative, minus_one, is_product, prefixed, operand_of, as_text, args_of, colon_of, pair_of, before_each, separated, nested_on, nested, joined, statements}
use Rattle.wl_syntax.specs.Table.{infix_level, infix_name, postfix_name}
use Rattle.wl_syntax.specs.Token.{Atom, number, name, pattern, slot, output, text}
use Rattle.wl_syntax.specs.Tree.{Tree, leaf, paren, brace, call, part, before, after, last, between, Elems, none, more}
use Rattle.wl_syntax.proofs.Depths.{depth_pairs}
use Rattle.wl_syntax.proofs.Limits.{negated-depth}
use Rattle.wl_syntax.proofs.Links.{LinkFits, link_fits}

-- the depth of an expression, and the greatest of some
abbrev pub height : full.Tree → ℕ
height e = full.depth e

abbrev pub heights : List full.Tree → ℕ
heights es = full.depths (from_list es)

some_height : (e : full.Tree) → 1 ≤ height e
some_height (full.num f) = omega arith
some_height (full.text s) = omega arith
some_height (full.symbol s) = omega arith
some_height (full.node h ts) = omega arith

heights-append : (es fs : List full.Tree) → heights (es ++ fs) ≡ max (heights es) (heights fs)
heights-append [] fs = omega arith
heights-append (e ∷ es) fs = let h = heights-append es fs in omega arith

-- a chain's head stands above its items
abbrev pub top : Form → ℕ
top (Chain o) = 1
top Inequality = 1
top _ = 0

whole_height : (f : Form) (es : List full.Tree) (n : ℕ) → heights es + top f ≤ 2 * n + 2 → height (whole f es) ≤ 2 * n + 2
whole_height (Chain o) es n h = omega arith
whole_height Inequality es n h = omega arith
whole_height Other [] n h = omega arith
whole_height Other (e ∷ es) n h = omega arith
whole_height Name [] n h = omega arith
whole_height Name (e ∷ es) n h = omega arith
whole_height Nested [] n h = omega arith
whole_height Nested (e ∷ es) n h = omega arith
whole_height (Defines d) [] n h = omega arith
whole_height (Defines d) (e ∷ es) n h = omega arith

negative_height : (f : Form) (k : Option ℕ) (es : List full.Tree) (n : ℕ) → heights es + top f ≤ 2 * n + 2 → height (negative f k es) ≤ 2 * n + 3
negative_height f (Some k) es n h = let w = whole_height f es n h in let e = negated-depth k (whole f es) in omega arith
negative_height f None es n h = go (is_product f)
  where
    go : (b : Bool) → height (if b then named (codes "Times") (minus_one ∷ es) else named (codes "Times") (minus_one ∷ whole f es ∷ [])) ≤ 2 * n + 3
    go true = omega arith
    go false = let w = whole_height f es n h in omega arith

pub operand_height : (o : Infix) (g : Form) (k : Option ℕ) (gs : List full.Tree) (n : ℕ) → heights gs + top g ≤ 2 * n + 2 → height (operand_of o g k gs) ≤ 2 * n + 3
operand_height Minus g k gs n h = negative_height g k gs n h
operand_height _ g k gs n h = let w = whole_height g gs n h in omega arith

-- a sameness doesn't negate
same_operand : (o : Infix) (g : Form) (k : Option ℕ) (gs : List full.Tree) (n : ℕ) → is_sameness (infix_level o) ≡ true → heights gs + top g ≤ 2 * n + 2 → height (operand_of o g k gs) ≤ 2 * n + 2
unfolding infix_level
same_operand Minus g k gs n e h = absurd (cc)
same_operand _ g k gs n e h = whole_height g gs n h

as_text-height : (t : full.Tree) → height (as_text t) ≡ height t
as_text-height (full.num f) = refl
as_text-height (full.text s) = refl
as_text-height (full.symbol s) = refl
as_text-height (full.node h ts) = refl

args_height : (t : full.Tree) → heights (args_of t) ≤ height t
args_height (full.num f) = omega arith
args_height (full.text s) = omega arith
args_height (full.symbol s) = omega arith
args_height (full.node h ts) = let e = ap full.depths (full.from_list_to_list ts) in omega arith

colon_height : (f : Form) (l r : full.Tree) → height (colon_of f l r) ≤ 2 + max (height l) (height r)
colon_height Name l r = let a = some_height l in omega arith
colon_height _ l r = let a = some_height l in omega arith

pair_height : (o : Infix) (f g : Form) (l r : full.Tree) → height (pair_of o f g l r) ≤ 2 + max (height l) (height r)
pair_height Message f g l r = let a = some_height l in let e = as_text-height r in omega arith
pair_height Of f g l r = omega arith
pair_height Into f g l r = omega arith
pair_height Divide f g l r = let a = some_height l in let b = some_height r in omega arith
pair_height Colon f g l r = colon_height f l r
pair_height Tag f (Defines d) l r = let a = some_height l in let h = args_height r in omega arith
pair_height Tag f Other l r = let a = some_height l in omega arith
pair_height Tag f Name l r = let a = some_height l in omega arith
pair_height Tag f (Chain o) l r = let a = some_height l in omega arith
pair_height Tag f Inequality l r = let a = some_height l in omega arith
pair_height Tag f Nested l r = let a = some_height l in omega arith
pair_height _ f g l r = let a = some_height l in omega arith

before_each-height : (s : List ℕ) (es : List full.Tree) → heights (before_each (full.symbol s) es) ≤ max 1 (heights es)
before_each-height s [] = omega arith
before_each-height s (e ∷ es) = let h = before_each-height s es in omega arith

separated_height : (s : List ℕ) (es : List full.Tree) → heights (separated (full.symbol s) es) ≤ max 1 (heights es)
separated_height s [] = omega arith
separated_height s (e ∷ es) = let h = before_each-height s es in omega arith

-- nested pairs of two heads of one name
nested_on-name : (p o : Infix) (e : full.Tree) (fs : List full.Tree) → infix_name p ≡ infix_name o → nested_on p e fs ≡ nested_on o e fs
nested_on-name p o e [] q = refl
nested_on-name p o e (f ∷ fs) q = nested_on-name p o (named (infix_name p) (e ∷ f ∷ [])) fs q ∙ ap (λ s. nested_on o (named s (e ∷ f ∷ [])) fs) q

nested_on-push : (p : Infix) (e : full.Tree) (fs : List full.Tree) (f : full.Tree) → nested_on p e (fs ++ f ∷ []) ≡ named (infix_name p) (nested_on p e fs ∷ f ∷ [])
nested_on-push p e [] f = refl
nested_on-push p e (g ∷ fs) f = nested_on-push p (named (infix_name p) (e ∷ g ∷ [])) fs f

nested_push : (p o : Infix) (es : List full.Tree) (f : full.Tree) → infix_name p ≡ infix_name o → height (nested o (es ++ f ∷ [])) ≤ 1 + max (height (nested p es)) (height f)
nested_push p o [] f q = let a = some_height f in omega arith
nested_push p o (e ∷ es) f q =
    let h = ap height (nested_on-push o e es f) in
    let g = ap height (nested_on-name p o e es q) in
    let a = some_height f in omega arith

-- what is a sameness, by its name
same_name : (o : Infix) → is_sameness (infix_level o) ≡ (bytes_eq (infix_name o) (codes "SameQ") || bytes_eq (infix_name o) (codes "UnsameQ"))
unfolding infix_level
same_name Message = refl
same_name PatternTest = refl
same_name Of = refl
same_name Map = refl
same_name Apply = refl
same_name MapApply = refl
same_name StringJoin = refl
same_name Power = refl
same_name Divide = refl
same_name Times = refl
same_name Beside = refl
same_name Plus = refl
same_name Minus = refl
same_name Equal = refl
same_name Unequal = refl
same_name Less = refl
same_name LessEqual = refl
same_name Greater = refl
same_name GreaterEqual = refl
same_name SameQ = refl
same_name UnsameQ = refl
same_name And = refl
same_name Or = refl
same_name Alternatives = refl
same_name Colon = refl
same_name StringExpression = refl
same_name Condition = refl
same_name Rule = refl
same_name RuleDelayed = refl
same_name ReplaceAll = refl
same_name ReplaceRepeated = refl
same_name AddTo = refl
same_name SubtractFrom = refl
same_name TimesBy = refl
same_name DivideBy = refl
same_name Into = refl
same_name Set = refl
same_name SetDelayed = refl
same_name UpSet = refl
same_name UpSetDelayed = refl
same_name Tag = refl
same_name Semi = refl

still_same : (p o : Infix) → infix_name p ≡ infix_name o → is_sameness (infix_level o) ≡ true → is_sameness (infix_level p) ≡ true
still_same p o q e = same_name p ∙ ap (λ s. bytes_eq s (codes "SameQ") || bytes_eq s (codes "UnsameQ")) q ∙ sym (same_name o) ∙ e

-- a chain of samenesses as nested pairs
abbrev pub NestLimit : Form → List full.Tree → ℕ → Type 0
NestLimit (Chain p) es n = is_sameness (infix_level p) ≡ true → height (nested p es) ≤ 2 * n + 2
NestLimit _ es n = Unit {0}

alone_top : (o : Infix) → top (alone o) ≡ 0
alone_top Set = refl
alone_top SetDelayed = refl
alone_top _ = refl

joined_height : (o : Infix) (k : Link) (f g : Form) (n : Option ℕ) (es gs : List full.Tree) (l p r : ℕ) → LinkFits k o f → heights es + top f ≤ 2 * l + 2 → heights gs + top g ≤ 2 * r + 2 → NestLimit f es p → l ≤ p
    → heights (joined o k f g es (whole f es) (whole g gs) (operand_of o g n gs)) + top (linked o k) ≤ 2 * joined_depth k l p r + 2
joined_height o Alone f g n es gs l p r q a b c d =
    let x = whole_height f es l a in let y = whole_height g gs r b in
    let w = pair_height o f g (whole f es) (whole g gs) in let z = alone_top o in omega arith
joined_height o Starts f g n es gs l p r q a b c d =
    let x = whole_height f es l a in let y = operand_height o g n gs r b in omega arith
joined_height o GoesOn (Chain h) g n es gs l p r q a b c d =
    let y = operand_height o g n gs r b in let w = heights-append es (operand_of o g n gs ∷ []) in omega arith
joined_height o (Mixes h) (Chain i) g n es gs l p r q a b c d =
    let y = operand_height o g n gs r b in
    let w = heights-append (separated (full.symbol (infix_name h)) es) (full.symbol (infix_name o) ∷ operand_of o g n gs ∷ []) in
    let v = separated_height (infix_name h) es in omega arith
joined_height o MixesOn Inequality g n es gs l p r q a b c d =
    let y = operand_height o g n gs r b in let w = heights-append es (full.symbol (infix_name o) ∷ operand_of o g n gs ∷ []) in omega arith
joined_height o (Nests h) (Chain i) g n es gs l p r q a b c d =
    let y = operand_height o g n gs r b in
    let e : height (nested h es) ≤ 2 * p + 2 = subst (λ j. height (nested j es) ≤ 2 * p + 2) (sym q.0) (c q.1) in omega arith
joined_height o NestsOn f g n es gs l p r q a b c d =
    let x = whole_height f es l a in let y = operand_height o g n gs r b in omega arith
joined_height o GoesOn Other g n es gs l p r q a b c d = absurd q
joined_height o GoesOn Name g n es gs l p r q a b c d = absurd q
joined_height o GoesOn Inequality g n es gs l p r q a b c d = absurd q
joined_height o GoesOn Nested g n es gs l p r q a b c d = absurd q
joined_height o GoesOn (Defines t) g n es gs l p r q a b c d = absurd q
joined_height o (Mixes h) Other g n es gs l p r q a b c d = absurd q
joined_height o (Mixes h) Name g n es gs l p r q a b c d = absurd q
joined_height o (Mixes h) Inequality g n es gs l p r q a b c d = absurd q
joined_height o (Mixes h) Nested g n es gs l p r q a b c d = absurd q
joined_height o (Mixes h) (Defines t) g n es gs l p r q a b c d = absurd q
joined_height o MixesOn Other g n es gs l p r q a b c d = absurd q
joined_height o MixesOn Name g n es gs l p r q a b c d = absurd q
joined_height o MixesOn (Chain i) g n es gs l p r q a b c d = absurd q
joined_height o MixesOn Nested g n es gs l p r q a b c d = absurd q
joined_height o MixesOn (Defines t) g n es gs l p r q a b c d = absurd q
joined_height o (Nests h) Other g n es gs l p r q a b c d = absurd q
joined_height o (Nests h) Name g n es gs l p r q a b c d = absurd q
joined_height o (Nests h) Inequality g n es gs l p r q a b c d = absurd q
joined_height o (Nests h) Nested g n es gs l p r q a b c d = absurd q
joined_height o (Nests h) (Defines t) g n es gs l p r q a b c d = absurd q

alone_nest : (o : Infix) (es : List full.Tree) (n : ℕ) → NestLimit (alone o) es n
alone_nest Set es n = tt
alone_nest SetDelayed es n = tt
alone_nest _ es n = tt

if_same : (b : Bool) (x y : ℕ) → b ≡ true → (if b then x else y) ≡ x
if_same true x y e = refl
if_same false x y e = absurd (cc)

joined_nest : (o : Infix) (k : Link) (f g : Form) (n : Option ℕ) (es gs : List full.Tree) (l p r m : ℕ) → LinkFits k o f → heights es + top f ≤ 2 * l + 2 → heights gs + top g ≤ 2 * r + 2 → NestLimit f es p → l ≤ p
    → NestLimit (linked o k) (joined o k f g es (whole f es) (whole g gs) (operand_of o g n gs)) (if is_sameness (infix_level o) then (1 + max p r) else m)
joined_nest o Alone f g n es gs l p r m q a b c d = alone_nest o (pair_of o f g (whole f es) (whole g gs) ∷ []) (if is_sameness (infix_level o) then (1 + max p r) else m)
joined_nest o Starts f g n es gs l p r m q a b c d =
    λ e. let x = whole_height f es l a in let y = same_operand o g n gs r e b in let z = if_same (is_sameness (infix_level o)) (1 + max p r) m e in omega arith
joined_nest o GoesOn (Chain h) g n es gs l p r m q a b c d =
    λ e. let x = c (still_same h o q e) in let y = same_operand o g n gs r e b in let z = if_same (is_sameness (infix_level o)) (1 + max p r) m e in
    let w = nested_push h o es (operand_of o g n gs) q in omega arith
joined_nest o (Mixes h) f g n es gs l p r m q a b c d = tt
joined_nest o MixesOn f g n es gs l p r m q a b c d = tt
joined_nest o (Nests h) f g n es gs l p r m q a b c d = tt
joined_nest o NestsOn f g n es gs l p r m q a b c d = tt
joined_nest o GoesOn Other g n es gs l p r m q a b c d = absurd q
joined_nest o GoesOn Name g n es gs l p r m q a b c d = absurd q
joined_nest o GoesOn Inequality g n es gs l p r m q a b c d = absurd q
joined_nest o GoesOn Nested g n es gs l p r m q a b c d = absurd q
joined_nest o GoesOn (Defines t) g n es gs l p r m q a b c d = absurd q

last_height : (k : Link) (f : Form) (es : List full.Tree) (l : ℕ) → LinkFits k Semi f → heights es + top f ≤ 2 * l + 2 → height (named (codes "CompoundExpression") (statements k es (whole f es) ++ full.symbol (codes "Null") ∷ [])) ≤ 2 * last_depth k l + 2
unfolding infix_level
last_height GoesOn (Chain p) es l q a = let w = heights-append es (full.symbol (codes "Null") ∷ []) in omega arith
last_height (Mixes p) (Chain h) es l q a = let e = q.2 in absurd (cc)
last_height MixesOn Inequality es l q a = absurd (cc)
last_height GoesOn Other es l q a = absurd q
last_height GoesOn Name es l q a = absurd q
last_height GoesOn Inequality es l q a = absurd q
last_height GoesOn Nested es l q a = absurd q
last_height GoesOn (Defines t) es l q a = absurd q
last_height (Mixes h) Other es l q a = absurd q
last_height (Mixes h) Name es l q a = absurd q
last_height (Mixes h) Inequality es l q a = absurd q
last_height (Mixes h) Nested es l q a = absurd q
last_height (Mixes h) (Defines t) es l q a = absurd q
last_height MixesOn Other es l q a = absurd q
last_height MixesOn Name es l q a = absurd q
last_height MixesOn (Chain i) es l q a = absurd q
last_height MixesOn Nested es l q a = absurd q
last_height MixesOn (Defines t) es l q a = absurd q
last_height Alone f es l q a = let w = whole_height f es l a in omega arith
last_height Starts f es l q a = let w = whole_height f es l a in omega arith
last_height (Nests p) f es l q a = let w = whole_height f es l a in omega arith
last_height NestsOn f es l q a = let w = whole_height f es l a in omega arith

-- atoms

either_height : (b : Bool) (x y : full.Tree) (n : ℕ) → height x ≤ n → height y ≤ n → height (if b then x else y) ≤ n
either_height true x y n a b = a
either_height false x y n a b = b

index_height : (s : List ℕ) → height (index s) ≤ 1
index_height s = either_height (length s == 0) _ _ 1 (omega arith) (omega arith)

slot_height : (s : List ℕ) → height (slot_tree s) ≤ 2
slot_height s =
    let a = index_height (drop 2 s) in let b = index_height (drop 1 s) in
    either_height (starts_with nat_eq s (codes "##")) _ _ 2 (omega arith) (omega arith)

output_height : (s : List ℕ) → height (output_tree s) ≤ 2
output_height s = either_height (length s == 1) _ _ 2 (omega arith) (either_height (starts_with nat_eq s (codes "%%")) _ _ 2 (omega arith) (omega arith))

blank_height : (kind head : List ℕ) → height (blank kind head) ≤ 2
blank_height kind head = either_height (length head == 0) _ _ 2 (omega arith) (either_height (bytes_eq head (codes ".")) _ _ 2 (omega arith) (omega arith))

blanks_height : (s : List ℕ) → height (blanks s) ≤ 2
blanks_height s =
    either_height (starts_with nat_eq s (codes "__")) _ _ 2 (blank_height (codes "BlankNullSequence") (drop 2 s))
    (either_height (starts_with nat_eq s (codes "_")) _ _ 2 (blank_height (codes "BlankSequence") (drop 1 s)) (blank_height (codes "Blank") s))

bound_height : (s : List ℕ) (p : full.Tree) → height p ≤ 2 → height (bound s p) ≤ 3
bound_height s p h = either_height (length s == 0) _ _ 3 (omega arith) (omega arith)

defaulted_height : (s : List ℕ) (p : full.Tree) → height p ≤ 3 → height (defaulted s p) ≤ 4
defaulted_height s p h = either_height (bytes_eq s (codes ".")) _ _ 4 (omega arith) (omega arith)

atom_height : (a : Atom) → height (atom_tree a) ≤ 4
atom_height (number s) = omega arith
atom_height (name s) = omega arith
atom_height (pattern s) = defaulted_height (after_first is_mark s) _ (bound_height (before_first is_mark s) _ (blanks_height (after_first is_mark s)))
atom_height (slot s) = let h = slot_height s in omega arith
atom_height (output s) = let h = output_height s in omega arith
atom_height (text s) = omega arith

pub record Low (f : Form) (es : List full.Tree) (d p : ℕ) : Type 0 where
  pub low : heights es + top f ≤ 2 * d + 2
  pub nest : NestLimit f es p

atom_low : (a : Atom) → Low (form (leaf a)) (items (leaf a)) 1 1
atom_low (number s) = let h = atom_height (number s) in record { low = omega arith; nest = tt }
atom_low (name s) = let h = atom_height (name s) in record { low = omega arith; nest = tt }
atom_low (pattern s) = let h = atom_height (pattern s) in record { low = omega arith; nest = tt }
atom_low (slot s) = let h = atom_height (slot s) in record { low = omega arith; nest = tt }
atom_low (output s) = let h = atom_height (output s) in record { low = omega arith; nest = tt }
atom_low (text s) = let h = atom_height (text s) in record { low = omega arith; nest = tt }

prefixed_height : (o : Prefix) (f : Form) (k : Option ℕ) (es : List full.Tree) (n : ℕ) → heights es + top f ≤ 2 * n + 2 → height (prefixed o f k es) ≤ 2 * n + 3
prefixed_height Negate f k es n h = negative_height f k es n h
prefixed_height _ f k es n h = let w = whole_height f es n h in omega arith

after_low : (t : Tree) (o : Postfix) (e : full.Tree) (n : ℕ) → height e ≤ 2 * n + 2 → Low (form (after t o)) (e ∷ []) n n
after_low t Increment e n h = record { low = omega arith; nest = tt }
after_low t Decrement e n h = record { low = omega arith; nest = tt }
after_low t Factorial e n h = record { low = omega arith; nest = tt }
after_low t Repeated e n h = record { low = omega arith; nest = tt }
after_low t RepeatedNull e n h = record { low = omega arith; nest = tt }
after_low t Function e n h = record { low = omega arith; nest = tt }
after_low t Unset e n h = record { low = omega arith; nest = tt }

mutual
  pub lowered : (t : Tree) → Low (form t) (items t) (depth t) (pairs t)
  lowered (leaf a) = atom_low a
  lowered (paren t) = let l = lowered t in let m = l.low in let w = whole_height (form t) (items t) (depth t) m in record { low = omega arith; nest = tt }
  lowered (brace xs) = let w = lowered_elems xs in record { low = omega arith; nest = tt }
  lowered (call f xs) = let l = lowered f in let m = l.low in let w = whole_height (form f) (items f) (depth f) m in let v = lowered_elems xs in record { low = omega arith; nest = tt }
  lowered (part f xs t) =
      let l = lowered f in let m = l.low in let w = whole_height (form f) (items f) (depth f) m in let v = lowered_elems xs in
      let r = lowered t in let n = r.low in let x = whole_height (form t) (items t) (depth t) n in
      let y = heights-append (elements xs) (whole (form t) (items t) ∷ []) in record { low = omega arith; nest = tt }
  lowered (before o t) = let l = lowered t in let m = l.low in let w = prefixed_height o (form t) (reach t) (items t) (depth t) m in record { low = omega arith; nest = tt }
  lowered (after t o) = let l = lowered t in let m = l.low in let w = whole_height (form t) (items t) (depth t) m in after_low t o (named (postfix_name o) (whole (form t) (items t) ∷ [])) (1 + depth t) (omega arith)
  lowered (last t) = let l = lowered t in let m = l.low in let w = last_height (link Semi (form t)) (form t) (items t) (depth t) (link_fits Semi (form t)) m in record { low = omega arith; nest = tt }
  lowered (between l o r) =
      let x = lowered l in let y = lowered r in let q = link_fits o (form l) in
      record {
        low = joined_height o (link o (form l)) (form l) (form r) (reach r) (items l) (items r) (depth l) (pairs l) (depth r) q x.low y.low x.nest (depth_pairs l);
        nest = joined_nest o (link o (form l)) (form l) (form r) (reach r) (items l) (items r) (depth l) (pairs l) (depth r) (joined_depth (link o (form l)) (depth l) (pairs l) (depth r)) q x.low y.low x.nest (depth_pairs l);
      }

  pub lowered_elems : (xs : Elems) → heights (elements xs) ≤ 2 * depths xs + 2
  lowered_elems none = omega arith
  lowered_elems (more xs t) =
      let v = lowered_elems xs in let l = lowered t in let m = l.low in let w = whole_height (form t) (items t) (depth t) m in
      let y = heights-append (elements xs) (whole (form t) (items t) ∷ []) in omega arith

pub lower_height : (t : Tree) → height (lower t) ≤ 2 * depth t + 2
lower_height t = let l = lowered t in whole_height (form t) (items t) (depth t) l.low
