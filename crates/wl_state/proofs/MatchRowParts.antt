-- How rows of matches play, element after element and part after part.
use Rattle.std.proofs.Common.{◌≡◌, ℕ, zero, suc, ◌+◌, ◌<◌, ◌≤◌, Bool, true, false, List, [], ◌∷◌, ◌++◌, length, drop, get_or, Option, Some, None, option_map, Result, Ok, Err, IfOk, refl, sym, ap, ◌∙◌, subst, arith}
use Rattle.std.proofs.lemmas.List.Elements.{All-head, All-tail}
use Rattle.std.specs.Prelude.{codes}
use Rattle.std.specs.Result.{IsErrAnd}
use Rattle.wl_expr.specs.Passed.{IsFrom}
use Rattle.wl_expr.specs.Stamped as stamped
use Rattle.wl_expr.specs.Stamped.{Stamped, plain, plains}
use Rattle.wl_expr.specs.Tree as tree
use Rattle.wl_expr.specs.Tree.{Tree, Trees, num, text, symbol, node, depth, depths}
use Rattle.wl_expr.specs.Words.{applied, fits, natural, truth}
use Rattle.wl_expr.specs.declared.fault.ExprFault.{ExprFault}
use Rattle.wl_rules.specs.Entries.{PlainRule}
use Rattle.wl_rules.specs.declared.rule.Rule.{Rule}
use Rattle.wl_state.specs.Honest.{HonestRule}
use Rattle.wl_semantics.specs.Prog.{Prog, done, ◌>>=◌, unchanged, result}
use Rattle.wl_semantics.specs.Match.{matches, rule_result}
use Rattle.wl_semantics.specs.MatchRows.{any_matches, matching, unmatched, kept, count_matching, parts, parts_in, cases_by, delete_cases_row}
use Rattle.wl_state.specs.Parts.{sized_row}
use Rattle.wl_state.specs.Played.{Plays, Played, Seen, Leads, Honest, AllHonest, trees, found_tree}
use Rattle.wl_state.specs.Replacing.{IsRuleFrom, MaybeRuleFrom, agrees, pair, sifted, truth_symbol}
use Rattle.wl_state.specs.declared.evaluator.Evaluator.{Evaluator}
use Rattle.wl_state.specs.declared.ends.Stop.{Stop}
use Rattle.wl_state.proofs.Bindings.{bind_assoc, drop_item, all_dropped, or_more}
use Rattle.wl_state.proofs.Matches.{exit, leads_in, no_some}
use Rattle.wl_state.proofs.Rounds.{trees_push}
use Rattle.wl_state.proofs.Playing.{plays_bind, plays_done, plays_done_is}
use Rattle.wl_state.proofs.Rows.{played_stop}
use Rattle.wl_state.proofs.RowParts.{if_ok_more, row_gives, row_stays}
use Rattle.wl_state.proofs.Values.{built_honest, passed_honest, plains_trees, list_of_plains}

-- ---- a loop over elements

pub elements_at : {A : Type 0} (f : List Tree → Prog A) (xs : List Stamped) (i : ℕ) (x : Stamped) → i < length xs → x ≡ get_or xs i x → f (trees (drop i xs)) ≡ f (plain x ∷ trees (drop (i + 1) xs))
elements_at f xs i x h e = ap (λ z. f (trees z)) (drop_item xs i x h e)

pub elements_over : {A : Type 0} (f : List Tree → Prog A) (a : A) (xs : List Stamped) (i : ℕ) (w : Prog A) (k0 k : Evaluator) → f [] ≡ done a → length xs ≤ i → Leads w k0 (f (trees (drop i xs))) k → Plays w k0 (Ok a) k false
elements_over f a xs i w k0 k e h l = l _ _ _ (subst (λ z. Plays z k (Ok a) k false) (sym (ap (λ z. f (trees z)) (all_dropped xs i h) ∙ e)) plays_done)

-- one program for another that is the same
pub leads_to : {A : Type 0} (w p q : Prog A) (k0 k : Evaluator) → p ≡ q → Leads w k0 p k → Leads w k0 q k
leads_to w p q k0 k e l = subst (λ z. Leads w k0 z k) e l

-- a part that plays to a result, and what follows
pub part_leads : {A B : Type 0} (w v : Prog B) (p : Prog A) (f : A → Prog B) (k0 k k1 : Evaluator) (a b : A) → Plays p k (Ok a) k1 false → a ≡ b → v ≡ (p >>= f) → Leads w k0 v k → Leads w k0 (f b) k1
part_leads w v p f k0 k k1 a b h e q l = leads_in w v p f k0 k k1 b l q (subst (λ z. Plays p k (Ok z) k1 false) e h)

-- ---- whether an element matches

any_by : (p : Tree) (ts : List Tree) (b : Bool) → elim b [ true ↦ done true | false ↦ any_matches p ts ] ≡ or_more (any_matches p ts) b
any_by p ts true = refl
any_by p ts false = refl

pub any_is : (p t : Tree) (ts : List Tree) → any_matches p (t ∷ ts) ≡ (matches p t >>= or_more (any_matches p ts))
unfolding any_matches
any_is p t ts = λ i. matches p t >>= λ b. any_by p ts b i

pub any_none : (p : Tree) → any_matches p [] ≡ done false
unfolding any_matches
any_none p = refl

pub any_at : (p : Tree) (xs : List Stamped) (i : ℕ) (x : Stamped) → i < length xs → x ≡ get_or xs i x → any_matches p (trees (drop i xs)) ≡ (matches p (plain x) >>= or_more (any_matches p (trees (drop (i + 1) xs))))
any_at p xs i x h e = elements_at (any_matches p) xs i x h e ∙ any_is p (plain x) (trees (drop (i + 1) xs))

-- ---- how many match

abbrev pub counted : ℕ → Bool → ℕ
counted n true = n + 1
counted n false = n

count_by : (n : ℕ) (p : Tree) (ts : List Tree) (b : Bool) → count_matching (elim b [ true ↦ n + 1 | false ↦ n ]) p ts ≡ count_matching (counted n b) p ts
count_by n p ts true = refl
count_by n p ts false = refl

pub count_at : (n : ℕ) (p : Tree) (xs : List Stamped) (i : ℕ) (x : Stamped) → i < length xs → x ≡ get_or xs i x
    → count_matching n p (trees (drop i xs)) ≡ (matches p (plain x) >>= λ b. count_matching (counted n b) p (trees (drop (i + 1) xs)))
unfolding count_matching
count_at n p xs i x h e =
    let ts = trees (drop (i + 1) xs) in
    elements_at (count_matching n p) xs i x h e ∙ (λ j. matches p (plain x) >>= λ b. count_by n p ts b j)

pub count_over : (n : ℕ) (p : Tree) → count_matching n p [] ≡ done n
unfolding count_matching
count_over n p = refl

-- ---- those that match, and the others

pub sifted_at : (w : Bool) (found : List Tree) (p : Tree) (xs : List Stamped) (i : ℕ) (x : Stamped) → i < length xs → x ≡ get_or xs i x
    → sifted w found p (trees (drop i xs)) ≡ (matches p (plain x) >>= λ b. sifted w (kept (agrees w b) found (plain x)) p (trees (drop (i + 1) xs)))
unfolding matching unmatched
sifted_at true found p xs i x h e = elements_at (matching found p) xs i x h e
sifted_at false found p xs i x h e = elements_at (unmatched found p) xs i x h e

-- what is found with the next element, and then those behind it
pub sifted_leads : (w : Bool) (before after : List Stamped) (p : Tree) (xs : List Stamped) (i : ℕ) (x : Stamped) (v : Prog (List Tree)) (k0 k k1 : Evaluator) (b c : Bool) → i < length xs → x ≡ get_or xs i x
    → Plays (matches p (plain x)) k (Ok b) k1 false → agrees w b ≡ c → trees after ≡ kept c (trees before) (plain x) → Leads v k0 (sifted w (trees before) p (trees (drop i xs))) k → Leads v k0 (sifted w (trees after) p (trees (drop (i + 1) xs))) k1
sifted_leads w before after p xs i x v k0 k k1 b c h e m a q l =
    let on = part_leads v _ (matches p (plain x)) _ k0 k k1 b b m refl (sifted_at w (trees before) p xs i x h e) l in
    subst (λ z. Leads v k0 (sifted w z p (trees (drop (i + 1) xs))) k1) (ap (λ z. kept z (trees before) (plain x)) a ∙ sym q) on

pub sifted_over : (w : Bool) (found : List Tree) (p : Tree) → sifted w found p [] ≡ done found
unfolding matching unmatched
sifted_over true found p = refl
sifted_over false found p = refl

-- ---- results of a rule

-- one more behind, where there is one
abbrev pub with_result : List Tree → Option Tree → List Tree
with_result ts None = ts
with_result ts (Some v) = ts ++ v ∷ []

cases_on : (found : List Tree) (r : PlainRule) (ts : List Tree) (u : Option Tree) → cases_by (elim u [ None ↦ found | Some v ↦ found ++ v ∷ [] ]) r ts ≡ cases_by (with_result found u) r ts
cases_on found r ts None = refl
cases_on found r ts (Some v) = refl

pub cases_at : (found : List Tree) (r : PlainRule) (xs : List Stamped) (i : ℕ) (x : Stamped) → i < length xs → x ≡ get_or xs i x
    → cases_by found r (trees (drop i xs)) ≡ (rule_result r (plain x) >>= λ u. cases_by (with_result found u) r (trees (drop (i + 1) xs)))
unfolding cases_by
cases_at found r xs i x h e =
    let ts = trees (drop (i + 1) xs) in
    elements_at (cases_by found r) xs i x h e ∙ (λ j. rule_result r (plain x) >>= λ u. cases_on found r ts u j)

-- the result for the next element, and then those behind it
pub cases_leads : (before after : List Stamped) (r : PlainRule) (xs : List Stamped) (i : ℕ) (x : Stamped) (v : Prog (List Tree)) (k0 k k1 : Evaluator) (o : Option Stamped) → i < length xs → x ≡ get_or xs i x
    → Plays (rule_result r (plain x)) k (Ok (option_map plain o)) k1 false → trees after ≡ with_result (trees before) (option_map plain o) → Leads v k0 (cases_by (trees before) r (trees (drop i xs))) k → Leads v k0 (cases_by (trees after) r (trees (drop (i + 1) xs))) k1
cases_leads before after r xs i x v k0 k k1 o h e m q l =
    let on = part_leads v _ (rule_result r (plain x)) _ k0 k k1 _ _ m refl (cases_at (trees before) r xs i x h e) l in
    subst (λ z. Leads v k0 (cases_by z r (trees (drop (i + 1) xs))) k1) (sym q) on

-- none
pub nothing_more : (before : List Stamped) (o : Option Stamped) → ((x : Stamped) → o ≡ Some x → ⊥) → trees before ≡ with_result (trees before) (option_map plain o)
nothing_more before o n = ap (λ z. with_result (trees before) (option_map plain z)) (sym (no_some o n))

-- one more
pub one_more : (before after : List Stamped) (o : Option Stamped) (x : Stamped) → o ≡ Some x → after ≡ before ++ x ∷ [] → trees after ≡ with_result (trees before) (option_map plain o)
one_more before after o x e q = trees_push before after x q ∙ ap (λ z. with_result (trees before) (option_map plain z)) (sym e)

pub cases_over : (found : List Tree) (r : PlainRule) → cases_by found r [] ≡ done found
unfolding cases_by
cases_over found r = refl

-- ---- parts

any_or : (p : Tree) (xs ys : List Tree) (b : Bool) → any_matches p (xs ++ ys) ≡ (any_matches p xs >>= or_more (any_matches p ys)) → or_more (any_matches p (xs ++ ys)) b ≡ (or_more (any_matches p xs) b >>= or_more (any_matches p ys))
unfolding ◌>>=◌
any_or p xs ys true e = refl
any_or p xs ys false e = e

pub any_both : (p : Tree) (xs ys : List Tree) → any_matches p (xs ++ ys) ≡ (any_matches p xs >>= or_more (any_matches p ys))
unfolding ◌>>=◌
any_both p [] ys = sym (ap (λ z. z >>= or_more (any_matches p ys)) (any_none p))
any_both p (x ∷ xs) ys =
    any_is p x (xs ++ ys) ∙ (λ i. matches p x >>= λ b. any_or p xs ys b (any_both p xs ys) i)
    ∙ sym (ap (λ z. z >>= or_more (any_matches p ys)) (any_is p x xs) ∙ bind_assoc (matches p x) (or_more (any_matches p xs)) (or_more (any_matches p ys)))

-- the parts of head and elements
abbrev pub parts_below : Tree → List Tree
parts_below (node h ts) = parts h ++ parts_in ts
parts_below t = []

parts_are : (t : Tree) → parts t ≡ t ∷ parts_below t
parts_are (num n) = refl
parts_are (text s) = refl
parts_are (symbol x) = refl
parts_are (node h ts) = refl

pub part_is : (p t : Tree) → any_matches p (parts t) ≡ (matches p t >>= or_more (any_matches p (parts_below t)))
part_is p t = ap (any_matches p) (parts_are t) ∙ any_is p t (parts_below t)

no_parts : (t : Tree) → ((h : Tree) (ts : Trees) → t ≡ node h ts → ⊥) → parts_below t ≡ []
no_parts (num n) f = refl
no_parts (text s) f = refl
no_parts (symbol x) f = refl
no_parts (node h ts) f = absurd (f h ts refl)

pub part_none : (p t : Tree) → ((h : Tree) (ts : Trees) → t ≡ node h ts → ⊥) → any_matches p (parts_below t) ≡ done false
part_none p t f = ap (any_matches p) (no_parts t f) ∙ any_none p

pub part_node : (p t h : Tree) (es : List Stamped) → node h (plains (stamped.from_list es)) ≡ t
    → any_matches p (parts_below t) ≡ (any_matches p (parts h) >>= or_more (any_matches p (parts_in (tree.from_list (trees es)))))
part_node p t h es e =
    ap (λ z. any_matches p (parts_below z)) (sym e) ∙ any_both p (parts h) (parts_in (plains (stamped.from_list es)))
    ∙ ap (λ z. any_matches p (parts h) >>= or_more (any_matches p (parts_in z))) (plains_trees es)

pub part_at : (p : Tree) (xs : List Stamped) (i : ℕ) (x : Stamped) → i < length xs → x ≡ get_or xs i x
    → any_matches p (parts_in (tree.from_list (trees (drop i xs)))) ≡ (any_matches p (parts (plain x)) >>= or_more (any_matches p (parts_in (tree.from_list (trees (drop (i + 1) xs))))))
part_at p xs i x h e =
    elements_at (λ ts. any_matches p (parts_in (tree.from_list ts))) xs i x h e ∙ any_both p (parts (plain x)) (parts_in (tree.from_list (trees (drop (i + 1) xs))))

-- an element is no deeper than the deepest
pub element_depth : (xs : List Stamped) (i : ℕ) (x : Stamped) → i < length xs → x ≡ get_or xs i x → depth (plain x) ≤ depths (tree.from_list (trees xs))
element_depth [] i x h e = absurd (omega (arith, h))
element_depth (y ∷ ys) zero x h e = let q = ap (λ (z : Stamped). depth (plain z)) e in omega (arith, q)
element_depth (y ∷ ys) (suc i) x h e = let q = element_depth ys i x (omega (arith, h)) e in omega (arith, q)

-- head and elements are less deep than the node
pub head_depth : (h t : Tree) (es : List Stamped) → node h (plains (stamped.from_list es)) ≡ t → depth h + 1 ≤ depth t
head_depth h t es q = let d = ap depth q in omega (arith, d)

pub args_depth : (h t : Tree) (es : List Stamped) → node h (plains (stamped.from_list es)) ≡ t → depths (tree.from_list (trees es)) + 1 ≤ depth t
args_depth h t es q = let d = ap depth q in let s = ap depths (plains_trees es) in omega (arith, d, s)

-- ---- rows of two elements

-- what an option has, or else this
abbrev or_this : {X : Type 0} → X → Option X → X
or_this d None = d
or_this d (Some x) = x

pub pair_is : (es : List Stamped) (a b : Stamped) → Some (a, b) ≡ pair es → es ≡ a ∷ b ∷ []
pair_is [] a b h = absurd (let q : Some (a, b) ≡ None = h in cc)
pair_is (x ∷ []) a b h = absurd (let q : Some (a, b) ≡ None = h in cc)
pair_is (x ∷ y ∷ []) a b h =
    let p : (x, y) ≡ (a, b) = sym (ap (or_this (a, b)) h) in
    ap (λ (z : Stamped). z ∷ y ∷ []) (ap (λ (q : Stamped × Stamped). q.0) p) ∙ ap (λ (z : Stamped). a ∷ z ∷ []) (ap (λ (q : Stamped × Stamped). q.1) p)
pair_is (x ∷ y ∷ z ∷ es) a b h = absurd (let q : Some (a, b) ≡ None = h in cc)

pub pair_honest : (k : Evaluator) (es : List Stamped) (a b : Stamped) → Some (a, b) ≡ pair es → AllHonest k es → Honest k a × Honest k b
pair_honest k es a b h m =
    let n = subst (AllHonest k) (pair_is es a b h) m in
    (All-head (Honest k) a (b ∷ []) n, All-head (Honest k) b [] (All-tail (Honest k) a (b ∷ []) n))

-- another number of elements stays
pub pair_stays : (row : List Tree → Prog (Option Tree)) (es : List Stamped) (k : Evaluator) → None ≡ pair es → row [] ≡ unchanged → ((x : Tree) → row (x ∷ []) ≡ unchanged)
    → ((x y z : Tree) (ts : List Tree) → row (x ∷ y ∷ z ∷ ts) ≡ unchanged) → Played found_tree (sized_row (row (trees es))) k (Ok None) k
pair_stays row [] k h a b c = row_stays (row []) k a
pair_stays row (x ∷ []) k h a b c = row_stays _ k (b (plain x))
pair_stays row (x ∷ y ∷ []) k h a b c = absurd (let q : None ≡ Some (x, y) = h in cc)
pair_stays row (x ∷ y ∷ z ∷ es) k h a b c = row_stays _ k (c (plain x) (plain y) (plain z) (trees es))

-- the row of the two
pub pair_row : {X : Type 0} (seen : Seen X (Option Tree)) (row : List Tree → Prog (Option Tree)) (es : List Stamped) (a b : Stamped) (k : Evaluator) (r : Result X Stop) (k1 : Evaluator) → Some (a, b) ≡ pair es
    → Played seen (sized_row (row (plain a ∷ plain b ∷ []))) k r k1 → Played seen (sized_row (row (trees es))) k r k1
pair_row seen row es a b k r k1 h m = subst (λ z. Played seen (sized_row (row (trees z))) k r k1) (sym (pair_is es a b h)) m

-- the exit of a row by `?`, where its first part stopped
pub row_exit : {X A : Type 0} (seen : Seen X A) (p : Prog A) (g : A → Prog (Option Tree)) (k k1 : Evaluator) (r : Result (Option Stamped) Stop) (e : Stop) → IsErrAnd r (λ d. d ≡ e) → Played seen p k (Err e) k1 → Played found_tree (sized_row (p >>= g)) k r k1
row_exit seen p g k k1 r e h m = exit found_tree found_tree (p >>= g) _ k k1 r e h (played_stop seen found_tree p g k e k1 m)

truth_plain : (b : Bool) → plain (truth_symbol b) ≡ truth b
truth_plain true = refl
truth_plain false = refl

truth_fits : (b : Bool) → fits (plain (truth_symbol b)) ≡ true
truth_fits true = refl
truth_fits false = refl

truth_honest : (k : Evaluator) (b : Bool) → Honest k (truth_symbol b)
truth_honest k true = tt
truth_honest k false = tt

-- True or False
pub row_truth : (p : Prog Bool) (f : Bool → Bool) (k k1 : Evaluator) (b : Bool) (e : Stamped) → Plays p k (Ok b) k1 false → e ≡ truth_symbol (f b) → Played found_tree (sized_row (p >>= λ c. result (truth (f c)))) k (Ok (Some e)) k1
row_truth p f k k1 b e h q =
    subst (λ z. Played found_tree (sized_row (p >>= λ c. result (truth (f c)))) k (Ok (Some z)) k1) (sym q)
    (row_gives _ k k1 (truth_symbol (f b)) (plays_bind p _ h (plays_done_is (ap Some (sym (truth_plain (f b)))))) (truth_fits (f b)) (truth_honest k1 (f b)))

-- ---- what is honest

pub rule_honest : (k : Evaluator) (p : Stamped) (o : Option Rule) (r : Rule) → ((ms : List Stamped) → IsFrom ms p → MaybeRuleFrom ms o) → o ≡ Some r → Honest k p → HonestRule k.store r
rule_honest k p o r f e h =
    let g : (ms : List Stamped) → IsFrom ms p → IsRuleFrom ms r = λ ms m. subst (MaybeRuleFrom ms) e (f ms m) in
    (passed_honest k.store p r.left (λ ms m. (g ms m).0) h, passed_honest k.store p r.body (λ ms m. (g ms m).1) h)

-- a list, and a node, of these
pub listed_honest : (k : Evaluator) (es us : List Stamped) (r : Result Stamped ExprFault) → es ≡ us → IfOk r (λ e. e ≡ stamped.node None (stamped.symbol None (codes "List")) (stamped.from_list es)) → AllHonest k us → IfOk r (Honest k)
listed_honest k es us r q h a =
    if_ok_more r (λ e. e ≡ stamped.node None (stamped.symbol None (codes "List")) (stamped.from_list es)) (Honest k)
    (λ e w. subst (Honest k) (sym w) (built_honest k.store (stamped.symbol None (codes "List")) es tt (subst (AllHonest k) (sym q) a))) h

pub node_honest : (k : Evaluator) (g : Stamped) (es us : List Stamped) (r : Result Stamped ExprFault) → es ≡ us → IfOk r (λ e. e ≡ stamped.node None g (stamped.from_list es)) → Honest k g → AllHonest k us → IfOk r (Honest k)
node_honest k g es us r q h m a =
    if_ok_more r (λ e. e ≡ stamped.node None g (stamped.from_list es)) (Honest k) (λ e w. subst (Honest k) (sym w) (built_honest k.store g es m (subst (AllHonest k) (sym q) a))) h

-- ---- DeleteCases

-- of another number of elements than two it stays
pub delete_one : (x : Tree) → delete_cases_row (x ∷ []) ≡ unchanged
delete_one (num n) = refl
delete_one (text s) = refl
delete_one (symbol x) = refl
delete_one (node h ts) = refl

pub delete_many : (x y z : Tree) (ts : List Tree) → delete_cases_row (x ∷ y ∷ z ∷ ts) ≡ unchanged
delete_many (num n) y z ts = refl
delete_many (text s) y z ts = refl
delete_many (symbol x) y z ts = refl
delete_many (node h us) y z ts = refl

pub delete_atom : (e p : Tree) → ((h : Tree) (ts : Trees) → e ≡ node h ts → ⊥) → delete_cases_row (e ∷ p ∷ []) ≡ result e
delete_atom (num n) p f = refl
delete_atom (text s) p f = refl
delete_atom (symbol x) p f = refl
delete_atom (node h ts) p f = absurd (f h ts refl)

pub delete_node : (e p h : Tree) (es : List Stamped) → node h (plains (stamped.from_list es)) ≡ e → delete_cases_row (e ∷ p ∷ []) ≡ (unmatched [] p (trees es) >>= λ us. result (applied h us))
delete_node e p h es q =
    ap (λ z. delete_cases_row (z ∷ p ∷ [])) (sym q) ∙ ap (λ ts. unmatched [] p ts >>= λ us. result (applied h us)) (list_of_plains es)

-- ---- a count

num_honest : (k : Evaluator) (e : Stamped) (n : ℕ) → plain e ≡ natural n → Honest k e
num_honest k (stamped.num m) n q = tt
num_honest k (stamped.text s) n q = absurd (let w : text s ≡ natural n = q in cc)
num_honest k (stamped.symbol p x) n q = absurd (let w : symbol x ≡ natural n = q in cc)
num_honest k (stamped.node p h ts) n q = absurd (let w : node (plain h) (plains ts) ≡ natural n = q in cc)

pub row_count : (p : Prog ℕ) (k k1 : Evaluator) (n : ℕ) (e : Stamped) → Plays p k (Ok n) k1 false → plain e ≡ natural n → Played found_tree (sized_row (p >>= λ c. result (natural c))) k (Ok (Some e)) k1
row_count p k k1 n e h q =
    row_gives _ k k1 e (plays_bind p _ h (plays_done_is (ap Some (sym q)))) (subst (λ t. fits t ≡ true) (sym q) refl) (num_honest k1 e n q)
