-- Left sides: the condition that moves there, cores that need not fit, and how a left side is prepared.
use Rattle.std.proofs.Common.{◌≡◌, Bool, true, false, ◌||◌, List, [], ◌∷◌, length, map, get_or, Option, Some, None, Result, Ok, Err, refl, sym, ap, ap₂, ◌∙◌, subst, subst₂, arith, true≢false}
use Rattle.std.proofs.lemmas.Result.{err_from_is_err_and}
use Rattle.std.specs.Result.{IsErrAnd}
use Rattle.std.specs.Borrow.{Bor}
use Rattle.std.specs.Prelude.{IfSome, codes}
use Rattle.wl_assign.specs.Core.{core, is_held, is_around}
use Rattle.wl_expr.specs.Special as special
use Rattle.wl_expr.specs.Special.{Special, condition, special_node, special_named}
use Rattle.wl_expr.specs.Stamped.{Stamped, plain, plains, from_list}
use Rattle.wl_expr.specs.Tree as tree
use Rattle.wl_expr.specs.Tree.{Tree, Trees, IsWithinLimits, num, text, symbol, node, none, more, to_list, to_list_from_list}
use Rattle.wl_expr.specs.Words.{applied, fits, is_node, is_the}
use Rattle.wl_expr.specs.declared.fault.ExprFault.{ExprFault}
use Rattle.wl_expr.specs.declared.fault.ExprFault.TheVariants as fault
use Rattle.wl_expr.proofs.Small.{fits_decides, large_head, large_args}
use Rattle.wl_rules.specs.Attributes.{AttributeSet, no_attributes}
use Rattle.wl_shape.specs.Answers.{IsShaped, plain_shaped}
use Rattle.wl_shape.specs.Shape.{Shaped, rebuilt, threaded, uneven, shape, shaped_tree, spliced_list, without_sequences}
use Rattle.wl_shape.specs.declared.arrangement.Shaped as code
use Rattle.wl_shape.specs.declared.arrangement.Shaped.TheVariants as variant
use Rattle.wl_semantics.specs.State.{End}
use Rattle.wl_semantics.specs.Prog.{Prog, done, ◌>>=◌, attributes_of, sized}
use Rattle.wl_semantics.specs.Elements.{evaluated}
use Rattle.wl_semantics.specs.Definitions.{evaluated_core, core_of, prepared}
use Rattle.wl_semantics.specs.LeftSides.{moved, moved_condition, with_core}
use Rattle.wl_semantics.specs.Match.{is_condition}
use Rattle.wl_state.specs.Played.{Makes, Honest, HonestMaybe, Played, Plays, Seen, built, honest_tree, trees, values}
use Rattle.wl_state.specs.Prepared.{MadeBy, Stands, kept_sequences, prepared_side, sides_by, under}
use Rattle.wl_state.specs.declared.left_sides.Prepared.{Prepared}
use Rattle.wl_state.specs.declared.evaluator.Evaluator.{Evaluator}
use Rattle.wl_state.specs.declared.ends.Stop.{Stop}
use Rattle.wl_state.proofs.Answering.{beyond}
use Rattle.wl_state.proofs.Guarding.{condition_is}
use Rattle.wl_state.proofs.Playing.{plays_bind, plays_done}
use Rattle.wl_state.proofs.Matches.{exit}
use Rattle.wl_state.proofs.Rounds.{plays_no_attributes}
use Rattle.wl_state.proofs.Rows.{later, played_bind, played_stop}
use Rattle.wl_state.proofs.Values.{list_of_plains}

-- ---- the condition of a right side

abbrev is_it : Special → Bool
is_it k = elim k [ condition ↦ true | _ ↦ false ]

unmoved_node : (l v : Tree) (k : Special) (ts : List Tree) → is_it k ≡ false → moved l v k ts ≡ sides_by l v None
unmoved_node l v special.ordinary ts e = refl
unmoved_node l v special.blank ts e = refl
unmoved_node l v special.blank_sequence ts e = refl
unmoved_node l v special.blank_null_sequence ts e = refl
unmoved_node l v special.named ts e = refl
unmoved_node l v special.pattern_test ts e = refl
unmoved_node l v special.condition ts e = absurd (true≢false e)
unmoved_node l v special.hold_pattern ts e = refl
unmoved_node l v special.optional ts e = refl
unmoved_node l v special.alternatives ts e = refl
unmoved_node l v special.repeated ts e = refl
unmoved_node l v special.repeated_null ts e = refl
unmoved_node l v special.verbatim ts e = refl
unmoved_node l v special.except ts e = refl

pub unmoved : (l t : Tree) → false ≡ is_condition t → moved_condition l t ≡ sides_by l t None
unmoved l (num n) e = refl
unmoved l (text s) e = refl
unmoved l (symbol x) e = refl
unmoved l (node h ts) e = unmoved_node l (node h ts) (special_node h (to_list ts)) (to_list ts) (sym e)

is_the_condition : (k : Special) → is_it k ≡ true → k ≡ condition
is_the_condition special.condition e = refl
is_the_condition special.ordinary e = absurd (true≢false (sym e))
is_the_condition special.blank e = absurd (true≢false (sym e))
is_the_condition special.blank_sequence e = absurd (true≢false (sym e))
is_the_condition special.blank_null_sequence e = absurd (true≢false (sym e))
is_the_condition special.named e = absurd (true≢false (sym e))
is_the_condition special.pattern_test e = absurd (true≢false (sym e))
is_the_condition special.hold_pattern e = absurd (true≢false (sym e))
is_the_condition special.optional e = absurd (true≢false (sym e))
is_the_condition special.alternatives e = absurd (true≢false (sym e))
is_the_condition special.repeated e = absurd (true≢false (sym e))
is_the_condition special.repeated_null e = absurd (true≢false (sym e))
is_the_condition special.verbatim e = absurd (true≢false (sym e))
is_the_condition special.except e = absurd (true≢false (sym e))

moved_both : (l h x y : Tree) → is_condition (node h (more x (more y none))) ≡ true → moved_condition l (node h (more x (more y none))) ≡ sides_by l x (Some y)
moved_both l h x y e = ap (λ k. moved l (node h (more x (more y none))) k (x ∷ y ∷ [])) (is_the_condition (special_node h (x ∷ y ∷ [])) e)

pub moved_two : (l h t : Tree) (xs : List Stamped) (a b d e : Stamped) → node h (plains (from_list xs)) ≡ t → length xs ≡ 2 → is_the (codes "Condition") h ≡ true → a ≡ get_or xs 0 d → b ≡ get_or xs 1 e
    → moved_condition l t ≡ sides_by l (plain a) (Some (plain b))
moved_two l h t [] a b d e q n c f g = absurd (omega (arith, n))
moved_two l h t (x ∷ []) a b d e q n c f g = absurd (omega (arith, n))
moved_two l h t (x ∷ y ∷ []) a b d e q n c f g =
    ap (moved_condition l) (sym q) ∙ moved_both l h (plain x) (plain y) (sym (sym c ∙ condition_is h (node h (plains (from_list (x ∷ y ∷ [])))) (x ∷ y ∷ []) refl n))
    ∙ ap₂ (λ (u v : Stamped). sides_by l (plain u) (Some (plain v))) (sym f) (sym g)
moved_two l h t (x ∷ y ∷ z ∷ zs) a b d e q n c f g = absurd (omega (arith, n))

-- ---- what doesn't fit

not_within : (t : Tree) → fits t ≡ false → ¬ IsWithinLimits t
not_within t e w = true≢false (sym ((fits_decides t).1 w) ∙ e)

pub unfit_head : (h : Tree) (ts : Trees) → fits h ≡ false → fits (node h ts) ≡ false
unfit_head h ts e = beyond (node h ts) (large_head h ts (not_within h e))

pub unfit_first : (h t : Tree) (ts : Trees) → fits t ≡ false → fits (node h (more t ts)) ≡ false
unfit_first h t ts e = beyond (node h (more t ts)) (large_args h (more t ts) (λ s. not_within t e record { light = omega (arith, s.light); shallow = omega (arith, s.shallow) }))

pub unfit_second : (h t u : Tree) (ts : Trees) → fits u ≡ false → fits (node h (more t (more u ts))) ≡ false
unfit_second h t u ts e = beyond (node h (more t (more u ts))) (large_args h (more t (more u ts)) (λ s. not_within u e record { light = omega (arith, s.light); shallow = omega (arith, s.shallow) }))

pub unfit_within : (l c : Tree) → fits c ≡ false → fits (with_core l c) ≡ false
unfit_within (num n) c e = e
unfit_within (text s) c e = e
unfit_within (symbol x) c e = e
unfit_within (node h none) c e = e
unfit_within (node h (more l ts)) c e = go (is_around (special_node h (to_list (more l ts)))) (unfit_within l c e)
  where
    go : (b : Bool) → fits (with_core l c) ≡ false → fits (elim b [ true ↦ node h (more (with_core l c) ts) | false ↦ c ]) ≡ false
    go true w = unfit_first h (with_core l c) ts w
    go false w = e

-- ---- sequences among elements

pub shape_kept : (b : Bool) (h : Tree) (es : List Tree) → shape (kept_sequences b) h es ≡ rebuilt (applied h (elim b [ true ↦ es | false ↦ spliced_list (symbol (codes "Sequence")) es ]))
shape_kept true h es = refl
shape_kept false h es = refl

abbrev pub expression : code.Shaped → Stamped
expression (variant.Node e) = e
expression (variant.Threaded e) = e
expression (variant.Uneven e) = e

is_rebuilt : (s : code.Shaped) (t : Tree) → plain_shaped s ≡ rebuilt t → plain (expression s) ≡ t
is_rebuilt (variant.Node e) t q = let w : rebuilt (plain e) ≡ rebuilt t = q in cc
is_rebuilt (variant.Threaded e) t q = absurd (let w : threaded (plain e) ≡ rebuilt t = q in cc)
is_rebuilt (variant.Uneven e) t q = absurd (let w : uneven (plain e) ≡ rebuilt t = q in cc)

pub opened_is : (a : AttributeSet) (h : Tree) (es : List Tree) (r : Result code.Shaped ExprFault) (s : code.Shaped) → r ≡ Ok s → IsShaped (shape (kept_sequences (a.sequence_hold || a.hold_all_complete)) h es) r
    → plain (expression s) ≡ applied h (without_sequences a es)
opened_is a h es r s q i = is_rebuilt s (applied h (without_sequences a es)) ((subst (λ z. IsShaped (shape (kept_sequences (a.sequence_hold || a.hold_all_complete)) h es) z) q i).is.0 ∙ shape_kept (a.sequence_hold || a.hold_all_complete) h es)

pub opened_fault : (a : AttributeSet) (h : Tree) (es : List Tree) (r : Result code.Shaped ExprFault) (f : ExprFault) → r ≡ Err f → IsShaped (shape (kept_sequences (a.sequence_hold || a.hold_all_complete)) h es) r
    → Makes (applied h (without_sequences a es)) (Err f)
opened_fault a h es r fault.Memory q i = tt
opened_fault a h es r fault.Large q i = beyond (applied h (without_sequences a es)) (subst (λ (s : Shaped). ¬ IsWithinLimits (shaped_tree s)) (shape_kept (a.sequence_hold || a.hold_all_complete) h es) (i.large q))

-- ---- cores that need not fit

pub made_none : (h : Tree) (es : List Tree) (o : Option Stamped) → o ≡ None → Stands h o → Stands (applied h es) None
made_none h es o e s = (unfit_head h (tree.from_list es) (subst (Stands h) e s).0, refl)

pub made_some : (h : Tree) (o : Option Stamped) (e : Stamped) → o ≡ Some e → Stands h o → plain e ≡ h
made_some h o e q s = subst (Stands h) q s

-- ---- how a core is evaluated

pub made_stop : {X A : Type 0} (seen : Seen X A) (p : Prog A) (f : A → Prog Tree) (k k1 : Evaluator) (r : Result (Option Stamped) Stop) (e : Stop) → IsErrAnd r (λ d. d ≡ e) → Played seen p k (Err e) k1 → MadeBy (p >>= f) k r k1
made_stop seen p f k k1 r e h m = let q = err_from_is_err_and r h in subst (λ z. MadeBy (p >>= f) k z k1) (sym (q.1 ∙ ap Err q.2)) (played_stop seen honest_tree p f k e k1 m)

pub made_bind : {A : Type 0} (p : Prog A) (f : A → Prog Tree) (k k1 : Evaluator) (a : A) (r : Result (Option Stamped) Stop) (k2 : Evaluator) → Plays p k (Ok a) k1 false → MadeBy (f a) k1 r k2 → MadeBy (p >>= f) k r k2
made_bind p f k k1 a (Ok o) k2 h m = (m.0, plays_bind p f h m.1, m.2, m.3)
made_bind p f k k1 a (Err e) k2 h m = played_bind honest_tree p f k k1 a (Err e) k2 h m

pub made_done : (t : Tree) (k : Evaluator) (o : Option Stamped) → Stands t o → HonestMaybe k o → MadeBy (done t) k (Ok o) k
made_done t k o s h = (t, plays_done, s, h)

pub core_leaf : (t : Tree) → is_node t ≡ false → evaluated_core t ≡ done t
unfolding evaluated_core
core_leaf (num n) e = refl
core_leaf (text s) e = refl
core_leaf (symbol x) e = refl
core_leaf (node h ts) e = absurd (true≢false e)

abbrev pub core_with : List Tree → Tree → Prog Tree
core_with es k = attributes_of k >>= λ a. evaluated a es >>= λ vs. done (applied k (without_sequences a vs))

pub core_node : (h : Tree) (ts : Trees) → evaluated_core (node h ts) ≡ (evaluated_core h >>= core_with (to_list ts))
unfolding evaluated_core
core_node h ts = refl

-- ---- how a left side is prepared

pub core_under : (o : Option Tree) (l : Tree) → core_of (under o l) ≡ core_of l
core_under None l = refl
core_under (Some c) l = refl

pub within_under : (o : Option Tree) (l c : Tree) → with_core (under o l) c ≡ under o (with_core l c)
within_under None l c = refl
within_under (Some d) l c = refl

pub held_core : (l : Tree) → is_held l ≡ true → core_of l ≡ done (core l)
held_core l e = ap (λ b. elim b [ true ↦ done (core l) | false ↦ evaluated_core (core l) ]) e

pub open_core : (l : Tree) → is_held l ≡ false → core_of l ≡ evaluated_core (core l)
open_core l e = ap (λ b. elim b [ true ↦ done (core l) | false ↦ evaluated_core (core l) ]) e

-- the left side around a core
pub within_form : (h : Tree) (l : Stamped) (ts : List Stamped) (c : Tree) → is_around (special_node h (map plain (l ∷ ts))) ≡ true → with_core (node h (plains (from_list (l ∷ ts)))) c ≡ node h (more (with_core (plain l) c) (plains (from_list ts)))
within_form h l ts c e =
    ap (λ us. elim (is_around (special_node h (plain l ∷ us))) [ true ↦ node h (more (with_core (plain l) c) (plains (from_list ts))) | false ↦ c ]) (list_of_plains ts)
    ∙ ap (λ b. elim b [ true ↦ node h (more (with_core (plain l) c) (plains (from_list ts))) | false ↦ c ]) e

-- the same, where the elements were read
abbrev around_by : Bool → Tree → Tree → Trees → Tree → Tree
around_by true h u us c = node h (more u us)
around_by false h u us c = c

around_is : (b : Bool) (h u c : Tree) (us : Trees) → elim b [ true ↦ node h (more u us) | false ↦ c ] ≡ around_by b h u us c
around_is true h u c us = refl
around_is false h u c us = refl

pub around_read : (t h : Tree) (x : Stamped) (xs es : List Stamped) (b : Bool) (c : Tree) → xs ≡ x ∷ es → node h (plains (from_list xs)) ≡ t → b ≡ is_around (special_node h (map plain xs)) → with_core t c ≡ around_by b h (with_core (plain x) c) (plains (from_list es)) c
around_read t h x xs es b c e q s =
    sym (ap (λ z. with_core z c) (sym (ap (λ zs. node h (plains (from_list zs))) e) ∙ q))
    ∙ around_is (is_around (special_node h (to_list (plains (from_list (x ∷ es)))))) h (with_core (plain x) c) c (plains (from_list es))
    ∙ ap (λ us. around_by (is_around (special_node h (plain x ∷ us))) h (with_core (plain x) c) (plains (from_list es)) c) (list_of_plains es)
    ∙ ap (λ zs. around_by (is_around (special_node h (map plain zs))) h (with_core (plain x) c) (plains (from_list es)) c) (sym e)
    ∙ ap (λ z. around_by z h (with_core (plain x) c) (plains (from_list es)) c) (sym s)

-- a core that doesn't fit, or for which memory ran out
pub around_fault : (h u : Tree) (us : Trees) (f : ExprFault) → Makes u (Err f) → Makes (node h (more u us)) (Err f)
around_fault h u us fault.Memory m = tt
around_fault h u us fault.Large m = unfit_first h u us m

-- ---- the functions that evaluate a core

not_node : (t : Tree) → ((h : Tree) (ts : Trees) → t ≡ node h ts → ⊥) → is_node t ≡ false
not_node (num n) f = refl
not_node (text s) f = refl
not_node (symbol x) f = refl
not_node (node h ts) f = absurd (f h ts refl)

pub leaf_core : (c e : Stamped) (k : Evaluator) → ((h : Tree) (ts : Trees) → plain c ≡ node h ts → ⊥) → e ≡ c → Honest k c → MadeBy (evaluated_core (plain c)) k (Ok (Some e)) k
leaf_core c e k n q h =
    (plain c, subst (λ p. Plays p k (Ok (plain c)) k false) (sym (core_leaf (plain c) (not_node (plain c) n))) plays_done, ap plain q, subst (Honest k) (sym q) h)

pub node_core : (h c : Tree) (ts : List Stamped) (k k1 : Evaluator) (r : Result (Option Stamped) Stop) → node h (plains (from_list ts)) ≡ c → MadeBy (evaluated_core h >>= core_with (trees ts)) k r k1 → MadeBy (evaluated_core c) k r k1
node_core h c ts k k1 r q m =
    subst (λ z. MadeBy (evaluated_core z) k r k1) q
    (subst (λ p. MadeBy p k r k1) (sym (core_node h (plains (from_list ts)) ∙ ap (λ us. evaluated_core h >>= core_with us) (list_of_plains ts))) m)

pub head_stop : (h c : Tree) (ts : List Stamped) (k k1 : Evaluator) (r : Result (Option Stamped) Stop) (e : Stop) → node h (plains (from_list ts)) ≡ c → IsErrAnd r (λ d. d ≡ e) → Played honest_tree (evaluated_core h) k (Err e) k1 → MadeBy (evaluated_core c) k r k1
head_stop h c ts k k1 r e q i m = node_core h c ts k k1 r q (made_stop honest_tree (evaluated_core h) (core_with (trees ts)) k k1 r e i m)

pub values_stop : (h c : Tree) (ts : List Stamped) (a : AttributeSet) (k k1 k2 k3 : Evaluator) (t : Tree) (r : Result (Option Stamped) Stop) (e : Stop) → node h (plains (from_list ts)) ≡ c → Plays (evaluated_core h) k (Ok t) k1 false → Plays (attributes_of t) k1 (Ok a) k2 false
    → IsErrAnd r (λ d. d ≡ e) → Played (values a) (evaluated a (trees ts)) k2 (Err e) k3 → MadeBy (evaluated_core c) k r k3
values_stop h c ts a k k1 k2 k3 t r e q m w i x =
    node_core h c ts k k3 r q
    (made_bind (evaluated_core h) (core_with (trees ts)) k k1 t r k3 m
    (made_bind (attributes_of t) (λ b. evaluated b (trees ts) >>= λ es. done (applied t (without_sequences b es))) k1 k2 a r k3 w
    (made_stop (values a) (evaluated a (trees ts)) (λ es. done (applied t (without_sequences a es))) k2 k3 r e i x)))

pub core_done : (h c : Tree) (ts vs : List Stamped) (a : AttributeSet) (k k1 k2 k3 : Evaluator) (t : Tree) (o : Option Stamped) → node h (plains (from_list ts)) ≡ c → Plays (evaluated_core h) k (Ok t) k1 false → Plays (attributes_of t) k1 (Ok a) k2 false → Plays (evaluated a (trees ts)) k2 (Ok (trees vs)) k3 false
    → Stands (applied t (without_sequences a (trees vs))) o → HonestMaybe k3 o → MadeBy (evaluated_core c) k (Ok o) k3
core_done h c ts vs a k k1 k2 k3 t o q m w x s y =
    node_core h c ts k k3 (Ok o) q
    (made_bind (evaluated_core h) (core_with (trees ts)) k k1 t (Ok o) k3 m
    (made_bind (attributes_of t) (λ b. evaluated b (trees ts) >>= λ es. done (applied t (without_sequences b es))) k1 k2 a (Ok o) k3 w
    (made_bind (evaluated a (trees ts)) (λ es. done (applied t (without_sequences a es))) k2 k3 (trees vs) (Ok o) k3 x (made_done (applied t (without_sequences a (trees vs))) k3 o s y))))

-- a head that doesn't fit is no symbol
pub unfit_attributes : (t : Tree) (k : Evaluator) (a : AttributeSet) → is_node t ≡ true → a ≡ no_attributes → Plays (attributes_of t) k (Ok a) k false
unfit_attributes t k a n q = plays_no_attributes t a k (λ x e. true≢false (sym n ∙ ap is_node e)) q

pub held_made : (l : Tree) (e : Stamped) (k : Evaluator) → is_held l ≡ true → plain e ≡ core l → Honest k e → MadeBy (core_of l) k (Ok (Some e)) k
held_made l e k b q h = subst (λ p. MadeBy p k (Ok (Some e)) k) (sym (held_core l b)) (core l, plays_done, q, h)

pub open_made : (l c : Tree) (k k1 : Evaluator) (r : Result (Option Stamped) Stop) → is_held l ≡ false → c ≡ core l → MadeBy (evaluated_core c) k r k1 → MadeBy (core_of l) k r k1
open_made l c k k1 r b q m = subst (λ p. MadeBy p k r k1) (sym (open_core l b)) (subst (λ z. MadeBy (evaluated_core z) k r k1) q m)

-- an honest condition is so later
pub condition_later : {R : Type 0} {p : Prog R} {k k1 : Evaluator} {r : Result R End} {o : Bool} → Plays p k r k1 o → (c : Option (Bor Stamped)) → IfSome c (λ e. Honest k e.now) → IfSome c (λ e. Honest k1 e.now)
condition_later x None h = tt
condition_later x (Some e) h = later x e.now h

-- ---- the function that prepares a left side

module _ (o : Option Tree) (l : Tree) (k : Evaluator) where
  pub prepared_stop : (r : Result Prepared Stop) (e : Stop) (k1 : Evaluator) → IsErrAnd r (λ d. d ≡ e) → Played honest_tree (core_of l) k (Err e) k1 → Played prepared_side (prepared (under o l)) k r k1
  prepared_stop r e k1 h m = exit honest_tree prepared_side (core_of (under o l)) _ k k1 r e h (subst (λ p. Played honest_tree p k (Err e) k1) (sym (core_under o l)) m)

  module _ (t : Tree) (k1 : Evaluator) (p : Plays (core_of l) k (Ok t) k1 false) where
    core_plays : Plays (core_of (under o l)) k (Ok t) k1 false
    core_plays = subst (λ q. Plays q k (Ok t) k1 false) (sym (core_under o l)) p

    pub unsized_stop : (r : Result Prepared Stop) (e : Stop) (k2 : Evaluator) → IsErrAnd r (λ d. d ≡ e) → Played (built (with_core (under o l) t)) (sized (with_core (under o l) t)) k1 (Err e) k2 → Played prepared_side (prepared (under o l)) k r k2
    unsized_stop r e k2 h m = played_bind prepared_side (core_of (under o l)) _ k k1 t r k2 core_plays (exit (built (with_core (under o l) t)) prepared_side (sized (with_core (under o l) t)) _ k1 k2 r e h m)

    pub sides_given : (left e : Stamped) (k2 : Evaluator) → Plays (sized (with_core (under o l) t)) k1 (Ok tt) k2 false → plain left ≡ with_core (under o l) t → plain e ≡ t → Plays (prepared (under o l)) k (Ok (record { left = plain left; core = plain e })) k2 false
    sides_given left e k2 m q s =
        subst₂ (λ x y. Plays (prepared (under o l)) k (Ok (record { left = x; core = y })) k2 false) (sym q) (sym s)
        (plays_bind (core_of (under o l)) _ core_plays (plays_bind (sized (with_core (under o l) t)) _ m plays_done))
