-- Honest parts and wholes, and the values of the elements of a node.
use Rattle.std.proofs.Common.{◌≡◌, Bool, true, false, List, [], ◌∷◌, ◌++◌, Option, Some, None, Result, refl, sym, ap, subst, append_assoc, append-nil}
use Rattle.std.proofs.lemmas.List.Elements.{All-nil, All-cons, All-head, All-tail}
use Rattle.std.specs.List.{All}
use Rattle.wl_expr.specs.Passed.{IsFrom, AllAtStamps}
use Rattle.wl_expr.specs.Stamped as stamped
use Rattle.wl_expr.specs.Stamped.{Stamped, Stampeds, plain, plains, from_list, stamp_of}
use Rattle.wl_expr.specs.Tree as tree
use Rattle.wl_expr.specs.Tree.{Tree}
use Rattle.wl_expr.specs.declared.stamp.Stamp.{Stamp}
use Rattle.wl_expr.proofs.Passing.{at_stamps_passed}
use Rattle.wl_rules.specs.Attributes.{AttributeSet}
use Rattle.wl_rules.specs.Stored.{Stored}
use Rattle.wl_semantics.specs.State.{End}
use Rattle.wl_semantics.specs.Prog.{Prog}
use Rattle.wl_semantics.specs.Elements.{stays_held}
use Rattle.wl_semantics.specs.Settled.{Unless}
use Rattle.wl_state.specs.Honest.{IsTrueTop, HonestIn}
use Rattle.wl_state.specs.Played.{Plays, Honest, AllHonest, Inside, AtEvaluated, trees}
use Rattle.wl_state.specs.declared.evaluator.Evaluator.{Evaluator}
use Rattle.wl_state.proofs.Rows.{inside_later}

-- ---- parts and wholes

-- the elements are honest
abbrev pub AreHonest : Stored → Stampeds → Type 0
AreHonest a ts = AllAtStamps (λ u. IsTrueTop a (stamp_of u) (plain u)) ts

node_honest : (a : Stored) (p : Option Stamp) (h : Stamped) (ts : Stampeds) → HonestIn a (stamped.node p h ts) → HonestIn a h × AreHonest a ts
node_honest a None h ts x = x
node_honest a (Some p) h ts x = (x.1, x.2)

list_honest : (a : Stored) (es : List Stamped) → AreHonest a (from_list es) → All (HonestIn a) es
list_honest a [] h = All-nil (HonestIn a)
list_honest a (e ∷ es) h = All-cons (HonestIn a) e es h.0 (list_honest a es h.1)

pub head_honest : (a : Stored) (p : Option Stamp) (h : Stamped) (es : List Stamped) (e : Stamped) → stamped.node p h (from_list es) ≡ e → HonestIn a e → HonestIn a h
head_honest a p h es e q x = (node_honest a p h (from_list es) (subst (HonestIn a) (sym q) x)).0

pub args_honest : (a : Stored) (p : Option Stamp) (h : Stamped) (es : List Stamped) (e : Stamped) → stamped.node p h (from_list es) ≡ e → HonestIn a e → All (HonestIn a) es
args_honest a p h es e q x = list_honest a es (node_honest a p h (from_list es) (subst (HonestIn a) (sym q) x)).1

are_honest : (a : Stored) (es : List Stamped) → All (HonestIn a) es → AreHonest a (from_list es)
are_honest a [] h = tt
are_honest a (e ∷ es) h = (All-head (HonestIn a) e es h, are_honest a es (All-tail (HonestIn a) e es h))

-- a node that is built of honest parts, without a stamp of its own
pub built_honest : (a : Stored) (h : Stamped) (es : List Stamped) → HonestIn a h → All (HonestIn a) es → HonestIn a (stamped.node None h (from_list es))
built_honest a h es x y = (x, are_honest a es y)

-- what hands on stamps and makes none
pub passed_honest : (a : Stored) (e r : Stamped) → ((ms : List Stamped) → IsFrom ms e → IsFrom ms r) → HonestIn a e → HonestIn a r
passed_honest a e r f h = at_stamps_passed _ e r f h

-- what makes no stamp and is handed none
pub new_honest : (a : Stored) (r : Stamped) → ((ms : List Stamped) → IsFrom ms r) → HonestIn a r
new_honest a r f = at_stamps_passed _ (stamped.text []) r (λ ms h. f ms) tt

pub plains_trees : (es : List Stamped) → plains (from_list es) ≡ tree.from_list (trees es)
plains_trees [] = refl
plains_trees (e ∷ es) = ap (λ z. tree.more (plain e) z) (plains_trees es)

pub list_of_plains : (es : List Stamped) → tree.to_list (plains (from_list es)) ≡ trees es
list_of_plains [] = refl
list_of_plains (e ∷ es) = ap (λ z. plain e ∷ z) (list_of_plains es)

-- ---- elements that a turn evaluates

pub unless_held : (A : Type 0) (b h : Bool) → h ≡ true → Unless b h A
unless_held A true h e = tt
unless_held A false true e = tt
unless_held A false false e = absurd (cc)

pub unless_given : {A : Type 0} (b h : Bool) → A → Unless b h A
unless_given true h x = tt
unless_given false true x = tt
unless_given false false x = x

pub unless_more : {A B : Type 0} (b h : Bool) → (A → B) → Unless b h A → Unless b h B
unless_more true h f x = tt
unless_more false true f x = tt
unless_more false false f x = f x

-- under HoldAllComplete none is evaluated
pub none_evaluated : (P : Stamped → Type 0) (a : AttributeSet) (vs : List Tree) (xs : Stampeds) → a.hold_all_complete ≡ true → AtEvaluated P a vs xs
none_evaluated P a vs stamped.none h = tt
none_evaluated P a vs (stamped.more x xs) h = (subst (λ b. Unless b (stays_held a vs (plain x)) (P x)) (sym h) tt, none_evaluated P a (vs ++ plain x ∷ []) xs h)

-- one more behind
pub evaluated_push : (P : Stamped → Type 0) (a : AttributeSet) (vs : List Tree) (xs : List Stamped) (x : Stamped) → AtEvaluated P a vs (from_list xs) → Unless a.hold_all_complete (stays_held a (vs ++ trees xs) (plain x)) (P x)
    → AtEvaluated P a vs (from_list (xs ++ x ∷ []))
evaluated_push P a vs [] x h u = (subst (λ z. Unless a.hold_all_complete (stays_held a z (plain x)) (P x)) (append-nil vs) u, tt)
evaluated_push P a vs (y ∷ ys) x h u =
    (h.0, evaluated_push P a (vs ++ plain y ∷ []) ys x h.1 (subst (λ z. Unless a.hold_all_complete (stays_held a z (plain x)) (P x)) (sym (append_assoc vs (plain y ∷ []) (trees ys))) u))

pub evaluated_later : {R : Type 0} {p : Prog R} {k k1 : Evaluator} {r : Result R End} {o : Bool} → Plays p k r k1 o → (a : AttributeSet) (vs : List Tree) (xs : List Stamped) → AllHonest k xs
    → AtEvaluated (Inside k k.depth) a vs (from_list xs) → AtEvaluated (Inside k1 k1.depth) a vs (from_list xs)
evaluated_later h a vs [] e i = tt
evaluated_later {k = k} h a vs (x ∷ xs) e i = (
  unless_more a.hold_all_complete (stays_held a vs (plain x)) (inside_later h x (All-head (Honest k) x xs e)) i.0,
  evaluated_later h a (vs ++ plain x ∷ []) xs (All-tail (Honest k) x xs e) i.1,
)
