-- The name of an iterator, and how it gets its values.
use Rattle.std.proofs.Common.{◌≡◌, ℕ, ◌<◌, ◌≤◌, Bool, true, false, ◌&&◌, not, List, [], ◌∷◌, length, get_or, Option, Some, None, Result, Ok, refl, sym, ap, ◌∙◌, subst, arith, if◌then◌else◌, bytes_eq, true≢false}
use Rattle.std.proofs.lemmas.List.{length-map}
use Rattle.std.specs.Prelude.{codes}
use Rattle.wl_control.specs.Iterators.{Iterator, iterator, iterator_of, named_by}
use Rattle.wl_expr.proofs.Parts.{to_list_plains}
use Rattle.wl_expr.specs.Look.{plain_look}
use Rattle.wl_expr.specs.Stamped.{Stamped, plain, from_list, plains}
use Rattle.wl_expr.specs.Tree.{Tree, symbol, node}
use Rattle.wl_expr.specs.Words.{Name, name_of, elements, is_the}
use Rattle.wl_expr.specs.declared.look.Look.{Look}
use Rattle.wl_expr.specs.declared.look.Look.TheVariants as look
use Rattle.std.specs.Borrow.{Bor}
use Rattle.wl_rules.specs.Entries.{with_rules, no_rules, map_rules}
use Rattle.wl_rules.specs.StampedRules.{plain_rule}
use Rattle.wl_rules.specs.Stored.{definitions}
use Rattle.wl_semantics.specs.State.{State, End}
use Rattle.wl_semantics.specs.Prog as prog
use Rattle.wl_semantics.specs.Prog.{Prog, done, ◌>>=◌, asking, doing, put_rule, take_rules, message, is_protected}
use Rattle.wl_semantics.specs.Effects.{acted}
use Rattle.wl_semantics.specs.Eval.{interp}
use Rattle.wl_semantics.specs.Scoping as spec
use Rattle.wl_semantics.specs.Scoping.{set_own}
use Rattle.wl_semantics.specs.Control.{name_before, named_in, iterated_name, may_set, taken_once, set_iterator, give_back_taken}
use Rattle.wl_semantics.specs.LeftSides.{is_limit, limit_allows}
use Rattle.wl_state.specs.Played.{Plays, IsUnprotected, MayHave, trees}
use Rattle.wl_state.specs.Replies.{AreTaken, plain_taken, set_aside}
use Rattle.wl_state.specs.declared.evaluator.Evaluator.{Evaluator}
use Rattle.wl_state.specs.declared.evaluator.Taken.{Taken}
use Rattle.wl_state.proofs.Playing.{plays_bind, plays_done}
use Rattle.wl_state.proofs.Rows.{taken_later}

-- ---- the name

-- the name of an iterator with these elements
abbrev named_of : List Tree → Option Iterator → Option Name
named_of es None = None
named_of es (Some i) = if i.named then name_before es else None

named_as : (t : Tree) (o : Option Iterator) → named_in t o ≡ named_of (elements t) o
named_as t None = refl
named_as t (Some i) = refl

by_name : (o : Option Name) (es bs : List Tree) → name_before es ≡ o → 0 < length bs → length bs ≤ 3 → named_of es (named_by o bs) ≡ o
by_name None es bs e l m = refl
by_name (Some x) es [] e l m = absurd (omega (arith, l))
by_name (Some x) es (a ∷ []) e l m = e
by_name (Some x) es (a ∷ b ∷ []) e l m = e
by_name (Some x) es (a ∷ b ∷ c ∷ []) e l m = e
by_name (Some x) es (a ∷ b ∷ c ∷ d ∷ bs) e l m = absurd (omega (arith, m))

too_few : (es : List Tree) → length es < 2 → named_of es (iterator_of es) ≡ None
too_few [] l = refl
too_few (n ∷ []) l = refl
too_few (n ∷ b ∷ bs) l = absurd (omega (arith, l))

too_many_bounds : (o : Option Name) (es bs : List Tree) → 3 < length bs → named_of es (named_by o bs) ≡ None
too_many_bounds None es bs l = refl
too_many_bounds (Some x) es [] l = absurd (omega (arith, l))
too_many_bounds (Some x) es (a ∷ []) l = absurd (omega (arith, l))
too_many_bounds (Some x) es (a ∷ b ∷ []) l = absurd (omega (arith, l))
too_many_bounds (Some x) es (a ∷ b ∷ c ∷ []) l = absurd (omega (arith, l))
too_many_bounds (Some x) es (a ∷ b ∷ c ∷ d ∷ bs) l = refl

too_many : (es : List Tree) → 4 < length es → named_of es (iterator_of es) ≡ None
too_many [] l = absurd (omega (arith, l))
too_many (n ∷ []) l = absurd (omega (arith, l))
too_many (n ∷ b ∷ bs) l = too_many_bounds (name_of n) (n ∷ b ∷ bs) (b ∷ bs) (omega (arith, l))

of_some : (es : List Tree) (i : Tree) → 2 ≤ length es → length es ≤ 4 → i ≡ get_or es 0 i → named_of es (iterator_of es) ≡ name_of i
of_some [] i l m e = absurd (omega (arith, l))
of_some (n ∷ []) i l m e = absurd (omega (arith, l))
of_some (n ∷ b ∷ bs) i l m e = by_name (name_of n) (n ∷ b ∷ bs) (b ∷ bs) refl (omega arith) (omega (arith, m)) ∙ ap name_of (sym e)

module _ (t h : Tree) (es : List Stamped) (e : node h (plains (from_list es)) ≡ t) where
  in_node : (b : Bool) → is_the (codes "List") h ≡ b → named_in t (iterator t) ≡ named_of (trees es) (if b then iterator_of (trees es) else None)
  in_node b q =
      ap (λ z. named_in z (iterator z)) (sym e) ∙ named_as (node h (plains (from_list es))) (iterator (node h (plains (from_list es))))
      ∙ ap (λ us. named_of us (if is_the (codes "List") h then iterator_of us else None)) (to_list_plains es) ∙ ap (λ z. named_of (trees es) (if z then iterator_of (trees es) else None)) q

  pub in_list : (o : Option Name) → is_the (codes "List") h ≡ true → named_of (trees es) (iterator_of (trees es)) ≡ o → named_in t (iterator t) ≡ o
  in_list o q m = in_node true q ∙ m

  pub in_no_list : is_the (codes "List") h ≡ false → named_in t (iterator t) ≡ None
  in_no_list q = in_node false q

pub in_no_node : (l : Look) (t : Tree) → plain_look l ≡ t → ((h : Bor Stamped) (ts : Bor (List Stamped)) → l ≡ look.Node h ts → ⊥) → named_in t (iterator t) ≡ None
in_no_node (look.Num n) t e h = ap (λ z. named_in z (iterator z)) (sym e)
in_no_node (look.Text s) t e h = ap (λ z. named_in z (iterator z)) (sym e)
in_no_node (look.Symbol s) t e h = ap (λ z. named_in z (iterator z)) (sym e)
in_no_node (look.Node a ts) t e h = absurd (h a ts refl)

pub no_name : (l : Look) (t : Tree) → plain_look l ≡ t → ((s : Bor (List ℕ)) → l ≡ look.Symbol s → ⊥) → name_of t ≡ None
no_name (look.Num n) t e h = ap name_of (sym e)
no_name (look.Text s) t e h = ap name_of (sym e)
no_name (look.Symbol s) t e h = absurd (h s refl)
no_name (look.Node a ts) t e h = ap name_of (sym e)

pub few : (es : List Stamped) → length es < 2 → named_of (trees es) (iterator_of (trees es)) ≡ None
few es l = too_few (trees es) (omega (arith, l, length-map es plain))

pub many : (es : List Stamped) → 4 < length es → named_of (trees es) (iterator_of (trees es)) ≡ None
many es l = too_many (trees es) (omega (arith, l, length-map es plain))

pub first_named : (es : List Stamped) (e : Stamped) → 2 ≤ length es → length es ≤ 4 → e ≡ get_or es 0 e → named_of (trees es) (iterator_of (trees es)) ≡ name_of (plain e)
first_named [] e l m q = absurd (omega (arith, l))
first_named (y ∷ ys) e l m q = of_some (trees (y ∷ ys)) (plain e) (omega (arith, l, length-map ys plain)) (omega (arith, m, length-map ys plain)) (ap plain q)

pub no_second : (es : List Stamped) → length es < 2 → iterated_name (trees es) ≡ None
no_second [] l = refl
no_second (b ∷ []) l = refl
no_second (b ∷ it ∷ its) l = absurd (omega (arith, l))

pub second : (es : List Stamped) (e : Stamped) → 2 ≤ length es → e ≡ get_or es 1 e → named_in (plain e) (iterator (plain e)) ≡ iterated_name (trees es)
second [] e l q = absurd (omega (arith, l))
second (b ∷ []) e l q = absurd (omega (arith, l))
second (b ∷ it ∷ its) e l q = ap (λ z. named_in (plain z) (iterator (plain z))) q

-- ---- whether it gets a value

abbrev sets_limit : Name → Tree → Bool → Prog Bool
sets_limit x v b = elim b [ true ↦ message x (codes "limset") (symbol x ∷ v ∷ []) >>= λ _. done false | false ↦ done true ]

abbrev sets_by : Name → Tree → Bool → Prog Bool
sets_by x v p = elim p [ true ↦ message (codes "Set") (codes "wrsym") (symbol x ∷ []) >>= λ _. done false | false ↦ sets_limit x v (is_limit x && not (limit_allows x v)) ]

module _ (x : Name) (v : Tree) (k k1 k2 : Evaluator) (p : Bool) (h : Plays (is_protected x) k (Ok p) k1 false) where
  may_at : (q r : Bool) (k3 : Evaluator) → p ≡ q → Plays (sets_by x v q) k1 (Ok r) k3 false → Plays (may_set x v) k (Ok r) k3 false
  may_at q r k3 e m = plays_bind (is_protected x) _ h (subst (λ z. Plays (sets_by x v z) k1 (Ok r) k3 false) (sym e) m)

  pub may_not_protected : p ≡ true → Plays (message (codes "Set") (codes "wrsym") (symbol x ∷ [])) k1 (Ok tt) k2 false → Plays (may_set x v) k (Ok false) k2 false
  may_not_protected e m = may_at true false k2 e (plays_bind (message (codes "Set") (codes "wrsym") (symbol x ∷ [])) _ m plays_done)

  pub may_not_limit : p ≡ false → (is_limit x && not (limit_allows x v)) ≡ true → Plays (message x (codes "limset") (symbol x ∷ v ∷ [])) k1 (Ok tt) k2 false → Plays (may_set x v) k (Ok false) k2 false
  may_not_limit e f m = may_at false false k2 e (subst (λ z. Plays (sets_limit x v z) k1 (Ok false) k2 false) (sym f) (plays_bind (message x (codes "limset") (symbol x ∷ v ∷ [])) _ m plays_done))

  pub may_so : p ≡ false → (is_limit x && not (limit_allows x v)) ≡ false → Plays (may_set x v) k (Ok true) k1 false
  may_so e f = may_at false true k1 e (subst (λ z. Plays (sets_limit x v z) k1 (Ok true) k1 false) (sym f) plays_done)

both_so : (a b : Bool) → (a && not b) ≡ false → a ≡ true → b ≡ true
both_so true true h e = refl
both_so true false h e = absurd (true≢false h)
both_so false b h e = absurd (true≢false (sym e))

pub allowed : (x : Name) (v : Tree) → (is_limit x && not (limit_allows x v)) ≡ false → MayHave x v
allowed x v h e = both_so (is_limit x) (limit_allows x v) h e

-- ---- how it gets one

-- its rules are set aside
pub taken_out : (x : Name) (t : Taken) {k k1 : Evaluator} → Plays (asking (take_rules x)) k (Ok (prog.rules (map_rules plain_rule t.rules))) k1 false → Plays (taken_once x None) k (Ok (plain_taken x t)) k1 false
taken_out x t h = plays_bind (asking (take_rules x)) _ h plays_done

-- they take no attribute with them
pub still_unprotected : (x : Name) {k k1 : Evaluator} {a : prog.Answer} → Plays (asking (take_rules x)) k (Ok a) k1 false → IsUnprotected x k → IsUnprotected x k1
unfolding asking interp acted
still_unprotected x {k} h u = sym (ap (λ (s : State). (s.world.definitions x).attributes.protected) h.leaves) ∙ either (bytes_eq x x) ∙ u
  where
    either : (b : Bool) → (if b then with_rules no_rules (definitions k.store x) else definitions k.store x).attributes.protected ≡ (definitions k.store x).attributes.protected
    either true = refl
    either false = refl

abbrev sets_on : Name → Tree → Option spec.Taken → Bool → Prog (Option spec.Taken)
sets_on x v t b = elim b [ true ↦ taken_once x t >>= λ u. set_own x v >>= λ _. done (Some u) | false ↦ done t ]

module _ (x : Name) (v : Tree) (t : Option spec.Taken) {k k1 : Evaluator} (b : Bool) (h : Plays (may_set x v) k (Ok b) k1 false) where
  pub sets_not : b ≡ false → Plays (set_iterator (Some x) v t) k (Ok t) k1 false
  sets_not e = plays_bind (may_set x v) _ h (subst (λ z. Plays (sets_on x v t z) k1 (Ok t) k1 false) (sym e) plays_done)

  pub sets : (u : spec.Taken) {k2 k3 : Evaluator} → b ≡ true → Plays (taken_once x t) k1 (Ok u) k2 false → Plays (set_own x v) k2 (Ok tt) k3 false → Plays (set_iterator (Some x) v t) k (Ok (Some u)) k3 false
  sets u {k2} {k3} e m n = plays_bind (may_set x v) _ h (subst (λ z. Plays (sets_on x v t z) k1 (Ok (Some u)) k3 false) (sym e) (plays_bind (taken_once x t) _ m (plays_bind (set_own x v) _ n plays_done)))

-- ---- what was set aside

pub are_later : {R : Type 0} {p : Prog R} {k k1 : Evaluator} {r : Result R End} {o : Bool} → Plays p k r k1 o → (x : Option Name) (t : Option Taken) → AreTaken k x t → AreTaken k1 x t
are_later h (Some x) (Some t) w = taken_later h x t w
are_later h (Some x) None w = tt
are_later h None t w = tt

-- where it isn't something
pub none_is : {A : Type 0} (o : Option A) → ((a : A) → o ≡ Some a → ⊥) → o ≡ None
none_is None h = refl
none_is (Some a) h = absurd (h a refl)

-- nothing comes back where nothing was set aside, or where there is no name
pub nothing_back : (x : Option Name) (t : Option Taken) (k : Evaluator) → t ≡ None → Plays (give_back_taken (set_aside x t)) k (Ok tt) k false
nothing_back None t k e = plays_done
nothing_back (Some y) t k e = subst (λ z. Plays (give_back_taken (set_aside (Some y) z)) k (Ok tt) k false) (sym e) plays_done

pub nobody_back : (x : Option Name) (t : Option Taken) (k : Evaluator) → x ≡ None → Plays (give_back_taken (set_aside x t)) k (Ok tt) k false
nobody_back x t k e = subst (λ z. Plays (give_back_taken (set_aside z t)) k (Ok tt) k false) (sym e) plays_done
