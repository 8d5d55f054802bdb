-- How Module and Block change entries.
use Rattle.std.proofs.Common.{◌≡◌, ℕ, zero, suc, ◌-◌, ◌/◌, ◌%◌, ◌<◌, ◌≤◌, ◌&&◌, not, Bool, true, false, ◌==◌, List, [], ◌∷◌, ◌++◌, length, map, take, get_or, reverse, Option, Some, None, is_some, option_map, unwrap_or, Result, Ok, refl, sym, ap, ap₂, ◌∙◌, subst, subst₂, arith, bytes_eq}
use Rattle.std.proofs.lemmas.Bool.Decides.{nat_tests}
use Rattle.std.proofs.lemmas.List.{map-append, reverse-append}
use Rattle.std.proofs.lemmas.List.Elements.{All-nil, All-cons, All-head, All-tail, All-push, All-weaker}
use Rattle.std.specs.List.{All}
use Rattle.std.specs.Cmp.Lexicographic.{same_text}
use Rattle.std.specs.Fmt.{digits, digits_onto, digit_glyph}
use Rattle.std.specs.Prelude.{codes, decimal, if◌then◌else◌}
use Rattle.wl_expr.specs.Stamped.{Stamped, plain}
use Rattle.wl_expr.specs.Tree.{Tree, symbol}
use Rattle.wl_expr.specs.Words.{Name, Bytes, count_of, null_symbol}
use Rattle.wl_assign.specs.Limits.{is_within}
use Rattle.wl_rules.specs.Entries.{Definitions, Entry, PlainRule, map_rules, with_entry}
use Rattle.wl_rules.specs.StampedRules.{plain_rule}
use Rattle.wl_rules.specs.Stored.{Stored, definitions}
use Rattle.wl_rules.specs.declared.rule.RuleKind.TheVariants.{Own}
use Rattle.wl_shape.specs.Fill.{numbered}
use Rattle.wl_shape.specs.Scopes as scopes
use Rattle.wl_semantics.specs.State.{State, End}
use Rattle.wl_semantics.specs.Prog.{Prog, Answer, done, ◌>>=◌, asking, doing, message, entry_of, is_protected, take_rules, put_rule, rules}
use Rattle.wl_semantics.specs.Effects.{acted}
use Rattle.wl_semantics.specs.Eval.{interp}
use Rattle.wl_semantics.specs.LeftSides.{is_limit, limit_allows, recursion_limit, iteration_limit}
use Rattle.wl_state.specs.LocalNames.{IsLocal, AreLocals, IsFree, AreFree, AreHeld, Protects, local_in, held_in, name_in}
use Rattle.wl_state.specs.Played.{Plays, Leads, IsTaken}
use Rattle.wl_semantics.specs.Scoping as scoping
use Rattle.wl_state.specs.declared.evaluator.Evaluator.{Evaluator}
use Rattle.wl_state.specs.declared.locals.Local.{Local}
use Rattle.wl_state.specs.declared.scoping.Held.{Held}
use Rattle.wl_state.proofs.Playing.{plays_bind, plays_done, plays_done_is}
use Rattle.wl_state.proofs.Rows.{later, option_later, taken_later}

-- ---- a numbered name is no limit

last_of : ℕ → List ℕ → ℕ
last_of d [] = d
last_of d (c ∷ cs) = last_of c cs

last_append : (d : ℕ) (xs : List ℕ) (y : ℕ) (ys : List ℕ) → last_of d (xs ++ y ∷ ys) ≡ last_of y ys
unfolding last_of
last_append d [] y ys = refl
last_append d (x ∷ xs) y ys = last_append x xs y ys

last_onto : (k n d c : ℕ) (acc : List ℕ) → last_of d (digits_onto k 10 false n (c ∷ acc)) ≡ last_of c acc
unfolding last_of
last_onto zero n d c acc = refl
last_onto (suc k) n d c acc =
    let g = digit_glyph false (n % 10) in
    elim (n / 10 == 0) as (λ (b : Bool). last_of d (if b then g ∷ c ∷ acc else digits_onto k 10 false (n / 10) (g ∷ c ∷ acc)) ≡ last_of c acc) [ true ↦ refl | false ↦ last_onto k (n / 10) d g (c ∷ acc) ]

last_first : (k n d : ℕ) → last_of d (digits_onto (suc k) 10 false n []) ≡ digit_glyph false (n % 10)
unfolding last_of
last_first k n d =
    let g = digit_glyph false (n % 10) in
    elim (n / 10 == 0) as (λ (b : Bool). last_of d (if b then g ∷ [] else digits_onto k 10 false (n / 10) (g ∷ [])) ≡ g) [ true ↦ refl | false ↦ last_onto k (n / 10) d g [] ]

last_decimal : (d n : ℕ) → last_of d (decimal n) ≡ digit_glyph false (n % 10)
unfolding digits
last_decimal d n = last_first 63 n d

small_glyph : (d : ℕ) → d < 10 → digit_glyph false d ≤ 57
small_glyph d h = grind (arith, nat_tests)

last_numbered : (x : Name) (n : ℕ) → last_of 0 (numbered n x) ≤ 57
last_numbered x n =
    let e : last_of 0 (numbered n x) ≡ digit_glyph false (n % 10) = last_append 0 x 36 (decimal n) ∙ last_decimal 36 n in
    let s = small_glyph (n % 10) (omega arith) in
    omega (arith, e, s)

not_named : (x y : Name) → last_of 0 x ≤ 57 → 57 < last_of 0 y → (b : Bool) → bytes_eq x y ≡ b → bytes_eq x y ≡ false
not_named x y h g false e = e
not_named x y h g true e = absurd (let q = ap (last_of 0) (same_text x y (sym e)) in omega (arith, h, g, q))

pub numbered_no_limit : (x : Name) (n : ℕ) → is_limit (numbered n x) ≡ false
unfolding last_of
numbered_no_limit x n =
    let y = numbered n x in
    let l = last_numbered x n in
    let p : last_of 0 recursion_limit ≡ 116 = refl in
    let q : last_of 0 iteration_limit ≡ 116 = refl in
    let r : bytes_eq y recursion_limit ≡ false = not_named y recursion_limit l (omega (arith, p)) _ refl in
    let i : bytes_eq y iteration_limit ≡ false = not_named y iteration_limit l (omega (arith, q)) _ refl in
    ap₂ (λ (a b : Bool). is_some (if a then Some (is_within 512 (count_of null_symbol)) else (if b then Some (is_within 1000000 (count_of null_symbol)) else None))) r i

-- ---- which names are protected

entry_protects : (x y : Name) (e : Entry PlainRule) (d : Definitions) → e.attributes ≡ (d x).attributes → (with_entry x e d y).attributes.protected ≡ (d y).attributes.protected
entry_protects x y e d h = cases (bytes_eq x y) refl
  where
    cases : (b : Bool) → bytes_eq x y ≡ b → (if b then e else d y).attributes.protected ≡ (d y).attributes.protected
    cases true q = ap (λ a. a.protected) h ∙ ap (λ z. (d z).attributes.protected) (same_text x y (sym q))
    cases false q = refl

pub take_protects : (x : Name) (k k1 : Evaluator) (a : Answer) → Plays (asking (take_rules x)) k (Ok a) k1 false → Protects k k1
unfolding asking interp acted
take_protects x k k1 a h y = sym (ap (λ (s : State). (s.world.definitions y).attributes.protected) h.leaves) ∙ entry_protects x y _ (definitions k.store) refl

pub put_protects : (x : Name) (r : PlainRule) (k k1 : Evaluator) → Plays (doing (put_rule x Own r)) k (Ok tt) k1 false → Protects k k1
unfolding doing interp acted
put_protects x r k k1 h y = sym (ap (λ (s : State). (s.world.definitions y).attributes.protected) h.leaves) ∙ entry_protects x y _ (definitions k.store) refl

pub message_same : (s : Name) (t : Bytes) (args : List Tree) (k k1 : Evaluator) → Plays (message s t args) k (Ok tt) k1 false → definitions k1.store ≡ definitions k.store
unfolding doing interp acted
message_same s t args k k1 h = sym (ap (λ (z : State). z.world.definitions) h.leaves)

pub protected_same : (x : Name) (b : Bool) (k k1 : Evaluator) → Plays (is_protected x) k (Ok b) k1 false → definitions k1.store ≡ definitions k.store
unfolding is_protected entry_of ◌>>=◌ interp
protected_same x b k k1 h = sym (ap (λ (z : State). z.world.definitions) h.leaves)

pub same_protects : (k k1 : Evaluator) → definitions k1.store ≡ definitions k.store → Protects k k1
same_protects k k1 e x = ap (λ (f : Definitions). (f x).attributes.protected) e

pub free_later : (k k1 : Evaluator) → Protects k k1 → (l : Local) → IsFree k l → IsFree k1 l
free_later k k1 p l f = record { unprotected = p (name_in (plain l.name)) ∙ f.unprotected; limits = f.limits }

pub all_free_later : (k k1 : Evaluator) → Protects k k1 → (ls : List Local) → AreFree k ls → AreFree k1 ls
all_free_later k k1 p ls f = All-weaker (IsFree k) (IsFree k1) (free_later k k1 p) ls f

-- ---- one after the other

pub set_locals_step : (n : ℕ) (l : scopes.Local) (ms ls : List scopes.Local) (k k1 : Evaluator) → ms ≡ l ∷ ls → Plays (scoping.set_local n l) k (Ok tt) k1 false → Leads (scoping.set_locals n ms) k (scoping.set_locals n ls) k1
unfolding scoping.set_locals
set_locals_step n l ms ls k k1 e h r k2 o m = subst (λ z. Plays (scoping.set_locals n z) k r k2 o) (sym e) (plays_bind (scoping.set_local n l) (λ _. scoping.set_locals n ls) h m)

pub set_locals_over : (n : ℕ) (ms : List scopes.Local) (k : Evaluator) → ms ≡ [] → Plays (scoping.set_locals n ms) k (Ok tt) k false
unfolding scoping.set_locals
set_locals_over n ms k e = subst (λ ls. Plays (scoping.set_locals n ls) k (Ok tt) k false) (sym e) plays_done

pub set_all_step : (l : scopes.Local) (ms ls : List scopes.Local) (k k1 : Evaluator) → ms ≡ l ∷ ls → Plays (scoping.set_given l) k (Ok tt) k1 false → Leads (scoping.set_all ms) k (scoping.set_all ls) k1
unfolding scoping.set_all
set_all_step l ms ls k k1 e h r k2 o m = subst (λ z. Plays (scoping.set_all z) k r k2 o) (sym e) (plays_bind (scoping.set_given l) (λ _. scoping.set_all ls) h m)

pub set_all_over : (ms : List scopes.Local) (k : Evaluator) → ms ≡ [] → Plays (scoping.set_all ms) k (Ok tt) k false
unfolding scoping.set_all
set_all_over ms k e = subst (λ ls. Plays (scoping.set_all ls) k (Ok tt) k false) (sym e) plays_done

abbrev blocked_by : List scopes.Local → scopes.Local → List scopes.Local → Bool → Prog (List scopes.Local)
blocked_by os l ls b = elim b [ true ↦ scoping.blocked (os ++ l ∷ []) ls | false ↦ scoping.blocked os ls ]

module _ (os : List scopes.Local) (l : scopes.Local) (ms ls : List scopes.Local) (k k1 : Evaluator) (b : Bool) (e : ms ≡ l ∷ ls) (h : Plays (scoping.may_block l) k (Ok b) k1 false) where
  blocked_on : (c : Bool) → b ≡ c → Leads (scoping.blocked os ms) k (blocked_by os l ls c) k1
  unfolding scoping.blocked
  blocked_on c q r k2 o m =
      subst (λ z. Plays (scoping.blocked os z) k r k2 o) (sym e) (plays_bind (scoping.may_block l) (blocked_by os l ls) (subst (λ z. Plays (scoping.may_block l) k (Ok z) k1 false) q h) m)

  pub blocked_more : b ≡ true → Leads (scoping.blocked os ms) k (scoping.blocked (os ++ l ∷ []) ls) k1
  blocked_more q = blocked_on true q

  pub blocked_less : b ≡ false → Leads (scoping.blocked os ms) k (scoping.blocked os ls) k1
  blocked_less q = blocked_on false q

pub blocked_over : (os ms : List scopes.Local) (k : Evaluator) → ms ≡ [] → Plays (scoping.blocked os ms) k (Ok os) k false
unfolding scoping.blocked
blocked_over os ms k e = subst (λ ls. Plays (scoping.blocked os ls) k (Ok os) k false) (sym e) plays_done

pub take_all_step : (ts : List scoping.Taken) (t : scoping.Taken) (l : scopes.Local) (ms ls : List scopes.Local) (k k1 : Evaluator) → ms ≡ l ∷ ls → Plays (scoping.take_out l.name) k (Ok t) k1 false
    → Leads (scoping.take_all ts ms) k (scoping.take_all (ts ++ t ∷ []) ls) k1
unfolding scoping.take_all
take_all_step ts t l ms ls k k1 e h r k2 o m = subst (λ z. Plays (scoping.take_all ts z) k r k2 o) (sym e) (plays_bind (scoping.take_out l.name) (λ u. scoping.take_all (ts ++ u ∷ []) ls) h m)

pub take_all_over : (ts : List scoping.Taken) (ms : List scopes.Local) (k : Evaluator) → ms ≡ [] → Plays (scoping.take_all ts ms) k (Ok ts) k false
unfolding scoping.take_all
take_all_over ts ms k e = subst (λ ls. Plays (scoping.take_all ts ls) k (Ok ts) k false) (sym e) plays_done

pub held_push : (hs : List Held) (h : Held) (gs : List Held) → gs ≡ hs ++ h ∷ [] → map held_in gs ≡ map held_in hs ++ held_in h ∷ []
held_push hs h gs e = ap (map held_in) e ∙ map-append held_in hs (h ∷ [])

pub give_all_step : (hs gs : List Held) (h : Held) (k k1 : Evaluator) → gs ≡ hs ++ h ∷ [] → Plays (scoping.give_back (held_in h)) k (Ok tt) k1 false → Leads (scoping.give_all (reverse (map held_in gs))) k (scoping.give_all (reverse (map held_in hs))) k1
unfolding scoping.give_all
give_all_step hs gs h k k1 e p r k2 o m =
    let q : reverse (map held_in gs) ≡ held_in h ∷ reverse (map held_in hs) = ap reverse (held_push hs h gs e) ∙ reverse-append (map held_in hs) (held_in h ∷ []) in
    subst (λ z. Plays (scoping.give_all z) k r k2 o) (sym q) (plays_bind (scoping.give_back (held_in h)) _ p m)

pub give_all_over : (hs : List Held) (k : Evaluator) → hs ≡ [] → Plays (scoping.give_all (reverse (map held_in hs))) k (Ok tt) k false
unfolding scoping.give_all
give_all_over hs k e = subst (λ z. Plays (scoping.give_all (reverse (map held_in z))) k (Ok tt) k false) (sym e) plays_done

-- ---- what stays honest

module _ {R : Type 0} {p : Prog R} {k k1 : Evaluator} {r : Result R End} {o : Bool} (x : Plays p k r k1 o) where
  pub local_later : (l : Local) → IsLocal k.store l → IsLocal k1.store l
  local_later l h = record { symbol = h.symbol; name = later x l.name h.name; value = option_later x l.value h.value }

  pub locals_later : (ls : List Local) → AreLocals k.store ls → AreLocals k1.store ls
  locals_later ls h = All-weaker (IsLocal k.store) (IsLocal k1.store) local_later ls h

  pub held_later : (hs : List Held) → AreHeld k hs → AreHeld k1 hs
  held_later hs h = All-weaker _ _ (λ (z : Held) w. taken_later x (name_in (plain z.name)) z.taken w) hs h

pub local_at : (a : Stored) (ls : List Local) (i : ℕ) (l : Local) → i < length ls → l ≡ get_or ls i l → AreLocals a ls → IsLocal a l
local_at a ls i l h e w = subst (IsLocal a) (sym e) (w i l h)

pub free_at : (k : Evaluator) (ls : List Local) (i : ℕ) (l : Local) → i < length ls → l ≡ get_or ls i l → AreFree k ls → IsFree k l
free_at k ls i l h e w = subst (IsFree k) (sym e) (w i l h)

pub locals_pushed : (a : Stored) (ls : List Local) (l : Local) (ms : List Local) → ms ≡ ls ++ l ∷ [] → AreLocals a ls → IsLocal a l → AreLocals a ms
locals_pushed a ls l ms e h w = subst (AreLocals a) (sym e) (All-push (IsLocal a) ls l h w)

pub free_push : (k : Evaluator) (ls : List Local) (l : Local) (ms : List Local) → ms ≡ ls ++ l ∷ [] → AreFree k ls → IsFree k l → AreFree k ms
free_push k ls l ms e h w = subst (AreFree k) (sym e) (All-push (IsFree k) ls l h w)

pub are_held_push : (k : Evaluator) (hs : List Held) (h : Held) (gs : List Held) → gs ≡ hs ++ h ∷ [] → AreHeld k hs → IsTaken k (name_in (plain h.name)) h.taken → AreHeld k gs
are_held_push k hs h gs e a w = subst (AreHeld k) (sym e) (All-push (λ (z : Held). IsTaken k (name_in (plain z.name)) z.taken) hs h a w)

-- rules that are taken out
pub take_plays : (h : Held) (x y : Name) (k k1 : Evaluator) → x ≡ y → x ≡ name_in (plain h.name) → Plays (asking (take_rules x)) k (Ok (rules (map_rules plain_rule h.taken.rules))) k1 false → Plays (scoping.take_out y) k (Ok (held_in h)) k1 false
take_plays h x y k k1 e q p =
    subst (λ z. Plays (scoping.take_out z) k (Ok (held_in h)) k1 false) e
    (plays_bind (asking (take_rules x)) _ p (plays_done_is (λ i. record { name = q i; rules = map_rules plain_rule h.taken.rules })))

-- ---- a name that Block takes, or not

abbrev may_by : scopes.Local → Bool → Prog Bool
may_by l p = elim p [
  | true ↦ message (codes "Set") (codes "wrsym") (symbol l.name ∷ []) >>= λ _. done false
  | false ↦ elim (is_limit l.name && not (unwrap_or (option_map (limit_allows l.name) l.value) false)) [
    | true ↦ message l.name (codes "limset") (symbol l.name ∷ unwrap_or l.value null_symbol ∷ []) >>= λ _. done false
    | false ↦ done true
  ]
]

abbrev limit_by : scopes.Local → Bool → Prog Bool
limit_by l p = elim p [ true ↦ message l.name (codes "limset") (symbol l.name ∷ unwrap_or l.value null_symbol ∷ []) >>= λ _. done false | false ↦ done true ]

module _ (l : scopes.Local) (k k1 k2 : Evaluator) (p : Bool) (h : Plays (is_protected l.name) k (Ok p) k1 false) where
  may_plays : (b : Bool) → Plays (may_by l p) k1 (Ok b) k2 false → Plays (scoping.may_block l) k (Ok b) k2 false
  may_plays b m = plays_bind (is_protected l.name) _ h m

  pub may_refused : p ≡ true → Plays (message (codes "Set") (codes "wrsym") (symbol l.name ∷ [])) k1 (Ok tt) k2 false → Plays (scoping.may_block l) k (Ok false) k2 false
  may_refused e m = may_plays false (subst (λ z. Plays (may_by l z) k1 (Ok false) k2 false) (sym e) (plays_bind (message (codes "Set") (codes "wrsym") (symbol l.name ∷ [])) _ m plays_done))

  may_on : (b c : Bool) → p ≡ false → (is_limit l.name && not (unwrap_or (option_map (limit_allows l.name) l.value) false)) ≡ c → Plays (limit_by l c) k1 (Ok b) k2 false → Plays (scoping.may_block l) k (Ok b) k2 false
  may_on b c e f m = may_plays b (subst (λ z. Plays (may_by l z) k1 (Ok b) k2 false) (sym e) (subst (λ z. Plays (limit_by l z) k1 (Ok b) k2 false) (sym f) m))

  pub may_not : p ≡ false → (is_limit l.name && not (unwrap_or (option_map (limit_allows l.name) l.value) false)) ≡ true → Plays (message l.name (codes "limset") (symbol l.name ∷ unwrap_or l.value null_symbol ∷ [])) k1 (Ok tt) k2 false
      → Plays (scoping.may_block l) k (Ok false) k2 false
  may_not e f m = may_on false true e f (plays_bind (message l.name (codes "limset") (symbol l.name ∷ unwrap_or l.value null_symbol ∷ [])) _ m plays_done)

  pub may_free : p ≡ false → (is_limit l.name && not (unwrap_or (option_map (limit_allows l.name) l.value) false)) ≡ false → k2 ≡ k1 → Plays (scoping.may_block l) k (Ok true) k2 false
  may_free e f q = may_on true false e f (subst (λ z. Plays (done true) k1 (Ok true) z false) (sym q) plays_done)

-- ---- values

done_protects : (k k1 : Evaluator) → Plays (done (tt {0})) k (Ok (tt {0})) k1 false → Protects k k1
unfolding interp
done_protects k k1 h y = sym (ap (λ (s : State). (s.world.definitions y).attributes.protected) h.leaves)

pub given_protects : (l : Local) (k k1 : Evaluator) → Plays (scoping.set_given (local_in l)) k (Ok tt) k1 false → Protects k k1
given_protects l k k1 h = at l.value h
  where
    at : (o : Option Stamped) → Plays (elim (option_map plain o) [ None ↦ done (tt {0}) | Some v ↦ scoping.set_own (name_in (plain l.name)) v ]) k (Ok (tt {0})) k1 false → Protects k k1
    at None h = done_protects k k1 h
    at (Some v) h = put_protects (name_in (plain l.name)) _ k k1 h

-- ---- what was held last, and before

all_front : {X : Type 0} (P : X → Type 0) (xs : List X) (x : X) → All P (xs ++ x ∷ []) → All P xs
all_front P [] x h = All-nil P
all_front P (y ∷ ys) x h = All-cons P y ys (All-head P y (ys ++ x ∷ []) h) (all_front P ys x (All-tail P y (ys ++ x ∷ []) h))

all_last : {X : Type 0} (P : X → Type 0) (xs : List X) (x : X) → All P (xs ++ x ∷ []) → P x
all_last P [] x h = All-head P x [] h
all_last P (y ∷ ys) x h = all_last P ys x (All-tail P y (ys ++ x ∷ []) h)

pub held_init : (k : Evaluator) (hs : List Held) (h : Held) (gs : List Held) → gs ≡ hs ++ h ∷ [] → AreHeld k gs → AreHeld k hs
held_init k hs h gs e w = all_front (λ (z : Held). IsTaken k (name_in (plain z.name)) z.taken) hs h (subst (AreHeld k) e w)

pub held_last : (k : Evaluator) (hs : List Held) (h : Held) (gs : List Held) {x : Name} → gs ≡ hs ++ h ∷ [] → x ≡ name_in (plain h.name) → AreHeld k gs → IsTaken k x h.taken
held_last k hs h gs e q w = subst (λ z. IsTaken k z h.taken) (sym q) (all_last (λ (z : Held). IsTaken k (name_in (plain z.name)) z.taken) hs h (subst (AreHeld k) e w))

-- ---- no value

pub given_none : (l : Local) (k : Evaluator) → l.value ≡ None → Plays (scoping.set_given (local_in l)) k (Ok tt) k false
given_none l k e = at l.value e
  where
    at : (o : Option Stamped) → o ≡ None → Plays (elim (option_map plain o) [ None ↦ done (tt {0}) | Some v ↦ scoping.set_own (name_in (plain l.name)) v ]) k (Ok (tt {0})) k false
    at None e = plays_done
    at (Some v) e = absurd (let q : Some v ≡ None = e in cc)

pub local_none : (n : ℕ) (l : Local) (k : Evaluator) → l.value ≡ None → Plays (scoping.set_local n (local_in l)) k (Ok tt) k false
local_none n l k e = at l.value e
  where
    at : (o : Option Stamped) → o ≡ None → Plays (elim (option_map plain o) [ None ↦ done (tt {0}) | Some v ↦ scoping.set_numbered (numbered n (name_in (plain l.name))) v ]) k (Ok (tt {0})) k false
    at None e = plays_done
    at (Some v) e = absurd (let q : Some v ≡ None = e in cc)

-- ---- a variable of a Module

abbrev numbered_by : Name → Tree → Bool → Prog (Unit {0})
numbered_by x v p = elim p [ true ↦ message (codes "Set") (codes "wrsym") (symbol x ∷ []) | false ↦ scoping.set_own x v ]

pub numbered_plays : (x y : Name) (v : Tree) (k k1 k2 : Evaluator) (p b : Bool) → y ≡ x → p ≡ b → Plays (is_protected y) k (Ok p) k1 false → Plays (numbered_by x v b) k1 (Ok tt) k2 false → Plays (scoping.set_numbered x v) k (Ok tt) k2 false
numbered_plays x y v k k1 k2 p b e q h m = plays_bind (is_protected x) (numbered_by x v) (subst (λ z. Plays (is_protected x) k (Ok z) k1 false) q (subst (λ n. Plays (is_protected n) k (Ok p) k1 false) e h)) m

-- what nothing comes off has nothing
pub none_held : (hs gs : List Held) (n : ℕ) → hs ≡ gs ++ [] → gs ≡ take (n - 1) hs → n ≡ 0 → hs ≡ []
none_held hs gs n e r z = e ∙ ap (λ (xs : List Held). xs ++ []) (r ∙ ap (λ (m : ℕ). take (m - 1) hs) z)

-- ---- a name that Block takes, or not, as the code looks at it

and_false : (b : Bool) → (b && false) ≡ false
and_false true = refl
and_false false = refl

abbrev refuses : Name → Option Tree → Bool
refuses x o = is_limit x && not (unwrap_or (option_map (limit_allows x) o) false)

module _ (l : Local) (y : Name) (k k1 k2 : Evaluator) (p : Bool) (n : y ≡ name_in (plain l.name)) (h : Plays (is_protected y) k (Ok p) k1 false) where
  abbrev named : Name
  named = name_in (plain l.name)

  looked : Plays (is_protected (name_in (plain l.name))) k (Ok p) k1 false
  looked = subst (λ z. Plays (is_protected z) k (Ok p) k1 false) n h

  pub block_refused : (us : List Tree) → us ≡ symbol named ∷ [] → p ≡ true → Plays (message (codes "Set") (codes "wrsym") us) k1 (Ok tt) k2 false → Plays (scoping.may_block (local_in l)) k (Ok false) k2 false
  block_refused us e q m = may_refused (local_in l) k k1 k2 p looked q (subst (λ zs. Plays (message (codes "Set") (codes "wrsym") zs) k1 (Ok tt) k2 false) e m)

  pub block_other : p ≡ false → is_limit y ≡ false → Plays (scoping.may_block (local_in l)) k (Ok true) k1 false
  block_other q i = may_free (local_in l) k k1 k1 p looked q (ap (λ b. b && not (unwrap_or (option_map (limit_allows named) (option_map plain l.value)) false)) (ap is_limit (sym n) ∙ i)) refl

  pub block_allowed : p ≡ false → (v : Stamped) → l.value ≡ Some v → limit_allows y (plain v) ≡ true → Plays (scoping.may_block (local_in l)) k (Ok true) k1 false
  block_allowed q v e a =
      may_free (local_in l) k k1 k1 p looked q (ap (λ (o : Option Stamped). refuses named (option_map plain o)) e ∙ ap (λ b. is_limit named && not b) (ap (λ z. limit_allows z (plain v)) (sym n) ∙ a) ∙ and_false (is_limit named)) refl

  pub block_none : p ≡ false → is_limit y ≡ true → l.value ≡ None → (t : Tree) → t ≡ null_symbol → Plays (message y (codes "limset") (symbol y ∷ t ∷ [])) k1 (Ok tt) k2 false → Plays (scoping.may_block (local_in l)) k (Ok false) k2 false
  block_none q i e t w m =
      may_not (local_in l) k k1 k2 p looked q (ap (λ (o : Option Stamped). refuses named (option_map plain o)) e ∙ ap (λ b. b && true) (ap is_limit (sym n) ∙ i))
      (subst (λ (o : Option Stamped). Plays (message named (codes "limset") (symbol named ∷ unwrap_or (option_map plain o) null_symbol ∷ [])) k1 (Ok tt) k2 false) (sym e)
      (subst₂ (λ (z : Name) (u : Tree). Plays (message z (codes "limset") (symbol z ∷ u ∷ [])) k1 (Ok tt) k2 false) n w m))

  pub block_not : p ≡ false → is_limit y ≡ true → (v : Stamped) → l.value ≡ Some v → limit_allows y (plain v) ≡ false → Plays (message y (codes "limset") (symbol y ∷ plain v ∷ [])) k1 (Ok tt) k2 false → Plays (scoping.may_block (local_in l)) k (Ok false) k2 false
  block_not q i v e a m =
      may_not (local_in l) k k1 k2 p looked q
      (ap (λ (o : Option Stamped). refuses named (option_map plain o)) e ∙ ap₂ (λ b c. b && not c) (ap is_limit (sym n) ∙ i) (ap (λ z. limit_allows z (plain v)) (sym n) ∙ a))
      (subst (λ (o : Option Stamped). Plays (message named (codes "limset") (symbol named ∷ unwrap_or (option_map plain o) null_symbol ∷ [])) k1 (Ok tt) k2 false) (sym e)
      (subst (λ (z : Name). Plays (message z (codes "limset") (symbol z ∷ plain v ∷ [])) k1 (Ok tt) k2 false) n m))
