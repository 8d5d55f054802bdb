-- How the rows of Module, With and Block play.
use Rattle.std.proofs.Common.{◌≡◌, ℕ, false, List, [], ◌∷◌, ◌++◌, reverse, Option, Some, None, option_map, Result, Ok, Err, refl, sym, ap, ◌∙◌, subst, true≢false}
use Rattle.std.proofs.lemmas.List.Elements.{All-push}
use Rattle.std.proofs.lemmas.Result.{err_from_is_err_and}
use Rattle.std.specs.Result.{IsErrAnd}
use Rattle.wl_expr.specs.Stamped.{Stamped, plain}
use Rattle.wl_expr.specs.Tree.{IsWithinLimits, Tree}
use Rattle.wl_shape.specs.Fill.{rename, replace}
use Rattle.wl_shape.specs.Scopes as scopes
use Rattle.wl_shape.specs.Scopes.{names, values, locals}
use Rattle.wl_semantics.specs.Prog.{Prog, done, ◌>>=◌, draw, number, asking, ended, now, value_of, unchanged}
use Rattle.wl_state.specs.LocalNames.{AreHeld, AreShallow, IsShallow, IsSymbol, local, local_in, local_list, locals_in, with_body_of, scope_parts, aside}
use Rattle.wl_state.specs.Replies.{stops_by_memory}
use Rattle.wl_state.specs.Honest.{HonestIn}
use Rattle.wl_state.specs.Parts.{sized_row}
use Rattle.wl_state.specs.Played.{Makes, Plays, Played, Seen, Sound, tree as value, honest_tree, found_tree}
use Rattle.wl_semantics.specs.ScopeRows as rows
use Rattle.wl_semantics.specs.Scoping as scoping
use Rattle.wl_semantics.specs.Scoping.{names_of, values_of}
use Rattle.wl_state.specs.declared.evaluator.Evaluator.{Evaluator}
use Rattle.wl_state.specs.declared.ends.Stop.{Stop}
use Rattle.wl_state.specs.declared.ends.Stop.TheVariants as stops
use Rattle.wl_state.specs.declared.scoping.Held.{Held}
use Rattle.wl_expr.specs.declared.fault.ExprFault.{ExprFault}
use Rattle.wl_state.specs.declared.locals.Local.{Local}
use Rattle.wl_state.proofs.Bindings.{bind_assoc}
use Rattle.wl_state.proofs.Holding.{held_played}
use Rattle.wl_state.proofs.Playing.{plays_bind, plays_done}
use Rattle.wl_state.proofs.RowParts.{row_gives}
use Rattle.wl_expr.proofs.Small.{fits_decides}
use Rattle.wl_state.proofs.Rows.{played_stop, played_bind}
use Rattle.wl_state.proofs.ScopingParts.{held_later}

-- ---- initial values

pub initial_none : (l : Local) (k : Evaluator) → l.value ≡ None → Plays (scoping.initial (local_in l)) k (Ok (local_in l)) k false
initial_none l k e = at l.value e
  where
    at : (o : Option Stamped) → o ≡ None → Plays (elim (option_map plain o) [ None ↦ done (local_in l) | Some t ↦ value_of t >>= λ v. done (record (local_in l) { value = Some v }) ]) k (Ok (local_in l)) k false
    at None e = plays_done
    at (Some v) e = absurd (let q : Some v ≡ None = e in cc)

abbrev pub initial_by : scopes.Local → Tree → Prog scopes.Local
initial_by l v = done (record l { value = Some v })

pub initial_some : (l : Local) (v : Stamped) → l.value ≡ Some v → scoping.initial (local_in l) ≡ (value_of (plain v) >>= initial_by (local_in l))
initial_some l v e = ap (λ (o : Option Stamped). elim (option_map plain o) [ None ↦ done (local_in l) | Some t ↦ value_of t >>= λ u. done (record (local_in l) { value = Some u }) ]) e

-- a local name whose value was evaluated
pub initial_gives : (l : Local) (v n : Stamped) (k k1 : Evaluator) (t : Tree) → scoping.initial (local_in l) ≡ (value_of t >>= initial_by (local_in l)) → n ≡ l.name → Plays (value_of t) k (Ok (plain v)) k1 false → HonestIn k1.store l.name → HonestIn k1.store v → IsSymbol l.name
    → Played local (scoping.initial (local_in l)) k (Ok (record { name = n; value = Some v })) k1
initial_gives l v n k k1 t e q h x y s =
    let made : Local = record { name = l.name; value = Some v } in
    subst (λ (z : Stamped). Played local (scoping.initial (local_in l)) k (Ok (record { name = z; value = Some v })) k1) (sym q)
    (subst (λ p. Plays p k (Ok (local_in made)) k1 false) (sym e) (plays_bind (value_of t) (initial_by (local_in l)) h plays_done), record { symbol = s; name = x; value = y })

pub shallow_push : (ls : List Local) (l : Local) (ms : List Local) → ms ≡ ls ++ l ∷ [] → AreShallow ls → IsShallow l → AreShallow ms
shallow_push ls l ms e h w = subst AreShallow (sym e) (All-push IsShallow ls l h w)

pub initials_is : (vs : List scopes.Local) (l : scopes.Local) (ms ls : List scopes.Local) → ms ≡ l ∷ ls → scoping.initials vs ms ≡ (scoping.initial l >>= λ v. scoping.initials (vs ++ v ∷ []) ls)
unfolding scoping.initials
initials_is vs l ms ls e = ap (scoping.initials vs) e

pub initials_over : (vs ms : List scopes.Local) (k : Evaluator) → ms ≡ [] → Plays (scoping.initials vs ms) k (Ok vs) k false
unfolding scoping.initials
initials_over vs ms k e = subst (λ ls. Plays (scoping.initials vs ls) k (Ok vs) k false) (sym e) plays_done

-- ---- rows by their parts

abbrev pub Parts : Type 0
Parts = List scopes.Local × Tree

abbrev pub module_on : Option Parts → Prog (Option Tree)
module_on None = unchanged
module_on (Some p) = rows.given (scoping.module_body false p.0 p.1)

abbrev pub with_on : Option Parts → Prog (Option Tree)
with_on None = unchanged
with_on (Some p) = rows.given (scoping.with_body p.0 p.1)

abbrev pub block_on : Option Parts → Prog (Option Tree)
block_on None = unchanged
block_on (Some p) = rows.given (scoping.in_block p.0 (value_of p.1))

pub module_row-on : (es : List Tree) → rows.module_row es ≡ module_on (scope_parts names es)
module_row-on [] = refl
module_row-on (v ∷ []) = refl
module_row-on (v ∷ b ∷ []) = by (locals names v)
  where
    by : (o : Option (List scopes.Local)) → rows.module_by o b ≡ module_on (with_body_of o b)
    by None = refl
    by (Some ls) = refl
module_row-on (v ∷ b ∷ t ∷ es) = refl

pub with_row-on : (es : List Tree) → rows.with_row es ≡ with_on (scope_parts values es)
with_row-on [] = refl
with_row-on (v ∷ []) = refl
with_row-on (v ∷ b ∷ []) = by (locals values v)
  where
    by : (o : Option (List scopes.Local)) → rows.with_by o b ≡ with_on (with_body_of o b)
    by None = refl
    by (Some ls) = refl
with_row-on (v ∷ b ∷ t ∷ es) = refl

pub block_row-on : (es : List Tree) → rows.block_row es ≡ block_on (scope_parts names es)
block_row-on [] = refl
block_row-on (v ∷ []) = refl
block_row-on (v ∷ b ∷ []) = by (locals names v)
  where
    by : (o : Option (List scopes.Local)) → rows.block_by o b ≡ block_on (with_body_of o b)
    by None = refl
    by (Some ls) = refl
block_row-on (v ∷ b ∷ t ∷ es) = refl

-- what is stopped, stops the row
pub given_stops : {X : Type 0} (seen : Seen X Tree) (p : Prog Tree) (k : Evaluator) (e : Stop) (k1 : Evaluator) → Played seen p k (Err e) k1 → Played found_tree (sized_row (rows.given p)) k (Err e) k1
given_stops seen p k e k1 m = played_stop found_tree found_tree (rows.given p) _ k e k1 (played_stop seen found_tree p _ k e k1 m)

pub row_exit : {X A : Type 0} (seen : Seen X A) (p : Prog A) (f : A → Prog Tree) (k k1 : Evaluator) (r : Result (Option Stamped) Stop) (e : Stop) → IsErrAnd r (λ d. d ≡ e) → Played seen p k (Err e) k1
    → Played found_tree (sized_row (rows.given (p >>= f))) k r k1
row_exit seen p f k k1 r e h m =
    let q = err_from_is_err_and r h in
    subst (λ z. Played found_tree (sized_row (rows.given (p >>= f))) k z k1) (sym (q.1 ∙ ap Err q.2)) (given_stops honest_tree (p >>= f) k e k1 (played_stop seen honest_tree p f k e k1 m))

pub given_plays : (p : Prog Tree) (t : Tree) (k k1 : Evaluator) → Plays p k (Ok t) k1 false → Plays (rows.given p) k (Ok (Some t)) k1 false
given_plays p t k k1 h = plays_bind p _ h plays_done

-- ---- Module and With

module _ (ls vs : List scopes.Local) (b : Tree) (k k1 : Evaluator) (h : Plays (scoping.initials [] ls) k (Ok vs) k1 false) where
  pub module_plays : (n : ℕ) (k2 k3 : Evaluator) → Plays (asking draw) k1 (Ok (number n)) k2 false → Plays (scoping.set_locals n vs) k2 (Ok tt) k3 false
      → Plays (scoping.module_body false ls b) k (Ok (rename b (names_of vs) n)) k3 false
  module_plays n k2 k3 d s =
      plays_bind (scoping.initials [] ls) _ h (plays_bind (asking draw) _ d (plays_bind (scoping.sized_if false (rename b (names_of vs) n)) _ plays_done (plays_bind (scoping.set_locals n vs) _ s plays_done)))

  pub with_plays : Plays (scoping.with_body ls b) k (Ok (replace b (names_of vs) (values_of vs))) k1 false
  with_plays = plays_bind (scoping.initials [] ls) _ h plays_done

-- ---- Block

-- what is inside, and then the rules given back
abbrev pub held_inside : {R : Type 0} → Prog R → List scoping.Taken → Prog R
held_inside inside ts = ended inside >>= λ r. scoping.give_all (reverse ts) >>= λ _. now r

bind_done : {A B : Type 0} (a : A) (f : A → Prog B) → (done a >>= f) ≡ f a
unfolding ◌>>=◌
bind_done a f = refl

aside_is : {R : Type 0} (vs : List scopes.Local) (g : List scoping.Taken → Prog R) → (scoping.blocked [] vs >>= λ os. scoping.take_all [] os >>= λ ts. scoping.set_all os >>= λ _. g ts) ≡ (aside vs >>= g)
aside_is vs g =
    sym (bind_assoc (scoping.blocked [] vs) (λ os. scoping.take_all [] os >>= λ ts. scoping.set_all os >>= λ _. done ts) g ∙ (λ i. scoping.blocked [] vs >>= λ os. taken os i))
  where
    set : (os : List scopes.Local) (ts : List scoping.Taken) → ((scoping.set_all os >>= λ _. done ts) >>= g) ≡ (scoping.set_all os >>= λ _. g ts)
    set os ts = bind_assoc (scoping.set_all os) (λ _. done ts) g ∙ (λ i. scoping.set_all os >>= λ _. bind_done ts g i)

    taken : (os : List scopes.Local) → ((scoping.take_all [] os >>= λ ts. scoping.set_all os >>= λ _. done ts) >>= g) ≡ (scoping.take_all [] os >>= λ ts. scoping.set_all os >>= λ _. g ts)
    taken os = bind_assoc (scoping.take_all [] os) (λ ts. scoping.set_all os >>= λ _. done ts) g ∙ (λ i. scoping.take_all [] os >>= λ ts. set os ts i)

pub in_block_is : {R : Type 0} (ls : List scopes.Local) (inside : Prog R) → scoping.in_block ls inside ≡ (scoping.initials [] ls >>= λ vs. aside vs >>= held_inside inside)
in_block_is ls inside = λ i. scoping.initials [] ls >>= λ vs. aside_is vs (held_inside inside) i

pub aside_plays : (vs os : List scopes.Local) (ts : List scoping.Taken) (k k1 k2 k3 : Evaluator) → Plays (scoping.blocked [] vs) k (Ok os) k1 false → Plays (scoping.take_all [] os) k1 (Ok ts) k2 false → Plays (scoping.set_all os) k2 (Ok tt) k3 false
    → Plays (aside vs) k (Ok ts) k3 false
aside_plays vs os ts k k1 k2 k3 b t s = plays_bind (scoping.blocked [] vs) _ b (plays_bind (scoping.take_all [] os) _ t (plays_bind (scoping.set_all os) _ s plays_done))

pub block_played : {X R : Type 0} (seen : Seen X R) (ls vs : List scopes.Local) (ts : List scoping.Taken) (inside : Prog R) (k k1 k2 k3 k4 : Evaluator) (r : Result X Stop) → Plays (scoping.initials [] ls) k (Ok vs) k1 false → Plays (aside vs) k1 (Ok ts) k2 false
    → ((x : X) → seen.good k3 x → seen.good k4 x) → Played seen inside k2 r k3 → Plays (scoping.give_all (reverse ts)) k3 (Ok tt) k4 false → Played seen (scoping.in_block ls inside) k r k4
block_played seen ls vs ts inside k k1 k2 k3 k4 r h a g m b =
    subst (λ p. Played seen p k r k4) (sym (in_block_is ls inside))
    (played_bind seen (scoping.initials [] ls) (λ us. aside us >>= held_inside inside) k k1 vs r k4 h
    (played_bind seen (aside vs) (held_inside inside) k1 k2 ts r k4 a (held_played seen inside (scoping.give_all (reverse ts)) k2 k3 k4 r g m b)))

-- where the initial values stop
pub block_exit : {X Y R : Type 0} (seen : Seen X (List scopes.Local)) (seen' : Seen Y R) (ls : List scopes.Local) (inside : Prog R) (k : Evaluator) (e : Stop) (k1 : Evaluator) → Played seen (scoping.initials [] ls) k (Err e) k1 → Played seen' (scoping.in_block ls inside) k (Err e) k1
block_exit seen seen' ls inside k e k1 m = played_stop seen seen' (scoping.initials [] ls) _ k e k1 m

-- ---- the same local names, lent as a slice

module _ {xs ys : List Local} (e : xs ≡ ys) where
  pub initials_stop : (k k1 : Evaluator) (d : Stop) → Played local_list (scoping.initials [] (locals_in xs)) k (Err d) k1 → Played local_list (scoping.initials [] (locals_in ys)) k (Err d) k1
  initials_stop k k1 d h = subst (λ (zs : List Local). Played local_list (scoping.initials [] (locals_in zs)) k (Err d) k1) e h

  pub initials_play : {k k1 : Evaluator} {vs : List scopes.Local} → Plays (scoping.initials [] (locals_in xs)) k (Ok vs) k1 false → Plays (scoping.initials [] (locals_in ys)) k (Ok vs) k1 false
  initials_play {k} {k1} {vs} h = subst (λ (zs : List Local). Plays (scoping.initials [] (locals_in zs)) k (Ok vs) k1 false) e h

  pub locals_play : (n : ℕ) {k k1 : Evaluator} → Plays (scoping.set_locals n (locals_in xs)) k (Ok tt) k1 false → Plays (scoping.set_locals n (locals_in ys)) k (Ok tt) k1 false
  locals_play n {k} {k1} h = subst (λ (zs : List Local). Plays (scoping.set_locals n (locals_in zs)) k (Ok tt) k1 false) e h

  pub aside_play : {ts : List scoping.Taken} {k k1 : Evaluator} → Plays (aside (locals_in xs)) k (Ok ts) k1 false → Plays (aside (locals_in ys)) k (Ok ts) k1 false
  aside_play {ts} {k} {k1} h = subst (λ (zs : List Local). Plays (aside (locals_in zs)) k (Ok ts) k1 false) e h

  pub renamed_of : (b : Tree) (n : ℕ) (r : Result Stamped ExprFault) → Makes (rename b (names_of (locals_in xs)) n) r → Makes (rename b (names_of (locals_in ys)) n) r
  renamed_of b n r h = subst (λ (zs : List Local). Makes (rename b (names_of (locals_in zs)) n) r) e h

  pub replaced_of : (b : Tree) (r : Result Stamped ExprFault) → Makes (replace b (names_of (locals_in xs)) (values_of (locals_in xs))) r → Makes (replace b (names_of (locals_in ys)) (values_of (locals_in ys))) r
  replaced_of b r h = subst (λ (zs : List Local). Makes (replace b (names_of (locals_in zs)) (values_of (locals_in zs))) r) e h

-- ---- after an inside that memory has not stopped

pub inside_sound : {X R : Type 0} (seen : Seen X R) (p : Prog R) (k k1 : Evaluator) (r : Result X Stop) → stops_by_memory r ≡ false → Played seen p k r k1 → Sound k → Sound k1
inside_sound seen p k k1 (Ok x) n h s = h.0.sound s
inside_sound seen p k k1 (Err stops.Memory) n h s = absurd (true≢false n)
inside_sound seen p k k1 (Err (stops.Thrown v t)) n h s = h.0.sound s
inside_sound seen p k k1 (Err stops.Aborted) n h s = h.0.sound s
inside_sound seen p k k1 (Err stops.BudgetEnded) n h s = h.0.sound s
inside_sound seen p k k1 (Err stops.Broke) n h s = h.0.sound s
inside_sound seen p k k1 (Err stops.Continued) n h s = h.0.sound s

pub inside_held : {X R : Type 0} (seen : Seen X R) (p : Prog R) (k k1 : Evaluator) (r : Result X Stop) (hs : List Held) → stops_by_memory r ≡ false → Played seen p k r k1 → AreHeld k hs → AreHeld k1 hs
inside_held seen p k k1 (Ok x) hs n h w = held_later h.0 hs w
inside_held seen p k k1 (Err stops.Memory) hs n h w = absurd (true≢false n)
inside_held seen p k k1 (Err (stops.Thrown v t)) hs n h w = held_later h.0 hs w
inside_held seen p k k1 (Err stops.Aborted) hs n h w = held_later h.0 hs w
inside_held seen p k k1 (Err stops.BudgetEnded) hs n h w = held_later h.0 hs w
inside_held seen p k k1 (Err stops.Broke) hs n h w = held_later h.0 hs w
inside_held seen p k k1 (Err stops.Continued) hs n h w = held_later h.0 hs w

-- a value, of which it is asked only that it is honest
pub honest_played : (p : Prog Tree) (k k1 : Evaluator) (r : Result Stamped Stop) → Played value p k r k1 → Played honest_tree p k r k1
honest_played p k k1 (Ok v) h = (h.0, h.1.0)
honest_played p k k1 (Err stops.Memory) h = tt
honest_played p k k1 (Err (stops.Thrown v t)) h = h
honest_played p k k1 (Err stops.Aborted) h = h
honest_played p k k1 (Err stops.BudgetEnded) h = h
honest_played p k k1 (Err stops.Broke) h = h
honest_played p k k1 (Err stops.Continued) h = h

-- what a Block gives of its value
pub block_gives : (p : Prog Tree) (k k1 : Evaluator) (v : Stamped) (r : Result Stamped Stop) → r ≡ Ok v → Played honest_tree p k r k1 → IsWithinLimits (plain v) → Played found_tree (sized_row (rows.given p)) k (Ok (Some v)) k1
block_gives p k k1 v r e h f =
    let w = subst (λ z. Played honest_tree p k z k1) e h in
    row_gives (rows.given p) k k1 v (given_plays p (plain v) k k1 w.0) ((fits_decides (plain v)).1 f) w.1

pub block_stops : (p : Prog Tree) (k k1 : Evaluator) (s : Stop) (r : Result Stamped Stop) → r ≡ Err s → Played honest_tree p k r k1 → Played found_tree (sized_row (rows.given p)) k (Err s) k1
block_stops p k k1 s r e h = given_stops honest_tree p k s k1 (subst (λ z. Played honest_tree p k z k1) e h)

-- a stop that is handed on
pub err_played : {X R : Type 0} (seen : Seen X R) (p : Prog R) (k k1 : Evaluator) (r : Result X Stop) (d : Stop) → IsErrAnd r (λ x. x ≡ d) → Played seen p k (Err d) k1 → Played seen p k r k1
err_played seen p k k1 r d h m = let q = err_from_is_err_and r h in subst (λ z. Played seen p k z k1) (sym (q.1 ∙ ap Err q.2)) m
