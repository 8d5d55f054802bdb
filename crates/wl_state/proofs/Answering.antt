-- What rows that look at their elements alone answer.
use Rattle.std.proofs.Common.{◌≡◌, Bool, true, false, List, [], Option, Some, None, Result, Ok, Err, IfOk, refl, sym, ◌∙◌, subst, true≢false}
use Rattle.std.specs.Prelude.{⊤}
use Rattle.std.specs.List.{All}
use Rattle.wl_algebra.specs.Answers as algebra
use Rattle.wl_lists.specs.Answers as lists
use Rattle.wl_expr.specs.Applied.{Applied, unchanged, gives, noticed, told, plain_notice, plain_applied}
use Rattle.wl_expr.specs.declared.applied.Notice as notices
use Rattle.wl_expr.specs.Passed.{IsFrom}
use Rattle.wl_expr.specs.Stamped.{Stamped, plain, text, node, from_list}
use Rattle.wl_expr.specs.Tree.{Tree, IsWithinLimits}
use Rattle.wl_expr.specs.Words.{fits}
use Rattle.wl_expr.specs.declared.applied.Applied as code
use Rattle.wl_expr.specs.declared.applied.Applied.TheVariants as variant
use Rattle.wl_expr.specs.declared.fault.ExprFault.{ExprFault}
use Rattle.wl_expr.specs.declared.fault.ExprFault.TheVariants as fault
use Rattle.wl_expr.proofs.Passing.{all_from}
use Rattle.wl_expr.proofs.Small.{fits_decides}
use Rattle.wl_semantics.specs.Prog.{Prog, done, ◌>>=◌, sized}
use Rattle.wl_semantics.specs.BuiltIn.{sized_result}
use Rattle.wl_semantics.specs.PureRows.{applied_by, notify}
use Rattle.wl_state.specs.Parts.{Answers, AnswerFits, AnswerIsLarge, HonestApplied, sized_row}
use Rattle.wl_state.specs.Played.{Plays, Played, Honest, AllHonest, TooLarge, FaultStops, found_tree}
use Rattle.wl_state.specs.declared.evaluator.Evaluator.{Evaluator}
use Rattle.wl_state.specs.declared.ends.Stop.{Stop}
use Rattle.wl_state.proofs.Playing.{plays_bind, plays_done}
use Rattle.wl_state.proofs.Rows.{played_bind, played_stop}
use Rattle.wl_state.proofs.Values.{built_honest, passed_honest}
use Rattle.wl_state.proofs.Fitting.{plays_fits, sized_large}
use Rattle.wl_state.specs.Played as played

-- ---- sizes

-- what was found fits
abbrev pub OptionFits : Option Tree → Type 0
OptionFits None = ⊤
OptionFits (Some t) = fits t ≡ true

-- what comes with a message fits
abbrev pub NoticeFits : Applied → Type 0
NoticeFits unchanged = ⊤
NoticeFits (gives t) = ⊤
NoticeFits (noticed n t) = fits t ≡ true
NoticeFits (told n) = ⊤

pub within : (t : Tree) → ¬ ¬ IsWithinLimits t → fits t ≡ true
within t n = go (fits t) refl
  where
    go : (b : Bool) → fits t ≡ b → b ≡ true
    go true e = refl
    go false e = absurd (n (λ w. true≢false (sym ((fits_decides t).1 w) ∙ e)))

pub beyond : (t : Tree) → ¬ IsWithinLimits t → fits t ≡ false
beyond t n = go (fits t) refl
  where
    go : (b : Bool) → fits t ≡ b → b ≡ false
    go true e = absurd (n ((fits_decides t).0 e))
    go false e = refl

if_ok_both : {X F : Type 0} (r : Result X F) (P Q : X → Type 0) → IfOk r P → IfOk r Q → IfOk r (λ x. P x × Q x)
if_ok_both (Ok x) P Q p q = (p, q)
if_ok_both (Err e) P Q p q = tt

if_ok_map : {X F : Type 0} (r : Result X F) (P Q : X → Type 0) → ((x : X) → P x → Q x) → IfOk r P → IfOk r Q
if_ok_map (Ok x) P Q f p = f x p
if_ok_map (Err e) P Q f p = tt

algebra_fits : (a : Applied) → ¬ algebra.IsTooLarge a → AnswerFits a
algebra_fits unchanged h = tt
algebra_fits (gives t) h = within t h
algebra_fits (noticed n t) h = within t h
algebra_fits (told n) h = tt

algebra_large : (a : Applied) → NoticeFits a → algebra.IsTooLarge a → AnswerIsLarge a
algebra_large unchanged f h = absurd h
algebra_large (gives t) f h = beyond t h
algebra_large (noticed n t) f h = absurd (h ((fits_decides t).0 f))
algebra_large (told n) f h = absurd h

lists_fits : (a : Applied) → ¬ lists.IsTooLarge a → AnswerFits a
lists_fits unchanged h = tt
lists_fits (gives t) h = within t h
lists_fits (noticed n t) h = within t h
lists_fits (told n) h = tt

lists_large : (a : Applied) → NoticeFits a → lists.IsTooLarge a → AnswerIsLarge a
lists_large unchanged f h = absurd h
lists_large (gives t) f h = beyond t h
lists_large (noticed n t) f h = absurd (h ((fits_decides t).0 f))
lists_large (told n) f h = absurd h

module _ (a : Applied) (r : Result code.Applied ExprFault) (f : NoticeFits a) (e : IfOk r (λ v. plain_applied v ≡ a)) where
  pub algebra_answers : IfOk r (λ v. ¬ algebra.IsTooLarge a) → (r ≡ Err fault.Large → algebra.IsTooLarge a) → Answers a r
  algebra_answers n l = record {
    is = if_ok_both r (λ v. plain_applied v ≡ a) (λ v. AnswerFits a) e (if_ok_map r (λ v. ¬ algebra.IsTooLarge a) (λ v. AnswerFits a) (λ v. algebra_fits a) n);
    large = λ q. algebra_large a f (l q);
  }

  pub lists_answers : IfOk r (λ v. ¬ lists.IsTooLarge a) → (r ≡ Err fault.Large → lists.IsTooLarge a) → Answers a r
  lists_answers n l = record {
    is = if_ok_both r (λ v. plain_applied v ≡ a) (λ v. AnswerFits a) e (if_ok_map r (λ v. ¬ lists.IsTooLarge a) (λ v. AnswerFits a) (λ v. lists_fits a) n);
    large = λ q. lists_large a f (l q);
  }

-- ---- stamps

-- the node of these elements
abbrev around : List Stamped → Stamped
around es = node None (text []) (from_list es)

elements_from : (ms es : List Stamped) → IsFrom ms (around es) → All (IsFrom ms) es
elements_from ms es h = all_from ms es h.1

module _ (k : Evaluator) (es : List Stamped) (h : AllHonest k es) where
  pub from_honest : (r : Stamped) → ((ms : List Stamped) → All (IsFrom ms) es → IsFrom ms r) → Honest k r
  from_honest r f = passed_honest k.store (around es) r (λ ms g. f ms (elements_from ms es g)) (built_honest k.store (text []) es tt h)

  pub algebra_honest : (r : Result code.Applied ExprFault) → ((ms : List Stamped) → All (IsFrom ms) es → IfOk r (algebra.AppliedIsFrom ms)) → IfOk r (HonestApplied k)
  algebra_honest (Ok variant.Unchanged) f = tt
  algebra_honest (Ok (variant.Gives e)) f = from_honest e f
  algebra_honest (Ok (variant.Notice n e)) f = from_honest e (λ ms g. (f ms g).1)
  algebra_honest (Ok (variant.Told n)) f = tt
  algebra_honest (Err e) f = tt

  pub lists_honest : (r : Result code.Applied ExprFault) → ((ms : List Stamped) → All (IsFrom ms) es → IfOk r (lists.AppliedIsFrom ms)) → IfOk r (HonestApplied k)
  lists_honest (Ok variant.Unchanged) f = tt
  lists_honest (Ok (variant.Gives e)) f = from_honest e f
  lists_honest (Ok (variant.Notice n e)) f = from_honest e (λ ms g. (f ms g).1)
  lists_honest (Ok (variant.Told n)) f = tt
  lists_honest (Err e) f = tt

-- ---- how they play

-- a result that fits
pub sized_gives : (t : Tree) (k : Evaluator) → fits t ≡ true → Plays (sized_result (Some t)) k (Ok (Some t)) k false
sized_gives t k h = plays_bind (sized t) _ (plays_fits t k h) plays_done

answered_large : (a : Applied) (k k' : Evaluator) (e : Stop) → AnswerIsLarge a → TooLarge k e k' → Played found_tree (sized_row (applied_by a)) k (Err e) k'
answered_large unchanged k k' e h g = absurd h
answered_large (gives t) k k' e h g = played_bind found_tree (done (Some t)) _ k k (Some t) (Err e) k' plays_done (played_stop played.itself found_tree (sized t) _ k e k' (sized_large played.itself t k k' e h g))
answered_large (noticed n t) k k' e h g = absurd h
answered_large (told n) k k' e h g = absurd h

pub answered_fault : (a : Applied) (k k' : Evaluator) (r : Result code.Applied ExprFault) (f : ExprFault) (e : Stop) → r ≡ Err f → Answers a r → FaultStops f k e k' → Played found_tree (sized_row (applied_by a)) k (Err e) k'
answered_fault a k k' r fault.Memory e q h g = subst (λ z. Played found_tree (sized_row (applied_by a)) k (Err z) k') (sym g) tt
answered_fault a k k' r fault.Large e q h g = answered_large a k k' e (h.large q) g

-- what was answered
answered_is : (a : Applied) (r : Result code.Applied ExprFault) (v : code.Applied) → r ≡ Ok v → Answers a r → (plain_applied v ≡ a) × AnswerFits a
answered_is a r v q h = subst (λ z. IfOk z (λ w. (plain_applied w ≡ a) × AnswerFits a)) q h.is

module _ (a : Applied) (k : Evaluator) (r : Result code.Applied ExprFault) (h : Answers a r) where
  pub answered_unchanged : r ≡ Ok variant.Unchanged → Plays (sized_row (applied_by a)) k (Ok None) k false
  answered_unchanged q =
      let w = answered_is a r variant.Unchanged q h in
      subst (λ z. Plays (sized_row (applied_by z)) k (Ok None) k false) w.0 (plays_bind (done None) _ plays_done plays_done)

  pub answered_gives : (e : Stamped) → r ≡ Ok (variant.Gives e) → Plays (sized_row (applied_by a)) k (Ok (Some (plain e))) k false
  answered_gives e q =
      let w = answered_is a r (variant.Gives e) q h in
      subst (λ z. Plays (sized_row (applied_by z)) k (Ok (Some (plain e))) k false) w.0
      (plays_bind (done (Some (plain e))) _ plays_done (sized_gives (plain e) k (subst AnswerFits (sym w.0) w.1)))

  pub answered_notice : (n : notices.Notice) (e : Stamped) (k' : Evaluator) → r ≡ Ok (variant.Notice n e) → Plays (notify (plain_notice n)) k (Ok tt) k' false → Plays (sized_row (applied_by a)) k (Ok (Some (plain e))) k' false
  answered_notice n e k' q p =
      let w = answered_is a r (variant.Notice n e) q h in
      subst (λ z. Plays (sized_row (applied_by z)) k (Ok (Some (plain e))) k' false) w.0
      (plays_bind (notify (plain_notice n) >>= λ _. done (Some (plain e))) _ (plays_bind (notify (plain_notice n)) _ p plays_done) (sized_gives (plain e) k' (subst AnswerFits (sym w.0) w.1)))

  pub answered_told : (n : notices.Notice) (k' : Evaluator) → r ≡ Ok (variant.Told n) → Plays (notify (plain_notice n)) k (Ok tt) k' false → Plays (sized_row (applied_by a)) k (Ok None) k' false
  answered_told n k' q p =
      let w = answered_is a r (variant.Told n) q h in
      subst (λ z. Plays (sized_row (applied_by z)) k (Ok None) k' false) w.0 (plays_bind (notify (plain_notice n) >>= λ _. done None) _ (plays_bind (notify (plain_notice n)) _ p plays_done) plays_done)

-- what was answered is honest
pub honest_answer : (k : Evaluator) (r : Result code.Applied ExprFault) (v : code.Applied) → r ≡ Ok v → IfOk r (HonestApplied k) → HonestApplied k v
honest_answer k r v q h = subst (λ z. IfOk z (HonestApplied k)) q h

-- ---- rows whose result is an expression, and rows that stop

pub row_plays : (p : Prog (Option Tree)) (k k' : Evaluator) (o : Option Tree) → OptionFits o → Plays p k (Ok o) k' false → Plays (sized_row p) k (Ok o) k' false
row_plays p k k' None f h = plays_bind p _ h plays_done
row_plays p k k' (Some t) f h = plays_bind p _ h (sized_gives t k' f)

pub row_stops : (p : Prog (Option Tree)) (k k' : Evaluator) (e : Stop) → Played found_tree p k (Err e) k' → Played found_tree (sized_row p) k (Err e) k'
row_stops p k k' e h = played_stop found_tree found_tree p _ k e k' h

-- a result that doesn't fit
pub row_large : (p : Prog (Option Tree)) (t : Tree) (k k1 k' : Evaluator) (e : Stop) → fits t ≡ false → Plays p k (Ok (Some t)) k1 false → TooLarge k1 e k' → Played found_tree (sized_row p) k (Err e) k'
row_large p t k k1 k' e f h g = played_bind found_tree p _ k k1 (Some t) (Err e) k' h (played_stop played.itself found_tree (sized t) _ k1 e k' (sized_large played.itself t k1 k' e f g))
