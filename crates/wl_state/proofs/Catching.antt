-- What rows give of how evaluations end.
use Rattle.std.proofs.Common.{◌≡◌, ℕ, suc, Bool, true, false, List, [], ◌∷◌, length, Option, Some, None, option_map, Result, Ok, Err, refl, sym, ap, ap₂, ◌∙◌, subst}
use Rattle.std.proofs.lemmas.List.Elements.{All-head, All-tail}
use Rattle.wl_expr.specs.Stamped.{Stamped, plain}
use Rattle.wl_expr.specs.Tree.{Tree, IsWithinLimits}
use Rattle.wl_expr.proofs.Small.{fits_decides}
use Rattle.wl_semantics.specs.State as spec
use Rattle.wl_semantics.specs.State.{State, End, BudgetEnded}
use Rattle.wl_semantics.specs.Prog as prog
use Rattle.wl_semantics.specs.Prog.{Prog, done, stop, ◌>>=◌, now, valued, result}
use Rattle.wl_semantics.specs.BuiltIn.{sized_result}
use Rattle.wl_semantics.specs.EndRows.{abort_row, after_abort, break_row, catch_plain, catch_row, catch_tagged, check_abort_row, continue_row, passed_on, throw_row}
use Rattle.wl_semantics.specs.MessageRows.{check_row, quiet_row}
use Rattle.wl_semantics.specs.Match.{matches}
use Rattle.wl_state.specs.Honest.{HonestIn, HonestOption}
use Rattle.wl_semantics.specs.Eval.{interp, is_budget_end, Go}
use Rattle.wl_state.specs.Parts.{sized_row}
use Rattle.wl_state.specs.Played.{Plays, Played, Ended, Valued, Honest, AllHonest, HonestEnd, GoodEnd, found_tree, itself, end_of, state, trees}
use Rattle.wl_state.specs.declared.evaluator.Evaluator.{Evaluator}
use Rattle.wl_state.specs.declared.ends.Stop.{Stop}
use Rattle.wl_state.specs.declared.ends.Stop.TheVariants as stops
use Rattle.wl_state.specs.declared.ends.End as ends
use Rattle.wl_state.specs.declared.ends.End.TheVariants as end
use Rattle.wl_state.proofs.Bindings.{bind_assoc}
use Rattle.wl_state.proofs.Playing.{plays_bind, plays_stop, plays_done, plays_now, plays_stops}
use Rattle.wl_state.proofs.Rows.{played_bind, played_stop}
use Rattle.wl_state.proofs.RowParts.{row_gives}

-- ---- stops

-- a row that stops
pub row_ends : (p : Prog (Option Tree)) (k : Evaluator) (e : Stop) → Played found_tree p k (Err e) k → Played found_tree (sized_row p) k (Err e) k
row_ends p k stops.Memory h = tt
row_ends p k (stops.Thrown v t) h = (plays_stop p _ h.0, h.1)
row_ends p k stops.Aborted h = (plays_stop p _ h.0, tt)
row_ends p k stops.BudgetEnded h = (plays_stop p _ h.0, tt)
row_ends p k stops.Broke h = (plays_stop p _ h.0, tt)
row_ends p k stops.Continued h = (plays_stop p _ h.0, tt)

stopped_result : (e : End) (s : spec.State) → (Go (sized_row (stop e)) s).result ≡ Err e
unfolding ◌>>=◌ interp
stopped_result e s = refl

only_budget : (p : Prog (Option Tree)) (k k2 : Evaluator) (x : Result (Option Tree) End) (o : Bool) → p ≡ stop BudgetEnded → Plays (sized_row p) k x k2 o → x ≡ Err BudgetEnded
only_budget p k k2 x o e h = sym h.ends ∙ ap (λ q. (Go (sized_row q) (state k)).result) e ∙ stopped_result BudgetEnded (state k)

-- a budget that ended within ends the row
row_over : {A : Type 0} (p : Prog A) (f : A → Prog (Option Tree)) (k k1 : Evaluator) (a : A) (r : Result (Option Stamped) Stop) (k2 : Evaluator) → Plays p k (Ok a) k1 true → f a ≡ stop BudgetEnded
    → Played found_tree (sized_row (f a)) k1 r k2 → Played found_tree (p >>= λ x. sized_row (f x)) k r k2
row_over p f k k1 a (Ok y) k2 h b m = absurd (let w = only_budget (f a) k1 k2 _ _ b m.0 in cc)
row_over p f k k1 a (Err stops.Memory) k2 h b m = tt
row_over p f k k1 a (Err (stops.Thrown v t)) k2 h b m = absurd (let w = only_budget (f a) k1 k2 _ _ b m.0 in cc)
row_over p f k k1 a (Err stops.Aborted) k2 h b m = absurd (let w = only_budget (f a) k1 k2 _ _ b m.0 in cc)
row_over p f k k1 a (Err stops.BudgetEnded) k2 h b m = (plays_bind p (λ x. sized_row (f x)) h m.0, tt)
row_over p f k k1 a (Err stops.Broke) k2 h b m = absurd (let w = only_budget (f a) k1 k2 _ _ b m.0 in cc)
row_over p f k k1 a (Err stops.Continued) k2 h b m = absurd (let w = only_budget (f a) k1 k2 _ _ b m.0 in cc)

row_within : {A : Type 0} (p : Prog A) (f : A → Prog (Option Tree)) (k k1 : Evaluator) (a : A) (u : End) (r : Result (Option Stamped) Stop) (k2 : Evaluator) → Plays p k (Ok a) k1 (is_budget_end u) → (u ≡ BudgetEnded → f a ≡ stop BudgetEnded)
    → Played found_tree (sized_row (f a)) k1 r k2 → Played found_tree (p >>= λ x. sized_row (f x)) k r k2
row_within p f k k1 a (spec.Value v) r k2 h b m = played_bind found_tree p _ k k1 a r k2 h m
row_within p f k k1 a (spec.Thrown v t) r k2 h b m = played_bind found_tree p _ k k1 a r k2 h m
row_within p f k k1 a spec.Aborted r k2 h b m = played_bind found_tree p _ k k1 a r k2 h m
row_within p f k k1 a BudgetEnded r k2 h b m = row_over p f k k1 a r k2 h (b refl) m
row_within p f k k1 a spec.Broke r k2 h b m = played_bind found_tree p _ k k1 a r k2 h m
row_within p f k k1 a spec.Continued r k2 h b m = played_bind found_tree p _ k k1 a r k2 h m

-- an evaluation ended as u says, and the row goes on with that
pub row_end : {A : Type 0} (p : Prog A) (f : A → Prog (Option Tree)) (k k1 : Evaluator) (a : A) (u : End) (r : Result (Option Stamped) Stop) (k2 : Evaluator) → Plays p k (Ok a) k1 (is_budget_end u) → (u ≡ BudgetEnded → f a ≡ stop BudgetEnded)
    → Played found_tree (sized_row (f a)) k1 r k2 → Played found_tree (sized_row (p >>= f)) k r k2
row_end p f k k1 a u r k2 h b m = subst (λ q. Played found_tree q k r k2) (sym (bind_assoc p f (λ o. sized_result o))) (row_within p f k k1 a u r k2 h b m)

-- ---- the value of an end

err_inj : {A : Type 0} {a b : Stop} → ◌≡◌ {A = Result A Stop} (Err a) (Err b) → a ≡ b
err_inj e = cc

-- what is no value stops
pub valued_stops : (g : Tree → Prog (Option Tree)) (k : Evaluator) (e : ends.End) (v : Result Stamped Stop) (s : Stop) → v ≡ Err s → Valued e v → HonestEnd k e → Played found_tree (sized_row (now (valued (end_of e)) >>= g)) k (Err s) k
valued_stops g k (end.Value w) v s q d h = absurd (let z = sym q ∙ d in cc)
valued_stops g k (end.Thrown w t) v s q d h =
    subst (λ z. Played found_tree (sized_row (now (valued (end_of (end.Thrown w t))) >>= g)) k (Err z) k) (err_inj (sym d ∙ q))
    (plays_stop _ _ (plays_stop _ g (plays_now (Err (spec.Thrown (plain w) (option_map plain t))) k)), h)
valued_stops g k end.Aborted v s q d h = subst (λ z. Played found_tree (sized_row (now (valued spec.Aborted) >>= g)) k (Err z) k) (err_inj (sym d ∙ q)) (plays_stop _ _ (plays_stop _ g (plays_now (Err spec.Aborted) k)), tt)
valued_stops g k end.BudgetEnded v s q d h = subst (λ z. Played found_tree (sized_row (now (valued BudgetEnded) >>= g)) k (Err z) k) (err_inj (sym d ∙ q)) (plays_stop _ _ (plays_stop _ g (plays_now (Err BudgetEnded) k)), tt)
valued_stops g k end.Broke v s q d h = subst (λ z. Played found_tree (sized_row (now (valued spec.Broke) >>= g)) k (Err z) k) (err_inj (sym d ∙ q)) (plays_stop _ _ (plays_stop _ g (plays_now (Err spec.Broke) k)), tt)
valued_stops g k end.Continued v s q d h = subst (λ z. Played found_tree (sized_row (now (valued spec.Continued) >>= g)) k (Err z) k) (err_inj (sym d ∙ q)) (plays_stop _ _ (plays_stop _ g (plays_now (Err spec.Continued) k)), tt)

-- with a value the row goes on
pub valued_goes_on : (g : Tree → Prog (Option Tree)) (k : Evaluator) (e : ends.End) (v : Result Stamped Stop) (x : Stamped) (r : Result (Option Stamped) Stop) → v ≡ Ok x → Valued e v → HonestEnd k e
    → (Honest k x → Played found_tree (sized_row (g (plain x))) k r k) → Played found_tree (sized_row (now (valued (end_of e)) >>= g)) k r k
valued_goes_on g k (end.Value w) v x r q d h f =
    let z : w ≡ x = (let y : ◌≡◌ {A = Result Stamped Stop} (Ok w) (Ok x) = sym d ∙ q in cc) in
    subst (λ t. Played found_tree (sized_row (now (Ok (plain t)) >>= g)) k r k) (sym z)
    (subst (λ p. Played found_tree p k r k) (sym (bind_assoc (now (Ok (plain x))) g (λ o. sized_result o))) (played_bind found_tree (now (Ok (plain x))) _ k k (plain x) r k (plays_now (Ok (plain x)) k) (f (subst (Honest k) z h))))
valued_goes_on g k (end.Thrown w t) v x r q d h f = absurd (let z = sym q ∙ d in cc)
valued_goes_on g k end.Aborted v x r q d h f = absurd (let z = sym q ∙ d in cc)
valued_goes_on g k end.BudgetEnded v x r q d h f = absurd (let z = sym q ∙ d in cc)
valued_goes_on g k end.Broke v x r q d h f = absurd (let z = sym q ∙ d in cc)
valued_goes_on g k end.Continued v x r q d h f = absurd (let z = sym q ∙ d in cc)

-- the end of a budget is passed on
pub budget_stops : (g : Tree → Prog (Option Tree)) → (now (valued BudgetEnded) >>= g) ≡ stop BudgetEnded
unfolding ◌>>=◌ now
budget_stops g = refl

-- ---- what is given

pub given_fits : (k : Evaluator) (v : Stamped) → IsWithinLimits (plain v) → Honest k v → Played found_tree (sized_row (result (plain v))) k (Ok (Some v)) k
given_fits k v f h = row_gives (result (plain v)) k k v plays_done ((fits_decides (plain v)).1 f) h

-- what was thrown with a tag, once the pattern was tried on that
abbrev thrown_by : Tree → Tree → Bool → Prog (Option Tree)
thrown_by v t b = elim b [ true ↦ result v | false ↦ stop (spec.Thrown v (Some t)) ]

thrown_goes_on : (p v t : Tree) (k k1 : Evaluator) (b : Bool) (r : Result (Option Stamped) Stop) → Plays (matches p t) k (Ok b) k1 false → Played found_tree (sized_row (thrown_by v t b)) k1 r k1 → Played found_tree (sized_row (catch_tagged p (spec.Thrown v (Some t)))) k r k1
thrown_goes_on p v t k k1 b r h m = subst (λ q. Played found_tree q k r k1) (sym (bind_assoc (matches p t) (thrown_by v t) (λ o. sized_result o))) (played_bind found_tree (matches p t) _ k k1 b r k1 h m)

pub thrown_caught : (p : Tree) (v t : Stamped) (k k1 : Evaluator) (b : Bool) → Plays (matches p (plain t)) k (Ok b) k1 false → b ≡ true → IsWithinLimits (plain v) → Honest k1 v
    → Played found_tree (sized_row (catch_tagged p (spec.Thrown (plain v) (Some (plain t))))) k (Ok (Some v)) k1
thrown_caught p v t k k1 b h e f g = thrown_goes_on p (plain v) (plain t) k k1 b (Ok (Some v)) h (subst (λ z. Played found_tree (sized_row (thrown_by (plain v) (plain t) z)) k1 (Ok (Some v)) k1) (sym e) (given_fits k1 v f g))

pub thrown_on : (p : Tree) (v t : Stamped) (k k1 : Evaluator) (b : Bool) → Plays (matches p (plain t)) k (Ok b) k1 false → b ≡ false → Honest k1 v → Honest k1 t
    → Played found_tree (sized_row (catch_tagged p (spec.Thrown (plain v) (Some (plain t))))) k (Err (stops.Thrown v (Some t))) k1
thrown_on p v t k k1 b h e f g =
    thrown_goes_on p (plain v) (plain t) k k1 b (Err (stops.Thrown v (Some t))) h
    (subst (λ z. Played found_tree (sized_row (thrown_by (plain v) (plain t) z)) k1 (Err (stops.Thrown v (Some t))) k1) (sym e)
    (plays_stop (stop (spec.Thrown (plain v) (Some (plain t)))) _ (plays_stops (spec.Thrown (plain v) (Some (plain t))) k1), (f, g)))

pub thrown_stops : (p v t : Tree) (k : Evaluator) (s : Stop) (k1 : Evaluator) → Played itself (matches p t) k (Err s) k1 → Played found_tree (sized_row (catch_tagged p (spec.Thrown v (Some t)))) k (Err s) k1
thrown_stops p v t k s k1 h = subst (λ q. Played found_tree q k (Err s) k1) (sym (bind_assoc (matches p t) (thrown_by v t) (λ o. sized_result o))) (played_stop itself found_tree (matches p t) _ k s k1 h)

-- ---- honest ends

pub end_honest : (n : ℕ) (k : Evaluator) (e : ends.End) → GoodEnd n k e → HonestEnd k e
end_honest n k (end.Value v) h = h.0
end_honest n k (end.Thrown v t) h = h
end_honest n k end.Aborted h = tt
end_honest n k end.BudgetEnded h = tt
end_honest n k end.Broke h = tt
end_honest n k end.Continued h = tt

pub end_elsewhere : (k k1 : Evaluator) (e : ends.End) → k.store ≡ k1.store → HonestEnd k e → HonestEnd k1 e
end_elsewhere k k1 (end.Value v) s h = subst (λ z. HonestIn z v) s h
end_elsewhere k k1 (end.Thrown v t) s h = (subst (λ z. HonestIn z v) s h.0, subst (λ z. HonestOption z t) s h.1)
end_elsewhere k k1 end.Aborted s h = tt
end_elsewhere k k1 end.BudgetEnded s h = tt
end_elsewhere k k1 end.Broke s h = tt
end_elsewhere k k1 end.Continued s h = tt

-- a row that asks how an evaluation ends
pub ended_row : (f : End → Prog (Option Tree)) (t : Tree) (k k1 : Evaluator) (x : ends.End) (r : Result (Option Stamped) Stop) (k2 : Evaluator) → f BudgetEnded ≡ stop BudgetEnded → Ended t k (Ok x) k1
    → (HonestEnd k1 x → Played found_tree (sized_row (f (end_of x))) k1 r k2) → Played found_tree (sized_row (prog.end_of t >>= f)) k r k2
ended_row f t k k1 x r k2 b h m = row_end (prog.end_of t) f k k1 (end_of x) (end_of x) r k2 h.0 (λ q. ap f q ∙ b) (m (end_honest k1.depth k1 x h.1))

-- an evaluation that gives no end has had no memory
pub ended_exit : (p : Prog (Option Tree)) (t : Tree) (k k1 : Evaluator) (r : Result (Option Stamped) Stop) (d s : Stop) → r ≡ Err d → d ≡ s → Ended t k (Err s) k1 → Played found_tree p k r k1
ended_exit p t k k1 r d stops.Memory q w h = subst (λ z. Played found_tree p k z k1) (sym (q ∙ ap Err w)) tt
ended_exit p t k k1 r d (stops.Thrown v u) q w h = absurd h
ended_exit p t k k1 r d stops.Aborted q w h = absurd h
ended_exit p t k k1 r d stops.BudgetEnded q w h = absurd h
ended_exit p t k k1 r d stops.Broke q w h = absurd h
ended_exit p t k k1 r d stops.Continued q w h = absurd h

-- ---- ends that are caught, and those that aren't

pub end_exit : (g : Tree → Prog (Option Tree)) (k : Evaluator) (e : ends.End) (v : Result Stamped Stop) (r : Result (Option Stamped) Stop) (d s : Stop) → r ≡ Err d → d ≡ s → v ≡ Err s → Valued e v → HonestEnd k e
    → Played found_tree (sized_row (now (valued (end_of e)) >>= g)) k r k
end_exit g k e v r d s p q w x h = subst (λ z. Played found_tree (sized_row (now (valued (end_of e)) >>= g)) k z k) (sym (p ∙ ap Err q)) (valued_stops g k e v s w x h)

pub plainly_caught : (k : Evaluator) (e : ends.End) (v : Stamped) (t : Option Stamped) → e ≡ end.Thrown v t → t ≡ None → IsWithinLimits (plain v) → HonestEnd k e → Played found_tree (sized_row (catch_plain (end_of e))) k (Ok (Some v)) k
plainly_caught k e v t p q f h =
    let w : e ≡ end.Thrown v None = p ∙ ap (end.Thrown v) q in
    subst (λ z. Played found_tree (sized_row (catch_plain (end_of z))) k (Ok (Some v)) k) (sym w) (given_fits k v f (subst (HonestEnd k) w h).0)

pub plainly_thrown : (k : Evaluator) (e : ends.End) (v : Stamped) (t : Option Stamped) (u : Stamped) → e ≡ end.Thrown v t → t ≡ Some u → HonestEnd k e → Played found_tree (sized_row (catch_plain (end_of e))) k (Err (stops.Thrown v (Some u))) k
plainly_thrown k e v t u p q h =
    let w : e ≡ end.Thrown v (Some u) = p ∙ ap (end.Thrown v) q in
    subst (λ z. Played found_tree (sized_row (catch_plain (end_of z))) k (Err (stops.Thrown v (Some u))) k) (sym w)
    (valued_stops (λ x. result x) k (end.Thrown v (Some u)) (Err (stops.Thrown v (Some u))) (stops.Thrown v (Some u)) refl refl (subst (HonestEnd k) w h))

pub plainly_passed : (k : Evaluator) (e : ends.End) (r : Result (Option Stamped) Stop) → ((v : Stamped) (t : Option Stamped) → e ≡ end.Thrown v t → ⊥) → Played found_tree (sized_row (passed_on (end_of e))) k r k → Played found_tree (sized_row (catch_plain (end_of e))) k r k
plainly_passed k (end.Value v) r n h = h
plainly_passed k (end.Thrown v t) r n h = absurd (n v t refl)
plainly_passed k end.Aborted r n h = h
plainly_passed k end.BudgetEnded r n h = h
plainly_passed k end.Broke r n h = h
plainly_passed k end.Continued r n h = h

pub tagged_thrown : (p : Tree) (k : Evaluator) (e : ends.End) (v : Stamped) (t : Option Stamped) → e ≡ end.Thrown v t → t ≡ None → HonestEnd k e → Played found_tree (sized_row (catch_tagged p (end_of e))) k (Err (stops.Thrown v None)) k
tagged_thrown c k e v t p q h =
    let w : e ≡ end.Thrown v None = p ∙ ap (end.Thrown v) q in
    subst (λ z. Played found_tree (sized_row (catch_tagged c (end_of z))) k (Err (stops.Thrown v None)) k) (sym w)
    (valued_stops (λ x. result x) k (end.Thrown v None) (Err (stops.Thrown v None)) (stops.Thrown v None) refl refl (subst (HonestEnd k) w h))

pub tagged_is : (e : ends.End) (v : Stamped) (t : Option Stamped) (u : Stamped) → e ≡ end.Thrown v t → t ≡ Some u → e ≡ end.Thrown v (Some u)
tagged_is e v t u p q = p ∙ ap (end.Thrown v) q

pub tagged_passed : (p : Tree) (k : Evaluator) (e : ends.End) (r : Result (Option Stamped) Stop) → ((v : Stamped) (t : Option Stamped) → e ≡ end.Thrown v t → ⊥) → Played found_tree (sized_row (passed_on (end_of e))) k r k → Played found_tree (sized_row (catch_tagged p (end_of e))) k r k
tagged_passed p k (end.Value v) r n h = h
tagged_passed p k (end.Thrown v t) r n h = absurd (n v t refl)
tagged_passed p k end.Aborted r n h = h
tagged_passed p k end.BudgetEnded r n h = h
tagged_passed p k end.Broke r n h = h
tagged_passed p k end.Continued r n h = h

pub abort_caught : (f : Stamped) (k : Evaluator) (e : ends.End) (r : Stamped) → e ≡ end.Aborted → r ≡ f → IsWithinLimits (plain f) → Honest k f → Played found_tree (sized_row (after_abort (plain f) (end_of e))) k (Ok (Some r)) k
abort_caught f k e r p q w h =
    subst (λ z. Played found_tree (sized_row (after_abort (plain f) (end_of z))) k (Ok (Some r)) k) (sym p)
    (subst (λ z. Played found_tree (sized_row (result (plain f))) k (Ok (Some z)) k) (sym q) (given_fits k f w h))

pub abort_passed : (f : Tree) (k : Evaluator) (e : ends.End) (r : Result (Option Stamped) Stop) → (e ≡ end.Aborted → ⊥) → Played found_tree (sized_row (passed_on (end_of e))) k r k → Played found_tree (sized_row (after_abort f (end_of e))) k r k
abort_passed f k (end.Value v) r n h = h
abort_passed f k (end.Thrown v t) r n h = h
abort_passed f k end.Aborted r n h = absurd (n refl)
abort_passed f k end.BudgetEnded r n h = h
abort_passed f k end.Broke r n h = h
abort_passed f k end.Continued r n h = h

-- ---- what a Check gives

pub heard_fits : (k : Evaluator) (f x r : Stamped) (b : Bool) → b ≡ true → r ≡ f → IsWithinLimits (plain f) → Honest k f → Played found_tree (sized_row (result (elim b [ true ↦ plain f | false ↦ plain x ]))) k (Ok (Some r)) k
heard_fits k f x r b p q w h =
    subst (λ z. Played found_tree (sized_row (result (elim z [ true ↦ plain f | false ↦ plain x ]))) k (Ok (Some r)) k) (sym p)
    (subst (λ z. Played found_tree (sized_row (result (plain f))) k (Ok (Some z)) k) (sym q) (given_fits k f w h))

pub unheard_fits : (k : Evaluator) (f x : Stamped) (b : Bool) → b ≡ false → IsWithinLimits (plain x) → Honest k x → Played found_tree (sized_row (result (elim b [ true ↦ plain f | false ↦ plain x ]))) k (Ok (Some x)) k
unheard_fits k f x b p w h = subst (λ z. Played found_tree (sized_row (result (elim z [ true ↦ plain f | false ↦ plain x ]))) k (Ok (Some x)) k) (sym p) (given_fits k x w h)

-- ---- rows that catch, by their elements

pub second_honest : (k : Evaluator) (es : List Stamped) (e p : Stamped) → es ≡ e ∷ p ∷ [] → AllHonest k es → Honest k p
second_honest k es e p q h = All-head (Honest k) p [] (All-tail (Honest k) e (p ∷ []) (subst (AllHonest k) q h))

pub catch_one : (k k1 : Evaluator) (es : List Stamped) (e : Stamped) (x : ends.End) (r : Result (Option Stamped) Stop) → es ≡ e ∷ [] → Ended (plain e) k (Ok x) k1 → (HonestEnd k1 x → Played found_tree (sized_row (catch_plain (end_of x))) k1 r k1)
    → Played found_tree (sized_row (catch_row (trees es))) k r k1
catch_one k k1 es e x r q h m = subst (λ us. Played found_tree (sized_row (catch_row (trees us))) k r k1) (sym q) (ended_row (λ u. catch_plain u) (plain e) k k1 x r k1 (budget_stops (λ v. result v)) h m)

pub catch_two : (k k1 : Evaluator) (es : List Stamped) (e p : Stamped) (x : ends.End) (r : Result (Option Stamped) Stop) (k2 : Evaluator) → es ≡ e ∷ p ∷ [] → Ended (plain e) k (Ok x) k1
    → (HonestEnd k1 x → Played found_tree (sized_row (catch_tagged (plain p) (end_of x))) k1 r k2) → Played found_tree (sized_row (catch_row (trees es))) k r k2
catch_two k k1 es e p x r k2 q h m = subst (λ us. Played found_tree (sized_row (catch_row (trees us))) k r k2) (sym q) (ended_row (λ u. catch_tagged (plain p) u) (plain e) k k1 x r k2 (budget_stops (λ v. result v)) h m)

pub abort_two : (k k1 : Evaluator) (es : List Stamped) (e f : Stamped) (x : ends.End) (r : Result (Option Stamped) Stop) → es ≡ e ∷ f ∷ [] → Ended (plain e) k (Ok x) k1
    → (HonestEnd k1 x → Played found_tree (sized_row (after_abort (plain f) (end_of x))) k1 r k1) → Played found_tree (sized_row (check_abort_row (trees es))) k r k1
abort_two k k1 es e f x r q h m = subst (λ us. Played found_tree (sized_row (check_abort_row (trees us))) k r k1) (sym q) (ended_row (λ u. after_abort (plain f) u) (plain e) k k1 x r k1 (budget_stops (λ v. result v)) h m)

-- ---- rows that stop

pub throw_one : (k : Evaluator) (es : List Stamped) (v r : Stamped) → es ≡ v ∷ [] → r ≡ v → AllHonest k es → Played found_tree (sized_row (throw_row (trees es))) k (Err (stops.Thrown r None)) k
throw_one k es v r q p h =
    let g : AllHonest k (v ∷ []) = subst (AllHonest k) q h in
    subst (λ us. Played found_tree (sized_row (throw_row (trees us))) k (Err (stops.Thrown r None)) k) (sym q)
    (subst (λ z. Played found_tree (sized_row (throw_row (plain v ∷ []))) k (Err (stops.Thrown z None)) k) (sym p)
    (plays_stop (stop (spec.Thrown (plain v) None)) _ (plays_stops (spec.Thrown (plain v) None) k), (All-head (Honest k) v [] g, tt)))

pub throw_two : (k : Evaluator) (es : List Stamped) (v t r u : Stamped) → es ≡ v ∷ t ∷ [] → r ≡ v → u ≡ t → AllHonest k es → Played found_tree (sized_row (throw_row (trees es))) k (Err (stops.Thrown r (Some u))) k
throw_two k es v t r u q p w h =
    let g : AllHonest k (v ∷ t ∷ []) = subst (AllHonest k) q h in
    let e : stops.Thrown v (Some t) ≡ stops.Thrown r (Some u) = ap₂ (λ x y. let z : Stop = stops.Thrown x (Some y) in z) (sym p) (sym w) in
    subst (λ us. Played found_tree (sized_row (throw_row (trees us))) k (Err (stops.Thrown r (Some u))) k) (sym q)
    (subst (λ z. Played found_tree (sized_row (throw_row (plain v ∷ plain t ∷ []))) k (Err z) k) e
    (plays_stop (stop (spec.Thrown (plain v) (Some (plain t)))) _ (plays_stops (spec.Thrown (plain v) (Some (plain t))) k), (All-head (Honest k) v (t ∷ []) g, All-head (Honest k) t [] (All-tail (Honest k) v (t ∷ []) g))))

module _ (k : Evaluator) (es : List Stamped) (q : es ≡ []) where
  pub abort_none : Played found_tree (sized_row (abort_row (trees es))) k (Err stops.Aborted) k
  abort_none = subst (λ us. Played found_tree (sized_row (abort_row (trees us))) k (Err stops.Aborted) k) (sym q) (plays_stop (stop spec.Aborted) _ (plays_stops spec.Aborted k), tt)

  pub break_none : Played found_tree (sized_row (break_row (trees es))) k (Err stops.Broke) k
  break_none = subst (λ us. Played found_tree (sized_row (break_row (trees us))) k (Err stops.Broke) k) (sym q) (plays_stop (stop spec.Broke) _ (plays_stops spec.Broke k), tt)

  pub continue_none : Played found_tree (sized_row (continue_row (trees es))) k (Err stops.Continued) k
  continue_none = subst (λ us. Played found_tree (sized_row (continue_row (trees us))) k (Err stops.Continued) k) (sym q) (plays_stop (stop spec.Continued) _ (plays_stops spec.Continued k), tt)

-- ---- rows of another number of elements

pub abort_more : (es : List Stamped) → (length es ≡ 0 → ⊥) → abort_row (trees es) ≡ done None
abort_more [] n = absurd (n refl)
abort_more (e ∷ es) n = refl

pub break_more : (es : List Stamped) → (length es ≡ 0 → ⊥) → break_row (trees es) ≡ done None
break_more [] n = absurd (n refl)
break_more (e ∷ es) n = refl

pub continue_more : (es : List Stamped) → (length es ≡ 0 → ⊥) → continue_row (trees es) ≡ done None
continue_more [] n = absurd (n refl)
continue_more (e ∷ es) n = refl

pub throw_others : (es : List Stamped) → (length es ≡ 1 → ⊥) → (length es ≡ 2 → ⊥) → throw_row (trees es) ≡ done None
throw_others [] n m = refl
throw_others (e ∷ []) n m = absurd (n refl)
throw_others (e ∷ f ∷ []) n m = absurd (m refl)
throw_others (e ∷ f ∷ d ∷ es) n m = refl

pub catch_others : (es : List Stamped) → (length es ≡ 1 → ⊥) → (length es ≡ 2 → ⊥) → catch_row (trees es) ≡ done None
catch_others [] n m = refl
catch_others (e ∷ []) n m = absurd (n refl)
catch_others (e ∷ f ∷ []) n m = absurd (m refl)
catch_others (e ∷ f ∷ d ∷ es) n m = refl

pub check_abort_others : (es : List Stamped) → (length es ≡ 2 → ⊥) → check_abort_row (trees es) ≡ done None
check_abort_others [] m = refl
check_abort_others (e ∷ []) m = refl
check_abort_others (e ∷ f ∷ []) m = absurd (m refl)
check_abort_others (e ∷ f ∷ d ∷ es) m = refl

pub quiet_others : (es : List Stamped) → (length es ≡ 1 → ⊥) → quiet_row (trees es) ≡ done None
quiet_others [] n = refl
quiet_others (e ∷ []) n = absurd (n refl)
quiet_others (e ∷ f ∷ es) n = refl

pub check_others : (es : List Stamped) → (length es ≡ 2 → ⊥) → check_row (trees es) ≡ done None
check_others [] m = refl
check_others (e ∷ []) m = refl
check_others (e ∷ f ∷ []) m = absurd (m refl)
check_others (e ∷ f ∷ d ∷ es) m = refl

pub no_items : (es : List Stamped) → length es ≡ 0 → es ≡ []
no_items [] q = refl
no_items (e ∷ es) q = absurd (let z : suc (length es) ≡ 0 = q in cc)
