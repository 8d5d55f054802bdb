-- The passes of Do and Table, one after the other.
use Rattle.std.proofs.Common.{◌≡◌, ℕ, zero, suc, ◌-◌, ◌<◌, Bool, List, [], ◌∷◌, ◌++◌, Option, Some, None, Result, Ok, refl, ap, sym, subst, ◌∙◌, arith}
use Rattle.std.specs.Prelude.{codes}
use Rattle.wl_exact.specs.Fraction.{Fraction}
use Rattle.wl_exact.specs.Span as span
use Rattle.wl_exact.specs.Span.{Following, next, ended, overflowed, following}
use Rattle.wl_expr.specs.Stamped.{Stamped, plain}
use Rattle.wl_expr.specs.Tree.{Tree}
use Rattle.wl_expr.specs.Words.{null_symbol, list_of}
use Rattle.wl_expr.specs.declared.fault.ExprFault.{ExprFault}
use Rattle.wl_control.specs.Asks.{Asks, gives, stays, overflows, eval, eval_catching, pass, alone_or}
use Rattle.wl_control.specs.Collected.{collected}
use Rattle.wl_control.specs.Iterators.{with_value, do_from, table_from}
use Rattle.wl_control.specs.Loops.{after_part}
use Rattle.wl_control.specs.Places.{IsAnswer, following_of, left_asks, do_asks, table_asks, passes_asks, setting_asks, pass_asks, table_again, over_asks, trees}
use Rattle.wl_control.specs.declared.place.Ask.TheVariants.{Pass}
use Rattle.wl_control.specs.declared.place.Following as code
use Rattle.wl_control.specs.declared.place.Left.{Left}
use Rattle.wl_control.specs.declared.place.Passes.{Passes}
use Rattle.wl_control.specs.declared.place.Place.TheVariants.{Leave}
use Rattle.wl_control.specs.declared.place.Step.{Step}

-- ---- Do

do_zero : (i : Bool) (s : span.Span) (b : Tree) (w : Following) → do_from 0 i s b w ≡ stays
unfolding do_from
do_zero i s b w = refl

do_ended : (n : ℕ) (i : Bool) (s : span.Span) (b : Tree) → 0 < n → do_from n i s b ended ≡ gives null_symbol
unfolding do_from
do_ended zero i s b h = absurd (omega arith)
do_ended (suc n) i s b h = refl

do_overflowed : (n : ℕ) (i : Bool) (s : span.Span) (b : Tree) → 0 < n → do_from n i s b overflowed ≡ overflows
unfolding do_from
do_overflowed zero i s b h = absurd (omega arith)
do_overflowed (suc n) i s b h = refl

abbrev pub do_pass : ℕ → Bool → span.Span → Tree → Fraction → Asks
do_pass n i s b v = pass (λ _. with_value i v (eval_catching b (λ u. after_part u (do_from n i s b (following s v)))))

do_next : (n : ℕ) (i : Bool) (s : span.Span) (b : Tree) (v : Fraction) → 0 < n → do_from n i s b (next v) ≡ do_pass (n - 1) i s b v
unfolding do_from
do_next zero i s b v h = absurd (omega arith)
do_next (suc n) i s b v h = let e : n ≡ suc n - 1 = omega arith in ap (λ m. do_pass m i s b v) e

-- ---- Table

table_zero : (i : Bool) (s : span.Span) (b : Tree) (ts : List Tree) (w : Following) → table_from 0 i s b ts w ≡ stays
unfolding table_from
table_zero i s b ts w = refl

table_ended : (n : ℕ) (i : Bool) (s : span.Span) (b : Tree) (ts : List Tree) → 0 < n → table_from n i s b ts ended ≡ gives (list_of ts)
unfolding table_from
table_ended zero i s b ts h = absurd (omega arith)
table_ended (suc n) i s b ts h = refl

table_overflowed : (n : ℕ) (i : Bool) (s : span.Span) (b : Tree) (ts : List Tree) → 0 < n → table_from n i s b ts overflowed ≡ overflows
unfolding table_from
table_overflowed zero i s b ts h = absurd (omega arith)
table_overflowed (suc n) i s b ts h = refl

abbrev pub table_pass : ℕ → Bool → span.Span → Tree → List Tree → Fraction → Asks
table_pass n i s b ts v = pass (λ _. with_value i v (eval b (λ w. collected (ts ++ w ∷ []) (λ more. table_from n i s b more (following s v)))))

table_next : (n : ℕ) (i : Bool) (s : span.Span) (b : Tree) (ts : List Tree) (v : Fraction) → 0 < n → table_from n i s b ts (next v) ≡ table_pass (n - 1) i s b ts v
unfolding table_from
table_next zero i s b ts v h = absurd (omega arith)
table_next (suc n) i s b ts v h = let e : n ≡ suc n - 1 = omega arith in ap (λ m. table_pass m i s b ts v) e

-- ---- both

-- these passes, one of them less
abbrev pub one_less : Passes → Passes
one_less p = record { named = p.named; body = p.body; span = p.span; passes = p.passes - 1 }

passes_zero : (p : Passes) (o : Option (List Stamped)) (w : Following) → p.passes ≡ 0 → passes_asks p o w ≡ stays
passes_zero p None w e = ap (λ n. do_asks (record { named = p.named; body = p.body; span = p.span; passes = n }) w) e ∙ do_zero _ _ _ _
passes_zero p (Some f) w e = ap (λ n. table_asks (record { named = p.named; body = p.body; span = p.span; passes = n }) (trees f) w) e ∙ table_zero _ _ _ _ _

pub no_passes : (p : Passes) (o : Option (List Stamped)) (w : Following) (r : Result Step ExprFault) → p.passes ≡ 0 → IsAnswer stays r → IsAnswer (passes_asks p o w) r
no_passes p o w r e h = subst (λ a. IsAnswer a r) (sym (passes_zero p o w e)) h

passes_ended : (p : Passes) (o : Option (List Stamped)) → 0 < p.passes → passes_asks p o ended ≡ over_asks o
passes_ended p None l = do_ended _ _ _ _ l
passes_ended p (Some f) l = table_ended _ _ _ _ _ l

pub passes_end : (p : Passes) (o : Option (List Stamped)) (r : Result Step ExprFault) → 0 < p.passes → IsAnswer (over_asks o) r → IsAnswer (passes_asks p o ended) r
passes_end p o r l h = subst (λ a. IsAnswer a r) (sym (passes_ended p o l)) h

passes_overflowed : (p : Passes) (o : Option (List Stamped)) → 0 < p.passes → passes_asks p o overflowed ≡ overflows
passes_overflowed p None l = do_overflowed _ _ _ _ l
passes_overflowed p (Some f) l = table_overflowed _ _ _ _ _ l

pub passes_overflow : (p : Passes) (o : Option (List Stamped)) (r : Result Step ExprFault) → 0 < p.passes → IsAnswer overflows r → IsAnswer (passes_asks p o overflowed) r
passes_overflow p o r l h = subst (λ a. IsAnswer a r) (sym (passes_overflowed p o l)) h

passes_next : (p : Passes) (o : Option (List Stamped)) (v : Fraction) → 0 < p.passes → passes_asks p o (next v) ≡ pass (λ _. setting_asks (one_less p) o v)
passes_next p None v l = do_next _ _ _ _ _ l
passes_next p (Some f) v l = table_next _ _ _ _ _ _ l

pub passes_begin : (p : Passes) (o : Option (List Stamped)) (v : Fraction) (r : Result Step ExprFault) → 0 < p.passes
    → IsAnswer (pass (λ _. setting_asks (one_less p) o v)) r → IsAnswer (passes_asks p o (next v)) r
passes_begin p o v r l h = subst (λ a. IsAnswer a r) (sym (passes_next p o v l)) h

-- what comes next, by its form
pub follows : (p : Passes) (o : Option (List Stamped)) (n m : code.Following) (r : Result Step ExprFault) → n ≡ m
    → IsAnswer (passes_asks p o (following_of m)) r → IsAnswer (passes_asks p o (following_of n)) r
follows p o n m r e h = subst (λ (n : code.Following). IsAnswer (passes_asks p o (following_of n)) r) (sym e) h

-- a pass begins
pub pass_begun : (l : Left) → IsAnswer (pass (λ _. left_asks l)) (Ok (record { ask = Pass; place = Leave l }))
pass_begun l = record { next = (refl, refl, λ h. h); large = λ e. cc }

-- the body of Table
pub table_body_asked : (p : Passes) (o : Option (List Stamped)) (f es : List Stamped) (b : Stamped) (v : Fraction) (r : Result Step ExprFault) → o ≡ Some f
    → es ≡ p.body.items → plain b ≡ alone_or (codes "Table") (trees es) → IsAnswer (eval (plain b) (table_again p f v)) r → IsAnswer (pass_asks p o v) r
table_body_asked p o f es b v r e a q h =
    let body : plain b ≡ alone_or (codes "Table") (trees p.body.items) = q ∙ ap (λ (xs : List Stamped). alone_or (codes "Table") (trees xs)) a in
    subst (λ (o : Option (List Stamped)). IsAnswer (pass_asks p o v) r) (sym e) (subst (λ t. IsAnswer (eval t (table_again p f v)) r) body h)
