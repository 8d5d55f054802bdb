-- One pass of a loop.
use Rattle.std.proofs.Common.{◌≡◌, ℕ, zero, suc, ◌-◌, ◌<◌, Option, Some, Result, refl, ap, sym, subst, ◌∙◌, arith}
use Rattle.std.specs.Prelude.{option_map}
use Rattle.wl_expr.specs.Stamped.{Stamped, plain}
use Rattle.wl_expr.specs.Tree.{Tree}
use Rattle.wl_expr.specs.declared.fault.ExprFault.{ExprFault}
use Rattle.wl_control.specs.Asks.{Asks, stays, eval_catching, pass, Caught}
use Rattle.wl_control.specs.Loops.{loop_from, part, after_condition, after_part}
use Rattle.wl_control.specs.Places.{IsAnswer}
use Rattle.wl_control.specs.declared.place.Step.{Step}

pub loop_over : (c : Tree) (b i : Option Tree) → loop_from 0 c b i ≡ stays
unfolding loop_from
loop_over c b i = refl

-- the pass that a loop begins, which leaves it one pass less
abbrev pub one_pass : ℕ → Tree → Option Tree → Option Tree → Asks
one_pass n c b i = pass (λ _. eval_catching c (λ u. after_condition u (part b (part i (loop_from n c b i))) (part i (loop_from n c b i))))

pub loop_pass : (n : ℕ) (c : Tree) (b i : Option Tree) → 0 < n → loop_from n c b i ≡ one_pass (n - 1) c b i
unfolding loop_from
loop_pass zero c b i h = absurd (omega arith)
loop_pass (suc n) c b i h = let e : n ≡ suc n - 1 = omega arith in ap (λ m. one_pass m c b i) e

pub no_pass : (n : ℕ) (c : Tree) (b i : Option Tree) (r : Result Step ExprFault) → n ≡ 0 → IsAnswer stays r → IsAnswer (loop_from n c b i) r
no_pass n c b i r e h = subst (λ a. IsAnswer a r) (sym (ap (λ m. loop_from m c b i) e ∙ loop_over c b i)) h

pub pass_asked : (n : ℕ) (c : Tree) (b i : Option Tree) (r : Result Step ExprFault) → 0 < n → IsAnswer (one_pass (n - 1) c b i) r → IsAnswer (loop_from n c b i) r
pass_asked n c b i r l h = subst (λ a. IsAnswer a r) (sym (loop_pass n c b i l)) h

-- ---- the condition, the body and the step that are asked for

pub caught_alike : (e f : Stamped) (k : Caught → Asks) (r : Result Step ExprFault) → e ≡ f → IsAnswer (eval_catching (plain e) k) r → IsAnswer (eval_catching (plain f) k) r
caught_alike e f k r p h = subst (λ (e : Stamped). IsAnswer (eval_catching (plain e) k) r) p h

pub part_asked : (o : Option Stamped) (e f : Stamped) (rest : Asks) (r : Result Step ExprFault) → o ≡ Some f → e ≡ f
    → IsAnswer (eval_catching (plain e) (λ u. after_part u rest)) r → IsAnswer (part (option_map plain o) rest) r
part_asked o e f rest r s p h =
    subst (λ (o : Option Stamped). IsAnswer (part (option_map plain o) rest) r) (sym s) (caught_alike e f (λ u. after_part u rest) r p h)
