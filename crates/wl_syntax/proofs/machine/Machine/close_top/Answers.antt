use Rattle.wl_syntax.proofs.Flat.{pushed}
use Rattle.wl_syntax.proofs.Steps.{infix_closes, infix_unfit, prefix_closes, infix_stuck, prefix_stuck, infix_left, prefix_left, bracket_left, nothing_left}
use Rattle.wl_syntax.proofs.machine.Machine.close_top.Goals as goal

pub returns-in_default : goal.returns-in_default
returns-in_default c = let e = c.in_default.ensures in nothing_left _ _ _ _ _ _ _ c.requires e.0 e.1 e.2 e.3

pub returns-then-not-fits_right : goal.returns-then-not-fits_right
returns-then-not-fits_right c = infix_unfit _ _ _ _ _ _ _ _ _ _ c.in-Some.ensures.0 c.in-Some.ensures.2 c.in-Some.ensures.3 c.in-Infix.is (cc) c.fits_right.ensures (cc)

pub returns-then-takes : goal.returns-then-takes
returns-then-takes c = (c.in-Some.ensures.1, c.in-Some.ensures.4, infix_closes _ _ _ _ _ _ _ _ _ _ _ c.in-Some.ensures.0 c.in-Some.ensures.1 c.in-Some.ensures.2 c.in-Some.ensures.3 c.in-Infix.is (cc) c.fits_right.ensures (cc) (pushed _ _ _ c.in_ok-push-in-Infix.ensures.items))

pub returns-then-takes-2 : goal.returns-then-takes-2
returns-then-takes-2 c = (c.in-Some.ensures.1, c.in-Some.ensures.4, prefix_closes _ _ _ _ _ _ _ _ _ _ c.in-Some.ensures.0 c.in-Some.ensures.1 c.in-Some.ensures.2 c.in-Some.ensures.3 c.in-Prefix.is (cc) (pushed _ _ _ c.in_ok-push-in-Prefix.ensures.items))

pub returns-then-leaves : goal.returns-then-leaves
returns-then-leaves c = infix_left _ _ _ _ _ _ _ _ _ _ c.in-Some.ensures.0 c.in-Some.ensures.1 c.in-Some.ensures.2 c.in-Some.ensures.3 c.in_ok-push-in-Infix-2.ensures.items c.in-Infix.is (cc)

pub returns-then-leaves-2 : goal.returns-then-leaves-2
returns-then-leaves-2 c = prefix_left _ _ _ _ _ _ _ _ _ _ c.in-Some.ensures.0 c.in-Some.ensures.1 c.in-Some.ensures.2 c.in-Some.ensures.3 c.in_ok-push-in-Prefix-2.ensures.items c.in-Prefix.is (cc)

pub returns-else-leaves : goal.returns-else-leaves
returns-else-leaves c = infix_stuck _ _ _ _ _ _ _ _ c.in-Some.ensures.0 c.in-Some.ensures.3 c.in-Infix.is (cc) (cc)

pub returns-else-leaves-2 : goal.returns-else-leaves-2
returns-else-leaves-2 c = prefix_stuck _ _ _ _ _ _ _ _ c.in-Some.ensures.0 c.in-Some.ensures.3 c.in-Prefix.is (cc) (cc)

pub returns-in_ok-push-in_default-top : goal.returns-in_ok-push-in_default-top
returns-in_ok-push-in_default-top c = bracket_left _ _ _ _ _ _ _ _ _ c.in-Some.ensures.0 c.in-Some.ensures.1 c.in-Some.ensures.2 c.in-Some.ensures.3 c.in_ok-push-in_default-top.ensures.items (λ i k. c.in_default-top.not-Infix i k) (λ i k. c.in_default-top.not-Prefix i k)
