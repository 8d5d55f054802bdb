use Rattle.wl_syntax.proofs.Flat.{unless_has, join_needs}
use Rattle.wl_syntax.proofs.Steps.{join_has, join_barred, join_unfit}
use Rattle.wl_syntax.proofs.machine.Machine.join.Goals as goal

pub returns-in_default : goal.returns-in_default
returns-in_default c = unless_has _ (join_needs _) _ _ _ _ _ c.in_default.not-Has

pub returns-then-is_barred : goal.returns-then-is_barred
returns-then-is_barred c = join_barred _ _ _ _ _ c.in-Has.is c.is_barred.ensures c.if-is_barred.true

pub returns-then-not-fits_left : goal.returns-then-not-fits_left
returns-then-not-fits_left c = join_unfit _ _ _ _ _ c.in-Has.is c.fits_left.ensures (cc)

pub returns : goal.returns
returns c = join_has _ _ _ _ _ _ _ c.in-Has.is c.is_barred.ensures c.fits_left.ensures c.if-is_barred.false (cc) c.in_ok-push.ensures.items
