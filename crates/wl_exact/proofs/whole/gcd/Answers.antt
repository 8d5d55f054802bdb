use Rattle.std.proofs.Common.{◌≡◌, ◌∙◌, sym, arith}
use Rattle.wl_exact.specs.Gcd.{gcd}
use Rattle.wl_exact.proofs.Divisors.{gcd_step, gcd_zero, gcd_pos_right, gcd_below}
use Rattle.wl_exact.proofs.whole.gcd.Goals as goal

pub remainders-preserved : goal.remainders-preserved
remainders-preserved c = gcd_step c.remainders.x c.remainders.y ∙ c.remainders.invariant

pub returns : goal.returns
returns c =
    let is : c.remainders.x ≡ gcd c.args.a c.args.b =
    sym (gcd_zero c.remainders.x c.remainders.y (omega arith)) ∙ c.remainders.invariant in
    record {
      value = is;
      positive = λ h. rw is (gcd_pos_right c.args.a c.args.b h);
      below = λ h l. rw is (gcd_below c.args.a c.args.b _ h l);
    }
