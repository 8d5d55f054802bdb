use Rattle.std.proofs.Common.{subst, ◌∷◌, []}
use Rattle.wl_match.specs.declared.taken.Goal.TheVariants.{Match}
use Rattle.wl_match.specs.Plays.{Puts}
use Rattle.wl_match.proofs.Arms as arms
use Rattle.wl_match.proofs.walk.Walk.then.Goals as goal

pub returns : goal.returns
returns c = subst (λ r. Puts c.args.self.now c.put-2.new.self (Match c.args.q r ∷ c.args.goal ∷ [])) c.in_ok-copy.ensures (arms.puts_two _ _ _ _ _ c.in_ok-put.ensures c.in_ok-put-2.ensures)
