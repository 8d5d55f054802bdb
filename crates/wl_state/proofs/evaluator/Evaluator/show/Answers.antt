use Rattle.std.proofs.Common.{sym, ap}
use Rattle.wl_desk.specs.Desk.{Desk}
use Rattle.wl_semantics.specs.Effects.{acted}
use Rattle.wl_state.specs.Played.{state}
use Rattle.wl_semantics.specs.Prog as prog
use Rattle.wl_semantics.specs.State.{World}
use Rattle.wl_state.proofs.Moves.{plays_desk}
use Rattle.wl_state.proofs.evaluator.Evaluator.show.Goals as goal

pub returns-clause-played : goal.returns-clause-played
unfolding acted
returns-clause-played c =
    let k = c.args.self.now in
    plays_desk (prog.show c.args.item.now) k c.print.new.self (ap (λ (d : Desk). let w : World = record (state k).world { desk = d } in w) (sym c.in_ok-print.ensures.ok))
