use Rattle.std.proofs.Common.{sym, ap}
use Rattle.wl_desk.specs.Desk.{Desk}
use Rattle.wl_semantics.specs.Effects.{acted}
use Rattle.wl_state.specs.Played.{state, trees}
use Rattle.wl_semantics.specs.Prog as prog
use Rattle.wl_semantics.specs.State.{World}
use Rattle.wl_state.proofs.Moves.{plays_desk}
use Rattle.wl_state.proofs.Ticking.{ticked_at_most}
use Rattle.wl_state.proofs.evaluator.Evaluator.issue.Goals as goal

pub returns-clause-played : goal.returns-clause-played
unfolding acted
returns-clause-played g c =
    let k = c.args.self.now in
    plays_desk (prog.issue c.args.symbol.now c.args.tag.now (trees c.args.args.now)) k c.issue.new.self
    (ap (λ (d : Desk). let w : World = record (state k).world { desk = d } in w) (sym c.in_ok-issue.ensures.ok))

pub returns-in_err-issue-clause-ticks : goal.returns-in_err-issue-clause-ticks
returns-in_err-issue-clause-ticks g c = ticked_at_most 2 _ _ c.issue.ensures.ticks

pub returns-clause-ticks : goal.returns-clause-ticks
returns-clause-ticks g c = ticked_at_most 2 _ _ c.issue.ensures.ticks
