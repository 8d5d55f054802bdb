use Rattle.wl_session.proofs.Streams.{nothing_played}
use Rattle.wl_session.proofs.top.play.Goals as goal

pub returns-in-Err-clause-played : goal.returns-in-Err-clause-played
returns-in-Err-clause-played g c = nothing_played _ _ _ _ _ c.in-Err.ensures.left
