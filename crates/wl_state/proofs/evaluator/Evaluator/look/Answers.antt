use Rattle.wl_state.proofs.Moves.{looked, logged_none, logged_some}
use Rattle.wl_state.proofs.Placed.{indexed}
use Rattle.wl_state.proofs.Ticking.{ticked}
use Rattle.wl_state.proofs.evaluator.Evaluator.look.Goals as goal

pub returns-in_default-clause-played : goal.returns-in_default-clause-played
returns-in_default-clause-played g c =
    let k = c.args.self.now in
    let b = c.index_of.new.self in
    let i = c.in_ok-index.index in
    let e = c.in_ok-index.ensures in
    looked c.args.name.now i k b k.log c.requires.sound (indexed k.store b c.args.name.now i e.index e.met e.made) (logged_none k.log i _ c.in_default.not-Some)

pub returns-clause-played : goal.returns-clause-played
returns-clause-played g c =
    let k = c.args.self.now in
    let b = c.index_of.new.self in
    let i = c.in_ok-index.index in
    let e = c.in_ok-index.ensures in
    looked c.args.name.now i k b _ c.requires.sound (indexed k.store b c.args.name.now i e.index e.met e.made)
    (logged_some k.log c.in-Some.log c.note.new.self i c.version-version.result _ c.in-Some.is c.version-version.ensures.value c.in_ok-note.ensures)

pub returns-in_err-note-clause-ticks : goal.returns-in_err-note-clause-ticks
returns-in_err-note-clause-ticks g c = ticked 1 _ _ c.version-version.ensures.ticks

pub returns-clause-ticks : goal.returns-clause-ticks
returns-clause-ticks g c = ticked 1 _ _ c.version-version.ensures.ticks
