use Rattle.std.proofs.Common.{refl, ◌∙◌, ap}
use Rattle.wl_state.proofs.Moves.{plays_attributes, none_attributes, looked_same}
use Rattle.wl_state.proofs.Ticking.{ticked}
use Rattle.wl_state.proofs.evaluator.Evaluator.attributes_of.Goals as goal

pub returns-in-Some-clause-value : goal.returns-in-Some-clause-value
returns-in-Some-clause-value g c =
    let x = c.args.name.now in
    c.attributes.ensures ∙ c.in-Some.ensures.shown.attributes ∙ ap (λ f. (f x).attributes) (looked_same x c.args.self.now c.note_look.new.self c.in_ok-note_look.ensures.played)

pub returns-in-Some-clause-played : goal.returns-in-Some-clause-played
returns-in-Some-clause-played g c =
    plays_attributes c.args.name.now c.args.self.now c.note_look.new.self c.in_ok-note_look.ensures.played c.attributes.result (returns-in-Some-clause-value g c)

pub returns-in-None-clause-value : goal.returns-in-None-clause-value
returns-in-None-clause-value g c =
    let x = c.args.name.now in
    none_attributes x c.note_look.new.self.store c.none.result (c.in-None.ensures.none.0 refl) c.none.ensures ∙ ap (λ f. (f x).attributes) (looked_same x c.args.self.now c.note_look.new.self c.in_ok-note_look.ensures.played)

pub returns-in-None-clause-played : goal.returns-in-None-clause-played
returns-in-None-clause-played g c =
    plays_attributes c.args.name.now c.args.self.now c.note_look.new.self c.in_ok-note_look.ensures.played c.none.result (returns-in-None-clause-value g c)

pub returns-in-Some-clause-ticks : goal.returns-in-Some-clause-ticks
returns-in-Some-clause-ticks g c = ticked 1 _ _ c.consult.ensures.ticks ∙ c.note_look.ensures.ticks

pub returns-in-None-clause-ticks : goal.returns-in-None-clause-ticks
returns-in-None-clause-ticks g c = ticked 1 _ _ c.consult.ensures.ticks ∙ c.note_look.ensures.ticks
