use Rattle.std.proofs.Common.{sym, ◌∙◌, ap}
use Rattle.wl_state.proofs.Moves.{plays_protected, looked_same}
use Rattle.wl_state.proofs.evaluator.Evaluator.is_protected.Goals as goal

pub returns-clause-played : goal.returns-clause-played
returns-clause-played g c =
    let e = c.in_ok-attributes.ensures in
    plays_protected c.args.name.now c.args.self.now c.attributes_of.new.self e.looked c.has.result (c.has.ensures ∙ ap (λ s. s.protected) e.value)

pub returns-clause-value : goal.returns-clause-value
returns-clause-value g c =
    let x = c.args.name.now in
    let e = c.in_ok-attributes.ensures in
    c.has.ensures ∙ ap (λ s. s.protected) e.value ∙ sym (ap (λ f. (f x).attributes.protected) (looked_same x c.args.self.now c.attributes_of.new.self e.looked))
