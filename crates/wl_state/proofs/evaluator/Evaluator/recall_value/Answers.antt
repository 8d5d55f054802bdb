use Rattle.std.proofs.Common.{None, Some, refl, ◌∙◌, ap}
use Rattle.std.proofs.lemmas.Int.{to_z-of_z}
use Rattle.std.specs.Int.{w128}
use Rattle.wl_state.specs.Recall.{numbered}
use Rattle.wl_state.proofs.Recalling.{plays_value, value_honest}
use Rattle.wl_state.proofs.evaluator.Evaluator.recall_value.Goals as goal

pub returns-in-None-clause-played : goal.returns-in-None-clause-played
returns-in-None-clause-played c =
    plays_value c.args.self.now c.args.n None None (c.in-None.ensures ∙ ap (λ z. numbered z c.as_slice.result.now) (to_z-of_z w128 c.args.n c.ranges.n) ∙ ap (numbered c.args.n) c.as_slice.ensures.value) refl

pub returns-in_ok-copy-in-Some-clause-played : goal.returns-in_ok-copy-in-Some-clause-played
returns-in_ok-copy-in-Some-clause-played c =
    plays_value c.args.self.now c.args.n (Some c.in-Some.line.now) (Some c.in_ok-copy-in-Some.field-0) (c.in-Some.ensures ∙ ap (λ z. numbered z c.as_slice.result.now) (to_z-of_z w128 c.args.n c.ranges.n) ∙ ap (numbered c.args.n) c.as_slice.ensures.value) (ap Some c.in_ok-copy-in-Some.ensures)

pub returns-in_ok-copy-in-Some-clause-honest : goal.returns-in_ok-copy-in-Some-clause-honest
returns-in_ok-copy-in-Some-clause-honest c =
    value_honest c.args.self.now c.args.n (Some c.in-Some.line.now) (Some c.in_ok-copy-in-Some.field-0) c.requires.sound (c.in-Some.ensures ∙ ap (λ z. numbered z c.as_slice.result.now) (to_z-of_z w128 c.args.n c.ranges.n) ∙ ap (numbered c.args.n) c.as_slice.ensures.value) (ap Some c.in_ok-copy-in-Some.ensures)
