use Rattle.std.proofs.Common.{ap, ◌∙◌}
use Rattle.wl_rules.specs.Attributes.{AttributeSet}
use Rattle.wl_state.specs.Operands.{put_all}
use Rattle.wl_state.proofs.RowParts.{if_ok_more}
use Rattle.wl_state.proofs.EntryRowParts.{change_plays}
use Rattle.wl_state.proofs.evaluator.Evaluator.change_attributes.Goals as goal

pub returns-clause-played : goal.returns-clause-played
returns-clause-played g c =
    let f : AttributeSet → AttributeSet = λ s. put_all c.args.are_in s c.args.attributes.now in
    if_ok_more c.set_attributes.result _ _
    (λ u m. change_plays f c.args.name.now c.put_all.result c.args.self.now c.attributes_of.new.self c.set_attributes.new.self c.in_ok-set.ensures.looked (c.put_all.ensures ∙ ap f c.in_ok-set.ensures.value) m)
    c.set_attributes.ensures.played
