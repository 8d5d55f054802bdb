use Rattle.std.proofs.Common.{Bool, false, Ok, ap, ◌∙◌, subst}
use Rattle.wl_rules.specs.Attributes.{AttributeSet, put}
use Rattle.wl_rules.specs.Stored.{definitions}
use Rattle.wl_rules.specs.declared.attribute.Attribute.TheVariants.{Protected}
use Rattle.wl_state.specs.Operands.{protection_names}
use Rattle.wl_state.specs.Played.{Makes, Plays}
use Rattle.wl_semantics.specs.Prog.{entry_of, doing, set_attributes}
use Rattle.wl_state.proofs.Playing.{plays_bind, plays_done}
use Rattle.wl_state.proofs.RowParts.{row_made}
use Rattle.wl_state.proofs.evaluator.Evaluator.protection.Goals as goal

pub returns-clause-played : goal.returns-clause-played
returns-clause-played g c =
    let x = c.args.name.now in
    let b = c.args.protects in
    let e = c.in_ok-set.ensures in
    let a = (definitions c.args.self.now.store x).attributes in
    let k1 = c.attributes_of.new.self in
    let k2 = c.set_attributes.new.self in
    let t = protection_names b a.protected x in
    let m = subst (λ (s : AttributeSet). Plays (doing (set_attributes x s)) k1 (Ok tt) k2 false) (c.put.ensures ∙ ap (λ (s : AttributeSet). put b s Protected) e.value) c.in_ok-set_attributes.ensures.played in
    row_made _ t _ _ _ _ (plays_bind (entry_of x) _ e.looked (plays_bind (doing (set_attributes x (put b a Protected))) _ m plays_done))
    (c.given.ensures.played t (subst (λ (w : Bool). Makes (protection_names b w x) c.protection_names-made.result) (c.has-was_protected.ensures ∙ ap (λ (s : AttributeSet). s.protected) e.value) c.protection_names-made.ensures.made))
