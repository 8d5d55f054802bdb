use Rattle.std.proofs.Common.{sym, ap, ◌∙◌}
use Rattle.wl_expr.specs.Special as special
use Rattle.wl_expr.specs.Stamped.{plain, plains, from_list}
use Rattle.wl_assign.specs.Kinds.{special_of}
use Rattle.wl_assign.specs.Tags.{tag}
use Rattle.wl_assign.proofs.Forms.{tag_of_form, inside_some, named_two, inside_tag, named_tag, blank_tag, head_tag}
use Rattle.wl_assign.proofs.tags.+tag.Goals as goal

pub returns-in-HoldPattern-clause-value : goal.returns-in-HoldPattern-clause-value
returns-in-HoldPattern-clause-value t c =
    let l = inside_some c.special_form.result (plain c.in-Node.head.now) c.in-Node.args.now c.special_form.ensures c.in-HoldPattern.is in
    c.tag.ensures.value ∙ ap (λ e. tag (plain e)) c.index-args-0.is
    ∙ sym (tag_of_form (plain c.args.e.now) c.in-Node.head.now c.in-Node.args.now (special_of c.special_form.result) c.in-Node.ensures.plain c.special_form.ensures
    ∙ inside_tag c.special_form.result (plain c.in-Node.head.now) c.in-Node.args.now c.index-args-0.result c.in-HoldPattern.is l)

pub returns-in-Named-clause-value : goal.returns-in-Named-clause-value
returns-in-Named-clause-value t c =
    let l = named_two (plain c.in-Node.head.now) c.in-Node.args.now c.in-Named.ensures in
    c.tag-in-Named.ensures.value ∙ ap (λ e. tag (plain e)) c.index-args-1.is
    ∙ sym (tag_of_form (plain c.args.e.now) c.in-Node.head.now c.in-Node.args.now special.named c.in-Node.ensures.plain c.in-Named.ensures
    ∙ named_tag (plain c.in-Node.head.now) c.in-Node.args.now c.index-args-1.result l)

pub returns-in-Blank-clause-value : goal.returns-in-Blank-clause-value
returns-in-Blank-clause-value t c =
    c.first_name.ensures.value
    ∙ sym (tag_of_form (plain c.args.e.now) c.in-Node.head.now c.in-Node.args.now (special_of c.special_form.result) c.in-Node.ensures.plain c.special_form.ensures
    ∙ blank_tag c.special_form.result (plain c.in-Node.head.now) (plains (from_list c.in-Node.args.now)) c.in-Blank.is)

pub returns-in_default-special_form-clause-value : goal.returns-in_default-special_form-clause-value
returns-in_default-special_form-clause-value t c =
    let n = c.in_default-special_form in
    c.name_of.ensures.value
    ∙ sym (tag_of_form (plain c.args.e.now) c.in-Node.head.now c.in-Node.args.now (special_of c.special_form.result) c.in-Node.ensures.plain c.special_form.ensures
    ∙ head_tag c.special_form.result (plain c.in-Node.head.now) (plains (from_list c.in-Node.args.now)) n.not-Blank n.not-BlankSequence n.not-BlankNullSequence n.not-Named n.not-PatternTest n.not-Condition n.not-HoldPattern)
