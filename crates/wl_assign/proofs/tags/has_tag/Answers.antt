use Rattle.std.proofs.Common.{◌≡◌, [], sym, ap, ◌∙◌}
use Rattle.wl_expr.specs.Same.{is_name_among}
use Rattle.wl_assign.specs.Kinds.{named_in}
use Rattle.wl_assign.specs.Tags.{tags}
use Rattle.wl_assign.proofs.FirstNames.{is_name_among-first_names}
use Rattle.wl_assign.proofs.Found.{tags_found}
use Rattle.wl_assign.proofs.tags.has_tag.Goals as goal

pub returns-in-Node : goal.returns-in-Node
returns-in-Node c =
    let ts = c.in-Node.args.now in
    let x = c.args.name.now in
    c.is_met.ensures
    ∙ sym (ap (λ t. is_name_among x (tags t)) (sym c.in-Node.ensures.plain) ∙ ap (is_name_among x) (tags_found ts) ∙ is_name_among-first_names x [] (named_in ts))
