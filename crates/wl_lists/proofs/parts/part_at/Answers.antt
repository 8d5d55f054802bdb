use Rattle.std.proofs.Common.{rules, ◌≡◌, Some, length}
use Rattle.wl_expr.specs.Stamped.{plain}
use Rattle.wl_lists.specs.Answers.{trees}
use Rattle.wl_lists.specs.Nodes.{node_of}
use Rattle.wl_lists.proofs.Walks.{element_stands}
use Rattle.wl_lists.proofs.parts.part_at.Goals as goal

pub returns-clause-stands : goal.returns-clause-stands
returns-clause-stands c =
    let e = plain c.args.e.now in
    let h = plain c.in_ok-head.head.now in
    let es = c.in_ok-head.elements.now in
    let seen : Some (h, trees es) ≡ node_of e = search rules in
    element_stands e h es c.in_ok-at.at (length es) c.index-elements-at.result seen (search rules) c.in_ok-at.ensures.within c.index-elements-at.is
