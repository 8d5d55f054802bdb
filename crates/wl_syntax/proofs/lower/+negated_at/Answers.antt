use Rattle.std.proofs.Common.{◌∙◌, arith}
use Rattle.wl_syntax.proofs.Building.{negated_node, first_rest}
use Rattle.wl_syntax.proofs.Limits.{first_part, negated_parts}
use Rattle.wl_syntax.proofs.lower.+negated_at.Goals as goal

pub returns-in_ok-node-in-Node : goal.returns-in_ok-node-in-Node
returns-in_ok-node-in-Node t c u p =
    negated_node _ _ _ _ _ c.in_ok-turned-in-Node.turned _ _ u (c.in-Node.ensures.all ∙ p) (first_rest _ _ _ c.in-Some.ensures.cases) (omega arith) c.in_ok-turned-in-Node.ensures
    (λ k es x y. c.in_ok-node-in-Node.ensures k es x (c.deref.ensures.value ∙ c.in_ok-all-in-Node.ensures ∙ y))

pub negated_at-requires : goal.negated_at-requires
negated_at-requires t c = let (u, p, w) = c.requires in (omega arith, first_part _ _ _ _ _ u (c.in-Node.ensures.all ∙ p) (first_rest _ _ _ c.in-Some.ensures.cases) w)

pub node-requires : goal.node-requires
node-requires t c =
    let (u, p, w) = c.requires in
    negated_parts _ _ _ _ _ _ _ u (c.in-Node.ensures.all ∙ p) (first_rest _ _ _ c.in-Some.ensures.cases) (omega arith) c.in_ok-turned-in-Node.ensures w _ (c.deref.ensures.value ∙ c.in_ok-all-in-Node.ensures)
