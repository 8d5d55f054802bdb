use Rattle.std.proofs.Common.{◌&&◌, ap, sym, ◌∙◌}
use Rattle.wl_expr.specs.Stamped.{plain}
use Rattle.wl_expr.specs.Same.{same_lists}
use Rattle.wl_match.specs.Runs.{trees_in, trees_of}
use Rattle.wl_match.proofs.LentLemmas as lemmas
use Rattle.wl_match.proofs.lent.Lent.same.Goals as goal

pub returns-in-Wrapped-These : goal.returns-in-Wrapped-These
returns-in-Wrapped-These c = c.is_one_node-in-Wrapped-These.ensures ∙ lemmas.lists_turned (trees_in c.in-Wrapped-These.ts) _ ∙ (λ i. same_lists (trees_of (sym c.in-Wrapped-These.is-0 i)) (trees_of (sym c.in-Wrapped-These.is-1 i)))

pub returns-then-same : goal.returns-then-same
returns-then-same c = c.same-then-same.ensures ∙ ap (λ z. z && same_lists (trees_in c.in-Wrapped-Wrapped.ts) (trees_in c.in-Wrapped-Wrapped.us)) c.if-same.ensures ∙ lemmas.wrapped_same (plain c.in-Wrapped-Wrapped.head.now) (plain c.in-Wrapped-Wrapped.other.now) (trees_in c.in-Wrapped-Wrapped.ts) (trees_in c.in-Wrapped-Wrapped.us) ∙ (λ i. same_lists (trees_of (sym c.in-Wrapped-Wrapped.is-0 i)) (trees_of (sym c.in-Wrapped-Wrapped.is-1 i)))
