use Rattle.std.proofs.Common.{◌||◌, sym, ap, ◌∙◌}
use Rattle.wl_expr.specs.Stamped.{plain}
use Rattle.wl_semantics.specs.Match as matching
use Rattle.wl_state.proofs.Guarding.{guarded_none, guarded_some}
use Rattle.wl_state.proofs.guard.is_guarded.Goals as goal

pub returns-in-None : goal.returns-in-None
returns-in-None c = sym (c.scopes.invariant ∙ guarded_none (plain c.scopes.part.now) c.in-None.ensures)

pub returns-then-is_condition : goal.returns-then-is_condition
returns-then-is_condition c =
    let b = plain c.in-Some.body.now in
    sym (c.scopes.invariant ∙ guarded_some (plain c.scopes.part.now) b c.in-Some.ensures ∙ ap (λ z. z || matching.is_guarded b) (sym c.is_condition.ensures ∙ c.if-is_condition.true))

pub scopes-preserved : goal.scopes-preserved
scopes-preserved c =
    let b = plain c.in-Some.body.now in
    c.scopes.invariant ∙ guarded_some (plain c.scopes.part.now) b c.in-Some.ensures ∙ ap (λ z. z || matching.is_guarded b) (sym c.is_condition.ensures ∙ c.if-is_condition.false)
