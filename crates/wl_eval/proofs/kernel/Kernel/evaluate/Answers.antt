use Rattle.std.proofs.Common.{false, ap, ◌∙◌}
use Rattle.wl_expr.specs.Stamped.{plain}
use Rattle.wl_eval.specs.KernelView.{KernelView, state_of}
use Rattle.wl_semantics.specs.Outcome.{evaluated}
use Rattle.wl_eval.proofs.Kernels.{evaluated_ends, evaluated_leaves, good_honest, idle_after, idle_sound}
use Rattle.wl_eval.proofs.kernel.Kernel.evaluate.Goals as goal

pub invariant_of-self-2 : goal.invariant_of-self-2
invariant_of-self-2 g c alive =
    idle_after c.in-Ok.ensures.played.0 c.self.inside.history.items (c.self.invariant c.if-self.false)

pub returns-clause-end : goal.returns-clause-end
returns-clause-end g c =
    c.in_ok-outcome.ensures.end ∙ evaluated_ends (plain c.args.e) c.in-Ok.ensures.played.0 c.self.inside.history.items c.self.inside.dead (c.self.invariant c.if-self.false)
    ∙ ap (λ (v : KernelView). (evaluated (plain c.args.e) (state_of v)).result) c.self.view_is

pub returns-clause-state : goal.returns-clause-state
returns-clause-state g c =
    evaluated_leaves (plain c.args.e) c.in-Ok.ensures.played.0 c.self.inside.history.items c.self.inside.dead false (c.self.invariant c.if-self.false)
    ∙ ap (λ (v : KernelView). (evaluated (plain c.args.e) (state_of v)).state) c.self.view_is

pub returns-clause-honest : goal.returns-clause-honest
returns-clause-honest g c =
    c.in_ok-outcome.ensures.honest c.evaluate.new.evaluator (good_honest c.evaluate.new.evaluator.depth c.evaluate.new.evaluator c.in-Ok.end c.in-Ok.ensures.played.1)

pub returns-clause-sound : goal.returns-clause-sound
returns-clause-sound g c =
    idle_sound c.evaluate.new.evaluator c.self.inside.history.items false (idle_after c.in-Ok.ensures.played.0 c.self.inside.history.items (c.self.invariant c.if-self.false))
