use Rattle.std.proofs.Common.{false, ap, ◌∙◌, option_copied, option_map}
use Rattle.wl_expr.specs.Stamped.{plain}
use Rattle.wl_semantics.specs.Eval.{Go}
use Rattle.wl_eval.specs.KernelView.{KernelView, state_of}
use Rattle.wl_semantics.specs.Outcome.{uncaught}
use Rattle.wl_eval.proofs.Kernels.{idle_after, idle_leaves, idle_sound}
use Rattle.wl_eval.proofs.kernel.Kernel.uncaught.Goals as goal

pub invariant_of-self-2 : goal.invariant_of-self-2
invariant_of-self-2 c alive =
    idle_after c.in_ok-e.ensures.played c.self.inside.history.items (c.self.invariant c.if-self.false)

pub returns-clause-state : goal.returns-clause-state
returns-clause-state c =
    idle_leaves c.in_ok-e.ensures.played c.self.inside.history.items c.self.inside.dead false (c.self.invariant c.if-self.false)
    ∙ ap (λ (v : KernelView). (Go (uncaught (plain c.args.value.now) (option_map plain (option_copied c.args.tag))) (state_of v)).state) c.self.view_is

pub returns-clause-sound : goal.returns-clause-sound
returns-clause-sound c =
    idle_sound c.uncaught.new.self c.self.inside.history.items false (idle_after c.in_ok-e.ensures.played c.self.inside.history.items (c.self.invariant c.if-self.false))
