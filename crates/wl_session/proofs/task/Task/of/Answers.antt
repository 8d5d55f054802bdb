use Rattle.std.proofs.Common.{◌≡◌, ◌∙◌, ap, sym, true, false}
use Rattle.std.proofs.lemmas.Result.{IfOk-weaker}
use Rattle.wl_expr.specs.Stamped.{plain}
use Rattle.wl_session.specs.Line.{Task}
use Rattle.wl_session.proofs.Tasks.{task_of}
use Rattle.wl_session.proofs.task.Task.of.Goals as goal

pub returns-then-is_silent-clause-tree : goal.returns-then-is_silent-clause-tree
returns-then-is_silent-clause-tree c =
    c.in_ok-expr-in-Node.ensures.tree
    ∙ sym (ap (λ (t : Task). t.tree) (task_of (plain c.args.input.now) (plain c.in-Node.head.now) c.in-Node.args.now true c.in-Node.ensures.plain (sym c.if-is_silent.true ∙ c.is_silent.ensures)))

pub returns-then-is_silent-clause-silent : goal.returns-then-is_silent-clause-silent
returns-then-is_silent-clause-silent c =
    sym (ap (λ (t : Task). t.silent) (task_of (plain c.args.input.now) (plain c.in-Node.head.now) c.in-Node.args.now true c.in-Node.ensures.plain (sym c.if-is_silent.true ∙ c.is_silent.ensures)))

pub returns-else-is_silent-clause-tree : goal.returns-else-is_silent-clause-tree
returns-else-is_silent-clause-tree c =
    let is = task_of (plain c.args.input.now) (plain c.in-Node.head.now) c.in-Node.args.now false c.in-Node.ensures.plain (sym c.if-is_silent.false ∙ c.is_silent.ensures) in
    IfOk-weaker c.whole-in-Node.result _ _ (λ t e. ap plain e ∙ sym (ap (λ (u : Task). u.tree) is)) c.whole-in-Node.ensures.expr

pub returns-else-is_silent-clause-silent : goal.returns-else-is_silent-clause-silent
returns-else-is_silent-clause-silent c =
    let is = task_of (plain c.args.input.now) (plain c.in-Node.head.now) c.in-Node.args.now false c.in-Node.ensures.plain (sym c.if-is_silent.false ∙ c.is_silent.ensures) in
    IfOk-weaker c.whole-in-Node.result _ _ (λ t e. e ∙ sym (ap (λ (u : Task). u.silent) is)) c.whole-in-Node.ensures.silent
