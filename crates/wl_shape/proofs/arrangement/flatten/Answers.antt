use Rattle.std.proofs.Common.{◌≡◌, sym, subst}
use Rattle.std.specs.Prelude.{List}
use Rattle.wl_expr.specs.Stamped.{plain}
use Rattle.wl_expr.specs.Tree.{Tree}
use Rattle.wl_shape.specs.Answers.{IsShaped, trees}
use Rattle.wl_shape.specs.Shape.{flattened, thread}
use Rattle.wl_shape.proofs.Splices.{not_flat, nothing_flat}
use Rattle.wl_shape.proofs.arrangement.flatten.Goals as goal
use Rattle.wl_shape.proofs.arrangement.flatten.Goals.{then-not-has-via-then-not-has, then-not-has-via-else-not-has+then-not-any_has_head}

pub returns-then-not-has-clause-shaped : goal.returns-then-not-has-clause-shaped
returns-then-not-has-clause-shaped c =
    let a = c.args.attributes in
    let h = plain c.args.head.now in
    let es = trees c.args.args.now in
    let stays : flattened a h es ≡ es = elim c.then-not-has.branch [
      | then-not-has-via-then-not-has w ↦ not_flat a h es (sym w.if-not-has.ensures)
      | then-not-has-via-else-not-has+then-not-any_has_head w ↦ nothing_flat a h es (sym w.if-not-any_has_head.ensures)
    ] in
    subst (λ (us : List Tree). IsShaped (thread a h us) c.thread.result) (sym stays) c.thread.ensures.shaped
