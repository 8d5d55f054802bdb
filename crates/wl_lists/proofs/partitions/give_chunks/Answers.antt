use Rattle.std.proofs.Common.{◌<◌, List, length, sym, ap, ◌∙◌, subst, arith}
use Rattle.std.proofs.lemmas.List.{length-map}
use Rattle.wl_expr.specs.Applied.{gives}
use Rattle.wl_expr.specs.Stamped.{plain}
use Rattle.wl_expr.specs.Tree.{Tree}
use Rattle.wl_expr.specs.Words.{applied}
use Rattle.wl_lists.specs.Answers.{IsAnswer, trees}
use Rattle.wl_lists.proofs.Chunks.{partitioned, no_chunks}
use Rattle.wl_lists.proofs.partitions.give_chunks.Goals as goal

pub returns-then-size-elements-clause-answer : goal.returns-then-size-elements-clause-answer
returns-then-size-elements-clause-answer c =
    let es = c.args.elements.now in
    let h = plain c.args.head.now in
    let n = c.args.size in
    let m = length-map es plain in
    let l : length (trees es) < n = omega (arith, m, c.if-size-elements.true) in
    subst (λ a. IsAnswer a c.give_node.result)
    (sym (partitioned h (trees es) n (omega arith) ∙ ap (λ (ts : List Tree). gives (applied h ts)) (no_chunks h (trees es) n l)))
    c.give_node.ensures.answer
