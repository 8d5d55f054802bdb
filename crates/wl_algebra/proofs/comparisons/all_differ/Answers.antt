use Rattle.std.proofs.Common.{rules, ◌≡◌, ◌+◌, true, false, not, List, drop, sym, ap, ◌∙◌}
use Rattle.std.specs.List.{list_any}
use Rattle.indexmap.specs.IndexSet.{insert_key}
use Rattle.wl_expr.specs.Stamped.{Stamped}
use Rattle.wl_algebra.specs.Alike.{alike}
use Rattle.wl_algebra.specs.Answers.{trees}
use Rattle.wl_algebra.specs.Comparisons.{all_new}
use Rattle.wl_algebra.proofs.FirstTimes.{met_already, met_newly}
use Rattle.wl_algebra.proofs.Splits.{next_of}
use Rattle.wl_algebra.proofs.comparisons.all_differ.Goals as goal

pub returns-then-not-is_new : goal.returns-then-not-is_new
returns-then-not-is_new c =
    let ks = c.loop-arg.met.keys in
    let h : false ≡ not (list_any (alike c.arg-item.result) ks) = search rules in
    met_already c.arg-item.result ks (trees (drop (c.loop-arg.arg-index + 1) c.args.args.now)) h
    ∙ sym (c.loop-arg.invariant ∙ ap (λ (us : List Stamped). all_new (trees ks) (trees us)) (next_of c.args.args.now c.loop-arg.arg-index c.arg-item.result c.loop-arg-test.true c.arg-item.is))

pub loop-arg-preserved : goal.loop-arg-preserved
loop-arg-preserved c =
    let ks = c.loop-arg.met.keys in
    let h : true ≡ not (list_any (alike c.arg-item.result) ks) = search rules in
    let k : c.insert.new.self.keys ≡ insert_key alike ks c.arg-item.result = search rules in
    c.loop-arg.invariant
    ∙ ap (λ (us : List Stamped). all_new (trees ks) (trees us)) (next_of c.args.args.now c.loop-arg.arg-index c.arg-item.result c.loop-arg-test.true c.arg-item.is)
    ∙ met_newly c.arg-item.result ks c.insert.new.self.keys (trees (drop (c.loop-arg.arg-index + 1) c.args.args.now)) h k
