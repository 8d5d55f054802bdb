use Rattle.std.proofs.Common.{◌+◌, ◌≤◌, ap, length, rules, arith}
use Rattle.wl_expr.proofs.Parts.{depth_arg}
use Rattle.wl_expr.specs.Stamped.{plain, plains, from_list}
use Rattle.wl_expr.specs.Tree.{depth, depths}
use Rattle.wl_match.specs.Heads.{heads}
use Rattle.wl_match.proofs.HeadsLemmas.{heads_room}
use Rattle.wl_match.proofs.PartsLemmas.{builds_leaf, builds_more, builds_node}
use Rattle.wl_match.proofs.pattern.+build.Goals as goal

pub build_all-build-requires : goal.build_all-build-requires
build_all-build-requires t c =
    let falls : depth (plain c.arg-item.result) ≤ depths (plains (from_list c.args.args.now)) =
    omega (arith, depth_arg c.args.args.now c.loop-arg.arg-index c.arg-item.result c.loop-arg-test.true, ap (λ u. depth (plain u)) c.arg-item.is) in
    let fits : c.loop-arg.next + length (heads (plain c.arg-item.result)) ≤ length c.args.flags.now =
    omega (arith, heads_room c.args.args.now c.loop-arg.arg-index c.arg-item.result c.loop-arg-test.true, ap (λ u. length (heads (plain u))) c.arg-item.is, c.loop-arg.invariant.next_is, c.requires) in
    (search rules, fits)

pub build_all-loop-arg-preserved : goal.build_all-loop-arg-preserved
build_all-loop-arg-preserved t c =
    builds_more c.args.flags.now c.args.at c.args.args.now c.loop-arg.arg-index c.arg-item.result _ _ _ _ _ _ _ _ c.loop-arg-test.true c.arg-item.is c.in_ok-push.ensures.items c.loop-arg.invariant c.in_ok-built.ensures

pub build-returns-in_ok-put-in-Some : goal.build-returns-in_ok-put-in-Some
build-returns-in_ok-put-in-Some t c =
    builds_node c.args.flags.now c.args.at c.args.p.now c.in-Some.head.now c.in-Some.args.now _ _ _ _ _ _ _ _ _ _ _ _
    c.in-Some.ensures.is c.in-Some.ensures.passed c.own_flags-next.ensures.flags c.own_flags-next.ensures.next
    c.in_ok-top-in-Some.ensures c.in_ok-below-in-Some.ensures c.in_ok-part-in-Some.ensures.is c.in_ok-part-in-Some.ensures.passed c.in_ok-part-in-Some.ensures.inside c.in_ok-put-in-Some.ensures

pub build-returns-in_ok-put-in-None : goal.build-returns-in_ok-put-in-None
build-returns-in_ok-put-in-None t c =
    builds_leaf c.args.flags.now c.args.at c.args.p.now _ _ _ _ c.in-None.ensures.is c.in_ok-copy-in-None.ensures c.in_ok-put-in-None.ensures
