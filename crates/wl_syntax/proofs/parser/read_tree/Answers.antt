use Rattle.std.proofs.Common.{subst}
use Rattle.wl_syntax.proofs.Parsing.{Read, running_begin, running_dead, running_next, running_read, read_finished, read_unclosed, read_never, read_unexpected, tokens_of}
use Rattle.wl_syntax.proofs.parser.read_tree.Goals as goal

pub loop-place-init : goal.loop-place-init
loop-place-init c = running_begin _ _ _ c.new-machine.ensures c.new-tags.ensures

pub returns-in-Dead : goal.returns-in-Dead
returns-in-Dead c = running_dead c.loop-place.machine c.step.new.self _ _ _ _ _ _ c.loop-place.invariant c.loop-place-test.true c.in_ok-step.ensures c.in-Dead.is c.unwrap_or.ensures

pub loop-place-preserved : goal.loop-place-preserved
loop-place-preserved c = rw c.first_unmet-unmet.ensures (running_next c.loop-place.machine c.step.new.self c.loop-place.tags c.read.new.self _ _ _ _ _ c.loop-place.invariant c.loop-place-test.true c.in_ok-step.ensures c.in_default.not-Dead c.in_ok-read.ensures c.are_met.ensures)

pub returns-then-branch : goal.returns-then-branch
returns-then-branch c =
    let r = running_read c.loop-place.machine _ _ _ _ c.loop-place.invariant c.loop-place.auto.place-end c.loop-place-test.false in
    read_finished c.loop-place.machine c.finish.new.self _ _ _ _ r c.in_ok-finish.ensures c.if-branch.true

pub returns-then-are_met : goal.returns-then-are_met
returns-then-are_met c =
    let r = running_read c.loop-place.machine _ _ _ _ c.loop-place.invariant c.loop-place.auto.place-end c.loop-place-test.false in
    read_unclosed c.loop-place.machine c.finish.new.self _ _ _ _ _ r c.in_ok-finish.ensures c.if-branch.false c.are_met-in-Some.ensures c.if-are_met.true

pub returns-in-Some : goal.returns-in-Some
returns-in-Some c =
    let r = running_read c.loop-place.machine _ _ _ _ c.loop-place.invariant c.loop-place.auto.place-end c.loop-place-test.false in
    read_unexpected c.loop-place.machine c.finish.new.self c.loop-place.tags c.in-Some.first _ _ _ (subst (λ u. Read c.loop-place.machine c.loop-place.tags u (tokens_of c.args.tokens.now)) c.in-Some.is r) c.in_ok-finish.ensures c.if-branch.false c.are_met-in-Some.ensures c.if-are_met.false

pub returns : goal.returns
returns c =
    let r = running_read c.loop-place.machine _ _ _ _ c.loop-place.invariant c.loop-place.auto.place-end c.loop-place-test.false in
    read_never c.loop-place.machine c.finish.new.self c.loop-place.tags _ _ (subst (λ u. Read c.loop-place.machine c.loop-place.tags u (tokens_of c.args.tokens.now)) c.in-None.is r) c.in_ok-finish.ensures c.if-branch.false
