use Rattle.std.proofs.Common.{◌≡◌, ◌||◌, true, not, ap}
use Rattle.std.proofs.lemmas.Bool.{or_left, or_right}
use Rattle.wl_expr.specs.Stamped.{plain}
use Rattle.wl_match.proofs.Picks as picks
use Rattle.wl_match.proofs.Keeping as keeping
use Rattle.wl_match.proofs.walk.Walk.try_node.Goals as goal
use Rattle.wl_match.proofs.walk.Walk.try_node.Goals.{else-flags-via-then-flags+else-not-is_headed, else-flags-via-else-flags}

pub returns-then-length-ne1-clause-plays : goal.returns-then-length-ne1-clause-plays
returns-then-length-ne1-clause-plays c = picks.node_fails c.args.pattern.now (plain c.args.subject.now) c.args.i c.args.hp _ c.args.run.now c.args.self.now c.length.ensures c.if-length-ne1.true

pub returns-then-stands_alone-clause-plays : goal.returns-then-stands_alone-clause-plays
returns-then-stands_alone-clause-plays c = picks.node_alone c.args.pattern.now (plain c.args.subject.now) c.args.i c.args.hp _ c.args.flags (plain c.args.head.now) c.args.parts.now _ c.args.run.now _ _ _ c.args.self.now _ c.requires.site c.requires.parts c.have-is_headed.ensures c.lend.ensures c.stands_alone.ensures c.if-stands_alone.true c.length.ensures c.if-length-ne1.false c.in_ok-alone.ensures.is c.in_ok-put.ensures

pub returns-clause-plays : goal.returns-clause-plays
returns-clause-plays c = picks.node_opens c.args.pattern.now (plain c.args.subject.now) c.args.i c.args.hp _ c.args.flags (plain c.args.head.now) c.args.parts.now _ c.args.run.now _ _ c.args.self.now _ _ c.requires.site c.requires.parts c.have-is_headed.ensures c.lend.ensures c.stands_alone.ensures c.if-stands_alone.false c.length.ensures c.if-length-ne1.false c.in_ok-step.ensures.plays

pub returns-then-not-is_headed-clause-plays : goal.returns-then-not-is_headed-clause-plays
returns-then-not-is_headed-clause-plays c = picks.node_unlike c.args.pattern.now (plain c.args.subject.now) c.args.i c.args.hp _ c.args.flags (plain c.args.head.now) c.args.parts.now _ c.args.run.now _ _ c.args.self.now c.requires.site c.requires.parts c.requires.is c.requires.own c.have-is_headed.ensures c.lend.ensures c.stands_alone.ensures c.if-stands_alone.false c.length.ensures c.if-length-ne1.false c.if-flags.true c.if-not-is_headed.true

pub returns-then-stands_alone-clause-fits : goal.returns-then-stands_alone-clause-fits
returns-then-stands_alone-clause-fits c h f = keeping.node_alone c.args.pattern.now (plain c.args.subject.now) c.args.i c.args.hp c.args.flags (plain c.args.head.now) c.args.parts.now c.args.run.now _ _ _ c.args.self.now _ c.requires.site c.requires.parts c.requires.is c.stands_alone.ensures c.if-stands_alone.true (λ b a. c.in_ok-alone.ensures.fits c.args.pattern.now (plain c.args.subject.now) c.args.i b a) c.in_ok-put.ensures h f

pub returns-clause-fits : goal.returns-clause-fits
returns-clause-fits c h f =
    let like : (not c.args.flags.flat || c.have-is_headed.result) ≡ true = elim c.else-flags.branch [
      | else-flags-via-then-flags+else-not-is_headed w ↦ or_right (not c.args.flags.flat) c.have-is_headed.result w.if-not-is_headed.false
      | else-flags-via-else-flags w ↦ or_left (not c.args.flags.flat) c.have-is_headed.result (ap not w.if-flags.false)
    ] in
    keeping.node_opened c.args.pattern.now (plain c.args.subject.now) c.args.i c.args.hp _ c.args.flags (plain c.args.head.now) c.args.parts.now _ c.args.run.now _ c.args.self.now _ c.requires.site c.requires.parts c.requires.is c.have-is_headed.ensures c.lend.ensures c.length.ensures c.if-length-ne1.false like c.in_ok-step.ensures.fits h f
