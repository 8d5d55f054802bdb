use Rattle.std.proofs.Common.{ap, sym, ◌∙◌}
use Rattle.wl_expr.specs.Stamped.{plain}
use Rattle.wl_match.proofs.Picks as picks
use Rattle.wl_match.proofs.Keeping as keeping
use Rattle.wl_match.proofs.walk.Walk.take_length.Goals as goal

pub returns-then-flags-clause-turns : goal.returns-then-flags-clause-turns
returns-then-flags-clause-turns c = picks.length_picked c.args.pattern.now (plain c.args.subject.now) c.args.i c.args.j c.args.q c.args.low c.args.left.now _ _ _ _ c.args.self.now _ c.requires c.flags.ensures c.if-flags.true c.in_ok-copy.ensures c.new-chosen.ensures c.new-skipped.ensures c.in_ok-put.ensures

pub returns-clause-turns : goal.returns-clause-turns
returns-clause-turns c = picks.length_cut c.args.pattern.now (plain c.args.subject.now) c.args.i c.args.j c.args.q c.args.low _ _ c.args.left.now c.in_ok-run.run' c.in_ok-rest.rest _ c.args.self.now _ c.flags.ensures c.if-flags.false c.length-n.ensures c.in_ok-next.ensures (c.in_ok-run.ensures.is c.args.pattern.now (plain c.args.subject.now)) (c.in_ok-rest.ensures.is c.args.pattern.now (plain c.args.subject.now)) c.in_ok-take.ensures.turns

pub returns-then-flags-clause-fits : goal.returns-then-flags-clause-fits
returns-then-flags-clause-fits c h f =
    keeping.put_one c.args.pattern.now (plain c.args.subject.now) _ _ _ c.in_ok-put.ensures (sym (ap (λ z. z.orderless) c.flags.ensures) ∙ c.if-flags.true, keeping.left_same c.args.pattern.now (plain c.args.subject.now) c.args.i c.args.j c.args.left.now _ c.in_ok-copy.ensures h) f

pub returns-clause-fits : goal.returns-clause-fits
returns-clause-fits c h f =
    c.in_ok-take.ensures.fits
    (keeping.left_element c.args.pattern.now (plain c.args.subject.now) c.args.i c.in_ok-run.run' (sym (ap (λ z. z.orderless) c.flags.ensures) ∙ c.if-flags.false) (c.in_ok-run.ensures.narrows.left c.args.pattern.now (plain c.args.subject.now) c.args.i h.0))
    (c.in_ok-rest.ensures.narrows.left c.args.pattern.now (plain c.args.subject.now) c.args.i h.0)
    (keeping.served c.args.pattern.now (plain c.args.subject.now) c.args.i c.args.j c.args.q _ c.args.left.now c.requires c.in_ok-next.ensures h) f
