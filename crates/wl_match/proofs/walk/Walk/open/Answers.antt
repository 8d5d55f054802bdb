use Rattle.std.proofs.Common.{◌+◌, ap, ◌∙◌, get_or}
use Rattle.wl_expr.specs.Stamped.{plain}
use Rattle.wl_match.proofs.Picks as picks
use Rattle.wl_match.proofs.Keeping as keeping
use Rattle.wl_match.proofs.walk.Walk.open.Goals as goal

pub returns-in_ok-step-in-Slice-clause-plays : goal.returns-in_ok-step-in-Slice-clause-plays
returns-in_ok-step-in-Slice-clause-plays c u h = picks.plays_opening c.args.pattern.now (plain c.args.subject.now) c.args.i c.args.hp u _ c.args.self.now _ _ (picks.slice_child c.args.pattern.now (plain c.args.subject.now) c.in-Slice.place c.in-Slice.field-2 c.in-Slice.from _ _ c.args.run.now u c.in-Slice.is c.in_ok-sum-in-Slice.ensures c.in_ok-below-in-Slice.ensures h) c.in_ok-step-in-Slice.ensures.plays

pub returns-in_ok-put-in-Wrapped-2-clause-plays : goal.returns-in_ok-put-in-Wrapped-2-clause-plays
returns-in_ok-put-in-Wrapped-2-clause-plays c u h = picks.opens_wrapped c.args.pattern.now (plain c.args.subject.now) c.args.i c.args.hp c.in-Wrapped.part c.in-Wrapped.place _ _ c.in-Wrapped.places _ c.args.run.now c.args.self.now _ _ u c.in-Wrapped.is c.in_ok-copy-in-Wrapped.ensures c.in_ok-copy-in-Wrapped-2.ensures c.kept.ensures c.in_ok-put-in-Wrapped.ensures c.in_ok-put-in-Wrapped-2.ensures h

pub returns-in_ok-step-in-Picked-clause-plays : goal.returns-in_ok-step-in-Picked-clause-plays
returns-in_ok-step-in-Picked-clause-plays c u h = picks.plays_opening c.args.pattern.now (plain c.args.subject.now) c.args.i c.args.hp u _ c.args.self.now _ _ (picks.picked_child c.args.pattern.now (plain c.args.subject.now) c.in-Picked.place c.in-Picked.places _ _ 0 c.args.run.now u c.in-Picked.is (c.in_ok-sum-in-Picked.ensures ∙ ap (λ z. get_or z 0 0 + 1) c.as_slice-places.ensures) c.in_ok-below-in-Picked.ensures h) c.in_ok-step-in-Picked.ensures.plays

pub returns-in_ok-step-in-Slice-clause-fits : goal.returns-in_ok-step-in-Slice-clause-fits
returns-in_ok-step-in-Slice-clause-fits c u h b l s f = c.in_ok-step-in-Slice.ensures.fits (keeping.like_as c.args.pattern.now c.args.i u _ (picks.slice_child c.args.pattern.now (plain c.args.subject.now) c.in-Slice.place c.in-Slice.field-2 c.in-Slice.from _ _ c.args.run.now u c.in-Slice.is c.in_ok-sum-in-Slice.ensures c.in_ok-below-in-Slice.ensures h) l) s f

pub returns-in_ok-step-in-Picked-clause-fits : goal.returns-in_ok-step-in-Picked-clause-fits
returns-in_ok-step-in-Picked-clause-fits c u h b l s f = c.in_ok-step-in-Picked.ensures.fits (keeping.like_as c.args.pattern.now c.args.i u _ (picks.picked_child c.args.pattern.now (plain c.args.subject.now) c.in-Picked.place c.in-Picked.places _ _ 0 c.args.run.now u c.in-Picked.is (c.in_ok-sum-in-Picked.ensures ∙ ap (λ z. get_or z 0 0 + 1) c.as_slice-places.ensures) c.in_ok-below-in-Picked.ensures h) l) s f
