use Rattle.wl_expr.specs.Stamped.{plain}
use Rattle.wl_match.proofs.Fitting as fitting
use Rattle.wl_match.proofs.cuts.wrapped.Goals as goal

pub returns-in_ok-copy-in-Slice-clause-serves : goal.returns-in_ok-copy-in-Slice-clause-serves
returns-in_ok-copy-in-Slice-clause-serves c q s h = fitting.slice_wrapped c.args.pattern.now (plain c.args.subject.now) c.args.part q _ c.args.run.now c.in-Slice.place _ c.in-Slice.start c.in-Slice.field-2 _ c.in-Slice.is c.in_ok-copy-in-Slice.ensures c.length-n.ensures c.if-n-lt2.false c.in_ok-places-in-Slice.ensures.is c.in_ok-places-in-Slice.ensures.places s h

pub returns-in_ok-copy-in-Picked-2-clause-serves : goal.returns-in_ok-copy-in-Picked-2-clause-serves
returns-in_ok-copy-in-Picked-2-clause-serves c q s h = fitting.picked_wrapped c.args.pattern.now (plain c.args.subject.now) c.args.part q _ c.args.run.now c.in-Picked.place _ c.in-Picked.places _ c.in-Picked.is c.in_ok-copy-in-Picked.ensures c.in_ok-copy-in-Picked-2.ensures c.length-n.ensures c.if-n-lt2.false s h
