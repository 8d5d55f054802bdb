use Rattle.std.proofs.Common.{ap, sym, ◌∙◌}
use Rattle.wl_expr.specs.Stamped.{plain}
use Rattle.wl_match.specs.Runs.{run_at}
use Rattle.wl_match.proofs.Subjects.{slice_is}
use Rattle.wl_match.proofs.Views as views
use Rattle.wl_match.proofs.viewing.shown.Goals as goal

pub returns-then-args-eq1-clause-trees : goal.returns-then-args-eq1-clause-trees
returns-then-args-eq1-clause-trees c h = views.one_shown _ _ _ (slice_is _ _ _ _ _ _ c.some_of-args.ensures c.args_of.ensures.is c.tree_at-in-Slice.ensures.is ∙ ap (run_at c.args.pattern.now (plain c.args.subject.now)) (sym c.in-Slice.is)) c.if-args-eq1.true c.index-args-0.is

pub returns-else-args-eq1-clause-trees : goal.returns-else-args-eq1-clause-trees
returns-else-args-eq1-clause-trees c h = slice_is _ _ _ _ _ _ c.some_of-args.ensures c.args_of.ensures.is c.tree_at-in-Slice.ensures.is ∙ ap (run_at c.args.pattern.now (plain c.args.subject.now)) (sym c.in-Slice.is)

pub returns-else-places-eq1-clause-proper : goal.returns-else-places-eq1-clause-proper
returns-else-places-eq1-clause-proper c h = (c.if-places-eq1.false, views.picked_places c.args.pattern.now (plain c.args.subject.now) c.in-Picked.place c.in-Picked.places _ c.args.run.now _ c.in-Picked.is c.as_slice-places.ensures c.tree_at-t.ensures.is h)

pub returns-in-Wrapped-clause-trees : goal.returns-in-Wrapped-clause-trees
returns-in-Wrapped-clause-trees c h = views.wrapped_shown c.args.pattern.now (plain c.args.subject.now) c.in-Wrapped.field-0 c.in-Wrapped.place c.in-Wrapped.places _ c.args.run.now _ c.in-Wrapped.is c.tree_at-t-in-Wrapped.ensures.is c.as_slice.ensures h

pub returns-in-Wrapped-clause-proper : goal.returns-in-Wrapped-clause-proper
returns-in-Wrapped-clause-proper c h = views.wrapped_places c.args.pattern.now (plain c.args.subject.now) c.in-Wrapped.field-0 c.in-Wrapped.place c.in-Wrapped.places _ c.args.run.now _ c.in-Wrapped.is c.as_slice.ensures c.tree_at-t-in-Wrapped.ensures.is h
