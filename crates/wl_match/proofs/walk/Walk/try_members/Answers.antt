use Rattle.std.proofs.Common.{refl}
use Rattle.wl_expr.specs.Stamped.{plain}
use Rattle.wl_match.proofs.Arms as arms
use Rattle.wl_match.proofs.Keeping as keeping
use Rattle.wl_match.proofs.Finds.{child_at}
use Rattle.wl_match.proofs.walk.Walk.try_members.Goals as goal

pub returns-then-from-members-clause-plays : goal.returns-then-from-members-clause-plays
returns-then-from-members-clause-plays c = arms.members_none c.args.pattern.now (plain c.args.subject.now) c.args.i c.args.from c.args.run.now c.args.self.now _ c.inside-members.ensures c.if-from-members.true

pub returns-then-from-members-2-clause-plays : goal.returns-then-from-members-2-clause-plays
returns-then-from-members-2-clause-plays c = arms.members_more c.args.pattern.now (plain c.args.subject.now) c.args.i c.args.from _ c.args.run.now _ _ c.args.self.now _ _ _ c.inside-members.ensures c.if-from-members-2.true refl c.in_ok-copy.ensures c.in_ok-copy-2.ensures c.in_ok-keep.ensures c.in_ok-put.ensures

pub returns-clause-plays : goal.returns-clause-plays
returns-clause-plays c = arms.members_last c.args.pattern.now (plain c.args.subject.now) c.args.i c.args.from _ c.args.run.now _ c.args.self.now _ _ c.inside-members.ensures c.if-from-members.false c.if-from-members-2.false refl c.in_ok-copy-3.ensures c.in_ok-put-2.ensures

pub returns-then-from-members-2-clause-fits : goal.returns-then-from-members-2-clause-fits
returns-then-from-members-2-clause-fits c h f =
    let e = child_at c.args.pattern.now c.args.i c.args.from _ c.inside-members.ensures c.if-from-members.false in
    keeping.put_one c.args.pattern.now (plain c.args.subject.now) _ _ _ c.in_ok-put.ensures (keeping.member_fits c.args.pattern.now (plain c.args.subject.now) c.args.i c.args.from _ c.args.run.now _ _ e c.in_ok-copy-2.ensures h)
    (c.in_ok-keep.ensures.fits c.args.pattern.now (plain c.args.subject.now) (keeping.members_fit c.args.pattern.now (plain c.args.subject.now) c.args.i c.args.from _ c.args.run.now _ e c.in_ok-copy.ensures h) f)

pub returns-clause-fits : goal.returns-clause-fits
returns-clause-fits c h f =
    keeping.put_one c.args.pattern.now (plain c.args.subject.now) _ _ _ c.in_ok-put-2.ensures (keeping.member_fits c.args.pattern.now (plain c.args.subject.now) c.args.i c.args.from _ c.args.run.now _ _ (child_at c.args.pattern.now c.args.i c.args.from _ c.inside-members.ensures c.if-from-members.false) c.in_ok-copy-3.ensures h) f
