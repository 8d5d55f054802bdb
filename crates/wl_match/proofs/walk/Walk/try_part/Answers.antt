use Rattle.std.proofs.Common.{refl}
use Rattle.wl_expr.specs.Stamped.{plain}
use Rattle.std.specs.Option.{option_map}
use Rattle.wl_match.specs.Pattern.{hold, optional}
use Rattle.wl_match.specs.Parts.{count_of}
use Rattle.wl_match.proofs.Arms as arms
use Rattle.wl_match.proofs.Keeping as keeping
use Rattle.wl_match.proofs.Picks as picks
use Rattle.wl_match.proofs.walk.Walk.try_part.Goals as goal

pub returns-in_ok-then-in-Named-clause-plays : goal.returns-in_ok-then-in-Named-clause-plays
returns-in_ok-then-in-Named-clause-plays c = arms.named_plays c.args.pattern.now (plain c.args.subject.now) c.args.i c.in-Named.q c.args.run.now _ c.args.self.now _ _ _ c.in-Some.ensures c.in-Named.is refl c.in_ok-copy-in-Named.ensures c.in_ok-then-in-Named.ensures

pub returns-in_ok-then-in-Applies-clause-plays : goal.returns-in_ok-then-in-Applies-clause-plays
returns-in_ok-then-in-Applies-clause-plays c = arms.tested_plays c.args.pattern.now (plain c.args.subject.now) c.args.i c.in-Applies.q c.args.run.now _ c.args.self.now _ _ _ c.in-Some.ensures c.in-Applies.is refl c.in_ok-copy-in-Applies.ensures c.in_ok-then-in-Applies.ensures

pub returns-in_ok-then-in-Holds-clause-plays : goal.returns-in_ok-then-in-Holds-clause-plays
returns-in_ok-then-in-Holds-clause-plays c = arms.tested_plays c.args.pattern.now (plain c.args.subject.now) c.args.i c.in-Holds.q c.args.run.now _ c.args.self.now _ _ _ c.in-Some.ensures c.in-Holds.is refl c.in_ok-copy-in-Holds.ensures c.in_ok-then-in-Holds.ensures

pub returns-in_ok-put-in-Alternatives-clause-plays : goal.returns-in_ok-put-in-Alternatives-clause-plays
returns-in_ok-put-in-Alternatives-clause-plays c = arms.alternatives_plays c.args.pattern.now (plain c.args.subject.now) c.args.i c.args.run.now _ c.args.self.now _ _ _ c.in-Some.ensures c.in-Alternatives.is c.in_ok-copy-in-Alternatives.ensures c.in_ok-put-in-Alternatives.ensures

pub returns-in_ok-step-in-Repeated-clause-plays : goal.returns-in_ok-step-in-Repeated-clause-plays
returns-in_ok-step-in-Repeated-clause-plays c = arms.repeated_plays c.args.pattern.now (plain c.args.subject.now) c.args.i c.in-Repeated.q c.args.run.now c.args.self.now _ _ _ c.in-Repeated.number c.in-Some.ensures c.in-Repeated.is c.in_ok-step-in-Repeated.ensures.plays

pub returns-in_ok-step-in-Except-clause-plays : goal.returns-in_ok-step-in-Except-clause-plays
returns-in_ok-step-in-Except-clause-plays c = arms.excepted_plays c.args.pattern.now (plain c.args.subject.now) c.args.i c.in-Except.q c.args.run.now c.args.self.now _ _ _ _ c.in-Some.ensures c.in-Except.is c.in_ok-step-in-Except.ensures.plays

pub returns-in_ok-step-in-Nodes-clause-plays : goal.returns-in_ok-step-in-Nodes-clause-plays
returns-in_ok-step-in-Nodes-clause-plays c = picks.node_part c.args.pattern.now (plain c.args.subject.now) c.args.i c.in-Nodes.hp c.args.run.now c.args.self.now _ _ _ _ _ _ c.in-Some.ensures c.in-Nodes.is c.in_ok-step-in-Nodes.ensures.plays

pub returns-in_ok-then-in-Named-clause-fits : goal.returns-in_ok-then-in-Named-clause-fits
returns-in_ok-then-in-Named-clause-fits c h f = keeping.named_fits c.args.pattern.now (plain c.args.subject.now) c.args.i c.in-Named.q c.args.run.now _ c.args.self.now _ _ _ c.in-Some.ensures c.in-Named.is refl c.in_ok-copy-in-Named.ensures c.in_ok-then-in-Named.ensures h f

pub returns-in_ok-then-in-Applies-clause-fits : goal.returns-in_ok-then-in-Applies-clause-fits
returns-in_ok-then-in-Applies-clause-fits c h f = keeping.tested_fits c.args.pattern.now (plain c.args.subject.now) c.args.i c.in-Applies.q c.args.run.now _ c.args.self.now _ _ _ c.in-Some.ensures c.in-Applies.is refl refl c.in_ok-copy-in-Applies.ensures c.in_ok-then-in-Applies.ensures h f

pub returns-in_ok-then-in-Holds-clause-fits : goal.returns-in_ok-then-in-Holds-clause-fits
returns-in_ok-then-in-Holds-clause-fits c h f = keeping.tested_fits c.args.pattern.now (plain c.args.subject.now) c.args.i c.in-Holds.q c.args.run.now _ c.args.self.now _ _ _ c.in-Some.ensures c.in-Holds.is refl refl c.in_ok-copy-in-Holds.ensures c.in_ok-then-in-Holds.ensures h f

pub returns-in_ok-put-in-Hold-clause-fits : goal.returns-in_ok-put-in-Hold-clause-fits
returns-in_ok-put-in-Hold-clause-fits c h f = keeping.held_fits c.args.pattern.now (plain c.args.subject.now) c.args.i c.in-Hold.q c.args.run.now _ c.args.self.now _ _ _ hold c.in-Some.ensures c.in-Hold.is refl (λ _ _. refl) (λ _ _ _ _. refl) c.in_ok-copy-in-Hold.ensures c.in_ok-put-in-Hold.ensures h f

pub returns-in_ok-put-in-Optional-clause-fits : goal.returns-in_ok-put-in-Optional-clause-fits
returns-in_ok-put-in-Optional-clause-fits c h f = keeping.held_fits c.args.pattern.now (plain c.args.subject.now) c.args.i c.in-Optional.q c.args.run.now _ c.args.self.now _ _ _ (optional (option_map plain c.in-Optional.field-0)) c.in-Some.ensures c.in-Optional.is refl (λ _ _. refl) (λ _ _ _ _. refl) c.in_ok-copy-in-Optional.ensures c.in_ok-put-in-Optional.ensures h f

pub returns-in_ok-put-in-Alternatives-clause-fits : goal.returns-in_ok-put-in-Alternatives-clause-fits
returns-in_ok-put-in-Alternatives-clause-fits c h f = keeping.alternatives_fits c.args.pattern.now (plain c.args.subject.now) c.args.i c.args.run.now _ c.args.self.now _ _ _ c.in-Some.ensures c.in-Alternatives.is c.in_ok-copy-in-Alternatives.ensures c.in_ok-put-in-Alternatives.ensures h f

pub returns-in_ok-step-in-Repeated-clause-fits : goal.returns-in_ok-step-in-Repeated-clause-fits
returns-in_ok-step-in-Repeated-clause-fits c h f = c.in_ok-step-in-Repeated.ensures.fits (keeping.repeated_fits c.args.pattern.now (plain c.args.subject.now) c.args.i c.in-Repeated.q c.args.run.now _ _ (count_of c.in-Repeated.number) c.in-Some.ensures c.in-Repeated.is refl h) f

pub returns-in_ok-step-in-Except-clause-fits : goal.returns-in_ok-step-in-Except-clause-fits
returns-in_ok-step-in-Except-clause-fits c h f =
    let g = keeping.excepted_fits c.args.pattern.now (plain c.args.subject.now) c.args.i c.in-Except.q c.args.run.now _ _ _ c.in-Some.ensures c.in-Except.is refl refl refl h in
    c.in_ok-step-in-Except.ensures.fits g.0 g.1 f

pub returns-in_ok-step-in-Nodes-clause-fits : goal.returns-in_ok-step-in-Nodes-clause-fits
returns-in_ok-step-in-Nodes-clause-fits c h f = c.in_ok-step-in-Nodes.ensures.fits h f
