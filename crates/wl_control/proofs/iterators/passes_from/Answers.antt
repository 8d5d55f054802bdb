use Rattle.std.proofs.Common.{refl, arith}
use Rattle.wl_control.proofs.Iterating.{no_passes, passes_end, passes_overflow, passes_begin, follows, pass_begun, one_less}
use Rattle.wl_control.specs.declared.place.Left.TheVariants.{Iterate}
use Rattle.wl_control.proofs.iterators.passes_from.Goals as goal

pub returns-then-passes-eq0-clause-answer : goal.returns-then-passes-eq0-clause-answer
returns-then-passes-eq0-clause-answer c = no_passes c.args.passes c.args.found _ _ c.if-passes-eq0.true c.stay.ensures.answer

pub returns-in-Ended-clause-answer : goal.returns-in-Ended-clause-answer
returns-in-Ended-clause-answer c =
    follows c.args.passes c.args.found _ _ _ c.in-Ended.is (passes_end c.args.passes c.args.found _ (omega arith) c.passes_over.ensures.answer)

pub returns-in-Overflowed-clause-answer : goal.returns-in-Overflowed-clause-answer
returns-in-Overflowed-clause-answer c =
    follows c.args.passes c.args.found _ _ _ c.in-Overflowed.is
    (passes_overflow c.args.passes c.args.found _ (omega arith) (record { next = (refl, refl, λ h. h); large = λ e. cc }))

pub returns-in-Next-clause-answer : goal.returns-in-Next-clause-answer
returns-in-Next-clause-answer c =
    follows c.args.passes c.args.found _ _ _ c.in-Next.is
    (passes_begin c.args.passes c.args.found c.in-Next.value _ (omega arith) (pass_begun (Iterate (one_less c.args.passes) c.args.found c.in-Next.value)))
