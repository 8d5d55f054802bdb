use Rattle.std.proofs.Common.{subst, sym}
use Rattle.std.specs.Str.Iter.{chars_rest}
use Rattle.wl_ports.proofs.Names.{name_begun, name_goes_on, name_not_begun, name_ends_early, name_ended, IsNameSoFar}
use Rattle.wl_ports.proofs.name.is_name.Goals as goal

pub loop-ch-init : goal.loop-ch-init
loop-ch-init c =
    subst (λ s. IsNameSoFar c.args.text.now (chars_rest s)) (sym c.into_iter-ch-iterator.ensures.into_iter_gives)
    (name_begun _ _ _ _ c.utf8.text c.chars-chars.ensures.rest c.in-Some.ensures.steps.0 (sym c.if-not-begins_name.ensures))

pub returns-then-not-begins_name : goal.returns-then-not-begins_name
returns-then-not-begins_name c =
    name_not_begun _ _ _ _ c.utf8.text c.chars-chars.ensures.rest c.in-Some.ensures.steps.0 (sym c.if-not-begins_name.ensures)

pub returns-then-not-continues_name : goal.returns-then-not-continues_name
returns-then-not-continues_name c =
    name_ends_early _ _ _ _ c.loop-ch.invariant c.in-Some-ch.ensures.steps.0 (sym c.if-not-continues_name.ensures)

pub loop-ch-preserved : goal.loop-ch-preserved
loop-ch-preserved c = name_goes_on _ _ _ _ c.loop-ch.invariant c.in-Some-ch.ensures.steps.0 (sym c.if-not-continues_name.ensures)

pub returns : goal.returns
returns c = name_ended _ _ c.loop-ch.invariant c.in-None.ensures.steps.0.0
