use Rattle.std.proofs.Common.{◌+◌, ℕ, subst, sym, ◌∙◌}
use Rattle.std.specs.Str.Iter.{chars_rest}
use Rattle.wl_scan.proofs.Names.{NameSoFar, name_goes_on, name_ends, name_is_all, name_boundary}
use Rattle.wl_scan.proofs.lengths.name_length.Goals as goal

pub returns-then-not-fits_name-clause-length : goal.returns-then-not-fits_name-clause-length
returns-then-not-fits_name-clause-length c = name_ends _ _ _ _ _ _ c.loop-ch.invariant c.in-Some.ensures.steps.0 (sym c.fits_name.ensures ∙ c.if-not-fits_name.true)

pub returns-then-not-fits_name-clause-boundary : goal.returns-then-not-fits_name-clause-boundary
returns-then-not-fits_name-clause-boundary c = name_boundary _ _ _ _ c.loop-ch.invariant

pub loop-ch-preserved : goal.loop-ch-preserved
loop-ch-preserved c =
    subst (λ (n : ℕ). NameSoFar c.args.text.now (chars_rest c.next.new.self) (c.loop-ch.length + n) _) (sym c.len_utf8-length.ensures.value)
    (name_goes_on _ _ _ _ _ _ c.loop-ch.invariant c.in-Some.ensures.steps.0 (sym c.fits_name.ensures ∙ c.if-not-fits_name.false))

pub returns-clause-length : goal.returns-clause-length
returns-clause-length c = name_is_all _ _ _ _ c.loop-ch.invariant c.in-None.ensures.steps.0.0
