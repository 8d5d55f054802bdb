use Rattle.std.proofs.Common.{◌∙◌, arith}
use Rattle.wl_scan.proofs.Steps.{advances_as, part_reaches}
use Rattle.wl_scan.proofs.Coming.{past_gap, past_token, at_fault, at_end}
use Rattle.wl_scan.proofs.tokens.next_at.Goals as goal

pub overflow_add-place : goal.overflow_add-place
overflow_add-place c =
    let advances = advances_as _ _ _ c.range_from.utf8 (omega (arith, c.range_from.ensures.len, c.loop-place-test.true)) c.scan_start.ensures c.in-Gap.is in
    omega (arith, advances.1.within, c.range_from.ensures.len, c.requires.size)

pub loop-place-smaller : goal.loop-place-smaller
loop-place-smaller c =
    let advances = advances_as _ _ _ c.range_from.utf8 (omega (arith, c.range_from.ensures.len, c.loop-place-test.true)) c.scan_start.ensures c.in-Gap.is in
    omega (arith, advances.0, c.loop-place-test.true)

pub loop-place-preserved : goal.loop-place-preserved
loop-place-preserved c =
    let advances = advances_as _ _ _ c.range_from.utf8 (omega (arith, c.range_from.ensures.len, c.loop-place-test.true)) c.scan_start.ensures c.in-Gap.is in
    record {
      boundary = part_reaches _ _ _ _ c.range_from.ensures.value (omega (arith, c.loop-place-test.true)) advances.1;
      same = c.loop-place.invariant.same ∙ past_gap _ _ _ _ _ c.loop-place-test.true c.range_from.ensures.value c.scan_start.ensures c.in-Gap.is advances.0;
    }

pub returns-in-Lexed : goal.returns-in-Lexed
returns-in-Lexed c =
    let advances = advances_as _ _ _ c.range_from.utf8 (omega (arith, c.range_from.ensures.len, c.loop-place-test.true)) c.scan_start.ensures c.in-Lexed.is in (
      c.loop-place.invariant.same ∙ past_token _ _ _ _ _ _ c.loop-place-test.true c.range_from.ensures.value c.scan_start.ensures c.in-Lexed.is advances.0,
      record {
        some = advances.0;
        within = omega (arith, advances.1.within, c.range_from.ensures.len);
        start = c.loop-place.invariant.boundary;
        end = part_reaches _ _ _ _ c.range_from.ensures.value (omega (arith, c.loop-place-test.true)) advances.1;
      },
    )

pub overflow_add-result : goal.overflow_add-result
overflow_add-result c =
    let advances = advances_as _ _ _ c.range_from.utf8 (omega (arith, c.range_from.ensures.len, c.loop-place-test.true)) c.scan_start.ensures c.in-Fault.is in
    omega (arith, advances, c.range_from.ensures.len, c.requires.size)

pub returns-in-Fault : goal.returns-in-Fault
returns-in-Fault c =
    let advances = advances_as _ _ _ c.range_from.utf8 (omega (arith, c.range_from.ensures.len, c.loop-place-test.true)) c.scan_start.ensures c.in-Fault.is in (
      c.loop-place.invariant.same ∙ at_fault _ _ _ _ _ _ c.loop-place-test.true c.range_from.ensures.value c.scan_start.ensures c.in-Fault.is,
      omega (arith, advances, c.range_from.ensures.len),
    )

pub returns : goal.returns
returns c = c.loop-place.invariant.same ∙ at_end _ _ c.loop-place-test.false
