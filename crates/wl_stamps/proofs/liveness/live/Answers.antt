use Rattle.std.proofs.Common.{◌+◌, ◌≡◌, ◌<◌, length, get_or, refl, sym, subst, ◌∙◌, arith}
use Rattle.std.proofs.lemmas.Option.{get_or_from_slice_get, slice_get-get_or, slice_get_within}
use Rattle.std.specs.Prelude.{Some, None}
use Rattle.wl_ports.specs.Counted.{add_none}
use Rattle.wl_rules.specs.Stored.{IsIndex}
use Rattle.wl_stamps.specs.Reads.{Read}
use Rattle.wl_stamps.proofs.LiveReads.{live_more, not_live, ticks_more, ticks_within}
use Rattle.wl_stamps.proofs.liveness.live.Goals as goal

pub loop-k-init : goal.loop-k-init
loop-k-init g c = (λ j d l. absurd (omega (arith, l)), (0, omega arith, sym (add_none 0 c.args.work.now refl)))

pub unreachable-requires : goal.unreachable-requires
unreachable-requires g c =
    let rs = c.args.stamp.now.reads in
    let l : c.loop-k.k < length rs = omega arith in
    let e : None ≡ Some (get_or rs c.loop-k.k (0, 0)) = c.in_default.ensures ∙ slice_get-get_or rs c.loop-k.k (0, 0) l in
    absurd (cc)

pub is_live_read-requires : goal.is_live_read-requires
is_live_read-requires g c =
    let rs = c.args.stamp.now.reads in
    let r : Read = (c.in-Some.index, c.in-Some.version) in
    subst (λ q. IsIndex q.0 c.args.store.now) (get_or_from_slice_get rs c.loop-k.k r r (sym c.in-Some.ensures)) (c.requires c.loop-k.k r (slice_get_within rs c.loop-k.k r (sym c.in-Some.ensures)))

pub returns-then-not-is_live_read-clause-live : goal.returns-then-not-is_live_read-clause-live
returns-then-not-is_live_read-clause-live g c =
    let r : Read = (c.in-Some.index, c.in-Some.version) in
    (λ t. absurd (cc), λ a. c.if-not-is_live_read.ensures.live.1 (not_live c.args.store.now c.args.stamp.now.reads c.loop-k.k r (sym c.in-Some.ensures) a))

pub returns-then-not-is_live_read-clause-ticks : goal.returns-then-not-is_live_read-clause-ticks
returns-then-not-is_live_read-clause-ticks g c =
    ticks_within (c.loop-k.k + 1) (length c.args.stamp.now.reads) c.args.work.now c.is_live_read.new.work (omega arith)
    (ticks_more c.loop-k.k c.args.work.now c.loop-k.work c.is_live_read.new.work c.loop-k.invariant.1 c.is_live_read.ensures.ticks)

pub loop-k-preserved : goal.loop-k-preserved
loop-k-preserved g c =
    let r : Read = (c.in-Some.index, c.in-Some.version) in (
      live_more c.args.store.now c.args.stamp.now.reads c.loop-k.k r (sym c.in-Some.ensures) (c.if-not-is_live_read.ensures.live.0 refl) c.loop-k.invariant.0,
      ticks_more c.loop-k.k c.args.work.now c.loop-k.work c.is_live_read.new.work c.loop-k.invariant.1 c.is_live_read.ensures.ticks,
    )
