use Rattle.std.proofs.Common.{◌≡◌, true, false, sym, ap, ◌∙◌, arith}
use Rattle.std.proofs.lemmas.Slice.Eq.{bytes_eq-Decides}
use Rattle.std.specs.Prelude.{Some}
use Rattle.wl_expr.specs.Stamped.{plain}
use Rattle.wl_assign.specs.Tags.{tag}
use Rattle.wl_assign.proofs.Found.{untagged, tagged_otherwise, tagged_so}
use Rattle.wl_assign.proofs.tags.is_met.Goals as goal
use Rattle.wl_assign.proofs.tags.is_met.Goals.{in-Some+else-eq, in_default}

pub returns-then-eq : goal.returns-then-eq
returns-then-eq c =
    sym (tagged_so c.args.args.now c.loop-arg.arg-index c.arg-item.result c.args.name.now (omega arith)
    (ap (λ e. tag (plain e)) (sym c.arg-item.is) ∙ sym c.in-Some.ensures.value ∙ ap Some ((bytes_eq-Decides c.in-Some.other.now c.args.name.now).0 (sym c.if-eq.ensures))))

pub loop-arg-preserved : goal.loop-arg-preserved
loop-arg-preserved c =
    let at = ap (λ e. tag (plain e)) (sym c.arg-item.is) in
    elim c.match-tag.branch [
      | in-Some+else-eq w ↦ tagged_otherwise c.args.args.now c.loop-arg.arg-index c.arg-item.result c.args.name.now w.in-Some.other.now (omega arith) (at ∙ sym w.in-Some.ensures.value)
          (λ e. let f : false ≡ true = w.if-eq.ensures ∙ (bytes_eq-Decides w.in-Some.other.now c.args.name.now).1 e in absurd (cc)) c.loop-arg.invariant
      | in_default w ↦ untagged c.args.args.now c.loop-arg.arg-index c.arg-item.result c.args.name.now (omega arith) (at ∙ sym w.in_default.ensures.value) c.loop-arg.invariant
    ]
