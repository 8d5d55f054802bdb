use Rattle.std.proofs.Common.{◌+◌, ◌≡◌, [], ◌∷◌, length, take, sym, ap, ◌∙◌, arith}
use Rattle.std.proofs.lemmas.List.{length-append, take_all}
use Rattle.std.proofs.lemmas.Option.{slice_get_past}
use Rattle.std.specs.Prelude.{slice_get}
use Rattle.wl_expr.specs.Stamped.{plain}
use Rattle.wl_assign.specs.Kinds.{found_in}
use Rattle.wl_assign.specs.Tags.{tag, tags}
use Rattle.wl_assign.proofs.Found.{found_none, found_met, found_other, found_there, tags_found}
use Rattle.wl_assign.proofs.tags.tag_at.Goals as goal
use Rattle.wl_assign.proofs.tags.tag_at.Goals.{in-Some+then-not-is_met+else-left-eq0, in-Some+else-not-is_met, in_default-tag}

pub returns-then-left-eq0-clause-value : goal.returns-then-left-eq0-clause-value
returns-then-left-eq0-clause-value c =
    let ts = c.in-Node.args.now in
    let i = c.loop-place.place in
    let count : length (found_in (take i ts)) ≡ c.args.k = let j : c.loop-place.left + length (found_in (take i ts)) ≡ c.args.k = c.loop-place.invariant in omega (arith, c.if-left-eq0.true) in
    sym (ap (λ t. slice_get (tags t) c.args.k) (sym c.in-Node.ensures.plain) ∙ ap (λ ns. slice_get ns c.args.k) (tags_found ts) ∙ ap (slice_get (found_in ts)) (sym count)
    ∙ found_there ts i c.index-args-place.result c.in-Some.name.now (omega arith) (ap (λ e. tag (plain e)) (sym c.index-args-place.is) ∙ sym c.in-Some.ensures.value) (sym c.if-not-is_met.ensures))

pub loop-place-preserved : goal.loop-place-preserved
loop-place-preserved c =
    let ts = c.in-Node.args.now in
    let i = c.loop-place.place in
    let at = ap (λ e. tag (plain e)) (sym c.index-args-place.is) in
    let j : c.loop-place.left + length (found_in (take i ts)) ≡ c.args.k = c.loop-place.invariant in
    elim c.match-tag.branch [
      | in-Some+then-not-is_met+else-left-eq0 w ↦
          let f = ap length (found_other ts i c.index-args-place.result w.in-Some.name.now (omega arith) (at ∙ sym w.in-Some.ensures.value) (sym w.if-not-is_met.ensures)) in
          let l = length-append (found_in (take i ts)) (w.in-Some.name.now ∷ []) in
          omega (arith, w.left-is, w.if-left-eq0.false)
      | in-Some+else-not-is_met w ↦
          let f = ap length (found_met ts i c.index-args-place.result w.in-Some.name.now (omega arith) (at ∙ sym w.in-Some.ensures.value) (sym w.if-not-is_met.ensures)) in
          omega (arith, w.left-is)
      | in_default-tag w ↦
          let f = ap length (found_none ts i c.index-args-place.result (omega arith) (at ∙ sym w.in_default-tag.ensures.value)) in
          omega (arith, w.left-is)
    ]

pub returns-clause-value : goal.returns-clause-value
returns-clause-value c =
    let ts = c.in-Node.args.now in
    let j : c.loop-place.left + length (found_in (take c.loop-place.place ts)) ≡ c.args.k = c.loop-place.invariant in
    let whole = ap (λ us. length (found_in us)) (take_all c.loop-place.place ts c.loop-place-test.false) in
    sym (ap (λ t. slice_get (tags t) c.args.k) (sym c.in-Node.ensures.plain) ∙ ap (λ ns. slice_get ns c.args.k) (tags_found ts) ∙ slice_get_past (found_in ts) c.args.k (omega arith))
