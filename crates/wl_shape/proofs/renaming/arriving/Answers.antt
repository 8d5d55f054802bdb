use Rattle.std.proofs.Common.{◌≡◌, ◌<◌, ◌≤◌, List, length, get_or, sym, ◌∙◌, subst, arith}
use Rattle.wl_expr.specs.Stamped.{Stamped}
use Rattle.wl_shape.specs.Held.{values_in}
use Rattle.wl_shape.proofs.Renamings.{last_arriving, next_arriving}
use Rattle.wl_shape.proofs.renaming.arriving.Goals as goal

pub loop-name-preserved : goal.loop-name-preserved
loop-name-preserved c = λ x.
    let es = c.args.names.now.keys in
    let i = c.loop-name.name-index in
    let e = c.name-item.result in
    let keys = c.as_slice-name-items.ensures.keys in
    let l : i < length es = subst (λ (us : List Stamped). i < length us) keys c.loop-name-test.true in
    let q : e ≡ get_or es i e = subst (λ (us : List Stamped). e ≡ get_or us i e) keys c.name-item.is in
    c.loop-name.invariant x ∙ next_arriving (values_in c.args.values.now) es i e c.loop-name.arrived.keys c.add_arriving.new.arrived.keys l q c.in_ok-add_arriving.ensures x

pub returns : goal.returns
returns c = λ x.
    let es = c.args.names.now.keys in
    let i = c.loop-name.name-index in
    let l : length es ≤ i = subst (λ (us : List Stamped). length us ≤ i) c.as_slice-name-items.ensures.keys (omega (arith, c.loop-name-test.false)) in
    sym (c.loop-name.invariant x ∙ last_arriving (values_in c.args.values.now) es i c.loop-name.arrived.keys x l)
