use Rattle.std.proofs.Common.{◌≡◌, ◌<◌, ◌≤◌, ◌&&◌, ◌||◌, ◌+◌, not, List, length, get_or, drop, sym, ap, ◌∙◌, subst, arith}
use Rattle.wl_expr.specs.Stamped.{Stamped}
use Rattle.wl_expr.specs.Words.{Name}
use Rattle.wl_shape.specs.Names.{has_name}
use Rattle.wl_shape.proofs.Meetings.{all_stay, next_shadowed, next_unshadowed, last_shadowed}
use Rattle.wl_shape.proofs.reaching.others.Goals as goal
use Rattle.wl_shape.proofs.reaching.others.Goals.{then-not-has+in_ok-put, else-not-has}

pub returns-then-not-has_any : goal.returns-then-not-has_any
returns-then-not-has_any c = λ x. all_stay c.args.targets.now.keys c.args.names.now x (sym c.if-not-has_any.ensures)

pub loop-target-preserved : goal.loop-target-preserved
loop-target-preserved c = λ x.
    let ts = c.args.targets.now.keys in
    let ns = c.args.names.now in
    let ks = c.loop-target.others.keys in
    let i = c.loop-target.target-index in
    let e = c.target-item.result in
    let keys = c.as_slice-target-items.ensures.keys in
    let l : i < length ts = subst (λ (us : List Stamped). i < length us) keys c.loop-target-test.true in
    let q : e ≡ get_or ts i e = subst (λ (us : List Stamped). e ≡ get_or us i e) keys c.target-item.is in
    let rest = λ (us : List Stamped). has_name us x || (has_name (drop (i + 1) ts) x && not (has_name ns x)) in
    elim c.if-not-has.branch [
      | then-not-has+in_ok-put w ↦
          c.loop-target.invariant x
          ∙ next_unshadowed ts i e c.in_ok-shadowed.shadowed.keys ns ks w.put.new.names.keys l q c.in_ok-shadowed.ensures (sym w.if-not-has.ensures) w.in_ok-put.ensures x
          ∙ ap (λ s. rest s.keys) (sym w.others-is)
      | else-not-has w ↦
          c.loop-target.invariant x
          ∙ next_shadowed ts i e c.in_ok-shadowed.shadowed.keys ns ks l q c.in_ok-shadowed.ensures (sym w.if-not-has.ensures) x
          ∙ ap (λ s. rest s.keys) (sym w.others-is)
    ]

pub returns : goal.returns
returns c = λ x.
    let ts = c.args.targets.now.keys in
    let i = c.loop-target.target-index in
    let l : length ts ≤ i = subst (λ (us : List Stamped). length us ≤ i) c.as_slice-target-items.ensures.keys (omega (arith, c.loop-target-test.false)) in
    sym (c.loop-target.invariant x ∙ last_shadowed ts i c.args.names.now c.loop-target.others.keys x l)
