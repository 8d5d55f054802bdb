use Rattle.std.proofs.Common.{◌&&◌, ◌||◌, ◌+◌, not, drop, sym, ap, ◌∙◌}
use Rattle.std.specs.Prelude.{is_some}
use Rattle.wl_expr.specs.Tree.{symbol}
use Rattle.wl_shape.specs.Held.{Entry, found}
use Rattle.wl_shape.specs.Names.{has_name}
use Rattle.wl_shape.proofs.Holdings.{entry_at, next_kept, next_left_out}
use Rattle.wl_shape.proofs.values.Values.names_but.Goals as goal
use Rattle.wl_shape.proofs.values.Values.names_but.Goals.{then-not-has+in_ok-put, else-not-has}

pub loop-at-preserved : goal.loop-at-preserved
loop-at-preserved c = λ x.
    let es = c.args.self.now.map.entries in
    let ss = c.args.shadowed.now.keys in
    let ks = c.loop-at.names.keys in
    let i = c.loop-at.at in
    let e : Entry = (c.in-Some.symbol.now, c.in-Some.field-0-1.now) in
    let place = entry_at es i e c.in-Some.ensures.entry in
    elim c.if-not-has.branch [
      | then-not-has+in_ok-put w ↦
          c.loop-at.invariant x ∙ next_kept es i e ss ks w.put.new.names.keys place.0 place.1 (sym w.if-not-has.ensures) w.in_ok-put.ensures x
          ∙ ap (λ s. has_name s.keys x || (is_some (found (drop (i + 1) es) (symbol x)) && not (has_name ss x))) (sym w.names-is)
      | else-not-has w ↦
          c.loop-at.invariant x ∙ next_left_out es i e ss ks place.0 place.1 (sym w.if-not-has.ensures) x
          ∙ ap (λ s. has_name s.keys x || (is_some (found (drop (i + 1) es) (symbol x)) && not (has_name ss x))) (sym w.names-is)
    ]
