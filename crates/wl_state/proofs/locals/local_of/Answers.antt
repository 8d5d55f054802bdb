use Rattle.std.proofs.Common.{sym, ◌∙◌}
use Rattle.wl_expr.proofs.Items.{two_items}
use Rattle.wl_state.proofs.Guarding.{not_local}
use Rattle.wl_state.proofs.LocalParts.{local_honest, none_of}
use Rattle.wl_state.proofs.Values.{args_honest}
use Rattle.wl_state.proofs.locals.local_of.Goals as goal

pub returns-then-args-ne2-clause-read : goal.returns-then-args-ne2-clause-read
returns-then-args-ne2-clause-read c = none_of _ (not_local c.args.needs_value _ _ c.in-Node.args.now c.in-Node.ensures.plain c.if-args-ne2.true)

pub returns-clause-honest : goal.returns-clause-honest
returns-clause-honest c = λ a h.
    let es = c.in-Node.args.now in
    let n = c.index-args-0.result in
    let v = c.index-args-1.result in
    local_honest a es n v _ _ (two_items es n v c.if-args-ne2.false c.index-args-0.is c.index-args-1.is) (args_honest a _ _ _ _ c.in-Node.ensures.all h) c.in_ok-copy-2.ensures c.in_ok-copy-3.ensures (sym c.is_name-2.ensures ∙ c.if-not-is_name-2.false)
