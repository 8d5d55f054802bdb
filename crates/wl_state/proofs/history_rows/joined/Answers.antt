use Rattle.std.proofs.Common.{◌+◌, ◌++◌, append_assoc, drop, string_bytes, sym, ap, ◌∙◌}
use Rattle.wl_desk.specs.MessageText.{argument_text}
use Rattle.wl_expr.specs.Stamped.{plain}
use Rattle.wl_semantics.specs.MessageRows as rows
use Rattle.wl_state.specs.Played.{trees}
use Rattle.wl_state.proofs.Shapings.{next_of}
use Rattle.wl_state.proofs.history_rows.joined.Goals as goal

pub loop-arg-preserved : goal.loop-arg-preserved
loop-arg-preserved c =
    let es = c.args.args.now in
    let i = c.loop-arg.arg-index in
    let e = c.arg-item.result in
    let rest = rows.joined (trees (drop (i + 1) es)) in
    ap (λ z. z ++ rest) c.in_ok-push_text.ensures ∙ append_assoc (string_bytes c.loop-arg.text) (argument_text (plain e)) rest
    ∙ ap (λ us. string_bytes c.loop-arg.text ++ rows.joined (trees us)) (sym (next_of es i e c.loop-arg-test.true c.arg-item.is)) ∙ c.loop-arg.invariant
