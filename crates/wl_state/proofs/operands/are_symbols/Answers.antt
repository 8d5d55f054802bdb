use Rattle.std.proofs.Common.{◌∷◌, ◌+◌, is_some, drop, sym, ap, ◌∙◌}
use Rattle.wl_expr.specs.Stamped.{plain}
use Rattle.wl_expr.specs.Words.{names_of}
use Rattle.wl_state.specs.Played.{trees}
use Rattle.wl_state.proofs.Shapings.{next_of}
use Rattle.wl_state.proofs.Symbols.{named_more, unnamed, no_symbol}
use Rattle.wl_state.proofs.operands.are_symbols.Goals as goal

pub loop-arg-preserved : goal.loop-arg-preserved
loop-arg-preserved c =
    let es = c.args.args.now in
    let i = c.loop-arg.arg-index in
    let e = c.arg-item.result in
    c.loop-arg.invariant ∙ ap (λ us. is_some (names_of (trees us))) (next_of es i e c.loop-arg-test.true c.arg-item.is)
    ∙ ap (λ t. is_some (names_of (t ∷ trees (drop (i + 1) es)))) (sym c.in-Symbol.ensures.plain) ∙ named_more _ (trees (drop (i + 1) es))

pub returns-in_default : goal.returns-in_default
returns-in_default c =
    let es = c.args.args.now in
    let i = c.loop-arg.arg-index in
    let e = c.arg-item.result in
    sym (c.loop-arg.invariant ∙ ap (λ us. is_some (names_of (trees us))) (next_of es i e c.loop-arg-test.true c.arg-item.is)
    ∙ ap is_some (unnamed (plain e) (trees (drop (i + 1) es)) (no_symbol _ _ _ c.view.ensures.all c.in_default.not-Symbol)))
