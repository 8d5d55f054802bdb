use Rattle.std.proofs.Common.{sym, ◌∙◌, arith}
use Rattle.wl_shape.proofs.Sets.{next_symbol, last_symbol}
use Rattle.wl_shape.proofs.names.put_all.Goals as goal

pub loop-symbol-preserved : goal.loop-symbol-preserved
loop-symbol-preserved c = λ x. c.loop-symbol.invariant x
    ∙ next_symbol c.args.symbols.now c.loop-symbol.symbol-index c.symbol-item.result c.loop-symbol.names.keys c.put.new.names.keys c.loop-symbol-test.true c.symbol-item.is c.in_ok-put.ensures x

pub returns : goal.returns
returns c = λ x. sym (c.loop-symbol.invariant x ∙ last_symbol c.args.symbols.now c.loop-symbol.symbol-index c.loop-symbol.names.keys x (omega (arith, c.loop-symbol-test.false)))
