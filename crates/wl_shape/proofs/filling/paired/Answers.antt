use Rattle.std.proofs.Common.{◌≡◌, sym, ◌∙◌, subst, arith}
use Rattle.wl_expr.specs.Passed.{IsFrom}
use Rattle.wl_expr.specs.Tree.{symbol}
use Rattle.wl_shape.specs.Given.{paired_with}
use Rattle.wl_shape.proofs.Preparing.{last_pair, next_pair}
use Rattle.wl_shape.proofs.filling.paired.Goals as goal

pub loop-k-preserved : goal.loop-k-preserved
loop-k-preserved c =
    let ns = c.args.names.now in
    let ts = c.args.values.now in
    let k = c.loop-k.k in
    record {
      value = λ x. c.loop-k.invariant.value x
          ∙ next_pair ns ts k c.index-names-k.result c.index-values-k.result (paired_with c.loop-k.pairs.entries (symbol x)) (paired_with c.put_first.new.pairs.entries (symbol x)) x
          c.loop-k-test.true (omega (arith, c.loop-k-test.true, c.requires.lengths)) c.index-names-k.is c.index-values-k.is c.requires.symbols (c.in_ok-put_first.ensures.value x);
      passed = λ ms f. c.in_ok-put_first.ensures.passed ms (c.loop-k.invariant.passed ms f) (subst (IsFrom ms) (sym c.index-values-k.is) (f k c.index-values-k.result (omega (arith, c.loop-k-test.true, c.requires.lengths))));
    }

pub returns-clause-value : goal.returns-clause-value
returns-clause-value c = λ x. sym (c.loop-k.invariant.value x ∙ last_pair c.args.names.now c.args.values.now c.loop-k.k (paired_with c.loop-k.pairs.entries (symbol x)) x (omega (arith, c.loop-k-test.false)))
