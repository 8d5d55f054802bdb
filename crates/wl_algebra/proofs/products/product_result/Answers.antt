use Rattle.wl_algebra.proofs.products.product_result.Goals as goal

pub returns-in_default-clause-passed : goal.returns-in_default-clause-passed
returns-in_default-clause-passed c = λ ms h. c.overflow.ensures.passed ms

pub returns-then-num-eq0-clause-passed : goal.returns-then-num-eq0-clause-passed
returns-then-num-eq0-clause-passed c = λ ms h. c.product_of_zero.ensures.passed ms
