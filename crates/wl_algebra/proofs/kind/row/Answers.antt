use Rattle.wl_algebra.proofs.kind.row.Goals as goal

pub returns-in-Rational-clause-passed : goal.returns-in-Rational-clause-passed
returns-in-Rational-clause-passed c = λ ms h. c.rational_row.ensures.passed ms

pub returns-in-Gcd-clause-passed : goal.returns-in-Gcd-clause-passed
returns-in-Gcd-clause-passed c = λ ms h. c.gcd_row.ensures.passed ms

pub returns-in-Question-clause-passed : goal.returns-in-Question-clause-passed
returns-in-Question-clause-passed c = λ ms h. c.question_row.ensures.passed ms

pub returns-in-Equal-clause-passed : goal.returns-in-Equal-clause-passed
returns-in-Equal-clause-passed c = λ ms h. c.equal_row.ensures.passed ms

pub returns-in-Unequal-clause-passed : goal.returns-in-Unequal-clause-passed
returns-in-Unequal-clause-passed c = λ ms h. c.unequal_row.ensures.passed ms

pub returns-in-Comparison-clause-passed : goal.returns-in-Comparison-clause-passed
returns-in-Comparison-clause-passed c = λ ms h. c.comparison_row.ensures.passed ms

pub returns-in-Inequality-clause-passed : goal.returns-in-Inequality-clause-passed
returns-in-Inequality-clause-passed c = λ ms h. c.inequality_row.ensures.passed ms

pub returns-in-SameQ-clause-passed : goal.returns-in-SameQ-clause-passed
returns-in-SameQ-clause-passed c = λ ms h. c.same_row.ensures.passed ms

pub returns-in-Not-clause-passed : goal.returns-in-Not-clause-passed
returns-in-Not-clause-passed c = λ ms h. c.not_row.ensures.passed ms

pub returns-in-Extreme-clause-passed : goal.returns-in-Extreme-clause-passed
returns-in-Extreme-clause-passed c = λ ms h. c.extreme_row.ensures.passed ms

pub returns-in-Factorial-clause-passed : goal.returns-in-Factorial-clause-passed
returns-in-Factorial-clause-passed c = λ ms h. c.factorial_row.ensures.passed ms

pub returns-in-UnsameQ-clause-passed : goal.returns-in-UnsameQ-clause-passed
returns-in-UnsameQ-clause-passed c = λ ms h. c.unsame_row.ensures.passed ms
