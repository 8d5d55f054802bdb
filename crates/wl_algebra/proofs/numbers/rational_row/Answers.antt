use Rattle.std.proofs.Common.{rules, ◌≡◌, Some, Ok}
use Rattle.wl_exact.specs.Arithmetic.{checked_ratio}
use Rattle.wl_algebra.specs.Answers.{trees}
use Rattle.wl_algebra.specs.Numbers.{two_integers}
use Rattle.wl_algebra.proofs.Ratios.{rational_answers}
use Rattle.wl_algebra.proofs.numbers.rational_row.Goals as goal

pub returns-in-Ok-clause-answer : goal.returns-in-Ok-clause-answer
returns-in-Ok-clause-answer c =
    let p : Some (c.in-Some.n.num, c.in-Some.m.num) ≡ two_integers (trees c.args.args.now) = search rules in
    let q : checked_ratio c.in-Some.n.num c.in-Some.m.num ≡ Ok c.in-Ok.ratio = search rules in
    rational_answers (trees c.args.args.now) c.in-Some.n.num c.in-Some.m.num c.in-Ok.ratio c.give_number.result p q c.give_number.ensures.answer
