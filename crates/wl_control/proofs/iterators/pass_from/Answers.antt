use Rattle.std.proofs.Common.{refl}
use Rattle.std.specs.Prelude.{codes}
use Rattle.wl_ports.proofs.AsciiNames.{ascii_is_name}
use Rattle.wl_control.proofs.Iterating.{table_body_asked}
use Rattle.wl_control.proofs.iterators.pass_from.Goals as goal

pub alone_or-requires : goal.alone_or-requires
alone_or-requires c = ascii_is_name (codes "Do") refl

pub alone_or-requires-in-Some : goal.alone_or-requires-in-Some
alone_or-requires-in-Some c = ascii_is_name (codes "Table") refl

pub returns-in_ok-body-in-Some-clause-answer : goal.returns-in_ok-body-in-Some-clause-answer
returns-in_ok-body-in-Some-clause-answer c =
    table_body_asked c.args.passes c.args.found c.in-Some.found c.as_slice-in-Some.result.now c.in_ok-body-in-Some.body c.args.value _
    c.in-Some.is c.as_slice-in-Some.ensures.value c.in_ok-body-in-Some.ensures.made.tree c.evaluate.ensures.answer
