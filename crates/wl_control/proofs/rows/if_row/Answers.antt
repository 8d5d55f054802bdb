use Rattle.std.proofs.Common.{refl, sym, ◌∙◌}
use Rattle.std.specs.Prelude.{codes}
use Rattle.wl_ports.proofs.AsciiNames.{ascii_is_name}
use Rattle.wl_control.proofs.Elements.{front_from}
use Rattle.wl_control.proofs.rows.if_row.Goals as goal

pub symbol-requires : goal.symbol-requires
symbol-requires c = ascii_is_name (codes "Null") refl

pub returns-in-None-clause-passed : goal.returns-in-None-clause-passed
returns-in-None-clause-passed c ms h =
    let one = front_from ms _ _ _ (sym c.in_ok-args.ensures ∙ c.in-Some.ensures.items) h in
    let two = front_from ms _ _ _ c.in-Some-pop_front.ensures.items one.1 in
    let three = front_from ms _ _ _ c.in-Some-pop_front-2.ensures.items two.1 in
    let four = front_from ms _ _ _ c.in-Some-pop_front-3.ensures.items three.1 in
    c.by_truth-in-None.ensures.passed ms two.0 three.0 four.0
