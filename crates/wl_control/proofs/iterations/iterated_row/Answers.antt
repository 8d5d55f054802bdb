use Rattle.std.proofs.Common.{ap, sym, ◌∙◌}
use Rattle.std.specs.Prelude.{option_map}
use Rattle.wl_control.proofs.Elements.{front_from, cons_from, none_from}
use Rattle.wl_control.proofs.Iterated.{iterates, iteration_from}
use Rattle.wl_control.specs.Places.{plain_iterator}
use Rattle.wl_control.proofs.iterations.iterated_row.Goals as goal

pub returns-clause-row : goal.returns-clause-row
returns-clause-row c =
    iterates c.args.found c.args.args.now c.pop_front.new.self.items c.pop_front-2.new.self.items c.from.result.items c.new.result.items c.in-Some-2.field-0.bounds.items
    c.in-Some.first c.in-Some-pop_front.second c.in-Some-2.field-0.named
    (sym c.in_ok-args.ensures ∙ c.in-Some.ensures.items) c.in-Some-pop_front.ensures.items
    (ap (option_map plain_iterator) (sym c.in-Some-2.is) ∙ c.in_ok-named.ensures.iterator)
    (c.from.ensures.0 ∙ c.in_ok-push_front.ensures.items) c.new.ensures.items

pub returns-clause-passed : goal.returns-clause-passed
returns-clause-passed c ms h o =
    let one = front_from ms _ _ _ (sym c.in_ok-args.ensures ∙ c.in-Some.ensures.items) h in
    let two = front_from ms _ _ _ c.in-Some-pop_front.ensures.items one.1 in (
      cons_from ms _ _ _ (c.from.ensures.0 ∙ c.in_ok-push_front.ensures.items) one.0 two.1,
      o,
      none_from ms _ c.new.ensures.items,
      iteration_from ms c.in_ok-named.field-0 c.in-Some-2.field-0 c.in-Some-pop_front.second c.in-Some-2.is c.in_ok-named.ensures.passed two.0,
    )
