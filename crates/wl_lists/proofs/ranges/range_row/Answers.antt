use Rattle.std.proofs.Common.{rules, ◌≡◌, IfSome, None, Some, option_map, refl, ap, ◌∙◌, sym, subst}
use Rattle.std.specs.Prelude.{codes}
use Rattle.wl_exact.specs.Span.{first}
use Rattle.wl_expr.specs.Spans.{span_of}
use Rattle.wl_lists.specs.Answers.{AllFrom, IsAnswer, trees}
use Rattle.wl_lists.specs.Ranges.{too_many, values}
use Rattle.wl_lists.specs.RangesInside.{plain_bounds}
use Rattle.wl_ports.proofs.AsciiNames.{ascii_is_name}
use Rattle.wl_lists.proofs.Spanning.{overflow_ranged}
use Rattle.wl_lists.proofs.ranges.range_row.Goals as goal

pub give_form-requires : goal.give_form-requires
give_form-requires c = ascii_is_name (codes "List") refl

pub returns-in-Some-2-clause-passed : goal.returns-in-Some-2-clause-passed
returns-in-Some-2-clause-passed c = λ ms f.
    let p : AllFrom ms c.in-Some-2.all.items = subst (λ r. IfSome r (λ v. AllFrom ms v.items)) c.in-Some-2.is (c.in_ok-all.ensures.passed ms) in
    let a : c.as_slice.result.now ≡ c.in-Some-2.all.items = search rules in
    c.give_form.ensures.passed ms (subst (AllFrom ms) (sym a) p)

pub returns-in-None-clause-answer : goal.returns-in-None-clause-answer
returns-in-None-clause-answer c =
    let s = plain_bounds c.in-Some.b in
    let p : span_of (trees c.args.args.now) ≡ Some s = sym c.bounds_of.ensures ∙ ap (option_map plain_bounds) c.in-Some.is in
    let q : values too_many s (first s) ≡ None = sym c.in_ok-all.ensures.value ∙ ap (option_map (λ v. trees v.items)) c.in-None.is in
    subst (λ a. IsAnswer a c.overflow.result) (sym (overflow_ranged (trees c.args.args.now) s p q)) c.overflow.ensures.answer

pub returns-in-None-clause-passed : goal.returns-in-None-clause-passed
returns-in-None-clause-passed c = λ ms f. c.overflow.ensures.passed ms
