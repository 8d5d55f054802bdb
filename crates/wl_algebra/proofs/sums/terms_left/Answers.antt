use Rattle.std.proofs.Common.{◌∷◌, [], ◌++◌, ◌+◌, List, drop, append_assoc, sym, ap, ◌∙◌, subst}
use Rattle.wl_expr.specs.Tree.{Tree}
use Rattle.wl_algebra.specs.Answers.{trees}
use Rattle.wl_algebra.specs.Sums.{terms_left}
use Rattle.wl_algebra.specs.SumsInside.{Entry, EntryIsFrom, entry_term, entry_terms}
use Rattle.wl_algebra.proofs.Faults.{fault_passed_on}
use Rattle.wl_algebra.proofs.Leftovers.{entry_at, first_left, large_term}
use Rattle.wl_algebra.proofs.Splits.{next_of}
use Rattle.wl_algebra.proofs.sums.terms_left.Goals as goal

pub returns-in_err-left-clause-large : goal.returns-in_err-left-clause-large
returns-in_err-left-clause-large c = λ l.
    let es = c.args.terms.now.entries in
    let e : Entry = (c.in-Some.rest.now, c.in-Some.coefficient.now) in
    let place = entry_at es c.loop-at.at e c.in-Some.ensures.entry in
    let w = fault_passed_on c.in_err-left.field-0.0 c.with_left.result c.from_residual.result c.in_err-left.was c.from_residual.ensures.1 l in
    large_term es c.loop-at.at e place.0 place.1 (c.with_left.ensures.stands w) (c.with_left.ensures.large w)

pub loop-at-preserved : goal.loop-at-preserved
loop-at-preserved c =
    let es = c.args.terms.now.entries in
    let e : Entry = (c.in-Some.rest.now, c.in-Some.coefficient.now) in
    let place = entry_at es c.loop-at.at e c.in-Some.ensures.entry in
    let behind = drop (c.loop-at.at + 1) es in
    let before = trees c.loop-at.left.items in
    record {
      value = ap (λ (us : List Tree). us ++ terms_left (entry_terms behind)) c.in_ok-left.ensures.value
          ∙ append_assoc before (terms_left (entry_term e ∷ [])) (terms_left (entry_terms behind))
          ∙ ap (λ (us : List Tree). before ++ us) (sym (first_left e behind))
          ∙ ap (λ (fs : List Entry). before ++ terms_left (entry_terms fs)) (sym (next_of es c.loop-at.at e place.0 place.1))
          ∙ c.loop-at.invariant.value;
      passed = λ ms h. c.in_ok-left.ensures.passed ms (c.loop-at.invariant.passed ms h) (subst (EntryIsFrom ms) (sym place.1) (h c.loop-at.at e place.0));
    }
