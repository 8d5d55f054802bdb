use Rattle.std.proofs.Common.{rules, ◌≡◌, ◌∷◌, [], ◌++◌, ◌+◌, List, drop, append_assoc, sym, ap, ◌∙◌, subst}
use Rattle.std.proofs.lemmas.List.Elements.{All-push}
use Rattle.wl_expr.specs.Passed.{IsFrom}
use Rattle.wl_expr.specs.Stamped.{Stamped, plain}
use Rattle.wl_expr.specs.Tree.{Tree}
use Rattle.wl_algebra.specs.Answers.{AllFrom, trees}
use Rattle.wl_algebra.specs.Products.{groups_left}
use Rattle.wl_algebra.specs.ProductsInside.{Entry, EntryIsFrom, entry_groups}
use Rattle.wl_algebra.proofs.Factors.{trees_push}
use Rattle.wl_algebra.proofs.Faults.{fault_passed_on}
use Rattle.wl_algebra.proofs.Groups.{group_at, large_left}
use Rattle.wl_algebra.proofs.Splits.{next_of}
use Rattle.wl_algebra.proofs.products.groups_left.Goals as goal

pub returns-in_err-group_left-clause-large : goal.returns-in_err-group_left-clause-large
returns-in_err-group_left-clause-large c = λ l.
    let es = c.args.groups.now.entries in
    let e : Entry = (c.in-Some.base.now, c.in-Some.powers.now) in
    let place = group_at es c.loop-at.at e c.in-Some.ensures.entry in
    let w = fault_passed_on c.in_err-group_left.field-0.0 c.group_left.result c.from_residual.result c.in_err-group_left.was c.from_residual.ensures.1 l in
    large_left es c.loop-at.at e place.0 place.1 (c.group_left.ensures.made.large w)

pub loop-at-preserved : goal.loop-at-preserved
loop-at-preserved c =
    let es = c.args.groups.now.entries in
    let e : Entry = (c.in-Some.base.now, c.in-Some.powers.now) in
    let place = group_at es c.loop-at.at e c.in-Some.ensures.entry in
    let behind = groups_left (entry_groups (drop (c.loop-at.at + 1) es)) in
    let before = c.loop-at.left.items in
    let v = c.in_ok-group_left.field-0 in
    let q : c.push.new.self.items ≡ before ++ v ∷ [] = search rules in
    record {
      value = ap (λ (us : List Stamped). trees us ++ behind) q
          ∙ ap (λ (us : List Tree). us ++ behind) (trees_push before v)
          ∙ append_assoc (trees before) (plain v ∷ []) behind
          ∙ ap (λ (t : Tree). trees before ++ t ∷ behind) c.in_ok-group_left.ensures.made.tree
          ∙ ap (λ (fs : List Entry). trees before ++ groups_left (entry_groups fs)) (sym (next_of es c.loop-at.at e place.0 place.1))
          ∙ c.loop-at.invariant.value;
      passed = λ ms h.
          let from = subst (EntryIsFrom ms) (sym place.1) (h c.loop-at.at e place.0) in
          subst (AllFrom ms) (sym q) (All-push (IsFrom ms) before v (c.loop-at.invariant.passed ms h) (c.in_ok-group_left.ensures.passed ms from.0 from.1));
    }
