use Rattle.std.proofs.Common.{Err, false, sym, ap, ◌∙◌, subst}
use Rattle.std.proofs.lemmas.List.Elements.{All-head}
use Rattle.std.proofs.lemmas.Result.{err_from_is_err_and}
use Rattle.std.specs.List.{All}
use Rattle.wl_expr.specs.Stamped.{plain, plains, from_list}
use Rattle.wl_expr.specs.Tree.{Tree, Trees, more, node}
use Rattle.wl_state.specs.Honest.{HonestIn}
use Rattle.wl_semantics.specs.LeftSides.{with_core}
use Rattle.wl_state.specs.Played.{Makes}
use Rattle.wl_state.proofs.Preparing.{around_read, around_fault}
use Rattle.wl_state.proofs.Values.{args_honest, head_honest, plains_trees}
use Rattle.wl_state.proofs.left_sides.+within.Goals as goal

pub returns-then-not-is_around-clause-made : goal.returns-then-not-is_around-clause-made
returns-then-not-is_around-clause-made t c =
    ap plain c.in_ok-copy-3.ensures
    ∙ sym (around_read (plain c.args.left.now) (plain c.in-Node.head.now) c.in-Some.inner.now c.in-Node.args.now c.in-Some.field-0-1.now false (plain c.args.core.now) c.in-Some.ensures.cases.0 c.in-Node.ensures.plain (sym c.if-not-is_around.true ∙ c.is_around.ensures))

pub returns-in_err-within-clause-made : goal.returns-in_err-within-clause-made
returns-in_err-within-clause-made t c =
    let h = plain c.in-Node.head.now in
    let core = plain c.args.core.now in
    let u = with_core (plain c.in-Some.inner.now) core in
    let us = plains (from_list c.in-Some.field-0-1.now) in
    let same = around_read (plain c.args.left.now) h c.in-Some.inner.now c.in-Node.args.now c.in-Some.field-0-1.now _ core c.in-Some.ensures.cases.0 c.in-Node.ensures.plain (sym c.if-not-is_around.false ∙ c.is_around.ensures) in
    let q = err_from_is_err_and c.from_residual-in_err-within.result c.from_residual-in_err-within.ensures.1 in
    subst (λ (z : Tree). Makes z c.from_residual-in_err-within.result) (sym same) (subst (λ r. Makes (node h (more u us)) r) (sym (q.1 ∙ ap Err q.2)) (around_fault h u us _ c.in_err-within.ensures.made))

pub returns-clause-made : goal.returns-clause-made
returns-clause-made t c =
    let h = plain c.in-Node.head.now in
    let core = plain c.args.core.now in
    let es = c.in-Some.field-0-1.now in
    let same = around_read (plain c.args.left.now) h c.in-Some.inner.now c.in-Node.args.now es _ core c.in-Some.ensures.cases.0 c.in-Node.ensures.plain (sym c.if-not-is_around.false ∙ c.is_around.ensures) in
    let made = subst (λ (z : Trees). Makes (node h (more (plain c.in_ok-within.within) z)) c.with_first.result) (sym (plains_trees es)) (c.with_first.ensures.made c.in-Some.inner.now es c.in-Some.ensures.cases.0) in
    subst (λ (z : Tree). Makes z c.with_first.result) (sym same) (subst (λ (z : Tree). Makes (node h (more z (plains (from_list es)))) c.with_first.result) c.in_ok-within.ensures.made made)

pub returns-clause-honest : goal.returns-clause-honest
returns-clause-honest t c a x y =
    let all = args_honest a _ _ c.in-Node.args.now _ c.in-Node.ensures.all x in
    let inner = All-head (HonestIn a) c.in-Some.inner.now c.in-Some.field-0-1.now (subst (All (HonestIn a)) c.in-Some.ensures.cases.0 all) in
    c.with_first.ensures.honest a (head_honest a _ _ c.in-Node.args.now _ c.in-Node.ensures.all x) (c.in_ok-within.ensures.honest a inner y) all
