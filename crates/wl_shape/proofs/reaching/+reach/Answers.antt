use Rattle.std.proofs.Common.{◌≡◌, ◌∙◌, ◌∷◌, ◌++◌, Some, None, Option, ap, arith, refl, subst, sym, List}
use Rattle.std.proofs.lemmas.Result.{on_ok_weaker}
use Rattle.std.specs.Prelude.{option_map}
use Rattle.wl_expr.specs.Stamped.{Stamped, plain, plains, from_list}
use Rattle.wl_expr.specs.Tree.{Tree, depth}
use Rattle.wl_expr.specs.Words.{Name}
use Rattle.wl_shape.specs.Answers.{trees}
use Rattle.wl_shape.specs.Fill.{reached, reached_all, reached_first, reached_formal, reached_formals, reached_scope}
use Rattle.wl_shape.specs.Locals.{symbols_in}
use Rattle.wl_shape.specs.Names.{has_name, HasMet, keys_or, names_in}
use Rattle.wl_shape.specs.Scopes.{parameters}
use Rattle.wl_shape.proofs.Meetings.{met_then, next_met, last_met, reached_in_formal, reached_in_node, reached_in_scope, scope_met, scope_of_two}
use Rattle.wl_shape.proofs.reaching.+reach.Goals as goal

pub reach-reach_scope-requires : goal.reach-reach_scope-requires
reach-reach_scope-requires t c =
    (omega (arith, ap depth c.in-Node.ensures.plain), scope_of_two (plain c.in-Node.head.now) c.in-Node.args.now (trees c.in-Some.names.items) (ap (option_map (λ v. trees v.items)) (sym c.in-Some.is) ∙ c.in_ok-names-in-Node.ensures))

pub reach-returns-in-Some : goal.reach-returns-in-Some
reach-returns-in-Some t c =
    let ts = c.args.targets.now.keys in
    let old = c.args.met.now.keys in
    let h = plain c.in-Node.head.now in
    let us = plains (from_list c.in-Node.args.now) in
    let ns = trees c.in-Some.names.items in
    let s = ap (option_map (λ v. trees v.items)) (sym c.in-Some.is) ∙ c.in_ok-names-in-Node.ensures in
    on_ok_weaker c.reach_scope.result
    (λ m. subst (λ xs. HasMet ts old c.reach_scope.new.met.keys xs) (reached_in_scope h us ns s ∙ ap reached c.in-Node.ensures.plain)
    (met_then ts old c.reach.new.met.keys c.reach_scope.new.met.keys (reached h) (reached_scope (names_in ns) us) c.in_ok-reach-in-Node.ensures
    (subst (λ (es : List Stamped). HasMet ts c.reach.new.met.keys c.reach_scope.new.met.keys (reached_scope (names_in (trees es)) us)) c.as_slice.ensures.value m)))
    c.reach_scope.ensures

pub reach-returns-in-None : goal.reach-returns-in-None
reach-returns-in-None t c =
    let ts = c.args.targets.now.keys in
    let old = c.args.met.now.keys in
    let h = plain c.in-Node.head.now in
    let us = plains (from_list c.in-Node.args.now) in
    let s = ap (option_map (λ v. trees v.items)) (sym c.in-None.is) ∙ c.in_ok-names-in-Node.ensures in
    on_ok_weaker c.reach_all.result
    (λ m. subst (λ xs. HasMet ts old c.reach_all.new.met.keys xs) (reached_in_node h us s ∙ ap reached c.in-Node.ensures.plain)
    (met_then ts old c.reach.new.met.keys c.reach_all.new.met.keys (reached h) (reached_all us) c.in_ok-reach-in-Node.ensures m))
    c.reach_all.ensures

pub reach_all-loop-arg-preserved : goal.reach_all-loop-arg-preserved
reach_all-loop-arg-preserved t c = λ x. c.loop-arg.invariant x
    ∙ next_met (λ es. reached_all (plains (from_list es))) reached (λ e es. refl) c.args.args.now c.loop-arg.arg-index c.arg-item.result c.args.targets.now.keys c.loop-arg.met.keys c.reach.new.met.keys c.loop-arg-test.true c.arg-item.is c.in_ok-reach.ensures x

pub reach_all-returns : goal.reach_all-returns
reach_all-returns t c = λ x.
    sym (c.loop-arg.invariant x ∙ last_met (λ es. reached_all (plains (from_list es))) refl c.args.args.now c.loop-arg.arg-index c.args.targets.now.keys c.loop-arg.met.keys x (omega (arith, c.loop-arg-test.false)))

pub reach_first-returns : goal.reach_first-returns
reach_first-returns t c =
    let ts = c.args.targets.now.keys in
    let old = c.args.met.now.keys in
    let h = plain c.in-Node.head.now in
    let us = plains (from_list c.in-Node.formals.now) in
    on_ok_weaker c.reach_formals.result
    (λ m. subst (λ e. HasMet ts old c.reach_formals.new.met.keys (reached_first e)) c.in-Node.ensures.plain
    (met_then ts old c.reach.new.met.keys c.reach_formals.new.met.keys (reached h) (reached_formals us) c.in_ok-reach.ensures m))
    c.reach_formals.ensures

pub reach_formals-loop-formal-preserved : goal.reach_formals-loop-formal-preserved
reach_formals-loop-formal-preserved t c = λ x. c.loop-formal.invariant x
    ∙ next_met (λ es. reached_formals (plains (from_list es))) reached_formal (λ e es. refl) c.args.formals.now c.loop-formal.formal-index c.formal-item.result c.args.targets.now.keys c.loop-formal.met.keys c.reach_formal.new.met.keys c.loop-formal-test.true c.formal-item.is c.in_ok-reach_formal.ensures x

pub reach_formals-returns : goal.reach_formals-returns
reach_formals-returns t c = λ x.
    sym (c.loop-formal.invariant x ∙ last_met (λ es. reached_formals (plains (from_list es))) refl c.args.formals.now c.loop-formal.formal-index c.args.targets.now.keys c.loop-formal.met.keys x (omega (arith, c.loop-formal-test.false)))

pub reach_formal-returns-in_ok-reach-in-Some : goal.reach_formal-returns-in_ok-reach-in-Some
reach_formal-returns-in_ok-reach-in-Some t c =
    let ts = c.args.targets.now.keys in
    let old = c.args.met.now.keys in
    let h = plain c.in-Node.head.now in
    let us = plains (from_list c.in-Node.parts.now) in
    let v = plain c.in-Some.value.now in
    on_ok_weaker c.reach-in-Some.result
    (λ m. subst (λ xs. HasMet ts old c.reach-in-Some.new.met.keys xs) (reached_in_formal h us (plain c.in-Some.field-0-0.now) v c.in-Some.ensures ∙ ap reached_formal c.in-Node.ensures.plain)
    (met_then ts old c.reach.new.met.keys c.reach-in-Some.new.met.keys (reached h) (reached v) c.in_ok-reach-in-Some.ensures m))
    c.reach-in-Some.ensures

pub reach_scope-returns-in-Some : goal.reach_scope-returns-in-Some
reach_scope-returns-in-Some t c =
    let ts = c.args.targets.now.keys in
    let os = c.in-Some.others.keys in
    let a = c.index-args-0.result in
    let b = c.index-args-1.result in
    on_ok_weaker c.reach.result
    (λ m. scope_met ts os c.args.names.now c.args.met.now.keys c.reach_first.new.met.keys c.reach.new.met.keys c.args.args.now a b c.requires c.index-args-0.is c.index-args-1.is
    (λ x. ap (λ o. has_name (keys_or o ts) x) (sym c.in-Some.is) ∙ c.in_ok-others.ensures x) c.in_ok-reach_first.ensures m)
    c.reach.ensures

pub reach_scope-returns-in-None : goal.reach_scope-returns-in-None
reach_scope-returns-in-None t c =
    let ts = c.args.targets.now.keys in
    let a = c.index-args-0.result in
    let b = c.index-args-1-in-None.result in
    on_ok_weaker c.reach-in-None.result
    (λ m. scope_met ts ts c.args.names.now c.args.met.now.keys c.reach_first.new.met.keys c.reach-in-None.new.met.keys c.args.args.now a b c.requires c.index-args-0.is c.index-args-1-in-None.is
    (λ x. ap (λ o. has_name (keys_or o ts) x) (sym c.in-None.is) ∙ c.in_ok-others.ensures x) c.in_ok-reach_first.ensures m)
    c.reach-in-None.ensures
