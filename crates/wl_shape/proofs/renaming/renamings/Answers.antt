use Rattle.std.proofs.Common.{◌≡◌, ◌++◌, ◌+◌, ◌&&◌, List, Option, Some, None, true, false, drop, sym, ap, ◌∙◌, subst, arith}
use Rattle.wl_expr.specs.Same.{is_name_among}
use Rattle.wl_expr.specs.Stamped.{Stamped, plain}
use Rattle.wl_expr.specs.Tree.{Tree, symbol}
use Rattle.wl_expr.specs.Words.{Name}
use Rattle.wl_shape.specs.Answers.{trees}
use Rattle.wl_shape.specs.Fill.{names, new_name}
use Rattle.wl_shape.specs.Held.{Entry, IsReady, ValuesFrom, found, values_in}
use Rattle.wl_shape.specs.Names.{names_in}
use Rattle.wl_shape.specs.declared.values.Values.{Values}
use Rattle.wl_shape.proofs.Faults.{fault_passed_on}
use Rattle.wl_shape.proofs.Renamings.{last_renamed, next_renamed, next_unrenamed, none_renamed, renamings_on, taken_is, too_long}
use Rattle.wl_shape.proofs.renaming.renamings.Goals as goal
use Rattle.wl_shape.proofs.renaming.renamings.Goals.{then-has+in_ok-put_new_name, else-has}

pub returns-then-not-has_any-clause-value : goal.returns-then-not-has_any-clause-value
returns-then-not-has_any-clause-value c = λ x.
    let ks = c.args.arrived.now.keys in
    let taken = names_in (trees ks) ++ names (plain c.args.body.now) in
    ap (λ (es : List Entry). found es (symbol x)) c.new-renamed.ensures
    ∙ ap (λ b. elim b [ true ↦ Some (symbol (new_name taken x)) | false ↦ None ]) (sym (none_renamed ks c.args.parameters.now x (sym c.if-not-has_any.ensures)))

pub returns-in_err-put_new_name-clause-large : goal.returns-in_err-put_new_name-clause-large
returns-in_err-put_new_name-clause-large c = λ l.
    let w = fault_passed_on c.in_err-put_new_name.field-0.0 c.put_new_name.result c.from_residual-in_err-put_new_name.result c.in_err-put_new_name.was c.from_residual-in_err-put_new_name.ensures.1 l in
    let ks = c.args.arrived.now.keys in
    let ns = names (plain c.args.body.now) in
    let own = names_in (trees c.add_names.new.names.keys) in
    too_long c.args.parameters.now c.loop-parameter.parameter-index c.parameter-item.result ks (names_in (trees ks) ++ ns) own c.loop-parameter-test.true c.parameter-item.is (sym c.if-has.ensures)
    (taken_is ks c.as_slice.result.now c.in_ok-taken.taken.keys c.add_names.new.names.keys ns c.as_slice.ensures.keys c.in_ok-taken.ensures c.in_ok-add_names.ensures) (c.put_new_name.ensures.large w)

pub loop-parameter-preserved : goal.loop-parameter-preserved
loop-parameter-preserved c =
    let ks = c.args.arrived.now.keys in
    let ns = names (plain c.args.body.now) in
    let taken = names_in (trees ks) ++ ns in
    let own = names_in (trees c.add_names.new.names.keys) in
    let es = c.args.parameters.now in
    let i = c.loop-parameter.parameter-index in
    let e = c.parameter-item.result in
    let before = values_in c.loop-parameter.renamed in
    let rest = names_in (trees (drop (i + 1) es)) in
    elim c.if-has.branch [
      | then-has+in_ok-put_new_name w ↦ record {
        value = λ x. c.loop-parameter.invariant.value x
            ∙ next_renamed es i e ks taken own before (values_in w.put_new_name.new.renamed) c.loop-parameter-test.true c.parameter-item.is (sym w.if-has.ensures)
            (taken_is ks c.as_slice.result.now c.in_ok-taken.taken.keys c.add_names.new.names.keys ns c.as_slice.ensures.keys c.in_ok-taken.ensures c.in_ok-add_names.ensures) w.in_ok-put_new_name.ensures.value x
            ∙ ap (λ (v : Values). renamings_on (values_in v) (names_in (trees ks)) taken rest x) (sym w.renamed-is);
        ready = subst IsReady (sym w.renamed-is) (w.in_ok-put_new_name.ensures.ready c.loop-parameter.invariant.ready);
        passed = λ ms. subst (ValuesFrom ms) (sym w.renamed-is) (w.in_ok-put_new_name.ensures.passed ms (c.loop-parameter.invariant.passed ms));
      }
      | else-has w ↦ record {
        value = λ x. c.loop-parameter.invariant.value x ∙ next_unrenamed es i e ks taken before c.loop-parameter-test.true c.parameter-item.is (sym w.if-has.ensures) x
            ∙ ap (λ (v : Values). renamings_on (values_in v) (names_in (trees ks)) taken rest x) (sym w.renamed-is);
        ready = subst IsReady (sym w.renamed-is) c.loop-parameter.invariant.ready;
        passed = λ ms. subst (ValuesFrom ms) (sym w.renamed-is) (c.loop-parameter.invariant.passed ms);
      }
    ]

pub returns-clause-value : goal.returns-clause-value
returns-clause-value c = λ x.
    let ks = c.args.arrived.now.keys in
    sym (c.loop-parameter.invariant.value x ∙ last_renamed c.args.parameters.now c.loop-parameter.parameter-index (names_in (trees ks)) (names_in (trees ks) ++ names (plain c.args.body.now)) (values_in c.loop-parameter.renamed) x (omega (arith, c.loop-parameter-test.false)))
