use Rattle.std.proofs.Common.{rules, ◌≡◌, ◌+◌, List, drop, sym, ap, ◌∙◌, subst, arith}
use Rattle.wl_expr.specs.Passed.{IsFrom}
use Rattle.wl_expr.specs.Stamped.{Stamped, plain}
use Rattle.wl_expr.specs.Words.{Name}
use Rattle.wl_shape.specs.Entering.{put_values}
use Rattle.wl_shape.specs.Held.{IsKnown, IsReady, ValuesFrom, found, put_value, value_tree, values_in}
use Rattle.wl_shape.specs.declared.values.Value.{Value}
use Rattle.wl_shape.specs.declared.values.Values.{Values}
use Rattle.wl_shape.proofs.Holdings.{Held}
use Rattle.wl_shape.proofs.Renamings.{last_put, next_put, next_unput}
use Rattle.wl_shape.proofs.renaming.put_values.Goals as goal
use Rattle.wl_shape.proofs.renaming.put_values.Goals.{in-Some+in_ok-clone+in_ok-put, in_default}

pub loop-symbol-preserved : goal.loop-symbol-preserved
loop-symbol-preserved c =
    let from = c.args.from.now in
    let es = c.args.symbols.now in
    let i = c.loop-symbol.symbol-index in
    let e = c.symbol-item.result in
    elim c.match-get.branch [
      | in-Some+in_ok-clone+in_ok-put w ↦
          let v : Held = w.in-Some.value.now in
          let same : w.in_ok-clone.field-0.value ≡ v.value = search rules in
          record {
            value = λ x. c.loop-symbol.invariant.value x
                ∙ next_put (found from.map.entries) es i e (value_tree v) (values_in c.loop-symbol.into) (values_in w.put.new.self) c.loop-symbol-test.true c.symbol-item.is w.in-Some.ensures.tree
                (λ y. w.in_ok-put.ensures.value y ∙ ap (λ (u : Value). put_value (values_in c.loop-symbol.into) (plain e) (plain u.tree) y) same) x
                ∙ ap (λ (s : Values). put_values (drop (i + 1) es) (values_in from) (values_in s) x) (sym w.into-is);
            ready = λ r q. subst IsReady (sym w.into-is) (w.in_ok-put.ensures.ready (c.loop-symbol.invariant.ready r q) (subst IsKnown (sym same) (w.in-Some.ensures.known r)));
            passed = λ ms f g. subst (ValuesFrom ms) (sym w.into-is) (w.in_ok-put.ensures.passed ms (c.loop-symbol.invariant.passed ms f g) (subst (λ (u : Value). IsFrom ms u.tree) (sym same) (w.in-Some.ensures.passed ms f)));
          }
      | in_default w ↦ record {
        value = λ x. c.loop-symbol.invariant.value x
            ∙ next_unput (found from.map.entries) es i e (values_in c.loop-symbol.into) c.loop-symbol-test.true c.symbol-item.is w.in_default.ensures.tree x
            ∙ ap (λ (s : Values). put_values (drop (i + 1) es) (values_in from) (values_in s) x) (sym w.into-is);
        ready = λ r q. subst IsReady (sym w.into-is) (c.loop-symbol.invariant.ready r q);
        passed = λ ms f g. subst (ValuesFrom ms) (sym w.into-is) (c.loop-symbol.invariant.passed ms f g);
      }
    ]

pub returns-clause-value : goal.returns-clause-value
returns-clause-value c = λ x. sym (c.loop-symbol.invariant.value x ∙ last_put (values_in c.args.from.now) c.args.symbols.now c.loop-symbol.symbol-index (values_in c.loop-symbol.into) x (omega (arith, c.loop-symbol-test.false)))
