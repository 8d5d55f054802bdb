use Rattle.std.proofs.Common.{rules, ◌≡◌, ◌++◌, ◌∷◌, [], ◌+◌, false, true, not, drop, sym, ap, ◌∙◌, List, Some, filter_map}
use Rattle.std.proofs.lemmas.List.{drop_all}
use Rattle.std.specs.List.{list_any}
use Rattle.indexmap.specs.IndexSet.{insert_key}
use Rattle.wl_expr.specs.Same.{first_names}
use Rattle.wl_expr.specs.Stamped.{Stamped, plain}
use Rattle.wl_expr.specs.Words.{name_of, elements}
use Rattle.wl_state.specs.Played.{trees}
use Rattle.wl_semantics.specs.Turn.{up_name, up_names}
use Rattle.wl_state.proofs.Values.{list_of_plains}
use Rattle.wl_state.proofs.Shapings.{alike, next_of, up_named, met_already, met_newly, not_true, not_false, keys_stay, keys_grow}
use Rattle.wl_state.proofs.applying.up_symbols.Goals as goal

pub loop-arg-preserved-then-not-is_new : goal.loop-arg-preserved-then-not-is_new
loop-arg-preserved-then-not-is_new c =
    let es = c.in-Node.args.now in
    let i = c.loop-arg.arg-index in
    let x = c.arg-item.result in
    let e = c.in_ok-copy.field-0 in
    let ks = c.loop-arg.met.keys in
    let fs = c.loop-arg.symbols.items in
    let h : false ≡ not (list_any (alike e) ks) = search rules in
    let k : c.insert.new.self.keys ≡ insert_key alike ks e = search rules in
    let u = up_named (plain x) (plain e) (ap (λ (z : Stamped). Some (plain z)) c.in_ok-copy.ensures ∙ c.in-Some.ensures) in
    record {
      met = k ∙ keys_stay e ks h ∙ c.loop-arg.invariant.met;
      left = sym (met_already fs e (plain x) (trees (drop (i + 1) es)) u (ap (λ us. list_any (alike e) us) (sym c.loop-arg.invariant.met) ∙ not_false (list_any (alike e) ks) h))
          ∙ ap (λ (us : List Stamped). first_names (filter_map name_of (trees fs)) (filter_map up_name (trees us))) (sym (next_of es i x c.loop-arg-test.true c.arg-item.is))
          ∙ c.loop-arg.invariant.left;
    }

pub loop-arg-preserved : goal.loop-arg-preserved
loop-arg-preserved c =
    let es = c.in-Node.args.now in
    let i = c.loop-arg.arg-index in
    let x = c.arg-item.result in
    let e = c.in_ok-copy.field-0 in
    let ks = c.loop-arg.met.keys in
    let fs = c.loop-arg.symbols.items in
    let h : true ≡ not (list_any (alike e) ks) = search rules in
    let k : c.insert.new.self.keys ≡ insert_key alike ks e = search rules in
    let same : c.in_ok-copy-2.field-0 ≡ e = c.in_ok-copy-2.ensures ∙ sym c.in_ok-copy.ensures in
    let a : c.push.new.self.items ≡ fs ++ e ∷ [] = c.in_ok-push.ensures.items ∙ ap (λ z. fs ++ z ∷ []) same in
    let u = up_named (plain x) (plain e) (ap (λ (z : Stamped). Some (plain z)) c.in_ok-copy.ensures ∙ c.in-Some.ensures) in
    record {
      met = k ∙ keys_grow e ks h ∙ ap (λ (us : List Stamped). us ++ e ∷ []) c.loop-arg.invariant.met ∙ sym a;
      left = ap (λ (us : List Stamped). first_names (filter_map name_of (trees us)) (filter_map up_name (trees (drop (i + 1) es)))) a
          ∙ sym (met_newly fs e (plain x) (trees (drop (i + 1) es)) u (ap (λ us. list_any (alike e) us) (sym c.loop-arg.invariant.met) ∙ not_true (list_any (alike e) ks) h))
          ∙ ap (λ (us : List Stamped). first_names (filter_map name_of (trees fs)) (filter_map up_name (trees us))) (sym (next_of es i x c.loop-arg-test.true c.arg-item.is))
          ∙ c.loop-arg.invariant.left;
    }

pub returns : goal.returns
returns c =
    let es = c.in-Node.args.now in
    let fs = c.loop-arg.symbols.items in
    ap (λ (us : List Stamped). first_names (filter_map name_of (trees fs)) (filter_map up_name (trees us))) (sym (drop_all c.loop-arg.arg-index es c.loop-arg-test.false))
    ∙ c.loop-arg.invariant.left
    ∙ ap up_names (sym (list_of_plains es) ∙ ap elements c.in-Node.ensures.plain)
