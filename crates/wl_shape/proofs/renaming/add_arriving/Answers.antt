use Rattle.std.proofs.Common.{◌≡◌, ◌||◌, sym, ap, ◌∙◌}
use Rattle.std.proofs.lemmas.Result.{on_ok_weaker}
use Rattle.wl_expr.specs.Stamped.{plain}
use Rattle.wl_shape.specs.Held.{found}
use Rattle.wl_shape.specs.Names.{has_name}
use Rattle.wl_shape.specs.declared.values.Value.{Value}
use Rattle.wl_shape.proofs.Renamings.{arriving_none, arriving_one}
use Rattle.wl_shape.proofs.Sets.{no_more_names}
use Rattle.wl_shape.proofs.renaming.add_arriving.Goals as goal

pub returns-in-Some : goal.returns-in-Some
returns-in-Some c =
    let es = c.args.values.now.map.entries in
    let v = c.in-Some.value.now.value in
    let keys = c.as_slice.ensures.keys ∙ ap (λ (w : Value). w.names.keys) c.deref.ensures in
    on_ok_weaker c.put_all.result
    (λ m x. m x ∙ ap (λ ks. has_name c.args.arrived.now.keys x || has_name ks x) keys
    ∙ ap (λ b. has_name c.args.arrived.now.keys x || b) (c.in-Some.ensures.known c.requires x ∙ arriving_one (found es) (plain c.args.symbol.now) (plain v.tree) c.in-Symbol.field-0.now x c.in-Symbol.ensures.plain c.in-Some.ensures.tree))
    c.put_all.ensures

pub returns-in-None : goal.returns-in-None
returns-in-None c = λ x. sym (no_more_names x c.args.arrived.now.keys _ (arriving_none (found c.args.values.now.map.entries) (plain c.args.symbol.now) c.in-Symbol.field-0.now c.in-Symbol.ensures.plain c.in-None.ensures.tree))
