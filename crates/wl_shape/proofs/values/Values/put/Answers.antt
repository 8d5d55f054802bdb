use Rattle.std.proofs.Common.{rules, ◌≡◌, List, ap, ◌∙◌, ◌||◌, subst, sym}
use Rattle.indexmap.specs.IndexMap.{insert_entry}
use Rattle.wl_expr.specs.Passed.{IsFrom}
use Rattle.wl_expr.specs.Stamped.{Stamped}
use Rattle.wl_expr.specs.Words.{Name}
use Rattle.wl_shape.specs.Held.{Entry}
use Rattle.wl_shape.specs.Names.{has_name}
use Rattle.std.specs.List.{All}
use Rattle.wl_shape.proofs.Holdings.{all_put, ready_put, value_put}
use Rattle.wl_shape.specs.declared.values.Value.{Value}
use Rattle.wl_shape.proofs.Sets.{alike}
use Rattle.wl_shape.proofs.values.Values.put.Goals as goal

pub returns-clause-value : goal.returns-clause-value
returns-clause-value c = λ x.
    let e : c.insert.new.self.entries ≡ insert_entry alike c.args.self.now.map.entries c.args.symbol.now c.args.value = search rules in
    value_put c.args.self.now.map.entries c.insert.new.self.entries c.args.symbol.now c.args.value x e

pub returns-clause-ready : goal.returns-clause-ready
returns-clause-ready c = λ r h.
    let e : c.insert.new.self.entries ≡ insert_entry alike c.args.self.now.map.entries c.args.symbol.now c.args.value = search rules in
    ready_put c.args.self.now (record { map = c.insert.new.self; near = c.put_all.new.names }) c.args.symbol.now c.args.value c.put.new.names.keys e c.in_ok-put.ensures
    (λ x. c.in_ok-put_all.ensures x ∙ ap (λ ks. has_name c.put.new.names.keys x || has_name ks x) (c.as_slice.ensures.keys ∙ ap (λ (v : Value). v.names.keys) c.deref.ensures)) r h

pub returns-clause-passed : goal.returns-clause-passed
returns-clause-passed c = λ ms a h.
    let e : c.insert.new.self.entries ≡ insert_entry alike c.args.self.now.map.entries c.args.symbol.now c.args.value = search rules in
    subst (All (λ (p : Entry). IsFrom ms p.1.value.tree)) (sym e) (all_put (λ p. IsFrom ms p.1.value.tree) c.args.self.now.map.entries c.args.symbol.now c.args.value (λ p q. h) h a)
