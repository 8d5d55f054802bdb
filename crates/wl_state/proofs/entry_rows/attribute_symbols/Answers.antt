use Rattle.std.proofs.Common.{◌++◌, Bool, List, [], codes, ap₂, ◌∙◌}
use Rattle.wl_expr.specs.Stamped.{Stamped}
use Rattle.wl_rules.specs.Attributes.{attribute_names}
use Rattle.wl_state.proofs.Symbols.{one_where, symbols_put-is}
use Rattle.wl_state.proofs.entry_rows.attribute_symbols.Goals as goal

pub returns : goal.returns
returns c =
    let e1 = c.in_ok-push_where.ensures ∙ ap₂ (λ (v : List Stamped) (b : Bool). v ++ one_where b (codes "Flat")) c.new-all.ensures.items c.has.ensures in
    let e2 = c.in_ok-push_where-2.ensures ∙ ap₂ (λ (v : List Stamped) (b : Bool). v ++ one_where b (codes "HoldAll")) e1 c.has-2.ensures in
    let e3 = c.in_ok-push_where-3.ensures ∙ ap₂ (λ (v : List Stamped) (b : Bool). v ++ one_where b (codes "HoldAllComplete")) e2 c.has-3.ensures in
    let e4 = c.in_ok-push_where-4.ensures ∙ ap₂ (λ (v : List Stamped) (b : Bool). v ++ one_where b (codes "HoldFirst")) e3 c.has-4.ensures in
    let e5 = c.in_ok-push_where-5.ensures ∙ ap₂ (λ (v : List Stamped) (b : Bool). v ++ one_where b (codes "HoldRest")) e4 c.has-5.ensures in
    let e6 = c.in_ok-push_where-6.ensures ∙ ap₂ (λ (v : List Stamped) (b : Bool). v ++ one_where b (codes "Listable")) e5 c.has-6.ensures in
    let e7 = c.in_ok-push_where-7.ensures ∙ ap₂ (λ (v : List Stamped) (b : Bool). v ++ one_where b (codes "NumericFunction")) e6 c.has-7.ensures in
    let e8 = c.in_ok-push_where-8.ensures ∙ ap₂ (λ (v : List Stamped) (b : Bool). v ++ one_where b (codes "OneIdentity")) e7 c.has-8.ensures in
    let e9 = c.in_ok-push_where-9.ensures ∙ ap₂ (λ (v : List Stamped) (b : Bool). v ++ one_where b (codes "Orderless")) e8 c.has-9.ensures in
    let e10 = c.in_ok-push_where-10.ensures ∙ ap₂ (λ (v : List Stamped) (b : Bool). v ++ one_where b (codes "Protected")) e9 c.has-10.ensures in
    let e11 = c.in_ok-push_where-11.ensures ∙ ap₂ (λ (v : List Stamped) (b : Bool). v ++ one_where b (codes "SequenceHold")) e10 c.has-11.ensures in
    e11 ∙ symbols_put-is c.args.set [] attribute_names
