use Rattle.std.proofs.Common.{rules, ◌≡◌, List, sym, subst}
use Rattle.std.specs.List.{All}
use Rattle.indexmap.specs.IndexMap.{insert_entry}
use Rattle.wl_expr.specs.Passed.{IsFrom}
use Rattle.wl_expr.specs.Stamped.{Stamped, plain}
use Rattle.wl_expr.specs.Tree.{symbol}
use Rattle.wl_shape.proofs.Holdings.{all_put, newly_put}
use Rattle.wl_shape.proofs.Sets.{alike}
use Rattle.wl_shape.proofs.filling.put_first.Goals as goal

pub returns-clause-value : goal.returns-clause-value
returns-clause-value c = λ x.
    let e : c.insert.new.self.entries ≡ insert_entry alike c.args.pairs.now.entries c.args.name.now c.args.value.now = search rules in
    newly_put plain c.args.pairs.now.entries c.insert.new.self.entries c.args.name.now c.args.value.now (symbol x) e (sym c.if-contains_key.ensures)

pub returns-clause-passed : goal.returns-clause-passed
returns-clause-passed c = λ ms f g.
    let e : c.insert.new.self.entries ≡ insert_entry alike c.args.pairs.now.entries c.args.name.now c.args.value.now = search rules in
    let P : Stamped × Stamped → Type 0 = λ p. IsFrom ms p.1 in
    subst (All P) (sym e) (all_put P c.args.pairs.now.entries c.args.name.now c.args.value.now (λ p q. g) g f)
