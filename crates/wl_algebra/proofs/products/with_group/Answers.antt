use Rattle.std.proofs.Common.{rules, ◌≡◌, List, Option, sym, ap, ◌∙◌, subst}
use Rattle.std.specs.Map.{lookup}
use Rattle.indexmap.specs.IndexMap.{insert_entry}
use Rattle.wl_algebra.specs.Alike.{alike}
use Rattle.wl_algebra.specs.ProductsInside.{Entry, EntriesFrom, Joins, entry_groups}
use Rattle.wl_algebra.specs.declared.products.Powers.{Powers}
use Rattle.wl_algebra.proofs.Groups.{group_joins, powers_from, powers_put, put_twice}
use Rattle.wl_algebra.proofs.products.with_group.Goals as goal

pub returns-clause-value : goal.returns-clause-value
returns-clause-value c =
    let es = c.args.groups.entries in
    let k = c.args.factor.base in
    let x = c.args.factor.element in
    let n = c.args.factor.exponent in
    let w = c.in_ok-powers.powers in
    let place : Powers = record { element = c.in_ok-copy.field-0; exponents = c.new.result } in
    let f : c.insert.new.self.entries ≡ insert_entry alike es k place = search rules in
    let s : c.insert-2.new.self.entries ≡ insert_entry alike c.insert.new.self.entries k w = search rules in
    let put = s ∙ ap (λ (gs : List Entry). insert_entry alike gs k w) f ∙ put_twice es k place w in
    let o : c.in_ok-before.before ≡ lookup (alike k) es = search rules in
    let j = subst (λ (g : Option Powers). Joins g x n w) o c.in_ok-powers.ensures.value in
    ap entry_groups put ∙ sym (group_joins es k x n w j)

pub returns-clause-passed : goal.returns-clause-passed
returns-clause-passed c = λ ms h g.
    let es = c.args.groups.entries in
    let k = c.args.factor.base in
    let w = c.in_ok-powers.powers in
    let place : Powers = record { element = c.in_ok-copy.field-0; exponents = c.new.result } in
    let f : c.insert.new.self.entries ≡ insert_entry alike es k place = search rules in
    let s : c.insert-2.new.self.entries ≡ insert_entry alike c.insert.new.self.entries k w = search rules in
    let put = s ∙ ap (λ (gs : List Entry). insert_entry alike gs k w) f ∙ put_twice es k place w in
    let o : c.in_ok-before.before ≡ lookup (alike k) es = search rules in
    let v = powers_from ms c.in_ok-before.before k es w h o (λ p. c.in_ok-powers.ensures.first ms p g.element g.exponent) (λ b p q. c.in_ok-powers.ensures.passed ms b p q g.exponent) in
    subst (λ (fs : List Entry). EntriesFrom ms fs) (sym put) (powers_put ms k w es h g.base v)
