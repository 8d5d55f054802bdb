use Rattle.std.proofs.Common.{◌≡◌, Some, List, sym, ap, ◌∙◌, subst}
use Rattle.std.proofs.lemmas.Map.Entries.{All-lookup}
use Rattle.std.specs.Prelude.{IfSome, option_map}
use Rattle.wl_expr.specs.Passed.{IsFrom}
use Rattle.wl_expr.specs.Same.{same}
use Rattle.wl_expr.specs.Stamped.{Stamped, plain}
use Rattle.wl_expr.specs.Tree.{symbol}
use Rattle.wl_shape.specs.Given.{GivenFrom, given_tree, paired_with}
use Rattle.wl_shape.specs.declared.filling.Given.TheVariants.{Trees}
use Rattle.wl_shape.proofs.filling.Given.tree.Goals as goal

pub returns-in_ok-copy-in-Some-clause-tree : goal.returns-in_ok-copy-in-Some-clause-tree
returns-in_ok-copy-in-Some-clause-tree c =
    let e = plain c.args.e.now in
    let m = c.in-Trees.trees in
    let s : symbol c.in-Symbol.name.now ≡ e = c.in-Symbol.ensures.plain in
    ap (λ x. Some (plain x)) c.in_ok-copy-in-Some.ensures ∙ ap (option_map plain) c.in-Some.ensures.value ∙ ap (paired_with m.now.entries) (sym s)
    ∙ ap (given_tree (Trees m)) s ∙ ap (λ g. given_tree g e) (sym c.in-Trees.is)

pub returns-in_ok-copy-in-Some-clause-passed : goal.returns-in_ok-copy-in-Some-clause-passed
returns-in_ok-copy-in-Some-clause-passed c = λ ms f.
    let e = plain c.args.e.now in
    let h = All-lookup (IsFrom ms) (λ k. same e (plain k)) c.in-Trees.trees.now.entries (subst (GivenFrom ms) c.in-Trees.is f) in
    subst (IsFrom ms) (sym c.in_ok-copy-in-Some.ensures) (subst (λ o. IfSome o (IsFrom ms)) (sym c.in-Some.ensures.value) h)
