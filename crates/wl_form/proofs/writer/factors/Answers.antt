use Rattle.std.proofs.Common.{rules, ◌≡◌, ◌<◌, ◌∷◌, length}
use Rattle.wl_expr.specs.Stamped.{plain}
use Rattle.wl_form.specs.Heads.{row_of}
use Rattle.wl_form.specs.declared.operator.Row.TheVariants as row
use Rattle.wl_form.proofs.Products.{is_product, short_added}
use Rattle.wl_form.proofs.writer.factors.Goals as goal

pub returns-in-Some : goal.returns-in-Some
returns-in-Some c =
    let r : row_of (plain c.args.head.now) ≡ row.Product = search rules in
    let e : c.args.args.now ≡ c.in-Some.first.now ∷ c.in-Some.rest.now = search rules in
    let l : 0 < length c.in-Some.rest.now = search rules in
    is_product (plain c.args.head.now) c.args.args.now c.in-Some.first.now c.in-Some.rest.now r e l

pub returns-in-None : goal.returns-in-None
returns-in-None c =
    let r : row_of (plain c.args.head.now) ≡ row.Product = search rules in
    let l : length c.args.args.now < 2 = search rules in
    short_added (plain c.args.head.now) c.args.args.now r l
