use Rattle.std.proofs.Common.{◌∷◌, ap, ◌∙◌}
use Rattle.std.specs.Prelude.{None}
use Rattle.wl_expr.specs.Stamped.{symbol}
use Rattle.wl_expr.specs.Tree as full
use Rattle.wl_syntax.specs.Built.{each}
use Rattle.wl_syntax.specs.Table.{infix_name}
use Rattle.wl_syntax.proofs.Building.{separated_is, first_rest}
use Rattle.wl_syntax.proofs.lower.separated.Goals as goal

pub returns-in_ok-separated_after-in-Some : goal.returns-in_ok-separated_after-in-Some
returns-in_ok-separated_after-in-Some c es e =
    separated_is (full.symbol (infix_name c.args.comparison)) _ c.in-Some.first.now c.in-Some.rest.now _ es
    (c.in_ok-separated_after-in-Some.ensures ∙ ap (λ x. x ∷ each (symbol None (infix_name c.args.comparison)) c.in-Some.rest.now) c.in_ok-copy-in-Some.ensures)
    (first_rest _ _ _ c.in-Some.ensures.cases) e
