use Rattle.std.proofs.Common.{◌≡◌, Option, sym, ◌∙◌}
use Rattle.std.proofs.lemmas.Result.{IfOk-weaker}
use Rattle.std.specs.Prelude.{option_map}
use Rattle.wl_expr.specs.Stamped.{plain}
use Rattle.wl_control.proofs.Iterated.{list_iterator}
use Rattle.wl_control.specs.Iterators.{iterator, iterator_of}
use Rattle.wl_control.specs.Places.{plain_iterator, trees}
use Rattle.wl_control.specs.declared.place.Iteration.{Iteration}
use Rattle.wl_control.proofs.iterations.iterator.Goals as goal

pub returns-then-is_symbol-clause-iterator : goal.returns-then-is_symbol-clause-iterator
returns-then-is_symbol-clause-iterator c =
    IfOk-weaker c.iterator_of.result
    (λ (i : Option Iteration). option_map plain_iterator i ≡ iterator_of (trees c.in-Node.parts.now))
    (λ (i : Option Iteration). option_map plain_iterator i ≡ iterator (plain c.args.e.now))
    (λ i q. q ∙ list_iterator c.in-Node.head.now c.in-Node.parts.now (plain c.args.e.now) c.in-Node.ensures.plain (sym c.is_symbol.ensures ∙ c.if-is_symbol.true))
    c.iterator_of.ensures.iterator
