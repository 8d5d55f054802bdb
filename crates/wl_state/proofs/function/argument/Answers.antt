use Rattle.std.proofs.Common.{sym, ap, arith}
use Rattle.std.proofs.lemmas.List.{length-map}
use Rattle.wl_expr.specs.Stamped.{plain}
use Rattle.wl_state.specs.Played.{trees}
use Rattle.wl_semantics.specs.ScopeRows as rows
use Rattle.wl_state.proofs.SlotParts.{argument_at, argument_none}
use Rattle.wl_state.proofs.function.argument.Goals as goal

pub returns-then-n-eq0-clause-value : goal.returns-then-n-eq0-clause-value
returns-then-n-eq0-clause-value c = λ t. sym (ap (rows.slot (plain c.args.f.now) (trees c.args.args.now) t) c.if-n-eq0.true)

pub returns-then-n-args-clause-value : goal.returns-then-n-args-clause-value
returns-then-n-args-clause-value c = λ t. argument_none (plain c.args.f.now) t (trees c.args.args.now) c.args.n (omega (arith, length-map c.args.args.now plain))

pub returns-clause-value : goal.returns-clause-value
returns-clause-value c = λ t.
    argument_at (plain c.args.f.now) t c.args.args.now c.args.n _ c.index-args-n.result (omega arith) (omega arith) c.index-args-n.is
