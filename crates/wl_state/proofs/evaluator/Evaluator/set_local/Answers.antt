use Rattle.std.proofs.Common.{◌≡◌, false, sym, subst}
use Rattle.wl_expr.specs.Stamped.{plain}
use Rattle.wl_expr.specs.Tree.{Tree}
use Rattle.wl_semantics.specs.LeftSides.{is_limit}
use Rattle.wl_state.specs.LocalNames.{name_in}
use Rattle.wl_state.proofs.ScopingParts.{local_none, numbered_no_limit}
use Rattle.wl_state.proofs.evaluator.Evaluator.set_local.Goals as goal

pub returns-in_default-clause-played : goal.returns-in_default-clause-played
returns-in_default-clause-played g c = local_none c.args.n c.args.local.now c.args.self.now c.in_default.is

pub set_numbered-requires-clause-limits : goal.set_numbered-requires-clause-limits
set_numbered-requires-clause-limits g c = subst (λ (t : Tree). is_limit (name_in t) ≡ false) (sym c.in_ok-name.ensures.symbol) (numbered_no_limit (name_in (plain c.args.local.now.name)) c.args.n)
