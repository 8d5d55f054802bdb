use Rattle.std.proofs.Common.{subst}
use Rattle.std.specs.Prelude.{IfSome}
use Rattle.wl_state.specs.LocalNames.{AreLocals}
use Rattle.wl_state.proofs.scope_rows.scope_parts.Goals as goal

pub returns-clause-honest : goal.returns-clause-honest
returns-clause-honest c = λ a h.
    let w = c.in-Some.ensures.honest a h in
    (subst (λ o. IfSome o (λ v. AreLocals a v.items)) c.in-Some-2.is (c.in_ok-locals.ensures.honest a w.0), w.1)
