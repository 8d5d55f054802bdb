use Rattle.std.proofs.Common.{sym, ap, ◌∙◌}
use Rattle.wl_state.specs.Kinds.{other_row_of}
use Rattle.wl_state.proofs.Tables.{or_row, row_of-is}
use Rattle.wl_state.proofs.kind.Kind.named.Goals as goal

pub returns-in-Some : goal.returns-in-Some
returns-in-Some c = ap (λ o. or_row o (other_row_of c.args.name.now)) c.in-Some.ensures ∙ sym (row_of-is c.args.name.now)
