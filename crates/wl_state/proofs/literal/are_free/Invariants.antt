use Rattle.std.proofs.Common.{◌≡◌, drop}
use Rattle.std.specs.List.{list_all}
use Rattle.wl_match.specs.Literals.{is_free}
use Rattle.wl_state.proofs.literal.are_free.Given as goal

abbrev pub invariant-loop-held : goal.invariant-loop-held
invariant-loop-held l = list_all is_free l.flags ≡ list_all is_free (drop l.held-index l.flags)
