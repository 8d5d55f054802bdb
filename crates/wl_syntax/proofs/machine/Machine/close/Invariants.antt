use Rattle.std.proofs.Common.{◌≡◌, vec_len}
use Rattle.wl_syntax.specs.Machine.{State, closed}
use Rattle.wl_syntax.specs.Moves.{Holds}
use Rattle.wl_syntax.specs.declared.machine.Standing.TheVariants.{Has}
use Rattle.wl_syntax.proofs.machine.Machine.close.Given as goal

abbrev pub invariant-loop : goal.invariant-loop
invariant-loop l = (l.self.standing ≡ Has) × ((st : State) → Holds l.fn.self st → (to : State) × Holds l.self to × (closed l.level st ≡ closed l.level to))

abbrev pub decreases-loop : goal.decreases-loop
decreases-loop l = vec_len l.self.pending
