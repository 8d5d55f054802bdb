use Rattle.std.proofs.Common.{codes, refl}
use Rattle.wl_ports.proofs.AsciiNames.{ascii_is_name}
use Rattle.wl_state.proofs.outcome.outcome_of.Goals as goal

pub held_call-requires : goal.held_call-requires
held_call-requires c = ascii_is_name (codes "Break") refl

pub held_call-requires-in-Continued : goal.held_call-requires-in-Continued
held_call-requires-in-Continued c = ascii_is_name (codes "Continue") refl
