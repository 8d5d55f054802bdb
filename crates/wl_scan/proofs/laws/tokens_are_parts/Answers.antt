use Rattle.std.proofs.Common.{arith, refl}
use Rattle.wl_scan.proofs.Parts.{parts_from}
use Rattle.wl_scan.proofs.laws.tokens_are_parts.Goals as goal

pub returns : goal.returns
returns c = λ text. parts_from text 0 1 text (omega arith) refl
