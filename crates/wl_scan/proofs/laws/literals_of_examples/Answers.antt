use Rattle.std.proofs.Common.{refl}
use Rattle.std.specs.Str.{chars}
use Rattle.unicode_ident.proofs.Computing.{unicode_ident}
use Rattle.wl_scan.specs.Tokens.{rows, scanned_from}
use Rattle.wl_scan.proofs.laws.literals_of_examples.Goals as goal

pub returns : goal.returns
unfolding chars rows scanned_from unicode_ident
returns c = (refl, refl, refl, refl, refl, refl, refl, refl, refl, refl, refl, refl)
