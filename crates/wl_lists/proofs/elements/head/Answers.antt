use Rattle.std.proofs.Common.{refl}
use Rattle.std.specs.Prelude.{codes}
use Rattle.wl_ports.proofs.AsciiNames.{ascii_is_name}
use Rattle.wl_lists.proofs.elements.head.Goals as goal

pub symbol-requires : goal.symbol-requires
symbol-requires c = ascii_is_name (codes "Integer") refl

pub symbol-requires-else-den-eq1 : goal.symbol-requires-else-den-eq1
symbol-requires-else-den-eq1 c = ascii_is_name (codes "Rational") refl

pub symbol-requires-in-Text : goal.symbol-requires-in-Text
symbol-requires-in-Text c = ascii_is_name (codes "String") refl

pub symbol-requires-in-Symbol : goal.symbol-requires-in-Symbol
symbol-requires-in-Symbol c = ascii_is_name (codes "Symbol") refl
