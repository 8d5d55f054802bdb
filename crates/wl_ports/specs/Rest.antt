-- What a source in memory has left.
use Rattle.std.specs.Prelude.{ℕ, List, drop, replicate}
use Rattle.wl_ports.specs.declared.memory_source.Rest.{Rest}
use Rattle.wl_ports.specs.declared.memory_source.Rest.TheVariants.{Given, Equal}

abbrev pub rest_of : Rest → List ℕ
rest_of (Given bytes at) = drop at bytes.items
rest_of (Equal byte count) = replicate count byte
