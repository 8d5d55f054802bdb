use Rattle.std.proofs.Common.{◌≡◌, ◌++◌, drop}
use Rattle.std.specs.List.{flat_map}
use Rattle.std.specs.Prelude.{string_bytes}
use Rattle.wl_lists.specs.Answers.{trees}
use Rattle.wl_lists.specs.Strings.{bytes_of}
use Rattle.wl_lists.proofs.strings.joined.Given as goal

abbrev pub invariant-loop-arg : goal.invariant-loop-arg
invariant-loop-arg l = flat_map bytes_of (trees l.args) ≡ string_bytes l.all ++ flat_map bytes_of (trees (drop l.arg-index l.args))
