use Rattle.std.proofs.Common.{◌≡◌, ◌+◌, ◌-◌, length, string_bytes, None}
use Rattle.std.specs.Str.{IsUtf8}
use Rattle.wl_expr.specs.Stamped.{symbol}
use Rattle.wl_ports.specs.Name.{IsName}
use Rattle.wl_shape.specs.Answers.{trees}
use Rattle.wl_shape.specs.Fill.{fresh, longest, new_name}
use Rattle.wl_shape.specs.Names.{names_in}
use Rattle.wl_shape.proofs.renaming.new_name.Given as goal

abbrev pub invariant-tries : goal.invariant-tries
invariant-tries l = record {
  name : IsUtf8 (string_bytes l.longer) × IsName (string_bytes l.longer);
  symbol : l.symbol ≡ symbol None (string_bytes l.longer);
  same : new_name (names_in (trees l.taken.keys)) l.name ≡ fresh (longest (names_in (trees l.taken.keys)) + 1) (names_in (trees l.taken.keys)) (string_bytes l.longer);
}

abbrev pub decreases-tries : goal.decreases-tries
decreases-tries l = longest (names_in (trees l.taken.keys)) + 1 - length (string_bytes l.longer)
