use Rattle.std.proofs.Common.{◌≡◌, ◌++◌, List, drop}
use Rattle.wl_expr.specs.Stamped.{Stamped, plain}
use Rattle.wl_expr.specs.Words.{Name}
use Rattle.wl_shape.specs.Answers.{trees}
use Rattle.wl_shape.specs.Fill.{names, renamings}
use Rattle.wl_shape.specs.Held.{IsReady, ValuesFrom, values_in}
use Rattle.wl_shape.specs.Names.{names_in}
use Rattle.wl_shape.proofs.Renamings.{renamings_on}
use Rattle.wl_shape.proofs.renaming.renamings.Given as goal

abbrev pub invariant-loop-parameter : goal.invariant-loop-parameter
invariant-loop-parameter l = record {
  value : (x : Name) → renamings (names_in (trees l.arrived.keys)) (names_in (trees l.arrived.keys) ++ names (plain l.body)) (names_in (trees l.parameters)) x
      ≡ renamings_on (values_in l.renamed) (names_in (trees l.arrived.keys)) (names_in (trees l.arrived.keys) ++ names (plain l.body)) (names_in (trees (drop l.parameter-index l.parameters))) x;
  ready : IsReady l.renamed;
  passed : (ms : List Stamped) → ValuesFrom ms l.renamed;
}
