use Rattle.std.proofs.Common.{◌≡◌, List, drop}
use Rattle.wl_expr.specs.Stamped.{Stamped}
use Rattle.wl_expr.specs.Words.{Name}
use Rattle.wl_shape.specs.Entering.{put_values}
use Rattle.wl_shape.specs.Held.{IsReady, ValuesFrom, values_in}
use Rattle.wl_shape.proofs.renaming.put_values.Given as goal

abbrev pub invariant-loop-symbol : goal.invariant-loop-symbol
invariant-loop-symbol l = record {
  value : (x : Name) → put_values l.symbols (values_in l.from) (values_in l.fn.into) x ≡ put_values (drop l.symbol-index l.symbols) (values_in l.from) (values_in l.into) x;
  ready : IsReady l.from → IsReady l.fn.into → IsReady l.into;
  passed : (ms : List Stamped) → ValuesFrom ms l.from → ValuesFrom ms l.fn.into → ValuesFrom ms l.into;
}
