use Rattle.std.proofs.Common.{◌≡◌, [], None, List, drop, true}
use Rattle.wl_expr.specs.Stamped.{Stamped, plain}
use Rattle.wl_expr.specs.Words.{Name}
use Rattle.wl_shape.specs.Entering.{put_values}
use Rattle.wl_shape.specs.Fill.{reached}
use Rattle.wl_shape.specs.Given.{GivenFrom, NoneStands, given_values}
use Rattle.wl_shape.specs.Held.{IsReady, ValuesFrom, values_in}
use Rattle.wl_shape.specs.Walks.{has_scope}
use Rattle.wl_shape.proofs.filling.prepared.Given as goal

abbrev pub invariant-loop-name : goal.invariant-loop-name
invariant-loop-name l = record {
  value : (x : Name) → put_values l.name-items (given_values l.given) (λ x. None) x ≡ put_values (drop l.name-index l.name-items) (given_values l.given) (values_in l.values) x;
  ready : has_scope (plain l.body) ≡ true → IsReady l.values;
  passed : (ms : List Stamped) → GivenFrom ms l.given → ValuesFrom ms l.values;
  none : NoneStands (reached (plain l.body)) (given_values l.given) → l.values.map.entries ≡ [];
}
