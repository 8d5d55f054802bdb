-- The table of loops and branches: which row a name has.
use Rattle.std.specs.Prelude.{List, [], ◌∷◌, Option, Some, None, codes, bytes_eq, if◌then◌else◌}
use Rattle.wl_expr.specs.Tree.{Tree}
use Rattle.wl_expr.specs.Words.{Name}
use Rattle.wl_control.specs.Asks.{Asks}
use Rattle.wl_control.specs.Branches.{if_row, which_row, switch_row, and_row, or_row, compound_row}
use Rattle.wl_control.specs.Families.{select_row, scan_row, fold_row, fold_list_row, nest_row, nest_list_row, fixed_point_row}
use Rattle.wl_control.specs.Iterators.{do_row, table_row}
use Rattle.wl_control.specs.Loops.{while_row, for_row}

abbrev pub Row : Type 0
Row = List Tree → Asks

abbrev pub rows : List (Name × Row)
rows =
    (codes "If", if_row) ∷ (codes "Which", which_row) ∷ (codes "Switch", switch_row) ∷ (codes "And", and_row) ∷ (codes "Or", or_row)
    ∷ (codes "CompoundExpression", compound_row) ∷ (codes "While", while_row) ∷ (codes "For", for_row) ∷ (codes "Do", do_row) ∷ (codes "Table", table_row)
    ∷ (codes "Select", select_row) ∷ (codes "Scan", scan_row) ∷ (codes "Fold", fold_row) ∷ (codes "FoldList", fold_list_row)
    ∷ (codes "Nest", nest_row) ∷ (codes "NestList", nest_list_row) ∷ (codes "FixedPoint", fixed_point_row) ∷ []

abbrev pub row_in : Name → List (Name × Row) → Option Row
row_in x [] = None
row_in x (r ∷ rs) = if bytes_eq x r.0 then Some r.1 else row_in x rs

abbrev pub row_of : Name → Option Row
row_of x = row_in x rows
