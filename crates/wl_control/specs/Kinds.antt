-- The rows of the table, by their kinds.
use Rattle.wl_control.specs.Branches.{if_row, which_row, switch_row, and_row, or_row, compound_row}
use Rattle.wl_control.specs.Families.{select_row, scan_row, fold_row, fold_list_row, nest_row, nest_list_row, fixed_point_row}
use Rattle.wl_control.specs.Iterators.{do_row, table_row}
use Rattle.wl_control.specs.Loops.{while_row, for_row}
use Rattle.wl_control.specs.Table.{Row}
use Rattle.wl_control.specs.declared.kind.Kind.{Kind}
use Rattle.wl_control.specs.declared.kind.Kind.TheVariants.{If, Which, Switch, And, Or, CompoundExpression, While, For, Do, Table, Select, Scan, Fold, FoldList, Nest, NestList, FixedPoint}

abbrev pub row_by : Kind → Row
row_by If = if_row
row_by Which = which_row
row_by Switch = switch_row
row_by And = and_row
row_by Or = or_row
row_by CompoundExpression = compound_row
row_by While = while_row
row_by For = for_row
row_by Do = do_row
row_by Table = table_row
row_by Select = select_row
row_by Scan = scan_row
row_by Fold = fold_row
row_by FoldList = fold_list_row
row_by Nest = nest_row
row_by NestList = nest_list_row
row_by FixedPoint = fixed_point_row
