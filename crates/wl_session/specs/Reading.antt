-- How a cell is read: as the expression of its right tree, or not at all.
use Rattle.std.specs.Prelude.{◌≡◌, ◌≢◌, ⊤, List, [], ◌∷◌}
use Rattle.wl_expr.specs.Tree.{Tree}
use Rattle.wl_scan.specs.Cells.{CellText, whole, too_long}
use Rattle.wl_syntax.specs.declared.fault.SyntaxFault.TheVariants.{Memory}
use Rattle.wl_syntax.specs.Reads.{IsReadAs, Refused}
use Rattle.wl_session.specs.declared.fault.LineFault.{LineFault}
use Rattle.wl_session.specs.declared.fault.LineFault.TheVariants.{TooLong, Syntax}

-- a cell is refused, or read as a tree
pub data Reading : Type 0 where
  refused : LineFault → Reading
  read : Tree → Reading

-- A cell that is too long is refused for that. Any other is read as the tree of its bytes, or refused for a cause that is in them; want of memory is in none.
abbrev pub IsReading : CellText → Reading → Type 0
IsReading (whole bytes) (read e) = IsReadAs bytes e
IsReading (whole bytes) (refused (Syntax fault)) = (fault ≢ Memory) × Refused bytes fault
IsReading (whole bytes) (refused TooLong) = ⊥
IsReading too_long reading = reading ≡ refused TooLong

-- each of these cells is read so
abbrev pub AllRead : List CellText → List Reading → Type 0
AllRead [] [] = ⊤
AllRead [] (reading ∷ readings) = ⊥
AllRead (cell ∷ cells) [] = ⊥
AllRead (cell ∷ cells) (reading ∷ readings) = IsReading cell reading × AllRead cells readings
