-- What a `Cell` of the code is.
use Rattle.wl_scan.specs.Cells.{CellText, whole, too_long}
use Rattle.wl_scan.specs.declared.cells.Cell.{Cell}
use Rattle.wl_scan.specs.declared.cells.Cell.TheVariants.{Bytes, TooLong}

abbrev pub cell_text : Cell → CellText
cell_text (Bytes bytes) = whole bytes.now
cell_text TooLong = too_long
