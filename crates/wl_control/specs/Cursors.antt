-- What a cursor waits for, and what it holds.
use Rattle.std.specs.Prelude.{⊤, List, Option, Some, None}
use Rattle.wl_expr.specs.Stamped.{Stamped}
use Rattle.wl_control.specs.Stand.{Stand}
use Rattle.wl_control.specs.Places.{stand_at, PlaceIsFrom}
use Rattle.wl_control.specs.declared.cursor.Cursor.{Cursor}

abbrev pub stand : Cursor → Stand
stand c = stand_at c.place

-- each stamped part of what it holds is one of these
abbrev pub IsHeldFrom : List Stamped → Cursor → Type 0
IsHeldFrom ms c = PlaceIsFrom ms c.place

abbrev pub HoldsFrom : List Stamped → Option Cursor → Type 0
HoldsFrom ms None = ⊤
HoldsFrom ms (Some c) = IsHeldFrom ms c
