-- The cells of a text: this project's own rules.
use Rattle.std.specs.Prelude.{ℕ, ◌+◌, ◌-◌, ◌*◌, ◌^◌, ◌≤◌, ◌<◌, ◌⊎◌, ◌≡◌, ◌==◌, Bool, true, false, ◌&&◌, ◌||◌, nat_lt, if◌then◌else◌, Option, None, Some, List, [], ◌∷◌, ◌++◌, length, take, ⊤}
use Rattle.wl_scan.specs.Characters.{is_blank}
use Rattle.wl_scan.specs.Places.{beginning, after, is_end, is_rest, nesting}
use Rattle.wl_scan.specs.Lengths.{blank_length}
use Rattle.wl_scan.specs.declared.place.Place.{Place}

-- how many bytes a cell may have
abbrev pub cell_limit : ℕ
cell_limit = 131072

-- where the cutting of a text into cells stands: how many bytes were taken, what is known at this place, the bytes of the present cell up to the limit,
-- whether it has more than these, and whether the last byte, or the end of the input, told of this cell
pub record Cutting : Type 0 where
  pub taken : ℕ
  pub place : Place
  pub kept : List ℕ
  pub is_long : Bool
  pub told : Bool

-- the bytes of a cell; `too_long` stands for more than 131,072
pub data CellText : Type 0 where
  whole : List ℕ → CellText
  too_long : CellText

-- a cell that is held has at most so many bytes
abbrev pub IsWithinCell : CellText → Type 0
IsWithinCell (whole bytes) = length bytes ≤ cell_limit
IsWithinCell too_long = ⊤

-- a cell, with the number of bytes before the line feed that ends it, or None where the end of the input ends it
pub record PlacedCell : Type 0 where
  pub text : CellText
  pub line_feed : Option ℕ

-- between two cells, where this many bytes were taken
abbrev pub between : ℕ → Cutting
between n = record { taken = n; place = beginning; kept = []; is_long = false; told = false }

abbrev pub start : Cutting
start = between 0

-- a cell that was told of is done with
abbrev pub renewed : Cutting → Cutting
renewed c = if c.told then between c.taken else c

-- one byte more, within a cell or between two. The line feed that ends a cell belongs to none, nor does a blank before a cell
abbrev pub taken_in : Cutting → ℕ → Cutting
taken_in c b =
    if is_end c.place b then record c { taken = c.taken + 1; told = true }
    else (if (length c.kept == 0) && is_blank b then record c { taken = c.taken + 1 }
    else record c {
      taken = c.taken + 1;
      place = after c.place b;
      kept = take cell_limit (c.kept ++ b ∷ []);
      is_long = c.is_long || nat_lt cell_limit (length c.kept + 1);
    })

-- after these further bytes
abbrev pub cut : Cutting → List ℕ → Cutting
cut c [] = c
cut c (b ∷ bs) = cut (taken_in (renewed c) b) bs

abbrev pub text_of : Cutting → CellText
text_of c = if c.is_long then too_long else whole c.kept

-- the present cell, where the last byte taken is the line feed that ended it
abbrev pub shown : Cutting → PlacedCell
shown c = record { text = text_of c; line_feed = Some (c.taken - 1) }

-- the cell that the last byte told of, if it did
abbrev pub told_cell : Cutting → List PlacedCell
told_cell c = if c.told then shown c ∷ [] else []

-- the cells that end within these further bytes
abbrev pub ended : Cutting → List ℕ → List PlacedCell
ended c [] = []
ended c (b ∷ bs) = let next = taken_in (renewed c) b in told_cell next ++ ended next bs

-- where the input ends here: what is left may be a last cell
abbrev pub finished : Cutting → Cutting
finished c = let rest = renewed c in record rest { told = is_rest rest.place }

-- the last cell, where the input ends here: one or none
abbrev pub remainder : Cutting → List PlacedCell
remainder c = if (finished c).told then record { text = text_of (finished c); line_feed = None } ∷ [] else []

-- the cells of a whole text
abbrev pub cells : List ℕ → List PlacedCell
cells bytes = ended start bytes ++ remainder (cut start bytes)

-- what feeding these pieces, one after another, and then the end of the input tells
abbrev pub told_by : Cutting → List (List ℕ) → List PlacedCell
told_by c [] = remainder c
told_by c (piece ∷ pieces) = ended c piece ++ told_by (cut c piece) pieces

-- what holds of every cutting on the way: the kept bytes stay within the limit, the counts stay below the bytes taken, and a cell that has begun has a byte
pub record IsCutting (c : Cutting) : Type 0 where
  pub kept : length c.kept ≤ cell_limit
  pub depth : c.place.depth ≤ 2 * c.taken
  pub nesting : nesting c.place.region ≤ c.taken
  pub taken : c.taken ≤ 2 ^ 62
  pub begun : length c.kept ≡ 0 → c ≡ between c.taken

-- what comes next belongs to a cell: one has begun, or no blank follows
abbrev pub IsWithin : Cutting → List ℕ → Type 0
IsWithin c bytes = (0 < length c.kept) ⊎ (blank_length bytes ≡ 0)
