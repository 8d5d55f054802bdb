-- The demonstration notebook of n cells. The cells, and how their numbers are drawn, are this project's own.
use Rattle.std.specs.Prelude.{ℕ, zero, suc, ◌+◌, ◌*◌, ◌/◌, ◌%◌, ◌^◌, ◌==◌, if◌then◌else◌, List, [], ◌∷◌, ◌++◌, codes, decimal}

abbrev pub Bytes : Type 0
Bytes = List ℕ

-- ---- the drawing

-- a linear congruential generator, with the multiplier and the increment of the sample generator in the C standard
abbrev pub next_state : ℕ → ℕ
next_state s = (1103515245 * s + 12345) % 2 ^ 31

-- the state for cell k, where the first is n
abbrev pub state_for : ℕ → ℕ → ℕ
state_for n zero = n
state_for n (suc k) = next_state (state_for n k)

-- the number that a state gives
abbrev pub drawn : ℕ → ℕ
drawn s = s / 65536

abbrev pub first_of : ℕ → ℕ
first_of r = r % 97

abbrev pub second_of : ℕ → ℕ
second_of r = r / 97 % 97

-- ---- the cells

abbrev pub total_of_squares : ℕ → Bytes
total_of_squares a = codes "Total[Table[i^2, {i, " ++ decimal a ++ codes "}]]"

abbrev pub assignment : ℕ → ℕ → ℕ → Bytes
assignment k a b = codes "d[" ++ decimal k ++ codes "] = {" ++ decimal a ++ codes ", " ++ decimal b ++ codes "}"

abbrev pub sorting : ℕ → ℕ → ℕ → Bytes
sorting k a b = codes "Sort[{" ++ decimal b ++ codes ", " ++ decimal a ++ codes ", " ++ decimal k ++ codes "}]"

abbrev pub replacement : ℕ → ℕ → ℕ → Bytes
replacement k a b = codes "{" ++ decimal a ++ codes ", " ++ decimal b ++ codes "} /. " ++ decimal a ++ codes " -> " ++ decimal k

-- a real number, which is refused
abbrev pub real_number : ℕ → Bytes
real_number a = decimal a ++ codes ".5"

-- cell k with the numbers a and b, in one of five forms
abbrev pub in_form : ℕ → ℕ → ℕ → ℕ → Bytes
in_form form k a b =
    if form == 0 then total_of_squares a
    else (if form == 1 then assignment k a b
    else (if form == 2 then sorting k a b
    else (if form == 3 then replacement k a b
    else real_number a)))

-- cell k, for which r was drawn
abbrev pub cell_for : ℕ → ℕ → Bytes
cell_for k r = in_form (r % 5) k (first_of r) (second_of r)

-- cell k of the notebook of n cells, counted from 1
abbrev pub cell : ℕ → ℕ → Bytes
cell n k = cell_for k (drawn (state_for n k))

-- ---- the notebook

-- so many of its cells, those that follow cell k
abbrev pub cells_after : ℕ → ℕ → ℕ → List Bytes
cells_after n k zero = []
cells_after n k (suc more) = cell n (suc k) ∷ cells_after n (suc k) more

abbrev pub notebook : ℕ → List Bytes
notebook n = cells_after n 0 n

-- each on a line
abbrev pub lines_of : List Bytes → Bytes
lines_of [] = []
lines_of (text ∷ others) = text ++ 10 ∷ [] ++ lines_of others

-- the notebook as the bytes of a source
abbrev pub source : ℕ → Bytes
source n = lines_of (notebook n)
