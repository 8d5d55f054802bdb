-- An element of a list by its number, from 1 on, or for a number below 0 from the end back.
use Rattle.std.specs.Prelude.{ℕ, ℤ, pos, negsuc, zero, suc, ◌+◌, ◌-◌, nat_le, true, false, List, Option, None, slice_get, length}

abbrev pub nth : {X : Type 0} → ℕ → List X → Option X
nth zero xs = None
nth (suc n) xs = slice_get xs n

abbrev pub from_end : {X : Type 0} → ℕ → List X → Option X
from_end k xs = elim (nat_le k (length xs)) [ true ↦ nth (length xs + 1 - k) xs | false ↦ None ]

abbrev pub from_front : {X : Type 0} → ℤ → List X → Option X
from_front (pos n) xs = nth n xs
from_front (negsuc n) xs = None

abbrev pub numbered : {X : Type 0} → ℤ → List X → Option X
numbered (pos n) xs = nth n xs
numbered (negsuc n) xs = from_end (suc n) xs
