-- The names that an evaluation read, by their indexes in the store, each with the version that its entry had then.
use Rattle.std.specs.Prelude.{ℕ, nat_eq, List, [], ◌∷◌, ◌++◌, Option, Some, None}
use Rattle.std.specs.List.{IsDistinct}
use Rattle.std.specs.Map.{lookup, keys_of}

abbrev pub Read : Type 0
Read = ℕ × ℕ

-- the version with which a name was read first
abbrev pub version_of : ℕ → List Read → Option ℕ
version_of i rs = lookup (nat_eq i) rs

-- each name stands once
abbrev pub AreDistinct : List Read → Type 0
AreDistinct rs = IsDistinct nat_eq (keys_of rs)

-- a read of a name that was read before adds nothing
abbrev pub or_behind : Option ℕ → List Read → Read → List Read
or_behind None rs r = rs ++ r ∷ []
or_behind (Some v) rs r = rs

abbrev pub noted : List Read → Read → List Read
noted rs r = or_behind (version_of r.0 rs) rs r

-- one read after the other
abbrev pub all_noted : List Read → List Read → List Read
all_noted rs [] = rs
all_noted rs (p ∷ ps) = all_noted (noted rs p) ps
