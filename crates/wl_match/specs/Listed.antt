-- The places of what is bound and of what is noted, in what a branch has bound and noted.
use Rattle.std.specs.Prelude.{ℕ, ◌+◌, ◌≤◌, nat_lt, Bool, true, false, cond, List, [], ◌∷◌, ⊤}
use Rattle.wl_match.specs.declared.taken.Taken.{Taken}
use Rattle.wl_match.specs.declared.taken.Mark.{Mark}
use Rattle.wl_match.specs.declared.taken.Mark.TheVariants.{Bound, Noted}

abbrev pub is_bound : Mark → Bool
is_bound (Bound i r) = true
is_bound (Noted i r) = false

abbrev pub is_noted : Mark → Bool
is_noted (Bound i r) = false
is_noted (Noted i r) = true

-- the places of the marks that pass, where n marks stand before
abbrev pub places_of : (Mark → Bool) → ℕ → List Mark → List ℕ
places_of f n [] = []
places_of f n (m ∷ ms) = cond (f m) (n ∷ places_of f (n + 1) ms) (places_of f (n + 1) ms)

-- the tests that were noted, in order, each as a part and its run
abbrev pub noted_in : List Mark → List (ℕ × Taken)
noted_in [] = []
noted_in (Bound i r ∷ ms) = noted_in ms
noted_in (Noted i r ∷ ms) = (i, r) ∷ noted_in ms

-- those before a place
abbrev pub below : ℕ → List ℕ → List ℕ
below n [] = []
below n (i ∷ is) = cond (nat_lt i n) (i ∷ below n is) []

abbrev pub Rises : ℕ → List ℕ → Type 0
Rises k [] = ⊤
Rises k (i ∷ is) = (k ≤ i) × Rises (i + 1) is
