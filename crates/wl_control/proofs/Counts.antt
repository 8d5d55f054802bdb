-- Which form of a row it is by the number of its elements.
use Rattle.std.proofs.Common.{◌≡◌, ◌≢◌, ◌+◌, ◌%◌, ◌<◌, Bool, true, false, List, [], ◌∷◌, length, get_or, refl, ap, arith}
use Rattle.std.specs.Prelude.{if◌then◌else◌}
use Rattle.wl_expr.specs.Stamped.{Stamped, plain}
use Rattle.wl_expr.specs.Tree.{symbol}
use Rattle.wl_expr.specs.Words.{Name, form}
use Rattle.wl_control.specs.Asks.{stays, alone_or}
use Rattle.wl_control.specs.Branches.{left_over, are_pairs, which_from, which_row, switch_from, switch_row}
use Rattle.wl_control.specs.Places.{trees}

pub alone : (h : Name) (xs : List Stamped) (d : Stamped) → length xs ≡ 1 → alone_or h (trees xs) ≡ plain (get_or xs 0 d)
alone h [] d e = absurd (omega arith)
alone h (x ∷ []) d e = refl
alone h (x ∷ y ∷ xs) d e = absurd (omega arith)

pub not_alone : (h : Name) (xs : List Stamped) → length xs ≢ 1 → alone_or h (trees xs) ≡ form h (trees xs)
not_alone h [] n = refl
not_alone h (x ∷ []) n = absurd (n refl)
not_alone h (x ∷ y ∷ xs) n = refl

pub none_left : (h skip : Name) (xs : List Stamped) → length xs ≡ 0 → left_over h skip (trees xs) ≡ symbol skip
none_left h skip [] e = refl
none_left h skip (x ∷ xs) e = absurd (omega arith)

pub some_left : (h skip : Name) (xs : List Stamped) → length xs ≢ 0 → left_over h skip (trees xs) ≡ alone_or h (trees xs)
some_left h skip [] n = absurd (n refl)
some_left h skip (x ∷ xs) n = refl

-- ---- pairs

pub pairs : (xs : List Stamped) → length xs % 2 ≡ 0 → are_pairs (trees xs) ≡ true
pairs [] e = refl
pairs (x ∷ []) e = cc
pairs (x ∷ y ∷ xs) e = pairs xs (omega arith)

pub no_pairs : (xs : List Stamped) → length xs % 2 ≡ 1 → are_pairs (trees xs) ≡ false
no_pairs [] e = cc
no_pairs (x ∷ []) e = refl
no_pairs (x ∷ y ∷ xs) e = no_pairs xs (omega arith)

pub which_empty : (xs : List Stamped) → length xs ≡ 0 → which_row (trees xs) ≡ stays
which_empty [] e = refl
which_empty (x ∷ xs) e = absurd (omega arith)

pub which_odd : (xs : List Stamped) → length xs % 2 ≡ 1 → which_row (trees xs) ≡ stays
which_odd [] e = cc
which_odd (x ∷ xs) e = ap (λ (b : Bool). if b then which_from (trees (x ∷ xs)) else stays) (no_pairs (x ∷ xs) e)

pub which_even : (xs : List Stamped) → length xs ≢ 0 → length xs % 2 ≡ 0 → which_row (trees xs) ≡ which_from (trees xs)
which_even [] n e = absurd (n refl)
which_even (x ∷ xs) n e = ap (λ (b : Bool). if b then which_from (trees (x ∷ xs)) else stays) (pairs (x ∷ xs) e)

pub switch_few : (xs : List Stamped) → length xs < 3 → switch_row (trees xs) ≡ stays
switch_few [] l = refl
switch_few (x ∷ []) l = refl
switch_few (x ∷ y ∷ []) l = refl
switch_few (x ∷ y ∷ z ∷ xs) l = absurd (omega arith)

pub switch_even : (xs : List Stamped) → length xs % 2 ≡ 0 → switch_row (trees xs) ≡ stays
switch_even [] e = refl
switch_even (x ∷ []) e = refl
switch_even (x ∷ y ∷ xs) e = ap (λ (b : Bool). if b then switch_from (plain x) (trees (y ∷ xs)) else stays) (no_pairs (y ∷ xs) (omega arith))

pub switch_odd : (x : Stamped) (xs : List Stamped) → 3 < length (x ∷ xs) + 1 → length (x ∷ xs) % 2 ≢ 0 → switch_row (trees (x ∷ xs)) ≡ switch_from (plain x) (trees xs)
switch_odd x [] l e = absurd (omega arith)
switch_odd x (y ∷ xs) l e = ap (λ (b : Bool). if b then switch_from (plain x) (trees (y ∷ xs)) else stays) (pairs (y ∷ xs) (omega arith))
