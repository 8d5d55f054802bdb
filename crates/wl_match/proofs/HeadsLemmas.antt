-- The heads of a pattern: how many they are, and those of a list of elements.
use Rattle.std.proofs.Common.{◌≡◌, ℕ, zero, suc, ◌+◌, ◌<◌, ◌≤◌, List, [], ◌∷◌, ◌++◌, length, get_or, take, Some, refl, sym, ap, ◌∙◌, append_assoc, add-one, length-append, arith}
use Rattle.std.specs.List.{slice_get}
use Rattle.wl_expr.specs.Tree.{Tree, Trees, num, text, symbol, node, none, more, weight, weights}
use Rattle.wl_expr.specs.Stamped.{Stamped, plain, plains, from_list}
use Rattle.wl_expr.specs.Words.{Name}
use Rattle.wl_match.specs.Heads.{head_symbol, heads, heads_in, heads_above}

above_few : (t : Tree) → length (heads t) ≤ weight t → length (heads_above t) ≤ weight t
above_few (num n) h = omega arith
above_few (text s) h = omega arith
above_few (symbol s) h = omega arith
above_few (node g ts) h = h

mutual
  -- there are no more of them than the tree weighs
  pub heads_few : (t : Tree) → length (heads t) ≤ weight t
  heads_few (num n) = omega arith
  heads_few (text s) = omega arith
  heads_few (symbol s) = omega arith
  heads_few (node h ts) =
      omega (arith, length-append (head_symbol h) (heads h ++ heads_in ts), length-append (heads h) (heads_in ts), length-append (head_symbol h) (heads h), above_few h (heads_few h), heads_in_few ts)

  pub heads_in_few : (ts : Trees) → length (heads_in ts) ≤ weights ts
  heads_in_few none = omega arith
  heads_in_few (more t ts) = omega (arith, length-append (heads t) (heads_in ts), heads_few t, heads_in_few ts)

pub length_heads : (h : Tree) (ts : Trees) → length (heads (node h ts)) ≡ length (heads_above h) + length (heads_in ts)
length_heads h ts = omega (arith, length-append (head_symbol h) (heads h ++ heads_in ts), length-append (heads h) (heads_in ts), length-append (head_symbol h) (heads h))

-- one element more
pub heads_in_more : (ts : List Stamped) (i : ℕ) (d : Stamped) → i < length ts → heads_in (plains (from_list (take (i + 1) ts))) ≡ heads_in (plains (from_list (take i ts))) ++ heads (plain (get_or ts i d))
heads_in_more [] i d l = absurd (omega arith)
heads_in_more (t ∷ ts) zero d l = append_nil (heads (plain t))
  where
    append_nil : (xs : List Name) → xs ++ [] ≡ [] ++ xs
    append_nil [] = refl
    append_nil (x ∷ xs) = ap (λ ys. x ∷ ys) (append_nil xs)
heads_in_more (t ∷ ts) (suc i) d l =
    rw add-one (ap (λ xs. heads (plain t) ++ xs) (rw add-one at (heads_in_more ts i d (omega arith))) ∙ sym (append_assoc (heads (plain t)) (heads_in (plains (from_list (take i ts)))) (heads (plain (get_or ts i d)))))

pub found_left : (xs ys : List Name) (k : ℕ) (x : Name) → slice_get xs k ≡ Some x → slice_get (xs ++ ys) k ≡ Some x
found_left [] ys k x e = cc
found_left (w ∷ xs) ys zero x e = e
found_left (w ∷ xs) ys (suc k) x e = found_left xs ys k x e

pub slice_get_right : (xs ys : List Name) (k : ℕ) → slice_get (xs ++ ys) (length xs + k) ≡ slice_get ys k
slice_get_right [] ys k = ap (slice_get ys) (let n : 0 + k ≡ k = omega arith in n)
slice_get_right (x ∷ xs) ys k = ap (slice_get (x ∷ (xs ++ ys))) (let n : suc (length xs) + k ≡ suc (length xs + k) = omega arith in n) ∙ slice_get_right xs ys k

-- the elements before one, and that one, have no more of them than all elements weigh
pub heads_in_room : (ts : List Stamped) (i : ℕ) (d : Stamped) → i < length ts → length (heads_in (plains (from_list (take i ts)))) + length (heads (plain (get_or ts i d))) ≤ weights (plains (from_list ts))
heads_in_room [] i d l = absurd (omega arith)
heads_in_room (t ∷ ts) zero d l = omega (arith, heads_few (plain t))
heads_in_room (t ∷ ts) (suc i) d l =
    omega (arith, heads_few (plain t), length-append (heads (plain t)) (heads_in (plains (from_list (take i ts)))), heads_in_room ts i d (omega arith))

pub length_heads_in_more : (ts : List Stamped) (i : ℕ) (d : Stamped) → i < length ts → length (heads_in (plains (from_list (take (i + 1) ts)))) ≡ length (heads_in (plains (from_list (take i ts)))) + length (heads (plain (get_or ts i d)))
length_heads_in_more ts i d l =
    ap length (heads_in_more ts i d l) ∙ length-append (heads_in (plains (from_list (take i ts)))) (heads (plain (get_or ts i d)))

-- a name found among the heads of an element stands among all, behind those before it
pub sought_in : (ts : List Stamped) (i k : ℕ) (d : Stamped) (x : Name) → i < length ts → slice_get (heads (plain (get_or ts i d))) k ≡ Some x → slice_get (heads_in (plains (from_list ts))) (length (heads_in (plains (from_list (take i ts)))) + k) ≡ Some x
sought_in [] i k d x l e = absurd (omega arith)
sought_in (t ∷ ts) zero k d x l e =
    ap (slice_get (heads_in (plains (from_list (t ∷ ts))))) (let n : 0 + k ≡ k = omega arith in n) ∙ found_left (heads (plain t)) (heads_in (plains (from_list ts))) k x e
sought_in (t ∷ ts) (suc i) k d x l e =
    ap (slice_get (heads_in (plains (from_list (t ∷ ts))))) (let n : length (heads (plain t) ++ heads_in (plains (from_list (take i ts)))) + k ≡ length (heads (plain t)) + (length (heads_in (plains (from_list (take i ts)))) + k) = omega (arith, length-append (heads (plain t)) (heads_in (plains (from_list (take i ts))))) in n)
    ∙ slice_get_right (heads (plain t)) (heads_in (plains (from_list ts))) (length (heads_in (plains (from_list (take i ts)))) + k)
    ∙ sought_in ts i k d x (omega arith) e

-- where the place is past the names before an element, and found or passed among that element's
pub found_among : (ts : List Stamped) (i k m : ℕ) (t : Stamped) (x : Name) → i < length ts → t ≡ get_or ts i t → k ≡ length (heads_in (plains (from_list (take i ts)))) + m → slice_get (heads (plain t)) m ≡ Some x → slice_get (heads_in (plains (from_list ts))) k ≡ Some x
found_among ts i k m t x l a e f =
    ap (slice_get (heads_in (plains (from_list ts)))) e ∙ sought_in ts i m t x l (ap (λ u. slice_get (heads (plain u)) m) (sym a) ∙ f)

pub count_more : (ts : List Stamped) (i : ℕ) (t : Stamped) → i < length ts → t ≡ get_or ts i t → length (heads_in (plains (from_list (take (i + 1) ts)))) ≡ length (heads_in (plains (from_list (take i ts)))) + length (heads (plain t))
count_more ts i t l a = length_heads_in_more ts i t l ∙ ap (λ u. length (heads_in (plains (from_list (take i ts)))) + length (heads (plain u))) (sym a)

pub passed_among : (ts : List Stamped) (i k m n : ℕ) (t : Stamped) → i < length ts → t ≡ get_or ts i t → k ≡ length (heads_in (plains (from_list (take i ts)))) + m → m ≡ length (heads (plain t)) + n → k ≡ length (heads_in (plains (from_list (take (i + 1) ts)))) + n
passed_among ts i k m n t l a e f = omega (arith, count_more ts i t l a)

pub room_among : (ts : List Stamped) (i : ℕ) (t : Stamped) → i < length ts → t ≡ get_or ts i t → length (heads_in (plains (from_list (take i ts)))) + length (heads (plain t)) ≤ weights (plains (from_list ts))
room_among ts i t l a = omega (arith, heads_in_room ts i t l, ap (λ u. length (heads (plain u))) a)

pub room_in_node : (h t : Tree) (ts : Trees) → node h ts ≡ t → length (heads_above h) + length (heads_in ts) ≤ weight t
room_in_node h t ts e = omega (arith, above_few h (heads_few h), heads_in_few ts, ap weight e)

-- the heads in the elements before one, and in that one, are among those of all
pub heads_room : (ts : List Stamped) (i : ℕ) (d : Stamped) → i < length ts → length (heads_in (plains (from_list (take i ts)))) + length (heads (plain (get_or ts i d))) ≤ length (heads_in (plains (from_list ts)))
heads_room [] i d l = absurd (omega arith)
heads_room (t ∷ ts) zero d l = omega (arith, length-append (heads (plain t)) (heads_in (plains (from_list ts))))
heads_room (t ∷ ts) (suc i) d l =
    omega (arith, length-append (heads (plain t)) (heads_in (plains (from_list (take i ts)))), length-append (heads (plain t)) (heads_in (plains (from_list ts))), heads_room ts i d (omega arith))
