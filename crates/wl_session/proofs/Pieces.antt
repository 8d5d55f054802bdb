-- Pieces of a text that are written one after another.
use Rattle.std.proofs.Common.{◌≡◌, ◌+◌, ◌-◌, ◌++◌, ℕ, List, length, take, drop, sym, subst, ◌∙◌, ap, Option, take-append-drop, append_assoc}
use Rattle.std.proofs.Math.Seq.{take-add}
use Rattle.std.proofs.lemmas.List.{take_rest}
use Rattle.std.proofs.KnownBytes.{Appends-trans, Appends-kept}
use Rattle.std.specs.Io.KnownBytes.{Appends, Keeps}
use Rattle.wl_session.specs.Pieces.{IsWrittenInPart}

-- what was taken of a piece, and then a front of its rest
pub taken_on : (piece : List ℕ) (at n : ℕ) → take (at + n) piece ≡ take at piece ++ take n (take (length piece - at) (drop at piece))
taken_on piece at n = sym (ap (λ (l : List ℕ). take at piece ++ take n l) (take_rest piece at) ∙ sym (take-add at n piece))

pub piece_parts : (piece : List ℕ) (at n : ℕ) → piece ≡ take at piece ++ (take n (take (length piece - at) (drop at piece)) ++ drop (at + n) piece)
piece_parts piece at n =
    sym (take-append-drop (at + n) piece) ∙ ap (λ (l : List ℕ). l ++ drop (at + n) piece) (taken_on piece at n)
    ∙ append_assoc (take at piece) (take n (take (length piece - at) (drop at piece))) (drop (at + n) piece)

pub appends_on : (a b c : Option (List ℕ)) (piece : List ℕ) (at n : ℕ) → Appends a b (take at piece) → Appends b c (take n (take (length piece - at) (drop at piece)))
    → Appends a c (take (at + n) piece)
appends_on a b c piece at n p q = subst (Appends a c) (sym (taken_on piece at n)) (Appends-trans a b c _ _ p q)

-- a front that is written, and then a call that writes nothing
pub part_written : (a b c : Option (List ℕ)) (piece : List ℕ) (at : ℕ) → Appends a b (take at piece) → Keeps b c → IsWrittenInPart piece a c
part_written a b c piece at p kept = record {
  front = take at piece;
  rest = drop at piece;
  whole = sym (take-append-drop at piece);
  written = Appends-kept a b c _ p kept;
}
