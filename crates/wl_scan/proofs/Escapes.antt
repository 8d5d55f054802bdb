-- Steps through the bytes of a string.
use Rattle.std.proofs.Common.{◌≡◌, ℕ, ◌+◌, ◌<◌, Bool, true, false, not, ◌&&◌, ◌==◌, List, ◌∷◌, length, drop, get_or, refl, ap, sym, ◌∙◌, arith, Option, None, Some}
use Rattle.std.proofs.lemmas.List.{at_drop_more}
use Rattle.std.proofs.lemmas.Bool.{cond-false, and_left}
use Rattle.wl_scan.specs.Lengths.{beyond, closed_length, is_escape, bad_escape}

pub beyond-beyond : (m n : ℕ) (o : Option ℕ) → beyond m (beyond n o) ≡ beyond (m + n) o
beyond-beyond m n None = refl
beyond-beyond m n (Some k) = ap Some (omega arith)

pub closed_taken : (bytes : List ℕ) (i : ℕ) (taken : Bool) (whole : Option ℕ) → i < length bytes → taken ≡ true → beyond i (closed_length taken (drop i bytes)) ≡ whole
    → beyond (i + 1) (closed_length false (drop (i + 1) bytes)) ≡ whole
closed_taken bytes i taken whole within is so_far =
    let here = at_drop_more (closed_length taken) bytes i 0 within ∙ ap (λ (t : Bool). closed_length t (get_or bytes i 0 ∷ drop (i + 1) bytes)) is in
    sym (beyond-beyond i 1 (closed_length false (drop (i + 1) bytes))) ∙ ap (beyond i) (sym here) ∙ so_far

pub bad_taken : (bytes : List ℕ) (i : ℕ) (taken : Bool) (whole : Option ℕ) → i < length bytes → taken ≡ true → beyond i (bad_escape taken (drop i bytes)) ≡ whole
    → beyond (i + 1) (bad_escape false (drop (i + 1) bytes)) ≡ whole
bad_taken bytes i taken whole within is so_far =
    let here = at_drop_more (bad_escape taken) bytes i 0 within ∙ ap (λ (t : Bool). bad_escape t (get_or bytes i 0 ∷ drop (i + 1) bytes)) is in
    sym (beyond-beyond i 1 (bad_escape false (drop (i + 1) bytes))) ∙ ap (beyond i) (sym here) ∙ so_far

-- a byte of a string that begins no escape and doesn't close it
pub bad_plain : (bytes : List ℕ) (i : ℕ) (taken : Bool) (whole : Option ℕ) → i < length bytes → taken ≡ false → (get_or bytes i 0 == 34) ≡ false → (get_or bytes i 0 == 92) ≡ false
    → beyond i (bad_escape taken (drop i bytes)) ≡ whole → beyond (i + 1) (bad_escape (get_or bytes i 0 == 92) (drop (i + 1) bytes)) ≡ whole
bad_plain bytes i taken whole within is open_still plain so_far =
    let b = get_or bytes i 0 in
    let rest = drop (i + 1) bytes in
    let here = at_drop_more (bad_escape taken) bytes i 0 within ∙ ap (λ (t : Bool). bad_escape t (b ∷ rest)) is
    ∙ cond-false (b == 34) _ _ open_still ∙ cond-false ((b == 92) && not (is_escape rest)) _ _ (and_left (b == 92) (not (is_escape rest)) plain) in
    sym (beyond-beyond i 1 (bad_escape (b == 92) rest)) ∙ ap (beyond i) (sym here) ∙ so_far
