-- Each token's text is a part of the text at its place.
use Rattle.std.proofs.Common.{◌≡◌, ℕ, zero, suc, ◌+◌, ◌-◌, ◌≤◌, List, [], ◌∷◌, length, take, drop, ap, sym, ◌∙◌, arith}
use Rattle.std.specs.List.{All}
use Rattle.std.proofs.lemmas.List.{length-take, take_min, drop-drop}
use Rattle.std.proofs.lemmas.List.Elements.{All-nil, All-cons}
use Rattle.wl_scan.specs.Tokens.{Scanned, found, coming, scanned_from}
use Rattle.wl_scan.specs.Laws.{IsPartOf}
use Rattle.wl_scan.specs.declared.found.Found.{Found}
use Rattle.wl_scan.specs.declared.found.Found.TheVariants.{Gap, Lexed, Fault}

-- the bytes at a place, and then those at the next
next_place : (source bs : List ℕ) (b at : ℕ) → 1 ≤ at → b ∷ bs ≡ drop (at - 1) source → bs ≡ drop (at + 1 - 1) source
next_place source bs b at first here = ap (drop 1) here ∙ drop-drop 1 (at - 1) source ∙ ap (λ (n : ℕ). drop n source) (omega arith)

taken_is_part : (source rest : List ℕ) (n : ℕ) → rest ≡ drop n source → (k : ℕ) → take k rest ≡ take (length (take k rest)) (drop n source)
taken_is_part source rest n here k =
    sym (take_min k rest) ∙ ap (λ (m : ℕ). take m rest) (sym (length-take k rest)) ∙ ap (take (length (take k rest))) here

coming_parts : (source text : List ℕ) (at : ℕ) (f : Found) (rest : ℕ → Scanned) → 1 ≤ at → text ≡ drop (at - 1) source → ((n : ℕ) → All (IsPartOf source) (rest n).tokens)
    → All (IsPartOf source) (coming f text at rest).tokens
coming_parts source text at (Gap n) rest first here all = all (n - 1)
coming_parts source text at (Lexed kind n) rest first here all =
    All-cons (IsPartOf source) (record { kind = kind; text = take n text; at = at }) (rest (n - 1)).tokens (first, taken_is_part source text (at - 1) here n) (all (n - 1))
coming_parts source text at (Fault kind n) rest first here all = All-nil (IsPartOf source)

pub parts_from : (source : List ℕ) (passed at : ℕ) (bs : List ℕ) → 1 ≤ at → bs ≡ drop (at - 1) source → All (IsPartOf source) (scanned_from passed at bs).tokens
unfolding scanned_from
parts_from source passed at [] first here = All-nil (IsPartOf source)
parts_from source (suc passed) at (b ∷ bs) first here = parts_from source passed (at + 1) bs (omega arith) (next_place source bs b at first here)
parts_from source zero at (b ∷ bs) first here =
    coming_parts source (b ∷ bs) at (found (b ∷ bs)) (λ n. scanned_from n (at + 1) bs) first here
    (λ n. parts_from source n (at + 1) bs (omega arith) (next_place source bs b at first here))
