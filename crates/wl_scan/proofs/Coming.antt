-- What is still to come of a text, past what is found at a place.
use Rattle.std.proofs.Common.{◌≡◌, ℕ, zero, suc, ◌+◌, ◌-◌, ◌≤◌, ◌<◌, List, [], ◌∷◌, length, take, drop, ap, sym, refl, ◌∙◌, arith}
use Rattle.std.proofs.lemmas.List.{length-drop, drop-drop, drop_all}
use Rattle.wl_scan.specs.Tokens.{Scanned, found, coming, scanned_from, nothing, token_before, fault_at}
use Rattle.wl_scan.specs.Scanning.{to_come}
use Rattle.wl_scan.specs.declared.token.Kind.{Kind}
use Rattle.wl_scan.specs.declared.token.ScanKind.{ScanKind}
use Rattle.wl_scan.specs.declared.found.Found.{Found}
use Rattle.wl_scan.specs.declared.found.Found.TheVariants.{Gap, Lexed, Fault}

-- what comes behind what is found at the first byte
abbrev behind : Found → ℕ → ℕ → List ℕ → Scanned
behind f at b bs = coming f (b ∷ bs) at (λ n. scanned_from n (at + 1) bs)

scanned_from-cons : (at b : ℕ) (bs : List ℕ) → scanned_from 0 at (b ∷ bs) ≡ behind (found (b ∷ bs)) at b bs
unfolding scanned_from
scanned_from-cons at b bs = refl

scanned_from-nil : (passed at : ℕ) → scanned_from passed at [] ≡ nothing
unfolding scanned_from
scanned_from-nil passed at = refl

scanned_from-suc : (passed at b : ℕ) (bs : List ℕ) → scanned_from (suc passed) at (b ∷ bs) ≡ scanned_from passed (at + 1) bs
unfolding scanned_from
scanned_from-suc passed at b bs = refl

-- bytes that belong to what was found before are passed over
passed_over : (n at : ℕ) (bs : List ℕ) → scanned_from n at bs ≡ scanned_from 0 (at + n) (drop n bs)
passed_over zero at bs = ap (λ (a : ℕ). scanned_from 0 a bs) (omega arith)
passed_over (suc n) at [] = scanned_from-nil (suc n) at ∙ sym (scanned_from-nil 0 (at + suc n))
passed_over (suc n) at (b ∷ bs) = scanned_from-suc n at b bs ∙ passed_over n (at + 1) bs ∙ ap (λ (a : ℕ). scanned_from 0 a (drop n bs)) (omega arith)

past : (n at b : ℕ) (bs : List ℕ) → 0 < n → scanned_from (n - 1) (at + 1) bs ≡ scanned_from 0 (at + n) (drop n (b ∷ bs))
past zero at b bs some = absurd (omega (arith, some))
past (suc n) at b bs some =
    ap (λ (k : ℕ). scanned_from k (at + 1) bs) (omega arith) ∙ passed_over n (at + 1) bs ∙ ap (λ (a : ℕ). scanned_from 0 a (drop n bs)) (omega arith)

gap_step : (rest : List ℕ) (at n : ℕ) → 0 < length rest → found rest ≡ Gap n → 0 < n → scanned_from 0 at rest ≡ scanned_from 0 (at + n) (drop n rest)
gap_step [] at n any is some = absurd (omega (arith, any))
gap_step (b ∷ bs) at n any is some = scanned_from-cons at b bs ∙ ap (λ (f : Found). behind f at b bs) is ∙ past n at b bs some

token_step : (rest : List ℕ) (at n : ℕ) (kind : Kind) → 0 < length rest → found rest ≡ Lexed kind n → 0 < n
    → scanned_from 0 at rest ≡ token_before (record { kind = kind; text = take n rest; at = at }) (scanned_from 0 (at + n) (drop n rest))
token_step [] at n kind any is some = absurd (omega (arith, any))
token_step (b ∷ bs) at n kind any is some =
    scanned_from-cons at b bs ∙ ap (λ (f : Found). behind f at b bs) is
    ∙ ap (token_before (record { kind = kind; text = take n (b ∷ bs); at = at })) (past n at b bs some)

fault_step : (rest : List ℕ) (at n : ℕ) (kind : ScanKind) → 0 < length rest → found rest ≡ Fault kind n → scanned_from 0 at rest ≡ fault_at kind (at + n)
fault_step [] at n kind any is = absurd (omega (arith, any))
fault_step (b ∷ bs) at n kind any is = scanned_from-cons at b bs ∙ ap (λ (f : Found). behind f at b bs) is

further : (text : List ℕ) (place n : ℕ) → scanned_from 0 (place + 1 + n) (drop n (drop place text)) ≡ to_come text (place + n)
further text place n = ap (scanned_from 0 (place + 1 + n)) (drop-drop n place text) ∙ ap (λ (a : ℕ). scanned_from 0 a (drop (place + n) text)) (omega arith)

-- at a place of the text

rest_is : (text rest : List ℕ) (place : ℕ) → place < length text → rest ≡ drop place text → 0 < length rest
rest_is text rest place within is = omega (arith, ap length is, length-drop place text)

pub past_gap : (text rest : List ℕ) (place n : ℕ) (f : Found) → place < length text → rest ≡ drop place text → f ≡ found rest → f ≡ Gap n → 0 < n
    → to_come text place ≡ to_come text (place + n)
past_gap text rest place n f within is looked gap some =
    ap (scanned_from 0 (place + 1)) (sym is) ∙ gap_step rest (place + 1) n (rest_is text rest place within is) (sym looked ∙ gap) some
    ∙ ap (λ (l : List ℕ). scanned_from 0 (place + 1 + n) (drop n l)) is ∙ further text place n

pub past_token : (text rest : List ℕ) (place n : ℕ) (kind : Kind) (f : Found) → place < length text → rest ≡ drop place text → f ≡ found rest → f ≡ Lexed kind n → 0 < n
    → to_come text place ≡ token_before (record { kind = kind; text = take n (drop place text); at = place + 1 }) (to_come text (place + n))
past_token text rest place n kind f within is looked token some =
    ap (scanned_from 0 (place + 1)) (sym is) ∙ token_step rest (place + 1) n kind (rest_is text rest place within is) (sym looked ∙ token) some
    ∙ ap (λ (l : List ℕ). token_before (record { kind = kind; text = take n l; at = place + 1 }) (scanned_from 0 (place + 1 + n) (drop n l))) is
    ∙ ap (token_before (record { kind = kind; text = take n (drop place text); at = place + 1 })) (further text place n)

pub at_fault : (text rest : List ℕ) (place n : ℕ) (kind : ScanKind) (f : Found) → place < length text → rest ≡ drop place text → f ≡ found rest → f ≡ Fault kind n
    → to_come text place ≡ fault_at kind (place + n + 1)
at_fault text rest place n kind f within is looked fault =
    ap (scanned_from 0 (place + 1)) (sym is) ∙ fault_step rest (place + 1) n kind (rest_is text rest place within is) (sym looked ∙ fault) ∙ ap (fault_at kind) (omega arith)

pub at_end : (text : List ℕ) (place : ℕ) → length text ≤ place → to_come text place ≡ nothing
at_end text place none = ap (scanned_from 0 (place + 1)) (drop_all place text none) ∙ scanned_from-nil 0 (place + 1)
