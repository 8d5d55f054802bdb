-- Where a text may be cut: behind the forms of a token what is left is UTF-8 again.
use Rattle.std.proofs.Common.{inl, inr, ◌≡◌, ◌==◌, ℕ, zero, suc, ◌+◌, ◌≤◌, ◌<◌, Bool, true, cond, List, [], ◌∷◌, ◌++◌, take, drop, ap, sym, ◌∙◌, arith}
use Rattle.std.proofs.lemmas.List.Sums.{prefix_len-le-length}
use Rattle.std.specs.List.{prefix_len}
use Rattle.std.specs.Str.{IsUtf8, IsCharBoundary}
use Rattle.std.proofs.lemmas.Str.{encode_ascii, IsUtf8-past_char, IsCharBoundary-from_drop}
use Rattle.std.proofs.lemmas.Bool.{cases_Bool, cond-true, cond-false, eqb-true}
use Rattle.wl_scan.specs.Lengths.{marks_length}

pub past_ascii : (b : ℕ) (bs : List ℕ) → b < 128 → IsUtf8 (b ∷ bs) → IsUtf8 bs
past_ascii b bs ascii utf8 = IsUtf8-past_char (b ∷ bs) bs b utf8 (ap (λ (l : List ℕ). l ++ bs) (sym (encode_ascii b ascii)))

-- behind some of the bytes of a run of ASCII
pub past_prefix : (p : ℕ → Bool) (ascii : (b : ℕ) → p b ≡ true → b < 128) (n : ℕ) (text : List ℕ) → IsUtf8 text → n ≤ prefix_len p text → IsUtf8 (drop n text)
past_prefix p ascii zero text utf8 within = utf8
past_prefix p ascii (suc n) [] utf8 within = utf8
past_prefix p ascii (suc n) (b ∷ bs) utf8 within =
    elim (cases_Bool (p b)) [
      | inl passes ↦
          let more : prefix_len p (b ∷ bs) ≡ 1 + prefix_len p bs = ap (λ (t : Bool). cond t (1 + prefix_len p bs) 0) passes in
          past_prefix p ascii n bs (past_ascii b bs (ascii b passes) utf8) (omega (arith, within, more))
      | inr fails ↦
          let none : prefix_len p (b ∷ bs) ≡ 0 = cond-false (p b) _ _ fails in
          absurd (omega (arith, within, none))
    ]

-- a run is no longer in the first n bytes
prefix_front : (p : ℕ → Bool) (n : ℕ) (text : List ℕ) → prefix_len p (take n text) ≤ prefix_len p text
prefix_front p zero text = omega arith
prefix_front p (suc n) [] = omega arith
prefix_front p (suc n) (b ∷ bs) =
    let rest = prefix_front p n bs in
    elim (cases_Bool (p b)) [
      | inl passes ↦ omega (arith, rest, cond-true (p b) (1 + prefix_len p (take n bs)) 0 passes, cond-true (p b) (1 + prefix_len p bs) 0 passes)
      | inr fails ↦ omega (arith, cond-false (p b) (1 + prefix_len p (take n bs)) 0 fails)
    ]

pub prefix_boundary : (p : ℕ → Bool) (ascii : (b : ℕ) → p b ≡ true → b < 128) (n : ℕ) (text : List ℕ) → IsUtf8 text → n ≤ prefix_len p text → IsCharBoundary text n
prefix_boundary p ascii n text utf8 within =
    IsCharBoundary-from_drop text n (omega (arith, within, prefix_len-le-length p text)) (past_prefix p ascii n text utf8 within)

-- behind up to three `_`
pub marks_within : (text : List ℕ) → marks_length text ≤ prefix_len (λ b. b == 95) text
marks_within text = prefix_front (λ b. b == 95) 3 text

pub marks_boundary : (text bytes : List ℕ) (n : ℕ) → IsUtf8 text → bytes ≡ text → n ≡ marks_length bytes → IsCharBoundary text n
marks_boundary text bytes n utf8 same count =
    let all : n ≡ marks_length text = count ∙ ap marks_length same in
    prefix_boundary (λ b. b == 95) (λ b is95. omega (arith, eqb-true b 95 is95)) n text utf8 (omega (arith, all, marks_within text))
