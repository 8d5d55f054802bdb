-- A text by its backticks.
use Rattle.std.proofs.Common.{◌≡◌, ◌≢◌, ◌<◌, ◌+◌, ℕ, suc, Bool, false, cond, List, [], ◌∷◌, ◌++◌, length, get_or, Some, None, refl, sym, ◌∙◌, ap, add-one, append_assoc, arith}
use Rattle.std.specs.Prelude.{◌==◌}
use Rattle.wl_expr.specs.Tree.{Tree}
use Rattle.wl_desk.specs.MessageText.{backtick, is_numeral, to_backtick, mark_digits, marked, at_backtick, filled_from, filled_text}

-- no backtick stands there
abbrev pub IsFree : List ℕ → Type 0
IsFree bs = (i : ℕ) → i < length bs → get_or bs i 0 ≢ 96

none_first : (b : ℕ) (bs : List ℕ) → IsFree (b ∷ bs) → (b == backtick) ≡ false
none_first b bs h = let first : b ≢ 96 = h 0 (omega arith) in grind (arith, first)

none_behind : (b : ℕ) (bs : List ℕ) → IsFree (b ∷ bs) → IsFree bs
none_behind b bs h i l = h (suc i) (omega arith)

pub to_backtick_free : (bs : List ℕ) → IsFree bs → to_backtick bs ≡ None
to_backtick_free [] h = refl
to_backtick_free (b ∷ bs) h = rw (none_first b bs h, to_backtick_free bs (none_behind b bs h)) refl

pub to_backtick_first : (before after : List ℕ) → IsFree before → to_backtick (before ++ 96 ∷ after) ≡ Some before
to_backtick_first [] after h = refl
to_backtick_first (b ∷ bs) after h = rw (none_first b bs h, to_backtick_first bs after (none_behind b bs h)) refl

pub filled_free : (args : List Tree) (bs : List ℕ) → IsFree bs → filled_from 0 args bs ≡ bs
filled_free args [] h = refl
filled_free args (b ∷ bs) h = rw (none_first b bs h, filled_free args bs (none_behind b bs h)) refl

pub filled_first : (args : List Tree) (before after : List ℕ) → IsFree before
    → filled_from 0 args (before ++ 96 ∷ after) ≡ before ++ at_backtick args (mark_digits after) (λ n. filled_from n args after)
filled_first args [] after h = refl
filled_first args (b ∷ bs) after h = rw (none_first b bs h, filled_first args bs after (none_behind b bs h)) refl

passed : (args : List Tree) (before after : List ℕ) → filled_from (suc (length before)) args (before ++ 96 ∷ after) ≡ filled_from 0 args after
passed args [] after = refl
passed args (b ∷ bs) after = passed args bs after

pub filled_passed : (args : List Tree) (before after : List ℕ) → filled_from (length before + 1) args (before ++ 96 ∷ after) ≡ filled_from 0 args after
filled_passed args before after = rw (add-one (length before)) (passed args before after)

-- the digits of a mark, where a backtick follows
pub mark_digits_first : (before after : List ℕ) (b : Bool) → IsFree before → is_numeral before ≡ b → mark_digits (before ++ 96 ∷ after) ≡ cond b (Some before) None
mark_digits_first before after b h e = rw (to_backtick_first before after h, e) refl

pub mark_digits_free : (bs : List ℕ) → IsFree bs → mark_digits bs ≡ None
mark_digits_free bs h = rw (to_backtick_free bs h) refl

-- ---- one step of the reading

pub filled_at_mark : (args : List Tree) (before digits after : List ℕ) → IsFree before → mark_digits (digits ++ 96 ∷ after) ≡ Some digits
    → filled_text (before ++ 96 ∷ (digits ++ 96 ∷ after)) args ≡ before ++ (marked args digits ++ filled_text after args)
filled_at_mark args before digits after h e =
    filled_first args before (digits ++ 96 ∷ after) h
    ∙ ap (λ o. before ++ at_backtick args o (λ n. filled_from n args (digits ++ 96 ∷ after))) e
    ∙ ap (λ (f : List ℕ). before ++ (marked args digits ++ f)) (filled_passed args digits after)

pub filled_at_none : (args : List Tree) (before behind : List ℕ) → IsFree before → mark_digits behind ≡ None
    → filled_text (before ++ 96 ∷ behind) args ≡ before ++ (96 ∷ filled_text behind args)
filled_at_none args before behind h e =
    filled_first args before behind h ∙ ap (λ o. before ++ at_backtick args o (λ n. filled_from n args behind)) e

pub step_of : (out before piece left whole : List ℕ) (text : List ℕ) → out ++ text ≡ whole → text ≡ before ++ (piece ++ left) → ((out ++ before) ++ piece) ++ left ≡ whole
step_of out before piece left whole text h e = append_assoc (out ++ before) piece left ∙ append_assoc out before (piece ++ left) ∙ ap (λ (t : List ℕ). out ++ t) (sym e) ∙ h
