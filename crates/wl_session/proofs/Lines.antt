-- Lines, one after the other.
use Rattle.std.proofs.Common.{◌≡◌, ◌<◌, ◌+◌, ◌++◌, ℕ, List, [], ◌∷◌, length, take, get_or, refl, sym, ap, ◌∙◌, append_assoc, append-nil}
use Rattle.std.proofs.lemmas.List.{take_more}
use Rattle.wl_expr.specs.Words.{Bytes}
use Rattle.wl_session.specs.Line.{lines}

lines_append : (xs ys : List Bytes) → lines (xs ++ ys) ≡ lines xs ++ lines ys
lines_append [] ys = refl
lines_append (x ∷ xs) ys = ap (λ (l : Bytes). x ++ 10 ∷ [] ++ l) (lines_append xs ys) ∙ sym (append_assoc (x ++ 10 ∷ []) (lines xs) (lines ys))

-- one item more
pub lines_more : (items : List Bytes) (i : ℕ) (item line text more : Bytes) → i < length items → item ≡ get_or items i item → line ≡ item → text ≡ lines (take i items) → more ≡ text ++ line ++ 10 ∷ [] → more ≡ lines (take (i + 1) items)
lines_more items i item line text more within is same so_far put =
    put ∙ append_assoc text line (10 ∷ []) ∙ ap (λ (l : Bytes). l ++ (line ++ 10 ∷ [])) so_far ∙ ap (λ (l : Bytes). lines (take i items) ++ (l ++ 10 ∷ [])) same
    ∙ ap (λ (l : Bytes). lines (take i items) ++ l) (sym (append-nil (item ++ 10 ∷ []))) ∙ sym (lines_append (take i items) (item ∷ []))
    ∙ ap (λ (l : Bytes). lines (take i items ++ l ∷ [])) is ∙ ap lines (sym (take_more items i item within))

-- all items, and what stands behind them
pub lines_all : (items last answer : List Bytes) (text with_last whole : Bytes) → text ≡ lines items → with_last ≡ text ++ lines last → whole ≡ with_last ++ lines answer → whole ≡ lines (items ++ last ++ answer)
lines_all items last answer text with_last whole so_far put putting =
    putting ∙ ap (λ (l : Bytes). l ++ lines answer) (put ∙ ap (λ (l : Bytes). l ++ lines last) so_far ∙ sym (lines_append items last)) ∙ sym (lines_append (items ++ last) answer)
