-- How many cells a notebook has, and what is left of it behind a cell.
use Rattle.std.proofs.Common.{◌≡◌, ℕ, zero, suc, ◌+◌, ◌-◌, ◌/◌, ◌<◌, ◌≤◌, [], ◌∷◌, ◌++◌, length, refl, ap, sym, ◌∙◌, arith, add-one}
use Rattle.wl_demo.specs.Notebook.{Bytes, cell, cell_for, cells_after, next_state, state_for}

pub length-cells_after : (n k more : ℕ) → length (cells_after n k more) ≡ more
length-cells_after n k zero = refl
length-cells_after n k (suc more) = ap suc (length-cells_after n (suc k) more)

cells_after-next : (n k : ℕ) → k < n → cells_after n k (n - k) ≡ cell n (suc k) ∷ cells_after n (suc k) (n - suc k)
cells_after-next n k below = let e : n - k ≡ suc (n - suc k) = omega arith in ap (cells_after n k) e

-- with the state for the next cell drawn from that for the last one, and the cell's text put into an empty line
pub cells_after-given : (n k s t : ℕ) (line cleared : Bytes) → k ≤ n → ¬ (k ≡ n) → s ≡ state_for n k → t ≡ next_state s → cleared ≡ [] → line ≡ cleared ++ cell_for (k + 1) (t / 65536)
    → cells_after n k (n - k) ≡ line ∷ cells_after n (k + 1) (n - (k + 1))
cells_after-given n k s t line cleared within left last drawn empty put =
    let text : line ≡ cell n (suc k) =
    put ∙ ap (λ (front : Bytes). front ++ cell_for (k + 1) (t / 65536)) empty ∙ ap (λ m. cell_for m (t / 65536)) (add-one k)
    ∙ ap (λ u. cell_for (suc k) (u / 65536)) (drawn ∙ ap next_state last) in
    cells_after-next n k (omega (arith, within, left)) ∙ ap (λ (x : Bytes). x ∷ cells_after n (suc k) (n - suc k)) (sym text)
    ∙ ap (λ m. line ∷ cells_after n m (n - m)) (sym (add-one k))
