-- How long a cell is, and a notebook.
use Rattle.std.proofs.Common.{ℕ, zero, suc, ◌+◌, ◌*◌, ◌^◌, ◌%◌, ◌<◌, ◌≤◌, length, arith, length-append}
use Rattle.std.proofs.lemmas.Fmt.{length-decimal-le}
use Rattle.std.specs.Prelude.{decimal}
use Rattle.wl_demo.proofs.Forms.{in_form_each}
use Rattle.wl_demo.specs.Notebook.{cell, cells_after, drawn, first_of, lines_of, second_of, state_for}

cell_short : (n k : ℕ) → k < 2 ^ 32 → length (cell n k) ≤ 28
cell_short n k small =
    let r = drawn (state_for n k) in
    let number : length (decimal k) ≤ 10 = length-decimal-le 10 k (omega arith) (omega arith) (omega arith) in
    let first : length (decimal (first_of r)) ≤ 2 = length-decimal-le 2 (first_of r) (omega arith) (omega arith) (omega arith) in
    let second : length (decimal (second_of r)) ≤ 2 = length-decimal-le 2 (second_of r) (omega arith) (omega arith) (omega arith) in
    in_form_each (λ t. length t ≤ 28) (r % 5) k (first_of r) (second_of r) (simp length-append (omega (arith, first)))
    (simp length-append (omega (arith, number, first, second))) (simp length-append (omega (arith, number, first, second)))
    (simp length-append (omega (arith, number, first, second))) (simp length-append (omega (arith, first)))

pub lines_short : (n k more : ℕ) → k + more < 2 ^ 32 → length (lines_of (cells_after n k more)) ≤ 29 * more
lines_short n k zero small = omega arith
lines_short n k (suc more) small =
    let here = cell_short n (suc k) (omega (arith, small)) in
    let further = lines_short n (suc k) more (omega (arith, small)) in
    simp length-append (omega (arith, here, further))
