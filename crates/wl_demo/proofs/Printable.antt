-- Each cell is printable.
use Rattle.std.proofs.Common.{◌≡◌, ℕ, zero, suc, ◌/◌, ◌%◌, ◌<◌, Bool, true, false, [], ◌∷◌, ◌&&◌, ◌==◌, refl, ap, ◌∙◌, arith}
use Rattle.std.proofs.lemmas.Bool.Decides.{nat_tests}
use Rattle.std.proofs.lemmas.List.Folds.{list_all-append}
use Rattle.std.specs.Fmt.{digits, digits_onto, digit_glyph}
use Rattle.std.specs.List.{list_all, All}
use Rattle.std.specs.Prelude.{decimal, if◌then◌else◌}
use Rattle.wl_demo.specs.Laws.{IsLine, is_printable}
use Rattle.wl_demo.proofs.Forms.{in_form_each}
use Rattle.wl_demo.specs.Notebook.{Bytes, cell, cells_after, drawn, first_of, second_of, state_for}

glyph : (d : ℕ) → d < 10 → is_printable (digit_glyph false d) ≡ true
glyph d below = grind (arith, nat_tests)

digits_onto_line : (k n : ℕ) (acc : Bytes) → IsLine acc → IsLine (digits_onto k 10 false n acc)
digits_onto_line zero n acc h = h
digits_onto_line (suc k) n acc h =
    let more : IsLine (digit_glyph false (n % 10) ∷ acc) = ap (λ (b : Bool). b && list_all is_printable acc) (glyph (n % 10) (omega arith)) ∙ h in
    elim (n / 10 == 0) as (λ (b : Bool). IsLine (if b then digit_glyph false (n % 10) ∷ acc else digits_onto k 10 false (n / 10) (digit_glyph false (n % 10) ∷ acc))) [ true ↦ more | false ↦ digits_onto_line k (n / 10) (digit_glyph false (n % 10) ∷ acc) more ]

number : (n : ℕ) → IsLine (decimal n)
unfolding digits
number n = digits_onto_line 64 n [] refl

cell_line : (n k : ℕ) → IsLine (cell n k)
cell_line n k =
    let r = drawn (state_for n k) in
    in_form_each IsLine (r % 5) k (first_of r) (second_of r) (simp (list_all-append, number) refl) (simp (list_all-append, number) refl)
    (simp (list_all-append, number) refl) (simp (list_all-append, number) refl) (simp (list_all-append, number) refl)

pub cells_lines : (n k more : ℕ) → All IsLine (cells_after n k more)
cells_lines n k zero i d below = absurd (omega (arith, below))
cells_lines n k (suc more) zero d below = cell_line n (suc k)
cells_lines n k (suc more) (suc i) d below = cells_lines n (suc k) more i d (omega (arith, below))
