-- What is said of each form is said of a cell.
use Rattle.std.proofs.Common.{ℕ, Bool, true, false, ◌==◌}
use Rattle.std.specs.Prelude.{if◌then◌else◌}
use Rattle.wl_demo.specs.Notebook.{Bytes, in_form, total_of_squares, assignment, sorting, replacement, real_number}

choice : (P : Bytes → Type 0) (c : Bool) (s t : Bytes) → P s → P t → P (if c then s else t)
choice P true s t p q = p
choice P false s t p q = q

pub in_form_each : (P : Bytes → Type 0) (form k a b : ℕ) → P (total_of_squares a) → P (assignment k a b) → P (sorting k a b) → P (replacement k a b) → P (real_number a) → P (in_form form k a b)
in_form_each P form k a b total assigned sorted replaced real =
    choice P (form == 0) _ _ total (choice P (form == 1) _ _ assigned (choice P (form == 2) _ _ sorted (choice P (form == 3) _ _ replaced real)))
