-- How the code walks along indices, and keeps the parts that it has made.
use Rattle.std.specs.Prelude.{◌≡◌, ⊤, ℕ, zero, suc, nat_eq, true, false, List, [], Option, Some, None, option_map, codes, slice_get}
use Rattle.std.specs.Map.{lookup}
use Rattle.wl_expr.specs.Passed.{IsFrom}
use Rattle.wl_expr.specs.Same.{first_of_each}
use Rattle.wl_expr.specs.Stamped.{Stamped, plain}
use Rattle.wl_expr.specs.Tree.{Tree, node, to_list}
use Rattle.wl_expr.specs.Words.{applied, is_the}
use Rattle.wl_lists.specs.Parts.{Failure, missing, no_index, part_of}
use Rattle.wl_lists.specs.declared.parts.Failure as code
use Rattle.wl_lists.specs.declared.parts.Failure.TheVariants.{Missing, NoIndex}

abbrev pub plain_failure : code.Failure → Failure
plain_failure (Missing i e) = missing (plain i) (plain e)
plain_failure NoIndex = no_index

abbrev pub FailureIsFrom : List Stamped → code.Failure → Type 0
FailureIsFrom ms (Missing i e) = IsFrom ms i × IsFrom ms e
FailureIsFrom ms NoIndex = ⊤

-- what stands at a place: the head at 0, the elements from 1
abbrev pub part_standing : Tree → ℕ → Option Tree
part_standing (node h ts) zero = Some h
part_standing (node h ts) (suc k) = slice_get (to_list ts) k
part_standing e k = None

-- an index; a list with each of its indices once
abbrev pub once : Tree → Tree
once (node h ts) = elim (is_the (codes "List") h) [ true ↦ applied h (first_of_each [] (to_list ts)) | false ↦ node h ts ]
once i = i

-- what is made of the parts that stand at these places of e, by further indices
abbrev pub Made : Type 0
Made = List (ℕ × Stamped)

abbrev pub AreMade : Tree → List Tree → Made → Type 0
AreMade e is ps = (k : ℕ) (t : Stamped) → lookup (nat_eq k) ps ≡ Some t → option_map (part_of is) (part_standing e k) ≡ Some (plain t)

abbrev pub MadeAreFrom : List Stamped → Made → Type 0
MadeAreFrom ms ps = (k : ℕ) (t : Stamped) → lookup (nat_eq k) ps ≡ Some t → IsFrom ms t
