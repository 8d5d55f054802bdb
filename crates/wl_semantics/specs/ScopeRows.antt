-- Module, With, Block, and what Function gives of arguments. Tutorials on modularity and on pure functions.
use Rattle.std.specs.Prelude.{ℕ, zero, suc, Bool, true, false, nat_le, List, [], ◌∷◌, length, drop, Option, Some, None, slice_get, option_map, unwrap_or, codes}
use Rattle.wl_expr.specs.Tree.{Tree, Trees, num, text, symbol, node, none, more, to_list}
use Rattle.wl_expr.specs.Words.{Name, is_the, is_form, elements, count_of, sequence_of}
use Rattle.wl_shape.specs.Scopes.{Local, values, names, locals, function_names}
use Rattle.wl_shape.specs.Fill.{replace}
use Rattle.wl_semantics.specs.Prog.{Prog, ◌>>=◌, value_of, unchanged, result}
use Rattle.wl_semantics.specs.Scoping.{module_body, with_body, in_block}

-- ---- Module, With, Block

abbrev pub given : Prog Tree → Prog (Option Tree)
given p = do
  u ← p
  result u

abbrev pub module_by : Option (List Local) → Tree → Prog (Option Tree)
module_by None b = unchanged
module_by (Some ls) b = given (module_body false ls b)

-- `Module[{x, y = v}, b]`
abbrev pub module_row : List Tree → Prog (Option Tree)
module_row (v ∷ b ∷ []) = module_by (locals names v) b
module_row es = unchanged

abbrev pub with_by : Option (List Local) → Tree → Prog (Option Tree)
with_by None b = unchanged
with_by (Some ls) b = given (with_body ls b)

-- `With[{x = v}, b]`
abbrev pub with_row : List Tree → Prog (Option Tree)
with_row (v ∷ b ∷ []) = with_by (locals values v) b
with_row es = unchanged

abbrev pub block_by : Option (List Local) → Tree → Prog (Option Tree)
block_by None b = unchanged
block_by (Some ls) b = given (in_block ls (value_of b))

-- `Block[{x = v, y}, b]` gives the body's value
abbrev pub block_row : List Tree → Prog (Option Tree)
block_row (v ∷ b ∷ []) = block_by (locals names v) b
block_row es = unchanged

-- ---- Function

-- `#n` is the argument with that number, `#0` the function; `##n` is all arguments from that number on, perhaps none. A slot for which there is no argument stays.
abbrev pub slot : Tree → List Tree → Tree → ℕ → Tree
slot f args t zero = f
slot f args t (suc n) = unwrap_or (slice_get args n) t

abbrev pub slots_from : List Tree → Tree → ℕ → Tree
slots_from args t zero = t
slots_from args t (suc n) = elim (nat_le n (length args)) [ true ↦ sequence_of (drop n args) | false ↦ t ]

-- what stands for a slot, or for a slot sequence
abbrev pub slot_of : Tree → List Tree → Tree → Tree → List Tree → Option Tree
slot_of f args t h (n ∷ []) =
    elim (is_the (codes "Slot") h) [
      | true ↦ option_map (slot f args t) (count_of n)
      | false ↦ elim (is_the (codes "SlotSequence") h) [ true ↦ option_map (slots_from args t) (count_of n) | false ↦ None ]
    ]
slot_of f args t h ts = None

-- an inner Function of one element has slots of its own
abbrev pub is_inner : Tree → List Tree → Bool
is_inner h (b ∷ []) = is_the (codes "Function") h
is_inner h ts = false

-- the body with its slots replaced; this renames nothing within
abbrev mutual
  pub with_slots : Tree → List Tree → Tree → Tree
  with_slots f args (num n) = num n
  with_slots f args (text s) = text s
  with_slots f args (symbol x) = symbol x
  with_slots f args (node h ts) =
      elim (is_inner h (to_list ts)) [
        | true ↦ node h ts
        | false ↦ elim (slot_of f args (node h ts) h (to_list ts)) [ Some u ↦ u | None ↦ node (with_slots f args h) (with_slots_in f args ts) ]
      ]

  pub with_slots_in : Tree → List Tree → Trees → Trees
  with_slots_in f args none = none
  with_slots_in f args (more t ts) = more (with_slots f args t) (with_slots_in f args ts)

-- with too few arguments the expression stays; those that are too many are dropped
abbrev pub with_names : Tree → Option (List Name) → List Tree → Option Tree
with_names b None args = None
with_names b (Some xs) args = elim (nat_le (length xs) (length args)) [ true ↦ Some (replace b xs args) | false ↦ None ]

-- `Function[b][args]`, `Function[x, b][args]`, `Function[{x, y}, b][args]`
abbrev pub function_by : Tree → List Tree → List Tree → Option Tree
function_by f (b ∷ []) args = Some (with_slots f args b)
function_by f (x ∷ b ∷ []) args = with_names b (function_names x) args
function_by f ts args = None

abbrev pub function_applied : Tree → List Tree → Option Tree
function_applied f args = elim (is_form (codes "Function") f) [ true ↦ function_by f (elements f) args | false ↦ None ]
