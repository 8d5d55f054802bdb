-- The table of built-in functions: which row a name has.
use Rattle.std.specs.Prelude.{true, false, List, [], ◌∷◌, Option, Some, None, codes, bytes_eq}
use Rattle.wl_expr.specs.Tree.{Tree, symbol, node, to_list}
use Rattle.wl_expr.specs.Words.{Name}
use Rattle.wl_semantics.specs.Prog.{Prog, done, ◌>>=◌, sized, unchanged, result}
use Rattle.wl_semantics.specs.Control.{control_row}
use Rattle.wl_semantics.specs.Definitions.{set_row, set_delayed_row, up_set_row, up_set_delayed_row, tag_set_row, tag_set_delayed_row, unset_row, tag_unset_row, add_to_row, subtract_from_row, times_by_row, divide_by_row, append_to_row, prepend_to_row, pre_increment_row, pre_decrement_row, increment_row, decrement_row}
use Rattle.wl_semantics.specs.EntryRows.{clear_row, clear_all_row, attributes_row, set_attributes_row, clear_attributes_row, protect_row, unprotect_row}
use Rattle.wl_semantics.specs.MatchRows.{match_row, member_row, count_row, cases_row, delete_cases_row, free_row, replace_row, replace_all_row, replace_repeated_row}
use Rattle.wl_semantics.specs.ScopeRows.{module_row, with_row, block_row, function_applied}
use Rattle.wl_semantics.specs.EndRows.{throw_row, catch_row, abort_row, check_abort_row, break_row, continue_row}
use Rattle.wl_semantics.specs.MessageRows.{print_row, message_row, off_row, on_row, message_name_row, quiet_row, check_row, out_row, in_row}
use Rattle.wl_semantics.specs.PureRows.{pure_row}

abbrev pub Row : Type 0
Row = List Tree → Prog (Option Tree)

abbrev pub definition_rows : List (Name × Row)
definition_rows =
    (codes "Set", set_row) ∷ (codes "SetDelayed", set_delayed_row) ∷ (codes "UpSet", up_set_row) ∷ (codes "UpSetDelayed", up_set_delayed_row)
    ∷ (codes "TagSet", tag_set_row) ∷ (codes "TagSetDelayed", tag_set_delayed_row) ∷ (codes "Unset", unset_row) ∷ (codes "TagUnset", tag_unset_row)
    ∷ (codes "AddTo", add_to_row) ∷ (codes "SubtractFrom", subtract_from_row) ∷ (codes "TimesBy", times_by_row) ∷ (codes "DivideBy", divide_by_row)
    ∷ (codes "AppendTo", append_to_row) ∷ (codes "PrependTo", prepend_to_row) ∷ (codes "PreIncrement", pre_increment_row)
    ∷ (codes "PreDecrement", pre_decrement_row) ∷ (codes "Increment", increment_row) ∷ (codes "Decrement", decrement_row) ∷ []

abbrev pub entry_rows : List (Name × Row)
entry_rows =
    (codes "Clear", clear_row) ∷ (codes "ClearAll", clear_all_row) ∷ (codes "Attributes", attributes_row) ∷ (codes "SetAttributes", set_attributes_row)
    ∷ (codes "ClearAttributes", clear_attributes_row) ∷ (codes "Protect", protect_row) ∷ (codes "Unprotect", unprotect_row) ∷ []

abbrev pub match_rows : List (Name × Row)
match_rows =
    (codes "MatchQ", match_row) ∷ (codes "MemberQ", member_row) ∷ (codes "Count", count_row) ∷ (codes "Cases", cases_row) ∷ (codes "DeleteCases", delete_cases_row)
    ∷ (codes "FreeQ", free_row) ∷ (codes "Replace", replace_row) ∷ (codes "ReplaceAll", replace_all_row) ∷ (codes "ReplaceRepeated", replace_repeated_row) ∷ []

abbrev pub scope_rows : List (Name × Row)
scope_rows = (codes "Module", module_row) ∷ (codes "With", with_row) ∷ (codes "Block", block_row) ∷ []

abbrev pub end_rows : List (Name × Row)
end_rows =
    (codes "Throw", throw_row) ∷ (codes "Catch", catch_row) ∷ (codes "Abort", abort_row) ∷ (codes "CheckAbort", check_abort_row)
    ∷ (codes "Break", break_row) ∷ (codes "Continue", continue_row) ∷ []

abbrev pub message_rows : List (Name × Row)
message_rows =
    (codes "Print", print_row) ∷ (codes "Message", message_row) ∷ (codes "Off", off_row) ∷ (codes "On", on_row) ∷ (codes "MessageName", message_name_row)
    ∷ (codes "Quiet", quiet_row) ∷ (codes "Check", check_row) ∷ (codes "Out", out_row) ∷ (codes "In", in_row) ∷ []

-- the row of a name among these, or what else there is
abbrev pub row_in : Name → List (Name × Row) → Option Row → Option Row
row_in x [] other = other
row_in x (r ∷ rs) other = elim (bytes_eq x r.0) [ true ↦ Some r.1 | false ↦ row_in x rs other ]

abbrev pub special_row : Name → Option Row
special_row x =
    row_in x definition_rows (row_in x entry_rows (row_in x match_rows (row_in x scope_rows (row_in x end_rows (row_in x message_rows (control_row x))))))

-- a row of its own here, or else one that looks at its elements alone
abbrev pub row_by : Option Row → Name → List Tree → Prog (Option Tree)
row_by None x es = pure_row x es
row_by (Some f) x es = f es

unfoldable pub row : Name → List Tree → Prog (Option Tree)
row x es = row_by (special_row x) x es

-- the row of the head; for another head, what it gives as a function
abbrev pub built_in_of : Tree → List Tree → Prog (Option Tree)
built_in_of (symbol x) es = row x es
built_in_of h es = done (function_applied h es)

abbrev pub sized_result : Option Tree → Prog (Option Tree)
sized_result None = unchanged
sized_result (Some t) = do
  _ ← sized t
  result t

-- a result that doesn't fit isn't given
abbrev pub built_in : Tree → Prog (Option Tree)
built_in (node h ts) = do
  r ← built_in_of h (to_list ts)
  sized_result r
built_in t = unchanged
