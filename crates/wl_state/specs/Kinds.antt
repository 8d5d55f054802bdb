-- The rows that evaluate or that change something, by their kinds.
use Rattle.std.specs.Prelude.{Bool, false, ◌&&◌, nat_le, [], ◌∷◌, Option, None}
use Rattle.wl_expr.specs.Words.{Name}
use Rattle.wl_semantics.specs.Definitions.{set_row, set_delayed_row, up_set_row, up_set_delayed_row, tag_set_row, tag_set_delayed_row, unset_row, tag_unset_row, add_to_row, subtract_from_row, times_by_row, divide_by_row, append_to_row, prepend_to_row, pre_increment_row, pre_decrement_row, increment_row, decrement_row}
use Rattle.wl_semantics.specs.EntryRows.{clear_row, clear_all_row, attributes_row, set_attributes_row, clear_attributes_row, protect_row, unprotect_row}
use Rattle.wl_semantics.specs.MatchRows.{match_row, member_row, count_row, cases_row, delete_cases_row, free_row, replace_row, replace_all_row, replace_repeated_row}
use Rattle.wl_semantics.specs.ScopeRows.{module_row, with_row, block_row}
use Rattle.wl_semantics.specs.EndRows.{throw_row, catch_row, abort_row, check_abort_row, break_row, continue_row}
use Rattle.wl_semantics.specs.MessageRows.{print_row, message_row, off_row, on_row, message_name_row, quiet_row, check_row, out_row, in_row}
use Rattle.wl_semantics.specs.BuiltIn.{Row, row_in, definition_rows, entry_rows, match_rows, scope_rows, end_rows, message_rows}
use Rattle.wl_state.specs.declared.kind.Kind as kind
use Rattle.wl_state.specs.declared.kind.Kind.TheVariants.{Set, SetDelayed, UpSet, UpSetDelayed, TagSet, TagSetDelayed, Unset, TagUnset, AddTo, SubtractFrom, TimesBy, DivideBy, AppendTo, PrependTo, PreIncrement, PreDecrement, Increment, Decrement, Clear, ClearAll, Attributes, SetAttributes, ClearAttributes, Protect, Unprotect, MatchQ, MemberQ, Count, Cases, DeleteCases, FreeQ, Replace, ReplaceAll, ReplaceRepeated, Module, With, Block, Throw, Catch, Abort, CheckAbort, Break, Continue, Print, Message, Off, On, MessageName, Quiet, Check, Out, In}

-- names of built-in functions begin with a capital letter
abbrev pub begins_capital : Name → Bool
begins_capital [] = false
begins_capital (c ∷ cs) = nat_le 65 c && nat_le c 90

-- the row of a name, where it isn't one of loops and branches
abbrev pub row_of : Name → Option Row
row_of x = row_in x definition_rows (row_in x entry_rows (row_in x match_rows (row_in x scope_rows (row_in x end_rows (row_in x message_rows None)))))

-- those of definitions and entries, and the others
abbrev pub defining_row_of : Name → Option Row
defining_row_of x = row_in x definition_rows (row_in x entry_rows None)

abbrev pub other_row_of : Name → Option Row
other_row_of x = row_in x match_rows (row_in x scope_rows (row_in x end_rows (row_in x message_rows None)))

abbrev pub row_by : kind.Kind → Row
row_by Set = set_row
row_by SetDelayed = set_delayed_row
row_by UpSet = up_set_row
row_by UpSetDelayed = up_set_delayed_row
row_by TagSet = tag_set_row
row_by TagSetDelayed = tag_set_delayed_row
row_by Unset = unset_row
row_by TagUnset = tag_unset_row
row_by AddTo = add_to_row
row_by SubtractFrom = subtract_from_row
row_by TimesBy = times_by_row
row_by DivideBy = divide_by_row
row_by AppendTo = append_to_row
row_by PrependTo = prepend_to_row
row_by PreIncrement = pre_increment_row
row_by PreDecrement = pre_decrement_row
row_by Increment = increment_row
row_by Decrement = decrement_row
row_by Clear = clear_row
row_by ClearAll = clear_all_row
row_by Attributes = attributes_row
row_by SetAttributes = set_attributes_row
row_by ClearAttributes = clear_attributes_row
row_by Protect = protect_row
row_by Unprotect = unprotect_row
row_by MatchQ = match_row
row_by MemberQ = member_row
row_by Count = count_row
row_by Cases = cases_row
row_by DeleteCases = delete_cases_row
row_by FreeQ = free_row
row_by Replace = replace_row
row_by ReplaceAll = replace_all_row
row_by ReplaceRepeated = replace_repeated_row
row_by Module = module_row
row_by With = with_row
row_by Block = block_row
row_by Throw = throw_row
row_by Catch = catch_row
row_by Abort = abort_row
row_by CheckAbort = check_abort_row
row_by Break = break_row
row_by Continue = continue_row
row_by Print = print_row
row_by Message = message_row
row_by Off = off_row
row_by On = on_row
row_by MessageName = message_name_row
row_by Quiet = quiet_row
row_by Check = check_row
row_by Out = out_row
row_by In = in_row
