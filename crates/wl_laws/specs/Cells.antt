-- Cells one after the other from a new kernel, and what each gives; a form of it that computes.
use Prim.Native.String.{String}
use Rattle.std.specs.Prelude.{ℕ, Bool, List, [], ◌∷◌, length, Result, Ok, Err, codes}
use Rattle.std.specs.Fmt.{digits}
use Rattle.wl_expr.specs.Tree.{Tree, symbol, text}
use Rattle.wl_expr.specs.Same.{first_names}
use Rattle.wl_expr.specs.Words.{Name, Bytes, form, aborted_symbol}
use Rattle.wl_semantics.specs.State.{State, End, Value, Thrown}
use Rattle.wl_semantics.specs.Prog.{◌>>=◌, ended, now, end_of, entry_of, tick, ticks, doing, asking, sized, or_else, attributes_of, is_protected}
use Rattle.wl_semantics.specs.Effects.{acted}
use Rattle.wl_semantics.specs.Eval.{Eval, Go, Turns, turns_at, interp}
use Rattle.wl_semantics.specs.Outcome.{evaluated, uncaught, new_state, refilled_state, with_line}
use Rattle.wl_semantics.specs.Scoping.{initials, set_locals, blocked, take_all, set_all, give_all}
use Rattle.wl_semantics.specs.Match.{flags_of, walk, each_applies, test_holds, tests_hold, matches_within, guard_within, trial}
use Rattle.wl_semantics.specs.Control.{played}
use Rattle.wl_semantics.specs.Elements.{evaluated_on}
use Rattle.wl_semantics.specs.Definitions.{evaluated_core, define_tags, set, set_each}
use Rattle.wl_semantics.specs.EntryRows.{clear_each, change_each}
use Rattle.wl_semantics.specs.MatchRows.{any_matches, matching, unmatched, count_matching, cases_by, replace_all, replace_each, replace_repeated}
use Rattle.wl_semantics.specs.BuiltIn.{row}
use Rattle.wl_semantics.specs.Turn.{up_result, turn}
use Rattle.wl_control.specs.Iterators.{do_from, table_from}
use Rattle.wl_control.specs.Loops.{loop_from}
use Rattle.wl_control.specs.Families.{nest_from, nest_list_from, fixed_point_from}
use Rattle.wl_form.specs.Heads.{row_of}

-- the value of a cell, the items shown, and what was done
pub record Gave : Type 0 where
  pub value : Tree
  pub items : List Bytes
  pub steps : ℕ
  pub names : List Name  -- each once, in the order in which they were first read
  pub effect : Bool
  pub depth : ℕ
  pub turns : ℕ

-- the same with the number of items
pub record Brief : Type 0 where
  pub value : Tree
  pub items : ℕ
  pub steps : ℕ
  pub names : List Name
  pub effect : Bool
  pub depth : ℕ
  pub turns : ℕ

abbrev pub brief : Gave → Brief
brief g = record { value = g.value; items = length g.items; steps = g.steps; names = g.names; effect = g.effect; depth = g.depth; turns = g.turns }

abbrev pub briefs : List Gave → List Brief
briefs [] = []
briefs (g ∷ gs) = brief g ∷ briefs gs

-- ---- the value that is kept of a cell, and the state after it

pub record Kept : Type 0 where
  pub value : Tree
  pub state : State

abbrev pub caught_at_top : Result Tree End → Tree
caught_at_top (Ok v) = v
caught_at_top (Err e) = aborted_symbol

abbrev pub kept : End → State → Kept
kept (Value v) s = record { value = v; state = s }
kept (Thrown v t) s = let r = Go (uncaught v t) s in record { value = caught_at_top r.result; state = r.state }
kept e s = record { value = aborted_symbol; state = s }

-- each cell with so many steps
unfoldable pub cells_from : ℕ → List Tree → State → List Gave
unfolding ◌>>=◌ ended now end_of entry_of tick ticks doing asking sized or_else attributes_of is_protected acted Eval Turns turns_at interp initials set_locals blocked take_all set_all give_all flags_of walk each_applies test_holds tests_hold matches_within guard_within trial played evaluated_on evaluated_core define_tags set set_each clear_each change_each any_matches matching unmatched count_matching cases_by replace_all replace_each replace_repeated row up_result turn loop_from do_from table_from nest_from nest_list_from fixed_point_from row_of digits
cells_from n [] s = []
cells_from n (t ∷ ts) s =
    let r = evaluated t (refilled_state n s) in
    let k = kept r.result r.state in
    record { value = k.value; items = k.state.world.desk.items; steps = r.did.steps; names = first_names [] r.did.names; effect = r.did.effect; depth = r.did.depth; turns = r.did.turns }
    ∷ cells_from n ts (with_line t k.value k.state)

-- from a new kernel
unfoldable pub cells : ℕ → List Tree → List Gave
unfolding cells_from
cells n ts = cells_from n ts (new_state n)

-- ---- short words for trees

abbrev pub name : String → Tree
name s = symbol (codes s)

abbrev pub string : String → Tree
string s = text (codes s)

-- `f[t1, t2, ..]`
abbrev pub call : String → List Tree → Tree
call f ts = form (codes f) ts
