-- What a cell that was read does to a session, and the bytes that it gives. The ends of cells are this project's own.
use Rattle.std.specs.Prelude.{ℕ, ◌+◌, ◌-◌, ◌^◌, min, Bool, true, false, ◌&&◌, ◌||◌, nat_lt, if◌then◌else◌, List, [], ◌∷◌, ◌++◌, length, take, slice_index_or, Option, Some, None, Result, Ok, Err, codes, decimal}
use Rattle.wl_semantics.specs.Eval.{Go}
use Rattle.wl_semantics.specs.Outcome.{evaluated, uncaught, refilled_state, with_line}
use Rattle.wl_semantics.specs.State.{State, End, Value, Thrown, Aborted, BudgetEnded, Broke, Continued}
use Rattle.wl_expr.specs.Tree.{Tree, node, none, more, to_list}
use Rattle.wl_expr.specs.Words.{Bytes, form, is_the, null_symbol, aborted_symbol}
use Rattle.wl_form.specs.Texts.{input_text, full_text}
use Rattle.wl_session.specs.declared.counts.Counts.{Counts}
use Rattle.wl_session.specs.declared.options.Form.{Form}
use Rattle.wl_session.specs.declared.options.Form.TheVariants.{Input, Full}
use Rattle.wl_session.specs.declared.options.Options.{Options}
use Rattle.wl_session.specs.declared.session.LineEnd.{LineEnd}
use Rattle.wl_session.specs.declared.session.LineEnd.TheVariants as line_end

-- what is kept from cell to cell
pub record SessionState : Type 0 where
  pub options : Options
  pub state : State
  pub total_left : Option ℕ  -- of the total, where it is given
  pub counts : Counts
  pub flawed : Bool  -- whether some cell was refused, or its budget ended

-- ---- what is evaluated

pub record Task : Type 0 where
  pub tree : Tree
  pub silent : Bool

-- whether there are two elements or more, and the last is `Null`
abbrev pub ends_in_null : List Tree → Bool
ends_in_null ts = nat_lt 1 (length ts) && is_the (codes "Null") (slice_index_or ts (length ts - 1) null_symbol)

-- the single element that is left, or the node of those that are left
abbrev pub of_elements : List Tree → Tree
of_elements (t ∷ []) = t
of_elements ts = form (codes "CompoundExpression") ts

abbrev pub without_last : List Tree → Tree
without_last ts = of_elements (take (length ts - 1) ts)

abbrev pub task_by : Bool → Tree → List Tree → Task
task_by true t ts = record { tree = without_last ts; silent = true }
task_by false t ts = record { tree = t; silent = false }

abbrev pub is_silent : Tree → List Tree → Bool
is_silent h ts = is_the (codes "CompoundExpression") h && ends_in_null ts

-- A CompoundExpression of two or more elements whose last is `Null`, as a trailing `;` makes it, is evaluated without it, and shows no answer.
abbrev pub task : Tree → Task
task (node h ts) = task_by (is_silent h (to_list ts)) (node h ts) (to_list ts)
task t = task_by false t []

-- ---- the steps

-- the smaller of the budget and the total left
abbrev pub steps_for : Options → Option ℕ → ℕ
steps_for o None = o.steps
steps_for o (Some n) = min o.steps n

-- whether the total left is smaller than the budget
abbrev pub is_by_total : Options → Option ℕ → Bool
is_by_total o None = false
is_by_total o (Some n) = nat_lt n o.steps

abbrev pub total_of : Options → ℕ
total_of o = elim o.total [ None ↦ 0 | Some n ↦ n ]

-- the item of a budget's end, whatever is quiet or off
abbrev pub budget_item : Options → Bool → Bytes
budget_item o true = codes "General::total: Total step budget of " ++ decimal (total_of o) ++ codes " exceeded."
budget_item o false = codes "General::steps: Step budget of " ++ decimal o.steps ++ codes " exceeded."

-- ---- the end of the evaluation

pub record CellEnd : Type 0 where
  pub value : Tree
  pub is_budget : Bool
  pub state : State

abbrev pub cell_end : Tree → Bool → State → CellEnd
cell_end v b s = record { value = v; is_budget = b; state = s }

abbrev pub value_in : Result Tree End → Tree
value_in (Ok v) = v
value_in (Err e) = aborted_symbol

-- An uncaught Throw has its message and its value. The two last are none: an uncaught Break or Continue is a value already.
abbrev pub ended_by : End → State → CellEnd
ended_by (Value v) s = cell_end v false s
ended_by (Thrown v g) s = let r = Go (uncaught v g) s in cell_end (value_in r.result) false r.state
ended_by Aborted s = cell_end aborted_symbol false s
ended_by BudgetEnded s = cell_end aborted_symbol true s
ended_by Broke s = cell_end aborted_symbol false s
ended_by Continued s = cell_end aborted_symbol false s

-- how the evaluation of a cell's task with this budget ends
abbrev pub end_of_task : Tree → ℕ → State → CellEnd
end_of_task t budget s = let r = evaluated t (refilled_state budget s) in ended_by r.result r.state

-- ---- the answer

-- one outer FullForm or InputForm is taken from a value before it is kept
pub record Unwrapped : Type 0 where
  pub wrapper : Option Form
  pub kept : Tree

-- the wrapper that a head is
abbrev pub wrapper_of : Tree → Option Form
wrapper_of h = if is_the (codes "FullForm") h then Some Full else (if is_the (codes "InputForm") h then Some Input else None)

abbrev pub kept_of : Option Form → Tree → Tree → Tree
kept_of None v e = v
kept_of (Some f) v e = e

abbrev pub unwrapped : Tree → Unwrapped
unwrapped (node h (more e none)) = record { wrapper = wrapper_of h; kept = kept_of (wrapper_of h) (node h (more e none)) e }
unwrapped v = record { wrapper = None; kept = v }

abbrev pub written : Form → Tree → Bytes
written Input t = input_text t
written Full t = full_text t

abbrev pub label : Option Form → Bytes
label None = codes "= "
label (Some Full) = codes "//FullForm= "
label (Some Input) = codes "//InputForm= "

abbrev pub form_of : Option Form → Form → Form
form_of None f = f
form_of (Some g) f = g

-- the answer line of line n
abbrev pub answer_line : ℕ → Form → Unwrapped → Bytes
answer_line n f u = codes "Out[" ++ decimal n ++ codes "]" ++ label u.wrapper ++ written (form_of u.wrapper f) u.kept

-- nothing is shown of a silent cell, nor of the value `Null`
abbrev pub answer_lines : Bool → ℕ → Form → Tree → List Bytes
answer_lines silent n f v = if silent || is_the (codes "Null") v then [] else answer_line n f (unwrapped v) ∷ []

-- texts with a line feed behind each
abbrev pub lines : List Bytes → Bytes
lines [] = []
lines (text ∷ others) = text ++ 10 ∷ [] ++ lines others

-- ---- the line

pub record Answer : Type 0 where
  pub pending : Bytes
  pub end : LineEnd
  pub session : SessionState

-- a count stands at its last number once it got there
abbrev pub counted : ℕ → ℕ → ℕ
counted n k = min (n + k) (2 ^ 64 - 1)

abbrev pub left_of : Option ℕ → ℕ → Option ℕ
left_of None k = None
left_of (Some n) k = Some (n - k)

abbrev pub end_of_line : Bool → LineEnd
end_of_line true = line_end.BudgetEnded
end_of_line false = line_end.Answered

-- the item behind those of the kernel, where the budget ended
abbrev pub last_items : Options → Option ℕ → Bool → List Bytes
last_items o left true = budget_item o (is_by_total o left) ∷ []
last_items o left false = []

-- what is shown of line n, by its value, whether its budget ended, and the items of the kernel
abbrev pub shown_text : Options → Option ℕ → Bool → ℕ → Tree → Bool → List Bytes → Bytes
shown_text o left silent n v is_budget items = lines (items ++ last_items o left is_budget ++ answer_lines silent n o.form v)

-- what is left where the cell was read as t, and the evaluation for its task with this budget ended so
abbrev pub after : SessionState → Tree → Bool → ℕ → CellEnd → Answer
after s t silent budget e =
    let taken = budget - e.state.steps in
    record {
      pending = shown_text s.options s.total_left silent (length s.state.world.history + 1) e.value e.is_budget e.state.world.desk.items;
      end = end_of_line e.is_budget;
      session = record s {
        state = with_line t (unwrapped e.value).kept e.state;
        total_left = left_of s.total_left taken;
        counts = record s.counts { cells = counted s.counts.cells 1; steps = counted s.counts.steps taken };
        flawed = s.flawed || e.is_budget;
      };
    }

-- a cell that is read: the evaluation of its task with its steps, the items, the item of a budget's end, and the answer line
abbrev pub line : SessionState → Tree → Answer
line s t =
    let budget = steps_for s.options s.total_left in
    after s t (task t).silent budget (end_of_task (task t).tree budget s.state)
