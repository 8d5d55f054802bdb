-- A kernel as contracts see it: the state of the definition that it is in, and when what it keeps is honest.
use Rattle.std.specs.Prelude.{ℕ, ◌≡◌, Bool, List, [], ◌∷◌, ◌++◌, map, option_map, option_to_list, Option, None, codes, refl, ⊤}
use Rattle.std.specs.Coded.{Coded, code_by, coded×, coded_list, coded_ℕ, coded_bool}
use Rattle.std.specs.List.{All}
use Rattle.wl_desk.specs.Desk.{Desk, refilled}
use Rattle.wl_desk.specs.DeskCode.{desk_code}
use Rattle.wl_state.specs.Honest.{HonestIn, HonestOption, HonestStore}
use Rattle.wl_state.specs.Outcomes.{HonestOutcomeIn}
use Rattle.wl_state.specs.Played.{HonestLine, Sound, plain_line}
use Rattle.wl_expr.specs.Stamped.{Stamped, from_list, node, plain, stamped_code, symbol}
use Rattle.wl_expr.specs.Tree.{Tree}
use Rattle.wl_expr.specs.Words.{Name}
use Rattle.wl_rules.specs.Stored.{Stored, definitions}
use Rattle.wl_rules.specs.StoredCodes.{stored_code}
use Rattle.wl_semantics.specs.Outcome.{thrown}
use Rattle.wl_semantics.specs.State as spec
use Rattle.wl_semantics.specs.State.{State, End}
use Rattle.wl_state.specs.declared.evaluator.Evaluator.{Evaluator}
use Rattle.wl_state.specs.declared.evaluator.Line.{Line}
use Rattle.wl_state.specs.declared.outcome.Outcome.{Outcome}
use Rattle.wl_state.specs.declared.outcome.Outcome.TheVariants.{Value, Thrown, Aborted, BudgetEnded}

pub record KernelView : Type 0 where
  pub store : Stored
  pub lines : List Line  -- the history
  pub modules : ℕ  -- the last module number
  pub desk : Desk
  pub steps : ℕ  -- the steps left
  pub dead : Bool  -- whether memory ran out

-- a line is stored as the pair of its expressions
abbrev pub line_code : Coded Line
line_code = code_by (Stamped × Stamped) (coded× stamped_code stamped_code) (λ l. (l.input, l.value)) (λ p. record { input = p.0; value = p.1 }) (λ _. refl)

abbrev pub kernel_code : Coded KernelView
kernel_code =
    code_by (_ × _) (coded× stored_code (coded× (coded_list line_code) (coded× coded_ℕ (coded× desk_code (coded× coded_ℕ coded_bool)))))
    (λ v. (v.store, (v.lines, (v.modules, (v.desk, (v.steps, v.dead))))))
    (λ p. record { store = p.0; lines = p.1.0; modules = p.1.1.0; desk = p.1.1.1.0; steps = p.1.1.1.1.0; dead = p.1.1.1.1.1 }) (λ _. refl)

-- ---- its state

-- lines without their stamps
abbrev pub plain_lines : List Line → List spec.Line
plain_lines lines = map plain_line lines

-- between the calls of a kernel no evaluation is open
abbrev pub state_of : KernelView → State
state_of v = record {
  world = record { definitions = definitions v.store; history = plain_lines v.lines; module_number = v.modules; desk = v.desk };
  steps = v.steps;
  depth = 0;
}

-- ---- what is honest

abbrev pub Honest : KernelView → Stamped → Type 0
Honest v e = HonestIn v.store e

abbrev pub HonestMaybe : KernelView → Option Stamped → Type 0
HonestMaybe v o = HonestOption v.store o

abbrev pub HonestOutcome : KernelView → Outcome → Type 0
HonestOutcome v o = HonestOutcomeIn v.store o

-- what is kept is honest
pub record IsSound (v : KernelView) : Type 0 where
  pub rules : HonestStore v.store
  pub history : All (HonestLine v.store) v.lines

-- ---- what a kernel has

-- an evaluator and the lines that are kept, as contracts see them
abbrev pub view_of : Evaluator → List Line → Bool → KernelView
view_of e lines dead = record { store = e.store; lines = lines; modules = e.modules; desk = e.desk; steps = e.steps; dead = dead }

-- Between the calls of a kernel its evaluator is sound, at no depth, and notes nothing. Its history is that of the lines that are kept.
pub record IsIdle (e : Evaluator) (lines : List Line) : Type 0 where
  pub sound : Sound e
  pub depth : e.depth ≡ 0
  pub log : e.log ≡ None
  pub same : plain_lines lines ≡ plain_lines e.history.items
  pub honest : All (HonestLine e.store) lines

-- ---- what calls do

-- a cell begins
abbrev pub refilled_view : ℕ → KernelView → KernelView
refilled_view n v = record v { desk = refilled v.desk; steps = n }

-- a line is kept
abbrev pub with_line_view : Line → KernelView → KernelView
with_line_view l v = record v { lines = v.lines ++ l ∷ [] }
