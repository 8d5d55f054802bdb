-- What the words of a command line ask for. This project's own.
use Rattle.std.specs.Prelude.{ℕ, List, [], ◌∷◌, Option, Some, None, codes, option_map, if◌then◌else◌}
use Rattle.std.specs.Str.{bytes_eq}
use Rattle.clap.specs.Words.{Row, Kinds, fault_of, first_of, matches_of}
use Rattle.wl_words.specs.Command.{command}
use Rattle.wl_words.specs.Numbers.{number}
use Rattle.wl_words.specs.declared.line.Form.{Form}
use Rattle.wl_words.specs.declared.line.Form.TheVariants.{Input, Full}
use Rattle.wl_words.specs.declared.line.Task.TheVariants as code
use Rattle.wl_words.specs.declared.line.Task as declared_task
use Rattle.wl_words.specs.declared.line.Words as declared_words

-- ---- what is asked for

-- a notebook from standard input or from a file, or a demonstration of so many cells
pub data Task : Type 0 where
  standard_input : Task
  file : List ℕ → Task
  demo : ℕ → Task

-- the steps of each cell, the steps of all cells together where they have an end, the form of the answers, and the task
pub record Words : Type 0 where
  pub steps : ℕ
  pub total : Option ℕ
  pub form : Form
  pub task : Task

-- what stands where an option isn't given
abbrev pub steps_unless_given : ℕ
steps_unless_given = 10000000

abbrev pub defaults : Task → Words
defaults task = record { steps = steps_unless_given; total = None; form = Input; task = task }

-- ---- the values of the options; None in place of a result refuses the command line

abbrev pub greatest_steps : ℕ
greatest_steps = 1000000000000

abbrev pub greatest_demo : ℕ
greatest_demo = 20000

-- `--steps N`
abbrev pub steps_from : Option (List ℕ) → Option ℕ
steps_from None = Some steps_unless_given
steps_from (Some text) = number greatest_steps text

-- `--total N`
abbrev pub total_from : Option (List ℕ) → Option (Option ℕ)
total_from None = Some None
total_from (Some text) = option_map (λ n. Some n) (number greatest_steps text)

-- `--form input` and `--form full`
abbrev pub form_from : Option (List ℕ) → Option Form
form_from None = Some Input
form_from (Some text) =
    if bytes_eq text (codes "input") then Some Input
    else (if bytes_eq text (codes "full") then Some Full else None)

-- `--demo N` and FILE, not both
abbrev pub task_from : Option (List ℕ) → Option (List ℕ) → Option Task
task_from None None = Some standard_input
task_from None (Some name) = Some (file name)
task_from (Some text) None = option_map (λ n. demo n) (number greatest_demo text)
task_from (Some text) (Some name) = None

-- ---- the command line

abbrev pub words_of_values : Option ℕ → Option (Option ℕ) → Option Form → Option Task → Option Words
words_of_values (Some n) (Some m) (Some f) (Some t) = Some (record { steps = n; total = m; form = f; task = t })
words_of_values _ _ _ _ = None

-- the matches of `clap`, row by row
abbrev pub words_of_matches : List Row → Option Words
words_of_matches rows = words_of_values
    (steps_from (first_of (codes "steps") rows))
    (total_from (first_of (codes "total") rows))
    (form_from (first_of (codes "form") rows))
    (task_from (first_of (codes "demo") rows) (first_of (codes "file") rows))

abbrev pub unless_faulty : Kinds → Option Words → Option Words
unless_faulty [] words = words
unless_faulty (fault ∷ faults) words = None

-- what the words ask for; None is a wrong use: `clap` finds a fault in them, or a value is refused
abbrev pub words_read : List (List ℕ) → Option Words
words_read words = unless_faulty (fault_of command words) (words_of_matches (matches_of command words))

-- ---- the same of the code's own types

abbrev pub task_of : declared_task.Task → Task
task_of code.StandardInput = standard_input
task_of (code.File name) = file name.now
task_of (code.Demo cells) = demo cells

abbrev pub words_of : declared_words.Words → Words
words_of w = record { steps = w.steps; total = w.total; form = w.form; task = task_of w.task }
