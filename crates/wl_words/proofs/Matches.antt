-- What is read of the matches of a parse.
use Rattle.std.proofs.Common.{◌≡◌, ◌∙◌, ℕ, List, Option, Some, None, refl, sym, ap, codes}
use Rattle.clap.specs.Words.{Row, first_of, first_value, rows_of}
use Rattle.clap.specs.declared.parser.matches.Found.{Found}
use Rattle.clap.proofs.WalkLemmas.{first_value-rows}
use Rattle.wl_words.specs.declared.line.Form.{Form}
use Rattle.wl_words.specs.Words.{Task, form_from, steps_from, task_from, total_from, words_of_matches, words_of_values}

in_rows : (f : Found) (id : List ℕ) (value : Option (List ℕ)) → value ≡ first_value f id → first_of id (rows_of f) ≡ value
in_rows f id value is = sym (is ∙ first_value-rows f id)

abbrev steps_in : List Row → Option ℕ
steps_in rows = steps_from (first_of (codes "steps") rows)

abbrev total_in : List Row → Option (Option ℕ)
total_in rows = total_from (first_of (codes "total") rows)

abbrev form_in : List Row → Option Form
form_in rows = form_from (first_of (codes "form") rows)

abbrev task_in : List Row → Option Task
task_in rows = task_from (first_of (codes "demo") rows) (first_of (codes "file") rows)

steps_are : (f : Found) (text : Option (List ℕ)) → text ≡ first_value f (codes "steps") → steps_in (rows_of f) ≡ steps_from text
steps_are f text is = ap steps_from (in_rows f (codes "steps") text is)

total_is : (f : Found) (text : Option (List ℕ)) → text ≡ first_value f (codes "total") → total_in (rows_of f) ≡ total_from text
total_is f text is = ap total_from (in_rows f (codes "total") text is)

form_is : (f : Found) (text : Option (List ℕ)) → text ≡ first_value f (codes "form") → form_in (rows_of f) ≡ form_from text
form_is f text is = ap form_from (in_rows f (codes "form") text is)

task_is : (f : Found) (demo name : Option (List ℕ)) → demo ≡ first_value f (codes "demo") → name ≡ first_value f (codes "file")
    → task_in (rows_of f) ≡ task_from demo name
task_is f demo name d n = λ i. task_from (in_rows f (codes "demo") demo d i) (in_rows f (codes "file") name n i)

-- ---- a value that is refused refuses all

without_steps : (n : Option ℕ) (m : Option (Option ℕ)) (f : Option Form) (t : Option Task) → n ≡ None → None ≡ words_of_values n m f t
without_steps None m f t is = refl
without_steps (Some n) m f t is = cc

without_total : (n : Option ℕ) (m : Option (Option ℕ)) (f : Option Form) (t : Option Task) → m ≡ None → None ≡ words_of_values n m f t
without_total None m f t is = refl
without_total (Some n) None f t is = refl
without_total (Some n) (Some m) f t is = cc

without_form : (n : Option ℕ) (m : Option (Option ℕ)) (f : Option Form) (t : Option Task) → f ≡ None → None ≡ words_of_values n m f t
without_form None m f t is = refl
without_form (Some n) None f t is = refl
without_form (Some n) (Some m) None t is = refl
without_form (Some n) (Some m) (Some f) t is = cc

without_task : (n : Option ℕ) (m : Option (Option ℕ)) (f : Option Form) (t : Option Task) → t ≡ None → None ≡ words_of_values n m f t
without_task None m f t is = refl
without_task (Some n) None f t is = refl
without_task (Some n) (Some m) None t is = refl
without_task (Some n) (Some m) (Some f) None is = refl
without_task (Some n) (Some m) (Some f) (Some t) is = cc

pub refused_steps : (f : Found) (text : Option (List ℕ)) → text ≡ first_value f (codes "steps") → None ≡ steps_from text → None ≡ words_of_matches (rows_of f)
refused_steps f text is none =
    let rows = rows_of f in without_steps (steps_in rows) (total_in rows) (form_in rows) (task_in rows) (steps_are f text is ∙ sym none)

pub refused_total : (f : Found) (text : Option (List ℕ)) → text ≡ first_value f (codes "total") → None ≡ total_from text → None ≡ words_of_matches (rows_of f)
refused_total f text is none =
    let rows = rows_of f in without_total (steps_in rows) (total_in rows) (form_in rows) (task_in rows) (total_is f text is ∙ sym none)

pub refused_form : (f : Found) (text : Option (List ℕ)) → text ≡ first_value f (codes "form") → None ≡ form_from text → None ≡ words_of_matches (rows_of f)
refused_form f text is none =
    let rows = rows_of f in without_form (steps_in rows) (total_in rows) (form_in rows) (task_in rows) (form_is f text is ∙ sym none)

pub refused_task : (f : Found) (demo name : Option (List ℕ)) → demo ≡ first_value f (codes "demo") → name ≡ first_value f (codes "file")
    → None ≡ task_from demo name → None ≡ words_of_matches (rows_of f)
refused_task f demo name d n none =
    let rows = rows_of f in without_task (steps_in rows) (total_in rows) (form_in rows) (task_in rows) (task_is f demo name d n ∙ sym none)

-- ---- and where none is refused, the words are theirs

pub read : (f : Found) (steps total form demo name : Option (List ℕ)) → steps ≡ first_value f (codes "steps") → total ≡ first_value f (codes "total")
    → form ≡ first_value f (codes "form") → demo ≡ first_value f (codes "demo") → name ≡ first_value f (codes "file")
    → (n : ℕ) (m : Option ℕ) (x : Form) (t : Task) → Some n ≡ steps_from steps → Some m ≡ total_from total → Some x ≡ form_from form → Some t ≡ task_from demo name
    → Some (record { steps = n; total = m; form = x; task = t }) ≡ words_of_matches (rows_of f)
read f steps total form demo name s o l d a n m x t is_n is_m is_x is_t =
    λ i. words_of_values ((is_n ∙ sym (steps_are f steps s)) i) ((is_m ∙ sym (total_is f total o)) i) ((is_x ∙ sym (form_is f form l)) i)
    ((is_t ∙ sym (task_is f demo name d a)) i)
