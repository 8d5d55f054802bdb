-- Laws of command lines.
use Rattle.std.specs.Prelude.{◌++◌, option_map, ◌≡◌, ℕ, Bool, true, false, List, [], ◌∷◌, ◌==◌, Some, None, codes}
use Rattle.clap.specs.Words.{is_simple_and_free}
use Rattle.wl_words.specs.Command.{command}
use Rattle.wl_words.specs.Numbers.{number}
use Rattle.wl_words.specs.Words.{Words, standard_input, file, demo, defaults, form_from, greatest_demo, greatest_steps, words_read}
use Rattle.wl_words.specs.declared.line.Form.TheVariants.{Input, Full}

-- `clap` states exactly what it reads
abbrev pub IsSimple : Type 0
IsSimple = is_simple_and_free command ≡ true

-- no words: a notebook from standard input
abbrev pub ReadsNoWords : Type 0
ReadsNoWords = words_read [] ≡ Some (defaults standard_input)

abbrev pub begins_with_dash : List ℕ → Bool
begins_with_dash [] = false
begins_with_dash (b ∷ bs) = b == 45

-- one word, an empty one too, is the name of a file where it doesn't begin with a dash
abbrev pub ReadsPlainWord : Type 0
ReadsPlainWord = (word : List ℕ) → begins_with_dash word ≡ false → words_read (word ∷ []) ≡ Some (defaults (file word))

-- and behind `--` whatever it begins with
abbrev pub ReadsTrailingWord : Type 0
ReadsTrailingWord = (word : List ℕ) → words_read (codes "--" ∷ word ∷ []) ≡ Some (defaults (file word))

abbrev pub on_input : Words
on_input = defaults standard_input

-- ---- an option alone, with each text for its value

abbrev pub ReadsSteps : Type 0
ReadsSteps = (text : List ℕ) → words_read ((codes "--steps=" ++ text) ∷ []) ≡ option_map (λ n. record on_input { steps = n }) (number greatest_steps text)

abbrev pub ReadsTotal : Type 0
ReadsTotal = (text : List ℕ) → words_read ((codes "--total=" ++ text) ∷ []) ≡ option_map (λ n. record on_input { total = Some n }) (number greatest_steps text)

abbrev pub ReadsForm : Type 0
ReadsForm = (text : List ℕ) → words_read ((codes "--form=" ++ text) ∷ []) ≡ option_map (λ f. record on_input { form = f }) (form_from (Some text))

abbrev pub ReadsDemo : Type 0
ReadsDemo = (text : List ℕ) → words_read ((codes "--demo=" ++ text) ∷ []) ≡ option_map (λ n. defaults (demo n)) (number greatest_demo text)

-- ---- worked command lines

abbrev pub Reads : List (List ℕ) → Words → Type 0
Reads words asked = words_read words ≡ Some asked

abbrev pub Refuses : List (List ℕ) → Type 0
Refuses words = words_read words ≡ None

abbrev pub WorkedSteps : Type 0
WorkedSteps = Reads (codes "--steps" ∷ codes "6" ∷ []) (record on_input { steps = 6 })
    × Reads (codes "--steps=5" ∷ []) (record on_input { steps = 5 })
    × Reads (codes "--steps" ∷ codes "0007" ∷ []) (record on_input { steps = 7 })
    × Reads (codes "--steps=1000000000000" ∷ []) (record on_input { steps = 1000000000000 })
    × Refuses (codes "--steps=1000000000001" ∷ [])
    × Refuses (codes "--steps" ∷ codes "0" ∷ [])
    × Refuses (codes "--steps" ∷ codes "+5" ∷ [])
    × Refuses (codes "--steps=" ∷ [])
    × Refuses (codes "--steps" ∷ [])
    × Refuses (codes "--ste" ∷ codes "5" ∷ [])
    × Refuses (codes "--steps=5" ∷ codes "--steps=5" ∷ [])

abbrev pub WorkedTotals : Type 0
WorkedTotals = Reads (codes "--total" ∷ codes "70" ∷ []) (record on_input { total = Some 70 })
    × Reads (codes "--total=9" ∷ codes "--steps=8" ∷ []) (record on_input { steps = 8; total = Some 9 })
    × Refuses (codes "--total=0" ∷ [])
    × Refuses (codes "--total=1000000000001" ∷ [])

abbrev pub WorkedForms : Type 0
WorkedForms = Reads (codes "--form" ∷ codes "full" ∷ []) (record on_input { form = Full })
    × Reads (codes "--form=input" ∷ []) (record on_input { form = Input })
    × Refuses (codes "--form=Full" ∷ [])
    × Refuses (codes "--form=" ∷ [])

abbrev pub WorkedDemos : Type 0
WorkedDemos = Reads (codes "--demo" ∷ codes "1" ∷ []) (defaults (demo 1))
    × Reads (codes "--demo=20000" ∷ []) (defaults (demo 20000))
    × Refuses (codes "--demo=20001" ∷ [])
    × Refuses (codes "--demo" ∷ codes "1" ∷ codes "a.wl" ∷ [])

abbrev pub WorkedFiles : Type 0
WorkedFiles = Reads (codes "-" ∷ []) (defaults (file (codes "-")))
    × Reads (codes "--" ∷ []) on_input
    × Reads (codes "--" ∷ codes "--steps" ∷ []) (defaults (file (codes "--steps")))
    × Reads (codes "a.wl" ∷ codes "--form=full" ∷ []) (record (defaults (file (codes "a.wl"))) { form = Full })
    × Refuses (codes "-5" ∷ [])
    × Refuses (codes "--help" ∷ [])
    × Refuses (codes "a.wl" ∷ codes "b.wl" ∷ [])
