-- An option alone, with each text for its value.
use Rattle.std.proofs.Common.{◌≡◌, ◌∙◌, ◌++◌, ℕ, List, [], ◌∷◌, Option, Some, None, codes, option_map, refl}
use Rattle.clap.proofs.OnLiterals.{clap_on_literals}
use Rattle.wl_words.specs.Numbers.{number}
use Rattle.wl_words.specs.declared.line.Form.{Form}
use Rattle.wl_words.specs.declared.line.Form.TheVariants.{Input}
use Rattle.wl_words.specs.Words.{standard_input, defaults, demo, form_from, greatest_demo, greatest_steps, steps_unless_given, words_of_values, words_read}
use Rattle.wl_words.specs.Laws.{ReadsSteps, ReadsTotal, ReadsForm, ReadsDemo, on_input}

of_steps : (read : Option ℕ) → words_of_values read (Some None) (Some Input) (Some standard_input) ≡ option_map (λ n. record on_input { steps = n }) read
of_steps None = refl
of_steps (Some n) = refl

of_total : (read : Option ℕ) → words_of_values (Some steps_unless_given) (option_map (λ n. Some n) read) (Some Input) (Some standard_input) ≡ option_map (λ n. record on_input { total = Some n }) read
of_total None = refl
of_total (Some n) = refl

of_form : (read : Option Form) → words_of_values (Some steps_unless_given) (Some None) read (Some standard_input) ≡ option_map (λ f. record on_input { form = f }) read
of_form None = refl
of_form (Some f) = refl

of_demo : (read : Option ℕ) → words_of_values (Some steps_unless_given) (Some None) (Some Input) (option_map (λ n. demo n) read) ≡ option_map (λ n. defaults (demo n)) read
of_demo None = refl
of_demo (Some n) = refl

steps_given : (text : List ℕ) → words_read ((codes "--steps=" ++ text) ∷ []) ≡ words_of_values (number greatest_steps text) (Some None) (Some Input) (Some standard_input)
unfolding clap_on_literals
steps_given text = refl

total_given : (text : List ℕ) → words_read ((codes "--total=" ++ text) ∷ []) ≡ words_of_values (Some steps_unless_given) (option_map (λ n. Some n) (number greatest_steps text)) (Some Input) (Some standard_input)
unfolding clap_on_literals
total_given text = refl

form_given : (text : List ℕ) → words_read ((codes "--form=" ++ text) ∷ []) ≡ words_of_values (Some steps_unless_given) (Some None) (form_from (Some text)) (Some standard_input)
unfolding clap_on_literals
form_given text = refl

demo_given : (text : List ℕ) → words_read ((codes "--demo=" ++ text) ∷ []) ≡ words_of_values (Some steps_unless_given) (Some None) (Some Input) (option_map (λ n. demo n) (number greatest_demo text))
unfolding clap_on_literals
demo_given text = refl

pub read_steps : ReadsSteps
read_steps text = steps_given text ∙ of_steps (number greatest_steps text)

pub read_total : ReadsTotal
read_total text = total_given text ∙ of_total (number greatest_steps text)

pub read_form : ReadsForm
read_form text = form_given text ∙ of_form (form_from (Some text))

pub read_demo : ReadsDemo
read_demo text = demo_given text ∙ of_demo (number greatest_demo text)
