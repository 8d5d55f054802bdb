-- The words of the command line, those after the program's name.
use Rattle.std.specs.Prelude.{ℕ, Bool, false, List, [], ◌∷◌, ◌==◌, Option, Some, None, map, String, string_bytes, if◌then◌else◌}

-- the words as bytes
abbrev pub words_of : {A : Type 0} → List (String A) → List (List ℕ)
words_of {A} words = map string_bytes words

abbrev pub begins_with_dash : List ℕ → Bool
begins_with_dash [] = false
begins_with_dash (b ∷ bytes) = b == 45

-- the name that the words ask for, None for standard input; None where they are not read
abbrev pub Asked : Type 0
Asked = Option (Option (List ℕ))

abbrev pub asked : List (List ℕ) → Asked
asked [] = Some None
asked (word ∷ []) = if begins_with_dash word then None else Some (Some word)
asked (word ∷ other ∷ words) = None
