-- Keys of left sides, worked out by hand.
use Rattle.std.specs.Prelude.{◌≡◌, [], ◌∷◌, codes}
use Rattle.wl_expr.specs.Tree.{Tree, symbol}
use Rattle.wl_expr.specs.Words.{applied, form, natural}
use Rattle.wl_rules.specs.Key.{key_of}

abbrev a : Tree
a = symbol (codes "a")

abbrev b : Tree
b = symbol (codes "b")

abbrev c : Tree
c = symbol (codes "c")

abbrev h : Tree
h = symbol (codes "h")

abbrev q : Tree
q = symbol (codes "q")

abbrev x : Tree
x = symbol (codes "x")

abbrev blank : Tree
blank = form (codes "Blank") []

-- what each form puts, and what adds a test beside the digits
pub record WorkedKeys : Type 0 where
  pub of_a_symbol : key_of x ≡ record { digits = 0 ∷ []; tests = 0 }
  pub of_a_node : key_of (form (codes "f") (natural 0 ∷ [])) ≡ record { digits = 0 ∷ []; tests = 0 }
  pub of_a_blank : key_of blank ≡ record { digits = 4 ∷ []; tests = 0 }
  pub of_an_element : key_of (form (codes "f") (blank ∷ [])) ≡ record { digits = 1 ∷ 0 ∷ 4 ∷ []; tests = 0 }
  pub of_a_name : key_of (form (codes "f") (form (codes "Pattern") (x ∷ blank ∷ []) ∷ [])) ≡ record { digits = 1 ∷ 0 ∷ 4 ∷ []; tests = 0 }
  pub of_a_head : key_of (form (codes "f") (form (codes "Pattern") (x ∷ form (codes "Blank") (symbol (codes "Integer") ∷ []) ∷ []) ∷ [])) ≡ record { digits = 1 ∷ 0 ∷ 2 ∷ []; tests = 0 }
  pub of_verbatim : key_of (form (codes "f") (form (codes "Verbatim") (a ∷ []) ∷ [])) ≡ record { digits = 1 ∷ 0 ∷ 0 ∷ []; tests = 0 }
  pub of_alternatives : key_of (form (codes "f") (form (codes "Alternatives") (a ∷ blank ∷ []) ∷ [])) ≡ record { digits = 1 ∷ 0 ∷ 3 ∷ 0 ∷ 4 ∷ []; tests = 0 }
  pub of_except : key_of (form (codes "f") (form (codes "Except") (a ∷ []) ∷ [])) ≡ record { digits = 1 ∷ 0 ∷ 4 ∷ []; tests = 0 }
  pub of_a_sequence_with_a_head : key_of (form (codes "f") (form (codes "BlankSequence") (h ∷ []) ∷ [])) ≡ record { digits = 1 ∷ 0 ∷ 5 ∷ []; tests = 0 }
  pub of_repeated : key_of (form (codes "f") (form (codes "Repeated") (a ∷ []) ∷ [])) ≡ record { digits = 1 ∷ 0 ∷ 5 ∷ []; tests = 0 }
  pub of_a_sequence : key_of (form (codes "f") (form (codes "BlankSequence") [] ∷ [])) ≡ record { digits = 1 ∷ 0 ∷ 6 ∷ []; tests = 0 }
  pub of_a_null_sequence_with_a_head : key_of (form (codes "f") (form (codes "BlankNullSequence") (h ∷ []) ∷ [])) ≡ record { digits = 1 ∷ 0 ∷ 7 ∷ []; tests = 0 }
  pub of_repeated_null : key_of (form (codes "f") (form (codes "RepeatedNull") (a ∷ []) ∷ [])) ≡ record { digits = 1 ∷ 0 ∷ 7 ∷ []; tests = 0 }
  pub of_a_null_sequence : key_of (form (codes "f") (form (codes "BlankNullSequence") [] ∷ [])) ≡ record { digits = 1 ∷ 0 ∷ 8 ∷ []; tests = 0 }
  pub of_optional : key_of (form (codes "f") (form (codes "Optional") (form (codes "Pattern") (x ∷ blank ∷ []) ∷ []) ∷ [])) ≡ record { digits = 1 ∷ 0 ∷ 9 ∷ 4 ∷ []; tests = 0 }
  pub of_a_pattern_test : key_of (form (codes "f") (form (codes "PatternTest") (blank ∷ q ∷ []) ∷ [])) ≡ record { digits = 1 ∷ 0 ∷ 4 ∷ []; tests = 1 }
  pub of_a_condition : key_of (form (codes "Condition") (form (codes "f") (blank ∷ []) ∷ c ∷ [])) ≡ record { digits = 1 ∷ 0 ∷ 4 ∷ []; tests = 1 }
  pub of_both_tests : key_of (form (codes "Condition") (form (codes "f") (form (codes "PatternTest") (blank ∷ q ∷ []) ∷ []) ∷ c ∷ [])) ≡ record { digits = 1 ∷ 0 ∷ 4 ∷ []; tests = 2 }
  pub of_hold_pattern : key_of (form (codes "HoldPattern") (form (codes "f") (blank ∷ natural 1 ∷ []) ∷ [])) ≡ record { digits = 1 ∷ 0 ∷ 4 ∷ 0 ∷ []; tests = 0 }
  pub of_a_blank_as_head : key_of (applied blank (a ∷ [])) ≡ record { digits = 1 ∷ 4 ∷ 0 ∷ []; tests = 0 }
  pub of_nodes_with_and_without_patterns : key_of (form (codes "f") (form (codes "g") (natural 1 ∷ []) ∷ form (codes "g") (blank ∷ []) ∷ [])) ≡ record { digits = 1 ∷ 0 ∷ 0 ∷ 1 ∷ 0 ∷ 4 ∷ []; tests = 0 }
  pub of_a_blank_of_two : key_of (form (codes "f") (form (codes "Blank") (a ∷ b ∷ []) ∷ [])) ≡ record { digits = 0 ∷ []; tests = 0 }
  pub of_a_name_that_is_a_number : key_of (form (codes "f") (form (codes "Pattern") (natural 1 ∷ natural 2 ∷ []) ∷ [])) ≡ record { digits = 0 ∷ []; tests = 0 }
