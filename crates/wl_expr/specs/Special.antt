-- The special forms of patterns, by their head and their elements. A special head with another number of elements is an ordinary node, and so is a Pattern whose first element isn't a symbol. The forms are those of the manual's tutorial on patterns.
use Rattle.std.specs.Prelude.{Bool, true, false, List, [], ◌∷◌, codes, bytes_eq}
use Rattle.wl_expr.specs.Tree.{Tree, symbol, node, to_list}
use Rattle.wl_expr.specs.Words.{Name}

pub data Special : Type 0 where
  ordinary : Special
  blank : Special
  blank_sequence : Special
  blank_null_sequence : Special
  named : Special
  pattern_test : Special
  condition : Special
  hold_pattern : Special
  optional : Special
  alternatives : Special
  repeated : Special
  repeated_null : Special
  verbatim : Special
  except : Special

-- with as many elements as the form takes
abbrev pub of_none_or_one : Special → List Tree → Special
of_none_or_one k [] = k
of_none_or_one k (t ∷ []) = k
of_none_or_one k ts = ordinary

abbrev pub of_one : Special → List Tree → Special
of_one k (t ∷ []) = k
of_one k ts = ordinary

abbrev pub of_two : Special → List Tree → Special
of_two k (t ∷ u ∷ []) = k
of_two k ts = ordinary

abbrev pub of_one_or_two : Special → List Tree → Special
of_one_or_two k (t ∷ []) = k
of_one_or_two k (t ∷ u ∷ []) = k
of_one_or_two k ts = ordinary

abbrev pub of_symbol : Special → List Tree → Special
of_symbol k (symbol x ∷ u ∷ []) = k
of_symbol k ts = ordinary

abbrev pub choose : Bool → Special → Special → Special
choose true k l = k
choose false k l = l

abbrev pub special_named : Name → List Tree → Special
special_named s ts =
    choose (bytes_eq s (codes "Blank")) (of_none_or_one blank ts)
    (choose (bytes_eq s (codes "BlankSequence")) (of_none_or_one blank_sequence ts)
    (choose (bytes_eq s (codes "BlankNullSequence")) (of_none_or_one blank_null_sequence ts)
    (choose (bytes_eq s (codes "Pattern")) (of_symbol named ts)
    (choose (bytes_eq s (codes "PatternTest")) (of_two pattern_test ts)
    (choose (bytes_eq s (codes "Condition")) (of_two condition ts)
    (choose (bytes_eq s (codes "HoldPattern")) (of_one hold_pattern ts)
    (choose (bytes_eq s (codes "Optional")) (of_one_or_two optional ts)
    (choose (bytes_eq s (codes "Alternatives")) alternatives
    (choose (bytes_eq s (codes "Repeated")) (of_one repeated ts)
    (choose (bytes_eq s (codes "RepeatedNull")) (of_one repeated_null ts)
    (choose (bytes_eq s (codes "Verbatim")) (of_one verbatim ts)
    (choose (bytes_eq s (codes "Except")) (of_one_or_two except ts) ordinary))))))))))))

-- which special form a node is
abbrev pub special_node : Tree → List Tree → Special
special_node (symbol s) ts = special_named s ts
special_node h ts = ordinary

-- which special form a tree is
abbrev pub special : Tree → Special
special (node h ts) = special_node h (to_list ts)
special t = ordinary
