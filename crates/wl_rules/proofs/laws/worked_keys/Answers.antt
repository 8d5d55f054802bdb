use Rattle.std.proofs.Common.{refl}
use Rattle.wl_rules.proofs.laws.worked_keys.Goals as goal

pub returns : goal.returns
returns c = record { of_a_symbol = refl; of_a_node = refl; of_a_blank = refl; of_an_element = refl; of_a_name = refl; of_a_head = refl; of_verbatim = refl; of_alternatives = refl; of_except = refl; of_a_sequence_with_a_head = refl; of_repeated = refl; of_a_sequence = refl; of_a_null_sequence_with_a_head = refl; of_repeated_null = refl; of_a_null_sequence = refl; of_optional = refl; of_a_pattern_test = refl; of_a_condition = refl; of_both_tests = refl; of_hold_pattern = refl; of_a_blank_as_head = refl; of_nodes_with_and_without_patterns = refl; of_a_blank_of_two = refl; of_a_name_that_is_a_number = refl }
