use Rattle.std.proofs.Common.{◌+◌, ◌*◌, ◌≡◌, ◌≤◌, ◌<◌, ℕ, Result, [], length, drop, map, filter_map, Some, option_map, take, ◌-◌, ◌^◌}
use Rattle.wl_expr.specs.Stamped.{plain, from_list}
use Rattle.wl_expr.specs.Words.{elements, name_of}
use Rattle.wl_match.specs.Left.{Searches, left}
use Rattle.wl_match.specs.Parts.{kept, whole}
use Rattle.wl_match.specs.Shown.{tests_in, trail_in}
use Rattle.wl_match.specs.Trials.{Trials}
use Rattle.wl_rules.specs.StampedRules.{plain_rule}
use Rattle.wl_semantics.specs.Elements.{evaluated_on}
use Rattle.wl_semantics.specs.Match as matching
use Rattle.wl_state.specs.Searching.{HonestView, passes_within, tests_within}
use Rattle.wl_semantics.specs.Turn.{up_names, up_result}
use Rattle.wl_state.specs.Played.{TurnsEnd, Leads, Sound, Honest, AllHonest, AllHonestRules, Inside, AtEvaluated, trees}
use Rattle.wl_state.specs.declared.ends.End.{End}
use Rattle.wl_state.specs.declared.ends.Stop.{Stop}
use Rattle.wl_state.specs.declared.evaluator.Evaluator.{Evaluator}
use Rattle.wl_state.proofs.Bindings.{all_tests, test_within}
use Rattle.wl_expr.specs.Tree as tree
use Rattle.wl_expr.specs.Tree.{depth, depths}
use Rattle.wl_semantics.specs.Definitions.{set, set_each}
use Rattle.wl_semantics.specs.MatchRows as match_rows
use Rattle.wl_state.specs.Replacing.{AllHonestMaybe, each_of, replacing_each, sifted}
use Rattle.wl_state.proofs.ReplaceRowParts.{Passing}
use Rattle.wl_state.specs.Honest.{HonestRule}
use Rattle.std.specs.Prelude.{None, option_copied}
use Rattle.wl_control.specs.Asks.{Asks}
use Rattle.wl_control.specs.Cursors.{stand}
use Rattle.wl_control.specs.Stand.{IsAwaited, after, starts}
use Rattle.wl_semantics.specs.Control.{played}
use Rattle.wl_state.specs.Replies.{Holds, Proceeds, Ready, set_aside, told_by}
use Rattle.wl_state.specs.LocalNames.{AreLocals, AreShallow, locals_in}
use Rattle.wl_semantics.specs.Scoping as scoping
use Rattle.wl_state.specs.Marks.{at_last_mark}
use Rattle.wl_eval.proofs.+eval.Given as goal

-- ---- what takes no step of its own stands below what it may be called from; a turn has taken a step

abbrev pub decreases-evaluation::value_of_built : goal.decreases-evaluation::value_of_built
decreases-evaluation::value_of_built g l = 8000 * l.evaluator.now.steps + 12

abbrev pub decreases-evaluation::value_of : goal.decreases-evaluation::value_of
decreases-evaluation::value_of g l = 8000 * l.evaluator.now.steps + 11

abbrev pub decreases-evaluation::evaluate : goal.decreases-evaluation::evaluate
decreases-evaluation::evaluate g l = 8000 * l.evaluator.now.steps + 10

abbrev pub decreases-evaluation::turns : goal.decreases-evaluation::turns
decreases-evaluation::turns g l = 8000 * l.evaluator.now.steps + 9

abbrev pub decreases-evaluation::stepped_turn : goal.decreases-evaluation::stepped_turn
decreases-evaluation::stepped_turn g l = 8000 * l.evaluator.now.steps + 8

abbrev pub decreases-evaluation::bare_turn : goal.decreases-evaluation::bare_turn
decreases-evaluation::bare_turn g l = 8000 * l.evaluator.now.steps + 7

abbrev pub decreases-turn::turn : goal.decreases-turn::turn
decreases-turn::turn g l = 8000 * l.evaluator.now.steps + 7990

abbrev pub decreases-turn::symbol_turn : goal.decreases-turn::symbol_turn
decreases-turn::symbol_turn g l = 8000 * l.evaluator.now.steps + 7980

abbrev pub decreases-turn::node_turn : goal.decreases-turn::node_turn
decreases-turn::node_turn g l = 8000 * l.evaluator.now.steps + 7980

abbrev pub decreases-turn::shaped_turn : goal.decreases-turn::shaped_turn
decreases-turn::shaped_turn g l = 8000 * l.evaluator.now.steps + 7970

abbrev pub decreases-turn::rules_turn : goal.decreases-turn::rules_turn
decreases-turn::rules_turn g l = 8000 * l.evaluator.now.steps + 7960

abbrev pub decreases-applying::applied_rule : goal.decreases-applying::applied_rule
decreases-applying::applied_rule g l = 8000 * l.evaluator.now.steps + 7900

abbrev pub decreases-applying::up_values : goal.decreases-applying::up_values
decreases-applying::up_values g l = 8000 * l.evaluator.now.steps + 7890

abbrev pub decreases-applying::head_values : goal.decreases-applying::head_values
decreases-applying::head_values g l = 8000 * l.evaluator.now.steps + 7890

abbrev pub decreases-built_in::built_in : goal.decreases-built_in::built_in
decreases-built_in::built_in g l = 8000 * l.evaluator.now.steps + 7890

abbrev pub decreases-built_in::row : goal.decreases-built_in::row
decreases-built_in::row g l = 8000 * l.evaluator.now.steps + 7800

abbrev pub decreases-built_in::other_row : goal.decreases-built_in::other_row
decreases-built_in::other_row g l = 8000 * l.evaluator.now.steps + 7700

abbrev pub decreases-applying::tried : goal.decreases-applying::tried
decreases-applying::tried g l = 8000 * l.evaluator.now.steps + 3700

abbrev pub decreases-trial::trial : goal.decreases-trial::trial
decreases-trial::trial g l = 8000 * l.evaluator.now.steps + 3600

abbrev pub decreases-elements::elements : goal.decreases-elements::elements
decreases-elements::elements g l = 8000 * l.evaluator.now.steps + 13

abbrev pub decreases-trial::rule_result : goal.decreases-trial::rule_result
decreases-trial::rule_result g l = 8000 * l.evaluator.now.steps + 3550

abbrev pub decreases-trial::first_filling : goal.decreases-trial::first_filling
decreases-trial::first_filling g l = 8000 * l.evaluator.now.steps + 3500

abbrev pub invariant-trial::first_filling-bindings : goal.invariant-trial::first_filling-bindings
invariant-trial::first_filling-bindings g l = record {
  leads : Leads (matching.walk (matching.filling (plain l.fn.body)) (Trials (whole l.fn.pattern) (plain l.fn.e))) l.fn.evaluator (matching.walk (matching.filling (plain l.body)) (left l.pattern (plain l.e) l.machine)) l.evaluator;
  searches : Searches l.pattern (plain l.e) l.machine;
  sound : Sound l.evaluator;
  pattern : AllHonest l.evaluator (kept l.pattern);
  honest : Honest l.evaluator l.e;
  body : Honest l.evaluator l.body;
  falls : l.evaluator.steps ≤ l.fn.evaluator.steps;
  ticks : at_last_mark l.work ≡ at_last_mark l.fn.work;
}

abbrev pub decreases-trial::first_filling-bindings : goal.decreases-trial::first_filling-bindings
decreases-trial::first_filling-bindings g l = l.evaluator.steps

abbrev pub decreases-matching::matches : goal.decreases-matching::matches
decreases-matching::matches g l = 8000 * l.evaluator.now.steps + 3550

abbrev pub decreases-matching::has_match : goal.decreases-matching::has_match
decreases-matching::has_match g l = 8000 * l.evaluator.now.steps + 3500

abbrev pub decreases-trial::filling : goal.decreases-trial::filling
decreases-trial::filling g l = 8000 * l.evaluator.now.steps + 7995

abbrev pub decreases-matching::tests_hold : goal.decreases-matching::tests_hold
decreases-matching::tests_hold g l = 8000 * l.evaluator.now.steps + 7990

abbrev pub decreases-matching::test_holds : goal.decreases-matching::test_holds
decreases-matching::test_holds g l = 8000 * l.evaluator.now.steps + 7980

abbrev pub decreases-matching::each_applies : goal.decreases-matching::each_applies
decreases-matching::each_applies g l = 8000 * l.evaluator.now.steps + 7970

abbrev pub decreases-matching::refuses : goal.decreases-matching::refuses
decreases-matching::refuses g l = 8000 * l.evaluator.now.steps + 7970

abbrev pub decreases-matching::is_true : goal.decreases-matching::is_true
decreases-matching::is_true g l = 8000 * l.evaluator.now.steps + 7960

-- ---- loops

abbrev pub invariant-evaluation::turns-loop-evaluator : goal.invariant-evaluation::turns-loop-evaluator
invariant-evaluation::turns-loop-evaluator g l = record {
  leads : (r : Result End Stop) (k : Evaluator) → TurnsEnd l.count (plain l.subject) l.evaluator r k → TurnsEnd 1 (plain l.fn.first) l.fn.evaluator r k;
  sound : Sound l.evaluator;
  honest : Honest l.evaluator l.subject;
  falls : l.evaluator.steps ≤ l.fn.evaluator.steps;
  ticks : at_last_mark l.work ≡ at_last_mark l.fn.work;
}

abbrev pub decreases-evaluation::turns-loop-evaluator : goal.decreases-evaluation::turns-loop-evaluator
decreases-evaluation::turns-loop-evaluator g l = l.evaluator.steps

abbrev pub invariant-elements::elements-loop-i : goal.invariant-elements::elements-loop-i
invariant-elements::elements-loop-i g l = record {
  leads : Leads (evaluated_on l.attributes [] (trees l.args)) l.fn.evaluator (evaluated_on l.attributes (trees l.values.items) (trees (drop l.i l.args))) l.evaluator;
  sound : Sound l.evaluator;
  args : AllHonest l.evaluator l.args;
  values : AllHonest l.evaluator l.values.items;
  inside : AtEvaluated (Inside l.evaluator l.evaluator.depth) l.attributes [] (from_list l.values.items);
  count : length l.values.items ≡ l.i;
  falls : l.evaluator.steps ≤ l.fn.evaluator.steps;
  ticks : at_last_mark l.work ≡ at_last_mark l.fn.work;
}

abbrev pub invariant-applying::up_values-loop-i : goal.invariant-applying::up_values-loop-i
invariant-applying::up_values-loop-i g l = record {
  leads : Leads (up_result (up_names (elements (plain l.form))) (plain l.form)) l.fn.evaluator (up_result (filter_map name_of (trees (drop l.i l.symbols.items))) (plain l.form)) l.evaluator;
  sound : Sound l.evaluator;
  honest : Honest l.evaluator l.form;
  falls : l.evaluator.steps ≤ l.fn.evaluator.steps;
  ticks : at_last_mark l.work ≡ at_last_mark l.fn.work;
}

abbrev pub invariant-trial::trial-loop-i : goal.invariant-trial::trial-loop-i
invariant-trial::trial-loop-i g l = record {
  leads : Leads (matching.trial (map plain_rule l.fn.rules) (plain l.fn.e)) l.fn.evaluator (matching.trial (map plain_rule (drop l.i l.rules)) (plain l.e)) l.evaluator;
  sound : Sound l.evaluator;
  rules : AllHonestRules l.evaluator l.rules;
  honest : Honest l.evaluator l.e;
  falls : l.evaluator.steps ≤ l.fn.evaluator.steps;
  ticks : at_last_mark l.work ≡ at_last_mark l.fn.work;
}

abbrev pub invariant-matching::has_match-bindings : goal.invariant-matching::has_match-bindings
invariant-matching::has_match-bindings g l = record {
  leads : (n : ℕ) → l.fn.evaluator.steps ≤ n → Leads (passes_within n (Trials (whole l.fn.pattern) (plain l.fn.e))) l.fn.evaluator (passes_within n (left l.pattern (plain l.e) l.machine)) l.evaluator;
  searches : Searches l.pattern (plain l.e) l.machine;
  sound : Sound l.evaluator;
  pattern : AllHonest l.evaluator (kept l.pattern);
  honest : Honest l.evaluator l.e;
  falls : l.evaluator.steps ≤ l.fn.evaluator.steps;
  ticks : at_last_mark l.work ≡ at_last_mark l.fn.work;
}

abbrev pub decreases-matching::has_match-bindings : goal.decreases-matching::has_match-bindings
decreases-matching::has_match-bindings g l = l.evaluator.steps

abbrev pub invariant-matching::tests_hold-loop-k : goal.invariant-matching::tests_hold-loop-k
invariant-matching::tests_hold-loop-k g l = record {
  leads : (n : ℕ) → l.fn.evaluator.steps < n → Leads (tests_within n (trail_in l.fn.view)) l.fn.evaluator (all_tests (test_within n (trail_in l.view)) (drop l.k (tests_in (trail_in l.view)))) l.evaluator;
  sound : Sound l.evaluator;
  view : HonestView l.evaluator l.view;
  falls : l.evaluator.steps ≤ l.fn.evaluator.steps;
  ticks : at_last_mark l.work ≡ at_last_mark l.fn.work;
}

abbrev pub invariant-matching::each_applies-loop-i : goal.invariant-matching::each_applies-loop-i
invariant-matching::each_applies-loop-i g l = record {
  leads : Leads (matching.each_applies (plain l.fn.f) (trees l.fn.elements)) l.fn.evaluator (matching.each_applies (plain l.f) (trees (drop l.i l.elements))) l.evaluator;
  sound : Sound l.evaluator;
  function : Honest l.evaluator l.f;
  elements : AllHonest l.evaluator l.elements;
  falls : l.evaluator.steps ≤ l.fn.evaluator.steps;
  ticks : at_last_mark l.work ≡ at_last_mark l.fn.work;
}

-- ---- definitions

abbrev pub decreases-left_sides::evaluated_core : goal.decreases-left_sides::evaluated_core
decreases-left_sides::evaluated_core g l = 8000 * l.evaluator.now.steps + 4000 + depth (plain l.core.now)

abbrev pub decreases-left_sides::core_of : goal.decreases-left_sides::core_of
decreases-left_sides::core_of g l = 8000 * l.evaluator.now.steps + 5005

abbrev pub decreases-left_sides::prepared : goal.decreases-left_sides::prepared
decreases-left_sides::prepared g l = 8000 * l.evaluator.now.steps + 5010

abbrev pub decreases-set_rows::define : goal.decreases-set_rows::define
decreases-set_rows::define g l = 8000 * l.evaluator.now.steps + 5020

abbrev pub decreases-tag_rows::define_up : goal.decreases-tag_rows::define_up
decreases-tag_rows::define_up g l = 8000 * l.evaluator.now.steps + 5020

abbrev pub decreases-tag_rows::define_tagged : goal.decreases-tag_rows::define_tagged
decreases-tag_rows::define_tagged g l = 8000 * l.evaluator.now.steps + 5020

abbrev pub decreases-set_rows::set_one : goal.decreases-set_rows::set_one
decreases-set_rows::set_one g l = 8000 * l.evaluator.now.steps + 5030

abbrev pub decreases-set_rows::set : goal.decreases-set_rows::set
decreases-set_rows::set g l = 8000 * l.evaluator.now.steps + 5100 + depth (plain l.left.now)

abbrev pub invariant-set_rows::set-loop-i : goal.invariant-set_rows::set-loop-i
invariant-set_rows::set-loop-i g l = record {
  leads : Leads (set (plain l.left) (plain l.value)) l.fn.evaluator (set_each (tree.from_list (trees (drop l.i l.lefts))) (trees (drop l.i l.values))) l.evaluator;
  sound : Sound l.evaluator;
  lefts : AllHonest l.evaluator l.lefts;
  values : AllHonest l.evaluator l.values;
  falls : l.evaluator.steps ≤ l.fn.evaluator.steps;
  ticks : at_last_mark l.work ≡ at_last_mark l.fn.work;
}

-- ---- matching rows

abbrev pub decreases-update_rows::changing : goal.decreases-update_rows::changing
decreases-update_rows::changing g l = 8000 * l.evaluator.now.steps + 7500

abbrev pub decreases-update_rows::update_row : goal.decreases-update_rows::update_row
decreases-update_rows::update_row g l = 8000 * l.evaluator.now.steps + 7600

abbrev pub decreases-update_rows::step_row : goal.decreases-update_rows::step_row
decreases-update_rows::step_row g l = 8000 * l.evaluator.now.steps + 7600

abbrev pub decreases-set_rows::set_row : goal.decreases-set_rows::set_row
decreases-set_rows::set_row g l = 8000 * l.evaluator.now.steps + 7600

abbrev pub decreases-set_rows::set_delayed_row : goal.decreases-set_rows::set_delayed_row
decreases-set_rows::set_delayed_row g l = 8000 * l.evaluator.now.steps + 7600

abbrev pub decreases-tag_rows::up_set_row : goal.decreases-tag_rows::up_set_row
decreases-tag_rows::up_set_row g l = 8000 * l.evaluator.now.steps + 7600

abbrev pub decreases-tag_rows::up_set_delayed_row : goal.decreases-tag_rows::up_set_delayed_row
decreases-tag_rows::up_set_delayed_row g l = 8000 * l.evaluator.now.steps + 7600

abbrev pub decreases-tag_rows::tag_set_row : goal.decreases-tag_rows::tag_set_row
decreases-tag_rows::tag_set_row g l = 8000 * l.evaluator.now.steps + 7600

abbrev pub decreases-tag_rows::tag_set_delayed_row : goal.decreases-tag_rows::tag_set_delayed_row
decreases-tag_rows::tag_set_delayed_row g l = 8000 * l.evaluator.now.steps + 7600

abbrev pub decreases-set_rows::unset_row : goal.decreases-set_rows::unset_row
decreases-set_rows::unset_row g l = 8000 * l.evaluator.now.steps + 7600

abbrev pub decreases-tag_rows::tag_unset_row : goal.decreases-tag_rows::tag_unset_row
decreases-tag_rows::tag_unset_row g l = 8000 * l.evaluator.now.steps + 7600

abbrev pub decreases-match_rows::match_row : goal.decreases-match_rows::match_row
decreases-match_rows::match_row g l = 8000 * l.evaluator.now.steps + 7600

abbrev pub decreases-match_rows::member_row : goal.decreases-match_rows::member_row
decreases-match_rows::member_row g l = 8000 * l.evaluator.now.steps + 7600

abbrev pub decreases-match_rows::count_row : goal.decreases-match_rows::count_row
decreases-match_rows::count_row g l = 8000 * l.evaluator.now.steps + 7600

abbrev pub decreases-match_rows::cases_row : goal.decreases-match_rows::cases_row
decreases-match_rows::cases_row g l = 8000 * l.evaluator.now.steps + 7600

abbrev pub decreases-match_rows::delete_cases_row : goal.decreases-match_rows::delete_cases_row
decreases-match_rows::delete_cases_row g l = 8000 * l.evaluator.now.steps + 7600

abbrev pub decreases-match_rows::free_row : goal.decreases-match_rows::free_row
decreases-match_rows::free_row g l = 8000 * l.evaluator.now.steps + 7600

abbrev pub decreases-match_rows::any_matches : goal.decreases-match_rows::any_matches
decreases-match_rows::any_matches g l = 8000 * l.evaluator.now.steps + 3800

abbrev pub invariant-match_rows::any_matches-loop-i : goal.invariant-match_rows::any_matches-loop-i
invariant-match_rows::any_matches-loop-i g l = record {
  leads : Leads (match_rows.any_matches (plain l.fn.p) (trees l.fn.elements)) l.fn.evaluator (match_rows.any_matches (plain l.p) (trees (drop l.i l.elements))) l.evaluator;
  sound : Sound l.evaluator;
  pattern : Honest l.evaluator l.p;
  elements : AllHonest l.evaluator l.elements;
  falls : l.evaluator.steps ≤ l.fn.evaluator.steps;
  ticks : at_last_mark l.work ≡ at_last_mark l.fn.work;
}

abbrev pub decreases-match_rows::count_matching : goal.decreases-match_rows::count_matching
decreases-match_rows::count_matching g l = 8000 * l.evaluator.now.steps + 3800

abbrev pub invariant-match_rows::count_matching-loop-i : goal.invariant-match_rows::count_matching-loop-i
invariant-match_rows::count_matching-loop-i g l = record {
  leads : Leads (match_rows.count_matching 0 (plain l.fn.p) (trees l.fn.elements)) l.fn.evaluator (match_rows.count_matching l.count (plain l.p) (trees (drop l.i l.elements))) l.evaluator;
  sound : Sound l.evaluator;
  pattern : Honest l.evaluator l.p;
  elements : AllHonest l.evaluator l.elements;
  few : l.count ≤ l.i;
  falls : l.evaluator.steps ≤ l.fn.evaluator.steps;
  ticks : at_last_mark l.work ≡ at_last_mark l.fn.work;
}

abbrev pub decreases-match_rows::sifted : goal.decreases-match_rows::sifted
decreases-match_rows::sifted g l = 8000 * l.evaluator.now.steps + 3800

abbrev pub invariant-match_rows::sifted-loop-i : goal.invariant-match_rows::sifted-loop-i
invariant-match_rows::sifted-loop-i g l = record {
  leads : Leads (sifted l.wanted [] (plain l.fn.p) (trees l.fn.elements)) l.fn.evaluator (sifted l.wanted (trees l.found.items) (plain l.p) (trees (drop l.i l.elements))) l.evaluator;
  sound : Sound l.evaluator;
  pattern : Honest l.evaluator l.p;
  elements : AllHonest l.evaluator l.elements;
  found : AllHonest l.evaluator l.found.items;
  falls : l.evaluator.steps ≤ l.fn.evaluator.steps;
  ticks : at_last_mark l.work ≡ at_last_mark l.fn.work;
}

abbrev pub decreases-match_rows::cases_in : goal.decreases-match_rows::cases_in
decreases-match_rows::cases_in g l = 8000 * l.evaluator.now.steps + 3900

abbrev pub decreases-match_rows::cases_by : goal.decreases-match_rows::cases_by
decreases-match_rows::cases_by g l = 8000 * l.evaluator.now.steps + 3800

abbrev pub invariant-match_rows::cases_by-loop-i : goal.invariant-match_rows::cases_by-loop-i
invariant-match_rows::cases_by-loop-i g l = record {
  leads : Leads (match_rows.cases_by [] (plain_rule l.fn.rule) (trees l.fn.elements)) l.fn.evaluator (match_rows.cases_by (trees l.found.items) (plain_rule l.rule) (trees (drop l.i l.elements))) l.evaluator;
  sound : Sound l.evaluator;
  rule : HonestRule l.evaluator.store l.rule;
  elements : AllHonest l.evaluator l.elements;
  found : AllHonest l.evaluator l.found.items;
  falls : l.evaluator.steps ≤ l.fn.evaluator.steps;
  ticks : at_last_mark l.work ≡ at_last_mark l.fn.work;
}

abbrev pub decreases-match_rows::any_part : goal.decreases-match_rows::any_part
decreases-match_rows::any_part g l = 8000 * l.evaluator.now.steps + (4000 + 2 * depth (plain l.e.now))

abbrev pub decreases-match_rows::any_part_in : goal.decreases-match_rows::any_part_in
decreases-match_rows::any_part_in g l = 8000 * l.evaluator.now.steps + (4001 + 2 * depths (tree.from_list (trees l.elements.now)))

abbrev pub invariant-match_rows::any_part_in-loop-i : goal.invariant-match_rows::any_part_in-loop-i
invariant-match_rows::any_part_in-loop-i g l = record {
  leads : Leads (match_rows.any_matches (plain l.fn.p) (match_rows.parts_in (tree.from_list (trees l.fn.elements)))) l.fn.evaluator (match_rows.any_matches (plain l.p) (match_rows.parts_in (tree.from_list (trees (drop l.i l.elements))))) l.evaluator;
  sound : Sound l.evaluator;
  pattern : Honest l.evaluator l.p;
  elements : AllHonest l.evaluator l.elements;
  falls : l.evaluator.steps ≤ l.fn.evaluator.steps;
  ticks : at_last_mark l.work ≡ at_last_mark l.fn.work;
}

-- ---- replacement

abbrev pub decreases-replace_rows::replace_row : goal.decreases-replace_rows::replace_row
decreases-replace_rows::replace_row g l = 8000 * l.evaluator.now.steps + 7600

abbrev pub decreases-replace_rows::replace_all_row : goal.decreases-replace_rows::replace_all_row
decreases-replace_rows::replace_all_row g l = 8000 * l.evaluator.now.steps + 7600

abbrev pub decreases-replace_rows::replace_repeated_row : goal.decreases-replace_rows::replace_repeated_row
decreases-replace_rows::replace_repeated_row g l = 8000 * l.evaluator.now.steps + 7600

abbrev pub decreases-replace_rows::replace_repeated : goal.decreases-replace_rows::replace_repeated
decreases-replace_rows::replace_repeated g l = 8000 * l.evaluator.now.steps + 7500

abbrev pub invariant-replace_rows::replace_repeated-loop-subject : goal.invariant-replace_rows::replace_repeated-loop-subject
invariant-replace_rows::replace_repeated-loop-subject g l = record {
  passing : (n : ℕ) → l.fn.evaluator.steps < n → Passing n (map plain_rule l.fn.rules) (plain l.fn.first) l.fn.evaluator (plain l.subject) l.evaluator;
  sound : Sound l.evaluator;
  rules : AllHonestRules l.evaluator l.rules;
  honest : Honest l.evaluator l.subject;
  falls : l.evaluator.steps ≤ l.fn.evaluator.steps;
  ticks : at_last_mark l.work ≡ at_last_mark l.fn.work;
}

abbrev pub decreases-replace_rows::replace_repeated-loop-subject : goal.decreases-replace_rows::replace_repeated-loop-subject
decreases-replace_rows::replace_repeated-loop-subject g l = l.evaluator.steps

abbrev pub decreases-trial::first_result : goal.decreases-trial::first_result
decreases-trial::first_result g l = 8000 * l.evaluator.now.steps + 3600

abbrev pub invariant-trial::first_result-loop-i : goal.invariant-trial::first_result-loop-i
invariant-trial::first_result-loop-i g l = record {
  leads : Leads (matching.trial (map plain_rule l.fn.rules) (plain l.fn.e)) l.fn.evaluator (matching.trial (map plain_rule (drop l.i l.rules)) (plain l.e)) l.evaluator;
  sound : Sound l.evaluator;
  rules : AllHonestRules l.evaluator l.rules;
  honest : Honest l.evaluator l.e;
  falls : l.evaluator.steps ≤ l.fn.evaluator.steps;
  ticks : at_last_mark l.work ≡ at_last_mark l.fn.work;
}

abbrev pub decreases-replace_rows::replace_all : goal.decreases-replace_rows::replace_all
decreases-replace_rows::replace_all g l = 8000 * l.evaluator.now.steps + (4000 + 2 * depth (plain l.e.now))

abbrev pub decreases-replace_rows::replace_each : goal.decreases-replace_rows::replace_each
decreases-replace_rows::replace_each g l = 8000 * l.evaluator.now.steps + (4001 + 2 * depths (tree.from_list (trees l.args.now)))

abbrev pub invariant-replace_rows::replace_each-loop-i : goal.invariant-replace_rows::replace_each-loop-i
invariant-replace_rows::replace_each-loop-i g l = record {
  leads : Leads (replacing_each (Some []) (map plain_rule l.fn.rules) (trees l.fn.args)) l.fn.evaluator (replacing_each (option_map trees (each_of (take l.i l.args) l.before)) (map plain_rule l.rules) (trees (drop l.i l.args))) l.evaluator;
  sound : Sound l.evaluator;
  rules : AllHonestRules l.evaluator l.rules;
  args : AllHonest l.evaluator l.args;
  before : AllHonestMaybe l.evaluator (each_of (take l.i l.args) l.before);
  falls : l.evaluator.steps ≤ l.fn.evaluator.steps;
  ticks : at_last_mark l.work ≡ at_last_mark l.fn.work;
}

abbrev pub decreases-control_rows::control_row : goal.decreases-control_rows::control_row
decreases-control_rows::control_row g l = 8000 * l.evaluator.now.steps + 7790

abbrev pub decreases-control_rows::drive : goal.decreases-control_rows::drive
decreases-control_rows::drive g l = 8000 * l.evaluator.now.steps + 7780

abbrev pub decreases-control_rows::answer : goal.decreases-control_rows::answer
decreases-control_rows::answer g l = 8000 * l.evaluator.now.steps + 7770

abbrev pub decreases-control_rows::answer-questions : goal.decreases-control_rows::answer-questions
decreases-control_rows::answer-questions g l = 2 ^ 128 - l._answered

abbrev pub invariant-control_rows::answer-questions : goal.invariant-control_rows::answer-questions
invariant-control_rows::answer-questions g l = record {
  leads : (row : Asks) → stand l.fn.first ≡ starts row
      → Leads (played (option_copied l.name) None row) l.fn.evaluator (played (option_copied l.name) (set_aside (option_copied l.name) l.taken) (after (stand l.cursor) (told_by l.reply))) l.evaluator;
  awaited : IsAwaited (stand l.cursor) (told_by l.reply);
  ready : Ready (option_copied l.name) l.fn.evaluator l.evaluator l.taken;
  holds : Holds l.evaluator l.cursor l.reply;
  proceeds : Proceeds l._answered l.fn.evaluator.steps l.evaluator.steps (after (stand l.cursor) (told_by l.reply));
  falls : l.evaluator.steps ≤ l.fn.evaluator.steps;
  ticks : at_last_mark l.work ≡ at_last_mark l.fn.work;
}

abbrev pub decreases-control_rows::respond : goal.decreases-control_rows::respond
decreases-control_rows::respond g l = 8000 * l.evaluator.now.steps + 7760

abbrev pub decreases-control_rows::caught_end : goal.decreases-control_rows::caught_end
decreases-control_rows::caught_end g l = 8000 * l.evaluator.now.steps + 14

abbrev pub decreases-scope_rows::initial : goal.decreases-scope_rows::initial
decreases-scope_rows::initial g l = 8000 * l.evaluator.now.steps + 13

abbrev pub decreases-scope_rows::initials : goal.decreases-scope_rows::initials
decreases-scope_rows::initials g l = 8000 * l.evaluator.now.steps + 14

abbrev pub invariant-scope_rows::initials-loop-i : goal.invariant-scope_rows::initials-loop-i
invariant-scope_rows::initials-loop-i g l = record {
  leads : Leads (scoping.initials [] (locals_in l.names)) l.fn.evaluator (scoping.initials (locals_in l.values.items) (locals_in (drop l.i l.names))) l.evaluator;
  sound : Sound l.evaluator;
  names : AreLocals l.evaluator.store l.names;
  values : AreLocals l.evaluator.store l.values.items;
  shallow : l.evaluator.steps ≡ l.fn.evaluator.steps → AreShallow l.values.items;
  falls : l.evaluator.steps ≤ l.fn.evaluator.steps;
  ticks : at_last_mark l.work ≡ at_last_mark l.fn.work;
}

abbrev pub decreases-scope_rows::module_row : goal.decreases-scope_rows::module_row
decreases-scope_rows::module_row g l = 8000 * l.evaluator.now.steps + 7600

abbrev pub decreases-scope_rows::with_row : goal.decreases-scope_rows::with_row
decreases-scope_rows::with_row g l = 8000 * l.evaluator.now.steps + 7600

abbrev pub decreases-scope_rows::block_row : goal.decreases-scope_rows::block_row
decreases-scope_rows::block_row g l = 8000 * l.evaluator.now.steps + 7600

-- ---- guards, which fall by steps or by depth

abbrev pub decreases-guard::guard : goal.decreases-guard::guard
decreases-guard::guard g l = 8000 * l.evaluator.now.steps + 3002 + 3 * depth (plain l.e.now)

abbrev pub decreases-guard::module_guard : goal.decreases-guard::module_guard
decreases-guard::module_guard g l = 8000 * l.evaluator.now.steps + 3001 + 3 * depth (plain l.e.now)

abbrev pub decreases-guard::with_guard : goal.decreases-guard::with_guard
decreases-guard::with_guard g l = 8000 * l.evaluator.now.steps + 3001 + 3 * depth (plain l.e.now)

abbrev pub decreases-guard::block_guard : goal.decreases-guard::block_guard
decreases-guard::block_guard g l = 8000 * l.evaluator.now.steps + 3001 + 3 * depth (plain l.e.now)

abbrev pub decreases-guard::guarded_value : goal.decreases-guard::guarded_value
decreases-guard::guarded_value g l = 8000 * l.evaluator.now.steps + 3003 + 3 * depth (plain l.e.now)

abbrev pub decreases-guard::condition_result : goal.decreases-guard::condition_result
decreases-guard::condition_result g l = 8000 * l.evaluator.now.steps + 14

abbrev pub decreases-end_rows::catch_row : goal.decreases-end_rows::catch_row
decreases-end_rows::catch_row g l = 8000 * l.evaluator.now.steps + 7600

abbrev pub decreases-end_rows::catch_tagged : goal.decreases-end_rows::catch_tagged
decreases-end_rows::catch_tagged g l = 8000 * l.evaluator.now.steps + 7590

abbrev pub decreases-end_rows::catch_thrown : goal.decreases-end_rows::catch_thrown
decreases-end_rows::catch_thrown g l = 8000 * l.evaluator.now.steps + 7580

abbrev pub decreases-end_rows::check_abort_row : goal.decreases-end_rows::check_abort_row
decreases-end_rows::check_abort_row g l = 8000 * l.evaluator.now.steps + 7600

abbrev pub decreases-quiet_rows::quiet_row : goal.decreases-quiet_rows::quiet_row
decreases-quiet_rows::quiet_row g l = 8000 * l.evaluator.now.steps + 7600

abbrev pub decreases-quiet_rows::check_row : goal.decreases-quiet_rows::check_row
decreases-quiet_rows::check_row g l = 8000 * l.evaluator.now.steps + 7600

abbrev pub decreases-quiet_rows::evaluate_quietly : goal.decreases-quiet_rows::evaluate_quietly
decreases-quiet_rows::evaluate_quietly g l = 8000 * l.evaluator.now.steps + 10
