use Rattle.std.proofs.Common.{rules, Option, ◌≡◌, ◌+◌, ◌∷◌, ◌++◌, [], None, Some, Ok, Err, true, false, option_map, length, drop, refl, sym, ap, ◌∙◌, subst, subst₂, arith, true≢false, ◌^◌, ◌&&◌, ℕ, ◌<◌, not, IfOk, List, map, le_refl, take, ap₂, ◌||◌, is_some, ◌*◌, ◌-◌}
use Rattle.std.specs.Prelude.{codes, IfSome, option_copied}
use Rattle.std.proofs.lemmas.Result.{err_from_is_err_and}
use Rattle.std.proofs.lemmas.List.{length-map, length-append}
use Rattle.std.proofs.lemmas.List.Elements.{All-push}
use Rattle.wl_expr.specs.Stamped.{Stamped, plain, from_list}
use Rattle.wl_expr.specs.Tree.{IsWithinLimits, node, Tree, depths, depth}
use Rattle.wl_expr.specs.Words.{applied, list_of, fits, elements}
use Rattle.wl_algebra.specs.Kinds as algebra
use Rattle.wl_control.specs.Cursors.{stand, HoldsFrom}
use Rattle.wl_lists.specs.Kinds as lists
use Rattle.wl_rules.specs.declared.rule.RuleKind.TheVariants.{Own}
use Rattle.wl_shape.specs.Answers.{IsShaped}
use Rattle.wl_shape.specs.Shape.{Shaped, shape, shaped_tree, without_sequences}
use Rattle.wl_shape.specs.declared.arrangement.Shaped.TheVariants as variant
use Rattle.wl_semantics.specs.Prog as prog
use Rattle.wl_semantics.specs.Prog.{done, ◌>>=◌}
use Rattle.wl_semantics.specs.Elements.{evaluated_on, bared, is_bared}
use Rattle.wl_state.specs.Kinds as kinds
use Rattle.wl_semantics.specs.Match as matching
use Rattle.wl_semantics.specs.Turn as turn
use Rattle.wl_semantics.specs.Turn.{tried}
use Rattle.wl_state.specs.Parts.{sized_row}
use Rattle.wl_state.specs.Played.{Played, Plays, Ended, TurnsEnd, Honest, AllHonest, Makes, Inside, AtEvaluated, is_leaf, whole_turn, found_tree, tree as value, values, itself, built, turned, sealed, end_of, trees, Leads, Sound, AllHonestRules, honest_tree, HonestMaybe}
use Rattle.wl_state.specs.declared.evaluator.Evaluator.{Evaluator}
use Rattle.wl_state.specs.declared.ends.End.TheVariants as end
use Rattle.wl_state.specs.declared.ends.Turned.TheVariants as made
use Rattle.wl_state.proofs.Playing.{plays_bind, plays_done, plays_done_is}
use Rattle.wl_state.proofs.Rows.{played_exit, played_bind, leads_exit, later, all_later, leads_played, rules_later, option_later}
use Rattle.wl_state.proofs.Values.{args_honest, head_honest, built_honest, plains_trees, none_evaluated, evaluated_push, evaluated_later, unless_held, unless_given, passed_honest}
use Rattle.wl_state.proofs.Evaluating.{plays_leaf, leaf_inside, plays_too_deep, entered, plays_turns, end_closed, turns_depth, value_played, turns_stop, turns_final, turns_leaf, turns_next}
use Rattle.wl_state.proofs.Turning.{marked_sound, turns_limit}
use Rattle.wl_state.proofs.Tables.{row_algebra, row_lists, row_special, row_none, row_otherwise, none_mapped, row_control}
use Rattle.wl_eval.proofs.Notices.{algebra_notices, lists_notices}
use Rattle.wl_state.proofs.Answering.{algebra_answers, lists_answers, algebra_honest, lists_honest}
use Rattle.wl_eval.proofs.Shapes.{stays_plays, HonestShaped, shaped_honest, shape_stops, shape_is, threaded_plays, uneven_plays}
use Rattle.wl_state.proofs.Rounds.{no_symbol, no_node, node_makes, node_is, or_found, or_next, or_plays, head_values-is, tried_at, up_named, up_unnamed, up_over, up_values-held, up_values-tried, built_in-node, built_in-none, evaluated-held, evaluated-each, evaluated-value, evaluated-kept, evaluated-over, trees_push, turned_played, final_is, final_honest, turn_symbol, leaf_turn, symbol_back, node_turned}
use Rattle.wl_match.specs.Left.{left, binding}
use Rattle.wl_match.specs.Parts.{kept, whole}
use Rattle.wl_match.specs.Shown.{Asks, AreFrom, IsTestFrom, trail_in}
use Rattle.wl_match.specs.Trials.{Trials}
use Rattle.wl_rules.specs.StampedRules.{plain_rule}
use Rattle.wl_shape.specs.Fill.{fill_binding}
use Rattle.wl_state.specs.Searching.{next_binding, passes_within, refuses_within, tests_within}
use Rattle.wl_state.proofs.Bindings.{passes_is, walk_is}
use Rattle.wl_state.proofs.Matches.{all_view_honest, asks_applies, asks_holds, asks_refuses, each_at, each_leads, each_over, exit, filled_leads, filled_makes, filling_leads, found_none, found_some, guarded_leads, both_not, held, kept_honest, leads_in, leads_out, made_honest, match_found, match_over, matches_played, next_so, no_test, not_filled, not_held, not_so, one_makes, refuses_one, refuses_other, rule_played, sized_leads, test_found, tests_at, tests_begin, tests_end, trial_at, trial_leads, trial_over, unguarded, view_honest, walk_found, walk_over}
use Rattle.wl_expr.specs.Tree as tree
use Rattle.wl_expr.proofs.Small.{fits_decides}
use Rattle.wl_semantics.specs.MatchRows as match_rows
use Rattle.wl_state.specs.Replacing.{found_trees, AllHonestMaybe, each_of, part_of, replacing, replacing_each, seen_each, seen_replaced, seen_result, sifted}
use Rattle.wl_state.proofs.MatchRowParts.{any_at, any_none, args_depth, element_depth, listed_honest, node_honest, pair_honest, rule_honest, cases_at, cases_leads, cases_over, count_at, count_over, delete_atom, delete_node, elements_over, leads_to, nothing_more, one_more, pair_row, pair_stays, part_at, part_is, part_leads, part_node, part_none, row_exit, row_truth, sifted_at, sifted_leads, sifted_over, head_depth, row_count, delete_one, delete_many}
use Rattle.wl_state.proofs.RowParts.{row_at, row_gives, row_made, row_stays, made_is}
use Rattle.wl_state.proofs.ReplaceRowParts.{below_leads, each_next, each_over as parts_over, leaf_replaced, node_below, rebuilt_honest, rebuilt_is, replacing_is, result_replaced, step_stops, trial_next, became, each_honest, each_later, each_leads as parts_leads, none_is as trial_none, pass_ends, pass_goes as again_goes, pass_steps, pass_stops as again_stops, read_honest, read_is, replace_all_is, replace_is, replace_repeated_is, take_whole, replacing_stops, Passing, not_replaced, passing_begins, no_rules_read, repeated_gives, replace_all_stays, replace_repeated_stays, replace_stays, replaced_with}
use Rattle.wl_control.specs.Asks.{Asks as Row}
use Rattle.wl_control.specs.Places.{plain_ask}
use Rattle.wl_control.specs.Stand.{IsAwaited, after, start, starts}
use Rattle.wl_control.specs.Table as control
use Rattle.wl_control.specs.declared.cursor.Cursor.{Cursor}
use Rattle.wl_ports.specs.Name.{IsName}
use Rattle.std.specs.Borrow.{Bor}
use Rattle.wl_semantics.specs.Control.{iterated, played}
use Rattle.wl_state.specs.Honest.{Grows, HonestIn, HonestOption}
use Rattle.wl_state.specs.Replies.{AreTaken, Comes, HonestAsk, Ready, caught_reply, set_aside, told_by}
use Rattle.wl_state.specs.declared.replies.Outcome.TheVariants as outcome
use Rattle.wl_state.specs.declared.replies.Reply.TheVariants as replies
use Rattle.wl_eval.proofs.ControlParts.{asked_honest, catches_behind, catches_not, caught_goes, caught_played, caught_stops, comes_at, comes_exit, finishes_exit, holds_next, let_goes, match_goes, match_stops, none_taken, overflow_ends, pass_goes, pass_stops, proceeds_ends, proceeds_first, proceeds_on, protected_row, ready_at, ready_exit, ready_large, ready_same, ready_set, ready_stop, ready_then, refused_finishes, result_ends, row_begins, row_bounded, set_named, set_nothing, started, starts_row, unchanged_ends, unprotected_row, value_goes, value_stops}
use Rattle.wl_state.specs.LocalNames as local_names
use Rattle.wl_state.specs.LocalNames.{local_in, locals_in, held_in, scope_parts}
use Rattle.wl_semantics.specs.Scoping as scoping
use Rattle.wl_state.proofs.LocalParts.{locals_at, locals_push, no_locals, are_symbols}
use Rattle.wl_state.proofs.ScopingParts.{local_at, locals_later, locals_pushed}
use Rattle.wl_state.proofs.ScopeRowParts.{block_exit, block_on, block_played, block_row-on, given_plays, initial_none, initial_some, initials_is, initials_over, module_on, module_plays, module_row-on, row_exit as scope_exit, with_on, with_plays, with_row-on, initial_gives, shallow_push, aside_play, block_gives, block_stops, err_played, honest_played, initials_play, initials_stop, inside_held, inside_sound, locals_play, renamed_of, replaced_of}
use Rattle.wl_eval.proofs.GuardParts.{guard_block, guard_condition, guard_module, guard_none, guard_with, body_depth, condition_by, condition_gives, condition_is, condition_on, module_guarded, module_sized, module_stops, renamed_shallow, replaced_shallow, with_below, with_falls, with_guarded, with_sized, with_stops, value_shallow}
use Rattle.wl_expr.proofs.Items.{one_item, two_items}
use Rattle.wl_desk.specs.Desk.{with_heard}
use Rattle.wl_state.specs.Endings.{EndsBy, quiet_end, unheard, unless_heard}
use Rattle.wl_semantics.specs.EndRows.{catch_tagged}
use Rattle.wl_semantics.specs.State.{Thrown}
use Rattle.wl_state.proofs.Catching.{abort_two, catch_one, catch_two, end_honest, tagged_is, tagged_passed, tagged_thrown, thrown_caught, thrown_on, thrown_stops, catch_others, check_abort_others, check_others, quiet_others, second_honest}
use Rattle.wl_state.proofs.Hushing.{check_two, hushed_is, leaf_quietly, quiet_ended, quiet_one, quieted_sound, unheard_sound, either_first, either_second, still_quieted, unheard_is}
use Rattle.wl_state.proofs.SlotParts.{built_in-function}
use Rattle.wl_state.proofs.IteratorParts.{none_is}
use Rattle.wl_eval.proofs.LiteralParts.{missed_so, rule_missed, rule_stopped}
use Rattle.wl_expr.proofs.SameNodes.{same_answer}
use Rattle.wl_semantics.specs.Definitions as definitions
use Rattle.wl_semantics.specs.LeftSides.{with_core}
use Rattle.wl_state.specs.Prepared.{Stands, prepared_side, under, updated, one, kept as kept_value}
use Rattle.wl_state.proofs.Preparing.{condition_later, leaf_core, held_made, open_made, prepared_stop, unsized_stop, sides_given, head_stop, values_stop, core_done}
use Rattle.wl_state.proofs.Setting.{define_sides, define_up_sides, define_tagged_sides, no_condition, row_refusal, row_taken, set_single, set_shape, set_at, set_step, set_over, text_set, plain_stop, plain_done, define_stop}
use Rattle.wl_eval.proofs.Updating.{changing_stop, changing_none, new_stop, new_given, chosen_is, chosen_honest}
use Rattle.wl_eval.proofs.DefiningRows.{by, read_some, set_both, set_row-by, delay_both, set_delayed_row-by, up_both, up_set_row-by, up_delay_both, up_set_delayed_row-by, unset_one, unset_row-by, changed_both, changing_by-by, stepping-by, tag_three, tag_set_row-by, tag_delay_three, tag_set_delayed_row-by, tag_unset, tag_unset_row-by, unset_plays, tag_stop, tag_given, unset_given}
use Rattle.wl_state.specs.Guards as guards
use Rattle.wl_state.specs.Guards.{guarded_value}
use Rattle.wl_semantics.specs.Match.{guard_within, value_inside}
use Rattle.wl_shape.specs.Scopes as scopes
use Rattle.wl_eval.proofs.+eval.Goals.{end_rows::check_abort_row-in_default-via-then-args-lt2, end_rows::check_abort_row-in_default-via-else-args-lt2+else-args-lt3, quiet_rows::quiet_row-in_default-via-then-args-lt1, quiet_rows::quiet_row-in_default-via-else-args-lt1+else-args-lt2, quiet_rows::check_row-in_default-via-then-args-lt2, quiet_rows::check_row-in_default-via-else-args-lt2+else-args-lt3, quiet_rows::check_row-then-before, quiet_rows::check_row-else-before}
use Rattle.wl_ports.proofs.AsciiNames.{ascii_is_name}
use Rattle.wl_eval.proofs.+eval.Goals as goal

-- ---- which rule applies

pub applying::applied_rule-returns-in_err-up-clause-played : goal.applying::applied_rule-returns-in_err-up-clause-played
applying::applied_rule-returns-in_err-up-clause-played g t c =
    let p = err_from_is_err_and c.from_residual.result c.from_residual.ensures.1 in
    played_exit found_tree found_tree _ _ _ _ _ _ _ p.1 p.2 c.in_err-up.ensures.played

pub applying::applied_rule-returns-in-Some-clause-played : goal.applying::applied_rule-returns-in-Some-clause-played
applying::applied_rule-returns-in-Some-clause-played g t c = or_found _ _ _ _ c.in_ok-up.up c.in_ok-up.ensures.played c.in-Some.e c.in-Some.is

pub applying::applied_rule-head_values-requires : goal.applying::applied_rule-head_values-requires
applying::applied_rule-head_values-requires g t c κs within =
    let v = c.in_ok-up.ensures.played.0 in
    (search rules, (within, (v.sound c.requires.sound, later v _ c.requires.honest)))

pub applying::applied_rule-returns-in_err-by_head-clause-played : goal.applying::applied_rule-returns-in_err-by_head-clause-played
applying::applied_rule-returns-in_err-by_head-clause-played g t c =
    let p = err_from_is_err_and c.from_residual-in_err-by_head.result c.from_residual-in_err-by_head.ensures.1 in
    or_next _ _ _ _ c.in_ok-up.up c.in_ok-up.ensures.played c.in_default.is _ _ (played_exit found_tree found_tree _ _ _ _ _ _ _ p.1 p.2 c.in_err-by_head.ensures.played)

pub applying::applied_rule-returns-in-Some-by_head-clause-played : goal.applying::applied_rule-returns-in-Some-by_head-clause-played
applying::applied_rule-returns-in-Some-by_head-clause-played g t c =
    let w = or_found _ _ _ _ c.in_ok-by_head.by_head c.in_ok-by_head.ensures.played c.in-Some-by_head.e c.in-Some-by_head.is in
    (or_plays _ _ _ _ c.in_ok-up.up c.in_ok-up.ensures.played c.in_default.is w.0, w.1)

pub applying::applied_rule-built_in-requires : goal.applying::applied_rule-built_in-requires
applying::applied_rule-built_in-requires g t c κs within =
    let v = c.in_ok-up.ensures.played.0 in
    let w = c.in_ok-by_head.ensures.played.0 in
    (search rules, (within, (w.sound (v.sound c.requires.sound), later w _ (later v _ c.requires.honest))))

pub applying::applied_rule-returns-clause-played : goal.applying::applied_rule-returns-clause-played
applying::applied_rule-returns-clause-played g t c =
    or_next _ _ _ _ c.in_ok-up.up c.in_ok-up.ensures.played c.in_default.is _ _
    (or_next _ _ _ _ c.in_ok-by_head.by_head c.in_ok-by_head.ensures.played c.in_default-by_head.is _ _ c.built_in.ensures.played)

-- ---- turns

pub evaluation::bare_turn-returns-in_err-take_step-clause-played : goal.evaluation::bare_turn-returns-in_err-take_step-clause-played
evaluation::bare_turn-returns-in_err-take_step-clause-played g t c =
    let p = err_from_is_err_and c.from_residual.result c.from_residual.ensures.1 in
    played_exit itself turned _ _ _ _ _ _ _ p.1 p.2 c.in_err-take_step.ensures.played

pub evaluation::bare_turn-turn-requires : goal.evaluation::bare_turn-turn-requires
evaluation::bare_turn-turn-requires g t c κs within =
    let v = c.in_ok-take_step.ensures.played.0 in
    (search rules, (within, (v.sound c.requires.sound, later v _ c.requires.honest)))

pub evaluation::bare_turn-returns-clause-played : goal.evaluation::bare_turn-returns-clause-played
evaluation::bare_turn-returns-clause-played g t c = played_bind turned _ _ _ _ _ _ _ c.in_ok-take_step.ensures.played.0 c.turn.ensures.played

-- ---- the built-in rule

pub built_in::built_in-returns-in_default : goal.built_in::built_in-returns-in_default
built_in::built_in-returns-in_default g t c =
    record {
      played = (subst (λ p. Plays p c.args.evaluator.now (Ok None) c.args.evaluator.now false) (sym (built_in-none _ (no_node _ _ _ c.view.ensures.all c.in_default.not-Node))) plays_done, tt);
      falls = omega arith;
      ticks = refl;
    }

pub built_in::built_in-row-requires : goal.built_in::built_in-row-requires
built_in::built_in-row-requires g t c κs within =
    (search rules, (within, (c.requires.sound, args_honest c.args.evaluator.now.store _ _ _ _ c.in-Node.ensures.all c.requires.honest)))

pub built_in::built_in-function_row-requires : goal.built_in::built_in-function_row-requires
built_in::built_in-function_row-requires g t c =
    let a = c.args.evaluator.now.store in
    record {
      function = head_honest a _ _ _ _ c.in-Node.ensures.all c.requires.honest;
      args = args_honest a _ _ _ _ c.in-Node.ensures.all c.requires.honest;
    }

pub built_in::built_in-returns-in-Symbol-clause-played : goal.built_in::built_in-returns-in-Symbol-clause-played
built_in::built_in-returns-in-Symbol-clause-played g t c =
    let es = c.in-Node.args.now in
    let q = ap (λ us. node (plain c.in-Node.head.now) us) (sym (plains_trees es)) ∙ c.in-Node.ensures.plain in
    subst (λ p. Played found_tree p c.args.evaluator.now c.row.result c.row.new.evaluator) (sym (built_in-node (plain c.in-Node.head.now) (trees es) c.in-Symbol.name.now (plain c.args.form.now) c.in-Symbol.ensures.plain q)) c.row.ensures.played

-- ---- elements

pub elements::elements-returns-then-has-clause-played : goal.elements::elements-returns-then-has-clause-played
elements::elements-returns-then-has-clause-played g t c =
    let h = sym c.has.ensures ∙ c.if-has.true in
    let e = c.in_ok-copy_all.ensures in (
      subst (λ p. Plays p c.args.evaluator.now (Ok (trees c.in_ok-copy_all.field-0.items)) c.args.evaluator.now false) (sym (evaluated-held c.args.attributes (trees c.args.args.now) h)) (plays_done_is (sym (ap trees e))),
      (subst (AllHonest c.args.evaluator.now) (sym e) c.requires.args, none_evaluated _ c.args.attributes [] _ h),
    )

pub elements::elements-loop-i-preserved-then-stays_held : goal.elements::elements-loop-i-preserved-then-stays_held
elements::elements-loop-i-preserved-then-stays_held g t c =
    let a = c.args.attributes in
    let l = c.loop-i in
    let xs = c.args.args.now in
    let before = l.values.items in
    let x = c.index-args-i.result in
    let n : length (trees before) ≡ l.i = length-map before plain ∙ l.invariant.count in
    let h = sym (c.stays_held.ensures (trees before) n) ∙ c.if-stays_held.true in
    let e = evaluated-kept a (trees before) xs l.i x (omega arith) c.index-args-i.is h in
    let p = c.in_ok-push.ensures.items ∙ ap (λ z. before ++ z ∷ []) c.in_ok-copy.ensures in
    record {
      leads = λ r k o m. l.invariant.leads r k o (subst (λ q. Plays q l.evaluator r k o) (sym e) (plays_bind (done (plain x)) _ plays_done (subst (λ z. Plays (evaluated_on a z (trees (drop (l.i + 1) xs))) l.evaluator r k o) (trees_push before _ x p) m)));
      sound = l.invariant.sound;
      args = l.invariant.args;
      values = subst (AllHonest l.evaluator) (sym p) (All-push (Honest l.evaluator) before x l.invariant.values (subst (Honest l.evaluator) (sym c.index-args-i.is) (l.invariant.args l.i x (omega arith))));
      inside = subst (λ z. AtEvaluated (Inside l.evaluator l.evaluator.depth) a [] (from_list z)) (sym p) (evaluated_push (Inside l.evaluator l.evaluator.depth) a [] before x l.invariant.inside (unless_held _ a.hold_all_complete _ h));
      count = omega (arith, ap length p, length-append before (x ∷ []), l.invariant.count);
      falls = l.invariant.falls;
      ticks = cc;
    }

pub elements::elements-returns-in_err-value-clause-played : goal.elements::elements-returns-in_err-value-clause-played
elements::elements-returns-in_err-value-clause-played g t c =
    let a = c.args.attributes in
    let l = c.loop-i in
    let xs = c.args.args.now in
    let before = l.values.items in
    let x = c.index-args-i.result in
    let n : length (trees before) ≡ l.i = length-map before plain ∙ l.invariant.count in
    let h = sym (c.stays_held.ensures (trees before) n) ∙ c.if-stays_held.false in
    let e = evaluated-value a (trees before) xs l.i x (omega arith) c.index-args-i.is h in
    let w = evaluated-each a (trees xs) (sym c.has.ensures ∙ c.if-has.false) in
    let p = err_from_is_err_and c.from_residual-in_err-value.result c.from_residual-in_err-value.ensures.1 in
    subst (λ z. Played (values a) z c.args.evaluator.now c.from_residual-in_err-value.result c.value_of.new.evaluator) (sym w)
    (leads_exit value (values a) _ _ _ _ _ _ _ _ _ (λ r k o m. l.invariant.leads r k o (subst (λ z. Plays z l.evaluator r k o) (sym e) m)) p.1 p.2 c.in_err-value.ensures.played)

pub elements::elements-loop-i-preserved : goal.elements::elements-loop-i-preserved
elements::elements-loop-i-preserved g t c =
    let a = c.args.attributes in
    let l = c.loop-i in
    let xs = c.args.args.now in
    let before = l.values.items in
    let x = c.index-args-i.result in
    let y = c.in_ok-value.value in
    let k1 = c.value_of.new.evaluator in
    let n : length (trees before) ≡ l.i = length-map before plain ∙ l.invariant.count in
    let h = sym (c.stays_held.ensures (trees before) n) ∙ c.if-stays_held.false in
    let e = evaluated-value a (trees before) xs l.i x (omega arith) c.index-args-i.is h in
    let v = c.in_ok-value.ensures.played in
    let p = c.in_ok-push-2.ensures.items in
    record {
      leads = λ r k o m. l.invariant.leads r k o (subst (λ q. Plays q l.evaluator r k o) (sym e) (plays_bind _ _ v.0 (subst (λ z. Plays (evaluated_on a z (trees (drop (l.i + 1) xs))) k1 r k o) (trees_push before _ y p) m)));
      sound = v.0.sound l.invariant.sound;
      args = all_later v.0 _ l.invariant.args;
      values = subst (AllHonest k1) (sym p) (All-push (Honest k1) before y (all_later v.0 before l.invariant.values) v.1.0);
      inside = subst (λ z. AtEvaluated (Inside k1 k1.depth) a [] (from_list z)) (sym p) (evaluated_push (Inside k1 k1.depth) a [] before y (evaluated_later v.0 a [] before l.invariant.values l.invariant.inside) (unless_given a.hold_all_complete _ v.1.1));
      count = omega (arith, ap length p, length-append before (y ∷ []), l.invariant.count);
      falls = omega (arith, c.in_ok-value.ensures.falls, l.invariant.falls);
      ticks = cc;
    }

pub elements::elements-returns-clause-played : goal.elements::elements-returns-clause-played
elements::elements-returns-clause-played g t c =
    let a = c.args.attributes in
    let l = c.loop-i in
    let h = sym c.has.ensures ∙ c.if-has.false in
    let e = evaluated-over a (trees l.values.items) c.args.args.now l.i (omega arith) in (
      subst (λ p. Plays p c.args.evaluator.now (Ok (trees l.values.items)) l.evaluator false) (sym (evaluated-each a (trees c.args.args.now) h))
          (l.invariant.leads _ _ _ (subst (λ p. Plays p l.evaluator (Ok (trees l.values.items)) l.evaluator false) (sym e) plays_done)),
      (l.invariant.values, l.invariant.inside),
    )

-- ---- evaluations

pub evaluation::evaluate-returns-then-is_leaf-clause-played : goal.evaluation::evaluate-returns-then-is_leaf-clause-played
evaluation::evaluate-returns-then-is_leaf-clause-played g t c =
    let l = sym c.is_leaf.ensures ∙ c.if-is_leaf.true in
    (plays_leaf c.args.e c.args.evaluator.now l, (c.requires.honest, leaf_inside c.args.evaluator.now _ c.args.e l))

pub evaluation::evaluate-returns-then-depth-evaluator-clause-played : goal.evaluation::evaluate-returns-then-depth-evaluator-clause-played
evaluation::evaluate-returns-then-depth-evaluator-clause-played g t c =
    (plays_too_deep c.args.e c.args.evaluator.now c.too_deep.new.self (sym c.is_leaf.ensures ∙ c.if-is_leaf.false) c.requires.sound.recursion (omega arith) c.in_ok-too_deep.ensures.played, tt)

pub evaluation::evaluate-returns-clause-played : goal.evaluation::evaluate-returns-clause-played
evaluation::evaluate-returns-clause-played g t c =
    let k = c.args.evaluator.now in
    let k1 = c.turns.new.evaluator in
    let w = subst (λ z. TurnsEnd 1 (plain c.args.e) z (Ok c.in_ok-end.end) k1) c.open.ensures c.in_ok-end.ensures.played in (
      plays_turns c.args.e k k1 (end_of c.in_ok-end.end) (sym c.is_leaf.ensures ∙ c.if-is_leaf.false) c.requires.sound.recursion (omega arith) w.0,
      end_closed k1 k.depth c.in_ok-end.end (let d = turns_depth 1 (plain c.args.e) (entered k) k1 _ w.0 in omega (arith, d)) w.1,
    )

-- ---- rules of the head

pub applying::head_values-returns-in-None-clause-played : goal.applying::head_values-returns-in-None-clause-played
applying::head_values-returns-in-None-clause-played g t c =
    let e = head_values-is (plain c.args.form.now) ∙ ap (λ o. tried_at o (plain c.args.form.now)) (sym c.in-None.ensures) in
    (subst (λ p. Plays p c.args.evaluator.now (Ok None) c.args.evaluator.now false) (sym e) plays_done, tt)

-- ---- the turn of a node

pub turn::node_turn-returns-in_err-head-clause-played : goal.turn::node_turn-returns-in_err-head-clause-played
turn::node_turn-returns-in_err-head-clause-played g t c =
    let p = err_from_is_err_and c.from_residual.result c.from_residual.ensures.1 in
    played_exit value turned _ _ _ _ _ _ _ p.1 p.2 c.in_err-head.ensures.played

pub turn::node_turn-elements-requires : goal.turn::node_turn-elements-requires
turn::node_turn-elements-requires g t c κs within =
    let v = c.in_ok-head.ensures.played.0 in
    let w = c.in_ok-attributes.ensures.played in
    (search rules, (within, (w.sound (v.sound c.requires.sound), all_later w _ (all_later v _ c.requires.args))))

pub turn::node_turn-returns-in_err-values-clause-played : goal.turn::node_turn-returns-in_err-values-clause-played
turn::node_turn-returns-in_err-values-clause-played g t c =
    let v = c.in_ok-head.ensures.played.0 in
    let w = c.in_ok-attributes.ensures.played in
    let p = err_from_is_err_and c.from_residual-in_err-values.result c.from_residual-in_err-values.ensures.1 in
    played_bind turned _ _ _ _ _ _ _ v (played_bind turned _ _ _ _ _ _ _ w (played_exit (values c.in_ok-attributes.attributes) turned _ _ _ _ _ _ _ p.1 p.2 c.in_err-values.ensures.played))

pub turn::node_turn-returns-in_err-first-clause-played : goal.turn::node_turn-returns-in_err-first-clause-played
turn::node_turn-returns-in_err-first-clause-played g t c =
    let v = c.in_ok-head.ensures.played.0 in
    let w = c.in_ok-attributes.ensures.played in
    let x = c.in_ok-values.ensures.played.0 in
    let h = plain c.in_ok-head.head in
    let made = c.node-first.result in
    let m = subst (λ zs. Makes (applied h (trees zs)) made) c.as_slice.ensures.value (node_makes c.in_ok-head.head c.as_slice.result.now made c.node-first.ensures.ok c.node-first.ensures.large) in
    let first = applied h (trees c.in_ok-values.values.items) in
    let p = err_from_is_err_and c.from_residual-in_err-first.result c.from_residual-in_err-first.ensures.1 in
    played_bind turned _ _ _ _ _ _ _ v (played_bind turned _ _ _ _ _ _ _ w (played_bind turned _ _ _ _ _ _ _ x (played_exit (built first) turned _ _ _ _ _ _ _ p.1 p.2 (c.in_err-first.ensures.played first m))))

pub turn::node_turn-shaped_turn-requires : goal.turn::node_turn-shaped_turn-requires
turn::node_turn-shaped_turn-requires g t c κs within =
    let v = c.in_ok-head.ensures.played in
    let w = c.in_ok-attributes.ensures.played in
    let x = c.in_ok-values.ensures.played in
    let h = c.in_ok-head.head in
    let made = c.node-first.result in
    let m = subst (λ zs. Makes (applied (plain h) (trees zs)) made) c.as_slice.ensures.value (node_makes h c.as_slice.result.now made c.node-first.ensures.ok c.node-first.ensures.large) in
    let y = c.in_ok-first.ensures.played (applied (plain h) (trees c.in_ok-values.values.items)) m in
    let k = c.fitted.new.self in
    let head = later y.0 _ (later x.0 _ (later w _ v.1.0)) in
    let all = all_later y.0 _ x.1.0 in (
      search rules,
      (
        within,
        (
          y.0.sound (x.0.sound (w.sound (v.0.sound c.requires.sound))),
          (
            y.1 ∙ ap (λ zs. applied (plain h) (trees zs)) (sym c.as_slice-2.ensures.value),
            (
              subst (Honest k) (sym (node_is h c.as_slice.result.now made c.in_ok-first.first c.in_ok-first.ensures.made c.node-first.ensures.ok)) (built_honest k.store h c.as_slice.result.now head (subst (AllHonest k) (sym c.as_slice.ensures.value) all)),
              (head, subst (AllHonest k) (sym c.as_slice-2.ensures.value) all),
            ),
          ),
        ),
      ),
    )

pub turn::node_turn-returns-clause-played : goal.turn::node_turn-returns-clause-played
turn::node_turn-returns-clause-played g t c =
    let a = c.in_ok-attributes.attributes in
    let v = c.in_ok-head.ensures.played.0 in
    let w = c.in_ok-attributes.ensures.played in
    let x = c.in_ok-values.ensures.played.0 in
    let h = plain c.in_ok-head.head in
    let made = c.node-first.result in
    let m = subst (λ zs. Makes (applied h (trees zs)) made) c.as_slice.ensures.value (node_makes c.in_ok-head.head c.as_slice.result.now made c.node-first.ensures.ok c.node-first.ensures.large) in
    let y = c.in_ok-first.ensures.played (applied h (trees c.in_ok-values.values.items)) m in
    let r = subst₂ (λ z us. Played turned (turn.shaped_turn a z (is_bared a (trees us)) (shape a h (bared a (trees us)))) c.fitted.new.self c.shaped_turn.result c.shaped_turn.new.evaluator) y.1 c.as_slice-2.ensures.value c.shaped_turn.ensures.played in
    played_bind turned _ _ _ _ _ _ _ v (played_bind turned _ _ _ _ _ _ _ w (played_bind turned _ _ _ _ _ _ _ x (played_bind turned _ _ _ _ _ _ _ y.0 r)))

-- ---- rows

pub built_in::row-returns-then-not-begins_capital-clause-played : goal.built_in::row-returns-then-not-begins_capital-clause-played
built_in::row-returns-then-not-begins_capital-clause-played g t c =
    let n = sym c.begins_capital.ensures ∙ c.if-not-begins_capital.true in
    (subst (λ p. Plays (sized_row p) c.args.evaluator.now (Ok None) c.args.evaluator.now false) (sym (row_otherwise c.args.name.now (trees c.args.args.now) n)) (plays_bind (done None) _ plays_done plays_done), tt)

pub built_in::row-answered-requires : goal.built_in::row-answered-requires
built_in::row-answered-requires g t c = record { honest = algebra_honest c.args.evaluator.now c.args.args.now c.requires.1.1.1.1 c.apply-answer.result c.apply-answer.ensures.passed }

pub built_in::row-returns-in-Some-clause-played : goal.built_in::row-returns-in-Some-clause-played
built_in::row-returns-in-Some-clause-played g t c =
    let es = trees c.args.args.now in
    let f = algebra.row_by c.in-Some.kind in
    let r = c.apply-answer in
    subst (λ p. Played found_tree (sized_row p) c.args.evaluator.now c.answered.result c.answered.new.self) (sym (row_algebra c.args.name.now es f c.in-Some.ensures))
    (c.answered.ensures.played (f es) (algebra_answers (f es) r.result (algebra_notices c.in-Some.kind es) r.ensures.answer r.ensures.fits r.ensures.large))

pub built_in::row-answered-requires-in-Some-named : goal.built_in::row-answered-requires-in-Some-named
built_in::row-answered-requires-in-Some-named g t c =
    record { honest = lists_honest c.args.evaluator.now c.args.args.now c.requires.1.1.1.1 c.apply-answer-in-Some-named.result c.apply-answer-in-Some-named.ensures.passed }

pub built_in::row-returns-in-Some-named-clause-played : goal.built_in::row-returns-in-Some-named-clause-played
built_in::row-returns-in-Some-named-clause-played g t c =
    let es = trees c.args.args.now in
    let f = lists.row_by c.in-Some-named.kind in
    let r = c.apply-answer-in-Some-named in
    let a = sym c.named.ensures ∙ ap (option_map algebra.row_by) c.in_default.is in
    subst (λ p. Played found_tree (sized_row p) c.args.evaluator.now c.answered-in-Some-named.result c.answered-in-Some-named.new.self) (sym (row_lists c.args.name.now es f a c.in-Some-named.ensures))
    (c.answered-in-Some-named.ensures.played (f es) (lists_answers (f es) r.result (lists_notices c.in-Some-named.kind es) r.ensures.answer r.ensures.fits r.ensures.large))

pub built_in::row-returns-in-Some-named-2-clause-played : goal.built_in::row-returns-in-Some-named-2-clause-played
built_in::row-returns-in-Some-named-2-clause-played g t c =
    let es = trees c.args.args.now in
    subst (λ p. Played found_tree (sized_row p) c.args.evaluator.now c.other_row.result c.other_row.new.evaluator) (sym (row_special c.args.name.now es (kinds.row_by c.in-Some-named-2.kind) c.in-Some-named-2.ensures)) c.other_row.ensures.played

pub built_in::row-returns-clause-played : goal.built_in::row-returns-clause-played
built_in::row-returns-clause-played g t c =
    let es = trees c.args.args.now in
    let a = sym c.named.ensures ∙ ap (option_map algebra.row_by) c.in_default.is in
    let l = sym c.named-2.ensures ∙ ap (option_map lists.row_by) c.in_default-named.is in
    let o = sym c.named-3.ensures ∙ ap (option_map kinds.row_by) c.in_default-named-2.is in
    let s = none_mapped _ _ (sym c.in_ok-started.ensures.row ∙ ap (option_map stand) c.in_default-started.is) in
    (subst (λ p. Plays (sized_row p) c.args.evaluator.now (Ok None) c.args.evaluator.now false) (sym (row_none c.args.name.now es a l o s)) (plays_bind (done None) _ plays_done plays_done), tt)

pub built_in::row-control_row-requires : goal.built_in::row-control_row-requires
built_in::row-control_row-requires g t c κs within =
    let es = c.args.args.now in
    let d = c.in-Some-started.cursor in
    let q = c.in-Some-started.is in
    let h = started (trees es) d (control.row_of c.args.name.now) (sym (ap (option_map stand) q) ∙ c.in_ok-started.ensures.row) in (
      search rules,
      (
        within,
        (
          c.requires.1.1.1.0,
          (
            c.requires.1.1.1.1,
            (
              subst (λ (o : Option Cursor). IfSome o (λ z. IsAwaited (stand z) start)) q c.in_ok-started.ensures.awaits,
              (λ ms w. subst (HoldsFrom ms) q (c.in_ok-started.ensures.passed ms w), row_bounded c.args.name.now h.0 es (stand d) h.1 h.2 (omega arith)),
            ),
          ),
        ),
      ),
    )

pub built_in::row-returns-in-Some-started-clause-played : goal.built_in::row-returns-in-Some-started-clause-played
built_in::row-returns-in-Some-started-clause-played g t c =
    let es = trees c.args.args.now in
    let o = sym c.named-3.ensures ∙ ap (option_map kinds.row_by) c.in_default-named-2.is in
    let h = started es c.in-Some-started.cursor (control.row_of c.args.name.now) (sym (ap (option_map stand) c.in-Some-started.is) ∙ c.in_ok-started.ensures.row) in
    subst (λ p. Played found_tree (sized_row p) c.args.evaluator.now c.control_row.result c.control_row.new.evaluator) (sym (row_control c.args.name.now es h.0 o h.1)) (c.control_row.ensures.played h.0 h.2)

-- ---- the rules of a node

pub turn::rules_turn-returns-in_err-found-clause-played : goal.turn::rules_turn-returns-in_err-found-clause-played
turn::rules_turn-returns-in_err-found-clause-played g t c =
    let p = err_from_is_err_and c.from_residual.result c.from_residual.ensures.1 in
    played_exit found_tree turned _ _ _ _ _ _ _ p.1 p.2 c.in_err-found.ensures.played

pub turn::rules_turn-returns-clause-played : goal.turn::rules_turn-returns-clause-played
turn::rules_turn-returns-clause-played g t c =
    let v = c.in_ok-found.ensures.played in
    let last = c.final_form-last.result.now in
    turned_played _ _ _ c.args.form.now last false c.in_ok-found.found _ _ v c.in_ok-turned.ensures
    (later v.0 last (final_honest c.args.evaluator.now c.args.changed _ _ last c.final_form-last.ensures c.requires.honest c.requires.form))
    (λ e. absurd (true≢false (sym e))) (final_is c.args.changed _ _ last c.final_form-last.ensures)

-- ---- the shape of a node

pub turn::shaped_turn-rules_turn-requires : goal.turn::shaped_turn-rules_turn-requires
turn::shaped_turn-rules_turn-requires g t c κs within = (search rules, (within, (c.requires.sound, (c.requires.honest, c.requires.honest))))

pub turn::shaped_turn-returns-then-stays-clause-played : goal.turn::shaped_turn-returns-then-stays-clause-played
turn::shaped_turn-returns-then-stays-clause-played g t c =
    let a = c.args.attributes in
    let vs = trees c.args.values.now in
    let r = c.rules_turn in
    let n = sym c.is_bared-changed.ensures ∙ c.if-not-changed.true in
    stays_plays a (plain c.args.head.now) vs (plain c.args.first.now) _ c.args.evaluator.now r.result r.new.evaluator n c.requires.first (c.stays.ensures c.if-stays.true (plain c.args.head.now)) c.is_bared-changed.ensures r.ensures.played

pub turn::shaped_turn-rules_turn-requires-in-Ok-Node : goal.turn::shaped_turn-rules_turn-requires-in-Ok-Node
turn::shaped_turn-rules_turn-requires-in-Ok-Node g t c κs within =
    let k = c.args.evaluator.now in
    let h = shaped_honest k c.args.head.now c.args.values.now c.in-Ok-Node.field-0 c.requires.head c.requires.values c.in-Ok-Node.ensures.passed in
    (search rules, (within, (c.requires.sound, (c.requires.honest, subst (HonestShaped k) c.in-Ok-Node.field-0-is h))))

pub turn::shaped_turn-rules_turn-requires-in-Ok-Uneven : goal.turn::shaped_turn-rules_turn-requires-in-Ok-Uneven
turn::shaped_turn-rules_turn-requires-in-Ok-Uneven g t c κs within =
    let k = c.args.evaluator.now in
    let h = shaped_honest k c.args.head.now c.args.values.now c.in-Ok-Uneven.field-0 c.requires.head c.requires.values c.in-Ok-Uneven.ensures.passed in
    let m = c.in_ok-issue-in-Ok-Uneven.ensures.played in
    (search rules, (within, (m.sound c.requires.sound, (later m _ c.requires.honest, later m _ (subst (HonestShaped k) c.in-Ok-Uneven.field-0-is h)))))

pub turn::shaped_turn-returns-in-Err-clause-played : goal.turn::shaped_turn-returns-in-Err-clause-played
turn::shaped_turn-returns-in-Err-clause-played g t c =
    let vs = trees c.args.values.now in
    shape_stops c.args.attributes (plain c.args.head.now) vs (plain c.args.first.now) (is_bared c.args.attributes vs) c.shaped.result _ _ c.in-Err.fault _ (subst IsWithinLimits c.requires.first c.weight-weight.ensures.fits)
    c.in-Err.is c.shaped.ensures.shaped c.fault.ensures.played

pub turn::shaped_turn-returns-in-Ok-Threaded-clause-played : goal.turn::shaped_turn-returns-in-Ok-Threaded-clause-played
turn::shaped_turn-returns-in-Ok-Threaded-clause-played g t c =
    let k = c.args.evaluator.now in
    let a = c.args.attributes in
    let vs = trees c.args.values.now in
    let shape : Shaped = shape a (plain c.args.head.now) (bared a vs) in
    let s = subst (λ z. IsShaped shape (Ok z)) c.in-Ok-Threaded.field-0-is c.in-Ok-Threaded.ensures.shaped in
    let q = shape_is shape (variant.Threaded c.in-Ok-Threaded.list) s in
    let h = shaped_honest k c.args.head.now c.args.values.now c.in-Ok-Threaded.field-0 c.requires.head c.requires.values c.in-Ok-Threaded.ensures.passed in
    (threaded_plays a (plain c.args.first.now) (is_bared a vs) shape k (plain c.in-Ok-Threaded.list) q (subst (λ z. IsWithinLimits (shaped_tree z)) (sym q) s.is.1), subst (HonestShaped k) c.in-Ok-Threaded.field-0-is h)

pub turn::shaped_turn-returns-in_ok-issue-in-Ok-Uneven-clause-played : goal.turn::shaped_turn-returns-in_ok-issue-in-Ok-Uneven-clause-played
turn::shaped_turn-returns-in_ok-issue-in-Ok-Uneven-clause-played g t c =
    let a = c.args.attributes in
    let k = c.args.evaluator.now in
    let k1 = c.issue.new.self in
    let f = plain c.in-Ok-Uneven.form in
    let r = c.rules_turn-in-Ok-Uneven in
    let vs = trees c.args.values.now in
    let shape : Shaped = shape a (plain c.args.head.now) (bared a vs) in
    let s = subst (λ z. IsShaped shape (Ok z)) c.in-Ok-Uneven.field-0-is c.in-Ok-Uneven.ensures.shaped in
    let q = shape_is shape (variant.Uneven c.in-Ok-Uneven.form) s in
    let m' = subst (λ b. Played turned (turn.rules_turn a (plain c.args.first.now) b f) k1 r.result r.new.evaluator) c.is_bared-changed.ensures r.ensures.played in
    let m = subst (λ zs. Plays (prog.message (codes "Thread") (codes "tdlen") (trees zs)) k (Ok tt) k1 false) c.from_ref.ensures.value c.in_ok-issue-in-Ok-Uneven.ensures.played in
    uneven_plays a (plain c.args.first.now) (is_bared a vs) shape k f k1 r.result r.new.evaluator q m m'

-- ---- the turn of a symbol

pub turn::symbol_turn-returns-in_err-found-clause-played : goal.turn::symbol_turn-returns-in_err-found-clause-played
turn::symbol_turn-returns-in_err-found-clause-played g t c =
    let x = c.args.name.now in
    let p = err_from_is_err_and c.from_residual.result c.from_residual.ensures.1 in
    subst (λ z. Played turned (tried Own x z >>= λ r. done (turn.turned z z r)) c.args.evaluator.now c.from_residual.result c.tried.new.evaluator) c.requires.1.1.1.1.1
    (played_exit found_tree turned _ _ _ _ _ _ _ p.1 p.2 c.in_err-found.ensures.played)

pub turn::symbol_turn-returns-clause-played : goal.turn::symbol_turn-returns-clause-played
turn::symbol_turn-returns-clause-played g t c =
    let x = c.args.name.now in
    let e = c.args.e.now in
    let q = c.requires.1.1.1.1 in
    let v = c.in_ok-found.ensures.played in
    subst (λ z. Played turned (tried Own x z >>= λ r. done (turn.turned z z r)) c.args.evaluator.now (Ok c.in_ok-turned.field-0) c.tried.new.evaluator) q.1
    (turned_played _ _ _ e e true c.in_ok-found.found _ (plain e) v c.in_ok-turned.ensures (later v.0 e q.0) (symbol_back _ true e x q.1) refl)

-- ---- trials

pub applying::tried-trial-requires : goal.applying::tried-trial-requires
applying::tried-trial-requires g t c κs within =
    let v = c.in_ok-rules.ensures.played in
    (search rules, (within, (v.sound c.requires.1.1.1.0, (c.in_ok-rules.ensures.honest, later v _ c.requires.1.1.1.1))))

pub applying::tried-returns-clause-played : goal.applying::tried-returns-clause-played
applying::tried-returns-clause-played g t c =
    let v = c.in_ok-rules.ensures.played in
    played_bind found_tree _ _ _ _ _ _ _ v (subst (λ z. Played found_tree (matching.trial z (plain c.args.e.now)) c.rules_of.new.self c.trial.result c.trial.new.evaluator) c.in_ok-rules.ensures.rules c.trial.ensures.played)

-- ---- a turn

pub turn::turn-node_turn-requires : goal.turn::turn-node_turn-requires
turn::turn-node_turn-requires g t c κs within =
    let a = c.args.evaluator.now.store in
    (search rules, (within, (c.requires.sound, (head_honest a _ _ _ _ c.in-Node.ensures.all c.requires.honest, args_honest a _ _ _ _ c.in-Node.ensures.all c.requires.honest))))

pub turn::turn-returns-in_ok-copy-in-Num-clause-played : goal.turn::turn-returns-in_ok-copy-in-Num-clause-played
turn::turn-returns-in_ok-copy-in-Num-clause-played g t c = leaf_turn c.args.e.now _ c.args.evaluator.now (ap is_leaf (sym c.in-Num.ensures.all)) c.in_ok-copy-in-Num.ensures

pub turn::turn-returns-in_ok-copy-in-Text-clause-played : goal.turn::turn-returns-in_ok-copy-in-Text-clause-played
turn::turn-returns-in_ok-copy-in-Text-clause-played g t c = leaf_turn c.args.e.now _ c.args.evaluator.now (ap is_leaf (sym c.in-Text.ensures.all)) c.in_ok-copy-in-Text.ensures

pub turn::turn-returns-in-Symbol-clause-played : goal.turn::turn-returns-in-Symbol-clause-played
turn::turn-returns-in-Symbol-clause-played g t c =
    subst (λ z. Played turned (turn.turn z) c.args.evaluator.now c.symbol_turn.result c.symbol_turn.new.evaluator) c.in-Symbol.ensures.plain
    (subst (λ p. Played turned p c.args.evaluator.now c.symbol_turn.result c.symbol_turn.new.evaluator) (sym (turn_symbol c.in-Symbol.name.now)) c.symbol_turn.ensures.played)

pub turn::turn-returns-in-Node-clause-played : goal.turn::turn-returns-in-Node-clause-played
turn::turn-returns-in-Node-clause-played g t c = node_turned c.in-Node.head.now c.in-Node.args.now _ _ _ _ c.in-Node.ensures.plain c.node_turn.ensures.played

-- ---- the turns of an evaluation

pub evaluation::turns-returns-then-count-evaluator-clause-played : goal.evaluation::turns-returns-then-count-evaluator-clause-played
evaluation::turns-returns-then-count-evaluator-clause-played g t c =
    let l = c.loop-evaluator in
    l.invariant.leads (Ok end.Aborted) _ (turns_limit l.count (plain l.subject) l.evaluator _ l.invariant.sound (omega arith) c.in_ok-too_many_turns.ensures.played, tt)

pub evaluation::turns-returns-in-Err-clause-played : goal.evaluation::turns-returns-in-Err-clause-played
evaluation::turns-returns-in-Err-clause-played g t c =
    let l = c.loop-evaluator in
    let w = subst (λ z. Played sealed (whole_turn (plain l.subject)) z (Err c.in-Err.stop) c.stepped_turn.new.evaluator) c.note_turn.ensures c.in-Err.ensures.played in
    l.invariant.leads _ _ (turns_stop l.count (plain l.subject) l.evaluator _ l.invariant.sound (omega arith) c.in-Err.stop _ w c.ended.ensures)

pub evaluation::turns-returns-in-Ok-Final-clause-played : goal.evaluation::turns-returns-in-Ok-Final-clause-played
evaluation::turns-returns-in-Ok-Final-clause-played g t c =
    let l = c.loop-evaluator in
    let x = rw c.in-Ok-Final.field-0-is at c.in-Ok-Final.ensures.played in
    let w = subst (λ z. Played sealed (whole_turn (plain l.subject)) z (Ok (made.Final c.in-Ok-Final.v c.in-Ok-Final._settled)) c.stepped_turn.new.evaluator) c.note_turn.ensures x in
    l.invariant.leads (Ok (end.Value c.in-Ok-Final.v)) _ (turns_final l.count (plain l.subject) l.evaluator _ l.invariant.sound (omega arith) c.in-Ok-Final.v c.in-Ok-Final._settled w)

pub evaluation::turns-returns-then-is_leaf-clause-played : goal.evaluation::turns-returns-then-is_leaf-clause-played
evaluation::turns-returns-then-is_leaf-clause-played g t c =
    let l = c.loop-evaluator in
    let x = rw c.in-Ok-Next.field-0-is at c.in-Ok-Next.ensures.played in
    let w = subst (λ z. Played sealed (whole_turn (plain l.subject)) z (Ok (made.Next c.in-Ok-Next.next)) c.stepped_turn.new.evaluator) c.note_turn.ensures x in
    l.invariant.leads (Ok (end.Value c.in-Ok-Next.next)) _ (turns_leaf l.count (plain l.subject) l.evaluator _ l.invariant.sound (omega arith) c.in-Ok-Next.next (sym c.is_leaf.ensures ∙ c.if-is_leaf.true) w)

pub evaluation::turns-loop-evaluator-preserved : goal.evaluation::turns-loop-evaluator-preserved
evaluation::turns-loop-evaluator-preserved g t c =
    let l = c.loop-evaluator in
    let x = rw c.in-Ok-Next.field-0-is at c.in-Ok-Next.ensures.played in
    let w = subst (λ z. Played sealed (whole_turn (plain l.subject)) z (Ok (made.Next c.in-Ok-Next.next)) c.stepped_turn.new.evaluator) c.note_turn.ensures x in
    record {
      leads = λ r k h. l.invariant.leads r k (turns_next l.count (plain l.subject) l.evaluator _ l.invariant.sound (omega arith) c.in-Ok-Next.next (sym c.is_leaf.ensures ∙ c.if-is_leaf.false) w r k h);
      sound = w.0.sound (marked_sound l.count l.evaluator l.invariant.sound);
      honest = w.1;
      falls = let e = ap (λ (z : Evaluator). z.steps) c.note_turn.ensures in omega (arith, e, c.in-Ok-Next.ensures.falls, l.invariant.falls);
      ticks = c.stepped_turn.ensures.ticks ∙ l.invariant.ticks;
    }

-- ---- up values

pub applying::up_values-returns-then-has-clause-played : goal.applying::up_values-returns-then-has-clause-played
applying::up_values-returns-then-has-clause-played g t c =
    (subst (λ p. Plays p c.args.evaluator.now (Ok None) c.args.evaluator.now false) (sym (up_values-held c.args.attributes (plain c.args.form.now) (sym c.has.ensures ∙ c.if-has.true))) plays_done, tt)

pub applying::up_values-loop-i-preserved-in_default : goal.applying::up_values-loop-i-preserved-in_default
applying::up_values-loop-i-preserved-in_default g t c =
    let l = c.loop-i in
    let ss = c.in_ok-symbols.symbols.items in
    let e = up_unnamed ss l.i c.index.result.now (omega arith) c.index.ensures (plain c.args.form.now) (no_symbol _ _ _ c.view.ensures.all c.in_default.not-Symbol) in
    record {
      leads = λ r k o h. l.invariant.leads r k o (subst (λ p. Plays p l.evaluator r k o) (sym e) h);
      sound = l.invariant.sound;
      honest = l.invariant.honest;
      falls = l.invariant.falls;
      ticks = cc;
    }

pub applying::up_values-returns-in_err-found-clause-played : goal.applying::up_values-returns-in_err-found-clause-played
applying::up_values-returns-in_err-found-clause-played g t c =
    let l = c.loop-i in
    let f = plain c.args.form.now in
    let ss = c.in_ok-symbols.symbols.items in
    let w = up_values-tried c.args.attributes f _ (sym c.has.ensures ∙ c.if-has.false) refl in
    let e = up_named ss l.i c.index.result.now (omega arith) c.index.ensures f c.in-Symbol.name.now c.in-Symbol.ensures.plain in
    let p = err_from_is_err_and c.from_residual-in_err-found.result c.from_residual-in_err-found.ensures.1 in
    subst (λ z. Played found_tree z c.args.evaluator.now c.from_residual-in_err-found.result c.tried.new.evaluator) (sym w)
    (leads_exit found_tree found_tree _ _ _ _ _ _ _ _ _ (λ r k o h. l.invariant.leads r k o (subst (λ z. Plays z l.evaluator r k o) (sym e) h)) p.1 p.2 c.in_err-found.ensures.played)

pub applying::up_values-returns-in-Some-clause-played : goal.applying::up_values-returns-in-Some-clause-played
applying::up_values-returns-in-Some-clause-played g t c =
    let l = c.loop-i in
    let f = plain c.args.form.now in
    let ss = c.in_ok-symbols.symbols.items in
    let w = up_values-tried c.args.attributes f _ (sym c.has.ensures ∙ c.if-has.false) refl in
    let e = up_named ss l.i c.index.result.now (omega arith) c.index.ensures f c.in-Symbol.name.now c.in-Symbol.ensures.plain in
    let v = or_found _ _ _ _ c.in_ok-found.found c.in_ok-found.ensures.played c.in-Some.e c.in-Some.is in
    (subst (λ z. Plays z c.args.evaluator.now (Ok (Some (plain c.in-Some.e))) c.tried.new.evaluator false) (sym w) (l.invariant.leads _ _ _ (subst (λ z. Plays z l.evaluator (Ok (Some (plain c.in-Some.e))) c.tried.new.evaluator false) (sym e) v.0)), v.1)

pub applying::up_values-loop-i-preserved : goal.applying::up_values-loop-i-preserved
applying::up_values-loop-i-preserved g t c =
    let l = c.loop-i in
    let f = plain c.args.form.now in
    let ss = c.in_ok-symbols.symbols.items in
    let e = up_named ss l.i c.index.result.now (omega arith) c.index.ensures f c.in-Symbol.name.now c.in-Symbol.ensures.plain in
    let v = c.in_ok-found.ensures.played in
    record {
      leads = λ r k o h. l.invariant.leads r k o (subst (λ z. Plays z l.evaluator r k o) (sym e) (or_plays _ _ _ _ c.in_ok-found.found v c.in_default-found.is h));
      sound = v.0.sound l.invariant.sound;
      honest = later v.0 _ l.invariant.honest;
      falls = omega (arith, c.in_ok-found.ensures.falls, l.invariant.falls);
      ticks = cc;
    }

pub applying::up_values-returns-clause-played : goal.applying::up_values-returns-clause-played
applying::up_values-returns-clause-played g t c =
    let l = c.loop-i in
    let f = plain c.args.form.now in
    let ss = c.in_ok-symbols.symbols.items in
    let w = up_values-tried c.args.attributes f _ (sym c.has.ensures ∙ c.if-has.false) refl in
    let e = up_over ss l.i f (omega (arith, c.len-i-end.ensures)) in
    (subst (λ z. Plays z c.args.evaluator.now (Ok None) l.evaluator false) (sym w) (l.invariant.leads _ _ _ (subst (λ z. Plays z l.evaluator (Ok None) l.evaluator false) (sym e) plays_done)), tt)

-- ---- values

pub evaluation::value_of-returns-clause-played : goal.evaluation::value_of-returns-clause-played
evaluation::value_of-returns-clause-played g t c =
    value_played _ _ _ c.in_ok-end.end _ (subst (λ (z : Stamped). Ended (plain z) c.args.evaluator.now (Ok c.in_ok-end.end) c.evaluate.new.evaluator) c.in_ok-copy.ensures c.in_ok-end.ensures.played) c.valued.ensures

pub evaluation::value_of_built-returns-in_err-e-clause-played : goal.evaluation::value_of_built-returns-in_err-e-clause-played
evaluation::value_of_built-returns-in_err-e-clause-played g t c t' m =
    let p = err_from_is_err_and c.from_residual.result c.from_residual.ensures.1 in
    played_exit (built t') value _ _ _ _ _ _ _ p.1 p.2 (c.in_err-e.ensures.played t' m)

pub evaluation::value_of_built-returns-clause-played : goal.evaluation::value_of_built-returns-clause-played
evaluation::value_of_built-returns-clause-played g t c t' m =
    let v = c.in_ok-e.ensures.played t' m in
    played_bind value (prog.sized t') _ _ _ tt _ _ v.0 (value_played t' _ _ c.in_ok-end.end _ (subst (λ z. Ended z c.fitted.new.self (Ok c.in_ok-end.end) c.evaluate.new.evaluator) v.1 c.in_ok-end.ensures.played) c.valued.ensures)

-- ---- a test that applies a function

pub matching::each_applies-returns-in_err-holds-clause-played : goal.matching::each_applies-returns-in_err-holds-clause-played
matching::each_applies-returns-in_err-holds-clause-played g t c =
    let l = c.loop-i in
    let f = c.args.f.now in
    let x = c.index-elements-i.result in
    leads_out itself itself _ _ _ _ _ _ _ _ _ l.invariant.leads (each_at (plain f) c.args.elements.now l.i x (omega arith) c.index-elements-i.is)
    c.from_residual.ensures.1 (c.in_err-holds.ensures.played (applied (plain f) (plain x ∷ [])) (one_makes f x c.from_ref.result.now c.node-made.result c.from_ref.ensures.value c.node-made.ensures.ok c.node-made.ensures.large))

pub matching::each_applies-returns-then-not-holds-clause-played : goal.matching::each_applies-returns-then-not-holds-clause-played
matching::each_applies-returns-then-not-holds-clause-played g t c =
    let l = c.loop-i in
    let f = c.args.f.now in
    let xs = c.args.elements.now in
    let x = c.index-elements-i.result in
    let h = c.in_ok-holds.ensures.played (applied (plain f) (plain x ∷ [])) (one_makes f x c.from_ref.result.now c.node-made.result c.from_ref.ensures.value c.node-made.ensures.ok c.node-made.ensures.large) in
    let leads = each_leads (plain f) xs l.i x _ _ _ (omega arith) c.index-elements-i.is l.invariant.leads in
    (not_so _ _ _ _ _ _ _ h.0 c.if-not-holds.true leads, tt)

pub matching::each_applies-loop-i-preserved : goal.matching::each_applies-loop-i-preserved
matching::each_applies-loop-i-preserved g t c =
    let l = c.loop-i in
    let f = c.args.f.now in
    let xs = c.args.elements.now in
    let x = c.index-elements-i.result in
    let h = c.in_ok-holds.ensures.played (applied (plain f) (plain x ∷ [])) (one_makes f x c.from_ref.result.now c.node-made.result c.from_ref.ensures.value c.node-made.ensures.ok c.node-made.ensures.large) in
    let leads = each_leads (plain f) xs l.i x _ _ _ (omega arith) c.index-elements-i.is l.invariant.leads in
    record {
      leads = next_so _ _ _ _ _ _ _ h.0 c.if-not-holds.false leads;
      sound = h.0.sound l.invariant.sound;
      function = later h.0 f l.invariant.function;
      elements = all_later h.0 xs l.invariant.elements;
      falls = omega arith;
      ticks = cc;
    }

pub matching::each_applies-returns-clause-played : goal.matching::each_applies-returns-clause-played
matching::each_applies-returns-clause-played g t c =
    (c.loop-i.invariant.leads _ _ _ (each_over (plain c.args.f.now) c.args.elements.now c.loop-i.i c.loop-i.evaluator (omega arith)), tt)

-- ---- a test that excludes a pattern

pub matching::refuses-returns-then-elements-ne1-clause-played : goal.matching::refuses-returns-then-elements-ne1-clause-played
matching::refuses-returns-then-elements-ne1-clause-played g t c n l = (refuses_other n (plain c.args.pattern.now) c.args.elements.now _ c.if-elements-ne1.true, tt)

pub matching::refuses-returns-in_err-found-clause-played : goal.matching::refuses-returns-in_err-found-clause-played
matching::refuses-returns-in_err-found-clause-played g t c n l =
    let e = refuses_one n (plain c.args.pattern.now) c.args.elements.now c.index-elements-0.result c.if-elements-ne1.false c.index-elements-0.is in
    subst (λ z. Played itself z c.args.evaluator.now c.from_residual.result c.matches.new.evaluator) (sym e) (exit itself itself _ _ _ _ _ _ c.from_residual.ensures.1 (c.in_err-found.ensures.played n l))

pub matching::refuses-returns-clause-played : goal.matching::refuses-returns-clause-played
matching::refuses-returns-clause-played g t c n l =
    let e = refuses_one n (plain c.args.pattern.now) c.args.elements.now c.index-elements-0.result c.if-elements-ne1.false c.index-elements-0.is in
    subst (λ z. Played itself z c.args.evaluator.now (Ok (not c.in_ok-found.found)) c.matches.new.evaluator) (sym e) (plays_bind _ _ (c.in_ok-found.ensures.played n l).0 plays_done, tt)

-- ---- whether a value is True

pub matching::is_true-returns-in_err-value-clause-played : goal.matching::is_true-returns-in_err-value-clause-played
matching::is_true-returns-in_err-value-clause-played g t c u m = exit value itself _ _ _ _ _ _ c.from_residual.ensures.1 (c.in_err-value.ensures.played u m)

pub matching::is_true-returns-clause-played : goal.matching::is_true-returns-clause-played
matching::is_true-returns-clause-played g t c u m = (plays_bind _ _ (c.in_ok-value.ensures.played u m).0 (plays_done_is (sym c.is_symbol.ensures)), tt)

-- ---- a test

pub matching::test_holds-each_applies-requires : goal.matching::test_holds-each_applies-requires
matching::test_holds-each_applies-requires g t c κs within =
    let v = c.args.view.now in
    let k = c.args.evaluator.now in
    let p = subst (λ z. (ms : List Stamped) → AreFrom ms v → IsTestFrom ms z) c.in-Applies.is c.requires.passed in (
      search rules,
      (
        within,
        (
          c.requires.sound,
          (
            view_honest k v _ (λ ms m. (p ms m).0) c.requires.view,
            subst (AllHonest k) (sym c.as_slice.ensures.value) (all_view_honest k v _ (λ ms m. c.in_ok-elements-in-Applies.ensures.passed ms (p ms m).1) c.requires.view),
          ),
        ),
      ),
    )

pub matching::test_holds-is_true-requires : goal.matching::test_holds-is_true-requires
matching::test_holds-is_true-requires g t c κs within =
    let v = c.args.view.now in
    let k = c.args.evaluator.now in
    let p = subst (λ z. (ms : List Stamped) → AreFrom ms v → IsTestFrom ms z) c.in-Holds.is c.requires.passed in
    (search rules, (within, (c.requires.sound, made_honest k v _ _ c.fill-made.ensures.passed c.requires.view (view_honest k v _ p c.requires.view))))

pub matching::test_holds-refuses-requires : goal.matching::test_holds-refuses-requires
matching::test_holds-refuses-requires g t c κs within =
    let v = c.args.view.now in
    let k = c.args.evaluator.now in
    let p = subst (λ z. (ms : List Stamped) → AreFrom ms v → IsTestFrom ms z) c.in-Refuses.is c.requires.passed in (
      search rules,
      (
        within,
        (
          c.requires.sound,
          (
            view_honest k v _ (λ ms m. (p ms m).0) c.requires.view,
            subst (AllHonest k) (sym c.as_slice-in-Refuses.ensures.value) (all_view_honest k v _ (λ ms m. c.in_ok-elements-in-Refuses.ensures.passed ms (p ms m).1) c.requires.view),
          ),
        ),
      ),
    )

pub matching::test_holds-returns-in_ok-elements-in-Applies-clause-played : goal.matching::test_holds-returns-in_ok-elements-in-Applies-clause-played
matching::test_holds-returns-in_ok-elements-in-Applies-clause-played g t c n a r l h =
    let f = c.in-Applies.f in
    asks_applies n (trail_in c.args.view.now) f c.in-Applies.run' a r _ _ _ (subst (λ z. Asks z a r) c.in-Applies.is h)
    (subst (λ z. Played itself (matching.each_applies (plain f.now) z) c.args.evaluator.now c.each_applies.result c.each_applies.new.evaluator) (ap trees c.as_slice.ensures.value ∙ c.in_ok-elements-in-Applies.ensures.value) c.each_applies.ensures.played)

pub matching::test_holds-returns-in-Holds-clause-played : goal.matching::test_holds-returns-in-Holds-clause-played
matching::test_holds-returns-in-Holds-clause-played g t c n a r l h =
    asks_holds n (trail_in c.args.view.now) c.in-Holds.condition a r _ _ _ (subst (λ z. Asks z a r) c.in-Holds.is h)
    (c.is_true.ensures.played (fill_binding (plain c.in-Holds.condition.now) (matching.runs (trail_in c.args.view.now))) (filled_makes _ _ c.fill-made.ensures.filled))

pub matching::test_holds-returns-in_ok-elements-in-Refuses-clause-played : goal.matching::test_holds-returns-in_ok-elements-in-Refuses-clause-played
matching::test_holds-returns-in_ok-elements-in-Refuses-clause-played g t c n a r l h =
    let p = c.in-Refuses.pattern in
    asks_refuses n (trail_in c.args.view.now) p c.in-Refuses.run' a r _ _ _ (subst (λ z. Asks z a r) c.in-Refuses.is h)
    (subst (λ z. Played itself (refuses_within n (plain p.now) z) c.args.evaluator.now c.refuses.result c.refuses.new.evaluator) (ap trees c.as_slice-in-Refuses.ensures.value ∙ c.in_ok-elements-in-Refuses.ensures.value) (c.refuses.ensures.played n l))

-- ---- the tests of a binding

pub matching::tests_hold-loop-k-init : goal.matching::tests_hold-loop-k-init
matching::tests_hold-loop-k-init g t c =
    record {
      leads = λ n l. tests_begin n (trail_in c.args.view.now) c.args.evaluator.now;
      sound = c.requires.sound;
      view = c.requires.view;
      falls = le_refl _;
      ticks = refl;
    }

pub matching::tests_hold-returns-in-None-clause-played : goal.matching::tests_hold-returns-in-None-clause-played
matching::tests_hold-returns-in-None-clause-played g t c n l =
    (tests_end n (trail_in c.args.view.now) c.loop-k.k _ _ _ (no_test _ c.in-None.ensures.test) (c.loop-k.invariant.leads n l), tt)

pub matching::tests_hold-test_holds-requires : goal.matching::tests_hold-test_holds-requires
matching::tests_hold-test_holds-requires g t c κs within =
    (search rules, (within, (c.loop-k.invariant.sound, (c.loop-k.invariant.view, c.in-Some.ensures.passed))))

pub matching::tests_hold-returns-in_err-holds-in-Some-clause-played : goal.matching::tests_hold-returns-in_err-holds-in-Some-clause-played
matching::tests_hold-returns-in_err-holds-in-Some-clause-played g t c n l =
    let k = c.loop-k in
    let d = trail_in c.args.view.now in
    let y = test_found d k.k c.in-Some.test c.in-Some.ensures.test in
    leads_out itself itself _ _ _ _ _ _ _ _ _ (tests_at n d k.k _ y _ _ _ (k.invariant.leads n l)) refl c.from_residual.ensures.1 (c.in_err-holds-in-Some.ensures.played n y.it.0 y.it.1 (omega arith) y.asks)

pub matching::tests_hold-returns-then-not-holds-clause-played : goal.matching::tests_hold-returns-then-not-holds-clause-played
matching::tests_hold-returns-then-not-holds-clause-played g t c n l =
    let k = c.loop-k in
    let d = trail_in c.args.view.now in
    let y = test_found d k.k c.in-Some.test c.in-Some.ensures.test in
    (not_so _ _ _ _ _ _ _ (c.in_ok-holds-in-Some.ensures.played n y.it.0 y.it.1 (omega arith) y.asks).0 c.if-not-holds.true (tests_at n d k.k _ y _ _ _ (k.invariant.leads n l)), tt)

pub matching::tests_hold-loop-k-preserved : goal.matching::tests_hold-loop-k-preserved
matching::tests_hold-loop-k-preserved g t c =
    let k = c.loop-k in
    let d = trail_in c.args.view.now in
    let y = test_found d k.k c.in-Some.test c.in-Some.ensures.test in
    let h = (c.in_ok-holds-in-Some.ensures.played (k.evaluator.steps + 1) y.it.0 y.it.1 (omega arith) y.asks).0 in
    record {
      leads = λ n l. next_so _ _ _ _ _ _ _ (c.in_ok-holds-in-Some.ensures.played n y.it.0 y.it.1 (omega arith) y.asks).0 c.if-not-holds.false (tests_at n d k.k _ y _ _ _ (k.invariant.leads n l));
      sound = h.sound k.invariant.sound;
      view = (later h _ k.invariant.view.0, all_later h _ k.invariant.view.1);
      falls = omega arith;
      ticks = cc;
    }

-- ---- a match

pub matching::has_match-bindings-init : goal.matching::has_match-bindings-init
matching::has_match-bindings-init g t c =
    let ss = c.args.pattern.now in
    let t = plain c.args.e.now in
    record {
      leads = λ n l. subst (λ z. Leads (passes_within n (Trials (whole ss) t)) c.args.evaluator.now (passes_within n z) c.args.evaluator.now) (sym (c.start-machine.ensures.leaves ss t)) (λ r k2 o h. h);
      searches = c.start-machine.ensures.searches ss t;
      sound = c.requires.sound;
      pattern = c.requires.pattern;
      honest = c.requires.honest;
      falls = le_refl _;
      ticks = refl;
    }

pub matching::has_match-returns-in_err-found-clause-played : goal.matching::has_match-returns-in_err-found-clause-played
matching::has_match-returns-in_err-found-clause-played g t c n l =
    let ss = c.args.pattern.now in
    let t = plain c.args.e.now in
    leads_out (next_binding ss t c.next_candidate.new.machine) itself _ _ _ _ _ _ _ _ _ (c.bindings.invariant.leads n l) (passes_is n (left ss t c.bindings.machine)) c.from_residual.ensures.1 c.in_err-found.ensures.played

pub matching::has_match-returns-then-not-found-clause-played : goal.matching::has_match-returns-then-not-found-clause-played
matching::has_match-returns-then-not-found-clause-played g t c n l =
    (match_over c.args.pattern.now (plain c.args.e.now) c.bindings.machine c.next_candidate.new.machine _ _ _ c.in_ok-found.found c.in_ok-found.ensures.played.0 n _ c.if-not-found.true (c.bindings.invariant.leads n l), tt)

pub matching::has_match-tests_hold-requires : goal.matching::has_match-tests_hold-requires
matching::has_match-tests_hold-requires g t c κs within =
    let ss = c.args.pattern.now in
    let t = plain c.args.e.now in
    let b = c.bindings in
    let m = c.next_candidate.new.machine in
    let k1 = c.next_candidate.new.self in
    let h = c.in_ok-found.ensures.played.0 in (
      search rules,
      (
        within,
        (
          h.sound b.invariant.sound,
          (subst (Honest k1) (sym c.view-view.ensures.subject) (later h _ b.invariant.honest), subst (λ z. AllHonest k1 (kept z)) (sym c.view-view.ensures.pattern) (all_later h _ b.invariant.pattern)),
        ),
      ),
    )

pub matching::has_match-returns-in_err-holds-clause-played : goal.matching::has_match-returns-in_err-holds-clause-played
matching::has_match-returns-in_err-holds-clause-played g t c n l =
    let ss = c.args.pattern.now in
    let t = plain c.args.e.now in
    let b = c.bindings in
    let m = c.next_candidate.new.machine in
    let k1 = c.next_candidate.new.self in
    let h = c.in_ok-found.ensures.played.0 in
    leads_out itself itself _ _ _ _ _ _ _ _ _ (match_found ss t b.machine m _ _ _ c.in_ok-found.found h n _ c.if-not-found.false (b.invariant.leads n l)) refl c.from_residual-in_err-holds.ensures.1
    (subst (λ z. Played itself (tests_within n z) k1 (Err c.in_err-holds.field-0.0) c.tests_hold.new.evaluator) c.view-view.ensures.trail (c.in_err-holds.ensures.played n (omega (arith, c.in_ok-found.ensures.less))))

pub matching::has_match-returns-then-holds-clause-played : goal.matching::has_match-returns-then-holds-clause-played
matching::has_match-returns-then-holds-clause-played g t c n l =
    let ss = c.args.pattern.now in
    let t = plain c.args.e.now in
    let b = c.bindings in
    let m = c.next_candidate.new.machine in
    let k1 = c.next_candidate.new.self in
    let h = c.in_ok-found.ensures.played.0 in
    let held_by = λ (n : ℕ) (l : k1.steps < n). subst (λ z. Plays (tests_within n z) k1 (Ok c.in_ok-holds.holds) c.tests_hold.new.evaluator false) c.view-view.ensures.trail (c.in_ok-holds.ensures.played n l).0 in
    let less = c.in_ok-found.ensures.less c.if-not-found.false in
    (held _ _ _ _ _ _ _ (held_by n (omega (arith, less))) c.if-holds.true (match_found ss t b.machine m _ _ _ c.in_ok-found.found h n _ c.if-not-found.false (b.invariant.leads n l)), tt)

pub matching::has_match-bindings-preserved : goal.matching::has_match-bindings-preserved
matching::has_match-bindings-preserved g t c =
    let ss = c.args.pattern.now in
    let t = plain c.args.e.now in
    let b = c.bindings in
    let m = c.next_candidate.new.machine in
    let k1 = c.next_candidate.new.self in
    let h = c.in_ok-found.ensures.played.0 in
    let held_by = λ (n : ℕ) (l : k1.steps < n). subst (λ z. Plays (tests_within n z) k1 (Ok c.in_ok-holds.holds) c.tests_hold.new.evaluator false) c.view-view.ensures.trail (c.in_ok-holds.ensures.played n l).0 in
    let less = c.in_ok-found.ensures.less c.if-not-found.false in
    let p = held_by (k1.steps + 1) (omega arith) in
    record {
      leads = λ n l. not_held _ _ _ _ _ _ _ (held_by n (omega (arith, less))) c.if-holds.false (match_found ss t b.machine m _ _ _ c.in_ok-found.found h n _ c.if-not-found.false (b.invariant.leads n l));
      searches = c.in_ok-found.ensures.searches;
      sound = p.sound (h.sound b.invariant.sound);
      pattern = all_later p _ (all_later h _ b.invariant.pattern);
      honest = later p _ (later h _ b.invariant.honest);
      falls = omega arith;
      ticks = cc;
    }

pub matching::matches-has_match-requires : goal.matching::matches-has_match-requires
matching::matches-has_match-requires g t c κs within =
    let p = c.args.p.now in
    let f = c.in_ok-flags.ensures.played in
    (search rules, (within, (f.1.sound c.requires.sound, (kept_honest _ p _ c.in_ok-pattern.ensures.passed (later f.1 _ c.requires.pattern), later f.1 _ c.requires.honest))))

pub matching::matches-returns-clause-played : goal.matching::matches-returns-clause-played
matching::matches-returns-clause-played g t c n l =
    let p = c.args.p.now in
    let f = c.in_ok-flags.ensures.played in
    matches_played n c.args.evaluator.now.steps (plain p) (plain c.args.e.now) (whole c.in_ok-pattern.pattern) f.0 _ _ _ _ l f.1 (c.in_ok-pattern.ensures.named f.0 (c.as_slice.ensures.value ∙ f.2)) (λ m h. c.has_match.ensures.played m (omega (arith, c.in_ok-flags.ensures.kept)))

-- ---- a rule

pub trial::filling-returns-in_err-holds-clause-played : goal.trial::filling-returns-in_err-holds-clause-played
trial::filling-returns-in_err-holds-clause-played g t c =
    let b = plain c.args.body.now in
    let d = trail_in c.args.view.now in
    let k = c.args.evaluator.now in
    leads_out itself found_tree _ _ _ _ _ _ _ _ _ (filling_leads b d k) refl c.from_residual.ensures.1 (c.in_err-holds.ensures.played (2 ^ 64) (omega arith))

pub trial::filling-returns-then-not-holds-clause-played : goal.trial::filling-returns-then-not-holds-clause-played
trial::filling-returns-then-not-holds-clause-played g t c =
    let b = plain c.args.body.now in
    let d = trail_in c.args.view.now in
    let k = c.args.evaluator.now in
    (not_filled b d _ _ _ _ _ (filling_leads b d k) (c.in_ok-holds.ensures.played (2 ^ 64) (omega arith)).0 c.if-not-holds.true, tt)

pub trial::filling-returns-in_err-filled-clause-played : goal.trial::filling-returns-in_err-filled-clause-played
trial::filling-returns-in_err-filled-clause-played g t c =
    let b = plain c.args.body.now in
    let d = trail_in c.args.view.now in
    let k = c.args.evaluator.now in
    let u = fill_binding b (matching.runs d) in
    let h = (c.in_ok-holds.ensures.played (2 ^ 64) (omega arith)).0 in
    let on = filled_leads b d _ _ _ _ _ (filling_leads b d k) h c.if-not-holds.false in
    leads_out (built u) found_tree _ _ _ _ _ _ _ _ _ on refl c.from_residual-in_err-filled.ensures.1 (c.in_err-filled.ensures.played u (filled_makes _ _ c.fill-made.ensures.filled))

pub trial::filling-returns-then-not-is_guarded-clause-played : goal.trial::filling-returns-then-not-is_guarded-clause-played
trial::filling-returns-then-not-is_guarded-clause-played g t c =
    let b = plain c.args.body.now in
    let d = trail_in c.args.view.now in
    let k = c.args.evaluator.now in
    let u = fill_binding b (matching.runs d) in
    let h = (c.in_ok-holds.ensures.played (2 ^ 64) (omega arith)).0 in
    let on = filled_leads b d _ _ _ _ _ (filling_leads b d k) h c.if-not-holds.false in
    let s = c.in_ok-filled.ensures.played u (filled_makes _ _ c.fill-made.ensures.filled) in
    let sized = sized_leads b u d _ _ _ _ refl on s.0 in
    let honest = later s.0 _ (later h _ (subst (λ z. IfOk z (Honest k)) c.in_ok-filled.ensures.made (made_honest k c.args.view.now c.args.body.now c.fill-made.result c.fill-made.ensures.passed c.requires.view c.requires.body))) in
    unguarded _ u c.in_ok-filled.filled _ _ _ (ap (λ z. z && matching.is_guarded u) (sym c.is_guarded.ensures ∙ c.if-not-is_guarded.true)) s.1 honest sized

pub trial::filling-returns-then-not-is_guarded-2-clause-played : goal.trial::filling-returns-then-not-is_guarded-2-clause-played
trial::filling-returns-then-not-is_guarded-2-clause-played g t c =
    let b = plain c.args.body.now in
    let d = trail_in c.args.view.now in
    let k = c.args.evaluator.now in
    let u = fill_binding b (matching.runs d) in
    let h = (c.in_ok-holds.ensures.played (2 ^ 64) (omega arith)).0 in
    let on = filled_leads b d _ _ _ _ _ (filling_leads b d k) h c.if-not-holds.false in
    let s = c.in_ok-filled.ensures.played u (filled_makes _ _ c.fill-made.ensures.filled) in
    let sized = sized_leads b u d _ _ _ _ refl on s.0 in
    let honest = later s.0 _ (later h _ (subst (λ z. IfOk z (Honest k)) c.in_ok-filled.ensures.made (made_honest k c.args.view.now c.args.body.now c.fill-made.result c.fill-made.ensures.passed c.requires.view c.requires.body))) in
    unguarded _ u c.in_ok-filled.filled _ _ _ (both_not (matching.is_guarded b) (matching.is_guarded u) (ap matching.is_guarded (sym s.1) ∙ sym c.is_guarded-2.ensures ∙ c.if-not-is_guarded-2.true)) s.1 honest sized

pub trial::filling-guard-requires : goal.trial::filling-guard-requires
trial::filling-guard-requires g t c κs within =
    let b = plain c.args.body.now in
    let d = trail_in c.args.view.now in
    let k = c.args.evaluator.now in
    let u = fill_binding b (matching.runs d) in
    let h = (c.in_ok-holds.ensures.played (2 ^ 64) (omega arith)).0 in
    let s = c.in_ok-filled.ensures.played u (filled_makes _ _ c.fill-made.ensures.filled) in
    let honest = later s.0 _ (later h _ (subst (λ z. IfOk z (Honest k)) c.in_ok-filled.ensures.made (made_honest k c.args.view.now c.args.body.now c.fill-made.result c.fill-made.ensures.passed c.requires.view c.requires.body))) in
    let shallow = c.depth-depth.ensures.fits.shallow in
    (omega (arith, shallow, c.in_ok-filled.ensures.kept, c.in_ok-holds.ensures.falls), (within, (s.0.sound (h.sound c.requires.sound), honest)))

pub trial::filling-returns-clause-played : goal.trial::filling-returns-clause-played
trial::filling-returns-clause-played g t c =
    let b = plain c.args.body.now in
    let d = trail_in c.args.view.now in
    let k = c.args.evaluator.now in
    let u = fill_binding b (matching.runs d) in
    let h = (c.in_ok-holds.ensures.played (2 ^ 64) (omega arith)).0 in
    let on = filled_leads b d _ _ _ _ _ (filling_leads b d k) h c.if-not-holds.false in
    let s = c.in_ok-filled.ensures.played u (filled_makes _ _ c.fill-made.ensures.filled) in
    let sized = sized_leads b u d _ _ _ _ refl on s.0 in
    let x = plain c.in_ok-filled.filled in
    let g2 = guarded_leads (matching.is_guarded b) (matching.is_guarded u) u _ _ _ (sym c.is_guarded.ensures ∙ c.if-not-is_guarded.false) (ap matching.is_guarded (sym s.1) ∙ sym c.is_guarded-2.ensures ∙ c.if-not-is_guarded-2.false) sized in
    let shallow = c.depth-depth.ensures.fits.shallow in
    leads_played found_tree _ _ _ _ _ _ g2 (subst (λ z. Played found_tree (matching.guard z) c.fitted.new.self c.guard.result c.guard.new.evaluator) s.1 (c.guard.ensures.played (2 ^ 80) (omega (arith, shallow, c.in_ok-filled.ensures.kept, c.in_ok-holds.ensures.falls))))

pub trial::first_filling-bindings-init : goal.trial::first_filling-bindings-init
trial::first_filling-bindings-init g t c =
    let ss = c.args.pattern.now in
    let t = plain c.args.e.now in
    let f = matching.filling (plain c.args.body.now) in
    record {
      leads = subst (λ z. Leads (matching.walk f (Trials (whole ss) t)) c.args.evaluator.now (matching.walk f z) c.args.evaluator.now) (sym (c.start-machine.ensures.leaves ss t)) (λ r k2 o h. h);
      searches = c.start-machine.ensures.searches ss t;
      sound = c.requires.sound;
      pattern = c.requires.pattern;
      honest = c.requires.honest;
      body = c.requires.body;
      falls = le_refl _;
      ticks = refl;
    }

pub trial::first_filling-returns-in_err-found-clause-played : goal.trial::first_filling-returns-in_err-found-clause-played
trial::first_filling-returns-in_err-found-clause-played g t c =
    let ss = c.args.pattern.now in
    let t = plain c.args.e.now in
    leads_out (next_binding ss t c.next_candidate.new.machine) found_tree _ _ _ _ _ _ _ _ _ c.bindings.invariant.leads (walk_is (matching.filling (plain c.args.body.now)) (left ss t c.bindings.machine)) c.from_residual.ensures.1 c.in_err-found.ensures.played

pub trial::first_filling-returns-then-not-found-clause-played : goal.trial::first_filling-returns-then-not-found-clause-played
trial::first_filling-returns-then-not-found-clause-played g t c =
    (walk_over c.args.pattern.now (plain c.args.e.now) c.bindings.machine c.next_candidate.new.machine _ _ _ c.in_ok-found.found c.in_ok-found.ensures.played.0 (matching.filling (plain c.args.body.now)) _ c.if-not-found.true c.bindings.invariant.leads, tt)

pub trial::first_filling-filling-requires : goal.trial::first_filling-filling-requires
trial::first_filling-filling-requires g t c κs within =
    let ss = c.args.pattern.now in
    let t = plain c.args.e.now in
    let b = c.bindings in
    let m = c.next_candidate.new.machine in
    let k1 = c.next_candidate.new.self in
    let h = c.in_ok-found.ensures.played.0 in (
      search rules,
      (
        within,
        (
          h.sound b.invariant.sound,
          (
            (subst (Honest k1) (sym c.view-view.ensures.subject) (later h _ b.invariant.honest), subst (λ z. AllHonest k1 (kept z)) (sym c.view-view.ensures.pattern) (all_later h _ b.invariant.pattern)),
            later h _ b.invariant.body,
          ),
        ),
      ),
    )

pub trial::first_filling-returns-in_err-filled-clause-played : goal.trial::first_filling-returns-in_err-filled-clause-played
trial::first_filling-returns-in_err-filled-clause-played g t c =
    let ss = c.args.pattern.now in
    let t = plain c.args.e.now in
    let b = c.bindings in
    let m = c.next_candidate.new.machine in
    let k1 = c.next_candidate.new.self in
    let h = c.in_ok-found.ensures.played.0 in
    let f = matching.filling (plain c.args.body.now) in
    let on = walk_found ss t b.machine m _ _ _ c.in_ok-found.found h f _ c.if-not-found.false b.invariant.leads in
    leads_out found_tree found_tree _ _ _ _ _ _ _ _ _ on refl c.from_residual-in_err-filled.ensures.1
    (subst (λ z. Played found_tree (f z) k1 (Err c.in_err-filled.field-0.0) c.filling.new.evaluator) c.view-view.ensures.trail c.in_err-filled.ensures.played)

pub trial::first_filling-returns-in-Some-clause-played : goal.trial::first_filling-returns-in-Some-clause-played
trial::first_filling-returns-in-Some-clause-played g t c =
    let ss = c.args.pattern.now in
    let t = plain c.args.e.now in
    let b = c.bindings in
    let m = c.next_candidate.new.machine in
    let k1 = c.next_candidate.new.self in
    let h = c.in_ok-found.ensures.played.0 in
    let f = matching.filling (plain c.args.body.now) in
    let on = walk_found ss t b.machine m _ _ _ c.in_ok-found.found h f _ c.if-not-found.false b.invariant.leads in
    let filled = subst (λ z. Played found_tree (f z) k1 (Ok c.in_ok-filled.filled) c.filling.new.evaluator) c.view-view.ensures.trail c.in_ok-filled.ensures.played in
    found_some _ (f (binding ss t m)) (matching.walk f (left ss t m)) _ _ _ c.in_ok-filled.filled c.in-Some.result on filled c.in-Some.is

pub trial::first_filling-bindings-preserved : goal.trial::first_filling-bindings-preserved
trial::first_filling-bindings-preserved g t c =
    let ss = c.args.pattern.now in
    let t = plain c.args.e.now in
    let b = c.bindings in
    let m = c.next_candidate.new.machine in
    let k1 = c.next_candidate.new.self in
    let h = c.in_ok-found.ensures.played.0 in
    let f = matching.filling (plain c.args.body.now) in
    let on = walk_found ss t b.machine m _ _ _ c.in_ok-found.found h f _ c.if-not-found.false b.invariant.leads in
    let filled = subst (λ z. Played found_tree (f z) k1 (Ok c.in_ok-filled.filled) c.filling.new.evaluator) c.view-view.ensures.trail c.in_ok-filled.ensures.played in
    record {
      leads = found_none _ (f (binding ss t m)) (matching.walk f (left ss t m)) _ _ _ c.in_ok-filled.filled on filled c.in_default.not-Some;
      searches = c.in_ok-found.ensures.searches;
      sound = filled.0.sound (h.sound b.invariant.sound);
      pattern = all_later filled.0 _ (all_later h _ b.invariant.pattern);
      honest = later filled.0 _ (later h _ b.invariant.honest);
      body = later filled.0 _ (later h _ b.invariant.body);
      falls = omega arith;
      ticks = cc;
    }

pub trial::rule_result-first_filling-requires : goal.trial::rule_result-first_filling-requires
trial::rule_result-first_filling-requires g t c κs within =
    let r = c.args.rule.now in
    let f = c.in_ok-flags.ensures.played in
    (search rules, (within, (f.1.sound c.requires.sound, (kept_honest _ r.left _ c.in_ok-pattern.ensures.passed (later f.1 _ c.requires.rule.0), (later f.1 _ c.requires.honest, later f.1 _ c.requires.rule.1)))))

pub trial::rule_result-returns-clause-played : goal.trial::rule_result-returns-clause-played
trial::rule_result-returns-clause-played g t c =
    let r = c.args.rule.now in
    let f = c.in_ok-flags.ensures.played in
    rule_played (plain r.body) (plain r.left) (plain c.args.e.now) (whole c.in_ok-pattern.pattern) f.0 _ _ _ _ f.1 (c.in_ok-pattern.ensures.named f.0 (c.as_slice-2.ensures.value ∙ f.2)) c.first_filling.ensures.played

pub trial::rule_result-returns-in_err-take_step-clause-played : goal.trial::rule_result-returns-in_err-take_step-clause-played
trial::rule_result-returns-in_err-take_step-clause-played g t c =
    let r = c.args.rule.now in
    let u = plain c.args.e.now in
    let f = c.in_ok-flags.ensures.played in
    let fs = c.as_slice.result.now in
    let m = missed_so f.0 (plain r.left) u fs c.matches_itself.result c.same.result c.matches_itself.ensures c.if-matches_itself.true c.same.ensures c.if-not-same.true (c.as_slice.ensures.value ∙ f.2) in
    rule_stopped (plain r.body) (plain r.left) u fs f.0 f.1 m _ _ (exit itself found_tree _ _ _ _ _ _ c.from_residual-in_err-take_step.ensures.1 c.in_err-take_step.ensures.played)

pub trial::rule_result-returns-then-not-same-clause-played : goal.trial::rule_result-returns-then-not-same-clause-played
trial::rule_result-returns-then-not-same-clause-played g t c =
    let r = c.args.rule.now in
    let u = plain c.args.e.now in
    let f = c.in_ok-flags.ensures.played in
    let fs = c.as_slice.result.now in
    let m = missed_so f.0 (plain r.left) u fs c.matches_itself.result c.same.result c.matches_itself.ensures c.if-matches_itself.true c.same.ensures c.if-not-same.true (c.as_slice.ensures.value ∙ f.2) in
    rule_missed (plain r.body) (plain r.left) u fs f.0 f.1 m _ c.in_ok-take_step.ensures.played.0

-- ---- a trial

pub trial::trial-returns-in_err-found-clause-played : goal.trial::trial-returns-in_err-found-clause-played
trial::trial-returns-in_err-found-clause-played g t c =
    leads_out found_tree found_tree _ _ _ _ _ _ _ _ _ c.loop-i.invariant.leads (trial_at c.args.rules.now c.loop-i.i c.in-Some.rule.now (plain c.args.e.now) (sym c.in-Some.ensures)) c.from_residual.ensures.1 c.in_err-found.ensures.played

pub trial::trial-returns-in-Some-found-clause-played : goal.trial::trial-returns-in-Some-found-clause-played
trial::trial-returns-in-Some-found-clause-played g t c =
    let l = c.loop-i in
    let r = c.in-Some.rule.now in
    let t = plain c.args.e.now in
    let on = trial_leads c.args.rules.now l.i r t _ _ _ (sym c.in-Some.ensures) l.invariant.leads in
    let q = matching.trial (map plain_rule (drop (l.i + 1) c.args.rules.now)) t in
    found_some _ (matching.rule_result (plain_rule r) t) q _ _ _ c.in_ok-found.found c.in-Some-found.result on c.in_ok-found.ensures.played c.in-Some-found.is

pub trial::trial-loop-i-preserved : goal.trial::trial-loop-i-preserved
trial::trial-loop-i-preserved g t c =
    let l = c.loop-i in
    let r = c.in-Some.rule.now in
    let t = plain c.args.e.now in
    let on = trial_leads c.args.rules.now l.i r t _ _ _ (sym c.in-Some.ensures) l.invariant.leads in
    let q = matching.trial (map plain_rule (drop (l.i + 1) c.args.rules.now)) t in
    let h = c.in_ok-found.ensures.played.0 in
    record {
      leads = found_none _ (matching.rule_result (plain_rule r) t) q _ _ _ c.in_ok-found.found on c.in_ok-found.ensures.played c.in_default-found.not-Some;
      sound = h.sound l.invariant.sound;
      rules = rules_later h _ l.invariant.rules;
      honest = later h _ l.invariant.honest;
      falls = omega arith;
      ticks = cc;
    }

pub trial::trial-returns-clause-played : goal.trial::trial-returns-clause-played
trial::trial-returns-clause-played g t c = (c.loop-i.invariant.leads _ _ _ (trial_over c.args.rules.now c.loop-i.i (plain c.args.e.now) c.loop-i.evaluator (omega arith)), tt)

-- ---- matching rows

pub match_rows::any_matches-returns-in_err-found-clause-played : goal.match_rows::any_matches-returns-in_err-found-clause-played
match_rows::any_matches-returns-in_err-found-clause-played g t c =
    let l = c.loop-i in
    let x = c.index-elements-i.result in
    leads_out itself itself _ _ _ _ _ _ _ _ _ l.invariant.leads (any_at (plain c.args.p.now) c.args.elements.now l.i x (omega arith) c.index-elements-i.is) c.from_residual.ensures.1 (c.in_err-found.ensures.played (2 ^ 64) (omega arith))

pub match_rows::any_matches-returns-then-found-clause-played : goal.match_rows::any_matches-returns-then-found-clause-played
match_rows::any_matches-returns-then-found-clause-played g t c =
    let l = c.loop-i in
    let x = c.index-elements-i.result in
    let h = (c.in_ok-found.ensures.played (2 ^ 64) (omega arith)).0 in
    (held _ _ _ _ _ _ _ h c.if-found.true (leads_to _ _ _ _ _ (any_at (plain c.args.p.now) c.args.elements.now l.i x (omega arith) c.index-elements-i.is) l.invariant.leads), tt)

pub match_rows::any_matches-loop-i-preserved : goal.match_rows::any_matches-loop-i-preserved
match_rows::any_matches-loop-i-preserved g t c =
    let l = c.loop-i in
    let x = c.index-elements-i.result in
    let h = (c.in_ok-found.ensures.played (2 ^ 64) (omega arith)).0 in
    record {
      leads = not_held _ _ _ _ _ _ _ h c.if-found.false (leads_to _ _ _ _ _ (any_at (plain c.args.p.now) c.args.elements.now l.i x (omega arith) c.index-elements-i.is) l.invariant.leads);
      sound = h.sound l.invariant.sound;
      pattern = later h _ l.invariant.pattern;
      elements = all_later h _ l.invariant.elements;
      falls = omega arith;
      ticks = cc;
    }

pub match_rows::any_matches-returns-clause-played : goal.match_rows::any_matches-returns-clause-played
match_rows::any_matches-returns-clause-played g t c =
    let p = plain c.args.p.now in
    (elements_over (match_rows.any_matches p) false c.args.elements.now c.loop-i.i _ _ _ (any_none p) (omega arith) c.loop-i.invariant.leads, tt)

pub match_rows::count_matching-returns-in_err-found-clause-played : goal.match_rows::count_matching-returns-in_err-found-clause-played
match_rows::count_matching-returns-in_err-found-clause-played g t c =
    let l = c.loop-i in
    let x = c.index-elements-i.result in
    leads_out itself itself _ _ _ _ _ _ _ _ _ l.invariant.leads (count_at l.count (plain c.args.p.now) c.args.elements.now l.i x (omega arith) c.index-elements-i.is) c.from_residual.ensures.1 (c.in_err-found.ensures.played (2 ^ 64) (omega arith))

pub match_rows::count_matching-loop-i-preserved-then-not-found : goal.match_rows::count_matching-loop-i-preserved-then-not-found
match_rows::count_matching-loop-i-preserved-then-not-found g t c =
    let l = c.loop-i in
    let x = c.index-elements-i.result in
    let h = (c.in_ok-found.ensures.played (2 ^ 64) (omega arith)).0 in
    record {
      leads = part_leads _ _ _ _ _ _ _ _ false h c.if-not-found.true (count_at l.count (plain c.args.p.now) c.args.elements.now l.i x (omega arith) c.index-elements-i.is) l.invariant.leads;
      sound = h.sound l.invariant.sound;
      pattern = later h _ l.invariant.pattern;
      elements = all_later h _ l.invariant.elements;
      few = omega arith;
      falls = omega arith;
      ticks = cc;
    }

pub match_rows::count_matching-loop-i-preserved : goal.match_rows::count_matching-loop-i-preserved
match_rows::count_matching-loop-i-preserved g t c =
    let l = c.loop-i in
    let x = c.index-elements-i.result in
    let h = (c.in_ok-found.ensures.played (2 ^ 64) (omega arith)).0 in
    record {
      leads = part_leads _ _ _ _ _ _ _ _ true h c.if-not-found.false (count_at l.count (plain c.args.p.now) c.args.elements.now l.i x (omega arith) c.index-elements-i.is) l.invariant.leads;
      sound = h.sound l.invariant.sound;
      pattern = later h _ l.invariant.pattern;
      elements = all_later h _ l.invariant.elements;
      few = omega arith;
      falls = omega arith;
      ticks = cc;
    }

pub match_rows::count_matching-returns-clause-played : goal.match_rows::count_matching-returns-clause-played
match_rows::count_matching-returns-clause-played g t c =
    let p = plain c.args.p.now in
    let n = c.loop-i.count in
    (elements_over (match_rows.count_matching n p) n c.args.elements.now c.loop-i.i _ _ _ (count_over n p) (omega arith) c.loop-i.invariant.leads, tt)

pub match_rows::sifted-returns-in_err-matches-clause-played : goal.match_rows::sifted-returns-in_err-matches-clause-played
match_rows::sifted-returns-in_err-matches-clause-played g t c =
    let l = c.loop-i in
    let x = c.index-elements-i.result in
    leads_out itself found_trees _ _ _ _ _ _ _ _ _ l.invariant.leads (sifted_at c.args.wanted (trees l.found.items) (plain c.args.p.now) c.args.elements.now l.i x (omega arith) c.index-elements-i.is) c.from_residual.ensures.1 (c.in_err-matches.ensures.played (2 ^ 64) (omega arith))

pub match_rows::sifted-loop-i-preserved-then-not-agrees : goal.match_rows::sifted-loop-i-preserved-then-not-agrees
match_rows::sifted-loop-i-preserved-then-not-agrees g t c =
    let l = c.loop-i in
    let x = c.index-elements-i.result in
    let before = l.found.items in
    let h = (c.in_ok-matches.ensures.played (2 ^ 64) (omega arith)).0 in
    record {
      leads = sifted_leads c.args.wanted before before (plain c.args.p.now) c.args.elements.now l.i x _ _ _ _ c.in_ok-matches.matches false (omega arith) c.index-elements-i.is h (sym c.agrees.ensures ∙ c.if-not-agrees.true) refl l.invariant.leads;
      sound = h.sound l.invariant.sound;
      pattern = later h _ l.invariant.pattern;
      elements = all_later h _ l.invariant.elements;
      found = all_later h _ l.invariant.found;
      falls = omega arith;
      ticks = cc;
    }

pub match_rows::sifted-loop-i-preserved : goal.match_rows::sifted-loop-i-preserved
match_rows::sifted-loop-i-preserved g t c =
    let l = c.loop-i in
    let x = c.index-elements-i.result in
    let before = l.found.items in
    let k1 = c.matches.new.evaluator in
    let h = (c.in_ok-matches.ensures.played (2 ^ 64) (omega arith)).0 in
    let p = c.in_ok-push.ensures.items ∙ ap (λ z. before ++ z ∷ []) c.in_ok-copy.ensures in
    record {
      leads = sifted_leads c.args.wanted before _ (plain c.args.p.now) c.args.elements.now l.i x _ _ _ _ c.in_ok-matches.matches true (omega arith) c.index-elements-i.is h (sym c.agrees.ensures ∙ c.if-not-agrees.false) (trees_push before _ x p) l.invariant.leads;
      sound = h.sound l.invariant.sound;
      pattern = later h _ l.invariant.pattern;
      elements = all_later h _ l.invariant.elements;
      found = subst (AllHonest k1) (sym p) (All-push (Honest k1) before x (all_later h _ l.invariant.found) (subst (Honest k1) (sym c.index-elements-i.is) (all_later h _ l.invariant.elements l.i x (omega arith))));
      falls = omega arith;
      ticks = cc;
    }

pub match_rows::sifted-returns-clause-played : goal.match_rows::sifted-returns-clause-played
match_rows::sifted-returns-clause-played g t c =
    let p = plain c.args.p.now in
    let l = c.loop-i in
    let found = trees l.found.items in
    (elements_over (sifted c.args.wanted found p) found c.args.elements.now l.i _ _ _ (sifted_over c.args.wanted found p) (omega arith) l.invariant.leads, l.invariant.found)

pub match_rows::cases_by-returns-in_err-result-clause-played : goal.match_rows::cases_by-returns-in_err-result-clause-played
match_rows::cases_by-returns-in_err-result-clause-played g t c =
    let l = c.loop-i in
    let x = c.index-elements-i.result in
    leads_out found_tree found_trees _ _ _ _ _ _ _ _ _ l.invariant.leads (cases_at (trees l.found.items) (plain_rule c.args.rule.now) c.args.elements.now l.i x (omega arith) c.index-elements-i.is) c.from_residual.ensures.1 c.in_err-result.ensures.played

pub match_rows::cases_by-loop-i-preserved-in_default : goal.match_rows::cases_by-loop-i-preserved-in_default
match_rows::cases_by-loop-i-preserved-in_default g t c =
    let l = c.loop-i in
    let x = c.index-elements-i.result in
    let before = l.found.items in
    let h = c.in_ok-result.ensures.played.0 in
    record {
      leads = cases_leads before before (plain_rule c.args.rule.now) c.args.elements.now l.i x _ _ _ _ c.in_ok-result.result (omega arith) c.index-elements-i.is h (nothing_more before c.in_ok-result.result c.in_default.not-Some) l.invariant.leads;
      sound = h.sound l.invariant.sound;
      rule = (later h _ l.invariant.rule.0, later h _ l.invariant.rule.1);
      elements = all_later h _ l.invariant.elements;
      found = all_later h _ l.invariant.found;
      falls = omega arith;
      ticks = cc;
    }

pub match_rows::cases_by-loop-i-preserved : goal.match_rows::cases_by-loop-i-preserved
match_rows::cases_by-loop-i-preserved g t c =
    let l = c.loop-i in
    let x = c.index-elements-i.result in
    let y = c.in-Some.result in
    let before = l.found.items in
    let k1 = c.rule_result.new.evaluator in
    let h = c.in_ok-result.ensures.played.0 in
    let p = c.in_ok-push.ensures.items in
    let honest = subst (HonestOption k1.store) c.in-Some.is c.in_ok-result.ensures.played.1 in
    record {
      leads = cases_leads before _ (plain_rule c.args.rule.now) c.args.elements.now l.i x _ _ _ _ c.in_ok-result.result (omega arith) c.index-elements-i.is h (one_more before _ c.in_ok-result.result y c.in-Some.is p) l.invariant.leads;
      sound = h.sound l.invariant.sound;
      rule = (later h _ l.invariant.rule.0, later h _ l.invariant.rule.1);
      elements = all_later h _ l.invariant.elements;
      found = subst (AllHonest k1) (sym p) (All-push (Honest k1) before y (all_later h _ l.invariant.found) honest);
      falls = omega arith;
      ticks = cc;
    }

pub match_rows::cases_by-returns-clause-played : goal.match_rows::cases_by-returns-clause-played
match_rows::cases_by-returns-clause-played g t c =
    let r = plain_rule c.args.rule.now in
    let l = c.loop-i in
    let found = trees l.found.items in
    (elements_over (match_rows.cases_by found r) found c.args.elements.now l.i _ _ _ (cases_over found r) (omega arith) l.invariant.leads, l.invariant.found)

pub match_rows::any_part-returns-in_err-found-clause-played : goal.match_rows::any_part-returns-in_err-found-clause-played
match_rows::any_part-returns-in_err-found-clause-played g t c =
    leads_out itself itself _ _ _ _ _ _ _ _ _ (λ r k o h. h) (part_is (plain c.args.p.now) (plain c.args.e.now)) c.from_residual.ensures.1 (c.in_err-found.ensures.played (2 ^ 64) (omega arith))

pub match_rows::any_part-returns-then-found-clause-played : goal.match_rows::any_part-returns-then-found-clause-played
match_rows::any_part-returns-then-found-clause-played g t c =
    let h = (c.in_ok-found.ensures.played (2 ^ 64) (omega arith)).0 in
    (held _ _ _ _ _ _ _ h c.if-found.true (leads_to _ _ _ _ _ (part_is (plain c.args.p.now) (plain c.args.e.now)) (λ r k o m. m)), tt)

pub match_rows::any_part-returns-in_default-clause-played : goal.match_rows::any_part-returns-in_default-clause-played
match_rows::any_part-returns-in_default-clause-played g t c =
    let p = plain c.args.p.now in
    let e = plain c.args.e.now in
    let h = (c.in_ok-found.ensures.played (2 ^ 64) (omega arith)).0 in
    let on = not_held _ _ _ _ _ _ _ h c.if-found.false (leads_to _ _ _ _ _ (part_is p e) (λ r k o m. m)) in
    (on _ _ _ (subst (λ z. Plays z c.matches.new.evaluator (Ok false) c.matches.new.evaluator false) (sym (part_none p e (no_node _ _ _ c.view.ensures.all c.in_default.not-Node))) plays_done), tt)

pub match_rows::any_part-returns-in_err-in_head-clause-played : goal.match_rows::any_part-returns-in_err-in_head-clause-played
match_rows::any_part-returns-in_err-in_head-clause-played g t c =
    let p = plain c.args.p.now in
    let e = plain c.args.e.now in
    let h = (c.in_ok-found.ensures.played (2 ^ 64) (omega arith)).0 in
    let on = not_held _ _ _ _ _ _ _ h c.if-found.false (leads_to _ _ _ _ _ (part_is p e) (λ r k o m. m)) in
    leads_out itself itself _ _ _ _ _ _ _ _ _ on (part_node p e (plain c.in-Node.head.now) c.in-Node.args.now c.in-Node.ensures.plain) c.from_residual-in_err-in_head.ensures.1 c.in_err-in_head.ensures.played

pub match_rows::any_part-returns-then-in_head-clause-played : goal.match_rows::any_part-returns-then-in_head-clause-played
match_rows::any_part-returns-then-in_head-clause-played g t c =
    let p = plain c.args.p.now in
    let e = plain c.args.e.now in
    let h = (c.in_ok-found.ensures.played (2 ^ 64) (omega arith)).0 in
    let on = not_held _ _ _ _ _ _ _ h c.if-found.false (leads_to _ _ _ _ _ (part_is p e) (λ r k o m. m)) in
    (held _ _ _ _ _ _ _ c.in_ok-in_head.ensures.played.0 c.if-in_head.true (leads_to _ _ _ _ _ (part_node p e (plain c.in-Node.head.now) c.in-Node.args.now c.in-Node.ensures.plain) on), tt)

pub match_rows::any_part-any_part-requires : goal.match_rows::any_part-any_part-requires
match_rows::any_part-any_part-requires g t c κs within =
    let h = (c.in_ok-found.ensures.played (2 ^ 64) (omega arith)).0 in
    let d = head_depth (plain c.in-Node.head.now) (plain c.args.e.now) c.in-Node.args.now c.in-Node.ensures.plain in
    (omega (arith, d, c.in_ok-found.ensures.falls), (within, (h.sound c.requires.sound, (later h _ c.requires.pattern, later h _ (head_honest c.args.evaluator.now.store _ _ _ _ c.in-Node.ensures.all c.requires.honest)))))

pub match_rows::any_part-any_part_in-requires : goal.match_rows::any_part-any_part_in-requires
match_rows::any_part-any_part_in-requires g t c κs within =
    let h = (c.in_ok-found.ensures.played (2 ^ 64) (omega arith)).0 in
    let m = c.in_ok-in_head.ensures.played.0 in
    let d = args_depth (plain c.in-Node.head.now) (plain c.args.e.now) c.in-Node.args.now c.in-Node.ensures.plain in
    (omega (arith, d, c.in_ok-found.ensures.falls, c.in_ok-in_head.ensures.falls), (within, (m.sound (h.sound c.requires.sound), (later m _ (later h _ c.requires.pattern), all_later m _ (all_later h _ (args_honest c.args.evaluator.now.store _ _ _ _ c.in-Node.ensures.all c.requires.honest))))))

pub match_rows::any_part-returns-clause-played : goal.match_rows::any_part-returns-clause-played
match_rows::any_part-returns-clause-played g t c =
    let p = plain c.args.p.now in
    let e = plain c.args.e.now in
    let h = (c.in_ok-found.ensures.played (2 ^ 64) (omega arith)).0 in
    let on = not_held _ _ _ _ _ _ _ h c.if-found.false (leads_to _ _ _ _ _ (part_is p e) (λ r k o m. m)) in
    leads_played itself _ _ _ _ _ _ (not_held _ _ _ _ _ _ _ c.in_ok-in_head.ensures.played.0 c.if-in_head.false (leads_to _ _ _ _ _ (part_node p e (plain c.in-Node.head.now) c.in-Node.args.now c.in-Node.ensures.plain) on)) c.any_part_in.ensures.played

pub match_rows::any_part_in-any_part-requires : goal.match_rows::any_part_in-any_part-requires
match_rows::any_part_in-any_part-requires g t c κs within =
    let l = c.loop-i in
    let x = c.index-elements-i.result in
    let d = element_depth c.args.elements.now l.i x (omega arith) c.index-elements-i.is in
    (omega (arith, d, l.invariant.falls), (within, (l.invariant.sound, (l.invariant.pattern, subst (Honest l.evaluator) (sym c.index-elements-i.is) (l.invariant.elements l.i x (omega arith))))))

pub match_rows::any_part_in-returns-in_err-found-clause-played : goal.match_rows::any_part_in-returns-in_err-found-clause-played
match_rows::any_part_in-returns-in_err-found-clause-played g t c =
    let l = c.loop-i in
    let x = c.index-elements-i.result in
    leads_out itself itself _ _ _ _ _ _ _ _ _ l.invariant.leads (part_at (plain c.args.p.now) c.args.elements.now l.i x (omega arith) c.index-elements-i.is) c.from_residual.ensures.1 c.in_err-found.ensures.played

pub match_rows::any_part_in-returns-then-found-clause-played : goal.match_rows::any_part_in-returns-then-found-clause-played
match_rows::any_part_in-returns-then-found-clause-played g t c =
    let l = c.loop-i in
    let x = c.index-elements-i.result in
    (held _ _ _ _ _ _ _ c.in_ok-found.ensures.played.0 c.if-found.true (leads_to _ _ _ _ _ (part_at (plain c.args.p.now) c.args.elements.now l.i x (omega arith) c.index-elements-i.is) l.invariant.leads), tt)

pub match_rows::any_part_in-loop-i-preserved : goal.match_rows::any_part_in-loop-i-preserved
match_rows::any_part_in-loop-i-preserved g t c =
    let l = c.loop-i in
    let x = c.index-elements-i.result in
    let h = c.in_ok-found.ensures.played.0 in
    record {
      leads = not_held _ _ _ _ _ _ _ h c.if-found.false (leads_to _ _ _ _ _ (part_at (plain c.args.p.now) c.args.elements.now l.i x (omega arith) c.index-elements-i.is) l.invariant.leads);
      sound = h.sound l.invariant.sound;
      pattern = later h _ l.invariant.pattern;
      elements = all_later h _ l.invariant.elements;
      falls = omega (arith, c.in_ok-found.ensures.falls, l.invariant.falls);
      ticks = cc;
    }

pub match_rows::any_part_in-returns-clause-played : goal.match_rows::any_part_in-returns-clause-played
match_rows::any_part_in-returns-clause-played g t c =
    let p = plain c.args.p.now in
    (elements_over (λ ts. match_rows.any_matches p (match_rows.parts_in (tree.from_list ts))) false c.args.elements.now c.loop-i.i _ _ _ (any_none p) (omega arith) c.loop-i.invariant.leads, tt)

pub match_rows::cases_in-cases_by-requires : goal.match_rows::cases_in-cases_by-requires
match_rows::cases_in-cases_by-requires g t c κs within =
    (search rules, (within, (c.requires.sound, (rule_honest c.args.evaluator.now c.args.p.now c.in_ok-delayed_rule.field-0 c.in-Some.rule c.in_ok-delayed_rule.ensures.passed c.in-Some.is c.requires.pattern, c.requires.elements))))

pub match_rows::cases_row-cases_in-requires : goal.match_rows::cases_row-cases_in-requires
match_rows::cases_row-cases_in-requires g t c κs within =
    let k = c.args.evaluator.now in
    let h = pair_honest k c.args.args.now c.in-Some.e.now c.in-Some.p.now c.in-Some.ensures c.requires.args in
    (search rules, (within, (c.requires.sound, (h.1, kept_honest k.store c.in-Some.e.now c.elements.result.now c.elements.ensures.passed h.0))))

pub match_rows::cases_row-given-requires : goal.match_rows::cases_row-given-requires
match_rows::cases_row-given-requires g t c = record { honest = listed_honest c.cases_in.new.evaluator c.as_slice.result.now _ c.list-made.result c.as_slice.ensures.value c.list-made.ensures.node c.in_ok-cases.ensures.played.1 }

pub match_rows::cases_row-returns-in_err-cases-clause-played : goal.match_rows::cases_row-returns-in_err-cases-clause-played
match_rows::cases_row-returns-in_err-cases-clause-played g t c =
    let e = c.in-Some.e.now in
    let p = c.in-Some.p.now in
    let q = plain p in
    let m = subst (λ ts. Played found_trees (match_rows.cases_in ts q (match_rows.delayed_rule q)) c.args.evaluator.now (Err c.in_err-cases.field-0.0) c.cases_in.new.evaluator) c.elements.ensures.value c.in_err-cases.ensures.played in
    pair_row found_tree match_rows.cases_row c.args.args.now e p _ _ _ c.in-Some.ensures (row_exit found_trees _ _ _ _ _ _ c.from_residual.ensures.1 m)

pub match_rows::cases_row-returns-clause-played : goal.match_rows::cases_row-returns-clause-played
match_rows::cases_row-returns-clause-played g t c =
    let e = c.in-Some.e.now in
    let p = c.in-Some.p.now in
    let q = plain p in
    let us = trees c.in_ok-cases.cases.items in
    let h = subst (λ ts. Plays (match_rows.cases_in ts q (match_rows.delayed_rule q)) c.args.evaluator.now (Ok us) c.cases_in.new.evaluator false) c.elements.ensures.value c.in_ok-cases.ensures.played.0 in
    let m = subst (λ zs. Makes (list_of (trees zs)) c.list-made.result) c.as_slice.ensures.value c.list-made.ensures.made in
    pair_row found_tree match_rows.cases_row c.args.args.now e p _ _ _ c.in-Some.ensures (row_made _ (list_of us) _ _ _ _ (plays_bind _ _ h plays_done) (c.given.ensures.played (list_of us) m))

pub match_rows::cases_row-returns-in_default-clause-played : goal.match_rows::cases_row-returns-in_default-clause-played
match_rows::cases_row-returns-in_default-clause-played g t c = pair_stays match_rows.cases_row c.args.args.now c.args.evaluator.now c.in_default.ensures refl (λ x. refl) (λ x y z ts. refl)

pub match_rows::count_row-count_matching-requires : goal.match_rows::count_row-count_matching-requires
match_rows::count_row-count_matching-requires g t c κs within =
    let k = c.args.evaluator.now in
    let h = pair_honest k c.args.args.now c.in-Some.e.now c.in-Some.p.now c.in-Some.ensures c.requires.args in
    (search rules, (within, (c.requires.sound, (h.1, kept_honest k.store c.in-Some.e.now c.elements.result.now c.elements.ensures.passed h.0))))

pub match_rows::count_row-returns-in_default-clause-played : goal.match_rows::count_row-returns-in_default-clause-played
match_rows::count_row-returns-in_default-clause-played g t c = pair_stays match_rows.count_row c.args.args.now c.args.evaluator.now c.in_default.ensures refl (λ x. refl) (λ x y z ts. refl)

pub match_rows::count_row-returns-in_err-count-clause-played : goal.match_rows::count_row-returns-in_err-count-clause-played
match_rows::count_row-returns-in_err-count-clause-played g t c =
    let e = c.in-Some.e.now in
    let p = c.in-Some.p.now in
    let m = subst (λ ts. Played itself (match_rows.count_matching 0 (plain p) ts) c.args.evaluator.now (Err c.in_err-count.field-0.0) c.count_matching.new.evaluator) c.elements.ensures.value c.in_err-count.ensures.played in
    pair_row found_tree match_rows.count_row c.args.args.now e p _ _ _ c.in-Some.ensures (row_exit itself _ _ _ _ _ _ c.from_residual.ensures.1 m)

pub match_rows::count_row-returns-clause-played : goal.match_rows::count_row-returns-clause-played
match_rows::count_row-returns-clause-played g t c =
    let e = c.in-Some.e.now in
    let p = c.in-Some.p.now in
    let h = subst (λ ts. Plays (match_rows.count_matching 0 (plain p) ts) c.args.evaluator.now (Ok c.in_ok-count.count) c.count_matching.new.evaluator false) c.elements.ensures.value c.in_ok-count.ensures.played.0 in
    pair_row found_tree match_rows.count_row c.args.args.now e p c.args.evaluator.now (Ok (Some c.in_ok-natural.field-0)) c.count_matching.new.evaluator c.in-Some.ensures (row_count _ _ _ c.in_ok-count.count c.in_ok-natural.field-0 h c.in_ok-natural.ensures)

pub match_rows::member_row-any_matches-requires : goal.match_rows::member_row-any_matches-requires
match_rows::member_row-any_matches-requires g t c κs within =
    let k = c.args.evaluator.now in
    let h = pair_honest k c.args.args.now c.in-Some.e.now c.in-Some.p.now c.in-Some.ensures c.requires.args in
    (search rules, (within, (c.requires.sound, (h.1, kept_honest k.store c.in-Some.e.now c.elements.result.now c.elements.ensures.passed h.0))))

pub match_rows::member_row-returns-in_default-clause-played : goal.match_rows::member_row-returns-in_default-clause-played
match_rows::member_row-returns-in_default-clause-played g t c = pair_stays match_rows.member_row c.args.args.now c.args.evaluator.now c.in_default.ensures refl (λ x. refl) (λ x y z ts. refl)

pub match_rows::member_row-returns-in_err-found-clause-played : goal.match_rows::member_row-returns-in_err-found-clause-played
match_rows::member_row-returns-in_err-found-clause-played g t c =
    let e = c.in-Some.e.now in
    let p = c.in-Some.p.now in
    let m = subst (λ ts. Played itself (match_rows.any_matches (plain p) ts) c.args.evaluator.now (Err c.in_err-found.field-0.0) c.any_matches.new.evaluator) c.elements.ensures.value c.in_err-found.ensures.played in
    pair_row found_tree match_rows.member_row c.args.args.now e p _ _ _ c.in-Some.ensures (row_exit itself _ _ _ _ _ _ c.from_residual.ensures.1 m)

pub match_rows::member_row-returns-clause-played : goal.match_rows::member_row-returns-clause-played
match_rows::member_row-returns-clause-played g t c =
    let e = c.in-Some.e.now in
    let p = c.in-Some.p.now in
    let h = subst (λ ts. Plays (match_rows.any_matches (plain p) ts) c.args.evaluator.now (Ok c.in_ok-found.found) c.any_matches.new.evaluator false) c.elements.ensures.value c.in_ok-found.ensures.played.0 in
    pair_row found_tree match_rows.member_row c.args.args.now e p c.args.evaluator.now (Ok (Some c.in_ok-truth.field-0)) c.any_matches.new.evaluator c.in-Some.ensures (row_truth _ (λ b. b) _ _ c.in_ok-found.found c.in_ok-truth.field-0 h c.in_ok-truth.ensures)

pub match_rows::delete_cases_row-sifted-requires : goal.match_rows::delete_cases_row-sifted-requires
match_rows::delete_cases_row-sifted-requires g t c κs within =
    let k = c.args.evaluator.now in
    let h = pair_honest k c.args.args.now c.in-Some.e.now c.in-Some.p.now c.in-Some.ensures c.requires.args in
    (search rules, (within, (c.requires.sound, (h.1, args_honest k.store _ _ _ _ c.in-Node.ensures.all h.0))))

pub match_rows::delete_cases_row-given-requires : goal.match_rows::delete_cases_row-given-requires
match_rows::delete_cases_row-given-requires g t c =
    let k = c.args.evaluator.now in
    let h = pair_honest k c.args.args.now c.in-Some.e.now c.in-Some.p.now c.in-Some.ensures c.requires.args in
    let m = c.in_ok-others.ensures.played in
    record { honest = node_honest c.sifted.new.evaluator c.in-Node.head.now c.as_slice.result.now _ c.node-made.result c.as_slice.ensures.value c.node-made.ensures.ok (later m.0 _ (head_honest k.store _ _ _ _ c.in-Node.ensures.all h.0)) m.1 }

pub match_rows::delete_cases_row-returns-in_err-others-clause-played : goal.match_rows::delete_cases_row-returns-in_err-others-clause-played
match_rows::delete_cases_row-returns-in_err-others-clause-played g t c =
    let e = c.in-Some.e.now in
    let p = c.in-Some.p.now in
    let q = delete_node (plain e) (plain p) (plain c.in-Node.head.now) c.in-Node.parts.now c.in-Node.ensures.plain in
    pair_row found_tree match_rows.delete_cases_row c.args.args.now e p _ _ _ c.in-Some.ensures (row_at _ _ _ _ _ q (row_exit found_trees _ _ _ _ _ _ c.from_residual-in_err-others.ensures.1 c.in_err-others.ensures.played))

pub match_rows::delete_cases_row-returns-clause-played : goal.match_rows::delete_cases_row-returns-clause-played
match_rows::delete_cases_row-returns-clause-played g t c =
    let e = c.in-Some.e.now in
    let p = c.in-Some.p.now in
    let h = plain c.in-Node.head.now in
    let us = c.in_ok-others.others.items in
    let q = delete_node (plain e) (plain p) h c.in-Node.parts.now c.in-Node.ensures.plain in
    let m = subst (λ zs. Makes (applied h (trees zs)) c.node-made.result) c.as_slice.ensures.value (node_makes c.in-Node.head.now c.as_slice.result.now c.node-made.result c.node-made.ensures.ok c.node-made.ensures.large) in
    pair_row found_tree match_rows.delete_cases_row c.args.args.now e p _ _ _ c.in-Some.ensures
    (row_at _ _ _ _ _ q (row_made _ (applied h (trees us)) _ _ _ _ (plays_bind _ _ c.in_ok-others.ensures.played.0 plays_done) (c.given.ensures.played (applied h (trees us)) m)))

pub match_rows::delete_cases_row-returns-in_default-clause-played : goal.match_rows::delete_cases_row-returns-in_default-clause-played
match_rows::delete_cases_row-returns-in_default-clause-played g t c = pair_stays match_rows.delete_cases_row c.args.args.now c.args.evaluator.now c.in_default.ensures refl delete_one delete_many

pub match_rows::delete_cases_row-returns-in_default-view-clause-played : goal.match_rows::delete_cases_row-returns-in_default-view-clause-played
match_rows::delete_cases_row-returns-in_default-view-clause-played g t c =
    let k = c.args.evaluator.now in
    let e = c.in-Some.e.now in
    let p = c.in-Some.p.now in
    let h = pair_honest k c.args.args.now e p c.in-Some.ensures c.requires.args in
    let q = delete_atom (plain e) (plain p) (no_node _ _ _ c.view.ensures.all c.in_default-view.not-Node) in
    subst (λ z. Played found_tree (sized_row (match_rows.delete_cases_row (trees c.args.args.now))) k (Ok (Some z)) k) (sym c.in_ok-copy.ensures)
    (pair_row found_tree match_rows.delete_cases_row c.args.args.now e p k (Ok (Some e)) k c.in-Some.ensures (row_at _ _ k (Ok (Some e)) k q (row_gives (prog.result (plain e)) k k e plays_done ((fits_decides (plain e)).1 c.view.ensures.fits) h.0)))

pub match_rows::match_row-returns-in_err-found-clause-played : goal.match_rows::match_row-returns-in_err-found-clause-played
match_rows::match_row-returns-in_err-found-clause-played g t c =
    pair_row found_tree match_rows.match_row c.args.args.now c.in-Some.e.now c.in-Some.p.now _ _ _ c.in-Some.ensures (row_exit itself _ _ _ _ _ _ c.from_residual.ensures.1 (c.in_err-found.ensures.played (2 ^ 64) (omega arith)))

pub match_rows::match_row-returns-in_default-clause-played : goal.match_rows::match_row-returns-in_default-clause-played
match_rows::match_row-returns-in_default-clause-played g t c = pair_stays match_rows.match_row c.args.args.now c.args.evaluator.now c.in_default.ensures refl (λ x. refl) (λ x y z ts. refl)

pub match_rows::match_row-matches-requires : goal.match_rows::match_row-matches-requires
match_rows::match_row-matches-requires g t c κs within =
    let h = pair_honest c.args.evaluator.now c.args.args.now c.in-Some.e.now c.in-Some.p.now c.in-Some.ensures c.requires.args in
    (search rules, (within, (c.requires.sound, (h.1, h.0))))

pub match_rows::match_row-returns-clause-played : goal.match_rows::match_row-returns-clause-played
match_rows::match_row-returns-clause-played g t c =
    let h = (c.in_ok-found.ensures.played (2 ^ 64) (omega arith)).0 in
    pair_row found_tree match_rows.match_row c.args.args.now c.in-Some.e.now c.in-Some.p.now c.args.evaluator.now (Ok (Some c.in_ok-truth.field-0)) c.matches.new.evaluator c.in-Some.ensures (row_truth _ (λ b. b) _ _ c.in_ok-found.found c.in_ok-truth.field-0 h c.in_ok-truth.ensures)

-- ---- replacement

pub trial::first_result-returns-in_err-found-clause-played : goal.trial::first_result-returns-in_err-found-clause-played
trial::first_result-returns-in_err-found-clause-played g t c =
    let l = c.loop-i in
    let x = c.index-rules-i.result in
    leads_out found_tree found_tree _ _ _ _ _ _ _ _ _ l.invariant.leads (trial_next c.args.rules.now l.i x (plain c.args.e.now) (omega arith) c.index-rules-i.is) c.from_residual.ensures.1 c.in_err-found.ensures.played

pub trial::first_result-returns-in-Some-clause-played : goal.trial::first_result-returns-in-Some-clause-played
trial::first_result-returns-in-Some-clause-played g t c =
    let l = c.loop-i in
    let x = c.index-rules-i.result in
    let e = plain c.args.e.now in
    let on = leads_to _ _ _ _ _ (trial_next c.args.rules.now l.i x e (omega arith) c.index-rules-i.is) l.invariant.leads in
    let q = matching.trial (map plain_rule (drop (l.i + 1) c.args.rules.now)) e in
    found_some _ (matching.rule_result (plain_rule x) e) q _ _ _ c.in_ok-found.found c.in-Some.result on c.in_ok-found.ensures.played c.in-Some.is

pub trial::first_result-loop-i-preserved : goal.trial::first_result-loop-i-preserved
trial::first_result-loop-i-preserved g t c =
    let l = c.loop-i in
    let x = c.index-rules-i.result in
    let e = plain c.args.e.now in
    let on = leads_to _ _ _ _ _ (trial_next c.args.rules.now l.i x e (omega arith) c.index-rules-i.is) l.invariant.leads in
    let q = matching.trial (map plain_rule (drop (l.i + 1) c.args.rules.now)) e in
    let h = c.in_ok-found.ensures.played.0 in
    record {
      leads = found_none _ (matching.rule_result (plain_rule x) e) q _ _ _ c.in_ok-found.found on c.in_ok-found.ensures.played c.in_default.not-Some;
      sound = h.sound l.invariant.sound;
      rules = rules_later h _ l.invariant.rules;
      honest = later h _ l.invariant.honest;
      falls = omega arith;
      ticks = cc;
    }

pub trial::first_result-returns-clause-played : goal.trial::first_result-returns-clause-played
trial::first_result-returns-clause-played g t c = (c.loop-i.invariant.leads _ _ _ (trial_over c.args.rules.now c.loop-i.i (plain c.args.e.now) c.loop-i.evaluator (omega arith)), tt)

pub replace_rows::replace_all-returns-in_err-found-clause-played : goal.replace_rows::replace_all-returns-in_err-found-clause-played
replace_rows::replace_all-returns-in_err-found-clause-played g t c =
    let e = c.args.e.now in
    leads_out found_tree (seen_replaced e) _ _ _ _ _ _ _ _ _ (λ r k o h. h) (replacing_is (map plain_rule c.args.rules.now) (plain e)) c.from_residual.ensures.1 c.in_err-found.ensures.played

pub replace_rows::replace_all-returns-in-Some-clause-played : goal.replace_rows::replace_all-returns-in-Some-clause-played
replace_rows::replace_all-returns-in-Some-clause-played g t c =
    result_replaced (map plain_rule c.args.rules.now) c.args.e.now _ _ c.in_ok-found.found c.in_ok-found.ensures.played c.in-Some.result c.in-Some.is c.weight-weight.ensures.fits

pub replace_rows::replace_all-returns-in_default-view-clause-played : goal.replace_rows::replace_all-returns-in_default-view-clause-played
replace_rows::replace_all-returns-in_default-view-clause-played g t c =
    let rs = map plain_rule c.args.rules.now in
    let e = c.args.e.now in
    let on = below_leads rs e _ _ c.in_ok-found.found c.in_ok-found.ensures.played c.in_default.not-Some in
    leaf_replaced rs e _ _ _ (no_node _ _ _ c.view.ensures.all c.in_default-view.not-Node) c.view.ensures.fits (later c.in_ok-found.ensures.played.0 _ c.requires.honest) on

pub replace_rows::replace_all-returns-in_err-new_head-clause-played : goal.replace_rows::replace_all-returns-in_err-new_head-clause-played
replace_rows::replace_all-returns-in_err-new_head-clause-played g t c =
    let rs = map plain_rule c.args.rules.now in
    let e = c.args.e.now in
    let on = below_leads rs e _ _ c.in_ok-found.found c.in_ok-found.ensures.played c.in_default.not-Some in
    leads_out (seen_replaced c.in-Node.head.now) (seen_replaced e) _ _ _ _ _ _ _ _ _ on (node_below rs (plain e) (plain c.in-Node.head.now) c.in-Node.args.now c.in-Node.ensures.plain) c.from_residual-in_err-new_head.ensures.1 c.in_err-new_head.ensures.played

pub replace_rows::replace_all-replace_each-requires : goal.replace_rows::replace_all-replace_each-requires
replace_rows::replace_all-replace_each-requires g t c κs within =
    let h = c.in_ok-found.ensures.played.0 in
    let m = c.in_ok-new_head.ensures.played.0 in
    let d = args_depth (plain c.in-Node.head.now) (plain c.args.e.now) c.in-Node.args.now c.in-Node.ensures.plain in
    (omega (arith, d, c.in_ok-found.ensures.falls, c.in_ok-new_head.ensures.falls), (within, (m.sound (h.sound c.requires.sound), (rules_later m _ (rules_later h _ c.requires.rules), all_later m _ (all_later h _ (args_honest c.args.evaluator.now.store _ _ _ _ c.in-Node.ensures.all c.requires.honest))))))

pub replace_rows::replace_all-returns-in_err-elements-clause-played : goal.replace_rows::replace_all-returns-in_err-elements-clause-played
replace_rows::replace_all-returns-in_err-elements-clause-played g t c =
    let rs = map plain_rule c.args.rules.now in
    let e = c.args.e.now in
    let on = below_leads rs e _ _ c.in_ok-found.found c.in_ok-found.ensures.played c.in_default.not-Some in
    let next = leads_in _ _ _ _ _ _ _ _ on (node_below rs (plain e) (plain c.in-Node.head.now) c.in-Node.args.now c.in-Node.ensures.plain) c.in_ok-new_head.ensures.played.0 in
    leads_out (seen_each c.in-Node.args.now) (seen_replaced e) _ _ _ _ _ _ _ _ _ next refl c.from_residual-in_err-elements.ensures.1 c.in_err-elements.ensures.played

pub replace_rows::replace_all-returns-clause-played : goal.replace_rows::replace_all-returns-clause-played
replace_rows::replace_all-returns-clause-played g t c =
    let rs = map plain_rule c.args.rules.now in
    let e = c.args.e.now in
    let h = c.in-Node.head.now in
    let es = c.in-Node.args.now in
    let k2 = c.replace_each.new.evaluator in
    let made = c.in_ok-rebuilt.field-0 in
    let on = below_leads rs e _ _ c.in_ok-found.found c.in_ok-found.ensures.played c.in_default.not-Some in
    let next = leads_in _ _ _ _ _ _ _ _ on (node_below rs (plain e) (plain h) es c.in-Node.ensures.plain) c.in_ok-new_head.ensures.played.0 in
    let m = c.in_ok-new_head.ensures.played in
    let n = c.in_ok-elements.ensures.played in
    let is = rebuilt_is e h es c.in-Node.ensures.plain c.view.ensures.fits (part_of h c.in_ok-new_head.new_head) (each_of es c.in_ok-elements.elements) made c.in_ok-rebuilt.ensures in (
      leads_in _ _ _ _ _ _ _ _ next refl n.0 _ _ _ (plays_done_is (sym is)),
      rebuilt_honest e h es c.in-Node.ensures.plain c.view.ensures.fits k2 (part_of h c.in_ok-new_head.new_head) (each_of es c.in_ok-elements.elements) made c.in_ok-rebuilt.ensures
          (later n.0 _ (later m.0 _ (later c.in_ok-found.ensures.played.0 _ c.requires.honest))) (option_later n.0 _ m.1) n.1,
    )

pub replace_rows::replace_all-replace_all-requires : goal.replace_rows::replace_all-replace_all-requires
replace_rows::replace_all-replace_all-requires g t c κs within =
    let h = c.in_ok-found.ensures.played.0 in
    let d = head_depth (plain c.in-Node.head.now) (plain c.args.e.now) c.in-Node.args.now c.in-Node.ensures.plain in
    (omega (arith, d, c.in_ok-found.ensures.falls), (within, (h.sound c.requires.sound, (rules_later h _ c.requires.rules, later h _ (head_honest c.args.evaluator.now.store _ _ _ _ c.in-Node.ensures.all c.requires.honest)))))

pub replace_rows::replace_each-replace_all-requires : goal.replace_rows::replace_each-replace_all-requires
replace_rows::replace_each-replace_all-requires g t c κs within =
    let l = c.loop-i in
    let x = c.index-args-i.result in
    let d = element_depth c.args.args.now l.i x (omega arith) c.index-args-i.is in
    (omega (arith, d, l.invariant.falls), (within, (l.invariant.sound, (l.invariant.rules, subst (Honest l.evaluator) (sym c.index-args-i.is) (l.invariant.args l.i x (omega arith))))))

pub replace_rows::replace_each-returns-in_err-part-clause-played : goal.replace_rows::replace_each-returns-in_err-part-clause-played
replace_rows::replace_each-returns-in_err-part-clause-played g t c =
    let l = c.loop-i in
    let x = c.index-args-i.result in
    let us = option_map trees (each_of (take l.i c.args.args.now) l.before) in
    leads_out (seen_replaced x) (seen_each c.args.args.now) _ _ _ _ _ _ _ _ _ l.invariant.leads (each_next us (map plain_rule c.args.rules.now) c.args.args.now l.i x (omega arith) c.index-args-i.is) c.from_residual.ensures.1 c.in_err-part.ensures.played

pub replace_rows::replace_each-loop-i-preserved : goal.replace_rows::replace_each-loop-i-preserved
replace_rows::replace_each-loop-i-preserved g t c =
    let l = c.loop-i in
    let xs = c.args.args.now in
    let x = c.index-args-i.result in
    let k1 = c.replace_all.new.evaluator in
    let h = c.in_ok-part.ensures.played in
    record {
      leads = parts_leads xs l.i x l.before c.in_ok-before.before c.in_ok-part.part (omega arith) c.index-args-i.is c.in_ok-before.ensures (map plain_rule c.args.rules.now) _ _ _ _ h.0 l.invariant.leads;
      sound = h.0.sound l.invariant.sound;
      rules = rules_later h.0 _ l.invariant.rules;
      args = all_later h.0 _ l.invariant.args;
      before = each_honest xs l.i x l.before c.in_ok-before.before c.in_ok-part.part (omega arith) c.index-args-i.is c.in_ok-before.ensures k1 (each_later h.0 _ l.invariant.before) h.1;
      falls = omega (arith, c.in_ok-part.ensures.falls, l.invariant.falls);
      ticks = cc;
    }

pub replace_rows::replace_each-returns-clause-played : goal.replace_rows::replace_each-returns-clause-played
replace_rows::replace_each-returns-clause-played g t c =
    let l = c.loop-i in
    let xs = c.args.args.now in
    let rs = map plain_rule c.args.rules.now in
    let us = option_map trees (each_of (take l.i xs) l.before) in
    let w = take_whole xs l.i (omega arith) in (
      subst (λ z. Plays (replacing_each (Some []) rs (trees xs)) c.args.evaluator.now (Ok (option_map trees (each_of z l.before))) l.evaluator false) w (elements_over (replacing_each us rs) us xs l.i _ _ _ (parts_over us rs) (omega arith) l.invariant.leads),
      subst (λ z. AllHonestMaybe l.evaluator (each_of z l.before)) w l.invariant.before,
    )

pub replace_rows::replace_repeated-returns-in_err-take_step-clause-played : goal.replace_rows::replace_repeated-returns-in_err-take_step-clause-played
replace_rows::replace_repeated-returns-in_err-take_step-clause-played g t c n l =
    let s = c.loop-subject in
    step_stops seen_result n (map plain_rule c.args.rules.now) (plain c.args.first.now) _ (plain s.subject) _ _ _ _ (s.invariant.passing n l) c.from_residual-in_err-take_step.ensures.1 c.in_err-take_step.ensures.played

pub replace_rows::replace_repeated-returns-in_err-replaced-clause-played : goal.replace_rows::replace_repeated-returns-in_err-replaced-clause-played
replace_rows::replace_repeated-returns-in_err-replaced-clause-played g t c n l =
    let s = c.loop-subject in
    let rs = map plain_rule c.args.rules.now in
    let first = plain c.args.first.now in
    let u = plain s.subject in
    let pass = pass_steps n rs first c.args.evaluator.now u s.evaluator c.take_step.new.self (s.invariant.passing n l) c.in_ok-take_step.ensures.played.0 in
    again_stops seen_result n rs first _ s.subject _ _ _ _ _ pass c.from_residual-in_err-replaced.ensures.1 c.in_err-replaced.ensures.played

pub replace_rows::replace_repeated-returns-in_err-value-clause-played : goal.replace_rows::replace_repeated-returns-in_err-value-clause-played
replace_rows::replace_repeated-returns-in_err-value-clause-played g t c n l =
    let s = c.loop-subject in
    let rs = map plain_rule c.args.rules.now in
    let first = plain c.args.first.now in
    let u = plain s.subject in
    let pass = pass_steps n rs first c.args.evaluator.now u s.evaluator c.take_step.new.self (s.invariant.passing n l) c.in_ok-take_step.ensures.played.0 in
    let came = became rs u c.take_step.new.self c.replace_all.new.evaluator _ c.in_ok-replaced.ensures.played.0 in
    let makes = c.made.ensures.value came.it came.gives in
    let on = leads_in _ _ _ _ _ _ _ came.it pass.leads refl came.plays in
    leads_out value seen_result _ _ _ _ _ _ _ _ _ on refl c.from_residual-in_err-value.ensures.1 (c.in_err-value.ensures.played came.it makes)

pub replace_rows::replace_repeated-returns-then-same-clause-played : goal.replace_rows::replace_repeated-returns-then-same-clause-played
replace_rows::replace_repeated-returns-then-same-clause-played g t c n l =
    let s = c.loop-subject in
    let rs = map plain_rule c.args.rules.now in
    let first = plain c.args.first.now in
    let u = plain s.subject in
    let pass = pass_steps n rs first c.args.evaluator.now u s.evaluator c.take_step.new.self (s.invariant.passing n l) c.in_ok-take_step.ensures.played.0 in
    let came = became rs u c.take_step.new.self c.replace_all.new.evaluator _ c.in_ok-replaced.ensures.played.0 in
    let makes = c.made.ensures.value came.it came.gives in
    let on = leads_in _ _ _ _ _ _ _ came.it pass.leads refl came.plays in
    let v = c.in_ok-value.ensures.played came.it makes in (
      pass_ends _ pass.left rs u (plain c.in_ok-value.value) _ _ c.same.result c.same.ensures c.if-same.true (leads_in _ _ _ _ _ _ _ _ on refl v.0),
      later v.0 _ (later c.in_ok-replaced.ensures.played.0 _ (later c.in_ok-take_step.ensures.played.0 _ s.invariant.honest)),
    )

pub replace_rows::replace_repeated-loop-subject-preserved : goal.replace_rows::replace_repeated-loop-subject-preserved
replace_rows::replace_repeated-loop-subject-preserved g t c =
    let s = c.loop-subject in
    let rs = map plain_rule c.args.rules.now in
    let first = plain c.args.first.now in
    let u = plain s.subject in
    let step = c.in_ok-take_step.ensures.played.0 in
    let parts = c.in_ok-replaced.ensures.played.0 in
    let came = became rs u c.take_step.new.self c.replace_all.new.evaluator _ parts in
    let makes = c.made.ensures.value came.it came.gives in
    let v = c.in_ok-value.ensures.played came.it makes in
    record {
      passing = λ n l.
          let pass = pass_steps n rs first c.args.evaluator.now u s.evaluator c.take_step.new.self (s.invariant.passing n l) step in
          let on = leads_in _ _ _ _ _ _ _ came.it pass.leads refl came.plays in
          record {
            left = pass.left;
            enough = omega (arith, pass.enough, c.in_ok-take_step.ensures.less, c.in_ok-replaced.ensures.falls, c.in_ok-value.ensures.falls);
            leads = again_goes _ pass.left rs u (plain c.in_ok-value.value) _ _ c.same.result c.same.ensures c.if-same.false (leads_in _ _ _ _ _ _ _ _ on refl v.0);
          };
      sound = v.0.sound (parts.sound (step.sound s.invariant.sound));
      rules = rules_later v.0 _ (rules_later parts _ (rules_later step _ s.invariant.rules));
      honest = v.1.0;
      falls = omega (arith, s.invariant.falls, c.in_ok-take_step.ensures.falls, c.in_ok-replaced.ensures.falls, c.in_ok-value.ensures.falls);
      ticks = cc;
    }

pub replace_rows::replace_repeated-loop-subject-init : goal.replace_rows::replace_repeated-loop-subject-init
replace_rows::replace_repeated-loop-subject-init g t c =
    let rs = map plain_rule c.args.rules.now in
    let first = c.args.first.now in
    let k = c.args.evaluator.now in
    record {
      passing = λ n l. subst (λ z. Passing n rs (plain first) k (plain z) k) (sym c.in_ok-subject.ensures) (passing_begins n rs (plain first) k l);
      sound = c.requires.sound;
      rules = c.requires.rules;
      honest = subst (Honest k) (sym c.in_ok-subject.ensures) c.requires.honest;
      falls = le_refl _;
      ticks = refl;
    }

pub replace_rows::replace_repeated-replace_all-requires : goal.replace_rows::replace_repeated-replace_all-requires
replace_rows::replace_repeated-replace_all-requires g t c κs within =
    let s = c.loop-subject in
    let h = c.in_ok-take_step.ensures.played.0 in
    let d = c.depth-depth.ensures.fits.shallow in
    (omega (arith, d, s.invariant.falls, c.in_ok-take_step.ensures.falls), (within, (h.sound s.invariant.sound, (rules_later h _ s.invariant.rules, later h _ s.invariant.honest))))

pub replace_rows::replace_all_row-replace_all-requires : goal.replace_rows::replace_all_row-replace_all-requires
replace_rows::replace_all_row-replace_all-requires g t c κs within =
    let k = c.args.evaluator.now in
    let h = pair_honest k c.args.args.now c.in-Some.e.now c.in-Some.r.now c.in-Some.ensures c.requires.args in
    let rs = read_honest k c.in-Some.r.now c.in_ok-rules.field-0 c.in-Some-2.rules c.in_ok-rules.ensures.passed c.in-Some-2.is h.1 in
    (omega (arith, c.depth-depth.ensures.fits.shallow), (within, (c.requires.sound, (subst (AllHonestRules k) (sym c.as_slice.ensures.value) rs, h.0))))

pub replace_rows::replace_all_row-returns-clause-played : goal.replace_rows::replace_all_row-returns-clause-played
replace_rows::replace_all_row-returns-clause-played g t c =
    let e = c.in-Some.e.now in
    let r = c.in-Some.r.now in
    let rs = map plain_rule c.in-Some-2.rules.items in
    let is = read_is c.in_ok-rules.field-0 c.in-Some-2.rules _ c.in-Some-2.is c.in_ok-rules.ensures.rules in
    let same = ap (map plain_rule) c.as_slice.ensures.value in
    let h = subst (λ zs. Plays (replacing zs (plain e)) c.args.evaluator.now (Ok (option_map plain (part_of e c.in_ok-replaced.replaced))) c.replace_all.new.evaluator false) same c.in_ok-replaced.ensures.played.0 in
    let came = became rs (plain e) _ _ _ h in
    pair_row found_tree match_rows.replace_all_row c.args.args.now e r _ _ _ c.in-Some.ensures
    (row_at _ _ _ _ _ (replace_all_is (plain e) (plain r) (Some rs) is) (row_made _ came.it _ _ _ _ (plays_bind _ _ came.plays plays_done) (c.given.ensures.played came.it (c.made.ensures.value came.it came.gives))))

pub replace_rows::replace_all_row-returns-in_default-clause-played : goal.replace_rows::replace_all_row-returns-in_default-clause-played
replace_rows::replace_all_row-returns-in_default-clause-played g t c = pair_stays match_rows.replace_all_row c.args.args.now c.args.evaluator.now c.in_default.ensures refl (λ x. refl) (λ x y z ts. refl)

pub replace_rows::replace_all_row-returns-in_err-replaced-clause-played : goal.replace_rows::replace_all_row-returns-in_err-replaced-clause-played
replace_rows::replace_all_row-returns-in_err-replaced-clause-played g t c =
    let e = c.in-Some.e.now in
    let r = c.in-Some.r.now in
    let rs = map plain_rule c.in-Some-2.rules.items in
    let is = read_is c.in_ok-rules.field-0 c.in-Some-2.rules _ c.in-Some-2.is c.in_ok-rules.ensures.rules in
    let same = ap (map plain_rule) c.as_slice.ensures.value in
    let h = subst (λ zs. Played (seen_replaced e) (replacing zs (plain e)) c.args.evaluator.now (Err c.in_err-replaced.field-0.0) c.replace_all.new.evaluator) same c.in_err-replaced.ensures.played in
    pair_row found_tree match_rows.replace_all_row c.args.args.now e r _ _ _ c.in-Some.ensures
    (row_at _ _ _ _ _ (replace_all_is (plain e) (plain r) (Some rs) is) (exit found_tree found_tree _ _ _ _ _ _ c.from_residual-in_err-replaced.ensures.1 (replacing_stops (seen_replaced e) found_tree rs (plain e) _ _ _ _ h)))

pub replace_rows::replace_all_row-returns-in_default-2-clause-played : goal.replace_rows::replace_all_row-returns-in_default-2-clause-played
replace_rows::replace_all_row-returns-in_default-2-clause-played g t c =
    replace_all_stays c.args.args.now c.in-Some.e.now c.in-Some.r.now c.args.evaluator.now c.in-Some.ensures (no_rules_read c.in_ok-rules.field-0 _ c.in_default-2.not-Some c.in_ok-rules.ensures.rules)

pub replace_rows::replace_repeated_row-replace_repeated-requires : goal.replace_rows::replace_repeated_row-replace_repeated-requires
replace_rows::replace_repeated_row-replace_repeated-requires g t c κs within =
    let k = c.args.evaluator.now in
    let h = pair_honest k c.args.args.now c.in-Some.e.now c.in-Some.r.now c.in-Some.ensures c.requires.args in
    let rs = read_honest k c.in-Some.r.now c.in_ok-rules.field-0 c.in-Some-2.rules c.in_ok-rules.ensures.passed c.in-Some-2.is h.1 in
    (search rules, (within, (c.requires.sound, (subst (AllHonestRules k) (sym c.as_slice.ensures.value) rs, h.0))))

pub replace_rows::replace_repeated_row-returns-in_err-last-clause-played : goal.replace_rows::replace_repeated_row-returns-in_err-last-clause-played
replace_rows::replace_repeated_row-returns-in_err-last-clause-played g t c =
    let e = c.in-Some.e.now in
    let r = c.in-Some.r.now in
    let rs = map plain_rule c.in-Some-2.rules.items in
    let is = read_is c.in_ok-rules.field-0 c.in-Some-2.rules _ c.in-Some-2.is c.in_ok-rules.ensures.rules in
    let same = ap (map plain_rule) c.as_slice.ensures.value in
    let h = subst (λ zs. Played seen_result (match_rows.replace_repeated (2 ^ 64) zs (plain e)) c.args.evaluator.now (Err c.in_err-last.field-0.0) c.replace_repeated.new.evaluator) same (c.in_err-last.ensures.played (2 ^ 64) (omega arith)) in
    pair_row found_tree match_rows.replace_repeated_row c.args.args.now e r _ _ _ c.in-Some.ensures
    (row_at _ _ _ _ _ (replace_repeated_is (plain e) (plain r) (Some rs) is) (exit seen_result found_tree _ _ _ _ _ _ c.from_residual-in_err-last.ensures.1 h))

pub replace_rows::replace_repeated_row-returns-in_default-clause-played : goal.replace_rows::replace_repeated_row-returns-in_default-clause-played
replace_rows::replace_repeated_row-returns-in_default-clause-played g t c = pair_stays match_rows.replace_repeated_row c.args.args.now c.args.evaluator.now c.in_default.ensures refl (λ x. refl) (λ x y z ts. refl)

pub replace_rows::replace_repeated_row-returns-clause-played : goal.replace_rows::replace_repeated_row-returns-clause-played
replace_rows::replace_repeated_row-returns-clause-played g t c =
    let e = c.in-Some.e.now in
    let r = c.in-Some.r.now in
    let rs = map plain_rule c.in-Some-2.rules.items in
    let is = read_is c.in_ok-rules.field-0 c.in-Some-2.rules _ c.in-Some-2.is c.in_ok-rules.ensures.rules in
    let same = ap (map plain_rule) c.as_slice.ensures.value in
    let x = c.in_ok-last.last in
    let h = subst (λ zs. Played seen_result (match_rows.replace_repeated (2 ^ 64) zs (plain e)) c.args.evaluator.now (Ok x) c.replace_repeated.new.evaluator) same (c.in_ok-last.ensures.played (2 ^ 64) (omega arith)) in
    repeated_gives c.args.args.now e r rs c.args.evaluator.now c.replace_repeated.new.evaluator c.in-Some.ensures is x h ((fits_decides (plain x)).1 c.weight-weight.ensures.fits)

pub replace_rows::replace_repeated_row-returns-in_default-2-clause-played : goal.replace_rows::replace_repeated_row-returns-in_default-2-clause-played
replace_rows::replace_repeated_row-returns-in_default-2-clause-played g t c =
    replace_repeated_stays c.args.args.now c.in-Some.e.now c.in-Some.r.now c.args.evaluator.now c.in-Some.ensures (no_rules_read c.in_ok-rules.field-0 _ c.in_default-2.not-Some c.in_ok-rules.ensures.rules)

pub replace_rows::replace_row-first_result-requires : goal.replace_rows::replace_row-first_result-requires
replace_rows::replace_row-first_result-requires g t c κs within =
    let k = c.args.evaluator.now in
    let h = pair_honest k c.args.args.now c.in-Some.e.now c.in-Some.r.now c.in-Some.ensures c.requires.args in
    let rs = read_honest k c.in-Some.r.now c.in_ok-rules.field-0 c.in-Some-2.rules c.in_ok-rules.ensures.passed c.in-Some-2.is h.1 in
    (search rules, (within, (c.requires.sound, (subst (AllHonestRules k) (sym c.as_slice.ensures.value) rs, h.0))))

pub replace_rows::replace_row-returns-in_default-found-clause-played : goal.replace_rows::replace_row-returns-in_default-found-clause-played
replace_rows::replace_row-returns-in_default-found-clause-played g t c =
    let e = c.in-Some.e.now in
    let r = c.in-Some.r.now in
    let rs = map plain_rule c.in-Some-2.rules.items in
    let is = read_is c.in_ok-rules.field-0 c.in-Some-2.rules _ c.in-Some-2.is c.in_ok-rules.ensures.rules in
    let same = ap (map plain_rule) c.as_slice.ensures.value in
    let h = subst (λ zs. Played found_tree (matching.trial zs (plain e)) c.args.evaluator.now (Ok c.in_ok-found.found) c.first_result.new.evaluator) same c.in_ok-found.ensures.played in
    let none = trial_none rs (plain e) _ _ c.in_ok-found.found h c.in_default-found.not-Some in
    let honest = later none _ (pair_honest c.args.evaluator.now c.args.args.now e r c.in-Some.ensures c.requires.args).0 in
    subst (λ z. Played found_tree (sized_row (match_rows.replace_row (trees c.args.args.now))) c.args.evaluator.now (Ok (Some z)) c.first_result.new.evaluator) (sym c.in_ok-copy.ensures)
    (not_replaced c.args.args.now e r rs c.args.evaluator.now c.first_result.new.evaluator c.in-Some.ensures is none ((fits_decides (plain e)).1 c.weight-weight.ensures.fits) honest)

pub replace_rows::replace_row-returns-in_default-clause-played : goal.replace_rows::replace_row-returns-in_default-clause-played
replace_rows::replace_row-returns-in_default-clause-played g t c = pair_stays match_rows.replace_row c.args.args.now c.args.evaluator.now c.in_default.ensures refl (λ x. refl) (λ x y z ts. refl)

pub replace_rows::replace_row-returns-in_err-found-clause-played : goal.replace_rows::replace_row-returns-in_err-found-clause-played
replace_rows::replace_row-returns-in_err-found-clause-played g t c =
    let e = c.in-Some.e.now in
    let r = c.in-Some.r.now in
    let rs = map plain_rule c.in-Some-2.rules.items in
    let is = read_is c.in_ok-rules.field-0 c.in-Some-2.rules _ c.in-Some-2.is c.in_ok-rules.ensures.rules in
    let same = ap (map plain_rule) c.as_slice.ensures.value in
    let h = subst (λ zs. Played found_tree (matching.trial zs (plain e)) c.args.evaluator.now (Err c.in_err-found.field-0.0) c.first_result.new.evaluator) same c.in_err-found.ensures.played in
    pair_row found_tree match_rows.replace_row c.args.args.now e r _ _ _ c.in-Some.ensures
    (row_at _ _ _ _ _ (replace_is (plain e) (plain r) (Some rs) is) (row_exit found_tree _ _ _ _ _ _ c.from_residual-in_err-found.ensures.1 h))

pub replace_rows::replace_row-returns-clause-played : goal.replace_rows::replace_row-returns-clause-played
replace_rows::replace_row-returns-clause-played g t c =
    let e = c.in-Some.e.now in
    let r = c.in-Some.r.now in
    let rs = map plain_rule c.in-Some-2.rules.items in
    let is = read_is c.in_ok-rules.field-0 c.in-Some-2.rules _ c.in-Some-2.is c.in_ok-rules.ensures.rules in
    let x = c.in-Some-found.result in
    let same = ap (map plain_rule) c.as_slice.ensures.value in
    let h = subst (λ zs. Played found_tree (matching.trial zs (plain e)) c.args.evaluator.now (Ok c.in_ok-found.found) c.first_result.new.evaluator) same c.in_ok-found.ensures.played in
    let w = subst (λ o. Played found_tree (matching.trial rs (plain e)) c.args.evaluator.now (Ok o) c.first_result.new.evaluator) c.in-Some-found.is h in
    replaced_with c.args.args.now e r rs c.args.evaluator.now c.first_result.new.evaluator c.in-Some.ensures is x w ((fits_decides (plain x)).1 c.weight-weight-2.ensures.fits)

pub replace_rows::replace_row-returns-in_default-2-clause-played : goal.replace_rows::replace_row-returns-in_default-2-clause-played
replace_rows::replace_row-returns-in_default-2-clause-played g t c =
    replace_stays c.args.args.now c.in-Some.e.now c.in-Some.r.now c.args.evaluator.now c.in-Some.ensures (no_rules_read c.in_ok-rules.field-0 _ c.in_default-2.not-Some c.in_ok-rules.ensures.rules)

pub control_rows::control_row-drive-requires : goal.control_rows::control_row-drive-requires
control_rows::control_row-drive-requires g t c κs within =
    (search rules, (within, (c.requires.1.1.1.0, (tt, (c.requires.1.1.1.1.1.0, (record { parts = c.args.args.now; honest = c.requires.1.1.1.1.0; from = λ ms w. (c.requires.1.1.1.1.1.1.0 ms w, tt) }, c.requires.1.1.1.1.1.1.1))))))

pub control_rows::control_row-returns-in_default-clause-played : goal.control_rows::control_row-returns-in_default-clause-played
control_rows::control_row-returns-in_default-clause-played g t c row e =
    let es = trees c.args.args.now in
    let n = ap option_copied (none_is _ c.in_default.not-Some) in
    subst (λ z. Played found_tree (sized_row (iterated z (row es))) c.args.evaluator.now c.drive.result c.drive.new.evaluator) (sym n ∙ c.iterator_name.ensures.value) (c.drive.ensures.played (row es) e)

pub control_rows::control_row-returns-then-is_protected-clause-played : goal.control_rows::control_row-returns-then-is_protected-clause-played
control_rows::control_row-returns-then-is_protected-clause-played g t c row e =
    let es = trees c.args.args.now in
    let n = sym (ap option_copied c.in-Some.is) ∙ c.iterator_name.ensures.value in
    subst (λ z. Played found_tree (sized_row (iterated z (row es))) c.args.evaluator.now (Ok None) c.is_protected.new.self) n
    (protected_row c.in-Some.iterator.now (row es) _ _ c.in_ok-is_protected.is_protected c.in_ok-is_protected.ensures.played c.if-is_protected.true)

pub control_rows::control_row-drive-requires-2 : goal.control_rows::control_row-drive-requires-2
control_rows::control_row-drive-requires-2 g t c κs within =
    let h = c.in_ok-is_protected.ensures.played in
    (search rules, (within, (h.sound c.requires.1.1.1.0, (subst (λ (o : Option (Bor (List ℕ))). IfSome o (λ z. IsName z.now)) c.in-Some.is c.iterator_name.ensures.named, (c.requires.1.1.1.1.1.0, (record { parts = c.args.args.now; honest = all_later h _ c.requires.1.1.1.1.0; from = λ ms w. (c.requires.1.1.1.1.1.1.0 ms w, tt) }, c.requires.1.1.1.1.1.1.1))))))

pub control_rows::control_row-returns-clause-played : goal.control_rows::control_row-returns-clause-played
control_rows::control_row-returns-clause-played g t c row e =
    let es = trees c.args.args.now in
    let n = sym (ap option_copied c.in-Some.is) ∙ c.iterator_name.ensures.value in
    subst (λ z. Played found_tree (sized_row (iterated z (row es))) c.args.evaluator.now c.drive-2.result c.drive-2.new.evaluator) n
    (unprotected_row c.in-Some.iterator.now (row es) _ _ c.in_ok-is_protected.is_protected c.in_ok-is_protected.ensures.played _ _ c.if-is_protected.false (c.drive-2.ensures.played (row es) e))

pub control_rows::drive-answer-answer-requires : goal.control_rows::drive-answer-answer-requires
control_rows::drive-answer-answer-requires g t c κs within = (search rules, (within, (c.requires.sound, (c.requires.name, (refl, (c.requires.awaits, (c.requires.held, c.requires.bounded)))))))

pub control_rows::drive-give_back_iterator-requires : goal.control_rows::drive-give_back_iterator-requires
control_rows::drive-give_back_iterator-requires g t c =
    let n = sym c.stops_by_memory.ensures ∙ c.if-stops_by_memory.false in
    let r = c.answer-answer.ensures.ready n in
    record { sound = r.sound; taken = r.taken }

pub control_rows::drive-returns-clause-played : goal.control_rows::drive-returns-clause-played
control_rows::drive-returns-clause-played g t c row e = c.answer-answer.ensures.played row e c.give_back_iterator.new.self c.give_back_iterator.ensures.played

-- ---- from question to question

pub control_rows::answer-questions-init : goal.control_rows::answer-questions-init
control_rows::answer-questions-init g t c =
    let x = option_copied c.args.name in
    record {
      leads = λ row e. row_begins x row (stand c.args.first) c.args.taken.now c.args.evaluator.now c.requires.taken e;
      awaited = c.requires.awaits;
      ready = ready_same x c.args.taken.now c.args.evaluator.now c.requires.sound (none_taken c.args.evaluator.now x c.args.taken.now c.requires.taken);
      holds = c.requires.held;
      proceeds = proceeds_first c.args.evaluator.now.steps (after (stand c.args.first) start) c.requires.bounded;
      falls = le_refl _;
      ticks = refl;
    }

pub control_rows::answer-asked-requires : goal.control_rows::answer-asked-requires
control_rows::answer-asked-requires g t c = c.questions.invariant.awaited

pub control_rows::answer-returns-in_err-ask-clause-played : goal.control_rows::answer-returns-in_err-ask-clause-played
control_rows::answer-returns-in_err-ask-clause-played g t c row e =
    let x = option_copied c.args.name in
    let q = c.questions in
    finishes_exit x row c.args.evaluator.now c.asked.new.self q.taken c.from_residual.result _ c.from_residual.ensures.1
    (refused_finishes x row c.args.evaluator.now q.taken (after (stand q.cursor) (told_by q.reply)) q.evaluator c.asked.new.self _ q.invariant.ready.sound (q.invariant.leads row e) (c.in_err-ask.ensures.refused _ refl))

pub control_rows::answer-returns-in_err-ask-clause-ready : goal.control_rows::answer-returns-in_err-ask-clause-ready
control_rows::answer-returns-in_err-ask-clause-ready g t c =
    let x = option_copied c.args.name in
    let q = c.questions in
    ready_exit c.from_residual.result _ c.from_residual.ensures.1
    (λ n. ready_then x q.taken q.taken c.args.evaluator.now q.evaluator c.asked.new.self q.invariant.ready (ready_large x q.taken q.evaluator c.asked.new.self q.invariant.ready.sound q.invariant.ready.taken (after (stand q.cursor) (told_by q.reply)) _ (c.in_err-ask.ensures.refused _ refl) n))

pub control_rows::answer-respond-requires : goal.control_rows::answer-respond-requires
control_rows::answer-respond-requires g t c κs within =
    let q = c.questions in
    let r = subst (λ z. Ready (option_copied c.args.name) c.args.evaluator.now z q.taken) (sym c.in_ok-ask.ensures.same) q.invariant.ready in
    let h = subst (λ z. HonestAsk z c.in_ok-ask.ask) (sym c.in_ok-ask.ensures.same) (asked_honest q.evaluator q.cursor c.asked.new.cursor q.reply c.in_ok-ask.ask q.invariant.holds c.in_ok-ask.ensures.passed) in
    (search rules, (within, (r.sound, (c.requires.name, (r.taken, h)))))

pub control_rows::answer-returns-in_err-outcome-clause-played : goal.control_rows::answer-returns-in_err-outcome-clause-played
control_rows::answer-returns-in_err-outcome-clause-played g t c row e =
    let x = option_copied c.args.name in
    let q = c.questions in
    let k0 = c.args.evaluator.now in
    let a = after (stand q.cursor) (told_by q.reply) in
    let s = stand c.asked.new.cursor in
    let led = subst (λ z. Leads (played x None row) k0 (played x (set_aside x q.taken) a) z) (sym c.in_ok-ask.ensures.same) (q.invariant.leads row e) in
    finishes_exit x row k0 c.respond.new.evaluator c.respond.new.taken c.from_residual-in_err-outcome.result _ c.from_residual-in_err-outcome.ensures.1
    (c.in_err-outcome.ensures.played row k0 a s led c.in_ok-ask.ensures.posed c.catches-catches.ensures)

pub control_rows::answer-returns-in_err-outcome-clause-ready : goal.control_rows::answer-returns-in_err-outcome-clause-ready
control_rows::answer-returns-in_err-outcome-clause-ready g t c =
    let x = option_copied c.args.name in
    let q = c.questions in
    let k0 = c.args.evaluator.now in
    let r = subst (λ z. Ready x k0 z q.taken) (sym c.in_ok-ask.ensures.same) q.invariant.ready in
    ready_exit c.from_residual-in_err-outcome.result _ c.from_residual-in_err-outcome.ensures.1 (λ n. ready_then x q.taken c.respond.new.taken k0 c.asked.new.self c.respond.new.evaluator r (c.in_err-outcome.ensures.ready n))

pub control_rows::answer-questions-preserved : goal.control_rows::answer-questions-preserved
control_rows::answer-questions-preserved g t c =
    let x = option_copied c.args.name in
    let q = c.questions in
    let k0 = c.args.evaluator.now in
    let k1 = c.asked.new.self in
    let k2 = c.respond.new.evaluator in
    let same = c.in_ok-ask.ensures.same in
    let a = after (stand q.cursor) (told_by q.reply) in
    let s = stand c.asked.new.cursor in
    let o = c.in_ok-outcome.ensures in
    let led = λ (row : Row) (e : stand c.args.first ≡ starts row). subst (λ z. Leads (played x None row) k0 (played x (set_aside x q.taken) a) z) (sym same) (q.invariant.leads row e) in
    let goes = λ (row : Row) (e : stand c.args.first ≡ starts row). subst (λ z. Comes x row k0 s (Ok z) k2 c.respond.new.taken) c.in-Goes.is (o.played row k0 a s (led row e) c.in_ok-ask.ensures.posed c.catches-catches.ensures) in
    let first = starts_row (stand c.args.first) c.requires.awaits in
    let one = goes first.0 first.1 in
    let there = o.ready refl in
    let r1 = subst (λ z. Ready x k0 z q.taken) (sym same) q.invariant.ready in
    record {
      leads = λ row e. (goes row e).leads;
      awaited = one.awaited;
      ready = ready_then x q.taken c.respond.new.taken k0 k1 k2 r1 there;
      holds = holds_next q.evaluator k2 q.cursor c.asked.new.cursor q.reply c.in-Goes.next c.in_ok-ask.ask q.invariant.holds c.in_ok-ask.ensures.passed (subst (λ (z : Evaluator). Grows z.store k2.store) same there.grows) one.honest;
      proceeds = proceeds_on q._answered k0.steps q.evaluator.steps k2.steps (omega arith) a (plain_ask c.in_ok-ask.ask) s (told_by c.in-Goes.next) c.in_ok-ask.ensures.posed one.awaited (λ z. let l = o.less z in omega (arith, l)) q.invariant.proceeds;
      falls = omega arith;
      ticks = cc;
    }

pub control_rows::answer-returns-in-Ends-clause-played : goal.control_rows::answer-returns-in-Ends-clause-played
control_rows::answer-returns-in-Ends-clause-played g t c row e =
    let x = option_copied c.args.name in
    let q = c.questions in
    let k0 = c.args.evaluator.now in
    let a = after (stand q.cursor) (told_by q.reply) in
    let s = stand c.asked.new.cursor in
    let led = subst (λ z. Leads (played x None row) k0 (played x (set_aside x q.taken) a) z) (sym c.in_ok-ask.ensures.same) (q.invariant.leads row e) in
    subst (λ z. Comes x row k0 s (Ok z) c.respond.new.evaluator c.respond.new.taken) c.in-Ends.is (c.in_ok-outcome.ensures.played row k0 a s led c.in_ok-ask.ensures.posed c.catches-catches.ensures)

pub control_rows::answer-returns-in-Ends-clause-ready : goal.control_rows::answer-returns-in-Ends-clause-ready
control_rows::answer-returns-in-Ends-clause-ready g t c n =
    let x = option_copied c.args.name in
    let q = c.questions in
    let k0 = c.args.evaluator.now in
    let r = subst (λ z. Ready x k0 z q.taken) (sym c.in_ok-ask.ensures.same) q.invariant.ready in
    ready_then x q.taken c.respond.new.taken k0 c.asked.new.self c.respond.new.evaluator r (c.in_ok-outcome.ensures.ready refl)

pub control_rows::answer-unreachable-requires : goal.control_rows::answer-unreachable-requires
control_rows::answer-unreachable-requires g t c =
    let l = proceeds_ends c.questions._answered c.args.evaluator.now.steps c.questions.evaluator.steps _ (omega arith) c.questions.invariant.proceeds in
    omega (arith, l, c.questions-test.false)

-- ---- a question

pub control_rows::caught_end-evaluate-requires : goal.control_rows::caught_end-evaluate-requires
control_rows::caught_end-evaluate-requires g t c κs within = (search rules, (within, (c.requires.sound, c.requires.honest)))

pub control_rows::caught_end-returns-clause-played : goal.control_rows::caught_end-returns-clause-played
control_rows::caught_end-returns-clause-played g t c =
    let f = (fits_decides (plain c.args.e)).1 c.weight-weight.ensures.fits in
    caught_played (plain c.args.e) c.args.evaluator.now c.evaluate.new.evaluator c.in_ok-end.end c.caught.result f c.in_ok-end.ensures.played c.caught.ensures

pub control_rows::respond-caught_end-requires : goal.control_rows::respond-caught_end-requires
control_rows::respond-caught_end-requires g t c κs within = (search rules, (within, (c.requires.sound, subst (HonestAsk c.args.evaluator.now) c.in-Eval.is c.requires.honest)))

pub control_rows::respond-returns-in_err-reply-in-Eval-clause-played : goal.control_rows::respond-returns-in_err-reply-in-Eval-clause-played
control_rows::respond-returns-in_err-reply-in-Eval-clause-played g t c row k a s l p w =
    let x = option_copied c.args.name in
    let u = c.args.taken.now in
    comes_exit x row k c.caught_end.new.evaluator s u c.from_residual.result _ c.from_residual.ensures.1
    (caught_stops x row k u a c.args.evaluator.now l (plain c.in-Eval.e) _ (p.question ∙ ap (λ z. Some (plain_ask z)) c.in-Eval.is) (catches_behind a _ s c.args.catches p w c.if-catches.true) c.in_err-reply-in-Eval.ensures.played)

pub control_rows::respond-returns-in_err-reply-in-Eval-clause-ready : goal.control_rows::respond-returns-in_err-reply-in-Eval-clause-ready
control_rows::respond-returns-in_err-reply-in-Eval-clause-ready g t c =
    ready_exit c.from_residual.result _ c.from_residual.ensures.1
    (ready_stop (option_copied c.args.name) c.args.taken.now c.args.evaluator.now c.caught_end.new.evaluator c.requires.sound c.requires.taken caught_reply _ _ c.in_err-reply-in-Eval.ensures.played)

pub control_rows::respond-returns-then-catches-clause-played : goal.control_rows::respond-returns-then-catches-clause-played
control_rows::respond-returns-then-catches-clause-played g t c row k a s l p w =
    let x = option_copied c.args.name in
    let u = c.args.taken.now in
    let r = c.in_ok-reply-in-Eval.reply in
    comes_at x row k a _ s (Ok (outcome.Goes r)) c.caught_end.new.evaluator u p
    (caught_goes x row k u a c.args.evaluator.now l (plain c.in-Eval.e) r (p.question ∙ ap (λ z. Some (plain_ask z)) c.in-Eval.is) (catches_behind a _ s c.args.catches p w c.if-catches.true) c.in_ok-reply-in-Eval.ensures.played)

pub control_rows::respond-returns-then-catches-clause-ready : goal.control_rows::respond-returns-then-catches-clause-ready
control_rows::respond-returns-then-catches-clause-ready g t c n = ready_at (option_copied c.args.name) c.args.taken.now c.args.evaluator.now c.caught_end.new.evaluator c.requires.sound c.requires.taken c.in_ok-reply-in-Eval.ensures.played.0

pub control_rows::respond-value_of_built-requires : goal.control_rows::respond-value_of_built-requires
control_rows::respond-value_of_built-requires g t c κs within = (search rules, (within, (c.requires.sound, subst (HonestAsk c.args.evaluator.now) c.in-Eval.is c.requires.honest)))

pub control_rows::respond-returns-in_err-value-in-Eval-clause-played : goal.control_rows::respond-returns-in_err-value-in-Eval-clause-played
control_rows::respond-returns-in_err-value-in-Eval-clause-played g t c row k a s l p w =
    let x = option_copied c.args.name in
    let u = c.args.taken.now in
    let e = c.in-Eval.e in
    comes_exit x row k c.value_of_built.new.evaluator s u c.from_residual-in_err-value-in-Eval.result _ c.from_residual-in_err-value-in-Eval.ensures.1
    (value_stops x row k u a c.args.evaluator.now l (plain e) _ (p.question ∙ ap (λ z. Some (plain_ask z)) c.in-Eval.is) (catches_not a _ s c.args.catches p w c.if-catches.false) (c.in_err-value-in-Eval.ensures.played (plain e) refl))

pub control_rows::respond-returns-in_err-value-in-Eval-clause-ready : goal.control_rows::respond-returns-in_err-value-in-Eval-clause-ready
control_rows::respond-returns-in_err-value-in-Eval-clause-ready g t c =
    ready_exit c.from_residual-in_err-value-in-Eval.result _ c.from_residual-in_err-value-in-Eval.ensures.1
    (ready_stop (option_copied c.args.name) c.args.taken.now c.args.evaluator.now c.value_of_built.new.evaluator c.requires.sound c.requires.taken value _ _ (c.in_err-value-in-Eval.ensures.played (plain c.in-Eval.e) refl))

pub control_rows::respond-returns-in_ok-value-in-Eval-clause-played : goal.control_rows::respond-returns-in_ok-value-in-Eval-clause-played
control_rows::respond-returns-in_ok-value-in-Eval-clause-played g t c row k a s l p w =
    let x = option_copied c.args.name in
    let u = c.args.taken.now in
    let e = c.in-Eval.e in
    let v = c.in_ok-value-in-Eval.value in
    comes_at x row k a _ s (Ok (outcome.Goes (replies.Value v))) c.value_of_built.new.evaluator u p
    (value_goes x row k u a c.args.evaluator.now l (plain e) v (p.question ∙ ap (λ z. Some (plain_ask z)) c.in-Eval.is) (catches_not a _ s c.args.catches p w c.if-catches.false) (c.in_ok-value-in-Eval.ensures.played (plain e) refl))

pub control_rows::respond-returns-in_ok-value-in-Eval-clause-ready : goal.control_rows::respond-returns-in_ok-value-in-Eval-clause-ready
control_rows::respond-returns-in_ok-value-in-Eval-clause-ready g t c n = ready_at (option_copied c.args.name) c.args.taken.now c.args.evaluator.now c.value_of_built.new.evaluator c.requires.sound c.requires.taken (c.in_ok-value-in-Eval.ensures.played (plain c.in-Eval.e) refl).0

pub control_rows::respond-matches-requires : goal.control_rows::respond-matches-requires
control_rows::respond-matches-requires g t c κs within = let h = subst (HonestAsk c.args.evaluator.now) c.in-Matches.is c.requires.honest in (search rules, (within, (c.requires.sound, (h.1, h.0))))

pub control_rows::respond-returns-in_err-matched-in-Matches-clause-played : goal.control_rows::respond-returns-in_err-matched-in-Matches-clause-played
control_rows::respond-returns-in_err-matched-in-Matches-clause-played g t c row k a s l p w =
    let x = option_copied c.args.name in
    let u = c.args.taken.now in
    comes_exit x row k c.matches.new.evaluator s u c.from_residual-in_err-matched-in-Matches.result _ c.from_residual-in_err-matched-in-Matches.ensures.1
    (match_stops x row k u a c.args.evaluator.now l (plain c.in-Matches.e) (plain c.in-Matches.pattern) _ (p.question ∙ ap (λ z. Some (plain_ask z)) c.in-Matches.is) (c.in_err-matched-in-Matches.ensures.played (2 ^ 64) (omega arith)))

pub control_rows::respond-returns-in_err-matched-in-Matches-clause-ready : goal.control_rows::respond-returns-in_err-matched-in-Matches-clause-ready
control_rows::respond-returns-in_err-matched-in-Matches-clause-ready g t c =
    ready_exit c.from_residual-in_err-matched-in-Matches.result _ c.from_residual-in_err-matched-in-Matches.ensures.1
    (ready_stop (option_copied c.args.name) c.args.taken.now c.args.evaluator.now c.matches.new.evaluator c.requires.sound c.requires.taken itself _ _ (c.in_err-matched-in-Matches.ensures.played (2 ^ 64) (omega arith)))

pub control_rows::respond-returns-in_ok-matched-in-Matches-clause-played : goal.control_rows::respond-returns-in_ok-matched-in-Matches-clause-played
control_rows::respond-returns-in_ok-matched-in-Matches-clause-played g t c row k a s l p w =
    let x = option_copied c.args.name in
    let u = c.args.taken.now in
    let b = c.in_ok-matched-in-Matches.matched in
    comes_at x row k a _ s (Ok (outcome.Goes (replies.Matched b))) c.matches.new.evaluator u p
    (match_goes x row k u a c.args.evaluator.now l (plain c.in-Matches.e) (plain c.in-Matches.pattern) b (p.question ∙ ap (λ z. Some (plain_ask z)) c.in-Matches.is) (c.in_ok-matched-in-Matches.ensures.played (2 ^ 64) (omega arith)).0)

pub control_rows::respond-returns-in_ok-matched-in-Matches-clause-ready : goal.control_rows::respond-returns-in_ok-matched-in-Matches-clause-ready
control_rows::respond-returns-in_ok-matched-in-Matches-clause-ready g t c n = ready_at (option_copied c.args.name) c.args.taken.now c.args.evaluator.now c.matches.new.evaluator c.requires.sound c.requires.taken (c.in_ok-matched-in-Matches.ensures.played (2 ^ 64) (omega arith)).0

pub control_rows::respond-returns-in_default-clause-played : goal.control_rows::respond-returns-in_default-clause-played
control_rows::respond-returns-in_default-clause-played g t c row k a s l p w =
    let x = option_copied c.args.name in
    let u = c.args.taken.now in
    let k1 = c.args.evaluator.now in
    let n = ap option_copied (none_is _ c.in_default.not-Some) in
    comes_at x row k a _ s (Ok (outcome.Goes replies.Went)) k1 u p
    (let_goes x row k u a k1 l u (plain c.in-Let.value) (p.question ∙ ap (λ z. Some (plain_ask z)) c.in-Let.is) (set_nothing x u (plain c.in-Let.value) k1 n))

pub control_rows::respond-returns-in_default-clause-ready : goal.control_rows::respond-returns-in_default-clause-ready
control_rows::respond-returns-in_default-clause-ready g t c n = ready_same (option_copied c.args.name) c.args.taken.now c.args.evaluator.now c.requires.sound c.requires.taken

pub control_rows::respond-set_iterator-requires : goal.control_rows::respond-set_iterator-requires
control_rows::respond-set_iterator-requires g t c =
    record {
      sound = c.requires.sound;
      name = subst (λ (o : Option (Bor (List ℕ))). IfSome o (λ z. IsName z.now)) c.in-Some.is c.requires.name;
      honest = subst (HonestAsk c.args.evaluator.now) c.in-Let.is c.requires.honest;
      taken = subst (λ z. AreTaken c.args.evaluator.now z c.args.taken.now) (ap option_copied c.in-Some.is) c.requires.taken;
    }

pub control_rows::respond-returns-in_ok-set_iterator-in-Let-clause-played : goal.control_rows::respond-returns-in_ok-set_iterator-in-Let-clause-played
control_rows::respond-returns-in_ok-set_iterator-in-Let-clause-played g t c row k a s l p w =
    let x = option_copied c.args.name in
    let u = c.args.taken.now in
    let n = c.set_iterator.new.taken in
    let k1 = c.args.evaluator.now in
    let k2 = c.set_iterator.new.self in
    let v = plain c.in-Let.value in
    let e = ap option_copied c.in-Some.is in
    comes_at x row k a _ s (Ok (outcome.Goes replies.Went)) k2 n p
    (let_goes x row k u a k1 l n v (p.question ∙ ap (λ z. Some (plain_ask z)) c.in-Let.is) (set_named x c.in-Some.name.now u n v k1 k2 e c.in_ok-set_iterator-in-Let.ensures.played))

pub control_rows::respond-returns-in_ok-set_iterator-in-Let-clause-ready : goal.control_rows::respond-returns-in_ok-set_iterator-in-Let-clause-ready
control_rows::respond-returns-in_ok-set_iterator-in-Let-clause-ready g t c n =
    let x = option_copied c.args.name in
    let e = ap option_copied c.in-Some.is in
    ready_set x c.in-Some.name.now c.set_iterator.new.taken c.args.evaluator.now c.set_iterator.new.self e c.requires.sound c.in_ok-set_iterator-in-Let.ensures.played c.in_ok-set_iterator-in-Let.ensures.taken

pub control_rows::respond-returns-in_err-take_step-in-Pass-clause-played : goal.control_rows::respond-returns-in_err-take_step-in-Pass-clause-played
control_rows::respond-returns-in_err-take_step-in-Pass-clause-played g t c row k a s l p w =
    let x = option_copied c.args.name in
    let u = c.args.taken.now in
    comes_exit x row k c.take_step.new.self s u c.from_residual-in_err-take_step-in-Pass.result _ c.from_residual-in_err-take_step-in-Pass.ensures.1
    (pass_stops x row k u a c.args.evaluator.now l _ (p.question ∙ ap (λ z. Some (plain_ask z)) c.in-Pass.is) c.in_err-take_step-in-Pass.ensures.played)

pub control_rows::respond-returns-in_err-take_step-in-Pass-clause-ready : goal.control_rows::respond-returns-in_err-take_step-in-Pass-clause-ready
control_rows::respond-returns-in_err-take_step-in-Pass-clause-ready g t c =
    ready_exit c.from_residual-in_err-take_step-in-Pass.result _ c.from_residual-in_err-take_step-in-Pass.ensures.1
    (ready_stop (option_copied c.args.name) c.args.taken.now c.args.evaluator.now c.take_step.new.self c.requires.sound c.requires.taken itself _ _ c.in_err-take_step-in-Pass.ensures.played)

pub control_rows::respond-returns-in_ok-take_step-in-Pass-clause-played : goal.control_rows::respond-returns-in_ok-take_step-in-Pass-clause-played
control_rows::respond-returns-in_ok-take_step-in-Pass-clause-played g t c row k a s l p w =
    let x = option_copied c.args.name in
    let u = c.args.taken.now in
    comes_at x row k a _ s (Ok (outcome.Goes replies.Went)) c.take_step.new.self u p
    (pass_goes x row k u a c.args.evaluator.now l (p.question ∙ ap (λ z. Some (plain_ask z)) c.in-Pass.is) c.in_ok-take_step-in-Pass.ensures.played.0)

pub control_rows::respond-returns-in_ok-take_step-in-Pass-clause-ready : goal.control_rows::respond-returns-in_ok-take_step-in-Pass-clause-ready
control_rows::respond-returns-in_ok-take_step-in-Pass-clause-ready g t c n = ready_at (option_copied c.args.name) c.args.taken.now c.args.evaluator.now c.take_step.new.self c.requires.sound c.requires.taken c.in_ok-take_step-in-Pass.ensures.played.0

pub control_rows::respond-returns-in_ok-form-in-Overflow-clause-played : goal.control_rows::respond-returns-in_ok-form-in-Overflow-clause-played
control_rows::respond-returns-in_ok-form-in-Overflow-clause-played g t c row k a s l p w =
    let h = c.in_ok-form-in-Overflow.ensures in
    overflow_ends (option_copied c.args.name) row k c.args.taken.now a c.args.evaluator.now l c.in_ok-form-in-Overflow.form (p.question ∙ ap (λ z. Some (plain_ask z)) c.in-Overflow.is) (subst (λ z. fits z ≡ true) (sym h.form) refl) h.played h.honest

pub control_rows::respond-returns-in_ok-form-in-Overflow-clause-ready : goal.control_rows::respond-returns-in_ok-form-in-Overflow-clause-ready
control_rows::respond-returns-in_ok-form-in-Overflow-clause-ready g t c n = ready_at (option_copied c.args.name) c.args.taken.now c.args.evaluator.now c.overflow.new.self c.requires.sound c.requires.taken c.in_ok-form-in-Overflow.ensures.played

pub control_rows::respond-returns-in-Done-clause-played : goal.control_rows::respond-returns-in-Done-clause-played
control_rows::respond-returns-in-Done-clause-played g t c row k a s l p w =
    result_ends (option_copied c.args.name) row k c.args.taken.now a c.args.evaluator.now l c.in-Done.e (p.question ∙ ap (λ z. Some (plain_ask z)) c.in-Done.is) p.fits (subst (HonestAsk c.args.evaluator.now) c.in-Done.is c.requires.honest)

pub control_rows::respond-returns-in-Unchanged-clause-played : goal.control_rows::respond-returns-in-Unchanged-clause-played
control_rows::respond-returns-in-Unchanged-clause-played g t c row k a s l p w = unchanged_ends (option_copied c.args.name) row k c.args.taken.now a c.args.evaluator.now l (p.question ∙ ap (λ z. Some (plain_ask z)) c.in-Unchanged.is)

-- ---- the row of a name

pub scope_rows::initial-returns-in_default-clause-played : goal.scope_rows::initial-returns-in_default-clause-played
scope_rows::initial-returns-in_default-clause-played g t c =
    let x = c.args.name.now in
    let k = c.args.evaluator.now in
    let e = c.in_ok-copy.ensures in
    (subst (λ z. Plays (scoping.initial (local_in x)) k (Ok (local_in z)) k false) (sym e) (initial_none x k c.in_default.is), subst (local_names.IsLocal k.store) (sym e) c.requires.local)

pub scope_rows::initial-returns-in_err-value-clause-played : goal.scope_rows::initial-returns-in_err-value-clause-played
scope_rows::initial-returns-in_err-value-clause-played g t c =
    let x = c.args.name.now in
    subst (λ z. Played local_names.local z c.args.evaluator.now c.from_residual-in_err-value.result c.value_of.new.evaluator) (sym (initial_some x c.in-Some.value c.in-Some.is)) (exit value local_names.local _ _ _ _ _ _ c.from_residual-in_err-value.ensures.1 c.in_err-value.ensures.played)

pub scope_rows::initial-returns-clause-played : goal.scope_rows::initial-returns-clause-played
scope_rows::initial-returns-clause-played g t c =
    let x = c.args.name.now in
    let k = c.args.evaluator.now in
    let k1 = c.value_of.new.evaluator in
    let v = c.in_ok-value.value in
    let h = c.in_ok-value.ensures.played in
    let e = c.in_ok-copy-2.ensures in
    initial_gives x v c.in_ok-copy-2.field-0 k k1 (plain c.in-Some.value) (initial_some x c.in-Some.value c.in-Some.is) e h.0 (later h.0 x.name c.requires.local.name) h.1.0 c.requires.local.symbol

pub scope_rows::initial-returns-clause-shallow : goal.scope_rows::initial-returns-clause-shallow
scope_rows::initial-returns-clause-shallow g t c e = value_shallow (plain c.in-Some.value) (plain c.in_ok-value.value) c.args.evaluator.now c.value_of.new.evaluator c.in_ok-value.ensures.played.0 e

pub scope_rows::initials-initial-requires : goal.scope_rows::initials-initial-requires
scope_rows::initials-initial-requires g t c κs within =
    let l = c.loop-i in
    (search rules, (within, (l.invariant.sound, local_at _ c.args.names.now l.i c.index-names-i.result c.loop-i-test.true c.index-names-i.is l.invariant.names)))

pub scope_rows::initials-returns-in_err-local-clause-played : goal.scope_rows::initials-returns-in_err-local-clause-played
scope_rows::initials-returns-in_err-local-clause-played g t c =
    let l = c.loop-i in
    let ns = c.args.names.now in
    let x = c.index-names-i.result in
    leads_out local_names.local local_names.local_list _ _ _ _ _ _ _ _ _ l.invariant.leads (initials_is (locals_in l.values.items) (local_in x) (locals_in (drop l.i ns)) (locals_in (drop (l.i + 1) ns)) (locals_at ns l.i x c.loop-i-test.true c.index-names-i.is))
    c.from_residual-in_err-local.ensures.1 c.in_err-local.ensures.played

pub scope_rows::initials-loop-i-preserved : goal.scope_rows::initials-loop-i-preserved
scope_rows::initials-loop-i-preserved g t c =
    let l = c.loop-i in
    let ns = c.args.names.now in
    let x = c.index-names-i.result in
    let y = c.in_ok-local.local in
    let k1 = c.initial.new.evaluator in
    let h = c.in_ok-local.ensures.played in
    let push = c.in_ok-push.ensures.items in
    record {
      leads = subst (λ zs. Leads (scoping.initials [] (locals_in ns)) c.args.evaluator.now (scoping.initials zs (locals_in (drop (l.i + 1) ns))) k1) (sym (locals_push l.values.items y _ push))
          (leads_in _ _ _ _ _ _ _ (local_in y) l.invariant.leads (initials_is (locals_in l.values.items) (local_in x) (locals_in (drop l.i ns)) (locals_in (drop (l.i + 1) ns)) (locals_at ns l.i x c.loop-i-test.true c.index-names-i.is)) h.0);
      sound = h.0.sound l.invariant.sound;
      names = locals_later h.0 ns l.invariant.names;
      values = locals_pushed _ l.values.items y _ push (locals_later h.0 l.values.items l.invariant.values) h.1;
      shallow = λ e. shallow_push l.values.items y _ push (l.invariant.shallow (omega (arith, e, c.in_ok-local.ensures.falls, l.invariant.falls))) (c.in_ok-local.ensures.shallow (omega (arith, e, c.in_ok-local.ensures.falls, l.invariant.falls)));
      falls = omega (arith, c.in_ok-local.ensures.falls, l.invariant.falls);
      ticks = cc;
    }

pub scope_rows::initials-returns-clause-played : goal.scope_rows::initials-returns-clause-played
scope_rows::initials-returns-clause-played g t c =
    let l = c.loop-i in
    (l.invariant.leads _ _ _ (initials_over (locals_in l.values.items) (locals_in (drop l.i c.args.names.now)) l.evaluator (no_locals c.args.names.now l.i (omega arith))), l.invariant.values)

-- ---- Module

pub scope_rows::module_row-returns-in_default-clause-played : goal.scope_rows::module_row-returns-in_default-clause-played
scope_rows::module_row-returns-in_default-clause-played g t c = row_stays _ _ (module_row-on (trees c.args.args.now) ∙ ap module_on (sym (rw c.in_default.is at c.in_ok-names.ensures).read))

pub scope_rows::module_row-initials-requires : goal.scope_rows::module_row-initials-requires
scope_rows::module_row-initials-requires g t c κs within = (search rules, (within, (c.requires.sound, subst (local_names.AreLocals c.args.evaluator.now.store) (sym c.as_slice.ensures.value) ((rw c.in-Some.is at c.in_ok-names.ensures).honest c.args.evaluator.now.store c.requires.args).0)))

pub scope_rows::module_row-returns-in_err-locals-clause-played : goal.scope_rows::module_row-returns-in_err-locals-clause-played
scope_rows::module_row-returns-in_err-locals-clause-played g t c =
    row_at _ _ c.args.evaluator.now c.from_residual-in_err-locals.result c.initials.new.evaluator (module_row-on (trees c.args.args.now) ∙ ap module_on (sym (rw c.in-Some.is at c.in_ok-names.ensures).read))
    (scope_exit local_names.local_list _ _ _ _ _ _ c.from_residual-in_err-locals.ensures.1 (initials_stop c.as_slice.ensures.value _ _ _ c.in_err-locals.ensures.played))

pub scope_rows::module_row-set_locals-requires : goal.scope_rows::module_row-set_locals-requires
scope_rows::module_row-set_locals-requires g t c =
    let h = c.in_ok-locals.ensures.played in
    let d = c.draw_number-number.ensures.played in
    record { sound = d.sound (h.0.sound c.requires.sound); locals = subst (local_names.AreLocals c.draw_number-number.new.self.store) (sym c.as_slice-2.ensures.value) (locals_later d c.in_ok-locals.locals.items h.1) }

pub scope_rows::module_row-renamed-made-requires : goal.scope_rows::module_row-renamed-made-requires
scope_rows::module_row-renamed-made-requires g t c = record { symbols = subst local_names.AreSymbols (sym c.as_slice-3.ensures.value) (are_symbols _ c.in_ok-locals.locals.items c.in_ok-locals.ensures.played.1) }

pub scope_rows::module_row-given-requires : goal.scope_rows::module_row-given-requires
scope_rows::module_row-given-requires g t c =
    let h = c.in_ok-locals.ensures.played in
    let d = c.draw_number-number.ensures.played in
    let m = c.in_ok-set_locals.ensures.played in
    record { honest = c.renamed-made.ensures.honest c.set_locals.new.self.store (later m _ (later d _ (later h.0 _ ((rw c.in-Some.is at c.in_ok-names.ensures).honest c.args.evaluator.now.store c.requires.args).1))) }

pub scope_rows::module_row-returns-clause-played : goal.scope_rows::module_row-returns-clause-played
scope_rows::module_row-returns-clause-played g t c =
    let ls = locals_in c.in-Some.names.items in
    let b = plain c.in-Some.body.now in
    let vs = locals_in c.in_ok-locals.locals.items in
    let n = c.draw_number-number.result in
    row_at _ _ c.args.evaluator.now c.given.result c.given.new.self (module_row-on (trees c.args.args.now) ∙ ap module_on (sym (rw c.in-Some.is at c.in_ok-names.ensures).read))
    (row_made _ _ _ c.set_locals.new.self _ _
    (given_plays _ _ _ c.set_locals.new.self (module_plays ls vs b _ _ (initials_play c.as_slice.ensures.value c.in_ok-locals.ensures.played.0) n _ _ c.draw_number-number.ensures.played (locals_play c.as_slice-2.ensures.value c.draw_number-number.result c.in_ok-set_locals.ensures.played)))
    (c.given.ensures.played _ (renamed_of c.as_slice-3.ensures.value (plain c.in-Some.body.now) c.draw_number-number.result c.renamed-made.result c.renamed-made.ensures.made)))

-- ---- With

pub scope_rows::with_row-returns-in_default-clause-played : goal.scope_rows::with_row-returns-in_default-clause-played
scope_rows::with_row-returns-in_default-clause-played g t c = row_stays _ _ (with_row-on (trees c.args.args.now) ∙ ap with_on (sym (rw c.in_default.is at c.in_ok-names.ensures).read))

pub scope_rows::with_row-initials-requires : goal.scope_rows::with_row-initials-requires
scope_rows::with_row-initials-requires g t c κs within = (search rules, (within, (c.requires.sound, subst (local_names.AreLocals c.args.evaluator.now.store) (sym c.as_slice.ensures.value) ((rw c.in-Some.is at c.in_ok-names.ensures).honest c.args.evaluator.now.store c.requires.args).0)))

pub scope_rows::with_row-returns-in_err-locals-clause-played : goal.scope_rows::with_row-returns-in_err-locals-clause-played
scope_rows::with_row-returns-in_err-locals-clause-played g t c =
    row_at _ _ c.args.evaluator.now c.from_residual-in_err-locals.result c.initials.new.evaluator (with_row-on (trees c.args.args.now) ∙ ap with_on (sym (rw c.in-Some.is at c.in_ok-names.ensures).read))
    (scope_exit local_names.local_list _ _ _ _ _ _ c.from_residual-in_err-locals.ensures.1 (initials_stop c.as_slice.ensures.value _ _ _ c.in_err-locals.ensures.played))

pub scope_rows::with_row-replaced-made-requires : goal.scope_rows::with_row-replaced-made-requires
scope_rows::with_row-replaced-made-requires g t c = record { symbols = subst local_names.AreSymbols (sym c.as_slice-2.ensures.value) (are_symbols _ c.in_ok-locals.locals.items c.in_ok-locals.ensures.played.1) }

pub scope_rows::with_row-given-requires : goal.scope_rows::with_row-given-requires
scope_rows::with_row-given-requires g t c =
    let h = c.in_ok-locals.ensures.played in
    let a = c.initials.new.evaluator.store in
    record { honest = c.replaced-made.ensures.honest a (later h.0 _ ((rw c.in-Some.is at c.in_ok-names.ensures).honest c.args.evaluator.now.store c.requires.args).1) (subst (local_names.AreLocals a) (sym c.as_slice-2.ensures.value) h.1) }

pub scope_rows::with_row-returns-clause-played : goal.scope_rows::with_row-returns-clause-played
scope_rows::with_row-returns-clause-played g t c =
    let ls = locals_in c.in-Some.names.items in
    let b = plain c.in-Some.body.now in
    let vs = locals_in c.in_ok-locals.locals.items in
    row_at _ _ c.args.evaluator.now c.given.result c.given.new.self (with_row-on (trees c.args.args.now) ∙ ap with_on (sym (rw c.in-Some.is at c.in_ok-names.ensures).read))
    (row_made _ _ _ c.initials.new.evaluator _ _ (given_plays _ _ _ c.initials.new.evaluator (with_plays ls vs b _ _ (initials_play c.as_slice.ensures.value c.in_ok-locals.ensures.played.0)))
    (c.given.ensures.played _ (replaced_of c.as_slice-2.ensures.value (plain c.in-Some.body.now) c.replaced-made.result c.replaced-made.ensures.made)))

-- ---- Block

pub scope_rows::block_row-returns-in_default-clause-played : goal.scope_rows::block_row-returns-in_default-clause-played
scope_rows::block_row-returns-in_default-clause-played g t c = row_stays _ _ (block_row-on (trees c.args.args.now) ∙ ap block_on (sym (rw c.in_default.is at c.in_ok-names.ensures).read))

pub scope_rows::block_row-initials-requires : goal.scope_rows::block_row-initials-requires
scope_rows::block_row-initials-requires g t c κs within = (search rules, (within, (c.requires.sound, subst (local_names.AreLocals c.args.evaluator.now.store) (sym c.as_slice.ensures.value) ((rw c.in-Some.is at c.in_ok-names.ensures).honest c.args.evaluator.now.store c.requires.args).0)))

pub scope_rows::block_row-returns-in_err-locals-clause-played : goal.scope_rows::block_row-returns-in_err-locals-clause-played
scope_rows::block_row-returns-in_err-locals-clause-played g t c =
    row_at _ _ c.args.evaluator.now c.from_residual-in_err-locals.result c.initials.new.evaluator (block_row-on (trees c.args.args.now) ∙ ap block_on (sym (rw c.in-Some.is at c.in_ok-names.ensures).read))
    (scope_exit local_names.local_list _ _ _ _ _ _ c.from_residual-in_err-locals.ensures.1 (initials_stop c.as_slice.ensures.value _ _ _ c.in_err-locals.ensures.played))

pub scope_rows::block_row-set_aside-requires : goal.scope_rows::block_row-set_aside-requires
scope_rows::block_row-set_aside-requires g t c =
    let h = c.in_ok-locals.ensures.played in
    record { sound = h.0.sound c.requires.sound; locals = subst (local_names.AreLocals c.initials.new.evaluator.store) (sym c.as_slice-2.ensures.value) h.1 }

pub scope_rows::block_row-value_of-value-requires : goal.scope_rows::block_row-value_of-value-requires
scope_rows::block_row-value_of-value-requires g t c κs within =
    let h = c.in_ok-locals.ensures.played in
    let a = c.in_ok-held.ensures.played in
    (omega (arith, c.in_ok-locals.ensures.falls, c.in_ok-held.ensures.kept), (within, (a.sound (h.0.sound c.requires.sound), later a _ (later h.0 _ ((rw c.in-Some.is at c.in_ok-names.ensures).honest c.args.evaluator.now.store c.requires.args).1))))

pub scope_rows::block_row-give_all-requires : goal.scope_rows::block_row-give_all-requires
scope_rows::block_row-give_all-requires g t c =
    let h = c.in_ok-locals.ensures.played in
    let a = c.in_ok-held.ensures in
    let n = sym c.stops_by_memory.ensures ∙ c.if-stops_by_memory.false in
    let v = c.value_of-value.ensures.played in
    record { sound = inside_sound value _ _ _ _ n v (a.played.sound (h.0.sound c.requires.sound)); held = inside_held value _ _ _ _ c.in_ok-held.held.items n v a.held }

pub scope_rows::block_row-returns-in-Err-clause-played : goal.scope_rows::block_row-returns-in-Err-clause-played
scope_rows::block_row-returns-in-Err-clause-played g t c =
    let k = c.args.evaluator.now in
    let ls = locals_in c.in-Some.names.items in
    let vs = locals_in c.in_ok-locals.locals.items in
    let inside = prog.value_of (plain c.in-Some.body.now) in
    let b = c.give_all.ensures.played in
    let m =
    block_played honest_tree ls vs (map held_in c.in_ok-held.held.items) inside k c.initials.new.evaluator c.set_aside.new.self c.value_of-value.new.evaluator c.give_all.new.self c.value_of-value.result (initials_play c.as_slice.ensures.value c.in_ok-locals.ensures.played.0)
    (aside_play c.as_slice-2.ensures.value c.in_ok-held.ensures.played) (λ x w. later b x w) (honest_played inside _ _ _ c.value_of-value.ensures.played) b in
    row_at _ _ k (Err c.in-Err.stop) c.give_all.new.self (block_row-on (trees c.args.args.now) ∙ ap block_on (sym (rw c.in-Some.is at c.in_ok-names.ensures).read)) (block_stops (scoping.in_block ls inside) k c.give_all.new.self c.in-Err.stop c.value_of-value.result c.in-Err.is m)

pub scope_rows::block_row-returns-clause-played : goal.scope_rows::block_row-returns-clause-played
scope_rows::block_row-returns-clause-played g t c =
    let k = c.args.evaluator.now in
    let ls = locals_in c.in-Some.names.items in
    let vs = locals_in c.in_ok-locals.locals.items in
    let inside = prog.value_of (plain c.in-Some.body.now) in
    let b = c.give_all.ensures.played in
    let m =
    block_played honest_tree ls vs (map held_in c.in_ok-held.held.items) inside k c.initials.new.evaluator c.set_aside.new.self c.value_of-value.new.evaluator c.give_all.new.self c.value_of-value.result (initials_play c.as_slice.ensures.value c.in_ok-locals.ensures.played.0)
    (aside_play c.as_slice-2.ensures.value c.in_ok-held.ensures.played) (λ x w. later b x w) (honest_played inside _ _ _ c.value_of-value.ensures.played) b in
    row_at _ _ k (Ok (Some c.in-Ok.value)) c.give_all.new.self (block_row-on (trees c.args.args.now) ∙ ap block_on (sym (rw c.in-Some.is at c.in_ok-names.ensures).read))
    (block_gives (scoping.in_block ls inside) k c.give_all.new.self c.in-Ok.value c.value_of-value.result c.in-Ok.is m c.weight-weight.ensures.fits)

-- ---- the guard of a condition

pub guard::condition_result-returns-in_default-clause-played : goal.guard::condition_result-returns-in_default-clause-played
guard::condition_result-returns-in_default-clause-played g t c =
    let k = c.args.evaluator.now in
    (subst (λ z. Plays z k (Ok None) k false) (sym (condition_is (trees c.args.args.now) ∙ ap condition_on (sym c.in_default.ensures.value))) plays_done, tt)

pub guard::condition_result-value_of-requires : goal.guard::condition_result-value_of-requires
guard::condition_result-value_of-requires g t c κs within = (search rules, (within, (c.requires.sound, (c.in-Some.ensures.honest c.args.evaluator.now.store c.requires.args).1)))

pub guard::condition_result-returns-in_err-value-clause-played : goal.guard::condition_result-returns-in_err-value-clause-played
guard::condition_result-returns-in_err-value-clause-played g t c =
    let q = condition_is (trees c.args.args.now) ∙ ap condition_on (sym c.in-Some.ensures.value) in
    subst (λ z. Played found_tree z c.args.evaluator.now c.from_residual.result c.value_of.new.evaluator) (sym q) (exit value found_tree _ _ _ _ _ _ c.from_residual.ensures.1 c.in_err-value.ensures.played)

pub guard::condition_result-returns-then-not-is_symbol-clause-played : goal.guard::condition_result-returns-then-not-is_symbol-clause-played
guard::condition_result-returns-then-not-is_symbol-clause-played g t c =
    let b = plain c.in-Some.body.now in
    let v = plain c.in_ok-value.value in
    let k1 = c.value_of.new.evaluator in
    let q = condition_is (trees c.args.args.now) ∙ ap condition_on (sym c.in-Some.ensures.value) in
    (subst (λ z. Plays z c.args.evaluator.now (Ok None) k1 false) (sym q) (plays_bind _ (condition_by b) c.in_ok-value.ensures.played.0 (condition_gives b v k1 false (sym c.is_symbol.ensures ∙ c.if-not-is_symbol.true))), tt)

pub guard::condition_result-returns-clause-played : goal.guard::condition_result-returns-clause-played
guard::condition_result-returns-clause-played g t c =
    let b = plain c.in-Some.body.now in
    let v = plain c.in_ok-value.value in
    let k1 = c.value_of.new.evaluator in
    let h = c.in_ok-value.ensures.played.0 in
    let q = condition_is (trees c.args.args.now) ∙ ap condition_on (sym c.in-Some.ensures.value) in
    let w = plays_bind _ (condition_by b) h (condition_gives b v k1 true (sym c.is_symbol.ensures ∙ c.if-not-is_symbol.false)) in (
      subst (λ z. Plays z c.args.evaluator.now (Ok (Some (plain c.in_ok-copy.field-0))) k1 false) (sym q) (subst (λ (z : Stamped). Plays (prog.value_of (plain c.in-Some.condition.now) >>= condition_by b) c.args.evaluator.now (Ok (Some (plain z))) k1 false) (sym c.in_ok-copy.ensures) w),
      subst (Honest k1) (sym c.in_ok-copy.ensures) (later h _ (c.in-Some.ensures.honest c.args.evaluator.now.store c.requires.args).0),
    )

-- ---- the guard of a Module

pub guard::module_guard-returns-in_default-clause-played : goal.guard::module_guard-returns-in_default-clause-played
guard::module_guard-returns-in_default-clause-played g t c n l =
    let k = c.args.evaluator.now in
    let e = plain c.args.e.now in
    let q : scope_parts scopes.names (elements e) ≡ None = ap (scope_parts scopes.names) (sym c.elements.ensures.elements) ∙ sym (rw c.in_default.is at c.in_ok-names.ensures).read in
    (subst (λ z. Plays (guards.module_guard n e z) k (Ok (Some (plain c.in_ok-copy.field-0))) k false) (sym q) (plays_done_is (ap (λ z. Some (plain z)) (sym c.in_ok-copy.ensures))), subst (Honest k) (sym c.in_ok-copy.ensures) c.requires.honest)

pub guard::module_guard-initials-requires : goal.guard::module_guard-initials-requires
guard::module_guard-initials-requires g t c κs within =
    let a = c.args.evaluator.now.store in
    (omega arith, (within, (c.requires.sound, subst (local_names.AreLocals a) (sym c.as_slice.ensures.value) ((rw c.in-Some.is at c.in_ok-names.ensures).honest a (c.elements.ensures.honest a c.requires.honest)).0)))

pub guard::module_guard-returns-in_err-locals-clause-played : goal.guard::module_guard-returns-in_err-locals-clause-played
guard::module_guard-returns-in_err-locals-clause-played g t c n l =
    let k = c.args.evaluator.now in
    let e = plain c.args.e.now in
    let q : scope_parts scopes.names (elements e) ≡ Some (locals_in c.in-Some.names.items, plain c.in-Some.body.now) = ap (scope_parts scopes.names) (sym c.elements.ensures.elements) ∙ sym (rw c.in-Some.is at c.in_ok-names.ensures).read in
    subst (λ z. Played found_tree (guards.module_guard n e z) k c.from_residual-in_err-locals.result c.initials.new.evaluator) (sym q)
    (err_played found_tree _ _ _ c.from_residual-in_err-locals.result _ c.from_residual-in_err-locals.ensures.1 (module_stops local_names.local_list (locals_in c.in-Some.names.items) (plain c.in-Some.body.now) e n k _ _ (initials_stop c.as_slice.ensures.value _ _ _ c.in_err-locals.ensures.played)))

pub guard::module_guard-renamed-made-requires : goal.guard::module_guard-renamed-made-requires
guard::module_guard-renamed-made-requires g t c = record { symbols = subst local_names.AreSymbols (sym c.as_slice-2.ensures.value) (are_symbols _ c.in_ok-locals.locals.items c.in_ok-locals.ensures.played.1) }

pub guard::module_guard-returns-in_err-inner-clause-played : goal.guard::module_guard-returns-in_err-inner-clause-played
guard::module_guard-returns-in_err-inner-clause-played g t c n l =
    let k = c.args.evaluator.now in
    let e = plain c.args.e.now in
    let ls = locals_in c.in-Some.names.items in
    let b = plain c.in-Some.body.now in
    let vs = locals_in c.in_ok-locals.locals.items in
    let q : scope_parts scopes.names (elements e) ≡ Some (ls, b) = ap (scope_parts scopes.names) (sym c.elements.ensures.elements) ∙ sym (rw c.in-Some.is at c.in_ok-names.ensures).read in
    let m = renamed_of c.as_slice-2.ensures.value (plain c.in-Some.body.now) c.draw_number-number.result c.renamed-made.result c.renamed-made.ensures.made in
    subst (λ z. Played found_tree (guards.module_guard n e z) k c.from_residual-in_err-inner.result c.fitted.new.self) (sym q)
    (err_played found_tree _ _ _ c.from_residual-in_err-inner.result _ c.from_residual-in_err-inner.ensures.1
    (module_sized ls vs b k _ (initials_play c.as_slice.ensures.value c.in_ok-locals.ensures.played.0) c.draw_number-number.result _ c.draw_number-number.ensures.played _ _ (c.in_err-inner.ensures.played _ m) n e))

pub guard::module_guard-set_locals-requires : goal.guard::module_guard-set_locals-requires
guard::module_guard-set_locals-requires g t c =
    let h = c.in_ok-locals.ensures.played in
    let d = c.draw_number-number.ensures.played in
    let f = (c.in_ok-inner.ensures.played _ (renamed_of c.as_slice-2.ensures.value (plain c.in-Some.body.now) c.draw_number-number.result c.renamed-made.result c.renamed-made.ensures.made)).0 in
    record { sound = f.sound (d.sound (h.0.sound c.requires.sound)); locals = subst (local_names.AreLocals c.fitted.new.self.store) (sym c.as_slice-3.ensures.value) (locals_later f c.in_ok-locals.locals.items (locals_later d c.in_ok-locals.locals.items h.1)) }

pub guard::module_guard-guard-requires : goal.guard::module_guard-guard-requires
guard::module_guard-guard-requires g t c κs within =
    let k = c.args.evaluator.now in
    let e = plain c.args.e.now in
    let ls = locals_in c.in-Some.names.items in
    let b = plain c.in-Some.body.now in
    let vs = locals_in c.in_ok-locals.locals.items in
    let n = c.draw_number-number.result in
    let q : scope_parts scopes.names (elements e) ≡ Some (ls, b) = ap (scope_parts scopes.names) (sym c.elements.ensures.elements) ∙ sym (rw c.in-Some.is at c.in_ok-names.ensures).read in
    let h = c.in_ok-locals.ensures.played in
    let d = c.draw_number-number.ensures.played in
    let f = c.in_ok-inner.ensures.played _ (renamed_of c.as_slice-2.ensures.value (plain c.in-Some.body.now) c.draw_number-number.result c.renamed-made.result c.renamed-made.ensures.made) in
    let s = c.in_ok-set_locals.ensures.played in
    let a = c.args.evaluator.now.store in
    let x : Honest k c.in_ok-inner.inner = subst (λ z. IfOk z (HonestIn a)) c.in_ok-inner.ensures.made (c.renamed-made.ensures.honest a ((rw c.in-Some.is at c.in_ok-names.ensures).honest a (c.elements.ensures.honest a c.requires.honest)).1) in
    let i = ap depth f.1 in
    let j = renamed_shallow b (scoping.names_of vs) n in
    let o = body_depth scopes.names e ls b q in (
      omega (arith, i, j, o, c.in_ok-locals.ensures.falls, c.draw_number-number.ensures.kept, c.in_ok-inner.ensures.kept, c.in_ok-set_locals.ensures.kept),
      (within, (s.sound (f.0.sound (d.sound (h.0.sound c.requires.sound))), later s _ (later f.0 _ (later d _ (later h.0 _ x))))),
    )

pub guard::module_guard-returns-clause-played : goal.guard::module_guard-returns-clause-played
guard::module_guard-returns-clause-played g t c n l =
    let k = c.args.evaluator.now in
    let e = plain c.args.e.now in
    let ls = locals_in c.in-Some.names.items in
    let b = plain c.in-Some.body.now in
    let vs = locals_in c.in_ok-locals.locals.items in
    let m = c.draw_number-number.result in
    let q : scope_parts scopes.names (elements e) ≡ Some (ls, b) = ap (scope_parts scopes.names) (sym c.elements.ensures.elements) ∙ sym (rw c.in-Some.is at c.in_ok-names.ensures).read in
    let f = c.in_ok-inner.ensures.played _ (renamed_of c.as_slice-2.ensures.value (plain c.in-Some.body.now) c.draw_number-number.result c.renamed-made.result c.renamed-made.ensures.made) in
    let i = ap depth f.1 in
    let j = renamed_shallow b (scoping.names_of vs) m in
    let o = body_depth scopes.names e ls b q in
    let w = c.guard.ensures.played n (omega (arith, l, i, j, o, c.in_ok-locals.ensures.falls, c.draw_number-number.ensures.kept, c.in_ok-inner.ensures.kept, c.in_ok-set_locals.ensures.kept)) in
    subst (λ z. Played found_tree (guards.module_guard n e z) k c.guard.result c.guard.new.evaluator) (sym q)
    (module_guarded ls vs b k _ (initials_play c.as_slice.ensures.value c.in_ok-locals.ensures.played.0) m _ c.draw_number-number.ensures.played c.fitted.new.self c.set_locals.new.self c.guard.new.evaluator n e c.guard.result f.0
    (locals_play c.as_slice-3.ensures.value c.draw_number-number.result c.in_ok-set_locals.ensures.played) (subst (λ z. Played found_tree (guard_within n z) c.set_locals.new.self c.guard.result c.guard.new.evaluator) f.1 w))

-- ---- the guard of a With

pub guard::with_guard-returns-in_default-clause-played : goal.guard::with_guard-returns-in_default-clause-played
guard::with_guard-returns-in_default-clause-played g t c n l =
    let k = c.args.evaluator.now in
    let e = plain c.args.e.now in
    let q : scope_parts scopes.values (elements e) ≡ None = ap (scope_parts scopes.values) (sym c.elements.ensures.elements) ∙ sym (rw c.in_default.is at c.in_ok-names.ensures).read in
    (subst (λ z. Plays (guards.with_guard n e z) k (Ok (Some (plain c.in_ok-copy.field-0))) k false) (sym q) (plays_done_is (ap (λ z. Some (plain z)) (sym c.in_ok-copy.ensures))), subst (Honest k) (sym c.in_ok-copy.ensures) c.requires.honest)

pub guard::with_guard-initials-requires : goal.guard::with_guard-initials-requires
guard::with_guard-initials-requires g t c κs within =
    let a = c.args.evaluator.now.store in
    (omega arith, (within, (c.requires.sound, subst (local_names.AreLocals a) (sym c.as_slice.ensures.value) ((rw c.in-Some.is at c.in_ok-names.ensures).honest a (c.elements.ensures.honest a c.requires.honest)).0)))

pub guard::with_guard-returns-in_err-locals-clause-played : goal.guard::with_guard-returns-in_err-locals-clause-played
guard::with_guard-returns-in_err-locals-clause-played g t c n l =
    let k = c.args.evaluator.now in
    let e = plain c.args.e.now in
    let q : scope_parts scopes.values (elements e) ≡ Some (locals_in c.in-Some.names.items, plain c.in-Some.body.now) = ap (scope_parts scopes.values) (sym c.elements.ensures.elements) ∙ sym (rw c.in-Some.is at c.in_ok-names.ensures).read in
    subst (λ z. Played found_tree (guards.with_guard n e z) k c.from_residual-in_err-locals.result c.initials.new.evaluator) (sym q)
    (err_played found_tree _ _ _ c.from_residual-in_err-locals.result _ c.from_residual-in_err-locals.ensures.1 (with_stops local_names.local_list (locals_in c.in-Some.names.items) (plain c.in-Some.body.now) e n k _ _ (initials_stop c.as_slice.ensures.value _ _ _ c.in_err-locals.ensures.played)))

pub guard::with_guard-replaced-made-requires : goal.guard::with_guard-replaced-made-requires
guard::with_guard-replaced-made-requires g t c = record { symbols = subst local_names.AreSymbols (sym c.as_slice-2.ensures.value) (are_symbols _ c.in_ok-locals.locals.items c.in_ok-locals.ensures.played.1) }

pub guard::with_guard-returns-in_err-inner-clause-played : goal.guard::with_guard-returns-in_err-inner-clause-played
guard::with_guard-returns-in_err-inner-clause-played g t c n l =
    let k = c.args.evaluator.now in
    let e = plain c.args.e.now in
    let ls = locals_in c.in-Some.names.items in
    let b = plain c.in-Some.body.now in
    let vs = locals_in c.in_ok-locals.locals.items in
    let q : scope_parts scopes.values (elements e) ≡ Some (ls, b) = ap (scope_parts scopes.values) (sym c.elements.ensures.elements) ∙ sym (rw c.in-Some.is at c.in_ok-names.ensures).read in
    let m = replaced_of c.as_slice-2.ensures.value (plain c.in-Some.body.now) c.replaced-made.result c.replaced-made.ensures.made in
    subst (λ z. Played found_tree (guards.with_guard n e z) k c.from_residual-in_err-inner.result c.fitted.new.self) (sym q)
    (err_played found_tree _ _ _ c.from_residual-in_err-inner.result _ c.from_residual-in_err-inner.ensures.1 (with_sized ls vs b k _ (initials_play c.as_slice.ensures.value c.in_ok-locals.ensures.played.0) _ _ (c.in_err-inner.ensures.played _ m) n e))

pub guard::with_guard-guard-requires : goal.guard::with_guard-guard-requires
guard::with_guard-guard-requires g t c κs within =
    let k = c.args.evaluator.now in
    let e = plain c.args.e.now in
    let ls = locals_in c.in-Some.names.items in
    let b = plain c.in-Some.body.now in
    let us = c.in_ok-locals.locals.items in
    let q : scope_parts scopes.values (elements e) ≡ Some (ls, b) = ap (scope_parts scopes.values) (sym c.elements.ensures.elements) ∙ sym (rw c.in-Some.is at c.in_ok-names.ensures).read in
    let h = c.in_ok-locals.ensures.played in
    let f = c.in_ok-inner.ensures.played _ (replaced_of c.as_slice-2.ensures.value (plain c.in-Some.body.now) c.replaced-made.result c.replaced-made.ensures.made) in
    let a = c.initials.new.evaluator.store in
    let y = later h.0 _ ((rw c.in-Some.is at c.in_ok-names.ensures).honest c.args.evaluator.now.store (c.elements.ensures.honest c.args.evaluator.now.store c.requires.honest)).1 in
    let x : Honest c.initials.new.evaluator c.in_ok-inner.inner = subst (λ z. IfOk z (HonestIn a)) c.in_ok-inner.ensures.made (c.replaced-made.ensures.honest a y (subst (local_names.AreLocals a) (sym c.as_slice-2.ensures.value) h.1)) in
    let i = ap depth f.1 in
    let o = body_depth scopes.values e ls b q in
    let less = with_falls k.steps c.fitted.new.self.steps (depth (plain c.in_ok-inner.inner)) (depth e) (omega (arith, c.in_ok-locals.ensures.falls, c.in_ok-inner.ensures.kept)) c.depth-depth.ensures.fits.shallow
    (λ z. let j = replaced_shallow b us (c.in_ok-locals.ensures.shallow (omega (arith, z, c.in_ok-inner.ensures.kept))) in omega (arith, i, j, o)) in
    (omega (arith, less), (within, (f.0.sound (h.0.sound c.requires.sound), later f.0 _ x)))

pub guard::with_guard-returns-clause-played : goal.guard::with_guard-returns-clause-played
guard::with_guard-returns-clause-played g t c n l =
    let k = c.args.evaluator.now in
    let e = plain c.args.e.now in
    let ls = locals_in c.in-Some.names.items in
    let b = plain c.in-Some.body.now in
    let us = c.in_ok-locals.locals.items in
    let q : scope_parts scopes.values (elements e) ≡ Some (ls, b) = ap (scope_parts scopes.values) (sym c.elements.ensures.elements) ∙ sym (rw c.in-Some.is at c.in_ok-names.ensures).read in
    let f = c.in_ok-inner.ensures.played _ (replaced_of c.as_slice-2.ensures.value (plain c.in-Some.body.now) c.replaced-made.result c.replaced-made.ensures.made) in
    let i = ap depth f.1 in
    let o = body_depth scopes.values e ls b q in
    let below = with_below k.steps c.fitted.new.self.steps (depth (plain c.in_ok-inner.inner)) (depth e) n (omega (arith, c.in_ok-locals.ensures.falls, c.in_ok-inner.ensures.kept)) c.depth-depth.ensures.fits.shallow
    (λ z. let j = replaced_shallow b us (c.in_ok-locals.ensures.shallow (omega (arith, z, c.in_ok-inner.ensures.kept))) in omega (arith, i, j, o)) l in
    let w = c.guard.ensures.played n below in
    subst (λ z. Played found_tree (guards.with_guard n e z) k c.guard.result c.guard.new.evaluator) (sym q)
    (with_guarded ls (locals_in us) b k _ (initials_play c.as_slice.ensures.value c.in_ok-locals.ensures.played.0) c.fitted.new.self c.guard.new.evaluator n e c.guard.result f.0
    (subst (λ z. Played found_tree (guard_within n z) c.fitted.new.self c.guard.result c.guard.new.evaluator) f.1 w))

-- ---- the guard of a Block

pub guard::block_guard-returns-in_default-clause-played : goal.guard::block_guard-returns-in_default-clause-played
guard::block_guard-returns-in_default-clause-played g t c n l =
    let k = c.args.evaluator.now in
    let e = plain c.args.e.now in
    let q : scope_parts scopes.names (elements e) ≡ None = ap (scope_parts scopes.names) (sym c.elements.ensures.elements) ∙ sym (rw c.in_default.is at c.in_ok-names.ensures).read in
    (subst (λ z. Plays (guards.block_guard n e z) k (Ok (Some (plain c.in_ok-copy.field-0))) k false) (sym q) (plays_done_is (ap (λ z. Some (plain z)) (sym c.in_ok-copy.ensures))), subst (Honest k) (sym c.in_ok-copy.ensures) c.requires.honest)

pub guard::block_guard-initials-requires : goal.guard::block_guard-initials-requires
guard::block_guard-initials-requires g t c κs within =
    let a = c.args.evaluator.now.store in
    (omega arith, (within, (c.requires.sound, subst (local_names.AreLocals a) (sym c.as_slice.ensures.value) ((rw c.in-Some.is at c.in_ok-names.ensures).honest a (c.elements.ensures.honest a c.requires.honest)).0)))

pub guard::block_guard-returns-in_err-locals-clause-played : goal.guard::block_guard-returns-in_err-locals-clause-played
guard::block_guard-returns-in_err-locals-clause-played g t c n l =
    let k = c.args.evaluator.now in
    let e = plain c.args.e.now in
    let ls = locals_in c.in-Some.names.items in
    let b = plain c.in-Some.body.now in
    let q : scope_parts scopes.names (elements e) ≡ Some (ls, b) = ap (scope_parts scopes.names) (sym c.elements.ensures.elements) ∙ sym (rw c.in-Some.is at c.in_ok-names.ensures).read in
    subst (λ z. Played found_tree (guards.block_guard n e z) k c.from_residual-in_err-locals.result c.initials.new.evaluator) (sym q)
    (err_played found_tree _ _ _ c.from_residual-in_err-locals.result _ c.from_residual-in_err-locals.ensures.1 (block_exit local_names.local_list found_tree ls (guarded_value n b) k _ _ (initials_stop c.as_slice.ensures.value _ _ _ c.in_err-locals.ensures.played)))

pub guard::block_guard-set_aside-requires : goal.guard::block_guard-set_aside-requires
guard::block_guard-set_aside-requires g t c =
    let h = c.in_ok-locals.ensures.played in
    record { sound = h.0.sound c.requires.sound; locals = subst (local_names.AreLocals c.initials.new.evaluator.store) (sym c.as_slice-2.ensures.value) h.1 }

pub guard::block_guard-guarded_value-found-requires : goal.guard::block_guard-guarded_value-found-requires
guard::block_guard-guarded_value-found-requires g t c κs within =
    let a = c.args.evaluator.now.store in
    let e = plain c.args.e.now in
    let q : scope_parts scopes.names (elements e) ≡ Some (locals_in c.in-Some.names.items, plain c.in-Some.body.now) = ap (scope_parts scopes.names) (sym c.elements.ensures.elements) ∙ sym (rw c.in-Some.is at c.in_ok-names.ensures).read in
    let h = c.in_ok-locals.ensures.played in
    let s = c.in_ok-held.ensures.played in
    let o = body_depth scopes.names e _ _ q in
    (omega (arith, o, c.in_ok-locals.ensures.falls, c.in_ok-held.ensures.kept), (within, (s.sound (h.0.sound c.requires.sound), later s _ (later h.0 _ ((rw c.in-Some.is at c.in_ok-names.ensures).honest a (c.elements.ensures.honest a c.requires.honest)).1))))

pub guard::block_guard-give_all-requires : goal.guard::block_guard-give_all-requires
guard::block_guard-give_all-requires g t c =
    let k = c.args.evaluator.now in
    let e = plain c.args.e.now in
    let q : scope_parts scopes.names (elements e) ≡ Some (locals_in c.in-Some.names.items, plain c.in-Some.body.now) = ap (scope_parts scopes.names) (sym c.elements.ensures.elements) ∙ sym (rw c.in-Some.is at c.in_ok-names.ensures).read in
    let o = body_depth scopes.names e _ _ q in
    let h = c.in_ok-locals.ensures.played in
    let a = c.in_ok-held.ensures in
    let n = sym c.stops_by_memory.ensures ∙ c.if-stops_by_memory.false in
    let v = c.guarded_value-found.ensures.played (1001 * k.steps + depth e) (omega (arith, o, c.in_ok-locals.ensures.falls, c.in_ok-held.ensures.kept)) in
    record { sound = inside_sound found_tree _ _ _ _ n v (a.played.sound (h.0.sound c.requires.sound)); held = inside_held found_tree _ _ _ _ c.in_ok-held.held.items n v a.held }

pub guard::block_guard-returns-clause-played : goal.guard::block_guard-returns-clause-played
guard::block_guard-returns-clause-played g t c n l =
    let k = c.args.evaluator.now in
    let e = plain c.args.e.now in
    let ls = locals_in c.in-Some.names.items in
    let vs = locals_in c.in_ok-locals.locals.items in
    let b = plain c.in-Some.body.now in
    let q : scope_parts scopes.names (elements e) ≡ Some (ls, b) = ap (scope_parts scopes.names) (sym c.elements.ensures.elements) ∙ sym (rw c.in-Some.is at c.in_ok-names.ensures).read in
    let o = body_depth scopes.names e ls b q in
    let v = c.guarded_value-found.ensures.played n (omega (arith, l, o, c.in_ok-locals.ensures.falls, c.in_ok-held.ensures.kept)) in
    let back = c.give_all.ensures.played in
    subst (λ z. Played found_tree (guards.block_guard n e z) k c.guarded_value-found.result c.give_all.new.self) (sym q)
    (block_played found_tree ls vs (map held_in c.in_ok-held.held.items) (guarded_value n b) k c.initials.new.evaluator c.set_aside.new.self c.guarded_value-found.new.evaluator c.give_all.new.self c.guarded_value-found.result
    (initials_play c.as_slice.ensures.value c.in_ok-locals.ensures.played.0) (aside_play c.as_slice-2.ensures.value c.in_ok-held.ensures.played) (λ x w. option_later back x w) v back)

-- ---- the value of what a guard gives

pub guard::guarded_value-returns-in_err-found-clause-played : goal.guard::guarded_value-returns-in_err-found-clause-played
guard::guarded_value-returns-in_err-found-clause-played g t c n l = exit found_tree found_tree _ _ _ _ _ _ c.from_residual.ensures.1 (c.in_err-found.ensures.played n l)

pub guard::guarded_value-returns-in_default-clause-played : goal.guard::guarded_value-returns-in_default-clause-played
guard::guarded_value-returns-in_default-clause-played g t c n l =
    let h = c.in_ok-found.ensures.played n l in
    (plays_bind (guard_within n (plain c.args.e.now)) (λ r. value_inside r) (subst (λ o. Plays (guard_within n (plain c.args.e.now)) c.args.evaluator.now (Ok (option_map plain o)) c.guard.new.evaluator false) c.in_default.is h.0) plays_done, tt)

pub guard::guarded_value-value_of-requires : goal.guard::guarded_value-value_of-requires
guard::guarded_value-value_of-requires g t c κs within =
    let h = c.in_ok-found.ensures.played (1001 * c.args.evaluator.now.steps + depth (plain c.args.e.now) + 1) (omega arith) in
    (omega (arith, c.in_ok-found.ensures.falls), (within, (h.0.sound c.requires.sound, subst (HonestMaybe c.guard.new.evaluator) c.in-Some.is h.1)))

pub guard::guarded_value-returns-in_err-value-clause-played : goal.guard::guarded_value-returns-in_err-value-clause-played
guard::guarded_value-returns-in_err-value-clause-played g t c n l =
    let e = plain c.args.e.now in
    let h = c.in_ok-found.ensures.played n l in
    played_bind found_tree (guard_within n e) (λ r. value_inside r) c.args.evaluator.now c.guard.new.evaluator (Some (plain c.in-Some.result)) _ _ (subst (λ o. Plays (guard_within n e) c.args.evaluator.now (Ok (option_map plain o)) c.guard.new.evaluator false) c.in-Some.is h.0)
    (exit value found_tree _ _ _ _ _ _ c.from_residual-in_err-value.ensures.1 c.in_err-value.ensures.played)

pub guard::guarded_value-returns-clause-played : goal.guard::guarded_value-returns-clause-played
guard::guarded_value-returns-clause-played g t c n l =
    let e = plain c.args.e.now in
    let h = c.in_ok-found.ensures.played n l in
    let v = c.in_ok-value.ensures.played in (
      plays_bind (guard_within n e) (λ r. value_inside r) (subst (λ o. Plays (guard_within n e) c.args.evaluator.now (Ok (option_map plain o)) c.guard.new.evaluator false) c.in-Some.is h.0) (plays_bind _ (λ z. done (Some z)) v.0 plays_done),
      v.1.0,
    )

-- ---- guards

pub guard::guard-condition_result-requires : goal.guard::guard-condition_result-requires
guard::guard-condition_result-requires g t c κs within = (search rules, (within, (c.requires.sound, c.elements.ensures.honest c.args.evaluator.now.store c.requires.honest)))

pub guard::guard-returns-then-is_condition-clause-played : goal.guard::guard-returns-then-is_condition-clause-played
guard::guard-returns-then-is_condition-clause-played g t c n l =
    let e = plain c.args.e.now in
    subst (λ z. Played found_tree z c.args.evaluator.now c.condition_result.result c.condition_result.new.evaluator) (sym (guard_condition n e (omega arith) (sym c.is_condition.ensures ∙ c.if-is_condition.true) ∙ ap matching.condition_result (sym c.elements.ensures.elements)))
    c.condition_result.ensures.played

pub guard::guard-returns-then-not-is_guarded-clause-played : goal.guard::guard-returns-then-not-is_guarded-clause-played
guard::guard-returns-then-not-is_guarded-clause-played g t c n l =
    let e = plain c.args.e.now in (
      subst (λ z. Plays z c.args.evaluator.now (Ok (Some (plain c.in_ok-copy.field-0))) c.args.evaluator.now false) (sym (guard_none n e (omega arith) (sym c.is_condition.ensures ∙ c.if-is_condition.false) (sym c.is_guarded-is_guarded.ensures ∙ c.if-not-is_guarded.true))) (plays_done_is (ap (λ z. Some (plain z)) (sym c.in_ok-copy.ensures))),
      subst (Honest c.args.evaluator.now) (sym c.in_ok-copy.ensures) c.requires.honest,
    )

pub guard::guard-returns-then-is_form-clause-played : goal.guard::guard-returns-then-is_form-clause-played
guard::guard-returns-then-is_form-clause-played g t c n l =
    let e = plain c.args.e.now in
    subst (λ z. Played found_tree z c.args.evaluator.now c.module_guard.result c.module_guard.new.evaluator)
    (sym (guard_module n e (omega arith) (sym c.is_condition.ensures ∙ c.if-is_condition.false) (sym c.is_guarded-is_guarded.ensures ∙ c.if-not-is_guarded.false) (sym c.is_form.ensures ∙ c.if-is_form.true)))
    (c.module_guard.ensures.played (n - 1) (omega (arith, l)))

pub guard::guard-returns-then-is_form-2-clause-played : goal.guard::guard-returns-then-is_form-2-clause-played
guard::guard-returns-then-is_form-2-clause-played g t c n l =
    let e = plain c.args.e.now in
    subst (λ z. Played found_tree z c.args.evaluator.now c.with_guard.result c.with_guard.new.evaluator)
    (sym (guard_with n e (omega arith) (sym c.is_condition.ensures ∙ c.if-is_condition.false) (sym c.is_guarded-is_guarded.ensures ∙ c.if-not-is_guarded.false) (sym c.is_form-2.ensures ∙ c.if-is_form-2.true)))
    (c.with_guard.ensures.played (n - 1) (omega (arith, l)))

pub guard::guard-returns-clause-played : goal.guard::guard-returns-clause-played
guard::guard-returns-clause-played g t c n l =
    let e = plain c.args.e.now in
    subst (λ z. Played found_tree z c.args.evaluator.now c.block_guard.result c.block_guard.new.evaluator)
    (sym (guard_block n e (omega arith) (sym c.is_condition.ensures ∙ c.if-is_condition.false) (sym c.is_guarded-is_guarded.ensures ∙ c.if-not-is_guarded.false) (sym c.is_form.ensures ∙ c.if-is_form.false) (sym c.is_form-2.ensures ∙ c.if-is_form-2.false)))
    (c.block_guard.ensures.played (n - 1) (omega (arith, l)))

pub quiet_rows::evaluate_quietly-returns-then-is_leaf-clause-played : goal.quiet_rows::evaluate_quietly-returns-then-is_leaf-clause-played
quiet_rows::evaluate_quietly-returns-then-is_leaf-clause-played g t c = (leaf_quietly c.args.e c.args.evaluator.now (sym c.is_leaf.ensures ∙ c.if-is_leaf.true), c.requires.honest)

pub quiet_rows::evaluate_quietly-returns-then-depth-evaluator-clause-played : goal.quiet_rows::evaluate_quietly-returns-then-depth-evaluator-clause-played
quiet_rows::evaluate_quietly-returns-then-depth-evaluator-clause-played g t c = (c.in_ok-too_deep_quietly.ensures.played c.args.e (sym c.is_leaf.ensures ∙ c.if-is_leaf.false), tt)

pub quiet_rows::evaluate_quietly-turns-requires : goal.quiet_rows::evaluate_quietly-turns-requires
quiet_rows::evaluate_quietly-turns-requires g t c κs within =
    let k = c.args.evaluator.now in
    let h = hushed_is k c.open.new.self c.quiet.new.self c.open.ensures c.quiet.ensures in
    (search rules, (within, (subst Sound (sym h) (quieted_sound k (omega arith) c.requires.sound), subst (λ z. Honest z c.args.e) (sym h) c.requires.honest)))

pub quiet_rows::evaluate_quietly-returns-clause-played : goal.quiet_rows::evaluate_quietly-returns-clause-played
quiet_rows::evaluate_quietly-returns-clause-played g t c =
    let k = c.args.evaluator.now in
    let h = hushed_is k c.open.new.self c.quiet.new.self c.open.ensures c.quiet.ensures in
    let w = subst (λ z. TurnsEnd 1 (plain c.args.e) z (Ok c.in_ok-end.end) c.turns.new.evaluator) h c.in_ok-end.ensures.played in
    quiet_ended c.args.e k c.turns.new.evaluator c.in_ok-end.end c.unquiet.new.self (sym c.is_leaf.ensures ∙ c.if-is_leaf.false) c.requires.sound (omega arith) w c.unquiet.ensures

pub quiet_rows::evaluate_quietly-unquiet-requires : goal.quiet_rows::evaluate_quietly-unquiet-requires
quiet_rows::evaluate_quietly-unquiet-requires g t c =
    let k = c.args.evaluator.now in
    let h = hushed_is k c.open.new.self c.quiet.new.self c.open.ensures c.quiet.ensures in
    let w = subst (λ z. TurnsEnd 1 (plain c.args.e) z (Ok c.in_ok-end.end) c.turns.new.evaluator) h c.in_ok-end.ensures.played in
    omega (arith, still_quieted (plain c.args.e) k c.turns.new.evaluator (end_of c.in_ok-end.end) w.0)

pub quiet_rows::quiet_row-returns-clause-played : goal.quiet_rows::quiet_row-returns-clause-played
quiet_rows::quiet_row-returns-clause-played g t c =
    let k = c.args.evaluator.now in
    let k1 = c.evaluate_quietly.new.evaluator in
    let e = c.e-item.result in
    let x = c.in_ok-end.end in
    let es : c.args.args.now ≡ e ∷ [] = search (rules, one_item) in
    quiet_one k k1 c.args.args.now e x c.passed_on.result es (subst (λ (z : Stamped). EndsBy (quiet_end (plain z)) k (Ok x) k1) c.in_ok-copy.ensures c.in_ok-end.ensures.played) (c.passed_on.ensures k1)

pub quiet_rows::quiet_row-returns-in_default-clause-played : goal.quiet_rows::quiet_row-returns-in_default-clause-played
quiet_rows::quiet_row-returns-in_default-clause-played g t c =
    row_stays _ _ (quiet_others c.args.args.now (λ q. elim c.in_default.branch [ quiet_rows::quiet_row-in_default-via-then-args-lt1 w ↦ search rules | quiet_rows::quiet_row-in_default-via-else-args-lt1+else-args-lt2 w ↦ search rules ]))

pub quiet_rows::check_row-evaluate-requires : goal.quiet_rows::check_row-evaluate-requires
quiet_rows::check_row-evaluate-requires g t c κs within =
    let k = c.args.evaluator.now in
    let q = unheard_is k c.set_heard.new.self c.set_heard.ensures in
    let e : Honest k c.e-item.result = search rules in
    (search rules, (within, (subst Sound (sym q) (unheard_sound k c.requires.sound), subst (Honest k) (sym c.in_ok-copy.ensures) e)))

pub quiet_rows::check_row-returns-clause-played : goal.quiet_rows::check_row-returns-clause-played
quiet_rows::check_row-returns-clause-played g t c =
    let k = c.args.evaluator.now in
    let k1 = c.evaluate.new.evaluator in
    let e = c.e-item.result in
    let f = c.other-item.result in
    let x = c.in_ok-end.end in
    let q = unheard_is k c.set_heard.new.self c.set_heard.ensures in
    let es : c.args.args.now ≡ e ∷ f ∷ [] = search (rules, two_items) in
    let w = subst (λ (z : Stamped). Ended (plain z) (unheard k) (Ok x) k1) c.in_ok-copy.ensures (subst (λ z. Ended (plain c.in_ok-copy.field-0) z (Ok x) k1) q c.in_ok-end.ensures.played) in
    let h : Honest k f = search rules in
    let o : c.if-before.set_heard ≡ (c.heard-before.result || c.heard-heard.result) =
    elim c.if-before.branch [ quiet_rows::check_row-then-before v ↦ either_first _ _ _ v.if-before.true (v.set_heard-is ∙ v.if-before.true) | quiet_rows::check_row-else-before v ↦ either_second _ _ _ v.if-before.false v.set_heard-is ] in
    check_two k k1 c.args.args.now e f x c.set_heard-2.new.self c.unless_heard.result es h w (c.set_heard-2.ensures ∙ ap (λ b. with_heard b k1.desk) (o ∙ ap₂ (λ a b. a || b) c.heard-before.ensures c.heard-heard.ensures))
    (λ k2 y z. subst (λ b. Played found_tree (sized_row (unless_heard (plain f) (end_of x, b))) k2 c.unless_heard.result k2) c.heard-heard.ensures (c.unless_heard.ensures k2 y z))

pub quiet_rows::check_row-returns-in_default-clause-played : goal.quiet_rows::check_row-returns-in_default-clause-played
quiet_rows::check_row-returns-in_default-clause-played g t c =
    row_stays _ _ (check_others c.args.args.now (λ q. elim c.in_default.branch [ quiet_rows::check_row-in_default-via-then-args-lt2 w ↦ search rules | quiet_rows::check_row-in_default-via-else-args-lt2+else-args-lt3 w ↦ search rules ]))

pub end_rows::catch_row-returns-then-args-eq1-clause-played : goal.end_rows::catch_row-returns-then-args-eq1-clause-played
end_rows::catch_row-returns-then-args-eq1-clause-played g t c =
    let k = c.args.evaluator.now in
    let k1 = c.evaluate.new.evaluator in
    let e = c.index-args-0.result in
    let x = c.in_ok-end.end in
    let es : c.args.args.now ≡ e ∷ [] = one_item c.args.args.now e (omega (arith, c.if-args-eq1.true)) c.index-args-0.is in
    catch_one k k1 c.args.args.now e x c.caught.result es (subst (λ (z : Stamped). Ended (plain z) k (Ok x) k1) c.in_ok-copy.ensures c.in_ok-end.ensures.played) (c.caught.ensures k1)

pub end_rows::catch_row-returns-then-args-eq2-clause-played : goal.end_rows::catch_row-returns-then-args-eq2-clause-played
end_rows::catch_row-returns-then-args-eq2-clause-played g t c =
    let k = c.args.evaluator.now in
    let es = c.args.args.now in
    let e = c.index-args-0-then-args-eq2.result in
    let p = c.index-args-1.result in
    let x = c.in_ok-end-2.end in
    let q : es ≡ e ∷ p ∷ [] = two_items es e p (omega (arith, c.if-args-eq2.true)) c.index-args-0-then-args-eq2.is c.index-args-1.is in
    catch_two k c.evaluate-then-args-eq2.new.evaluator es e p x c.catch_tagged.result c.catch_tagged.new.evaluator q (subst (λ (z : Stamped). Ended (plain z) k (Ok x) c.evaluate-then-args-eq2.new.evaluator) c.in_ok-copy-2.ensures c.in_ok-end-2.ensures.played) (λ y. c.catch_tagged.ensures.played)

pub end_rows::catch_row-catch_tagged-requires : goal.end_rows::catch_row-catch_tagged-requires
end_rows::catch_row-catch_tagged-requires g t c κs within =
    let k = c.args.evaluator.now in
    let k1 = c.evaluate-then-args-eq2.new.evaluator in
    let es = c.args.args.now in
    let e = c.index-args-0-then-args-eq2.result in
    let p = c.index-args-1.result in
    let x = c.in_ok-end-2.end in
    let q : es ≡ e ∷ p ∷ [] = two_items es e p (omega (arith, c.if-args-eq2.true)) c.index-args-0-then-args-eq2.is c.index-args-1.is in
    let w = c.in_ok-end-2.ensures.played in
    (search rules, (within, (w.0.sound c.requires.sound, (later w.0 p (second_honest k es e p q c.requires.args), end_honest k1.depth k1 x w.1))))

pub end_rows::catch_row-returns-clause-played : goal.end_rows::catch_row-returns-clause-played
end_rows::catch_row-returns-clause-played g t c = row_stays _ _ (catch_others c.args.args.now c.if-args-eq1.false c.if-args-eq2.false)

pub end_rows::check_abort_row-returns-clause-played : goal.end_rows::check_abort_row-returns-clause-played
end_rows::check_abort_row-returns-clause-played g t c =
    let k = c.args.evaluator.now in
    let k1 = c.evaluate.new.evaluator in
    let e = c.e-item.result in
    let f = c.other-item.result in
    let x = c.in_ok-end.end in
    let es : c.args.args.now ≡ e ∷ f ∷ [] = search (rules, two_items) in
    let h : Honest k f = search rules in
    abort_two k k1 c.args.args.now e f x c.after_abort.result es (subst (λ (z : Stamped). Ended (plain z) k (Ok x) k1) c.in_ok-copy.ensures c.in_ok-end.ensures.played) (λ y. c.after_abort.ensures k1 y (later c.in_ok-end.ensures.played.0 f h))

pub end_rows::check_abort_row-returns-in_default-clause-played : goal.end_rows::check_abort_row-returns-in_default-clause-played
end_rows::check_abort_row-returns-in_default-clause-played g t c =
    row_stays _ _ (check_abort_others c.args.args.now (λ q. elim c.in_default.branch [ end_rows::check_abort_row-in_default-via-then-args-lt2 w ↦ search rules | end_rows::check_abort_row-in_default-via-else-args-lt2+else-args-lt3 w ↦ search rules ]))

pub end_rows::catch_tagged-returns-in_default-clause-played : goal.end_rows::catch_tagged-returns-in_default-clause-played
end_rows::catch_tagged-returns-in_default-clause-played g t c =
    tagged_passed (plain c.args.pattern.now) c.args.evaluator.now c.args.end c.passed_on.result c.in_default.not-Thrown (c.passed_on.ensures c.args.evaluator.now c.requires.honest)

pub end_rows::catch_tagged-returns-in-None-clause-played : goal.end_rows::catch_tagged-returns-in-None-clause-played
end_rows::catch_tagged-returns-in-None-clause-played g t c = tagged_thrown (plain c.args.pattern.now) c.args.evaluator.now c.args.end c.in-Thrown.v c.in-Thrown.tag c.in-Thrown.is c.in-None.is c.requires.honest

pub end_rows::catch_tagged-returns-in-Some-clause-played : goal.end_rows::catch_tagged-returns-in-Some-clause-played
end_rows::catch_tagged-returns-in-Some-clause-played g t c =
    subst (λ z. Played found_tree (sized_row (catch_tagged (plain c.args.pattern.now) (end_of z))) c.args.evaluator.now c.catch_thrown.result c.catch_thrown.new.evaluator)
    (sym (tagged_is c.args.end c.in-Thrown.v c.in-Thrown.tag c.in-Some.tag c.in-Thrown.is c.in-Some.is)) c.catch_thrown.ensures.played

pub end_rows::catch_thrown-returns-in_err-found-clause-played : goal.end_rows::catch_thrown-returns-in_err-found-clause-played
end_rows::catch_thrown-returns-in_err-found-clause-played g t c =
    let p = err_from_is_err_and c.from_residual.result c.from_residual.ensures.1 in
    let w = c.in_err-found.ensures.played (2 ^ 64) (omega arith) in
    subst (λ z. Played found_tree (sized_row (catch_tagged (plain c.args.pattern.now) (Thrown (plain c.args.v) (Some (plain c.args.tag))))) c.args.evaluator.now z c.matches.new.evaluator) (sym (p.1 ∙ ap Err p.2))
    (thrown_stops (plain c.args.pattern.now) (plain c.args.v) (plain c.args.tag) c.args.evaluator.now c.in_err-found.field-0.0 c.matches.new.evaluator w)

pub end_rows::catch_thrown-returns-then-found-clause-played : goal.end_rows::catch_thrown-returns-then-found-clause-played
end_rows::catch_thrown-returns-then-found-clause-played g t c =
    let w = c.in_ok-found.ensures.played (2 ^ 64) (omega arith) in
    thrown_caught (plain c.args.pattern.now) c.args.v c.args.tag c.args.evaluator.now c.matches.new.evaluator c.in_ok-found.found w.0 c.if-found.true c.weight-weight.ensures.fits (later w.0 _ c.requires.value)

pub end_rows::catch_thrown-returns-clause-played : goal.end_rows::catch_thrown-returns-clause-played
end_rows::catch_thrown-returns-clause-played g t c =
    let w = c.in_ok-found.ensures.played (2 ^ 64) (omega arith) in
    thrown_on (plain c.args.pattern.now) c.args.v c.args.tag c.args.evaluator.now c.matches.new.evaluator c.in_ok-found.found w.0 c.if-found.false (later w.0 _ c.requires.value) (later w.0 _ c.requires.tag)

pub built_in::built_in-returns-clause-played : goal.built_in::built_in-returns-clause-played
built_in::built_in-returns-clause-played g t c =
    let es = c.in-Node.args.now in
    let h = plain c.in-Node.head.now in
    let q = ap (λ us. node h us) (sym (plains_trees es)) ∙ c.in-Node.ensures.plain in
    subst (λ p. Played found_tree p c.args.evaluator.now c.function_row.result c.function_row.new.self) (sym (built_in-function h (trees es) (plain c.args.form.now) q (no_symbol _ _ _ c.view-2.ensures.all c.in_default-view.not-Symbol)))
    c.function_row.ensures.played

pub built_in::other_row-returns-in-Throw-clause-played : goal.built_in::other_row-returns-in-Throw-clause-played
built_in::other_row-returns-in-Throw-clause-played g t c = subst (λ z. Played found_tree (sized_row (kinds.row_by z (trees c.args.args.now))) c.args.evaluator.now c.throw_row.result c.args.evaluator.now) (sym c.in-Throw.is) (c.throw_row.ensures c.args.evaluator.now c.requires.args)

pub built_in::other_row-returns-in-Catch-clause-played : goal.built_in::other_row-returns-in-Catch-clause-played
built_in::other_row-returns-in-Catch-clause-played g t c = subst (λ z. Played found_tree (sized_row (kinds.row_by z (trees c.args.args.now))) c.args.evaluator.now c.catch_row.result c.catch_row.new.evaluator) (sym c.in-Catch.is) c.catch_row.ensures.played

pub built_in::other_row-returns-in-Abort-clause-played : goal.built_in::other_row-returns-in-Abort-clause-played
built_in::other_row-returns-in-Abort-clause-played g t c = subst (λ z. Played found_tree (sized_row (kinds.row_by z (trees c.args.args.now))) c.args.evaluator.now c.abort_row.result c.args.evaluator.now) (sym c.in-Abort.is) (c.abort_row.ensures c.args.evaluator.now)

pub built_in::other_row-returns-in-CheckAbort-clause-played : goal.built_in::other_row-returns-in-CheckAbort-clause-played
built_in::other_row-returns-in-CheckAbort-clause-played g t c = subst (λ z. Played found_tree (sized_row (kinds.row_by z (trees c.args.args.now))) c.args.evaluator.now c.check_abort_row.result c.check_abort_row.new.evaluator) (sym c.in-CheckAbort.is) c.check_abort_row.ensures.played

pub built_in::other_row-returns-in-Break-clause-played : goal.built_in::other_row-returns-in-Break-clause-played
built_in::other_row-returns-in-Break-clause-played g t c = subst (λ z. Played found_tree (sized_row (kinds.row_by z (trees c.args.args.now))) c.args.evaluator.now c.break_row.result c.args.evaluator.now) (sym c.in-Break.is) (c.break_row.ensures c.args.evaluator.now)

pub built_in::other_row-returns-in-Continue-clause-played : goal.built_in::other_row-returns-in-Continue-clause-played
built_in::other_row-returns-in-Continue-clause-played g t c = subst (λ z. Played found_tree (sized_row (kinds.row_by z (trees c.args.args.now))) c.args.evaluator.now c.continue_row.result c.args.evaluator.now) (sym c.in-Continue.is) (c.continue_row.ensures c.args.evaluator.now)

pub built_in::other_row-returns-in-Quiet-clause-played : goal.built_in::other_row-returns-in-Quiet-clause-played
built_in::other_row-returns-in-Quiet-clause-played g t c = subst (λ z. Played found_tree (sized_row (kinds.row_by z (trees c.args.args.now))) c.args.evaluator.now c.quiet_row.result c.quiet_row.new.evaluator) (sym c.in-Quiet.is) c.quiet_row.ensures.played

pub built_in::other_row-returns-in-Check-clause-played : goal.built_in::other_row-returns-in-Check-clause-played
built_in::other_row-returns-in-Check-clause-played g t c = subst (λ z. Played found_tree (sized_row (kinds.row_by z (trees c.args.args.now))) c.args.evaluator.now c.check_row.result c.check_row.new.evaluator) (sym c.in-Check.is) c.check_row.ensures.played

-- ---- a rule that matches nothing but itself

-- ---- left sides

pub left_sides::evaluated_core-returns-in_default-clause-played : goal.left_sides::evaluated_core-returns-in_default-clause-played
left_sides::evaluated_core-returns-in_default-clause-played g t c =
    leaf_core c.args.core.now c.in_ok-copy.field-0 c.args.evaluator.now (no_node _ _ _ c.view.ensures.all c.in_default.not-Node) c.in_ok-copy.ensures c.requires.honest

pub left_sides::evaluated_core-evaluated_core-requires : goal.left_sides::evaluated_core-evaluated_core-requires
left_sides::evaluated_core-evaluated_core-requires g t c κs within =
    let d = head_depth (plain c.in-Node.head.now) (plain c.args.core.now) c.in-Node.args.now c.in-Node.ensures.plain in
    (omega (arith, d), (within, (c.requires.sound, head_honest c.args.evaluator.now.store _ c.in-Node.head.now c.in-Node.args.now c.args.core.now c.in-Node.ensures.all c.requires.honest)))

pub left_sides::evaluated_core-returns-in_err-made-clause-played : goal.left_sides::evaluated_core-returns-in_err-made-clause-played
left_sides::evaluated_core-returns-in_err-made-clause-played g t c =
    head_stop (plain c.in-Node.head.now) (plain c.args.core.now) c.in-Node.args.now c.args.evaluator.now c.evaluated_core.new.evaluator c.from_residual-in_err-made.result _ c.in-Node.ensures.plain c.from_residual-in_err-made.ensures.1 c.in_err-made.ensures.played

pub left_sides::evaluated_core-attributes_of_made-requires : goal.left_sides::evaluated_core-attributes_of_made-requires
left_sides::evaluated_core-attributes_of_made-requires g t c = record { sound = c.in_ok-made.ensures.played.1.sound c.requires.sound }

pub left_sides::evaluated_core-elements-requires : goal.left_sides::evaluated_core-elements-requires
left_sides::evaluated_core-elements-requires g t c κs within =
    let m = c.in_ok-made.ensures.played in
    let w = c.in_ok-attributes.ensures.played m.0 m.2 in
    let es = c.in-Node.args.now in (
      omega (arith, c.in_ok-made.ensures.falls, c.in_ok-attributes.ensures.kept),
      (within, (w.sound (m.1.sound c.requires.sound), all_later w es (all_later m.1 es (args_honest c.args.evaluator.now.store _ c.in-Node.head.now es c.args.core.now c.in-Node.ensures.all c.requires.honest)))),
    )

pub left_sides::evaluated_core-returns-in_err-values-clause-played : goal.left_sides::evaluated_core-returns-in_err-values-clause-played
left_sides::evaluated_core-returns-in_err-values-clause-played g t c =
    let m = c.in_ok-made.ensures.played in
    values_stop (plain c.in-Node.head.now) (plain c.args.core.now) c.in-Node.args.now c.in_ok-attributes.attributes c.args.evaluator.now c.evaluated_core.new.evaluator c.attributes_of_made.new.self c.elements.new.evaluator m.0 c.from_residual-in_err-values.result _ c.in-Node.ensures.plain m.1 (c.in_ok-attributes.ensures.played m.0 m.2)
    c.from_residual-in_err-values.ensures.1 c.in_err-values.ensures.played

pub left_sides::evaluated_core-returns-clause-played : goal.left_sides::evaluated_core-returns-clause-played
left_sides::evaluated_core-returns-clause-played g t c =
    let m = c.in_ok-made.ensures.played in
    let w = c.in_ok-attributes.ensures.played m.0 m.2 in
    let x = c.in_ok-values.ensures.played in
    core_done (plain c.in-Node.head.now) (plain c.args.core.now) c.in-Node.args.now c.in_ok-values.values.items c.in_ok-attributes.attributes c.args.evaluator.now c.evaluated_core.new.evaluator c.attributes_of_made.new.self c.elements.new.evaluator m.0 c.in_ok-core_made.field-0 c.in-Node.ensures.plain m.1 w x.0
    (subst (λ zs. Stands (applied m.0 (without_sequences c.in_ok-attributes.attributes (trees zs))) c.in_ok-core_made.field-0) c.as_slice.ensures.value (c.in_ok-core_made.ensures.made m.0 m.2))
    (c.in_ok-core_made.ensures.honest c.elements.new.evaluator.store (option_later x.0 _ (option_later w _ m.3)) (subst (AllHonest c.elements.new.evaluator) (sym c.as_slice.ensures.value) x.1.0))

pub left_sides::core_of-returns-then-found-clause-played : goal.left_sides::core_of-returns-then-found-clause-played
left_sides::core_of-returns-then-found-clause-played g t c =
    let k = c.args.evaluator.now in
    let l = c.args.left.now in
    let e = c.in_ok-copy.field-0 in
    held_made (plain l) e k (sym c.core-found.ensures.held ∙ c.if-found.true) (ap plain c.in_ok-copy.ensures ∙ c.core-found.ensures.core)
    (subst (Honest k) (sym c.in_ok-copy.ensures) (passed_honest k.store l _ c.core-found.ensures.passed c.requires.honest))

pub left_sides::core_of-evaluated_core-requires : goal.left_sides::core_of-evaluated_core-requires
left_sides::core_of-evaluated_core-requires g t c κs within =
    (omega (arith, c.depth-depth.ensures.fits.shallow), (within, (c.requires.sound, passed_honest c.args.evaluator.now.store c.args.left.now _ c.core-found.ensures.passed c.requires.honest)))

pub left_sides::core_of-returns-clause-played : goal.left_sides::core_of-returns-clause-played
left_sides::core_of-returns-clause-played g t c =
    open_made (plain c.args.left.now) (plain c.core-found.result.core.now) _ _ _ (sym c.core-found.ensures.held ∙ c.if-found.false) c.core-found.ensures.core c.evaluated_core.ensures.played

pub left_sides::prepared-returns-in_err-core-clause-played : goal.left_sides::prepared-returns-in_err-core-clause-played
left_sides::prepared-returns-in_err-core-clause-played g t c =
    prepared_stop (option_map (λ e. plain e.now) c.args.condition) (plain c.args.left.now) c.args.evaluator.now _ _ _ c.from_residual.ensures.1 c.in_err-core.ensures.played

pub left_sides::prepared-unreachable-requires : goal.left_sides::prepared-unreachable-requires
left_sides::prepared-unreachable-requires g t c =
    let some = made_is (λ _. is_some c.in_ok-core.core ≡ true) c.put_back-made.result c.in_ok-left.left c.in_ok-left.ensures.made c.put_back-made.ensures.some in
    true≢false (sym some ∙ ap is_some c.in_default.is)

pub left_sides::prepared-returns-in_err-left-clause-played : goal.left_sides::prepared-returns-in_err-left-clause-played
left_sides::prepared-returns-in_err-left-clause-played g t c =
    let o = option_map (λ e. plain e.now) c.args.condition in
    let l = plain c.args.left.now in
    let m = c.in_ok-core.ensures.played in
    unsized_stop o l c.args.evaluator.now m.0 _ m.1 _ _ _ c.from_residual-in_err-left.ensures.1 (c.in_err-left.ensures.played (with_core (under o l) m.0) (c.put_back-made.ensures.made m.0 m.2))

pub left_sides::prepared-returns-clause-played : goal.left_sides::prepared-returns-clause-played
left_sides::prepared-returns-clause-played g t c =
    let o = option_map (λ e. plain e.now) c.args.condition in
    let l = c.args.left.now in
    let k = c.args.evaluator.now in
    let k1 = c.core_of.new.evaluator in
    let m = c.in_ok-core.ensures.played in
    let f = c.in_ok-left.ensures.played (with_core (under o (plain l)) m.0) (c.put_back-made.ensures.made m.0 m.2) in
    let s = subst (Stands m.0) c.in-Some.is m.2 in
    let h = made_is (Honest k1) _ c.in_ok-left.left c.in_ok-left.ensures.made (c.put_back-made.ensures.honest k1.store (later m.1 _ c.requires.honest) (condition_later m.1 c.args.condition c.requires.condition) m.3) in
    (sides_given o (plain l) k m.0 k1 m.1 c.in_ok-left.left c.in-Some.core c.fitted.new.self f.0 f.1 s, later f.0 _ h)

pub left_sides::prepared-returns-clause-left : goal.left_sides::prepared-returns-clause-left
left_sides::prepared-returns-clause-left g t c =
    let o = option_map (λ e. plain e.now) c.args.condition in
    let l = plain c.args.left.now in
    let m = c.in_ok-core.ensures.played in
    let f = c.in_ok-left.ensures.played (with_core (under o l) m.0) (c.put_back-made.ensures.made m.0 m.2) in
    f.1 ∙ ap (with_core (under o l)) (sym (subst (Stands m.0) c.in-Some.is m.2))

-- ---- definitions

pub set_rows::define-prepared-requires : goal.set_rows::define-prepared-requires
set_rows::define-prepared-requires g t c κs within = (search rules, (within, (c.requires.sound, (c.requires.left, c.moved.ensures.condition c.args.evaluator.now.store c.requires.value))))

pub set_rows::define-returns-in_err-sides-clause-played : goal.set_rows::define-returns-in_err-sides-clause-played
set_rows::define-returns-in_err-sides-clause-played g t c =
    let l = plain c.args.left.now in
    define_stop c.args.immediate l (plain c.args.value.now) _ c.args.evaluator.now c.prepared.new.evaluator c.from_residual.result _ (c.moved.ensures.moved l) c.from_residual.ensures.1 c.in_err-sides.ensures.played

pub set_rows::define-define_target-requires : goal.set_rows::define-define_target-requires
set_rows::define-define_target-requires g t c =
    let m = c.in_ok-sides.ensures.played in
    record {
      sound = m.0.sound c.requires.sound;
      left = m.1;
      body = later m.0 _ (c.moved.ensures.body c.args.evaluator.now.store c.requires.value);
      unmoved = λ x e. c.moved.ensures.stays (no_condition _ _ _ _ _ x c.in_ok-sides.ensures.left e);
    }

pub set_rows::define-returns-clause-played : goal.set_rows::define-returns-clause-played
set_rows::define-returns-clause-played g t c =
    let l = plain c.args.left.now in
    let v = plain c.args.value.now in (
      subst (λ p. Plays p c.args.evaluator.now (Ok c.in_ok-define_target.field-0) c.define_target.new.self false) (sym (define_sides c.args.immediate l v _ (c.moved.ensures.moved l)))
          (plays_bind _ _ c.in_ok-sides.ensures.played.0 c.in_ok-define_target.ensures.played),
      tt,
    )

pub tag_rows::define_up-prepared-requires : goal.tag_rows::define_up-prepared-requires
tag_rows::define_up-prepared-requires g t c κs within = (search rules, (within, (c.requires.sound, (c.requires.left, c.moved.ensures.condition c.args.evaluator.now.store c.requires.value))))

pub tag_rows::define_up-returns-in_err-sides-clause-played : goal.tag_rows::define_up-returns-in_err-sides-clause-played
tag_rows::define_up-returns-in_err-sides-clause-played g t c =
    let l = plain c.args.left.now in
    let v = plain c.args.value.now in
    subst (λ p. Played itself p c.args.evaluator.now c.from_residual.result c.prepared.new.evaluator) (sym (define_up_sides l v _ (c.moved.ensures.moved l)))
    (exit prepared_side itself _ _ _ _ _ _ c.from_residual.ensures.1 c.in_err-sides.ensures.played)

pub tag_rows::define_up-define_up_target-requires : goal.tag_rows::define_up-define_up_target-requires
tag_rows::define_up-define_up_target-requires g t c =
    let m = c.in_ok-sides.ensures.played in
    record { sound = m.0.sound c.requires.sound; left = m.1; body = later m.0 _ (c.moved.ensures.body c.args.evaluator.now.store c.requires.value) }

pub tag_rows::define_up-returns-clause-played : goal.tag_rows::define_up-returns-clause-played
tag_rows::define_up-returns-clause-played g t c =
    let l = plain c.args.left.now in
    let v = plain c.args.value.now in (
      subst (λ p. Plays p c.args.evaluator.now (Ok c.in_ok-define_up_target.field-0) c.define_up_target.new.self false) (sym (define_up_sides l v _ (c.moved.ensures.moved l)))
          (plays_bind _ _ c.in_ok-sides.ensures.played.0 c.in_ok-define_up_target.ensures.played),
      tt,
    )

pub tag_rows::define_tagged-prepared-requires : goal.tag_rows::define_tagged-prepared-requires
tag_rows::define_tagged-prepared-requires g t c κs within = (search rules, (within, (c.requires.1.1.1.0, (c.requires.1.1.1.1.1.0, c.moved.ensures.condition c.args.evaluator.now.store c.requires.1.1.1.1.1.1))))

pub tag_rows::define_tagged-returns-in_err-sides-clause-played : goal.tag_rows::define_tagged-returns-in_err-sides-clause-played
tag_rows::define_tagged-returns-in_err-sides-clause-played g t c =
    let l = plain c.args.left.now in
    let v = plain c.args.value.now in
    subst (λ p. Played itself p c.args.evaluator.now c.from_residual.result c.prepared.new.evaluator) (sym (define_tagged_sides c.args.name.now l v _ (c.moved.ensures.moved l)))
    (exit prepared_side itself _ _ _ _ _ _ c.from_residual.ensures.1 c.in_err-sides.ensures.played)

pub tag_rows::define_tagged-define_tagged_by-requires : goal.tag_rows::define_tagged-define_tagged_by-requires
tag_rows::define_tagged-define_tagged_by-requires g t c =
    let m = c.in_ok-sides.ensures.played in
    record { sound = m.0.sound c.requires.1.1.1.0; name = c.requires.1.1.1.1.0; left = m.1; body = later m.0 _ (c.moved.ensures.body c.args.evaluator.now.store c.requires.1.1.1.1.1.1) }

pub tag_rows::define_tagged-returns-clause-played : goal.tag_rows::define_tagged-returns-clause-played
tag_rows::define_tagged-returns-clause-played g t c =
    let l = plain c.args.left.now in
    let v = plain c.args.value.now in (
      subst (λ p. Plays p c.args.evaluator.now (Ok c.in_ok-define_tagged_by.field-0) c.define_tagged_by.new.self false) (sym (define_tagged_sides c.args.name.now l v _ (c.moved.ensures.moved l)))
          (plays_bind _ _ c.in_ok-sides.ensures.played.0 c.in_ok-define_tagged_by.ensures.played),
      tt,
    )

-- ---- the rows that define

pub set_rows::set_row-returns-in_default-clause-played : goal.set_rows::set_row-returns-in_default-clause-played
set_rows::set_row-returns-in_default-clause-played g t c = row_stays _ _ (set_row-by (trees c.args.args.now) ∙ ap (by set_both) (sym c.in_default.ensures.value))

pub set_rows::set_row-set-requires : goal.set_rows::set_row-set-requires
set_rows::set_row-set-requires g t c κs within =
    (omega (arith, c.depth-depth.ensures.fits.shallow), (within, (c.requires.sound, c.in-Some.ensures.honest c.args.evaluator.now.store c.requires.args)))

pub set_rows::set_row-returns-in_err-set-clause-played : goal.set_rows::set_row-returns-in_err-set-clause-played
set_rows::set_row-returns-in_err-set-clause-played g t c =
    read_some set_both _ _ (set_row-by (trees c.args.args.now)) c.args.evaluator.now _ _ _ (sym c.in-Some.ensures.value) (row_exit itself _ _ _ _ _ _ c.from_residual.ensures.1 c.in_err-set.ensures.played)

pub set_rows::set_row-returns-clause-played : goal.set_rows::set_row-returns-clause-played
set_rows::set_row-returns-clause-played g t c =
    let k = c.args.evaluator.now in
    let es = trees c.args.args.now in
    let v = c.in-Some.value.now in
    let h = c.in_ok-set.ensures.played.0 in
    subst (λ z. Played found_tree (sized_row (definitions.set_row es)) k (Ok (Some z)) c.set.new.evaluator) (sym c.in_ok-copy.ensures)
    (read_some set_both _ _ (set_row-by es) k _ (Ok (Some v)) _ (sym c.in-Some.ensures.value) (row_gives _ _ _ v (plays_bind _ _ h plays_done) ((fits_decides (plain v)).1 c.weight-weight.ensures.fits) (later h _ (c.in-Some.ensures.honest k.store c.requires.args).1)))

pub set_rows::set_delayed_row-returns-in_default-clause-played : goal.set_rows::set_delayed_row-returns-in_default-clause-played
set_rows::set_delayed_row-returns-in_default-clause-played g t c = row_stays _ _ (set_delayed_row-by (trees c.args.args.now) ∙ ap (by delay_both) (sym c.in_default.ensures.value))

pub set_rows::set_delayed_row-define-requires : goal.set_rows::set_delayed_row-define-requires
set_rows::set_delayed_row-define-requires g t c κs within = (search rules, (within, (c.requires.sound, c.in-Some.ensures.honest c.args.evaluator.now.store c.requires.args)))

pub set_rows::set_delayed_row-returns-in_err-is_refused-clause-played : goal.set_rows::set_delayed_row-returns-in_err-is_refused-clause-played
set_rows::set_delayed_row-returns-in_err-is_refused-clause-played g t c =
    read_some delay_both _ _ (set_delayed_row-by (trees c.args.args.now)) c.args.evaluator.now _ _ _ (sym c.in-Some.ensures.value) (row_exit itself _ _ _ _ _ _ c.from_residual.ensures.1 c.in_err-is_refused.ensures.played)

pub set_rows::set_delayed_row-returns-clause-played : goal.set_rows::set_delayed_row-returns-clause-played
set_rows::set_delayed_row-returns-clause-played g t c =
    let p = definitions.define false (plain c.in-Some.left.now) (plain c.in-Some.value.now) in
    read_some delay_both _ _ (set_delayed_row-by (trees c.args.args.now)) c.args.evaluator.now _ (Ok (Some c.in_ok-refusal.field-0)) c.define.new.evaluator (sym c.in-Some.ensures.value)
    (row_refusal p c.in_ok-is_refused.is_refused c.args.evaluator.now c.define.new.evaluator c.in_ok-refusal.field-0 c.in_ok-refusal.ensures c.in_ok-is_refused.ensures.played.0)

pub set_rows::unset_row-returns-in_default-clause-played : goal.set_rows::unset_row-returns-in_default-clause-played
set_rows::unset_row-returns-in_default-clause-played g t c = row_stays _ _ (unset_row-by (trees c.args.args.now) ∙ ap (by unset_one) (sym c.in_default.ensures.value))

pub set_rows::unset_row-prepared-requires : goal.set_rows::unset_row-prepared-requires
set_rows::unset_row-prepared-requires g t c κs within = (search rules, (within, (c.requires.sound, (c.in-Some.ensures.honest c.args.evaluator.now.store c.requires.args, tt))))

pub set_rows::unset_row-returns-in_err-sides-clause-played : goal.set_rows::unset_row-returns-in_err-sides-clause-played
set_rows::unset_row-returns-in_err-sides-clause-played g t c =
    read_some unset_one _ _ (unset_row-by (trees c.args.args.now)) c.args.evaluator.now _ _ _ (sym c.in-Some.ensures.value) (row_exit prepared_side _ _ _ _ _ _ c.from_residual.ensures.1 c.in_err-sides.ensures.played)

pub set_rows::unset_row-unset_target-requires : goal.set_rows::unset_row-unset_target-requires
set_rows::unset_row-unset_target-requires g t c = record { sound = c.in_ok-sides.ensures.played.0.sound c.requires.sound }

pub set_rows::unset_row-returns-clause-played : goal.set_rows::unset_row-returns-clause-played
set_rows::unset_row-returns-clause-played g t c =
    let l = plain c.in-Some.left.now in
    let e = c.in_ok-refusal.field-0 in
    let k = c.args.evaluator.now in
    let k2 = c.unset_target.new.self in
    read_some unset_one _ _ (unset_row-by (trees c.args.args.now)) k _ (Ok (Some e)) k2 (sym c.in-Some.ensures.value)
    (row_taken (unset_one l) c.in_ok-is_taken.is_taken k k2 e c.in_ok-refusal.ensures (unset_plays l _ _ k c.prepared.new.evaluator k2 c.in_ok-sides.ensures.played.0 c.in_ok-is_taken.ensures.played))

-- ---- the rows that define by tags

pub tag_rows::up_set_row-returns-in_default-clause-played : goal.tag_rows::up_set_row-returns-in_default-clause-played
tag_rows::up_set_row-returns-in_default-clause-played g t c = row_stays _ _ (up_set_row-by (trees c.args.args.now) ∙ ap (by up_both) (sym c.in_default.ensures.value))

pub tag_rows::up_set_row-define_up-requires : goal.tag_rows::up_set_row-define_up-requires
tag_rows::up_set_row-define_up-requires g t c κs within = (search rules, (within, (c.requires.sound, c.in-Some.ensures.honest c.args.evaluator.now.store c.requires.args)))

pub tag_rows::up_set_row-returns-in_err-_refused-clause-played : goal.tag_rows::up_set_row-returns-in_err-_refused-clause-played
tag_rows::up_set_row-returns-in_err-_refused-clause-played g t c =
    read_some up_both _ _ (up_set_row-by (trees c.args.args.now)) c.args.evaluator.now _ _ _ (sym c.in-Some.ensures.value) (row_exit itself _ _ _ _ _ _ c.from_residual.ensures.1 c.in_err-_refused.ensures.played)

pub tag_rows::up_set_row-returns-clause-played : goal.tag_rows::up_set_row-returns-clause-played
tag_rows::up_set_row-returns-clause-played g t c =
    let k = c.args.evaluator.now in
    let es = trees c.args.args.now in
    let v = c.in-Some.value.now in
    let h = c.in_ok-_refused.ensures.played.0 in
    subst (λ z. Played found_tree (sized_row (definitions.up_set_row es)) k (Ok (Some z)) c.define_up.new.evaluator) (sym c.in_ok-copy.ensures)
    (read_some up_both _ _ (up_set_row-by es) k _ (Ok (Some v)) _ (sym c.in-Some.ensures.value) (row_gives _ _ _ v (plays_bind _ _ h plays_done) ((fits_decides (plain v)).1 c.weight-weight.ensures.fits) (later h _ (c.in-Some.ensures.honest k.store c.requires.args).1)))

pub tag_rows::up_set_delayed_row-returns-in_default-clause-played : goal.tag_rows::up_set_delayed_row-returns-in_default-clause-played
tag_rows::up_set_delayed_row-returns-in_default-clause-played g t c = row_stays _ _ (up_set_delayed_row-by (trees c.args.args.now) ∙ ap (by up_delay_both) (sym c.in_default.ensures.value))

pub tag_rows::up_set_delayed_row-define_up-requires : goal.tag_rows::up_set_delayed_row-define_up-requires
tag_rows::up_set_delayed_row-define_up-requires g t c κs within = (search rules, (within, (c.requires.sound, c.in-Some.ensures.honest c.args.evaluator.now.store c.requires.args)))

pub tag_rows::up_set_delayed_row-returns-in_err-is_refused-clause-played : goal.tag_rows::up_set_delayed_row-returns-in_err-is_refused-clause-played
tag_rows::up_set_delayed_row-returns-in_err-is_refused-clause-played g t c =
    read_some up_delay_both _ _ (up_set_delayed_row-by (trees c.args.args.now)) c.args.evaluator.now _ _ _ (sym c.in-Some.ensures.value) (row_exit itself _ _ _ _ _ _ c.from_residual.ensures.1 c.in_err-is_refused.ensures.played)

pub tag_rows::up_set_delayed_row-returns-clause-played : goal.tag_rows::up_set_delayed_row-returns-clause-played
tag_rows::up_set_delayed_row-returns-clause-played g t c =
    read_some up_delay_both _ _ (up_set_delayed_row-by (trees c.args.args.now)) c.args.evaluator.now _ (Ok (Some c.in_ok-refusal.field-0)) c.define_up.new.evaluator (sym c.in-Some.ensures.value) (row_refusal _ c.in_ok-is_refused.is_refused _ _ c.in_ok-refusal.field-0 c.in_ok-refusal.ensures c.in_ok-is_refused.ensures.played.0)

pub tag_rows::tag_set_row-returns-in_default-clause-played : goal.tag_rows::tag_set_row-returns-in_default-clause-played
tag_rows::tag_set_row-returns-in_default-clause-played g t c = row_stays _ _ (tag_set_row-by (trees c.args.args.now) ∙ ap (by tag_three) (sym c.in_default.ensures.value))

pub tag_rows::tag_set_row-value_of-requires : goal.tag_rows::tag_set_row-value_of-requires
tag_rows::tag_set_row-value_of-requires g t c κs within = (search rules, (within, (c.requires.sound, (c.in-Some.ensures.honest c.args.evaluator.now.store c.requires.args).1)))

pub tag_rows::tag_set_row-returns-in_err-value-clause-played : goal.tag_rows::tag_set_row-returns-in_err-value-clause-played
tag_rows::tag_set_row-returns-in_err-value-clause-played g t c =
    read_some tag_three _ _ (tag_set_row-by (trees c.args.args.now)) c.args.evaluator.now _ _ _ (sym c.in-Some.ensures.value) (row_exit value _ _ _ _ _ _ c.from_residual.ensures.1 c.in_err-value.ensures.played)

pub tag_rows::tag_set_row-define_tagged-requires : goal.tag_rows::tag_set_row-define_tagged-requires
tag_rows::tag_set_row-define_tagged-requires g t c κs within =
    let h = c.in-Some.ensures.honest c.args.evaluator.now.store c.requires.args in
    let v = c.in_ok-value.ensures.played in
    (search rules, (within, (v.0.sound c.requires.sound, (c.in-Some.ensures.name, (later v.0 _ h.0, v.1.0)))))

pub tag_rows::tag_set_row-returns-in_err-_refused-clause-played : goal.tag_rows::tag_set_row-returns-in_err-_refused-clause-played
tag_rows::tag_set_row-returns-in_err-_refused-clause-played g t c =
    read_some tag_three _ _ (tag_set_row-by (trees c.args.args.now)) c.args.evaluator.now _ _ _ (sym c.in-Some.ensures.value)
    (tag_stop c.in-Some.name.now (plain c.in-Some.left.now) (plain c.in-Some.value.now) c.args.evaluator.now (plain c.in_ok-value.value) _ _ _ _ c.from_residual-in_err-_refused.ensures.1 c.in_ok-value.ensures.played.0 c.in_err-_refused.ensures.played)

pub tag_rows::tag_set_row-returns-clause-played : goal.tag_rows::tag_set_row-returns-clause-played
tag_rows::tag_set_row-returns-clause-played g t c =
    let v = c.in_ok-value.ensures.played in
    let e = c.in_ok-value.value in
    let h = c.in_ok-_refused.ensures.played.0 in
    read_some tag_three _ _ (tag_set_row-by (trees c.args.args.now)) c.args.evaluator.now _ (Ok (Some e)) c.define_tagged.new.evaluator (sym c.in-Some.ensures.value)
    (tag_given c.in-Some.name.now (plain c.in-Some.left.now) (plain c.in-Some.value.now) c.args.evaluator.now e c.in_ok-_refused._refused _ _ v.0 h ((fits_decides (plain e)).1 c.weight-weight.ensures.fits) (later h _ v.1.0))

pub tag_rows::tag_set_delayed_row-returns-in_default-clause-played : goal.tag_rows::tag_set_delayed_row-returns-in_default-clause-played
tag_rows::tag_set_delayed_row-returns-in_default-clause-played g t c = row_stays _ _ (tag_set_delayed_row-by (trees c.args.args.now) ∙ ap (by tag_delay_three) (sym c.in_default.ensures.value))

pub tag_rows::tag_set_delayed_row-define_tagged-requires : goal.tag_rows::tag_set_delayed_row-define_tagged-requires
tag_rows::tag_set_delayed_row-define_tagged-requires g t c κs within =
    (search rules, (within, (c.requires.sound, (c.in-Some.ensures.name, c.in-Some.ensures.honest c.args.evaluator.now.store c.requires.args))))

pub tag_rows::tag_set_delayed_row-returns-in_err-is_refused-clause-played : goal.tag_rows::tag_set_delayed_row-returns-in_err-is_refused-clause-played
tag_rows::tag_set_delayed_row-returns-in_err-is_refused-clause-played g t c =
    read_some tag_delay_three _ _ (tag_set_delayed_row-by (trees c.args.args.now)) c.args.evaluator.now _ _ _ (sym c.in-Some.ensures.value) (row_exit itself _ _ _ _ _ _ c.from_residual.ensures.1 c.in_err-is_refused.ensures.played)

pub tag_rows::tag_set_delayed_row-returns-clause-played : goal.tag_rows::tag_set_delayed_row-returns-clause-played
tag_rows::tag_set_delayed_row-returns-clause-played g t c =
    read_some tag_delay_three _ _ (tag_set_delayed_row-by (trees c.args.args.now)) c.args.evaluator.now _ (Ok (Some c.in_ok-refusal.field-0)) c.define_tagged.new.evaluator (sym c.in-Some.ensures.value) (row_refusal _ c.in_ok-is_refused.is_refused _ _ c.in_ok-refusal.field-0 c.in_ok-refusal.ensures c.in_ok-is_refused.ensures.played.0)

pub tag_rows::tag_unset_row-returns-in_default-clause-played : goal.tag_rows::tag_unset_row-returns-in_default-clause-played
tag_rows::tag_unset_row-returns-in_default-clause-played g t c = row_stays _ _ (tag_unset_row-by (trees c.args.args.now) ∙ ap (by tag_unset) (sym c.in_default.ensures.value))

pub tag_rows::tag_unset_row-prepared-requires : goal.tag_rows::tag_unset_row-prepared-requires
tag_rows::tag_unset_row-prepared-requires g t c κs within = (search rules, (within, (c.requires.sound, (c.in-Some.ensures.honest c.args.evaluator.now.store c.requires.args, tt))))

pub tag_rows::tag_unset_row-returns-in_err-sides-clause-played : goal.tag_rows::tag_unset_row-returns-in_err-sides-clause-played
tag_rows::tag_unset_row-returns-in_err-sides-clause-played g t c =
    read_some tag_unset _ _ (tag_unset_row-by (trees c.args.args.now)) c.args.evaluator.now _ _ _ (sym c.in-Some.ensures.value) (row_exit prepared_side _ _ _ _ _ _ c.from_residual.ensures.1 c.in_err-sides.ensures.played)

pub tag_rows::tag_unset_row-unset_tagged-requires : goal.tag_rows::tag_unset_row-unset_tagged-requires
tag_rows::tag_unset_row-unset_tagged-requires g t c = record { sound = c.in_ok-sides.ensures.played.0.sound c.requires.sound; name = c.in-Some.ensures.name }

pub tag_rows::tag_unset_row-returns-clause-played : goal.tag_rows::tag_unset_row-returns-clause-played
tag_rows::tag_unset_row-returns-clause-played g t c =
    read_some tag_unset _ _ (tag_unset_row-by (trees c.args.args.now)) c.args.evaluator.now _ (Ok (Some c.in_ok-refusal.field-0)) c.unset_tagged.new.self (sym c.in-Some.ensures.value)
    (unset_given c.in-Some.name.now (plain c.in-Some.left.now) _ c.in_ok-is_taken.is_taken _ _ _ c.in_ok-refusal.field-0 c.in_ok-refusal.ensures c.in_ok-sides.ensures.played.0 c.in_ok-is_taken.ensures.played)

-- ---- left sides that are set

pub set_rows::set_one-set_message-requires : goal.set_rows::set_one-set_message-requires
set_rows::set_one-set_message-requires g t c = record { sound = c.requires.sound; name = c.in-Some.ensures.name; value = c.in-Some.ensures.value }

pub set_rows::set_one-returns-clause-played : goal.set_rows::set_one-returns-clause-played
set_rows::set_one-returns-clause-played g t c =
    let k = c.args.evaluator.now in
    let k1 = c.set_message.new.self in
    (subst (λ p. Plays p k (Ok tt) k1 false) (sym (text_set (plain c.args.left.now) (plain c.args.value.now) _ c.in-Some.text.now c.in-Some.ensures.text)) c.in_ok-set_message.ensures.played, tt)

pub set_rows::set_one-define-requires : goal.set_rows::set_one-define-requires
set_rows::set_one-define-requires g t c κs within = (omega arith, (within, (c.requires.sound, (c.requires.left, c.requires.value))))

pub set_rows::set_one-returns-in_err-_refused-clause-played : goal.set_rows::set_one-returns-in_err-_refused-clause-played
set_rows::set_one-returns-in_err-_refused-clause-played g t c =
    plain_stop (plain c.args.left.now) (plain c.args.value.now) c.args.evaluator.now c.define.new.evaluator c.from_residual.result _ c.in_default.ensures.text c.from_residual.ensures.1 c.in_err-_refused.ensures.played

pub set_rows::set_one-returns-in_default-clause-played : goal.set_rows::set_one-returns-in_default-clause-played
set_rows::set_one-returns-in_default-clause-played g t c =
    (plain_done (plain c.args.left.now) (plain c.args.value.now) c.args.evaluator.now c.define.new.evaluator c.in_ok-_refused._refused c.in_default.ensures.text c.in_ok-_refused.ensures.played.0, tt)

pub set_rows::set-returns-in_default-clause-played : goal.set_rows::set-returns-in_default-clause-played
set_rows::set-returns-in_default-clause-played g t c =
    subst (λ p. Played itself p c.args.evaluator.now c.set_one.result c.set_one.new.evaluator) (sym (set_single (plain c.args.left.now) (plain c.args.value.now) c.in_default.ensures.value)) c.set_one.ensures.played

pub set_rows::set-returns-in_default-same_shape-clause-played : goal.set_rows::set-returns-in_default-same_shape-clause-played
set_rows::set-returns-in_default-same_shape-clause-played g t c =
    let l = plain c.args.left.now in
    let v = plain c.args.value.now in
    (subst (λ p. Plays p c.args.evaluator.now (Ok tt) c.tell_shape.new.self false) (sym (set_shape l v c.in-Some.lefts.now None c.in-Some.ensures.value c.in_default-same_shape.ensures.value)) c.in_ok-tell_shape.ensures.played, tt)

pub set_rows::set-loop-i-init : goal.set_rows::set-loop-i-init
set_rows::set-loop-i-init g t c =
    let k = c.args.evaluator.now in
    let l = plain c.args.left.now in
    let v = plain c.args.value.now in
    let values = c.in-Some-same_shape.values.now in
    record {
      leads = λ r k2 o h. subst (λ p. Plays p k r k2 o) (sym (set_shape l v c.in-Some.lefts.now (Some (trees values)) c.in-Some.ensures.value c.in-Some-same_shape.ensures.value)) h;
      sound = c.requires.sound;
      lefts = c.in-Some.ensures.honest k.store c.requires.left;
      values = c.in-Some-same_shape.ensures.honest k.store c.requires.value;
      falls = omega arith;
      ticks = refl;
    }

pub set_rows::set-set-requires : goal.set_rows::set-set-requires
set_rows::set-set-requires g t c κs within =
    let l = c.loop-i in
    let lefts = c.in-Some.lefts.now in
    let values = c.in-Some-same_shape.values.now in
    let x = c.index-lefts-i.result in
    let d = element_depth lefts l.i x (omega arith) c.index-lefts-i.is in
    let p = ap depths (plains_trees lefts) in (
      omega (arith, d, p, c.in-Some.ensures.falls, l.invariant.falls),
      (within, (l.invariant.sound, (subst (Honest l.evaluator) (sym c.index-lefts-i.is) (l.invariant.lefts l.i x (omega arith)), subst (Honest l.evaluator) (sym c.index-values-i.is) (l.invariant.values l.i c.index-values-i.result (omega (arith, c.in-Some-same_shape.ensures.count)))))),
    )

pub set_rows::set-returns-in_err-set-clause-played : goal.set_rows::set-returns-in_err-set-clause-played
set_rows::set-returns-in_err-set-clause-played g t c =
    let l = c.loop-i in
    leads_out itself itself _ _ _ _ _ _ _ _ _ l.invariant.leads
    (set_at c.in-Some.lefts.now c.in-Some-same_shape.values.now l.i c.index-lefts-i.result c.index-values-i.result (omega arith) c.in-Some-same_shape.ensures.count c.index-lefts-i.is c.index-values-i.is) c.from_residual-in_err-set.ensures.1 c.in_err-set.ensures.played

pub set_rows::set-loop-i-preserved : goal.set_rows::set-loop-i-preserved
set_rows::set-loop-i-preserved g t c =
    let l = c.loop-i in
    let h = c.in_ok-set.ensures.played.0 in
    record {
      leads = set_step c.in-Some.lefts.now c.in-Some-same_shape.values.now l.i c.index-lefts-i.result c.index-values-i.result (omega arith) c.in-Some-same_shape.ensures.count c.index-lefts-i.is c.index-values-i.is l.invariant.leads h;
      sound = h.sound l.invariant.sound;
      lefts = all_later h _ l.invariant.lefts;
      values = all_later h _ l.invariant.values;
      falls = omega (arith, c.in_ok-set.ensures.falls, l.invariant.falls);
      ticks = cc;
    }

pub set_rows::set-returns-clause-played : goal.set_rows::set-returns-clause-played
set_rows::set-returns-clause-played g t c = (set_over c.in-Some.lefts.now c.in-Some-same_shape.values.now c.loop-i.i (omega arith) c.loop-i.invariant.leads, tt)

-- ---- rows that give a symbol a new value

pub update_rows::changing-returns-in_err-old-clause-played : goal.update_rows::changing-returns-in_err-old-clause-played
update_rows::changing-returns-in_err-old-clause-played g t c =
    let a = c.args in
    changing_stop (λ o v. kept_value a.keeps_old o v) (λ o. updated a.update o (plain a.by.now)) (plain a.subject.now) a.evaluator.now _ _ _ c.from_residual.ensures.1 c.in_err-old.ensures.played

pub update_rows::changing-returns-then-same-clause-played : goal.update_rows::changing-returns-then-same-clause-played
update_rows::changing-returns-then-same-clause-played g t c =
    let a = c.args in
    let o = plain c.in_ok-old.old in
    changing_none (λ o v. kept_value a.keeps_old o v) (λ o. updated a.update o (plain a.by.now)) (plain a.subject.now) a.evaluator.now o _ c.in_ok-old.ensures.played.0 (sym (same_answer c.same.result o (plain a.subject.now) c.same.ensures) ∙ c.if-same.true)

pub update_rows::changing-of_made-assignment-requires : goal.update_rows::changing-of_made-assignment-requires
update_rows::changing-of_made-assignment-requires g t c = ascii_is_name (codes "Set") refl

pub update_rows::changing-value_of_built-requires : goal.update_rows::changing-value_of_built-requires
update_rows::changing-value_of_built-requires g t c κs within =
    let h = c.in_ok-old.ensures.played in
    let s = c.value_of.new.evaluator.store in
    (search rules, (within, (h.0.sound c.requires.sound, c.of_made-assignment.ensures.honest s (later h.0 _ c.requires.subject) (c.updated-made.ensures.honest s h.1.0 (later h.0 _ c.requires.by)))))

pub update_rows::changing-returns-in_err-new-clause-played : goal.update_rows::changing-returns-in_err-new-clause-played
update_rows::changing-returns-in_err-new-clause-played g t c =
    let a = c.args in
    let o = plain c.in_ok-old.old in
    let s = sym (same_answer c.same.result o (plain a.subject.now) c.same.ensures) ∙ c.if-same.false in
    new_stop (λ o v. kept_value a.keeps_old o v) (λ o. updated a.update o (plain a.by.now)) (plain a.subject.now) a.evaluator.now o _ c.in_ok-old.ensures.played.0 _ _ _ c.from_residual-in_err-new.ensures.1 s
    (c.in_err-new.ensures.played _ (c.of_made-assignment.ensures.made _ c.updated-made.ensures.made))

pub update_rows::changing-returns-clause-played : goal.update_rows::changing-returns-clause-played
update_rows::changing-returns-clause-played g t c =
    let a = c.args in
    let old = c.in_ok-old.old in
    let o = plain old in
    let new = c.in_ok-new.new in
    let h = c.in_ok-old.ensures.played in
    let v = c.in_ok-new.ensures.played _ (c.of_made-assignment.ensures.made _ c.updated-made.ensures.made) in
    let s = sym (same_answer c.same.result o (plain a.subject.now) c.same.ensures) ∙ c.if-same.false in
    let e = c.chosen.result in
    new_given (λ o v. kept_value a.keeps_old o v) (λ o. updated a.update o (plain a.by.now)) (plain a.subject.now) a.evaluator.now o _ h.0 (plain new) e c.value_of_built.new.evaluator s v.0
    (chosen_is a.keeps_old old new e c.chosen.ensures.same) c.chosen.ensures.fits (chosen_honest c.value_of_built.new.evaluator a.keeps_old old new e c.chosen.ensures.same (later v.0 _ h.1.0) v.1.0)

pub update_rows::update_row-returns-in_default-clause-played : goal.update_rows::update_row-returns-in_default-clause-played
update_rows::update_row-returns-in_default-clause-played g t c =
    let new : Tree → Tree → Tree = λ o v. updated c.args.update o v in
    row_stays _ _ (changing_by-by new (trees c.args.args.now) ∙ ap (by (changed_both new)) (sym c.in_default.ensures.value))

pub update_rows::update_row-changing-requires : goal.update_rows::update_row-changing-requires
update_rows::update_row-changing-requires g t c κs within = (search rules, (within, (c.requires.sound, c.in-Some.ensures.honest c.args.evaluator.now.store c.requires.args)))

pub update_rows::update_row-returns-clause-played : goal.update_rows::update_row-returns-clause-played
update_rows::update_row-returns-clause-played g t c =
    let new : Tree → Tree → Tree = λ o v. updated c.args.update o v in
    read_some (changed_both new) _ _ (changing_by-by new (trees c.args.args.now)) c.args.evaluator.now _ _ _ (sym c.in-Some.ensures.value) c.changing.ensures.played

pub update_rows::step_row-returns-in_default-clause-played : goal.update_rows::step_row-returns-in_default-clause-played
update_rows::step_row-returns-in_default-clause-played g t c =
    let keep : Tree → Tree → Tree = λ o v. kept_value c.args.keeps_old o v in
    let v = one c.args.is_negative in
    row_stays _ _ (stepping-by keep v (trees c.args.args.now) ∙ ap (by (λ x. definitions.changing keep (λ o. definitions.plus o v) x)) (sym c.in_default.ensures.value))

pub update_rows::step_row-changing-requires : goal.update_rows::step_row-changing-requires
update_rows::step_row-changing-requires g t c κs within =
    let s = c.args.evaluator.now.store in
    (search rules, (within, (c.requires.sound, (c.in-Some.ensures.honest s c.requires.args, c.in_ok-by.ensures.honest s))))

pub update_rows::step_row-returns-clause-played : goal.update_rows::step_row-returns-clause-played
update_rows::step_row-returns-clause-played g t c =
    let keep : Tree → Tree → Tree = λ o v. kept_value c.args.keeps_old o v in
    let v = one c.args.is_negative in
    read_some (λ x. definitions.changing keep (λ o. definitions.plus o v) x) _ _ (stepping-by keep v (trees c.args.args.now)) c.args.evaluator.now _ _ _ (sym c.in-Some.ensures.value)
    (subst (λ z. Played found_tree (sized_row (definitions.changing keep (λ o. definitions.plus o z) (plain c.in-Some.subject.now))) c.args.evaluator.now c.changing.result c.changing.new.evaluator) c.in_ok-by.ensures.value c.changing.ensures.played)

-- ---- the rest of the rows of matches

pub match_rows::free_row-returns-in_default-clause-played : goal.match_rows::free_row-returns-in_default-clause-played
match_rows::free_row-returns-in_default-clause-played g t c = pair_stays match_rows.free_row c.args.args.now c.args.evaluator.now c.in_default.ensures refl (λ x. refl) (λ x y z ts. refl)

pub match_rows::free_row-any_part-requires : goal.match_rows::free_row-any_part-requires
match_rows::free_row-any_part-requires g t c κs within =
    let h = pair_honest c.args.evaluator.now c.args.args.now c.in-Some.e.now c.in-Some.p.now c.in-Some.ensures c.requires.args in
    (omega (arith, c.depth-depth.ensures.fits.shallow), (within, (c.requires.sound, (h.1, h.0))))

pub match_rows::free_row-returns-in_err-found-clause-played : goal.match_rows::free_row-returns-in_err-found-clause-played
match_rows::free_row-returns-in_err-found-clause-played g t c =
    pair_row found_tree match_rows.free_row c.args.args.now c.in-Some.e.now c.in-Some.p.now _ _ _ c.in-Some.ensures (row_exit itself _ _ _ _ _ _ c.from_residual.ensures.1 c.in_err-found.ensures.played)

pub match_rows::free_row-returns-clause-played : goal.match_rows::free_row-returns-clause-played
match_rows::free_row-returns-clause-played g t c =
    pair_row found_tree match_rows.free_row c.args.args.now c.in-Some.e.now c.in-Some.p.now c.args.evaluator.now (Ok (Some c.in_ok-truth.field-0)) c.any_part.new.evaluator c.in-Some.ensures (row_truth _ not _ _ c.in_ok-found.found c.in_ok-truth.field-0 c.in_ok-found.ensures.played.0 c.in_ok-truth.ensures)
