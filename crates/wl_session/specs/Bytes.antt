-- The bytes that a new session gives for some cells; a form of it that computes.
use Rattle.std.specs.Prelude.{List}
use Rattle.std.specs.Fmt.{digits}
use Rattle.wl_semantics.specs.Prog.{◌>>=◌, ended, now, end_of, entry_of, tick, ticks, doing, asking, sized, or_else, attributes_of, is_protected}
use Rattle.wl_semantics.specs.Effects.{acted}
use Rattle.wl_semantics.specs.Eval.{Eval, Turns, turns_at, interp}
use Rattle.wl_semantics.specs.Scoping.{initials, set_locals, blocked, take_all, set_all, give_all}
use Rattle.wl_semantics.specs.Match.{flags_of, walk, each_applies, test_holds, tests_hold, matches_within, guard_within, trial}
use Rattle.wl_semantics.specs.Elements.{evaluated_on}
use Rattle.wl_semantics.specs.Definitions.{evaluated_core, define_tags, set, set_each}
use Rattle.wl_semantics.specs.EntryRows.{clear_each, change_each}
use Rattle.wl_semantics.specs.BuiltIn.{row}
use Rattle.wl_semantics.specs.Control.{played}
use Rattle.wl_semantics.specs.Turn.{up_result, turn}
use Rattle.wl_expr.specs.Words.{Bytes}
use Rattle.wl_form.specs.Heads.{row_of}
use Rattle.wl_session.specs.Answers.{answer_to, answers, new_session}
use Rattle.wl_session.specs.Reading.{Reading}
use Rattle.wl_session.specs.declared.options.Options.{Options}

unfoldable pub bytes_of : Options → List Reading → Bytes
unfolding ◌>>=◌ ended now end_of entry_of tick ticks doing asking sized or_else attributes_of is_protected acted Eval Turns turns_at interp initials set_locals blocked take_all set_all give_all flags_of walk each_applies test_holds tests_hold matches_within guard_within trial evaluated_on evaluated_core define_tags set set_each clear_each change_each played row up_result turn row_of digits answer_to
bytes_of o rs = answers (new_session o) rs
