use Rattle.std.proofs.Common.{◌≡◌, drop}
use Rattle.std.specs.List.{list_all}
use Rattle.wl_expr.specs.Words.{is_text}
use Rattle.wl_lists.specs.Answers.{trees}
use Rattle.wl_lists.proofs.strings.are_texts.Given as goal

abbrev pub invariant-loop-arg : goal.invariant-loop-arg
invariant-loop-arg l = list_all is_text (trees l.args) ≡ list_all is_text (trees (drop l.arg-index l.args))
