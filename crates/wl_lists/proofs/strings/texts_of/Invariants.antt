use Rattle.std.proofs.Common.{◌≡◌, ◌++◌, List, drop}
use Rattle.wl_expr.specs.Stamped.{Stamped}
use Rattle.wl_lists.specs.Answers.{AllFrom, trees}
use Rattle.wl_lists.specs.Strings.{character_texts}
use Rattle.wl_lists.proofs.strings.texts_of.Given as goal

abbrev pub invariant-loop-c : goal.invariant-loop-c
invariant-loop-c l = record {
  value : character_texts l.cs ≡ trees l.all.items ++ character_texts (drop l.c-index l.cs);
  passed : (ms : List Stamped) → AllFrom ms l.all.items;
}
