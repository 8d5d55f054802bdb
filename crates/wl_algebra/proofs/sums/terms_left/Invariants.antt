use Rattle.std.proofs.Common.{◌≡◌, ◌++◌, List, drop}
use Rattle.wl_expr.specs.Stamped.{Stamped}
use Rattle.wl_algebra.specs.Answers.{AllFrom, trees}
use Rattle.wl_algebra.specs.Sums.{terms_left}
use Rattle.wl_algebra.specs.SumsInside.{EntriesFrom, entry_terms}
use Rattle.wl_algebra.proofs.sums.terms_left.Given as goal

abbrev pub invariant-loop-at : goal.invariant-loop-at
invariant-loop-at l = record {
  value : trees l.left.items ++ terms_left (entry_terms (drop l.at l.terms.entries)) ≡ terms_left (entry_terms l.terms.entries);
  passed : (ms : List Stamped) → EntriesFrom ms l.terms.entries → AllFrom ms l.left.items;
}
