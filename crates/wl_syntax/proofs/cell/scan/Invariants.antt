use Rattle.std.proofs.Common.{length}
use Rattle.wl_scan.specs.Tokens.{scanned}
use Rattle.wl_syntax.proofs.Scans.{Taken}
use Rattle.wl_syntax.proofs.cell.scan.Given as goal

abbrev pub invariant-loop-found : goal.invariant-loop-found
invariant-loop-found l = Taken (scanned l.text) l.tokens l.lexemes.items

abbrev pub decreases-loop-found : goal.decreases-loop-found
decreases-loop-found l = length l.tokens.tokens
