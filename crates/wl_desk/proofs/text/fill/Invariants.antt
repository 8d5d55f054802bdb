use Rattle.std.proofs.Common.{◌≡◌, ◌++◌, map, string_bytes, length}
use denote.Text.{Utf8}
use denote.Shadow.{shadow}
use Rattle.wl_expr.specs.Stamped.{plain}
use Rattle.wl_desk.specs.MessageText.{filled_text}
use Rattle.wl_desk.proofs.text.fill.Given as goal

-- what is there, and what the rest will add
abbrev pub invariant-loop-before : goal.invariant-loop-before
invariant-loop-before l = record {
  utf8 : shadow (Utf8 l.rest);
  filled : string_bytes l.out ++ filled_text l.rest (map plain l.args) ≡ string_bytes l.initial.out ++ filled_text l.initial.rest (map plain l.args);
}

abbrev pub decreases-loop-before : goal.decreases-loop-before
decreases-loop-before l = length l.rest
