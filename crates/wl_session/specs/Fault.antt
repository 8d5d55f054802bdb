-- The line that says why a cell is refused.
use Rattle.std.specs.Prelude.{ℕ, List, [], ◌++◌, codes}
use Rattle.std.specs.Fmt.{decimal}
use Rattle.wl_scan.specs.declared.token.ScanKind.{ScanKind}
use Rattle.wl_scan.specs.declared.token.ScanKind.TheVariants.{Real, LongNumber, BadChar, BadEscape, OpenString, OpenComment, Base, Digit}
use Rattle.wl_scan.specs.declared.token.ScanFault.{ScanFault}
use Rattle.wl_syntax.specs.declared.fault.SyntaxFault.{SyntaxFault}
use Rattle.wl_syntax.specs.declared.fault.SyntaxFault.TheVariants as syntax
use Rattle.wl_session.specs.declared.fault.LineFault.{LineFault}
use Rattle.wl_session.specs.declared.fault.LineFault.TheVariants.{TooLong, Syntax}

abbrev pub scan_text : ScanKind → List ℕ
scan_text Real = codes "Refused: real number"
scan_text LongNumber = codes "Refused: number past 127 bits"
scan_text BadChar = codes "Refused: character"
scan_text BadEscape = codes "Refused: escape"
scan_text OpenString = codes "Refused: open string"
scan_text OpenComment = codes "Refused: open comment"
scan_text Base = codes "Refused: base"
scan_text Digit = codes "Refused: digit"

-- a text, and the place that it speaks of
abbrev pub place_line : List ℕ → ℕ → List ℕ
place_line text at = text ++ codes " at byte " ++ decimal at ++ codes "."

abbrev pub scan_line : ScanFault → List ℕ
scan_line fault = place_line (scan_text fault.kind) fault.at

-- Want of memory has no line: it ends the run.
abbrev pub syntax_line : SyntaxFault → List ℕ
syntax_line syntax.NotUtf8 = codes "Refused: not UTF-8."
syntax_line (syntax.Scan fault) = scan_line fault
syntax_line syntax.Unclosed = codes "Refused: unfinished input."
syntax_line (syntax.Unexpected at) = place_line (codes "Refused: unexpected input") at
syntax_line syntax.TooDeep = codes "Refused: nested deeper than 400."
syntax_line syntax.Memory = []

abbrev pub too_long_line : List ℕ
too_long_line = codes "Refused: cell longer than 131072 bytes."

abbrev pub fault_line : LineFault → List ℕ
fault_line TooLong = too_long_line
fault_line (Syntax fault) = syntax_line fault
